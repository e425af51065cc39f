use Rattle.std.proofs.Common.{List, ap, ◌∙◌}
use Rattle.page_store.specs.Store.{Store, released}
use Rattle.database_state.specs.declared.database.Database.{Database}
use Rattle.database_state.specs.ByName.{FirstAt}
use Rattle.database_state.specs.Databases.{with_store}
use Rattle.database_state.specs.Pins.{Pinning, has_place}
use Rattle.database_state.proofs.First.{first_put}
use Rattle.database_state.proofs.readers.release_pin.Goals as goal

pub returns : goal.returns
returns c =
    let xs : List Database = c.args.databases.now.items in
    let x : Database = c.index_mut-database.result.now in
    let test = has_place c.args.pin.place in
    let first : FirstAt test xs c.pinned_place-place.result = rw c.as_slice.ensures.value at c.pinned_place-place.ensures.first in
    first_put test (λ d. with_store (released d.store c.args.pin.mark) d) xs c.pinned_place-place.result x _ first c.index_mut-database.ensures.value (ap (λ (s : Store). with_store s x) (c.release.ensures.done ∙ ap (λ (p : Pinning). released x.store p.mark) c.pin.view_is))
