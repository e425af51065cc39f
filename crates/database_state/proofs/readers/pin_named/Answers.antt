use Rattle.std.proofs.Common.{◌≡◌, ℕ, List, Some, ap, sym, subst, refl, ◌∙◌}
use Rattle.page_store.specs.Store.{Store, IsLive, image_under, newest_image, pinned}
use Rattle.database_state.specs.declared.database.Database.{Database}
use Rattle.database_state.specs.ByName.{FirstAt}
use Rattle.database_state.specs.Databases.{has_name, with_store}
use Rattle.database_state.proofs.First.{first_put}
use Rattle.database_state.proofs.readers.pin_named.Goals as goal

pub returns-clause-done : goal.returns-clause-done
returns-clause-done c =
    let xs : List Database = c.args.databases.now.items in
    let x : Database = c.index_mut-database.result.now in
    let mark : ℕ = c.in_ok-mark.mark in
    let test = has_name c.args.name.now in
    let first : FirstAt test xs c.in-Some.place = rw c.as_slice.ensures.value at c.in-Some.ensures in
    let done : c.pin.new.self ≡ pinned x.store mark = c.in_ok-mark.ensures.done in
    record {
      database = x;
      is = first.found x ∙ ap (λ (d : Database). Some d) (sym c.index_mut-database.ensures.value);
      place = refl;
      was_free = c.in_ok-mark.ensures.was_free;
      room = c.in_ok-mark.ensures.room;
      live = subst (λ (s : Store). IsLive s mark) done c.in_ok-mark.ensures.shows.0;
      shows = subst (λ (s : Store). image_under s mark ≡ newest_image x.store) done c.in_ok-mark.ensures.shows.1;
      now = first_put test (λ d. with_store (pinned d.store mark) d) xs c.in-Some.place x _ first c.index_mut-database.ensures.value (ap (λ (s : Store). with_store s x) done);
    }
