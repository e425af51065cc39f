use Rattle.std.proofs.Common.{List, subst}
use Rattle.disk_model.specs.Trait.{Text}
use Rattle.segment_store.specs.Listed.{SortedOut}
use Rattle.segment_store.proofs.LoadLists.{all_listed}
use Rattle.segment_store.proofs.LoadSees.{looks_ok}
use Rattle.segment_store.proofs.loading.list.list_files.Goals as goal

pub returns-clause-told : goal.returns-clause-told
returns-clause-told g c =
    let sorted : SortedOut c.in_ok-names.names c.in_ok-list.list = subst (λ (x : List Text). SortedOut x c.in_ok-list.list) c.as_slice.ensures c.in_ok-list.ensures in
    looks_ok _ _ _ _ _ _ c.in_ok-names.ensures.told (λ d ls. all_listed d c.in_ok-names.names c.in_ok-list.list ls sorted)
