use Rattle.std.proofs.Common.{List, subst}
use Rattle.disk_model.specs.Trait.{Text}
use Rattle.segment_store.proofs.LoadSees.{looks_ok}
use Rattle.folder_tail.specs.Last.{IsGreatest}
use Rattle.folder_tail.proofs.Greatest.{last_file}
use Rattle.folder_tail.proofs.folder.last_segment.Goals as goal

pub returns-clause-told : goal.returns-clause-told
returns-clause-told g c =
    let greatest : IsGreatest c.in_ok-names.names c.in_ok-file.file = subst (λ (x : List Text). IsGreatest x c.in_ok-file.file) c.as_slice.ensures c.in_ok-file.ensures in
    looks_ok _ _ _ _ _ _ c.in_ok-names.ensures.told (λ d ls. last_file d c.in_ok-names.names c.in_ok-file.file ls greatest)
