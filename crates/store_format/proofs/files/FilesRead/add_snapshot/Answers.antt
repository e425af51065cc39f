use Rattle.std.proofs.Common.{◌∙◌}
use Rattle.store_format.proofs.Newer.{taken, not_taken}
use Rattle.store_format.proofs.files.FilesRead.add_snapshot.Goals as goal

pub returns-in-None : goal.returns-in-None
returns-in-None c = not_taken c.args.self.now c.args.number c.snapshot_index.result c.args.file.items c.as_slice.result.now c.newer_in.result c.newer_in.ensures c.in-None.is c.as_slice.ensures.value c.snapshot_index.ensures.index

pub returns-in_ok-new-in-Some : goal.returns-in_ok-new-in-Some
returns-in_ok-new-in-Some c =
    taken c.args.self.now _ _ _ c.args.number c.snapshot_index.result c.args.file.items c.as_slice.result.now c.in_ok-new-in-Some.field-0 c.newer_in.result (c.in-Some.term, c.in-Some.size) c.self.view_is c.newer_in.ensures c.in-Some.is c.as_slice.ensures.value c.snapshot_index.ensures.index
    (c.in_ok-new-in-Some.ensures ∙ c.new-bytes.ensures ∙ c.into_state.ensures)
