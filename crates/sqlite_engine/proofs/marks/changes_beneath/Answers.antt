use Rattle.std.proofs.Common.{◌≡◌, Some, ap, ◌∙◌, rules}
use Rattle.sqlite_store.specs.FileStore.{files}
use Rattle.sqlite_files.specs.Recording.{Recorded}
use Rattle.sqlite_engine.proofs.Marking.{recorded_by}
use Rattle.sqlite_engine.proofs.marks.changes_beneath.Goals as goal

pub changes_since-requires-clause-main : goal.changes_since-requires-clause-main
changes_since-requires-clause-main c =
    let is : c.args.marks ≡ Some c.in-Some.marks = search rules in
    recorded_by c.args.base.now.main _ _ _ c.in-Some.marks.main (files c.args.conn.now.store).1
    (c.touched-main.ensures.bytes ∙ ap (λ (r : Recorded). r.after) c.main_of-main.ensures)
    (c.touched-main.ensures.stamps ∙ ap (λ (r : Recorded). r.stamps) c.main_of-main.ensures) c.touched-main.ensures.mark (c.requires c.in-Some.marks is).main

pub changes_since-requires-clause-side : goal.changes_since-requires-clause-side
changes_since-requires-clause-side c =
    let is : c.args.marks ≡ Some c.in-Some.marks = search rules in
    recorded_by c.args.base.now.side _ _ _ c.in-Some.marks.side (files c.args.conn.now.store).0
    (c.touched-side.ensures.bytes ∙ ap (λ (r : Recorded). r.after) c.log_of-side.ensures)
    (c.touched-side.ensures.stamps ∙ ap (λ (r : Recorded). r.stamps) c.log_of-side.ensures) c.touched-side.ensures.mark (c.requires c.in-Some.marks is).side
