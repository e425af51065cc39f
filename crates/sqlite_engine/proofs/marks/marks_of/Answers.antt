use Rattle.std.proofs.Common.{◌-◌, ◌^◌, ◌<◌, IsTrue, ap, subst, ◌∙◌, rules}
use Rattle.sqlite_files.specs.Recording.{Recorded}
use Rattle.sqlite_engine.specs.declared.marks.Marks.{Marks}
use Rattle.sqlite_engine.specs.Marking.{IsMarked}
use Rattle.sqlite_engine.specs.Settling.{files_beneath}
use Rattle.sqlite_engine.proofs.Marking.{marked_now, some_is}
use Rattle.sqlite_engine.proofs.marks.marks_of.Goals as goal

pub returns : goal.returns
returns c it is =
    let told : IsTrue c.are_told.result = search rules in
    let main_low : c.writes-main.result < 2 ^ 64 - 1 = search rules in
    let side_low : c.writes-side.result < 2 ^ 64 - 1 = search rules in
    subst (λ (m : Marks). IsMarked (files_beneath c.args.conn.now) m c.args.conn.now) (some_is _ _ is)
    (marked_now c.args.conn.now (record { main = c.writes-main.result; side = c.writes-side.result }) (c.are_told.ensures told)
    (c.writes-main.ensures ∙ ap (λ (r : Recorded). r.writes) c.main_of.ensures)
    (c.writes-side.ensures ∙ ap (λ (r : Recorded). r.writes) c.log_of.ensures) main_low side_low)
