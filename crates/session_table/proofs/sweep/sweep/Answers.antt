use Rattle.std.proofs.Common.{List, sym, subst}
use Rattle.session_table.specs.declared.session.Session.{Session}
use Rattle.session_table.specs.Table.{pins_of}
use Rattle.session_table.specs.Marks.{AreMarks}
use Rattle.session_table.specs.Working.{works_of, AreAmong}
use Rattle.session_table.proofs.Parting.{marks_left}
use Rattle.session_table.proofs.Works.{kept_among}
use Rattle.session_table.proofs.sweep.sweep.Goals as goal

pub returns-clause-marks_after : goal.returns-clause-marks_after
returns-clause-marks_after c = subst (λ (ss : List Session). AreMarks (pins_of ss) c.walk.new.machine) (sym c.walk.ensures.kept)
    (marks_left c.args.event c.args.sessions.now.items c.args.machine.now c.walk.new.machine c.requires.marks c.walk.ensures.freed)

pub returns-clause-works : goal.returns-clause-works
returns-clause-works c = subst (λ (ss : List Session). AreAmong (works_of c.args.sessions.now.items) (works_of ss)) (sym c.walk.ensures.kept) (kept_among c.args.event c.args.sessions.now.items)
