use Rattle.std.proofs.Common.{Option, sym, subst}
use Rattle.database_state.specs.Pins.{Pinning}
use Rattle.session_table.specs.Table.{mark_of}
use Rattle.session_table.specs.Marks.{Released}
use Rattle.session_table.proofs.Releasing.{released_one}
use Rattle.session_table.proofs.sweep.release_pin.Goals as goal

pub returns-in-Some : goal.returns-in-Some
returns-in-Some c = subst (λ (pin : Option Pinning). Released (mark_of pin) c.args.machine.now c.release.new.self) (sym c.in-Some.is)
    (released_one c.in-Some.pin c.args.machine.now c.release.new.self c.release.ensures.done c.release.ensures.shown)
