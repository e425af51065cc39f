use Rattle.std.proofs.Common.{List, sym, subst}
use Rattle.database_state.specs.declared.database.Database.{Database}
use Rattle.database_state.specs.Machines.{IsMachine, AllShort}
use Rattle.database_state.specs.Pins.{IsPinned, StillPinned}
use Rattle.database_state.proofs.Short.{release_short}
use Rattle.database_state.proofs.Acting.{release_machine, release_pinned}
use Rattle.database_state.proofs.machine.Machine.release.Goals as goal

pub invariant_of-self : goal.invariant_of-self
invariant_of-self c = (
  subst IsMachine (sym c.release_pin.ensures) (release_machine c.args.pin c.self.inside.databases.items c.self.invariant.0),
  subst AllShort (sym c.release_pin.ensures) (release_short c.args.pin c.self.inside.databases.items c.self.invariant.1),
)

pub returns-clause-shown : goal.returns-clause-shown
returns-clause-shown c other apart =
    subst (λ (ds : List Database). StillPinned ds c.release_pin.new.databases.items other) c.self.view_is
    (subst (λ (ds : List Database). StillPinned c.self.inside.databases.items ds other) (sym c.release_pin.ensures) (release_pinned c.args.pin c.self.inside.databases.items (subst (λ (ds : List Database). IsPinned ds c.args.pin) (sym c.self.view_is) c.requires) other apart))
