use Rattle.std.proofs.Common.{List, subst}
use Rattle.std.specs.Prelude.{IfOk}
use Rattle.database_state.specs.declared.database.Database.{Database}
use Rattle.database_state.specs.Pins.{ShowsNewest, StillPinned}
use Rattle.database_state.proofs.Short.{pin_short}
use Rattle.database_state.proofs.Acting.{pin_after_machine, pin_after_pinned, pin_after_shows}
use Rattle.database_state.proofs.machine.Machine.pin.Goals as goal

pub invariant_of-self : goal.invariant_of-self
invariant_of-self c = (
  pin_after_machine c.pin_named.result c.args.name.now c.self.inside.databases.items c.pin_named.new.databases.items c.self.invariant.0 c.pin_named.ensures.done c.pin_named.ensures.kept,
  pin_short c.pin_named.result c.args.name.now c.self.inside.databases.items c.pin_named.new.databases.items c.self.invariant.1 c.pin_named.ensures.done c.pin_named.ensures.kept,
)

pub returns-clause-shows : goal.returns-clause-shows
returns-clause-shows c =
    subst (λ (ds : List Database). IfOk c.pin_named.result (ShowsNewest c.args.name.now ds c.pin_named.new.databases.items)) c.self.view_is
    (pin_after_shows c.pin_named.result c.args.name.now c.self.inside.databases.items c.pin_named.new.databases.items c.self.invariant.0 c.pin_named.ensures.done)

pub returns-clause-shown : goal.returns-clause-shown
returns-clause-shown c other =
    subst (λ (ds : List Database). StillPinned ds c.pin_named.new.databases.items other) c.self.view_is
    (pin_after_pinned c.pin_named.result c.args.name.now c.self.inside.databases.items c.pin_named.new.databases.items c.self.invariant.0 c.pin_named.ensures.done c.pin_named.ensures.kept other)
