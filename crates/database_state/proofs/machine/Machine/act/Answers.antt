use Rattle.std.proofs.Common.{◌≡◌, List, subst}
use Rattle.std.specs.Prelude.{OnOk}
use Rattle.database_state.specs.declared.database.Database.{Database}
use Rattle.database_state.specs.Files as files
use Rattle.database_state.specs.Databases.{contents_of}
use Rattle.database_state.specs.Pins.{StillPinned}
use Rattle.database_state.proofs.Acting.{machine_after, pinned_after}
use Rattle.database_state.proofs.Contents.{shown_after}
use Rattle.database_state.proofs.Short.{short_after}
use Rattle.database_state.proofs.machine.Machine.act.Goals as goal

pub invariant_of-self : goal.invariant_of-self
invariant_of-self c = (
  machine_after c.act_on.result c.self.inside.databases.items c.act_on.new.databases.items c.args.command.now c.requires c.self.invariant.0 c.act_on.ensures.ok c.act_on.ensures.kept,
  short_after c.act_on.result c.self.inside.databases.items c.act_on.new.databases.items c.act_on.ensures.short c.act_on.ensures.kept c.self.invariant.1,
)

pub returns-clause-files : goal.returns-clause-files
returns-clause-files c =
    subst (λ (ds : List Database). OnOk c.act_on.result (contents_of c.act_on.new.databases.items ≡ files.act (contents_of ds) c.args.command.now)) c.self.view_is
    (shown_after c.act_on.result c.self.inside.databases.items c.act_on.new.databases.items c.args.command.now c.act_on.ensures.ok)

pub returns-clause-shown : goal.returns-clause-shown
returns-clause-shown c pin =
    subst (λ (ds : List Database). StillPinned ds c.act_on.new.databases.items pin) c.self.view_is
    (pinned_after c.act_on.result c.self.inside.databases.items c.act_on.new.databases.items c.args.command.now c.requires c.self.invariant.0 c.act_on.ensures.ok c.act_on.ensures.kept pin)
