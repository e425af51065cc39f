use Rattle.node_core.proofs.RaftExactly.{brings_is, brings_nothing, brings_so, puts_is, puts_nothing}
use Rattle.node_core.specs.Core.{core_of}
use Rattle.std.proofs.Common.{option_map, sym, ap, subst, ◌∙◌}
use Rattle.std.specs.Prelude.{None}
use Rattle.applied_state.specs.Snapshot.{IsRestoredIf, snapshot_value}
use Rattle.node_core.proofs.Installed.{lost_other}
use Rattle.node_core.proofs.running.Running.offered.Goals as goal

pub returns-in_default-what-clause-offer : goal.returns-in_default-what-clause-offer
returns-in_default-what-clause-offer c = lost_other c.args.self.now c.in-Message.message c.args.event.now c.in-Message.is (sym c.takes_snapshot.ensures ∙ c.if-not-takes_snapshot.false) c.in_default-what.not-Install

pub returns-in_default-clause-exact : goal.returns-in_default-clause-exact
returns-in_default-clause-exact c = puts_nothing c.args.event.now (core_of c.args.self.now) c.in_default.not-Message

pub returns-then-not-takes_snapshot-clause-exact : goal.returns-then-not-takes_snapshot-clause-exact
returns-then-not-takes_snapshot-clause-exact c =
    puts_is c.args.self.now c.args.event.now c.in-Message.message _ c.requires.going.holds.replica c.in-Message.is c.takes_snapshot.ensures ∙ c.if-not-takes_snapshot.true

pub returns-in_default-what-clause-exact : goal.returns-in_default-what-clause-exact
returns-in_default-what-clause-exact c = (
  puts_is c.args.self.now c.args.event.now c.in-Message.message _ c.requires.going.holds.replica c.in-Message.is c.takes_snapshot.ensures ∙ c.if-not-takes_snapshot.false,
  brings_nothing c.args.event.now c.in-Message.message (core_of c.args.self.now) c.in-Message.is c.in_default-what.not-Install,
)

pub returns-in-Some-clause-exact : goal.returns-in-Some-clause-exact
returns-in-Some-clause-exact c =
    brings_so c.args.self.now c.args.event.now c.in-Message.message c.in-Install.snapshot _ c.in-Some.applied c.requires.going.holds.replica c.in-Message.is c.in-Install.is c.as_slice-bytes.ensures
    (puts_is c.args.self.now c.args.event.now c.in-Message.message _ c.requires.going.holds.replica c.in-Message.is c.takes_snapshot.ensures ∙ c.if-not-takes_snapshot.false)
    (ap (option_map snapshot_value) (sym c.in-Some.is) ∙ c.in_ok-applied.ensures.exact) (subst (IsRestoredIf _ _) c.in-Some.is c.in_ok-applied.ensures.found)

pub returns-in-None-clause-exact : goal.returns-in-None-clause-exact
returns-in-None-clause-exact c = (
  puts_is c.args.self.now c.args.event.now c.in-Message.message _ c.requires.going.holds.replica c.in-Message.is c.takes_snapshot.ensures ∙ c.if-not-takes_snapshot.false,
  brings_is c.args.self.now c.args.event.now c.in-Message.message c.in-Install.snapshot _ None c.in-Message.is c.in-Install.is c.as_slice-bytes.ensures (ap (option_map snapshot_value) (sym c.in-None.is) ∙ c.in_ok-applied.ensures.exact),
)
