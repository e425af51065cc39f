use Rattle.std.proofs.Common.{◌≡◌, true, false, sym, subst}
use Rattle.node_core.specs.declared.running.Running.{Running}
use Rattle.node_core.specs.Core.{core_of, serving_from}
use Rattle.node_core.proofs.CoreEntries.{serves_not, serves_already, serves_now}
use Rattle.node_core.proofs.running.Running.begin_service.Goals as goal

pub returns-then-not-serves-clause-exact : goal.returns-then-not-serves-clause-exact
returns-then-not-serves-clause-exact c = serves_not c.args.self.now c.args.serves c.if-not-serves.true

pub returns-then-self-clause-exact : goal.returns-then-self-clause-exact
returns-then-self-clause-exact c = serves_already c.args.self.now c.args.serves (subst (λ (n : Running). n.view.serving ≡ true) c.self.view_is c.if-self.true)

pub returns-then-is_settled-clause-exact : goal.returns-then-is_settled-clause-exact
returns-then-is_settled-clause-exact c =
    let off = subst (λ (n : Running). n.view.serving ≡ false) c.self.view_is c.if-self.false in
    subst (λ (n : Running). core_of (record n { view = record n.view { serving = true } }) ≡ serving_from c.args.serves (core_of c.args.self.now)) (sym c.self.view_is)
    (serves_now c.args.self.now c.args.serves c.is_settled.result c.if-not-serves.false off c.is_settled.ensures.is c.if-is_settled.true)
