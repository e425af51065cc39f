use Rattle.std.proofs.Common.{◌≡◌, List, false, sym, ap, subst, ◌∙◌}
use Rattle.database_state.specs.declared.database.Database.{Database}
use Rattle.session_spec.specs.Machine.{machine_of}
use Rattle.node_core.specs.declared.running.Running.{Running}
use Rattle.node_core.specs.Core.{core_of, is_calm, is_settled}
use Rattle.node_core.proofs.CoreEntries.{unsettled_queue, unsettled_last, settled_queue}
use Rattle.node_core.proofs.running.Running.is_settled.Goals as goal

pub returns-then-not-is_empty-clause-is : goal.returns-then-not-is_empty-clause-is
returns-then-not-is_empty-clause-is c =
    subst (λ (n : Running). false ≡ is_settled (core_of n)) c.self.view_is (unsettled_queue _ (sym c.is_empty.ensures ∙ c.if-not-is_empty.true))

pub returns-then-self-clause-is : goal.returns-then-self-clause-is
returns-then-self-clause-is c = subst (λ (n : Running). false ≡ is_settled (core_of n)) c.self.view_is (unsettled_last _ c.if-self.true)

pub returns-clause-is : goal.returns-clause-is
returns-clause-is c =
    subst (λ (n : Running). c.are_calm.result ≡ is_settled (core_of n)) c.self.view_is
    (settled_queue _ c.are_calm.result (sym c.is_empty.ensures ∙ c.if-not-is_empty.false) c.if-self.false
    (c.are_calm.ensures.is ∙ ap (λ (ds : List Database). is_calm (machine_of ds)) c.databases.ensures.all))
