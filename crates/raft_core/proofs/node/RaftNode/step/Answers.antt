use Rattle.std.proofs.Common.{sym, subst}
use Rattle.raft_spec.specs.Laws.{HasShortTerm}
use Rattle.raft_spec.specs.NodeValues.{node_of}
use Rattle.raft_spec.proofs.Terms.{cut_terms_stay_short_holds}
use Rattle.raft_core.specs.Events.{input_of}
use Rattle.raft_core.proofs.StepRules.{step_bare}
use Rattle.raft_core.proofs.VoteRules.{if_ok}
use Rattle.raft_core.proofs.node.RaftNode.step.Goals as goal

pub returns-clause-short : goal.returns-clause-short
returns-clause-short c = λ h. if_ok c.step_by.result _ _ c.step_by.ensures.node (λ t x. subst HasShortTerm (sym x) (cut_terms_stay_short_holds c.args.self.now.id (node_of c.args.self.now) (input_of c.args.event) h))

pub returns-clause-sends : goal.returns-clause-sends
returns-clause-sends c = if_ok c.step_by.result _ _ c.step_by.ensures.sends (λ t x. (step_bare c.args.self.now c.args.event t.sends x).1)

pub returns-clause-installs : goal.returns-clause-installs
returns-clause-installs c = if_ok c.step_by.result _ _ c.step_by.ensures.sends (λ t x. (step_bare c.args.self.now c.args.event t.sends x).0)
