use Rattle.std.proofs.Common.{ℕ, sym, ap, ◌∙◌}
use Rattle.std.specs.Prelude.{Option}
use Rattle.node_core.specs.Core.{are_others, core_of, followed}
use Rattle.node_core.proofs.RaftExactly.{followed_is, others_are}
use Rattle.node_core.proofs.running.Running.follow_members.Goals as goal

pub returns-clause-exact : goal.returns-clause-exact
returns-clause-exact c =
    followed_is c.args.self.now c.in-Some.first c.follow.new.members c.in_ok-follow.ensures.exact ∙ ap (λ (b : Option ℕ). followed b (core_of c.args.self.now)) (sym c.in-Some.is)

pub returns-clause-others : goal.returns-clause-others
returns-clause-others c =
    others_are c.args.self.now c.in-Some.first c.in_ok-follow.field-0 c.in_ok-follow.ensures.told ∙ ap (λ (b : Option ℕ). are_others b (core_of c.args.self.now)) (sym c.in-Some.is)
