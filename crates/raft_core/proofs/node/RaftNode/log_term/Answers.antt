use Rattle.std.proofs.Common.{◌≡◌, ◌≤◌, ◌⊎◌, ◌∙◌, refl, sym, ap, subst, arith}
use Rattle.raft_spec.specs.Log.{term_at}
use Rattle.raft_spec.specs.NodeValues.{NodeValue, node_of}
use Rattle.raft_core.specs.contracts.node.RaftNode.{the_view}
use Rattle.raft_core.proofs.FinishRules.{known_some, term_same, term_none}
use Rattle.raft_core.proofs.node.RaftNode.log_term.Goals as goal

pub returns-in-Some : goal.returns-in-Some
returns-in-Some c =
    let v : NodeValue = the_view c.self.inside in
    let low : v.base ≤ c.args.index = let e = ap (λ (h : NodeValue). h.base) c.self.view_is in let r = c.requires.past in omega arith in
    let known = subst (λ (h : NodeValue). c.args.index ≡ h.base → (h.base ≡ 0) ⊎ (h.base ≡ h.snapshot.index)) (sym c.self.view_is) c.requires.known in
    subst (λ (h : NodeValue). c.in-Some.term ≡ term_at (node_of h).log c.args.index) c.self.view_is
    (known_some c.self.inside.log c.args.index c.in-Some.term c.in-Some.ensures ∙ term_same c.self.inside.log.first v c.args.index refl c.self.invariant.0 low known)

pub returns-in-None : goal.returns-in-None
returns-in-None c =
    let v : NodeValue = the_view c.self.inside in
    let low : v.base ≤ c.args.index = let e = ap (λ (h : NodeValue). h.base) c.self.view_is in let r = c.requires.past in omega arith in
    subst (λ (h : NodeValue). 0 ≡ term_at (node_of h).log c.args.index) c.self.view_is
    (term_none c.self.inside.log.first v c.args.index refl c.self.invariant.0 low c.in-None.ensures)
