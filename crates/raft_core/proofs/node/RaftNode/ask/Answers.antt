use Rattle.std.proofs.Common.{◌≡◌, ◌∙◌, refl, ap, subst}
use Rattle.std.specs.Prelude.{cond}
use Rattle.raft_spec.specs.Elections.{may_grant, grants_vote}
use Rattle.raft_spec.specs.Votes.{after_request, grants_request}
use Rattle.raft_spec.specs.NodeValues.{NodeValue, node_of}
use Rattle.raft_core.specs.contracts.node.RaftNode.{the_view}
use Rattle.raft_core.proofs.WholeLogs.{ends_same}
use Rattle.raft_core.proofs.OwnVotes.{grants_now, node_asked, with_votes}
use Rattle.raft_core.proofs.node.RaftNode.ask.Goals as goal

pub returns-clause-answer : goal.returns-clause-answer
returns-clause-answer c =
    let own = c.end-own.ensures ∙ ends_same c.self.inside.log.first (the_view c.self.inside) refl c.self.invariant.0 in
    subst (λ (h : NodeValue). c.on_request.result ≡ grants_vote (node_of h) c.args.from c.args.last) c.self.view_is
    (c.on_request.ensures.answer ∙ ap (λ t. grants_request c.self.inside.votes c.args.from t c.args.last c.end-own.result) c.term-term.ensures ∙ grants_now c.self.inside.votes c.args.from c.args.last c.end-own.result ∙ ap (may_grant c.self.inside.votes.vote c.args.from c.args.last) own)

pub returns-clause-node : goal.returns-clause-node
returns-clause-node c =
    let own = c.end-own.ensures ∙ ends_same c.self.inside.log.first (the_view c.self.inside) refl c.self.invariant.0 in
    let v : NodeValue = the_view c.self.inside in
    subst (λ (h : NodeValue). with_votes v c.on_request.new.self ≡ cond (grants_vote (node_of h) c.args.from c.args.last) (record h { vote = c.args.from }) h) c.self.view_is
    (ap (with_votes v) (c.on_request.ensures.votes ∙ ap (λ t. after_request c.self.inside.votes c.args.from t c.args.last c.end-own.result) c.term-term.ensures) ∙ node_asked v c.self.inside.votes c.args.from c.args.last c.end-own.result ∙ ap (λ e. cond (may_grant c.self.inside.votes.vote c.args.from c.args.last e) (record v { vote = c.args.from }) v) own)
