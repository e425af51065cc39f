use Rattle.std.proofs.Common.{◌≡◌, ◌<◌, ◌-◌, ◌∙◌, drop, refl, sym, ap, subst, arith}
use Rattle.std.specs.Prelude.{true}
use Rattle.raft_spec.specs.Log.{LogEnd, matches}
use Rattle.raft_spec.specs.Compaction.{CutLog}
use Rattle.raft_spec.specs.NodeValues.{NodeValue, node_of}
use Rattle.raft_log.specs.Places.{cut_at}
use Rattle.raft_core.specs.contracts.node.RaftNode.{the_view}
use Rattle.raft_core.proofs.CutLogs.{cut_kept, kept_log}
use Rattle.raft_core.proofs.node.RaftNode.keep_rest.Goals as goal

pub invariant_of-self : goal.invariant_of-self
invariant_of-self c =
    let v : NodeValue = the_view c.self.inside in
    let newer : v.commit < c.args.last.index = let e = ap (λ (h : NodeValue). h.commit) c.self.view_is in let r = c.requires.newer in omega arith in
    let has : matches (node_of v).log c.args.last ≡ true = subst (λ (h : NodeValue). matches (node_of h).log c.args.last ≡ true) (sym c.self.view_is) c.requires.has in
    let is = c.cut_to.ensures ∙ ap (λ (e : LogEnd). cut_at c.self.inside.log e.index) c.last.view_is ∙ cut_kept c.self.inside.log.first v c.args.last refl c.self.invariant.0 newer has in
    (kept_log c.cut_to.new.self c.args.last (drop (c.args.last.index - v.base) v.entries) c.last-2.inside.index is (ap (λ (e : LogEnd). e.index) c.last-2.view_is), c.self.invariant.1, c.self.invariant.2)

pub returns : goal.returns
returns c =
    let v : NodeValue = the_view c.self.inside in
    let newer : v.commit < c.args.last.index = let e = ap (λ (h : NodeValue). h.commit) c.self.view_is in let r = c.requires.newer in omega arith in
    let has : matches (node_of v).log c.args.last ≡ true = subst (λ (h : NodeValue). matches (node_of h).log c.args.last ≡ true) (sym c.self.view_is) c.requires.has in
    let is = c.cut_to.ensures ∙ ap (λ (e : LogEnd). cut_at c.self.inside.log e.index) c.last.view_is ∙ cut_kept c.self.inside.log.first v c.args.last refl c.self.invariant.0 newer has in
    let entries = ap (λ (l : CutLog). l.entries) is in
    let base = ap (λ (l : CutLog). l.first.index) is in
    let commit = ap (λ (e : LogEnd). e.index) c.last-2.view_is in
    (λ k. record v { entries = entries k; commit = commit k; snapshot = c.args.last; base = base k })
    ∙ ap (λ (h : NodeValue). record h { entries = drop (c.args.last.index - h.base) h.entries; commit = c.args.last.index; snapshot = c.args.last; base = c.args.last.index }) c.self.view_is
