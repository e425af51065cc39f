use Rattle.std.proofs.Common.{◌∙◌, sym, ap}
use Rattle.raft_spec.specs.Log.{LogEnd}
use Rattle.raft_spec.specs.Node.{Install}
use Rattle.raft_spec.specs.Compaction.{compacted}
use Rattle.raft_core.specs.Effects.{message_in}
use Rattle.raft_core.proofs.FinishRules.{sends_snapshot, sends_entries}
use Rattle.raft_core.proofs.node.RaftNode.message_to.Goals as goal

pub returns-then-needs_snapshot : goal.returns-then-needs_snapshot
returns-then-needs_snapshot c =
    let h = c.args.self.now in
    (λ k. message_in h.id (c.term.ensures k) c.args.peer (Install (c.snapshot.ensures k) (compacted (c.snapshot.ensures k) (ap (λ (e : LogEnd). e.index) c.snapshot.ensures k)))) ∙ sends_snapshot h c.args.peer c.next_of-next.result c.next_of-next.ensures (sym c.needs_snapshot.ensures ∙ c.if-needs_snapshot.true)

pub returns : goal.returns
returns c =
    let h = c.args.self.now in
    c.in_ok-append_for.ensures ∙ sends_entries h c.args.peer c.next_of-next.result c.next_of-next.ensures (sym c.needs_snapshot.ensures ∙ c.if-needs_snapshot.false)
