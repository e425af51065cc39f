use Rattle.std.proofs.Common.{ℕ, refl, ap, ◌∙◌}
use Rattle.std.proofs.lemmas.Result.{on_ok_weaker}
use Rattle.raft_spec.specs.NodeValues.{node_of}
use Rattle.session_spec.specs.Sessions.{View}
use Rattle.node_core.specs.Core.{evens, nears}
use Rattle.node_core.specs.declared.running.Running.{Running}
use Rattle.node_core.proofs.RaftExactly.{ends_at, looked_is}
use Rattle.node_core.proofs.running.Running.look.Goals as goal

pub returns-clause-exact : goal.returns-clause-exact
returns-clause-exact c =
    let old : Running = c.args.self.now in
    let new : Running = c.look_at_peers.new.self in
    let raft = c.view-raft.result in
    let view : View = record old.view { leader = raft.leader; term = raft.term; last = raft.last.index; even = new.view.even; near = new.view.near } in
    on_ok_weaker c.look_at_peers.result
    (λ peers. looked_is old new view (c.look_at_peers.ensures.is ∙ (λ i. record (c.see.ensures i) { view = record (c.see.ensures i).view { even = new.view.even; near = new.view.near } }))
    refl refl refl refl refl c.view-raft.ensures.leader c.view-raft.ensures.term (ends_at (node_of old.replica.raft).log raft.last c.view-raft.ensures.last)
    (peers.0 ∙ ap (λ (n : Running). evens (node_of n.replica.raft) n.view.servers) c.see.ensures)
    (peers.1 ∙ ap (λ (n : Running). nears n.replica.raft.id (node_of n.replica.raft) n.view.servers) c.see.ensures
    ∙ ap (λ (me : ℕ). nears me (node_of old.replica.raft) old.view.servers) c.requires.holds.replica.id))
    c.look_at_peers.ensures.peers
