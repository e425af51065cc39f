-- A turn in which a snapshot comes.
use Rattle.std.proofs.Common.{◌≡◌, ◌≤◌, ℕ, sym, ap, subst, ◌∙◌, arith}
use Rattle.std.specs.List.{AllByRecursion}
use Rattle.std.specs.Prelude.{Option, nat_lt}
use Rattle.std.proofs.lemmas.Bool.{cond-true}
use Rattle.raft_spec.specs.Log.{LogEnd}
use Rattle.raft_messages.specs.Servers.{IsConfiguration}
use Rattle.raft_membership.specs.Members.{Configurations, AllStand}
use Rattle.raft_core.specs.declared.event.RaftEvent.{RaftEvent}
use Rattle.raft_core.specs.declared.event.RaftEvent.TheVariants as events
use Rattle.raft_core.specs.Events.{offered}
use Rattle.raft_messages.specs.declared.message.MessageBody.{MessageBody}
use Rattle.store_laws.specs.Store.{Snap}
use Rattle.store_format.specs.FilesRead.{snap_kept}
use Rattle.client_sessions.specs.Seen.{AreValidOver, clients_of}
use Rattle.raft_on_disk.specs.Replicas.{ReplicaValue, stepped, snap_after}
use Rattle.applied_state.specs.declared.applied.Applied.{Applied}
use Rattle.node_core.specs.declared.running.Running.{Running}
use Rattle.node_core.specs.Stepping.{Brings, HasStepped, HasTold, KeepsRest}
use Rattle.node_core.specs.Waiting.{HasTurns}
use Rattle.node_core.specs.Whole.{Holds, IsOwnDue, IsGoing}

-- the snapshot that is kept then is the one that the message brings
pub brought : (r : ReplicaValue) (event : RaftEvent) (a : Applied) → Brings r event a → (snap_after r event).index ≡ a.index
brought r event a b =
    ap (λ (e : RaftEvent). (snap_after r e).index) b.event_is
    ∙ ap (λ (s : Snap). s.index) (cond-true (nat_lt r.raft.commit (stepped r (events.Message b.message)).snapshot.index) (snap_kept (offered (events.Message b.message))) r.snap b.puts)
    ∙ ap (λ (w : MessageBody). (snap_kept (offered (events.Message (record b.message { what = w })))).index) b.what_is
    ∙ sym b.restored.index_is

-- what the turn leaves, before the servers of the snapshot are told to the sessions
pub holds_installed : (old step lost placed told : Running) (event : RaftEvent) (batch : Option ℕ) (a : Applied) → IsGoing old → Brings old.replica event a → HasStepped old step event batch
    → lost.replica ≡ step.replica → KeepsRest step lost → placed.applied ≡ a → placed.members.at ≡ lost.replica.snap.index → AllStand placed.members → placed ≡ record lost { members = placed.members; applied = placed.applied }
    → IsConfiguration a.servers → AreValidOver lost.clients a.machine → HasTurns (clients_of lost.clients a.machine) → HasTold placed told → Holds told
holds_installed old step lost placed told event batch a g b s replica rest applied at members is servers stand turns t =
    let applied_told : told.applied ≡ a = ap (λ (n : Running). n.applied) t.is ∙ applied in
    let members_told : told.members ≡ placed.members = ap (λ (n : Running). n.members) t.is in
    let placed_replica : placed.replica ≡ step.replica = ap (λ (n : Running). n.replica) is ∙ replica in
    let index_told : told.applied.index ≡ a.index = ap (λ (x : Applied). x.index) applied_told in
    let snap : step.replica.snap.index ≡ a.index = ap (λ (x : Snap). x.index) s.snap ∙ brought old.replica event a b in
    let at_snap : placed.members.at ≡ a.index = at ∙ ap (λ (r : ReplicaValue). r.snap.index) replica ∙ snap in
    let raft_end : step.replica.raft.snapshot.index ≡ step.replica.snap.index = ap (λ (e : LogEnd). e.index) s.whole.snap in
    let told_end : told.replica.raft.snapshot.index ≡ placed.replica.raft.snapshot.index = ap (λ (e : LogEnd). e.index) t.snapshot in
    let placed_end : placed.replica.raft.snapshot.index ≡ step.replica.raft.snapshot.index = ap (λ (r : ReplicaValue). r.raft.snapshot.index) placed_replica in
    let placed_commit : placed.replica.raft.commit ≡ step.replica.raft.commit = ap (λ (r : ReplicaValue). r.raft.commit) placed_replica in
    let commit : placed.replica.raft.commit ≤ told.replica.raft.commit = t.commit in
    let within : step.replica.raft.snapshot.index ≤ step.replica.raft.commit = s.whole.coherent.applied in
    record {
      replica = t.whole;
      short = t.short;
      clients = subst (λ (x : Applied). AreValidOver told.clients x.machine) (sym applied_told)
          (subst (λ (c : _). AreValidOver c a.machine) (sym (ap (λ (n : Running). n.clients) t.is ∙ ap (λ (n : Running). n.clients) is)) stand);
      turns = subst (λ (x : Applied). HasTurns (clients_of told.clients x.machine)) (sym applied_told)
          (subst (λ (c : _). HasTurns (clients_of c a.machine)) (sym (ap (λ (n : Running). n.clients) t.is ∙ ap (λ (n : Running). n.clients) is)) turns);
      servers = subst (λ (x : Applied). IsConfiguration x.servers) (sym applied_told) servers;
      members = subst AllStand (sym members_told) members;
      at = ap (λ (m : Configurations). m.at) members_told ∙ at_snap ∙ sym index_told;
      low = omega (arith, told_end, placed_end, raft_end, snap, index_told);
      high = omega (arith, within, raft_end, snap, index_told, placed_commit, commit);
      due = subst (AllByRecursion IsOwnDue) (sym (ap (λ (n : Running). n.due.items) t.is ∙ ap (λ (n : Running). n.due.items) is ∙ rest.due ∙ s.rest.due)) g.holds.due;
    }
