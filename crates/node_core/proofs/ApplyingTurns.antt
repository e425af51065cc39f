-- An entry that is applied, as a stretch of an act.
use Rattle.std.proofs.Common.{◌≡◌, ◌≤◌, ◌<◌, ◌-◌, ℕ, suc, List, ◌++◌, Some, refl, sym, ap, subst, ◌∙◌, arith}
use Rattle.std.specs.List.{slice_get}
use Rattle.std.specs.Prelude.{slice_index_or, length}
use Rattle.std.proofs.lemmas.Option.{slice_get_read}
use Rattle.raft_spec.specs.Log.{Entry}
use Rattle.raft_membership.specs.Members.{IsOf}
use Rattle.database_state.specs.Machines.{IsMachine}
use Rattle.session_spec.specs.Machine.{machine_of}
use Rattle.client_sessions.specs.Calls.{landed_at, told_at}
use Rattle.client_sessions.specs.Clients.{Clients}
use Rattle.applied_state.specs.declared.applied.Applied.{Applied}
use Rattle.raft_on_disk.specs.Replicas.{ReplicaValue, kept_of}
use Rattle.node_core.specs.declared.running.Running.{Running}
use Rattle.node_core.specs.Applying.{TakesEntry, AppliesEntry}
use Rattle.node_core.specs.Values.{clients_in, waiting_on}
use Rattle.node_core.specs.Account.{proposals_in}
use Rattle.node_core.specs.Voters.{SettlesAt}
use Rattle.node_core.specs.Whole.{IsGoing}

pub applies_so : (old mid new : Running) → IsGoing old → old.applied.index < old.replica.raft.commit → IsMachine old.applied.machine → TakesEntry old mid → clients_in mid ≡ clients_in old
    → mid ≡ record old { applied = mid.applied; members = mid.members; view = mid.view } → mid.view.serving ≡ old.view.serving → SettlesAt old.members mid.members (suc old.applied.index) → clients_in new ≡ landed_at mid.applied.index (clients_in mid)
    → new.outs.replies.items ≡ mid.outs.replies.items ++ told_at mid.applied.index (clients_in mid) → new.outs.reads.items ≡ mid.outs.reads.items → machine_of new.applied.machine ≡ machine_of mid.applied.machine
    → new ≡ record mid { clients = new.clients; applied = record mid.applied { machine = new.applied.machine }; outs = new.outs } → IsMachine new.applied.machine → AppliesEntry old new
applies_so old mid new going more stood t same entered serving settled landed said unread files told machine =
    let index : mid.applied.index ≡ suc old.applied.index = ap (λ (a : Applied). a.index) t.applied in
    let land : clients_in new ≡ landed_at (suc old.applied.index) (clients_in old) =
    landed ∙ ap (λ (n : ℕ). landed_at n (clients_in mid)) index ∙ ap (λ (k : Clients). landed_at (suc old.applied.index) k) same in
    let replica : new.replica ≡ old.replica = ap (λ (n : Running). n.replica) told ∙ ap (λ (n : Running). n.replica) entered in
    let low : old.replica.raft.snapshot.index ≤ old.applied.index = going.holds.low in
    let base : old.replica.raft.base ≤ old.replica.raft.snapshot.index = going.holds.replica.coherent.low in
    record {
      applies = record {
        more = more;
        applied = ap (λ (n : Running). n.applied.index) told ∙ index;
        held = omega (arith, low, base);
        entry = t.entry;
        is = t.is;
        stood = stood;
        machine = machine;
        files = files ∙ ap (λ (a : Applied). machine_of a.machine) t.applied;
        sessions = ap (λ (k : Clients). k.sessions) land;
        says = refl;
        same = record {
          waiting = λ conn. ap (λ (k : Clients). waiting_on (k.streams conn)) land;
          due = ap (λ (n : Running). proposals_in n.due.items) told ∙ ap (λ (n : Running). proposals_in n.due.items) entered;
        };
        raft = ap (λ (r : ReplicaValue). r.raft) replica;
        kept = ap kept_of replica;
        serving = ap (λ (n : Running). n.view.serving) told ∙ serving;
      };
      mail = ap (λ (n : Running). n.mail) told ∙ ap (λ (n : Running). n.mail) entered;
      outs = said ∙ ap (λ (n : Running). n.outs.replies.items ++ told_at mid.applied.index (clients_in mid)) entered
          ∙ ap (λ (n : ℕ). old.outs.replies.items ++ told_at n (clients_in mid)) index ∙ ap (λ (k : Clients). old.outs.replies.items ++ told_at (suc old.applied.index) k) same;
      reads = unread ∙ ap (λ (n : Running). n.outs.reads.items) entered;
      beside = record {
        voters = record {
          raft = ap (λ (r : ReplicaValue). r.raft) replica;
          applied = suc old.applied.index;
          high = more;
          settle = λ setup log of within. subst (IsOf setup log) (sym (ap (λ (n : Running). n.members) told)) (settled setup log of within);
        };
        links = ap (λ (n : Running). n.has_links) told ∙ ap (λ (n : Running). n.has_links) entered;
      };
    }

-- the entry after the applied ones, as it is found by its index
pub entry_read : (entries : List Entry) (index applied base : ℕ) (e : Entry) → index ≡ suc applied → base ≤ applied → index - base - 1 < length entries → e ≡ slice_index_or entries (index - base - 1) e
    → slice_get entries (applied - base) ≡ Some e
entry_read entries index applied base e is low within found =
    let at : index - base - 1 ≡ applied - base = omega (arith, is, low) in
    subst (λ (i : ℕ). slice_get entries i ≡ Some e) at (slice_get_read entries (length entries) (index - base - 1) e refl within found)
