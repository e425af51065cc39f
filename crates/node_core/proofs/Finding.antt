-- What a load finds where a part of a step failed or was stopped.
use Rattle.std.proofs.Common.{◌≡◌, ℕ, Bool, List, Ok, Err, subst}
use Rattle.std.specs.Prelude.{Result, OnErr}
use Rattle.raft_spec.specs.Node as raft
use Rattle.raft_spec.specs.NodeValues.{node_of}
use Rattle.raft_core.specs.declared.event.RaftEvent.{RaftEvent}
use Rattle.raft_core.specs.Events.{input_of, offered}
use Rattle.raft_safety.specs.Members.{Setup}
use Rattle.disk_model.specs.Disk.{Disk}
use Rattle.disk_model.specs.Trait.{Text, told, untold}
use Rattle.store_laws.specs.Names.{NodeDisk}
use Rattle.store_laws.proofs.Seen.{all_seen}
use Rattle.store_format.specs.NodeFormat.{node_format}
use Rattle.store_laws.specs.Store.{Kept}
use Rattle.segment_store.specs.Keeps.{folder}
use Rattle.raft_on_disk.specs.Replicas as replicas
use Rattle.raft_on_disk.specs.Replicas.{ReplicaValue, IsWhole, IsIntake, IsKept, kept_of, stepped, bytes_after, snapped}
use Rattle.raft_on_disk.specs.Stops as replica
use Rattle.node_spec.specs.RaftTurns.{SpellsApplied, StopsAt}
use Rattle.node_core.specs.declared.running.Running.{Running}
use Rattle.node_core.specs.Account.{moment_of}
use Rattle.node_core.specs.Finding.{FindsIn, Finds, StopsIn}
use Rattle.node_core.specs.Taking.{bytes_with}
use Rattle.node_core.proofs.Posting.{shows}
use Rattle.node_core.proofs.RaftBridges.{leaves_so, leaves_own_so, behind_so, behind_own_so}
use Rattle.node_core.proofs.StopsOfTurns.{with_offer}

-- ---- a disk, or none that tells

pub failed : {T E P : Type 0} (r : Result T E) → P → OnErr r P
failed (Ok x) p = tt
failed (Err e) p = p

finds_more : (P Q : Kept → Type 0) → ((k : Kept) → P k → Q k) → (d : NodeDisk) → FindsIn P d → FindsIn Q d
finds_more P Q f d x = record {
  crash = λ g leaves chance. let l = x.crash g leaves chance in record { kept = l.kept; is = l.is; holds = f l.kept l.holds };
  seen = x.seen;
}

pub more : (tells : Bool) (states : Disk Text → Type 0) (P Q : Kept → Type 0) → ((k : Kept) → P k → Q k) → Finds tells states P → Finds tells states Q
more tells states P Q f (told d at x) = told d at (finds_more P Q f (folder d) x)
more tells states P Q f (untold e) = untold e

-- it keeps a state
pub kept_finds : (tells : Bool) (states : Disk Text → Type 0) (r : ReplicaValue) (P : Kept → Type 0) → P (kept_of r) → IsKept tells states r → Finds tells states P
kept_finds tells states r P p (told d at has) = told d at (record { crash = λ g leaves chance. record { kept = kept_of r; is = has.crash g leaves; holds = p }; seen = all_seen node_format r.store.next (folder d) has.is_open.settled })
kept_finds tells states r P p (untold e) = untold e

-- ---- a step of Raft that was stopped

stopped_in : (setup : Setup) (old : Running) (event : RaftEvent) (count total : ℕ) (d : NodeDisk) → IsWhole old.replica → IsIntake event →
    replica.StopsIn (node_of old.replica.raft) (stepped old.replica event) old.replica.snap.bytes (bytes_after old.replica event) count total d → FindsIn (StopsAt setup old.replica.raft.id (replicas.bytes_in (offered event)) (moment_of old) (input_of event)) d
stopped_in setup old event count total d whole intake s = record {
  crash = λ g leaves chance. leaves_so setup (moment_of old) old.replica event count total g (shows old) whole intake (s.crash g leaves chance);
  seen = s.seen;
}

-- by the clause of `Replica::step`
pub step_finds : (setup : Setup) (old : Running) (event : RaftEvent) (tells : Bool) (states : Disk Text → Type 0) (count total : ℕ) → IsWhole old.replica → IsIntake event →
    replica.Stops tells states (node_of old.replica.raft) (stepped old.replica event) old.replica.snap.bytes (bytes_after old.replica event) count total → Finds tells states (StopsIn setup (bytes_with event) old (input_of event))
step_finds setup old event tells states count total whole intake (told d at s) =
    told d at (subst (λ came. FindsIn (StopsAt setup old.replica.id came (moment_of old) (input_of event)) (folder d)) (with_offer event)
    (subst (λ me. FindsIn (StopsAt setup me (replicas.bytes_in (offered event)) (moment_of old) (input_of event)) (folder d)) whole.id (stopped_in setup old event count total (folder d) whole intake s)))
step_finds setup old event tells states count total whole intake (untold e) = untold e

-- what is kept after a step that was kept whole
pub made_left : (setup : Setup) (old : Running) (q : ReplicaValue) (event : RaftEvent) → IsWhole old.replica → IsIntake event → node_of q.raft ≡ stepped old.replica event → q.snap.bytes ≡ bytes_after old.replica event → StopsIn setup (bytes_with event) old (input_of event) (kept_of q)
made_left setup old q event whole intake node bytes =
    subst (λ came. StopsAt setup old.replica.id came (moment_of old) (input_of event) (kept_of q)) (with_offer event)
    (subst (λ me. StopsAt setup me (replicas.bytes_in (offered event)) (moment_of old) (input_of event) (kept_of q)) whole.id (behind_so setup (moment_of old) old.replica q event (shows old) whole intake node bytes))

-- ---- an own snapshot

own_in : (A : Type 0) (setup : Setup) (came : List ℕ) (old : Running) (index : ℕ) (bytes : List ℕ) (count total : ℕ) (d : NodeDisk) → (A → SpellsApplied setup (moment_of old) index bytes) →
    replica.StopsIn (node_of old.replica.raft) (stepped old.replica (snapped old.replica index)) old.replica.snap.bytes bytes count total d →
    FindsIn (λ k. A → StopsAt setup old.replica.raft.id came (moment_of old) (raft.Local (raft.Snapped index)) k) d
own_in A setup came old index bytes count total d spells s = record {
  crash = λ g leaves chance. leaves_own_so A setup came (moment_of old) old.replica index bytes count total g (shows old) spells (s.crash g leaves chance);
  seen = s.seen;
}

-- by the clause of `Replica::snapshot`
pub own_finds : (A : Type 0) (setup : Setup) (came : List ℕ) (old : Running) (index : ℕ) (bytes : List ℕ) (tells : Bool) (states : Disk Text → Type 0) (count total : ℕ) → IsWhole old.replica → (A → SpellsApplied setup (moment_of old) index bytes) →
    replica.Stops tells states (node_of old.replica.raft) (stepped old.replica (snapped old.replica index)) old.replica.snap.bytes bytes count total → Finds tells states (λ k. A → StopsIn setup came old (raft.Local (raft.Snapped index)) k)
own_finds A setup came old index bytes tells states count total whole spells (told d at s) =
    told d at (subst (λ me. FindsIn (λ k. A → StopsAt setup me came (moment_of old) (raft.Local (raft.Snapped index)) k) (folder d)) whole.id (own_in A setup came old index bytes count total (folder d) spells s))
own_finds A setup came old index bytes tells states count total whole spells (untold e) = untold e

pub own_left : (setup : Setup) (came : List ℕ) (old : Running) (q : ReplicaValue) (index : ℕ) → IsWhole old.replica → SpellsApplied setup (moment_of old) index q.snap.bytes → node_of q.raft ≡ stepped old.replica (snapped old.replica index) →
    StopsIn setup came old (raft.Local (raft.Snapped index)) (kept_of q)
own_left setup came old q index whole spells made =
    subst (λ me. StopsAt setup me came (moment_of old) (raft.Local (raft.Snapped index)) (kept_of q)) whole.id (behind_own_so setup came (moment_of old) old.replica q index (shows old) spells made)
