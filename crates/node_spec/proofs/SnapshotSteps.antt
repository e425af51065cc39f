-- A snapshot after each step of an event.
use Rattle.std.proofs.Common.{◌≡◌, ◌⊎◌, ⊎_elim, ℕ, zero, suc, ◌<◌, ◌≤◌, List, [], ◌∷◌, take, sym, ap, ◌∙◌, subst, arith}
use Rattle.std.specs.Prelude.{slice_get, Some}
use Rattle.std.proofs.lemmas.List.{take-take}
use Rattle.raft_spec.specs.Log.{Entry, LogEnd}
use Rattle.raft_spec.specs.Node as raft
use Rattle.raft_spec.specs.Steps.{raft_step}
use Rattle.raft_spec.specs.Laws.{BringsSnapshot}
use Rattle.raft_spec.proofs.SnapshotEnds.{snapshots_come_holds}
use Rattle.raft_safety.specs.Members.{Setup, voters_after, member_step}
use Rattle.node_spec.specs.Nodes.{Node, SnapshotOf}
use Rattle.node_spec.specs.Steps.{Taken, FrontIs, BytesAre, HasFront, HasFrontOf, TakesIn}
use Rattle.node_spec.specs.Snapshots.{SnapshotIs, after, SnapshotsStay, SnapshotsCome, SnapshotsTaken}

-- a step keeps the front up to an applied index
kept_front : (setup : Setup) (me : ℕ) (old : Node) (s : raft.Node) (is : List raft.Input) (x : Taken) (k index : ℕ) → TakesIn setup me old s is x → index ≤ (after setup me s is k).commit →
    take index (after setup me s is k).log ≡ take index (after setup me s is (suc k)).log
kept_front setup me old s is x k index t low =
    let a = after setup me s is k in
    let b = after setup me s is (suc k) in
    sym (take-take index a.commit a.log low) ∙ ap (take index) (t.kept k).1.2 ∙ take-take index a.commit b.log low

pub snapshots_stay : SnapshotsStay
snapshots_stay setup me old s is x k bytes t low same h =
    let a = after setup me s is k in
    let b = after setup me s is (suc k) in
    let front = kept_front setup me old s is x k a.snapshot.index t low in
    subst (λ (l : LogEnd). 0 < l.index → SnapshotOf setup (take l.index b.log) bytes) (sym same) (λ pos. subst (λ (es : List Entry). SnapshotOf setup es bytes) front (h pos))

pub snapshots_taken : SnapshotsTaken
snapshots_taken setup me old s is x k index bytes t low at h =
    let b = after setup me s is (suc k) in
    let front = kept_front setup me old s is x k index t low in
    subst (λ (i : ℕ). 0 < i → SnapshotOf setup (take i b.log) bytes) (sym at) (λ pos. subst (λ (es : List Entry). SnapshotOf setup es bytes) front h)

-- the next step, by its message
next_step : (setup : Setup) (me : ℕ) (m : raft.Message) (is : List raft.Input) (k : ℕ) (s : raft.Node) → slice_get is k ≡ Some (raft.Receive m) →
    after setup me s is (suc k) ≡ (raft_step (voters_after setup) me (after setup me s is k) (raft.Receive m)).node
unfolding member_step
next_step setup me m [] k s e = absurd cc
next_step setup me m (i ∷ is) zero s e = let same : i ≡ raft.Receive m = cc in ap (λ (j : raft.Input). (member_step setup me s j).node) same
next_step setup me m (i ∷ is) (suc k) s e = next_step setup me m is k (member_step setup me s i).node e

-- the bytes of a message's snapshot are those of its front
bytes_at : (setup : Setup) (bytes : List ℕ) (m : raft.Message) (is : List raft.Input) (k : ℕ) → BytesAre setup bytes is → slice_get is k ≡ Some (raft.Receive m) → FrontIs setup bytes m.what
bytes_at setup bytes m [] k h e = absurd cc
bytes_at setup bytes m (raft.Local local ∷ is) zero h e = absurd cc
bytes_at setup bytes m (raft.Local local ∷ is) (suc k) h e = bytes_at setup bytes m is k h e
bytes_at setup bytes m (raft.Receive o ∷ is) zero h e = let same : o ≡ m = cc in subst (λ (y : raft.Message). FrontIs setup bytes y.what) same h.0
bytes_at setup bytes m (raft.Receive o ∷ is) (suc k) h e = bytes_at setup bytes m is k h.1 e

brought : (setup : Setup) (bytes : List ℕ) (b : raft.Node) (w : raft.What) → BringsSnapshot w b.snapshot → HasFront b w → FrontIs setup bytes w → SnapshotIs setup b bytes
brought setup bytes b (raft.Install last front) e has are =
    subst (λ (l : LogEnd). 0 < l.index → SnapshotOf setup (take l.index b.log) bytes) (sym e) (λ pos. subst (λ (es : List Entry). SnapshotOf setup es bytes) (sym (has e)) (are pos))
brought setup bytes b (raft.AskVote last transfer) e has are = absurd e
brought setup bytes b (raft.Vote granted) e has are = absurd e
brought setup bytes b (raft.Append prev commit entries) e has are = absurd e
brought setup bytes b (raft.Ack good index) e has are = absurd e
brought setup bytes b raft.TimeoutNow e has are = absurd e

pub snapshots_come : SnapshotsCome
snapshots_come setup me old s is x k m t at low past =
    let a = after setup me s is k in
    let b = after setup me s is (suc k) in
    let step = next_step setup me m is k s at in
    let ways : (b.snapshot ≡ a.snapshot) ⊎ BringsSnapshot m.what b.snapshot =
    subst (λ (n : raft.Node). (n.snapshot ≡ a.snapshot) ⊎ BringsSnapshot m.what n.snapshot) (sym step) (snapshots_come_holds (voters_after setup) me a (raft.Receive m)) in
    let has : HasFront b m.what = subst (HasFrontOf b) at (t.fronts k) in
    ⊎_elim
    (λ (same : b.snapshot ≡ a.snapshot). let i : b.snapshot.index ≡ a.snapshot.index = ap (λ (l : LogEnd). l.index) same in absurd (omega arith))
    (λ (tells : BringsSnapshot m.what b.snapshot). brought setup x.bytes b m.what tells has (bytes_at setup x.bytes m is k t.front at)) ways
