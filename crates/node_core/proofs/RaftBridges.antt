-- What a replica's calls tell is what Raft's turns are as stretches of an event.
use Rattle.std.proofs.Common.{◌≡◌, inr, ℕ, ◌<◌, ◌≤◌, false, cond, List, [], ◌∷◌, refl, sym, ap, subst, ◌∙◌, arith}
use Rattle.std.specs.Prelude.{◌-◌, drop, map, nat_lt, Option, Some, None}
use Rattle.std.specs.List.{AllByRecursion}
use Rattle.std.proofs.lemmas.Bool.{cond_both, cond-true, ltb-true, lt-ltb}
use Rattle.raft_spec.specs.Log.{LogEnd}
use Rattle.raft_spec.specs.Node as rules
use Rattle.raft_spec.specs.NodeValues.{NodeValue, IsCoherent, node_of}
use Rattle.raft_spec.specs.Compaction.{compacted_step}
use Rattle.raft_messages.specs.declared.message.Snapshot.{Snapshot}
use Rattle.raft_messages.specs.declared.message.MessageBody.{MessageBody}
use Rattle.raft_messages.specs.declared.message.MessageBody.TheVariants as whats
use Rattle.raft_messages.specs.declared.message.RaftMessage.{RaftMessage}
use Rattle.raft_messages.specs.Messages.{message_value}
use Rattle.raft_core.specs.declared.event.RaftEvent.{RaftEvent}
use Rattle.raft_core.specs.declared.event.RaftEvent.TheVariants as events
use Rattle.raft_core.specs.Events.{input_of, offered}
use Rattle.raft_safety.specs.Members.{Setup}
use Rattle.store_laws.specs.Names.{NodeFiles}
use Rattle.store_laws.specs.Store.{Snap, Log, Kept}
use Rattle.store_laws.specs.Meta.{with_vote}
use Rattle.store_laws.specs.Snapshots.{Longer, Left, given}
use Rattle.store_format.specs.FilesRead.{snap_kept}
use Rattle.raft_on_disk.specs.Keeping.{kept_at}
use Rattle.raft_on_disk.specs.Letters.{Carries, CarriesIn, Tells}
use Rattle.raft_on_disk.specs.Replicas.{ReplicaValue, IsWhole, IsIntake, kept_of, stepped, said, bytes_in, bytes_after, snap_after, HasMoved, snapped}
use Rattle.raft_on_disk.specs.Stops.{MayLoad, before, between, after}
use Rattle.node_spec.specs.Steps.{Letter, WhatSent, AllSent}
use Rattle.node_spec.specs.Accounts.{Moment}
use Rattle.node_spec.specs.RaftTurns.{raft_after, RaftSteps, KeepsSnapshot, SpellsApplied, BytesAfter, own_bytes, StopsAt, at_first, at_vote, at_end}
use Rattle.node_spec.specs.RaftTurns as turns
use Rattle.node_spec.proofs.RaftGoes.{all_is_kept_holds}
use Rattle.node_core.specs.Account as account
use Rattle.node_core.specs.Finding.{Loads}
use Rattle.node_core.specs.Account.{letter_of}
use Rattle.node_core.proofs.SnapshotMoves.{IsNoSnapped, bytes_after_step}

-- ---- moments and replicas

-- a moment whose Raft's part, and what is kept, are those of a replica
pub record ShowsRaft (a : Moment) (r : ReplicaValue) : Type 0 where
  pub raft : a.node.raft ≡ r.raft
  pub kept : a.node.kept ≡ kept_of r

letters_say : (messages : List RaftMessage) → map (λ (l : Letter). l.message) (map letter_of messages) ≡ map message_value messages
letters_say [] = refl
letters_say (m ∷ messages) = ap (λ l. message_value m ∷ l) (letters_say messages)

-- ---- a step

-- a step of Raft, by what `Replica::step` or `Replica::snapshot` says of it (`raft`, `whole`, `tells`)
pub steps_so : (a b : Moment) (r q : ReplicaValue) (event : RaftEvent) (messages : List RaftMessage) → ShowsRaft a r → ShowsRaft b q → node_of q.raft ≡ stepped r event → IsWhole q → Tells (said r event) q.snap messages →
    RaftSteps r.raft.id a b (input_of event) (map letter_of messages)
steps_so a b r q event messages x y made whole tells = record {
  made = ap node_of y.raft ∙ made ∙ ap (λ (h : NodeValue). (compacted_step r.raft.id (node_of h) (input_of event)).node) (sym x.raft);
  says = letters_say messages ∙ tells.says ∙ ap (λ (h : NodeValue). (compacted_step r.raft.id (node_of h) (input_of event)).out) (sym x.raft);
  coherent = subst IsCoherent (sym y.raft) whole.coherent;
  kept = all_is_kept_holds b q.snap.bytes (y.kept ∙ ap (λ (h : NodeValue). turns.kept_of (node_of h) q.snap.bytes) (sym y.raft));
}

-- a snapshot that is sent is the one that is kept after the step
pub sent_so : (a b : Moment) (q : ReplicaValue) (messages : List RaftMessage) → ShowsRaft b q → IsWhole q → AllByRecursion (CarriesIn q.snap) messages → AllSent a.node.kept b.node.kept (map letter_of messages)
sent_so a b q [] y whole carries = tt
sent_so a b q (m ∷ messages) y whole carries = (what m.what carries.0, sent_so a b q messages y whole carries.1)
  where
    index : b.node.kept.snap.index ≡ q.snap.index
    index = ap (λ (k : Kept). k.snap.index) y.kept ∙ ap (λ (l : LogEnd). l.index) whole.snap

    bytes : b.node.kept.snap.bytes ≡ q.snap.bytes
    bytes = ap (λ (k : Kept). k.snap.bytes) y.kept

    what : (w : MessageBody) → Carries q.snap w → WhatSent a.node.kept b.node.kept (account.bytes_in w) (message_value (record m { what = w })).what
    what (whats.Install snapshot) c = inr (ap (λ (s : Snap). s.index) c ∙ sym index, ap (λ (s : Snap). s.bytes) c ∙ sym bytes)
    what (whats.AskVote last transfer) c = tt
    what (whats.Vote granted) c = tt
    what (whats.Append prev commit entries) c = tt
    what (whats.Ack good index) c = tt
    what whats.TimeoutNow c = tt

-- if no snapshot comes, it stays with its bytes (`moved`, `snap`)
pub keeps_snapshot_so : (a b : Moment) (r q : ReplicaValue) (event : RaftEvent) (batch : Option ℕ) → ShowsRaft a r → ShowsRaft b q → IsWhole r → node_of q.raft ≡ stepped r event → HasMoved (node_of r.raft) (node_of q.raft) batch false → q.snap ≡ snap_after r event → KeepsSnapshot a b
keeps_snapshot_so a b r q event batch x y whole made moved snap =
    let same : q.raft.snapshot ≡ r.raft.snapshot = moved.0 in
    let low : r.raft.snapshot.index ≤ r.raft.commit = whole.coherent.applied in
    let index : (stepped r event).snapshot.index ≡ r.raft.snapshot.index = ap (λ (n : rules.Node). n.snapshot.index) (sym made) ∙ ap (λ (l : LogEnd). l.index) same in
    let stays : snap_after r event ≡ r.snap = cond_both (nat_lt r.raft.commit (stepped r event).snapshot.index) (snap_kept (offered event)) r.snap (λ (z : Snap). z ≡ r.snap)
    (λ e. absurd (let l : r.raft.commit < (stepped r event).snapshot.index = ltb-true _ _ e in omega (arith, l, low, index))) (λ e. refl) in
    record {
      snapshot = ap (λ (h : NodeValue). h.snapshot) y.raft ∙ same ∙ sym (ap (λ (h : NodeValue). h.snapshot) x.raft);
      bytes = ap (λ (k : Kept). k.snap) y.kept ∙ (λ i. record { index = (same i).index; term = (same i).term; bytes = ((snap ∙ stays) i).bytes }) ∙ sym (ap (λ (k : Kept). k.snap) x.kept);
    }

-- and if one comes, its bytes are those that came
pub brings_so : (b : Moment) (r q : ReplicaValue) (event : RaftEvent) → ShowsRaft b q → r.raft.commit < (stepped r event).snapshot.index → q.snap ≡ snap_after r event → b.node.kept.snap.bytes ≡ bytes_in (offered event)
brings_so b r q event y past snap =
    ap (λ (k : Kept). k.snap.bytes) y.kept ∙ ap (λ (z : Snap). z.bytes) (snap ∙ cond-true (nat_lt r.raft.commit (stepped r event).snapshot.index) (snap_kept (offered event)) r.snap (lt-ltb _ _ past)) ∙ of_offer (offered event)
  where
    of_offer : (o : Option Snapshot) → (snap_kept o).bytes ≡ bytes_in o
    of_offer None = refl
    of_offer (Some s) = refl

-- ---- a stop

intake_is : (event : RaftEvent) → IsIntake event → IsNoSnapped (input_of event)
intake_is events.Timeout h = tt
intake_is events.Beat h = tt
intake_is events.Yield h = tt
intake_is (events.Message m) h = tt
intake_is (events.Propose es) h = tt
intake_is (events.Transfer to) h = tt
intake_is (events.Snapped end) h = absurd h
intake_is (events.Servers servers) h = tt

-- What a load answers is one of the three states of a stopped step, if it is known whose bytes the snapshot has.
leaves_by : (A : Type 0) (setup : Setup) (came : List ℕ) (a : Moment) (r : ReplicaValue) (event : RaftEvent) (bytes : List ℕ) (count total : ℕ) (g : NodeFiles) → ShowsRaft a r → (A → BytesAfter setup r.raft.id came a (input_of event) bytes) →
    MayLoad (node_of r.raft) (stepped r event) r.snap.bytes bytes count total g → Loads (λ k. A → StopsAt setup r.raft.id came a (input_of event) k) g
leaves_by A setup came a r event bytes count total g x whose (before q loads) = record { kept = kept_of r; is = loads; holds = λ z. at_first (sym x.kept) }
leaves_by A setup came a r event bytes count total g x whose (between q loads) = record {
  kept = with_vote (stepped r event).term (stepped r event).vote (kept_of r);
  is = loads;
  holds = λ z. at_vote ((λ i. with_vote (same i).term (same i).vote (kept_of r)) ∙ ap (with_vote (raft_after r.raft.id a (input_of event)).term (raft_after r.raft.id a (input_of event)).vote) (sym x.kept));
}
  where
    same : stepped r event ≡ raft_after r.raft.id a (input_of event)
    same = ap (λ (h : NodeValue). (compacted_step r.raft.id (node_of h) (input_of event)).node) (sym x.raft)
leaves_by A setup came a r event bytes count total g x whose (after q longer) = record {
  kept = record { term = (stepped r event).term; vote = (stepped r event).vote; snap = (kept_at (stepped r event) bytes).snap; log = longer.log };
  is = longer.kept_is;
  holds = λ z. at_end bytes (whose z) (record {
    term = ap (λ (n : rules.Node). n.term) same;
    vote = ap (λ (n : rules.Node). n.vote) same;
    snap = ap (λ (n : rules.Node). (turns.kept_of n bytes).snap) same;
    longer = subst (λ (n : rules.Node). Longer longer.log (turns.kept_of n bytes).log) same longer.longer;
    left = subst (λ (k : Kept). Left (kept_at (stepped r event) bytes).snap k.log (turns.kept_of (raft_after r.raft.id a (input_of event)) bytes).log longer.log) (sym x.kept)
        (subst (λ (n : rules.Node). Left (kept_at (stepped r event) bytes).snap (kept_of r).log (turns.kept_of n bytes).log longer.log) same longer.left);
  });
}
  where
    same : stepped r event ≡ raft_after r.raft.id a (input_of event)
    same = ap (λ (h : NodeValue). (compacted_step r.raft.id (node_of h) (input_of event)).node) (sym x.raft)

-- whose bytes a snapshot has after a step
intake_bytes : (setup : Setup) (a : Moment) (r : ReplicaValue) (event : RaftEvent) → ShowsRaft a r → IsWhole r → IsIntake event → BytesAfter setup r.raft.id (bytes_in (offered event)) a (input_of event) (bytes_after r event)
intake_bytes setup a r event x whole intake =
    bytes_after_step setup r.raft.id (bytes_in (offered event)) a (input_of event) (bytes_after r event) (subst IsCoherent (sym x.raft) whole.coherent) (intake_is event intake)
    (ap (λ (h : NodeValue). cond (nat_lt h.commit (compacted_step r.raft.id (node_of h) (input_of event)).node.snapshot.index) (bytes_in (offered event)) r.snap.bytes) (sym x.raft)
    ∙ ap (cond (nat_lt a.node.raft.commit (raft_after r.raft.id a (input_of event)).snapshot.index) (bytes_in (offered event))) (sym (ap (λ (k : Kept). k.snap.bytes) x.kept)))

-- of a step (`stopped` of `Replica::step`)
pub leaves_so : (setup : Setup) (a : Moment) (r : ReplicaValue) (event : RaftEvent) (count total : ℕ) (g : NodeFiles) → ShowsRaft a r → IsWhole r → IsIntake event →
    MayLoad (node_of r.raft) (stepped r event) r.snap.bytes (bytes_after r event) count total g → Loads (StopsAt setup r.raft.id (bytes_in (offered event)) a (input_of event)) g
leaves_so setup a r event count total g x whole intake h =
    let l = leaves_by (Unit {0}) setup (bytes_in (offered event)) a r event (bytes_after r event) count total g x (λ z. intake_bytes setup a r event x whole intake) h in
    record { kept = l.kept; is = l.is; holds = l.holds tt }

-- and of an own snapshot (`stopped` of `Replica::snapshot`), in an act with any bytes, if it is one of what is applied
pub leaves_own_so : (A : Type 0) (setup : Setup) (came : List ℕ) (a : Moment) (r : ReplicaValue) (index : ℕ) (bytes : List ℕ) (count total : ℕ) (g : NodeFiles) → ShowsRaft a r → (A → SpellsApplied setup a index bytes) →
    MayLoad (node_of r.raft) (stepped r (snapped r index)) r.snap.bytes bytes count total g → Loads (λ k. A → StopsAt setup r.raft.id came a (rules.Local (rules.Snapped index)) k) g
leaves_own_so A setup came a r index bytes count total g x spells h = leaves_by A setup came a r (snapped r index) bytes count total g x (λ z. own_bytes index refl (spells z)) h

-- ---- after a step that ended well

-- a log is the same without a longer old part
pub longer_self : (l : Log) → Longer l l
longer_self l =
    let none : l.first - l.first ≡ 0 = omega arith in
    record { first = omega arith; upto = omega arith; entries = sym (ap (λ (n : ℕ). drop n l.entries) none) }

behind_by : (setup : Setup) (came : List ℕ) (a : Moment) (r q : ReplicaValue) (event : RaftEvent) → ShowsRaft a r → node_of q.raft ≡ stepped r event → BytesAfter setup r.raft.id came a (input_of event) q.snap.bytes →
    StopsAt setup r.raft.id came a (input_of event) (kept_of q)
behind_by setup came a r q event x made whose =
    let same : node_of q.raft ≡ raft_after r.raft.id a (input_of event) = made ∙ ap (λ (h : NodeValue). (compacted_step r.raft.id (node_of h) (input_of event)).node) (sym x.raft) in
    at_end q.snap.bytes whose (record {
      term = ap (λ (n : rules.Node). n.term) same;
      vote = ap (λ (n : rules.Node). n.vote) same;
      snap = ap (λ (n : rules.Node). (turns.kept_of n q.snap.bytes).snap) same;
      longer = subst (λ (n : rules.Node). Longer (kept_of q).log (turns.kept_of n q.snap.bytes).log) same (longer_self (kept_of q).log);
      left = given (ap (λ (n : rules.Node). (turns.kept_of n q.snap.bytes).log) same);
    })

-- A stop after a step, as where memory runs out before all has followed: the state after it is kept (`raft`, `bytes`).
pub behind_so : (setup : Setup) (a : Moment) (r q : ReplicaValue) (event : RaftEvent) → ShowsRaft a r → IsWhole r → IsIntake event → node_of q.raft ≡ stepped r event → q.snap.bytes ≡ bytes_after r event →
    StopsAt setup r.raft.id (bytes_in (offered event)) a (input_of event) (kept_of q)
behind_so setup a r q event x whole intake made bytes =
    behind_by setup (bytes_in (offered event)) a r q event x made (subst (BytesAfter setup r.raft.id (bytes_in (offered event)) a (input_of event)) (sym bytes) (intake_bytes setup a r event x whole intake))

-- and after an own snapshot (`raft`, `snap`)
pub behind_own_so : (setup : Setup) (came : List ℕ) (a : Moment) (r q : ReplicaValue) (index : ℕ) → ShowsRaft a r → SpellsApplied setup a index q.snap.bytes → node_of q.raft ≡ stepped r (snapped r index) →
    StopsAt setup r.raft.id came a (rules.Local (rules.Snapped index)) (kept_of q)
behind_own_so setup came a r q index x spells made = behind_by setup came a r q (snapped r index) x made (own_bytes index refl spells)
