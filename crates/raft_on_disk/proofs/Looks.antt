-- Which messages put a snapshot in the place of entries.
use Rattle.std.proofs.Common.{◌≡◌, ℕ, ◌≤◌, inl, inr, Bool, true, false, List, refl, sym, ap, ◌∙◌, arith, ◌⊎◌, ⊎_elim}
use Rattle.std.specs.Prelude.{None, ◌&&◌, ◌||◌, not, nat_lt, nat_le}
use Rattle.std.proofs.lemmas.Bool.{cond_both, ltb-true, ltb-false, leb-true, leb-false, lt-ltb, le-leb, false_from_ne_true}
use Rattle.raft_spec.specs.Log.{Entry, LogEnd, matches}
use Rattle.raft_spec.specs.Node.{AskVote, Vote, Append, Ack, Install, TimeoutNow, Message, Node, Outcome, voters, is_leader, Receive}
use Rattle.raft_spec.specs.Outcomes.{in_newer_term}
use Rattle.raft_spec.specs.Snapshots.{on_install}
use Rattle.raft_spec.specs.Receiving.{in_range, on_message}
use Rattle.raft_spec.specs.Steps.{raft_step}
use Rattle.raft_spec.specs.Compaction.{compacted_step}
use Rattle.raft_spec.specs.Laws.{BringsSnapshot}
use Rattle.raft_spec.proofs.SnapshotEnds.{message_snapshot, ends_snapshot}
use Rattle.raft_spec.specs.NodeValues.{node_of}
use Rattle.raft_messages.specs.declared.message.Snapshot.{Snapshot}
use Rattle.raft_messages.specs.declared.message.MessageBody as whats
use Rattle.raft_messages.specs.declared.message.MessageBody.TheVariants as what
use Rattle.raft_messages.specs.declared.message.RaftMessage.{RaftMessage}
use Rattle.raft_messages.specs.Messages.{snapshot_end, what_value}
use Rattle.raft_core.specs.Events.{brought}
use Rattle.raft_on_disk.specs.Replicas.{ReplicaValue, IsWhole}
use Rattle.raft_on_disk.specs.Looking.{is_looked_at, takes_install, puts_snapshot}

not_past : (commit index : ℕ) → index ≤ commit → nat_lt commit index ≡ false
not_past commit index le = false_from_ne_true (nat_lt commit index) (λ t. let l = ltb-true commit index t in omega arith)

-- of four tests one that fails is enough
fails : (a b c d : Bool) → (a ≡ false) ⊎ ((b ≡ false) ⊎ ((c ≡ false) ⊎ (d ≡ false))) → (a && b && c && d) ≡ false
fails false b c d f = refl
fails true false c d f = refl
fails true true false d f = refl
fails true true true false f = refl
fails true true true true f = ⊎_elim (λ (x : true ≡ false). absurd cc) (λ (g : (true ≡ false) ⊎ ((true ≡ false) ⊎ (true ≡ false))). ⊎_elim (λ (x : true ≡ false). absurd cc) (λ (k : (true ≡ false) ⊎ (true ≡ false)). ⊎_elim (λ (x : true ≡ false). absurd cc) (λ (x : true ≡ false). absurd cc) k) g) f

holds : (a b c d : Bool) → a ≡ true → b ≡ true → c ≡ true → d ≡ true → (a && b && c && d) ≡ true
holds true true true true p q r s = refl
holds true true true false p q r s = absurd cc
holds true true false d p q r s = absurd cc
holds true false c d p q r s = absurd cc
holds false b c d p q r s = absurd cc

-- what the test says of the outcome
abbrev Says : Node → Bool → Outcome → Type 0
Says s b d = nat_lt s.commit d.node.snapshot.index ≡ b

module _ (me : ℕ) (s : Node) (from term : ℕ) (last : LogEnd) (front : List Entry) (low : s.snapshot.index ≤ s.commit) where
  abbrev A : Bool
  A = is_looked_at s.term from term last

  abbrev B : Bool
  B = nat_le s.term term

  abbrev C : Bool
  C = nat_lt s.term term || not (is_leader s.role)

  abbrev D : Bool
  D = nat_lt s.commit last.index

  same : (A ≡ false) ⊎ ((B ≡ false) ⊎ ((C ≡ false) ⊎ (D ≡ false))) → nat_lt s.commit s.snapshot.index ≡ takes_install s from term last
  same f = not_past s.commit s.snapshot.index low ∙ sym (fails A B C D f)

  -- at a node of the message's term, that leads where the test says so
  at_own : (u : Node) → u.snapshot ≡ s.snapshot → u.commit ≡ s.commit → A ≡ true → B ≡ true → (is_leader u.role ≡ true → C ≡ false) → (is_leader u.role ≡ false → C ≡ true) → Says s (takes_install s from term last) (on_install me u from last front)
  unfolding on_install
  at_own u e k a b lead free =
      let kept : nat_lt s.commit u.snapshot.index ≡ nat_lt s.commit s.snapshot.index = ap (λ (x : LogEnd). nat_lt s.commit x.index) e in
      cond_both (is_leader u.role) _ _ (Says s (takes_install s from term last)) (λ l. kept ∙ same (inr (inr (inl (lead l)))))
      (λ l. cond_both (nat_le last.index u.commit) _ _ (Says s (takes_install s from term last))
      (λ o. let le = leb-true _ _ o in kept ∙ same (inr (inr (inr (not_past s.commit last.index (omega arith))))))
      (λ o.
      let lt = leb-false _ _ o in
      let d : D ≡ true = lt-ltb _ _ (omega arith) in
      cond_both (matches u.log last) _ _ (Says s (takes_install s from term last)) (λ m. d ∙ sym (holds A B C D a b (free l) d)) (λ m. d ∙ sym (holds A B C D a b (free l) d))))

  pub install_says : (voters_of : List Entry → List ℕ) (to : ℕ) → Says s (takes_install s from term last) (on_message voters_of me s (record { from = from; to = to; term = term; what = Install last front }))
  unfolding on_message in_range
  install_says voters_of to = cond_both A _ _ (Says s (takes_install s from term last))
      (λ a. cond_both (nat_lt term s.term) _ _ (Says s (takes_install s from term last))
      (λ o. let lt = ltb-true _ _ o in same (inr (inl (false_from_ne_true B (λ t. let le = leb-true _ _ t in omega arith)))))
      (λ o.
      let ge = ltb-false _ _ o in
      let b : B ≡ true = le-leb _ _ ge in
      cond_both (nat_lt s.term term) _ _ (Says s (takes_install s from term last))
      (λ n. at_own (in_newer_term s term) refl refl a b (λ l. absurd cc) (λ l. ap (λ x. x || not (is_leader s.role)) n))
      (λ n. at_own s refl refl a b (λ l. ap (λ x. x || not (is_leader s.role)) n ∙ ap not l) (λ l. ap (λ x. x || not (is_leader s.role)) n ∙ ap not l))))
      (λ a. same (inl a))

-- ---- all messages

-- the step of an Install puts its snapshot in place exactly if the test says so
pub install_puts : (me : ℕ) (s : Node) (from to term : ℕ) (last : LogEnd) (front : List Entry) → s.snapshot.index ≤ s.commit → nat_lt s.commit (compacted_step me s (Receive (record { from = from; to = to; term = term; what = Install last front }))).node.snapshot.index ≡ takes_install s from term last
unfolding compacted_step raft_step
install_puts me s from to term last front low =
    ap (λ (x : LogEnd). nat_lt s.commit x.index) (ends_snapshot (λ log. voters s.servers) me (on_message (λ log. voters s.servers) me s (record { from = from; to = to; term = term; what = Install last front })))
    ∙ install_says me s from term last front low (λ log. voters s.servers) to

-- and that of another message none
pub other_puts : (me : ℕ) (s : Node) (m : Message) → ((end : LogEnd) → BringsSnapshot m.what end → ⊥) → s.snapshot.index ≤ s.commit → nat_lt s.commit (compacted_step me s (Receive m)).node.snapshot.index ≡ false
unfolding compacted_step raft_step
other_puts me s m none low =
    ap (λ (x : LogEnd). nat_lt s.commit x.index) (ends_snapshot (λ log. voters s.servers) me (on_message (λ log. voters s.servers) me s m)
    ∙ ⊎_elim (λ (e : (on_message (λ log. voters s.servers) me s m).node.snapshot ≡ s.snapshot). e) (λ (b : BringsSnapshot m.what (on_message (λ log. voters s.servers) me s m).node.snapshot). absurd (none _ b)) (message_snapshot (λ log. voters s.servers) me s m))
    ∙ not_past s.commit s.snapshot.index low

-- what the test of a message is
abbrev pub taken_by : Node → ℕ → ℕ → whats.MessageBody → Bool
taken_by s from term (what.Install snapshot) = takes_install s from term (snapshot_end snapshot)
taken_by s from term (what.AskVote last transfer) = false
taken_by s from term (what.Vote granted) = false
taken_by s from term (what.Append prev commit entries) = false
taken_by s from term (what.Ack good index) = false
taken_by s from term what.TimeoutNow = false

puts : (me : ℕ) (s : Node) (from to term : ℕ) (w : whats.MessageBody) → s.snapshot.index ≤ s.commit → taken_by s from term w ≡ nat_lt s.commit (compacted_step me s (Receive (record { from = from; to = to; term = term; what = what_value w }))).node.snapshot.index
puts me s from to term (what.Install snapshot) low = sym (install_puts me s from to term (snapshot_end snapshot) _ low)
puts me s from to term (what.AskVote last transfer) low =
    sym (other_puts me s (record { from = from; to = to; term = term; what = AskVote last transfer }) (λ end b. b) low)
puts me s from to term (what.Vote granted) low = sym (other_puts me s (record { from = from; to = to; term = term; what = Vote granted }) (λ end b. b) low)
puts me s from to term (what.Append prev commit entries) low = sym (other_puts me s (record { from = from; to = to; term = term; what = Append prev commit entries }) (λ end b. b) low)
puts me s from to term (what.Ack good index) low = sym (other_puts me s (record { from = from; to = to; term = term; what = Ack good index }) (λ end b. b) low)
puts me s from to term what.TimeoutNow low = sym (other_puts me s (record { from = from; to = to; term = term; what = TimeoutNow }) (λ end b. b) low)

pub message_puts : (r : ReplicaValue) (m : RaftMessage) → IsWhole r → taken_by (node_of r.raft) m.from m.term m.what ≡ puts_snapshot r m
message_puts r m w = puts r.raft.id (node_of r.raft) m.from m.to m.term m.what w.coherent.applied

pub none_puts : (r : ReplicaValue) (m : RaftMessage) → IsWhole r → brought m.what ≡ None → false ≡ puts_snapshot r m
none_puts r m w n = by m.what n ∙ message_puts r m w
  where
    by : (w : whats.MessageBody) → brought w ≡ None → false ≡ taken_by (node_of r.raft) m.from m.term w
    by (what.Install snapshot) e = absurd cc
    by (what.AskVote last transfer) e = refl
    by (what.Vote granted) e = refl
    by (what.Append prev commit entries) e = refl
    by (what.Ack good index) e = refl
    by what.TimeoutNow e = refl

pub some_puts : (r : ReplicaValue) (m : RaftMessage) (snapshot : Snapshot) → IsWhole r → m.what ≡ what.Install snapshot → takes_install (node_of r.raft) m.from m.term (snapshot_end snapshot) ≡ puts_snapshot r m
some_puts r m snapshot w e = ap (taken_by (node_of r.raft) m.from m.term) (sym e) ∙ message_puts r m w
