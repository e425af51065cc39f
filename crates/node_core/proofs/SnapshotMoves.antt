-- Where a snapshot goes in a step of Raft other than that of an own one: it stays, or a message brings one past the commit index.
use Rattle.std.proofs.Common.{◌≡◌, ◌⊎◌, inl, inr, ⊎_elim, ℕ, ◌<◌, ◌≤◌, Bool, true, false, cond, List, [], length, refl, sym, ap, subst, ◌∙◌, arith}
use Rattle.std.specs.Prelude.{◌&&◌, nat_lt, nat_le}
use Rattle.std.proofs.lemmas.Bool.{cond_both, cond-true, cond-false, ltb-true, leb-false, lt-ltb, le-ltb}
use Rattle.raft_spec.specs.Log.{Entry, LogEnd, matches}
use Rattle.raft_spec.specs.Node.{Follower, What, AskVote, Vote, Append, Ack, Install, TimeoutNow, Message, Node, Outcome, voters, among, peers, majority, is_leader, is_candidate, Timeout, Beat, Yield, Propose, Transfer, Snapped, UseServers, Input, Local, Receive}
use Rattle.raft_spec.specs.Outcomes.{in_newer_term, with_grants}
use Rattle.raft_spec.specs.Elections.{on_grants, grants_vote, on_ask_vote, grants_with, on_vote}
use Rattle.raft_spec.specs.Replication.{agrees, replaces_committed, take_entries, on_append, on_ack}
use Rattle.raft_spec.specs.Snapshots.{on_install}
use Rattle.raft_spec.specs.Receiving.{on_own_term, on_older_term, in_range, on_message}
use Rattle.raft_spec.specs.Steps.{finish, raft_step}
use Rattle.raft_spec.specs.NodeValues.{IsCoherent, node_of}
use Rattle.raft_spec.specs.Compaction.{compacted_step}
use Rattle.raft_spec.proofs.SnapshotEnds.{stands_snapshot, ends_snapshot, snapshots_come_holds}
use Rattle.raft_safety.specs.Members.{Setup}
use Rattle.node_spec.specs.Accounts.{Moment}
use Rattle.node_spec.specs.RaftTurns.{raft_after, BytesAfter, kept_bytes, brought_bytes}

abbrev Settles : LogEnd → ℕ → Outcome → Type 0
Settles x commit d = (d.node.snapshot ≡ x) ⊎ ((commit < d.node.snapshot.index) × (d.node.role ≡ Follower))

counted : (voters_of : List Entry → List ℕ) (me : ℕ) (s : Node) → Settles s.snapshot s.commit (on_grants voters_of me s [])
unfolding on_grants
counted voters_of me s = cond_both (majority (voters_of s.log) (among s.grants)) _ _ (Settles s.snapshot s.commit) (λ e. inl refl) (λ e. inl refl)

voted : (voters_of : List Entry → List ℕ) (me : ℕ) (s : Node) (from : ℕ) (granted : Bool) → Settles s.snapshot s.commit (on_vote voters_of me s from granted)
unfolding on_vote
voted voters_of me s from granted = cond_both (granted && is_candidate s.role) _ _ (Settles s.snapshot s.commit) (λ e. counted voters_of me (with_grants s (grants_with (voters_of s.log) s.grants from))) (λ e. inl refl)

asked : (me : ℕ) (s : Node) (from : ℕ) (last : LogEnd) → Settles s.snapshot s.commit (on_ask_vote me s from last)
unfolding on_ask_vote
asked me s from last = cond_both (grants_vote s from last) _ _ (Settles s.snapshot s.commit) (λ e. inl refl) (λ e. inl refl)

appended : (me : ℕ) (s : Node) (from : ℕ) (prev : LogEnd) (commit : ℕ) (es : List Entry) → Settles s.snapshot s.commit (on_append me s from prev commit es)
unfolding on_append take_entries
appended me s from prev commit es = cond_both (is_leader s.role) _ _ (Settles s.snapshot s.commit) (λ e. inl refl)
    (λ e. cond_both (agrees s prev) _ _ (Settles s.snapshot s.commit) (λ a. cond_both (replaces_committed s prev es) _ _ (Settles s.snapshot s.commit) (λ r. inl refl) (λ r. inl refl)) (λ a. inl refl))

acked : (me : ℕ) (s : Node) (from : ℕ) (good : Bool) (index : ℕ) → Settles s.snapshot s.commit (on_ack me s from good index)
unfolding on_ack
acked me s from true index = cond_both (is_leader s.role && among (peers s.servers me) from && nat_le index (length s.log)) _ _ (Settles s.snapshot s.commit) (λ e. inl refl) (λ e. inl refl)
acked me s from false index = cond_both (is_leader s.role && among (peers s.servers me) from) _ _ (Settles s.snapshot s.commit) (λ e. inl refl) (λ e. inl refl)

installs : (me : ℕ) (s : Node) (from : ℕ) (last : LogEnd) (front : List Entry) → Settles s.snapshot s.commit (on_install me s from last front)
unfolding on_install
installs me s from last front = cond_both (is_leader s.role) _ _ (Settles s.snapshot s.commit) (λ e. inl refl)
    (λ e. cond_both (nat_le last.index s.commit) _ _ (Settles s.snapshot s.commit) (λ a. inl refl)
    (λ a. let past : s.commit < last.index = leb-false _ _ a in cond_both (matches s.log last) _ _ (Settles s.snapshot s.commit) (λ b. inr (past, refl)) (λ b. inr (past, refl))))

in_turn : (voters_of : List Entry → List ℕ) (me : ℕ) (s : Node) (from : ℕ) (w : What) → Settles s.snapshot s.commit (on_own_term voters_of me s from w)
in_turn voters_of me s from (AskVote last transfer) = asked me s from last
in_turn voters_of me s from (Vote granted) = voted voters_of me s from granted
in_turn voters_of me s from (Append prev commit es) = appended me s from prev commit es
in_turn voters_of me s from (Ack good index) = acked me s from good index
in_turn voters_of me s from (Install last front) = installs me s from last front
in_turn voters_of me s from TimeoutNow = inl (stands_snapshot true voters_of me s)

late : (me : ℕ) (s : Node) (from : ℕ) (w : What) → Settles s.snapshot s.commit (on_older_term me s from w)
late me s from (AskVote last transfer) = inl refl
late me s from (Vote granted) = inl refl
late me s from (Append prev commit es) = inl refl
late me s from (Ack good index) = inl refl
late me s from (Install last front) = inl refl
late me s from TimeoutNow = inl refl

heard : (voters_of : List Entry → List ℕ) (me : ℕ) (s : Node) (m : Message) → Settles s.snapshot s.commit (on_message voters_of me s m)
unfolding on_message
heard voters_of me s m = cond_both (in_range s.term m) _ _ (Settles s.snapshot s.commit)
    (λ e. cond_both (nat_lt m.term s.term) _ _ (Settles s.snapshot s.commit) (λ o. late me s m.from m.what)
    (λ o. cond_both (nat_lt s.term m.term) _ _ (Settles s.snapshot s.commit) (λ n. in_turn voters_of me (in_newer_term s m.term) m.from m.what) (λ n. in_turn voters_of me s m.from m.what)))
    (λ e. inl refl)

-- the end of a step leaves the role
ends_role : (voters_of : List Entry → List ℕ) (me : ℕ) (d : Outcome) → (finish voters_of me d).node.role ≡ d.node.role
unfolding finish
ends_role voters_of me d = cond_both (is_leader d.node.role) _ _ (λ (o : Outcome). o.node.role ≡ d.node.role) (λ e. refl) (λ e. refl)

received : (voters_of : List Entry → List ℕ) (me : ℕ) (s : Node) (m : Message) → Settles s.snapshot s.commit (raft_step voters_of me s (Receive m))
unfolding raft_step
received voters_of me s m =
    let e = ends_snapshot voters_of me (on_message voters_of me s m) in
    ⊎_elim (λ (x : (on_message voters_of me s m).node.snapshot ≡ s.snapshot). inl (e ∙ x))
    (λ (x : (s.commit < (on_message voters_of me s m).node.snapshot.index) × ((on_message voters_of me s m).node.role ≡ Follower)).
    inr (subst (λ (l : LogEnd). s.commit < l.index) (sym e) x.0, ends_role voters_of me (on_message voters_of me s m) ∙ x.1))
    (heard voters_of me s m)

-- who takes a snapshot past the commit index follows after it
pub comes_to_none : (me : ℕ) (s : Node) (m : Message) → s.snapshot.index ≤ s.commit → s.commit < (compacted_step me s (Receive m)).node.snapshot.index → (compacted_step me s (Receive m)).node.role ≡ Follower
unfolding compacted_step
comes_to_none me s m low past = ⊎_elim
    (λ (same : (compacted_step me s (Receive m)).node.snapshot ≡ s.snapshot).
    absurd (let q : (compacted_step me s (Receive m)).node.snapshot.index ≡ s.snapshot.index = ap (λ (l : LogEnd). l.index) same in omega (arith, q, low, past)))
    (λ (x : (s.commit < (compacted_step me s (Receive m)).node.snapshot.index) × ((compacted_step me s (Receive m)).node.role ≡ Follower)). x.1)
    (received (λ log. voters s.servers) me s m)

-- the input of another step
abbrev pub IsNoSnapped : Input → Type 0
IsNoSnapped (Local (Snapped index)) = ⊥
IsNoSnapped (Local Timeout) = Unit {0}
IsNoSnapped (Local Beat) = Unit {0}
IsNoSnapped (Local Yield) = Unit {0}
IsNoSnapped (Local (Propose es)) = Unit {0}
IsNoSnapped (Local (Transfer to)) = Unit {0}
IsNoSnapped (Local (UseServers servers)) = Unit {0}
IsNoSnapped (Receive m) = Unit {0}

other_stays : (voters_of : List Entry → List ℕ) (me : ℕ) (s : Node) (i : Input) → IsNoSnapped i → ((m : Message) → i ≡ Receive m → ⊥) → (raft_step voters_of me s i).node.snapshot ≡ s.snapshot
other_stays voters_of me s (Receive m) o none = absurd (none m refl)
other_stays voters_of me s (Local Timeout) o none = ⊎_elim (λ e. e) (λ x. absurd x) (snapshots_come_holds voters_of me s (Local Timeout))
other_stays voters_of me s (Local Beat) o none = ⊎_elim (λ e. e) (λ x. absurd x) (snapshots_come_holds voters_of me s (Local Beat))
other_stays voters_of me s (Local Yield) o none = ⊎_elim (λ e. e) (λ x. absurd x) (snapshots_come_holds voters_of me s (Local Yield))
other_stays voters_of me s (Local (Propose es)) o none = ⊎_elim (λ e. e) (λ x. absurd x) (snapshots_come_holds voters_of me s (Local (Propose es)))
other_stays voters_of me s (Local (Transfer to)) o none = ⊎_elim (λ e. e) (λ x. absurd x) (snapshots_come_holds voters_of me s (Local (Transfer to)))
other_stays voters_of me s (Local (Snapped index)) o none = absurd o
other_stays voters_of me s (Local (UseServers servers)) o none = ⊎_elim (λ e. e) (λ x. absurd x) (snapshots_come_holds voters_of me s (Local (UseServers servers)))

-- Whose bytes a snapshot has after the step: those that came, if one past the commit index is there, else the old ones.
pub bytes_after_step : (setup : Setup) (me : ℕ) (came : List ℕ) (a : Moment) (i : Input) (bytes : List ℕ) → IsCoherent a.node.raft → IsNoSnapped i →
    bytes ≡ cond (nat_lt a.node.raft.commit (raft_after me a i).snapshot.index) came a.node.kept.snap.bytes → BytesAfter setup me came a i bytes
unfolding compacted_step
bytes_after_step setup me came a i bytes coherent other e = by i other e
  where
    low : a.node.raft.snapshot.index ≤ a.node.raft.commit
    low = coherent.applied

    stays_local : (j : Input) → IsNoSnapped j → ((m : Message) → j ≡ Receive m → ⊥) → bytes ≡ cond (nat_lt a.node.raft.commit (raft_after me a j).snapshot.index) came a.node.kept.snap.bytes → BytesAfter setup me came a j bytes
    stays_local j o none e =
        let same : (raft_after me a j).snapshot ≡ a.node.raft.snapshot = other_stays (λ log. voters a.node.raft.servers) me (node_of a.node.raft) j o none in
        kept_bytes same (e ∙ at_or_below (raft_after me a j).snapshot.index (let q : (raft_after me a j).snapshot.index ≡ a.node.raft.snapshot.index = ap (λ (l : LogEnd). l.index) same in omega (arith, q, low)))
      where
        at_or_below : (index : ℕ) → index ≤ a.node.raft.commit → cond (nat_lt a.node.raft.commit index) came a.node.kept.snap.bytes ≡ a.node.kept.snap.bytes
        at_or_below index h = cond_both (nat_lt a.node.raft.commit index) came a.node.kept.snap.bytes (λ (x : List ℕ). x ≡ a.node.kept.snap.bytes) (λ q. absurd (let l : a.node.raft.commit < index = ltb-true _ _ q in omega (arith, l, h))) (λ q. refl)

    message : (m : Message) → bytes ≡ cond (nat_lt a.node.raft.commit (raft_after me a (Receive m)).snapshot.index) came a.node.kept.snap.bytes → BytesAfter setup me came a (Receive m) bytes
    message m e = ⊎_elim
        (λ (same : (raft_after me a (Receive m)).snapshot ≡ a.node.raft.snapshot).
        kept_bytes same (e ∙ cond-false (nat_lt a.node.raft.commit (raft_after me a (Receive m)).snapshot.index) came a.node.kept.snap.bytes (below (raft_after me a (Receive m)).snapshot.index (let q : (raft_after me a (Receive m)).snapshot.index ≡ a.node.raft.snapshot.index = ap (λ (l : LogEnd). l.index) same in omega (arith, q, low)))))
        (λ (x : (a.node.raft.commit < (raft_after me a (Receive m)).snapshot.index) × ((raft_after me a (Receive m)).role ≡ Follower)).
        brought_bytes m refl x.0 (e ∙ cond-true (nat_lt a.node.raft.commit (raft_after me a (Receive m)).snapshot.index) came a.node.kept.snap.bytes (lt-ltb _ _ x.0)))
        (received (λ log. voters a.node.raft.servers) me (node_of a.node.raft) m)
      where
        below : (index : ℕ) → index ≤ a.node.raft.commit → nat_lt a.node.raft.commit index ≡ false
        below index h = le-ltb a.node.raft.commit index h

    by : (j : Input) → IsNoSnapped j → bytes ≡ cond (nat_lt a.node.raft.commit (raft_after me a j).snapshot.index) came a.node.kept.snap.bytes → BytesAfter setup me came a j bytes
    by (Receive m) o e = message m e
    by (Local Timeout) o e = stays_local (Local Timeout) o (λ m q. cc) e
    by (Local Beat) o e = stays_local (Local Beat) o (λ m q. cc) e
    by (Local Yield) o e = stays_local (Local Yield) o (λ m q. cc) e
    by (Local (Propose es)) o e = stays_local (Local (Propose es)) o (λ m q. cc) e
    by (Local (Transfer to)) o e = stays_local (Local (Transfer to)) o (λ m q. cc) e
    by (Local (Snapped index)) o e = absurd o
    by (Local (UseServers servers)) o e = stays_local (Local (UseServers servers)) o (λ m q. cc) e
