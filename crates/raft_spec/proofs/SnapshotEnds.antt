-- Each step keeps the snapshot, or has one of which its input tells.
use Rattle.std.proofs.Common.{◌≡◌, ◌⊎◌, inl, inr, ℕ, Bool, true, false, List, refl, sym, ap, subst, ◌∙◌, ⊎_elim}
use Rattle.std.specs.Prelude.{◌&&◌, nat_lt, nat_le}
use Rattle.std.proofs.lemmas.Bool.{cond_both}
use Rattle.raft_spec.specs.Log.{Entry, LogEnd, matches}
use Rattle.raft_spec.specs.Node.{What, AskVote, Vote, Append, Ack, Install, TimeoutNow, Message, Node, Server, Outcome, is_leader, is_candidate, Timeout}
use Rattle.raft_spec.specs.Node.{Beat, Yield, Propose, Transfer, Snapped, UseServers, Local, Receive}
use Rattle.raft_spec.specs.Outcomes.{in_newer_term, with_grants}
use Rattle.raft_spec.specs.Elections.{as_candidate, on_grants, may_start_election, on_yield, start_election, on_ask_vote, grants_with, on_vote}
use Rattle.raft_spec.specs.Replication.{agrees, replaces_committed, take_entries, on_append, on_ack, on_propose, on_beat, on_transfer}
use Rattle.raft_spec.specs.Snapshots.{on_install, on_snapped}
use Rattle.raft_spec.specs.Membership.{on_servers}
use Rattle.raft_spec.specs.Receiving.{on_own_term, on_older_term, in_range, on_message}
use Rattle.raft_spec.specs.Steps.{finish, serve, raft_step}
use Rattle.raft_spec.specs.Laws.{BringsSnapshot, SnapshotsCome}

-- a rule keeps this snapshot
abbrev Keeps : LogEnd → Outcome → Type 0
Keeps x d = d.node.snapshot ≡ x

-- or has one that the message brings
abbrev Comes : LogEnd → What → Outcome → Type 0
Comes x w d = (d.node.snapshot ≡ x) ⊎ BringsSnapshot w d.node.snapshot

counted : (voters_of : List Entry → List ℕ) (me : ℕ) (s : Node) (out : List Message) → Keeps s.snapshot (on_grants voters_of me s out)
unfolding on_grants
counted voters_of me s out = cond_both _ _ _ (Keeps s.snapshot) (λ e. refl) (λ e. refl)

stood : (transfer : Bool) (voters_of : List Entry → List ℕ) (me : ℕ) (s : Node) → Keeps s.snapshot (start_election voters_of me s transfer)
unfolding start_election
stood transfer voters_of me s = cond_both (may_start_election voters_of me s) _ _ (Keeps s.snapshot) (λ e. counted voters_of me (as_candidate me s) _) (λ e. refl)

voted : (voters_of : List Entry → List ℕ) (me : ℕ) (s : Node) (from : ℕ) (granted : Bool) → Keeps s.snapshot (on_vote voters_of me s from granted)
unfolding on_vote
voted voters_of me s from granted = cond_both (granted && is_candidate s.role) _ _ (Keeps s.snapshot) (λ e. counted voters_of me (with_grants s (grants_with (voters_of s.log) s.grants from)) _) (λ e. refl)

asked : (me : ℕ) (s : Node) (from : ℕ) (last : LogEnd) → Keeps s.snapshot (on_ask_vote me s from last)
unfolding on_ask_vote
asked me s from last = cond_both _ _ _ (Keeps s.snapshot) (λ e. refl) (λ e. refl)

appended : (me : ℕ) (s : Node) (from : ℕ) (prev : LogEnd) (commit : ℕ) (es : List Entry) → Keeps s.snapshot (on_append me s from prev commit es)
unfolding on_append take_entries
appended me s from prev commit es = cond_both (is_leader s.role) _ _ (Keeps s.snapshot) (λ e. refl)
    (λ e. cond_both (agrees s prev) _ _ (Keeps s.snapshot) (λ a. cond_both (replaces_committed s prev es) _ _ (Keeps s.snapshot) (λ r. refl) (λ r. refl)) (λ a. refl))

acked : (me : ℕ) (s : Node) (from : ℕ) (good : Bool) (index : ℕ) → Keeps s.snapshot (on_ack me s from good index)
unfolding on_ack
acked me s from true index = cond_both _ _ _ (Keeps s.snapshot) (λ e. refl) (λ e. refl)
acked me s from false index = cond_both _ _ _ (Keeps s.snapshot) (λ e. refl) (λ e. refl)

installs : (me : ℕ) (s : Node) (from : ℕ) (last : LogEnd) (front : List Entry) → Comes s.snapshot (Install last front) (on_install me s from last front)
unfolding on_install
installs me s from last front = cond_both (is_leader s.role) _ _ (Comes s.snapshot (Install last front)) (λ e. inl refl)
    (λ e. cond_both (nat_le last.index s.commit) _ _ (Comes s.snapshot (Install last front)) (λ a. inl refl) (λ a. cond_both (matches s.log last) _ _ (Comes s.snapshot (Install last front)) (λ b. inr refl) (λ b. inr refl)))

-- ---- messages

in_turn : (voters_of : List Entry → List ℕ) (me : ℕ) (s : Node) (from : ℕ) (w : What) → Comes s.snapshot w (on_own_term voters_of me s from w)
in_turn voters_of me s from (AskVote last transfer) = inl (asked me s from last)
in_turn voters_of me s from (Vote granted) = inl (voted voters_of me s from granted)
in_turn voters_of me s from (Append prev commit es) = inl (appended me s from prev commit es)
in_turn voters_of me s from (Ack good index) = inl (acked me s from good index)
in_turn voters_of me s from (Install last front) = installs me s from last front
in_turn voters_of me s from TimeoutNow = inl (stood true voters_of me s)

late : (me : ℕ) (s : Node) (from : ℕ) (w : What) → Keeps s.snapshot (on_older_term me s from w)
late me s from (AskVote last transfer) = refl
late me s from (Vote granted) = refl
late me s from (Append prev commit es) = refl
late me s from (Ack good index) = refl
late me s from (Install last front) = refl
late me s from TimeoutNow = refl

-- so of each message
pub message_snapshot : (voters_of : List Entry → List ℕ) (me : ℕ) (s : Node) (m : Message) → ((on_message voters_of me s m).node.snapshot ≡ s.snapshot) ⊎ BringsSnapshot m.what (on_message voters_of me s m).node.snapshot
unfolding on_message
message_snapshot voters_of me s m = cond_both (in_range s.term m) _ _ (Comes s.snapshot m.what)
    (λ e. cond_both (nat_lt m.term s.term) _ _ (Comes s.snapshot m.what) (λ o. inl (late me s m.from m.what))
    (λ o. cond_both (nat_lt s.term m.term) _ _ (Comes s.snapshot m.what) (λ n. in_turn voters_of me (in_newer_term s m.term) m.from m.what) (λ n. in_turn voters_of me s m.from m.what)))
    (λ e. inl refl)

-- ---- other rules

pub stands_snapshot : (transfer : Bool) (voters_of : List Entry → List ℕ) (me : ℕ) (s : Node)
    → (start_election voters_of me s transfer).node.snapshot ≡ s.snapshot
stands_snapshot transfer voters_of me s = stood transfer voters_of me s

pub proposes_snapshot : (s : Node) (es : List Entry) → (on_propose s es).node.snapshot ≡ s.snapshot
unfolding on_propose
proposes_snapshot s es = cond_both _ _ _ (Keeps s.snapshot) (λ e. refl) (λ e. refl)

pub beats_snapshot : (s : Node) → (on_beat s).node.snapshot ≡ s.snapshot
unfolding on_beat
beats_snapshot s = cond_both _ _ _ (Keeps s.snapshot) (λ e. refl) (λ e. refl)

pub yields_snapshot : (s : Node) → (on_yield s).node.snapshot ≡ s.snapshot
unfolding on_yield
yields_snapshot s = cond_both _ _ _ (Keeps s.snapshot) (λ e. refl) (λ e. refl)

pub hands_snapshot : (me : ℕ) (s : Node) (to : ℕ) → (on_transfer me s to).node.snapshot ≡ s.snapshot
unfolding on_transfer
hands_snapshot me s to = cond_both _ _ _ (Keeps s.snapshot) (λ e. refl) (λ e. refl)

snaps : (s : Node) (i : ℕ) → ((on_snapped s i).node.snapshot ≡ s.snapshot) ⊎ ((on_snapped s i).node.snapshot.index ≡ i)
unfolding on_snapped
snaps s i = cond_both _ _ _ (λ (d : Outcome). (d.node.snapshot ≡ s.snapshot) ⊎ (d.node.snapshot.index ≡ i)) (λ e. inr refl) (λ e. inl refl)

hears : (me : ℕ) (s : Node) (servers : List Server) → (on_servers me s servers).node.snapshot ≡ s.snapshot
unfolding on_servers
hears me s servers = cond_both _ _ _ (Keeps s.snapshot) (λ e. refl) (λ e. refl)

-- ---- whole steps

-- the end of a step keeps it
pub ends_snapshot : (voters_of : List Entry → List ℕ) (me : ℕ) (d : Outcome) → (finish voters_of me d).node.snapshot ≡ d.node.snapshot
unfolding finish
ends_snapshot voters_of me d = cond_both _ _ _ (Keeps d.node.snapshot) (λ e. refl) (λ e. refl)

serves : (me : ℕ) (d : Outcome) → (serve me d).node.snapshot ≡ d.node.snapshot
unfolding serve
serves me d = cond_both _ _ _ (Keeps d.node.snapshot) (λ e. refl) (λ e. refl)

pub snapshots_come_holds : SnapshotsCome
unfolding raft_step
snapshots_come_holds voters_of me s (Receive m) =
    let e = ends_snapshot voters_of me (on_message voters_of me s m) in
    ⊎_elim (λ (x : (on_message voters_of me s m).node.snapshot ≡ s.snapshot). inl (e ∙ x)) (λ (x : BringsSnapshot m.what (on_message voters_of me s m).node.snapshot). inr (subst (BringsSnapshot m.what) (sym e) x)) (message_snapshot voters_of me s m)
snapshots_come_holds voters_of me s (Local Timeout) = inl (ends_snapshot voters_of me (start_election voters_of me s false) ∙ stood false voters_of me s)
snapshots_come_holds voters_of me s (Local Beat) = inl (ends_snapshot voters_of me (on_beat s) ∙ beats_snapshot s)
snapshots_come_holds voters_of me s (Local Yield) = inl (ends_snapshot voters_of me (on_yield s) ∙ yields_snapshot s)
snapshots_come_holds voters_of me s (Local (Propose es)) = inl (ends_snapshot voters_of me (on_propose s es) ∙ proposes_snapshot s es)
snapshots_come_holds voters_of me s (Local (Transfer to)) = inl (ends_snapshot voters_of me (on_transfer me s to) ∙ hands_snapshot me s to)
snapshots_come_holds voters_of me s (Local (Snapped i)) =
    let e = ends_snapshot voters_of me (on_snapped s i) in
    ⊎_elim (λ (x : (on_snapped s i).node.snapshot ≡ s.snapshot). inl (e ∙ x)) (λ (x : (on_snapped s i).node.snapshot.index ≡ i). inr (ap (λ (l : LogEnd). l.index) e ∙ x)) (snaps s i)
snapshots_come_holds voters_of me s (Local (UseServers servers)) = inl (serves me (on_servers me s servers) ∙ hears me s servers)
