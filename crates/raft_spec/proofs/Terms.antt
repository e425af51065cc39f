-- Each step leaves a term of 32 bits to who leads or stands for election.
use Rattle.std.proofs.Common.{◌≡◌, ◌≢◌, ℕ, suc, ◌<◌, ◌≤◌, Bool, true, false, List, length, refl, arith}
use Rattle.std.specs.Prelude.{◌&&◌, not, nat_lt, nat_le}
use Rattle.std.proofs.lemmas.Bool.{cond_both, and_parts, ltb-true}
use Rattle.raft_spec.specs.Log.{Entry, LogEnd, matches}
use Rattle.raft_spec.specs.Node.{Role, Leader, Candidate, Follower, What, AskVote, Vote, Append, Ack, Install, TimeoutNow, Message, Node, Server, Outcome, voters, among, is_leader, is_candidate, Timeout, Beat, Yield, Propose, Transfer, Snapped, UseServers, Local, Receive}
use Rattle.raft_spec.specs.Outcomes.{in_newer_term, with_grants}
use Rattle.raft_spec.specs.Elections.{as_candidate, on_grants, may_start_election, on_yield, start_election, on_ask_vote, grants_with, on_vote}
use Rattle.raft_spec.specs.Replication.{agrees, replaces_committed, take_entries, on_append, on_ack, on_propose, on_beat, on_transfer}
use Rattle.raft_spec.specs.Snapshots.{on_install, on_snapped}
use Rattle.raft_spec.specs.Membership.{on_servers}
use Rattle.raft_spec.specs.Receiving.{on_own_term, on_older_term, in_range, on_message}
use Rattle.raft_spec.specs.Steps.{finish, serve, raft_step}
use Rattle.raft_spec.specs.Compaction.{compacted_step}
use Rattle.raft_spec.specs.Laws.{HasShortTerm, TermsStayShort, CutTermsStayShort}

-- a follower may have any term
none : {A : Type 0} → Follower ≢ Follower → A
none n = absurd (n refl)

-- so of what a rule makes
abbrev Short : Outcome → Type 0
Short d = HasShortTerm d.node

follows : (s : Node) → s.role ≡ Follower → HasShortTerm s
follows s e n = absurd (n e)

stands : (r : Role) → is_candidate r ≡ true → r ≢ Follower
stands Leader e = absurd cc
stands Candidate e = λ f. absurd cc
stands Follower e = absurd cc

-- ---- elections

counted : (voters_of : List Entry → List ℕ) (me : ℕ) (s : Node) (out : List Message) → s.term ≤ 4294967295 → Short (on_grants voters_of me s out)
unfolding on_grants
counted voters_of me s out le = cond_both _ _ _ Short (λ e n. le) (λ e n. le)

raised : (a b : Bool) (term : ℕ) → (a && nat_lt term 4294967295 && b) ≡ true → suc term ≤ 4294967295
raised a b term e = let lt : term < 4294967295 = ltb-true _ _ (and_parts a (nat_lt term 4294967295) (and_parts (a && nat_lt term 4294967295) b e).0).1 in omega arith

stood : (transfer : Bool) (voters_of : List Entry → List ℕ) (me : ℕ) (s : Node) → HasShortTerm s → Short (start_election voters_of me s transfer)
unfolding start_election may_start_election
stood transfer voters_of me s h = cond_both (may_start_election voters_of me s) _ _ Short
    (λ e. counted voters_of me (as_candidate me s) _ (raised (among (voters_of s.log) me && nat_lt 0 me && not (is_leader s.role)) (nat_lt (length s.log) 4294900000) s.term e))
    (λ e. h)

voted : (voters_of : List Entry → List ℕ) (me : ℕ) (s : Node) (from : ℕ) (granted : Bool) → HasShortTerm s → Short (on_vote voters_of me s from granted)
unfolding on_vote
voted voters_of me s from granted h = cond_both (granted && is_candidate s.role) _ _ Short
    (λ e. counted voters_of me (with_grants s (grants_with (voters_of s.log) s.grants from)) _ (h (stands s.role (and_parts _ _ e).1)))
    (λ e. h)

asked : (me : ℕ) (s : Node) (from : ℕ) (last : LogEnd) → HasShortTerm s → Short (on_ask_vote me s from last)
unfolding on_ask_vote
asked me s from last h = cond_both _ _ _ Short (λ e. h) (λ e. h)

-- ---- logs and snapshots

appended : (me : ℕ) (s : Node) (from : ℕ) (prev : LogEnd) (commit : ℕ) (es : List Entry) → HasShortTerm s → Short (on_append me s from prev commit es)
unfolding on_append take_entries
appended me s from prev commit es h = cond_both (is_leader s.role) _ _ Short (λ e. h)
    (λ e. cond_both (agrees s prev) _ _ Short
    (λ a. cond_both (replaces_committed s prev es) _ _ Short (λ r. h) (λ r n. none n))
    (λ a n. none n))

acked : (me : ℕ) (s : Node) (from : ℕ) (good : Bool) (index : ℕ) → HasShortTerm s → Short (on_ack me s from good index)
unfolding on_ack
acked me s from true index h = cond_both _ _ _ Short (λ e. h) (λ e. h)
acked me s from false index h = cond_both _ _ _ Short (λ e. h) (λ e. h)

installs : (me : ℕ) (s : Node) (from : ℕ) (last : LogEnd) (front : List Entry) → HasShortTerm s → Short (on_install me s from last front)
unfolding on_install
installs me s from last front h = cond_both (is_leader s.role) _ _ Short (λ e. h)
    (λ e. cond_both (nat_le last.index s.commit) _ _ Short (λ a n. none n) (λ a. cond_both (matches s.log last) _ _ Short (λ b n. none n) (λ b n. none n)))

proposes : (s : Node) (es : List Entry) → HasShortTerm s → Short (on_propose s es)
unfolding on_propose
proposes s es h = cond_both _ _ _ Short (λ e. h) (λ e. h)

beats : (s : Node) → HasShortTerm s → Short (on_beat s)
unfolding on_beat
beats s h = cond_both _ _ _ Short (λ e. h) (λ e. h)

yields : (s : Node) → HasShortTerm s → Short (on_yield s)
unfolding on_yield
yields s h = cond_both _ _ _ Short (λ e n. none n) (λ e. h)

hands : (me : ℕ) (s : Node) (to : ℕ) → HasShortTerm s → Short (on_transfer me s to)
unfolding on_transfer
hands me s to h = cond_both _ _ _ Short (λ e. h) (λ e. h)

snaps : (s : Node) (i : ℕ) → HasShortTerm s → Short (on_snapped s i)
unfolding on_snapped
snaps s i h = cond_both _ _ _ Short (λ e. h) (λ e. h)

hears : (me : ℕ) (s : Node) (servers : List Server) → HasShortTerm s → Short (on_servers me s servers)
unfolding on_servers
hears me s servers h = cond_both _ _ _ Short (λ e. h) (λ e. h)

-- ---- messages

in_turn : (voters_of : List Entry → List ℕ) (me : ℕ) (s : Node) (from : ℕ) (w : What) → HasShortTerm s → Short (on_own_term voters_of me s from w)
in_turn voters_of me s from (AskVote last transfer) h = asked me s from last h
in_turn voters_of me s from (Vote granted) h = voted voters_of me s from granted h
in_turn voters_of me s from (Append prev commit es) h = appended me s from prev commit es h
in_turn voters_of me s from (Ack good index) h = acked me s from good index h
in_turn voters_of me s from (Install last front) h = installs me s from last front h
in_turn voters_of me s from TimeoutNow h = stood true voters_of me s h

late : (me : ℕ) (s : Node) (from : ℕ) (w : What) → HasShortTerm s → Short (on_older_term me s from w)
late me s from (AskVote last transfer) h = h
late me s from (Vote granted) h = h
late me s from (Append prev commit es) h = h
late me s from (Ack good index) h = h
late me s from (Install last front) h = h
late me s from TimeoutNow h = h

comes : (voters_of : List Entry → List ℕ) (me : ℕ) (s : Node) (m : Message) → HasShortTerm s → Short (on_message voters_of me s m)
unfolding on_message
comes voters_of me s m h = cond_both (in_range s.term m) _ _ Short
    (λ e. cond_both (nat_lt m.term s.term) _ _ Short (λ o. late me s m.from m.what h)
    (λ o. cond_both (nat_lt s.term m.term) _ _ Short (λ n. in_turn voters_of me (in_newer_term s m.term) m.from m.what (follows (in_newer_term s m.term) refl)) (λ n. in_turn voters_of me s m.from m.what h)))
    (λ e. h)

-- ---- whole steps

ends : (voters_of : List Entry → List ℕ) (me : ℕ) (d : Outcome) → Short d → Short (finish voters_of me d)
unfolding finish
ends voters_of me d h = cond_both _ _ _ Short (λ e. h) (λ e. h)

serves : (me : ℕ) (d : Outcome) → Short d → Short (serve me d)
unfolding serve
serves me d h = cond_both _ _ _ Short (λ e. h) (λ e. h)

pub terms_stay_short_holds : TermsStayShort
unfolding raft_step
terms_stay_short_holds voters_of me s (Receive m) h = ends voters_of me _ (comes voters_of me s m h)
terms_stay_short_holds voters_of me s (Local Timeout) h = ends voters_of me _ (stood false voters_of me s h)
terms_stay_short_holds voters_of me s (Local Beat) h = ends voters_of me _ (beats s h)
terms_stay_short_holds voters_of me s (Local Yield) h = ends voters_of me _ (yields s h)
terms_stay_short_holds voters_of me s (Local (Propose es)) h = ends voters_of me _ (proposes s es h)
terms_stay_short_holds voters_of me s (Local (Transfer to)) h = ends voters_of me _ (hands me s to h)
terms_stay_short_holds voters_of me s (Local (Snapped i)) h = ends voters_of me _ (snaps s i h)
terms_stay_short_holds voters_of me s (Local (UseServers servers)) h = serves me _ (hears me s servers h)

pub cut_terms_stay_short_holds : CutTermsStayShort
unfolding compacted_step
cut_terms_stay_short_holds me s i h = terms_stay_short_holds (λ log. voters s.servers) me s i h
