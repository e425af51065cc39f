-- What one step does to the log, the snapshot and the cut of a node, and what it says of snapshots: what a node keeps goes by it.
use Rattle.std.proofs.Common.{◌≡◌, ◌≢◌, ℕ, ◌<◌, ◌≤◌, Bool, true, false, List, [], ◌∷◌, ◌++◌, length, map, refl, arith}
use Rattle.std.specs.Prelude.{◌-◌, ◌&&◌, ◌==◌, not, nat_lt, nat_le}
use Rattle.std.proofs.lemmas.Bool.{cond_both, and_parts, ltb-true, ltb-false, leb-false}
use Rattle.raft_spec.specs.Log.{Entry, LogEnd, matches}
use Rattle.raft_spec.specs.Node.{Role, Leader, Candidate, Follower, What, AskVote, Vote, Append, Ack, Install, TimeoutNow, Message, Node, Server, Outcome, among, peers, majority, voters, is_leader, is_candidate, Timeout, Beat, Yield, Propose, Transfer, Snapped, UseServers, Input, Local, Receive}
use Rattle.raft_spec.specs.Outcomes.{quiet, in_newer_term, with_grants, with_log}
use Rattle.raft_spec.specs.Elections.{as_candidate, ask_vote, on_grants, may_start_election, on_yield, start_election, on_ask_vote, grants_with}
use Rattle.raft_spec.specs.Elections.{grants_vote, on_vote}
use Rattle.raft_spec.specs.Replication.{agrees, replaces_committed, take_entries, on_append, on_ack, on_propose, on_beat, on_transfer}
use Rattle.raft_spec.specs.Snapshots.{on_install, needs_snapshot}
use Rattle.raft_spec.specs.Membership.{on_servers}
use Rattle.raft_spec.specs.Commitment.{commit_index}
use Rattle.raft_spec.specs.Receiving.{on_own_term, on_older_term, in_range, fits_the_wire, what_in_range, on_message}
use Rattle.raft_spec.specs.Steps.{message_to, finish, serve, raft_step}
use Rattle.raft_spec.specs.Compaction.{compact, compact_what, compact_message, compacted_step}
use Rattle.raft_on_disk.specs.Terms.{HasTerm}

-- ---- what is shown of a rule

-- if a log, a snapshot's end, a cut and a commit index go: they stay; the log is another one, in a term; or a snapshot past the commit
-- index comes, of which the log has the end, or after which it is empty
pub data Moves (log : List Entry) (snapshot : LogEnd) (base commit : ℕ) (t : Node) : Type 0 where
  stays : t.log ≡ log → t.snapshot ≡ snapshot → t.base ≡ base → Moves log snapshot base commit t
  writes : t.term ≢ 0 → t.snapshot ≡ snapshot → t.base ≡ base → Moves log snapshot base commit t
  cuts : t.term ≢ 0 → commit < t.snapshot.index → t.base ≡ t.snapshot.index → matches log t.snapshot ≡ true → t.log ≡ log → Moves log snapshot base commit t
  clears : t.term ≢ 0 → commit < t.snapshot.index → t.base ≡ t.snapshot.index → matches log t.snapshot ≡ false → length t.log ≡ t.base → Moves log snapshot base commit t

-- none of these messages is an Install
abbrev pub IsOther : What → Type 0
IsOther (Install last front) = ⊥
IsOther (AskVote last transfer) = Unit {0}
IsOther (Vote granted) = Unit {0}
IsOther (Append prev commit entries) = Unit {0}
IsOther (Ack good index) = Unit {0}
IsOther TimeoutNow = Unit {0}

abbrev pub AreOthers : List Message → Type 0
AreOthers [] = Unit {0}
AreOthers (m ∷ ms) = IsOther m.what × AreOthers ms

abbrev Sound : Node → Outcome → Type 0
Sound s d = HasTerm d.node × Moves s.log s.snapshot s.base s.commit d.node × AreOthers d.out

-- the front of an Install is as long as its end says
abbrev pub IsFront : What → Type 0
IsFront (Install last front) = length front ≡ last.index
IsFront (AskVote last transfer) = Unit {0}
IsFront (Vote granted) = Unit {0}
IsFront (Append prev commit entries) = Unit {0}
IsFront (Ack good index) = Unit {0}
IsFront TimeoutNow = Unit {0}

still : (s : Node) → HasTerm s → Sound s (quiet s)
still s h = (h, stays refl refl refl, tt)

none : {A : Type 0} → Follower ≢ Follower → A
none n = absurd (n refl)

stands : (r : Role) → is_candidate r ≡ true → r ≢ Follower
stands Leader e = absurd cc
stands Candidate e = λ f. absurd cc
stands Follower e = absurd cc

leads : (r : Role) → is_leader r ≡ true → r ≢ Follower
leads Leader e = λ f. absurd cc
leads Candidate e = absurd cc
leads Follower e = absurd cc

-- ---- elections

asks : (transfer : Bool) (me : ℕ) (s : Node) (ids : List ℕ) → AreOthers (map (ask_vote me s transfer) ids)
asks transfer me s [] = tt
asks transfer me s (x ∷ xs) = (tt, asks transfer me s xs)

counted : (voters_of : List Entry → List ℕ) (me : ℕ) (s : Node) (out : List Message) → s.term ≢ 0 → AreOthers out → Sound s (on_grants voters_of me s out)
unfolding on_grants
counted voters_of me s out nz o = cond_both (majority (voters_of s.log) (among s.grants)) _ _ (Sound s)
    (λ e. (((λ r. nz), (λ l. nz)), writes nz refl refl, o))
    (λ e. (((λ r. nz), (λ l. nz)), stays refl refl refl, o))

stood : (transfer : Bool) (voters_of : List Entry → List ℕ) (me : ℕ) (s : Node) → HasTerm s → Sound s (start_election voters_of me s transfer)
unfolding start_election
stood transfer voters_of me s h = cond_both (may_start_election voters_of me s) _ _ (Sound s)
    (λ e. counted voters_of me (as_candidate me s) _ (λ z. omega arith) (asks transfer me (as_candidate me s) _))
    (λ e. still s h)

voted : (voters_of : List Entry → List ℕ) (me : ℕ) (s : Node) (from : ℕ) (granted : Bool) → HasTerm s → Sound s (on_vote voters_of me s from granted)
unfolding on_vote
voted voters_of me s from granted h = cond_both (granted && is_candidate s.role) _ _ (Sound s)
    (λ e. counted voters_of me (with_grants s (grants_with (voters_of s.log) s.grants from)) [] (h.0 (stands s.role (and_parts _ _ e).1)) tt)
    (λ e. still s h)

asked : (me : ℕ) (s : Node) (from : ℕ) (last : LogEnd) → HasTerm s → Sound s (on_ask_vote me s from last)
unfolding on_ask_vote
asked me s from last h = cond_both (grants_vote s from last) _ _ (Sound s) (λ e. (h, stays refl refl refl, (tt, tt))) (λ e. (h, stays refl refl refl, (tt, tt)))

-- ---- logs and snapshots

appended : (me : ℕ) (s : Node) (from : ℕ) (prev : LogEnd) (commit : ℕ) (es : List Entry) → s.term ≢ 0 → HasTerm s → Sound s (on_append me s from prev commit es)
unfolding on_append take_entries
appended me s from prev commit es nz h = cond_both (is_leader s.role) _ _ (Sound s) (λ e. still s h)
    (λ e. cond_both (agrees s prev) _ _ (Sound s)
    (λ a. cond_both (replaces_committed s prev es) _ _ (Sound s) (λ r. still s h) (λ r. (((λ r. nz), (λ l. nz)), writes nz refl refl, (tt, tt))))
    (λ a. (((λ r. nz), (λ l. nz)), stays refl refl refl, (tt, tt))))

acked : (me : ℕ) (s : Node) (from : ℕ) (good : Bool) (index : ℕ) → HasTerm s → Sound s (on_ack me s from good index)
unfolding on_ack
acked me s from true index h = cond_both (is_leader s.role && among (peers s.servers me) from && nat_le index (length s.log)) _ _ (Sound s) (λ e. (h, stays refl refl refl, tt)) (λ e. still s h)
acked me s from false index h = cond_both (is_leader s.role && among (peers s.servers me) from) _ _ (Sound s) (λ e. (h, stays refl refl refl, tt)) (λ e. still s h)

installs : (me : ℕ) (s : Node) (from : ℕ) (last : LogEnd) (front : List Entry) → s.term ≢ 0 → length front ≡ last.index → HasTerm s → Sound s (on_install me s from last front)
unfolding on_install
installs me s from last front nz size h = cond_both (is_leader s.role) _ _ (Sound s) (λ e. still s h)
    (λ e. cond_both (nat_le last.index s.commit) _ _ (Sound s) (λ a. (((λ r. nz), (λ l. nz)), stays refl refl refl, (tt, tt)))
    (λ a. let past : s.commit < last.index = leb-false _ _ a in
    cond_both (matches s.log last) _ _ (Sound s)
    (λ b. (((λ r. nz), (λ l. nz)), cuts nz past refl b refl, (tt, tt)))
    (λ b. (((λ r. nz), (λ l. nz)), clears nz past refl b size, (tt, tt)))))

proposes : (s : Node) (es : List Entry) → HasTerm s → Sound s (on_propose s es)
unfolding on_propose
proposes s es h = cond_both (is_leader s.role) _ _ (Sound s) (λ e. (h, writes (h.0 (leads s.role e)) refl refl, tt)) (λ e. still s h)

beats : (s : Node) → HasTerm s → Sound s (on_beat s)
unfolding on_beat
beats s h = cond_both (is_leader s.role) _ _ (Sound s) (λ e. (h, stays refl refl refl, tt)) (λ e. still s h)

yields : (s : Node) → HasTerm s → Sound s (on_yield s)
unfolding on_yield
yields s h =
    cond_both (is_leader s.role && nat_lt s.term 4294967295) _ _ (Sound s) (λ e. (((λ r. none r), (λ l z. omega arith)), stays refl refl refl, tt))
    (λ e. still s h)

hands : (me : ℕ) (s : Node) (to : ℕ) → HasTerm s → Sound s (on_transfer me s to)
unfolding on_transfer
hands me s to h = cond_both (is_leader s.role && not (to == me)) _ _ (Sound s) (λ e. (h, stays refl refl refl, (tt, tt))) (λ e. still s h)

hears : (me : ℕ) (s : Node) (servers : List Server) → HasTerm s → Sound s (on_servers me s servers)
unfolding on_servers
hears me s servers h = cond_both (is_leader s.role) _ _ (Sound s) (λ e. (h, stays refl refl refl, tt)) (λ e. (h, stays refl refl refl, tt))

-- ---- messages

in_turn : (voters_of : List Entry → List ℕ) (me : ℕ) (s : Node) (from : ℕ) (w : What) → s.term ≢ 0 → IsFront w → HasTerm s → Sound s (on_own_term voters_of me s from w)
in_turn voters_of me s from (AskVote last transfer) nz f h = asked me s from last h
in_turn voters_of me s from (Vote granted) nz f h = voted voters_of me s from granted h
in_turn voters_of me s from (Append prev commit es) nz f h = appended me s from prev commit es nz h
in_turn voters_of me s from (Ack good index) nz f h = acked me s from good index h
in_turn voters_of me s from (Install last front) nz f h = installs me s from last front nz f h
in_turn voters_of me s from TimeoutNow nz f h = stood true voters_of me s h

late : (me : ℕ) (s : Node) (from : ℕ) (w : What) → HasTerm s → Sound s (on_older_term me s from w)
late me s from (AskVote last transfer) h = (h, stays refl refl refl, (tt, tt))
late me s from (Vote granted) h = still s h
late me s from (Append prev commit es) h = (h, stays refl refl refl, (tt, tt))
late me s from (Ack good index) h = still s h
late me s from (Install last front) h = (h, stays refl refl refl, (tt, tt))
late me s from TimeoutNow h = still s h

-- a message that a node looks at has a term
has_term : (own : ℕ) (m : Message) → in_range own m ≡ true → 0 < m.term
unfolding in_range
has_term own m e =
    let n = nat_le (m.term - own) 1000000 in
    let a = nat_lt 0 m.term in
    let b = nat_lt 0 m.from in
    let c = fits_the_wire m.term in
    let d = what_in_range m.what in
    ltb-true 0 m.term (and_parts n a (and_parts (n && a) b (and_parts (n && a && b) c (and_parts (n && a && b && c) d e).0).0).0).1

comes : (voters_of : List Entry → List ℕ) (me : ℕ) (s : Node) (m : Message) → IsFront m.what → HasTerm s → Sound s (on_message voters_of me s m)
unfolding on_message
comes voters_of me s m f h = cond_both (in_range s.term m) _ _ (Sound s)
    (λ e. let pos : 0 < m.term = has_term s.term m e in
    cond_both (nat_lt m.term s.term) _ _ (Sound s) (λ o. late me s m.from m.what h)
    (λ o. let upto : s.term ≤ m.term = ltb-false _ _ o in
    cond_both (nat_lt s.term m.term) _ _ (Sound s)
    (λ n. in_turn voters_of me (in_newer_term s m.term) m.from m.what (λ z. omega arith) f ((λ r. none r), (λ l z. omega arith)))
    (λ n. let down : m.term ≤ s.term = ltb-false _ _ n in in_turn voters_of me s m.from m.what (λ z. omega arith) f h)))
    (λ e. still s h)

-- ---- whole steps

-- an Install speaks of the snapshot that ends there
abbrev pub SpeaksOf : LogEnd → What → Type 0
SpeaksOf end (Install last front) = last ≡ end
SpeaksOf end (AskVote last transfer) = Unit {0}
SpeaksOf end (Vote granted) = Unit {0}
SpeaksOf end (Append prev commit entries) = Unit {0}
SpeaksOf end (Ack good index) = Unit {0}
SpeaksOf end TimeoutNow = Unit {0}

abbrev pub SpeakOf : LogEnd → List Message → Type 0
SpeakOf end [] = Unit {0}
SpeakOf end (m ∷ ms) = SpeaksOf end m.what × SpeakOf end ms

other_speaks : (end : LogEnd) (w : What) → IsOther w → SpeaksOf end w
other_speaks end (Install last front) o = absurd o
other_speaks end (AskVote last transfer) o = tt
other_speaks end (Vote granted) o = tt
other_speaks end (Append prev commit entries) o = tt
other_speaks end (Ack good index) o = tt
other_speaks end TimeoutNow o = tt

pub others_speak : (end : LogEnd) (ms : List Message) → AreOthers ms → SpeakOf end ms
others_speak end [] o = tt
others_speak end (m ∷ ms) o = (other_speaks end m.what o.0, others_speak end ms o.1)

pub both_speak : (end : LogEnd) (xs ys : List Message) → SpeakOf end xs → SpeakOf end ys → SpeakOf end (xs ++ ys)
both_speak end [] ys a b = b
both_speak end (x ∷ xs) ys a b = (a.0, both_speak end xs ys a.1 b)

pub sent_speaks : (me : ℕ) (s : Node) (ps : List ℕ) → SpeakOf s.snapshot (map (message_to me s) ps)
unfolding message_to
sent_speaks me s [] = tt
sent_speaks me s (p ∷ ps) = (cond_both (needs_snapshot s (s.next_of p)) _ _ (SpeaksOf s.snapshot) (λ e. refl) (λ e. tt), sent_speaks me s ps)

abbrev Ended : Node → Outcome → Type 0
Ended s d = HasTerm d.node × Moves s.log s.snapshot s.base s.commit d.node × SpeakOf d.node.snapshot d.out

kept_moves : (log : List Entry) (snapshot : LogEnd) (base commit : ℕ) (t : Node) (more : ℕ) → Moves log snapshot base commit t → Moves log snapshot base commit (with_log t t.log more)
kept_moves log snapshot base commit t more (stays a b c) = stays a b c
kept_moves log snapshot base commit t more (writes a b c) = writes a b c
kept_moves log snapshot base commit t more (cuts a b c d e) = cuts a b c d e
kept_moves log snapshot base commit t more (clears a b c d e) = clears a b c d e

ends : (voters_of : List Entry → List ℕ) (me : ℕ) (s : Node) (d : Outcome) → Sound s d → Ended s (finish voters_of me d)
unfolding finish
ends voters_of me s d h = cond_both (is_leader d.node.role) _ _ (Ended s)
    (λ e. (let nz = h.0.0 (leads d.node.role e) in ((λ r. nz), (λ l. nz)), kept_moves _ _ _ _ d.node (commit_index voters_of me d.node) h.1, both_speak d.node.snapshot d.out _ (others_speak d.node.snapshot d.out h.2) (sent_speaks me (with_log d.node d.node.log (commit_index voters_of me d.node)) _)))
    (λ e. (h.0, h.1, others_speak d.node.snapshot d.out h.2))

serves : (me : ℕ) (s : Node) (d : Outcome) → Sound s d → Ended s (serve me d)
unfolding serve
serves me s d h = cond_both (is_leader d.node.role) _ _ (Ended s)
    (λ e. (h.0, h.1, both_speak d.node.snapshot d.out _ (others_speak d.node.snapshot d.out h.2) (sent_speaks me d.node _)))
    (λ e. (h.0, h.1, others_speak d.node.snapshot d.out h.2))

-- an input but that of an own snapshot, whose Install has a front that fits
abbrev pub IsIntake : Input → Type 0
IsIntake (Local (Snapped i)) = ⊥
IsIntake (Local Timeout) = Unit {0}
IsIntake (Local Beat) = Unit {0}
IsIntake (Local Yield) = Unit {0}
IsIntake (Local (Propose es)) = Unit {0}
IsIntake (Local (Transfer to)) = Unit {0}
IsIntake (Local (UseServers servers)) = Unit {0}
IsIntake (Receive m) = IsFront m.what

whole : (voters_of : List Entry → List ℕ) (me : ℕ) (s : Node) (i : Input) → IsIntake i → HasTerm s → Ended s (raft_step voters_of me s i)
unfolding raft_step
whole voters_of me s (Receive m) x h = ends voters_of me s _ (comes voters_of me s m x h)
whole voters_of me s (Local Timeout) x h = ends voters_of me s _ (stood false voters_of me s h)
whole voters_of me s (Local Beat) x h = ends voters_of me s _ (beats s h)
whole voters_of me s (Local Yield) x h = ends voters_of me s _ (yields s h)
whole voters_of me s (Local (Propose es)) x h = ends voters_of me s _ (proposes s es h)
whole voters_of me s (Local (Transfer to)) x h = ends voters_of me s _ (hands me s to h)
whole voters_of me s (Local (Snapped i)) x h = absurd x
whole voters_of me s (Local (UseServers servers)) x h = serves me s _ (hears me s servers h)

-- ---- steps of a node that has compacted its log

compact_speaks : (end : LogEnd) (w : What) → SpeaksOf end w → SpeaksOf end (compact_what w)
compact_speaks end (Install last front) s = s
compact_speaks end (AskVote last transfer) s = tt
compact_speaks end (Vote granted) s = tt
compact_speaks end (Append prev commit entries) s = tt
compact_speaks end (Ack good index) s = tt
compact_speaks end TimeoutNow s = tt

pub all_compact : (end : LogEnd) (ms : List Message) → SpeakOf end ms → SpeakOf end (map compact_message ms)
all_compact end [] s = tt
all_compact end (m ∷ ms) s = (compact_speaks end m.what s.0, all_compact end ms s.1)

-- the step keeps that who leads or stands has a term
pub step_has_term : (me : ℕ) (s : Node) (i : Input) → IsIntake i → HasTerm s → HasTerm (compacted_step me s i).node
unfolding compacted_step
step_has_term me s i x h = (whole (λ log. voters s.servers) me s i x h).0

-- each Install that it says speaks of the snapshot after it
pub step_speaks : (me : ℕ) (s : Node) (i : Input) → IsIntake i → HasTerm s → SpeakOf (compacted_step me s i).node.snapshot (compacted_step me s i).out
unfolding compacted_step
step_speaks me s i x h = all_compact _ (raft_step (λ log. voters s.servers) me s i).out (whole (λ log. voters s.servers) me s i x h).2

-- where the log goes: the node before what is compacted is put away
pub step_moves : (me : ℕ) (s : Node) (i : Input) → IsIntake i → HasTerm s → (u : Node) × ((compacted_step me s i).node ≡ compact u) × Moves s.log s.snapshot s.base s.commit u
unfolding compacted_step
step_moves me s i x h = ((raft_step (λ log. voters s.servers) me s i).node, refl, (whole (λ log. voters s.servers) me s i x h).1)
