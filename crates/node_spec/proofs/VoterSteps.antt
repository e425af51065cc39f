-- What a step of Raft does to the servers that a node was given, and to the log of a node that doesn't follow.
use Rattle.std.proofs.Common.{◌≡◌, ℕ, ◌≤◌, Bool, true, false, List, [], ◌∷◌, ◌++◌, length, refl, sym, ap, ◌∙◌, subst}
use Rattle.std.specs.Prelude.{◌≢◌, ◌==◌, ◌&&◌, ◌||◌, not, nat_lt, nat_le}
use Rattle.std.proofs.lemmas.Bool.{cond-true, cond_both}
use Rattle.raft_spec.specs.Log.{Entry, LogEnd, matches}
use Rattle.raft_spec.specs.Node.{Role, Leader, Candidate, Follower, What, AskVote, Vote, Append, Ack, Install, TimeoutNow, Message, Node, Server, Outcome, voters, among, peers, majority, is_leader, is_candidate, Timeout, Beat, Yield, Propose, Transfer, Snapped, UseServers, Input, Local, Receive}
use Rattle.raft_spec.specs.Outcomes.{in_newer_term, with_grants, with_log, with_term, barrier}
use Rattle.raft_spec.specs.Elections.{as_candidate, grants_with, on_grants, may_start_election, on_yield, start_election, grants_vote, on_ask_vote, on_vote}
use Rattle.raft_spec.specs.Replication.{take_entries, agrees, replaces_committed, on_append, on_ack, on_propose, on_beat, on_transfer}
use Rattle.raft_spec.specs.Snapshots.{on_install, on_snapped}
use Rattle.raft_spec.specs.Membership.{with_servers, on_servers}
use Rattle.raft_spec.specs.Receiving.{on_own_term, on_older_term, in_range, on_message}
use Rattle.raft_spec.specs.Steps.{finish, serve, raft_step}
use Rattle.raft_spec.specs.Compaction.{compacted_step}
use Rattle.raft_membership.specs.Members.{read_setup}
use Rattle.node_spec.specs.Voting.{IsPlain}
use Rattle.raft_safety.specs.Members.{Setup, fixed, changes, any_change, may_propose, may_take, voters_after, member_step}
use Rattle.raft_safety.specs.Cuts.{ToldAt, SameVoters}
use Rattle.raft_safety.specs.Sources.{Adds, nothing_new, a_barrier, proposed}
use Rattle.raft_safety.proofs.Shapes.{rule_of}
use Rattle.raft_safety.proofs.Fixeds.{fixed_servers_holds, fixed_proposals_holds}
use Rattle.raft_safety.proofs.Tolds.{fixed_told_holds}
use Rattle.raft_safety.proofs.Origins.{leaders_add_hold}
use Rattle.node_spec.proofs.VoterLogs.{others_follow, with_term_changes}

-- ---- servers

-- a node that has compacted its log steps as one with fixed voters
pub as_fixed : (me : ℕ) (v : Node) (i : Input) → member_step (fixed v.servers) me v i ≡ raft_step (λ log. voters v.servers) me v i
unfolding member_step voters_after
as_fixed me v i =
    cond-true (may_take (fixed v.servers) v i) (raft_step (voters_after (fixed v.servers)) me v i) _ (fixed_proposals_holds v.servers v i)
    ∙ ap (λ (f : List Entry → List ℕ). raft_step f me v i) (λ k. λ log. voters (fixed_servers_holds v.servers log k))

tells_none : (ids : List ℕ) (i : Input) → IsPlain i → SameVoters ids (i ∷ [])
tells_none ids (Local Timeout) p = tt
tells_none ids (Local Beat) p = tt
tells_none ids (Local Yield) p = tt
tells_none ids (Local (Propose es)) p = tt
tells_none ids (Local (Transfer to)) p = tt
tells_none ids (Local (Snapped i)) p = tt
tells_none ids (Local (UseServers servers)) p = absurd p
tells_none ids (Receive m) p = tt

pub voters_stay : (me : ℕ) (v : Node) (i : Input) → IsPlain i → voters (compacted_step me v i).node.servers ≡ voters v.servers
unfolding compacted_step
voters_stay me v i p =
    sym (ap (λ (d : Outcome). voters d.node.servers) (as_fixed me v i))
    ∙ (fixed_told_holds v.servers me v (i ∷ []) refl (tells_none (voters v.servers) i p)).1

-- servers that are told
pub serve_node : (vs : Setup) (me : ℕ) (s : Node) (servers : List Server) → (member_step vs me s (Local (UseServers servers))).node ≡ with_servers me s servers
unfolding member_step raft_step on_servers serve
serve_node vs me s servers = at_end (on_servers me s servers) (cond_both (is_leader s.role) _ _ Is (λ e. refl) (λ e. refl))
  where
    Is : Outcome → Type 0
    Is d = d.node ≡ with_servers me s servers

    at_end : (d : Outcome) → Is d → Is (serve me d)
    at_end d e = cond_both (is_leader d.node.role) _ _ Is (λ l. e) (λ l. e)

-- ---- what may be taken

propose_plain : (vs : Setup) (s : Node) (es : List Entry) → any_change vs es ≡ false → may_propose vs s es ≡ true
propose_plain vs s [] e = refl
propose_plain vs s (x ∷ []) e = one (changes vs x) _ e
  where
    one : (c b : Bool) → (c || false) ≡ false → (not c || b) ≡ true
    one true b e = absurd cc
    one false b e = refl
propose_plain vs s (x ∷ y ∷ es) e = ap not e

pub may_plain : (opening : List Server) (s : Node) (i : Input) → IsPlain i → may_take (read_setup opening) s i ≡ true
may_plain opening s (Local Timeout) p = refl
may_plain opening s (Local Beat) p = refl
may_plain opening s (Local Yield) p = refl
may_plain opening s (Local (Propose es)) p = propose_plain (read_setup opening) s es p
may_plain opening s (Local (Transfer to)) p = refl
may_plain opening s (Local (Snapped i)) p = refl
may_plain opening s (Local (UseServers servers)) p = refl
may_plain opening s (Receive m) p = refl

pub told_plain : (opening : List Server) (s : Node) (i : Input) → IsPlain i → voters s.servers ≡ voters_after (read_setup opening) s.log → ToldAt (read_setup opening) s i
told_plain opening s (Local Timeout) p e = e
told_plain opening s (Local Beat) p e = e
told_plain opening s (Local Yield) p e = e
told_plain opening s (Local (Propose es)) p e = e ∙ sym (others_follow (read_setup opening) s.log (with_term s.term es) (with_term_changes (read_setup opening) s.term es ∙ p))
told_plain opening s (Local (Transfer to)) p e = e
told_plain opening s (Local (Snapped i)) p e = e
told_plain opening s (Local (UseServers servers)) p e = tt
told_plain opening s (Receive m) p e = e

-- ---- a node that doesn't follow

-- a candidate has the log that it had
abbrev Stands : List Entry → Outcome → Type 0
Stands log d = is_candidate d.node.role ≡ true → d.node.log ≡ log

counted_stands : (voters_of : List Entry → List ℕ) (me : ℕ) (s : Node) (out : List Message) → Stands s.log (on_grants voters_of me s out)
unfolding on_grants
counted_stands voters_of me s out = cond_both (majority (voters_of s.log) (among s.grants)) _ _ (Stands s.log) (λ e c. absurd cc) (λ e c. refl)

election_stands : (transfer : Bool) (voters_of : List Entry → List ℕ) (me : ℕ) (s : Node) → Stands s.log (start_election voters_of me s transfer)
unfolding start_election
election_stands transfer voters_of me s = cond_both (may_start_election voters_of me s) _ _ (Stands s.log) (λ e. counted_stands voters_of me (as_candidate me s) _) (λ e c. refl)

ask_stands : (me : ℕ) (s : Node) (from : ℕ) (last : LogEnd) → Stands s.log (on_ask_vote me s from last)
unfolding on_ask_vote
ask_stands me s from last = cond_both (grants_vote s from last) _ _ (Stands s.log) (λ e c. refl) (λ e c. refl)

vote_stands : (voters_of : List Entry → List ℕ) (me : ℕ) (s : Node) (from : ℕ) (granted : Bool) → Stands s.log (on_vote voters_of me s from granted)
unfolding on_vote
vote_stands voters_of me s from granted =
    cond_both (granted && is_candidate s.role) _ _ (Stands s.log) (λ e. counted_stands voters_of me (with_grants s (grants_with (voters_of s.log) s.grants from)) []) (λ e c. refl)

append_stands : (me : ℕ) (s : Node) (from : ℕ) (prev : LogEnd) (commit : ℕ) (es : List Entry) → Stands s.log (on_append me s from prev commit es)
unfolding on_append take_entries
append_stands me s from prev commit es =
    cond_both (is_leader s.role) _ _ (Stands s.log) (λ e c. refl)
    (λ e. cond_both (agrees s prev) _ _ (Stands s.log) (λ x. cond_both (replaces_committed s prev es) _ _ (Stands s.log) (λ y c. refl) (λ y c. absurd cc)) (λ x c. refl))

install_stands : (me : ℕ) (s : Node) (from : ℕ) (last : LogEnd) (front : List Entry) → Stands s.log (on_install me s from last front)
unfolding on_install
install_stands me s from last front =
    cond_both (is_leader s.role) _ _ (Stands s.log) (λ e c. refl)
    (λ e. cond_both (nat_le last.index s.commit) _ _ (Stands s.log) (λ x c. refl) (λ x. cond_both (matches s.log last) _ _ (Stands s.log) (λ y c. refl) (λ y c. absurd cc)))

ack_stands : (me : ℕ) (s : Node) (from : ℕ) (good : Bool) (index : ℕ) → Stands s.log (on_ack me s from good index)
unfolding on_ack
ack_stands me s from true index = cond_both (is_leader s.role && among (peers s.servers me) from && nat_le index (length s.log)) _ _ (Stands s.log) (λ e c. refl) (λ e c. refl)
ack_stands me s from false index = cond_both (is_leader s.role && among (peers s.servers me) from) _ _ (Stands s.log) (λ e c. refl) (λ e c. refl)

own_stands : (voters_of : List Entry → List ℕ) (me : ℕ) (s : Node) (from : ℕ) (w : What) → Stands s.log (on_own_term voters_of me s from w)
own_stands voters_of me s from (AskVote last transfer) = ask_stands me s from last
own_stands voters_of me s from (Vote granted) = vote_stands voters_of me s from granted
own_stands voters_of me s from (Append prev commit es) = append_stands me s from prev commit es
own_stands voters_of me s from (Ack good index) = ack_stands me s from good index
own_stands voters_of me s from (Install last front) = install_stands me s from last front
own_stands voters_of me s from TimeoutNow = election_stands true voters_of me s

older_stands : (me : ℕ) (s : Node) (from : ℕ) (w : What) → Stands s.log (on_older_term me s from w)
older_stands me s from (AskVote last transfer) c = refl
older_stands me s from (Vote granted) c = refl
older_stands me s from (Append prev commit es) c = refl
older_stands me s from (Ack good index) c = refl
older_stands me s from (Install last front) c = refl
older_stands me s from TimeoutNow c = refl

leads_not_stands : (r : Role) → is_leader r ≡ true → is_candidate r ≡ true → ⊥
leads_not_stands Leader l c = absurd cc
leads_not_stands Candidate l c = absurd cc
leads_not_stands Follower l c = absurd cc

rule_stands : (voters_of : List Entry → List ℕ) (me : ℕ) (s : Node) (i : Input) → Stands s.log (rule_of voters_of me s i)
unfolding on_beat on_yield on_propose on_transfer on_snapped on_servers on_message
rule_stands voters_of me s (Local Timeout) = election_stands false voters_of me s
rule_stands voters_of me s (Local Beat) = cond_both (is_leader s.role) _ _ (Stands s.log) (λ e c. refl) (λ e c. refl)
rule_stands voters_of me s (Local Yield) = cond_both (is_leader s.role && nat_lt s.term 4294967295) _ _ (Stands s.log) (λ e c. refl) (λ e c. refl)
rule_stands voters_of me s (Local (Propose es)) = cond_both (is_leader s.role) _ _ (Stands s.log) (λ e c. absurd (leads_not_stands s.role e c)) (λ e c. refl)
rule_stands voters_of me s (Local (Transfer to)) = cond_both (is_leader s.role && not (to == me)) _ _ (Stands s.log) (λ e c. refl) (λ e c. refl)
rule_stands voters_of me s (Local (Snapped i)) = cond_both (nat_lt s.snapshot.index i && nat_le i s.commit) _ _ (Stands s.log) (λ e c. refl) (λ e c. refl)
rule_stands voters_of me s (Local (UseServers servers)) = cond_both (is_leader s.role) _ _ (Stands s.log) (λ e c. refl) (λ e c. refl)
rule_stands voters_of me s (Receive m) =
    cond_both (in_range s.term m) _ _ (Stands s.log)
    (λ e. cond_both (nat_lt m.term s.term) _ _ (Stands s.log) (λ x. older_stands me s m.from m.what)
    (λ x. cond_both (nat_lt s.term m.term) _ _ (Stands s.log) (λ y. own_stands voters_of me (in_newer_term s m.term) m.from m.what) (λ y. own_stands voters_of me s m.from m.what)))
    (λ e c. refl)

finish_stands : (voters_of : List Entry → List ℕ) (me : ℕ) (log : List Entry) (d : Outcome) → Stands log d → Stands log (finish voters_of me d)
unfolding finish
finish_stands voters_of me log d w = cond_both (is_leader d.node.role) _ _ (Stands log) (λ e c. w c) (λ e. w)

serve_stands : (me : ℕ) (log : List Entry) (d : Outcome) → Stands log d → Stands log (serve me d)
unfolding serve
serve_stands me log d w = cond_both (is_leader d.node.role) _ _ (Stands log) (λ e c. w c) (λ e. w)

step_stands : (voters_of : List Entry → List ℕ) (me : ℕ) (s : Node) (i : Input) → Stands s.log (raft_step voters_of me s i)
unfolding raft_step
step_stands voters_of me s (Local Timeout) = finish_stands voters_of me s.log _ (rule_stands voters_of me s (Local Timeout))
step_stands voters_of me s (Local Beat) = finish_stands voters_of me s.log _ (rule_stands voters_of me s (Local Beat))
step_stands voters_of me s (Local Yield) = finish_stands voters_of me s.log _ (rule_stands voters_of me s (Local Yield))
step_stands voters_of me s (Local (Propose es)) = finish_stands voters_of me s.log _ (rule_stands voters_of me s (Local (Propose es)))
step_stands voters_of me s (Local (Transfer to)) = finish_stands voters_of me s.log _ (rule_stands voters_of me s (Local (Transfer to)))
step_stands voters_of me s (Local (Snapped i)) = finish_stands voters_of me s.log _ (rule_stands voters_of me s (Local (Snapped i)))
step_stands voters_of me s (Local (UseServers servers)) = serve_stands me s.log _ (rule_stands voters_of me s (Local (UseServers servers)))
step_stands voters_of me s (Receive m) = finish_stands voters_of me s.log _ (rule_stands voters_of me s (Receive m))

member_stands : (vs : Setup) (me : ℕ) (s : Node) (i : Input) → Stands s.log (member_step vs me s i)
unfolding member_step
member_stands vs me s i = cond_both (may_take vs s i) _ _ (Stands s.log) (λ e. step_stands (voters_after vs) me s i) (λ e c. refl)

-- who leads adds no change, if none is proposed
leader_same : (opening : List Server) (s : Node) (i : Input) (t : Node) → IsPlain i → Adds s i t → voters_after (read_setup opening) t.log ≡ voters_after (read_setup opening) s.log
leader_same opening s i t p (nothing_new e) = ap (voters_after (read_setup opening)) e
leader_same opening s i t p (a_barrier e) = ap (voters_after (read_setup opening)) e ∙ others_follow (read_setup opening) s.log (barrier t.term ∷ []) refl
leader_same opening s i t p (proposed new is leads term e) =
    ap (voters_after (read_setup opening)) e ∙ others_follow (read_setup opening) s.log (with_term t.term new) (with_term_changes (read_setup opening) t.term new ∙ subst IsPlain is p)

-- a node that doesn't follow after a step has the voters that it had
pub ahead_same : (opening : List Server) (me : ℕ) (s : Node) (i : Input) (r : Role) → IsPlain i → s.snapshot.index ≤ length s.log → (member_step (read_setup opening) me s i).node.role ≡ r → r ≢ Follower →
    voters_after (read_setup opening) (member_step (read_setup opening) me s i).node.log ≡ voters_after (read_setup opening) s.log
ahead_same opening me s i Leader p low e n = leader_same opening s i (member_step (read_setup opening) me s i).node p (leaders_add_hold (read_setup opening) me s i low (ap is_leader e))
ahead_same opening me s i Candidate p low e n = ap (voters_after (read_setup opening)) (member_stands (read_setup opening) me s i (ap is_candidate e))
ahead_same opening me s i Follower p low e n = absurd (n refl)

-- ---- what is proposed, and an own snapshot

-- a leader that proposes appends all of it in its term, and changes no more than its commit index beside
pub propose_node : (vs : Setup) (me : ℕ) (s : Node) (es : List Entry) → may_take vs s (Local (Propose es)) ≡ true → is_leader s.role ≡ true →
    (commit : ℕ) × ((member_step vs me s (Local (Propose es))).node ≡ with_log s (s.log ++ with_term s.term es) commit)
unfolding member_step raft_step on_propose finish
propose_node vs me s es may leads = (
  _,
  ap (λ (d : Outcome). d.node)
      (cond-true (may_take vs s (Local (Propose es))) _ _ may ∙ ap (finish (voters_after vs) me) (cond-true (is_leader s.role) _ _ leads) ∙ cond-true (is_leader s.role) _ _ leads),
)

-- an own snapshot leaves the whole log
pub snapped_log : (vs : Setup) (me : ℕ) (s : Node) (index : ℕ) → (member_step vs me s (Local (Snapped index))).node.log ≡ s.log
unfolding member_step raft_step on_snapped finish
snapped_log vs me s index = at_end (on_snapped s index) (cond_both (nat_lt s.snapshot.index index && nat_le index s.commit) _ _ Is (λ e. refl) (λ e. refl))
  where
    Is : Outcome → Type 0
    Is d = d.node.log ≡ s.log

    at_end : (d : Outcome) → Is d → Is (finish (voters_after vs) me d)
    at_end d e = cond_both (is_leader d.node.role) _ _ Is (λ l. e) (λ l. e)
