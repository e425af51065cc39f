-- What each rule does to the kept parts of a node and to its commit index, and to whom it sends.
use Rattle.std.proofs.Common.{◌≡◌, ◌≢◌, ℕ, zero, suc, ◌<◌, ◌≤◌, max, Bool, true, false, List, [], ◌∷◌, length, refl, subst, ◌∙◌, ⊎_elim, arith}
use Rattle.std.specs.Prelude.{◌==◌, ◌&&◌, not, nat_lt, nat_le}
use Rattle.std.specs.List.{filter}
use Rattle.std.proofs.lemmas.Bool.{cond_both, and_parts, or_cases, or_left, or_right, eqb-true, eqb-false, not-true, ltb-true, leb-false}
use Rattle.raft_spec.specs.Log.{Entry, LogEnd, matches}
use Rattle.raft_spec.specs.Node.{What, AskVote, Vote, Append, Ack, Install, TimeoutNow, Message, Node, Server, Outcome, Recipients, Nobody, Everyone, Only, among, others, peers, majority, is_leader, is_candidate, Timeout, Beat, Yield, Propose, Transfer, Snapped, UseServers, Input, Local, Receive}
use Rattle.raft_spec.specs.Outcomes.{quiet, in_newer_term, with_grants}
use Rattle.raft_spec.specs.Elections.{as_candidate, grants_with, on_grants, may_start_election, on_yield, start_election, grants_vote, on_ask_vote, on_vote}
use Rattle.raft_spec.specs.Replication.{take_entries, agrees, replaces_committed, on_append, on_ack, on_propose, on_beat, on_transfer}
use Rattle.raft_spec.specs.Snapshots.{on_install, on_snapped}
use Rattle.raft_spec.specs.Membership.{on_servers}
use Rattle.raft_spec.specs.Commitment.{majority_stores, commit_below, commit_index, commit_up_to}
use Rattle.raft_spec.specs.Receiving.{on_own_term, on_older_term, in_range, on_message}
use Rattle.raft_spec.specs.Steps.{finish, serve, raft_step}
use Rattle.raft_safety.proofs.Reaches.{off}

-- the log stays; or term and vote do; or a later term is taken, or the node stands for election in one, whatever comes of the log
pub data Apart (me : ℕ) (s t : Node) : Type 0 where
  logs : t.log ≡ s.log → t.snapshot ≡ s.snapshot → t.base ≡ s.base → Apart me s t
  metas : t.term ≡ s.term → t.vote ≡ s.vote → Apart me s t
  took : s.term < t.term → t.vote ≡ 0 → Apart me s t
  stood : s.term < t.term → me ≢ 0 → t.vote ≡ me → Apart me s t

abbrev pub Far : ℕ → Recipients → Type 0
Far me (Only ps) = (p : ℕ) → among ps p ≡ true → p ≢ me
Far me Everyone = Unit {0}
Far me Nobody = Unit {0}

pub record Plain (me : ℕ) (s : Node) (d : Outcome) : Type 0 where
  pub kind : Apart me s d.node
  pub up : s.commit ≤ d.node.commit
  pub far : Far me d.recipients

pub among_filter : (f : ℕ → Bool) (xs : List ℕ) (x : ℕ) → among (filter f xs) x ≡ true → (among xs x ≡ true) × (f x ≡ true)
among_filter f [] x e = off e
among_filter f (y ∷ ys) x e =
    let there : among (filter f ys) x ≡ true → (among (y ∷ ys) x ≡ true) × (f x ≡ true) = λ q. let r = among_filter f ys x q in (or_right (y == x) (among ys x) r.0, r.1) in
    cond_both (f y) (y ∷ filter f ys) (filter f ys) (λ (l : List ℕ). among l x ≡ true → (among (y ∷ ys) x ≡ true) × (f x ≡ true))
    (λ t a. ⊎_elim (λ (q : (y == x) ≡ true). (or_left (y == x) (among ys x) q, subst (λ z. f z ≡ true) (eqb-true _ _ q) t)) (λ (q : among (filter f ys) x ≡ true). there q) (or_cases _ _ a))
    (λ t a. there a)
    e

pub peers_far : (servers : List Server) (me p : ℕ) → among (peers servers me) p ≡ true → p ≢ me
unfolding peers others
peers_far servers me p e = eqb-false _ _ (not-true _ (among_filter (λ v. not (v == me)) _ p e).1)

one_far : (me from p : ℕ) → from ≢ me → among (from ∷ []) p ≡ true → p ≢ me
one_far me from p far e z = ⊎_elim (λ (q : (from == p) ≡ true). far (eqb-true _ _ q ∙ z)) (λ (q : false ≡ true). off q) (or_cases _ _ e)

pub quiet_plain : (me : ℕ) (s : Node) → Plain me s (quiet s)
quiet_plain me s = record { kind = logs refl refl refl; up = omega arith; far = tt }

-- the term, the vote and the commit index stay at a count of votes
record Counted (s : Node) (d : Outcome) : Type 0 where
  term : d.node.term ≡ s.term
  vote : d.node.vote ≡ s.vote
  same : d.node.commit ≡ s.commit
  far : (me : ℕ) → Far me d.recipients

counted_plain : (voters_of : List Entry → List ℕ) (me : ℕ) (s : Node) (out : List Message) → Counted s (on_grants voters_of me s out)
unfolding on_grants
counted_plain voters_of me s out = cond_both (majority (voters_of s.log) (among s.grants)) _ _ (Counted s) (λ e. record { term = refl; vote = refl; same = refl; far = λ me. tt }) (λ e. record { term = refl; vote = refl; same = refl; far = λ me. tt })

-- who stands has an id
pub stands_id : (voters_of : List Entry → List ℕ) (me : ℕ) (s : Node) → may_start_election voters_of me s ≡ true → 0 < me
unfolding may_start_election
stands_id voters_of me s e =
    let voter = among (voters_of s.log) me in
    let id = nat_lt 0 me in
    let role = not (is_leader s.role) in
    let low = nat_lt s.term 4294967295 in
    let short = nat_lt (length s.log) 4294900000 in
    let a : (voter && id && role && low) ≡ true = (and_parts (voter && id && role && low) short e).0 in
    let b : (voter && id && role) ≡ true = (and_parts (voter && id && role) low a).0 in
    let c : (voter && id) ≡ true = (and_parts (voter && id) role b).0 in
    ltb-true 0 me (and_parts voter id c).1

stand_plain : (transfer : Bool) (voters_of : List Entry → List ℕ) (me : ℕ) (s : Node) → Plain me s (start_election voters_of me s transfer)
unfolding start_election
stand_plain transfer voters_of me s =
    cond_both (may_start_election voters_of me s) _ _ (Plain me s)
    (λ e.
    let c = counted_plain voters_of me (as_candidate me s) _ in
    let l : 0 < me = stands_id voters_of me s e in
    let t = c.term in
    let k = c.same in
    record { kind = stood (omega arith) (omega arith) c.vote; up = omega arith; far = c.far me })
    (λ e. quiet_plain me s)

on_ask_plain : (me : ℕ) (s : Node) (from : ℕ) (last : LogEnd) → Plain me s (on_ask_vote me s from last)
unfolding on_ask_vote
on_ask_plain me s from last = cond_both (grants_vote s from last) _ _ (Plain me s) (λ e. record { kind = logs refl refl refl; up = omega arith; far = tt }) (λ e. record { kind = logs refl refl refl; up = omega arith; far = tt })

on_vote_plain : (voters_of : List Entry → List ℕ) (me : ℕ) (s : Node) (from : ℕ) (granted : Bool) → Plain me s (on_vote voters_of me s from granted)
unfolding on_vote
on_vote_plain voters_of me s from granted =
    cond_both (granted && is_candidate s.role) _ _ (Plain me s)
    (λ e. let c = counted_plain voters_of me (with_grants s (grants_with (voters_of s.log) s.grants from)) [] in let k = c.same in record { kind = metas c.term c.vote; up = omega arith; far = c.far me })
    (λ e. quiet_plain me s)

on_append_plain : (me : ℕ) (s : Node) (from : ℕ) (prev : LogEnd) (commit : ℕ) (es : List Entry) → Plain me s (on_append me s from prev commit es)
unfolding on_append take_entries
on_append_plain me s from prev commit es =
    cond_both (is_leader s.role) _ _ (Plain me s) (λ e. quiet_plain me s)
    (λ e. cond_both (agrees s prev) _ _ (Plain me s)
    (λ x. cond_both (replaces_committed s prev es) _ _ (Plain me s) (λ y. quiet_plain me s) (λ y. record { kind = metas refl refl; up = omega arith; far = tt }))
    (λ x. record { kind = logs refl refl refl; up = omega arith; far = tt }))

on_install_plain : (me : ℕ) (s : Node) (from : ℕ) (last : LogEnd) (front : List Entry) → Plain me s (on_install me s from last front)
unfolding on_install
on_install_plain me s from last front =
    cond_both (is_leader s.role) _ _ (Plain me s) (λ e. quiet_plain me s)
    (λ e. cond_both (nat_le last.index s.commit) _ _ (Plain me s) (λ x. record { kind = logs refl refl refl; up = omega arith; far = tt })
    (λ x.
    let lt : s.commit < last.index = leb-false _ _ x in
    cond_both (matches s.log last) _ _ (Plain me s) (λ y. record { kind = metas refl refl; up = omega arith; far = tt }) (λ y. record { kind = metas refl refl; up = omega arith; far = tt })))

on_snap_plain : (me : ℕ) (s : Node) (i : ℕ) → Plain me s (on_snapped s i)
unfolding on_snapped
on_snap_plain me s i = cond_both (nat_lt s.snapshot.index i && nat_le i s.commit) _ _ (Plain me s) (λ e. record { kind = metas refl refl; up = omega arith; far = tt }) (λ e. quiet_plain me s)

on_ack_plain : (me : ℕ) (s : Node) (from : ℕ) (good : Bool) (index : ℕ) → Plain me s (on_ack me s from good index)
unfolding on_ack
on_ack_plain me s from true index =
    cond_both (is_leader s.role && among (peers s.servers me) from && nat_le index (length s.log)) _ _ (Plain me s)
    (λ e.
    let far : from ≢ me = peers_far s.servers me from (and_parts (is_leader s.role) (among (peers s.servers me) from) (and_parts (is_leader s.role && among (peers s.servers me) from) (nat_le index (length s.log)) e).0).1 in record {
      kind = logs refl refl refl;
      up = omega arith;
      far = cond_both (nat_lt (max (s.match_of from) index) (length s.log)) (Only (from ∷ [])) Nobody (Far me) (λ x p. one_far me from p far) (λ x. tt);
    })
    (λ e. quiet_plain me s)
on_ack_plain me s from false index =
    cond_both (is_leader s.role && among (peers s.servers me) from) _ _ (Plain me s)
    (λ e. record { kind = logs refl refl refl; up = omega arith; far = λ p. one_far me from p (peers_far s.servers me from (and_parts _ _ e).1) })
    (λ e. quiet_plain me s)

in_turn_plain : (voters_of : List Entry → List ℕ) (me : ℕ) (s : Node) (from : ℕ) (w : What) → Plain me s (on_own_term voters_of me s from w)
in_turn_plain voters_of me s from (AskVote last transfer) = on_ask_plain me s from last
in_turn_plain voters_of me s from (Vote granted) = on_vote_plain voters_of me s from granted
in_turn_plain voters_of me s from (Append prev commit es) = on_append_plain me s from prev commit es
in_turn_plain voters_of me s from (Ack good index) = on_ack_plain me s from good index
in_turn_plain voters_of me s from (Install last front) = on_install_plain me s from last front
in_turn_plain voters_of me s from TimeoutNow = stand_plain true voters_of me s

stale_plain : (me : ℕ) (s : Node) (from : ℕ) (w : What) → Plain me s (on_older_term me s from w)
stale_plain me s from (AskVote last transfer) = record { kind = logs refl refl refl; up = omega arith; far = tt }
stale_plain me s from (Append prev commit es) = record { kind = logs refl refl refl; up = omega arith; far = tt }
stale_plain me s from (Install last front) = record { kind = logs refl refl refl; up = omega arith; far = tt }
stale_plain me s from (Vote granted) = quiet_plain me s
stale_plain me s from (Ack good index) = quiet_plain me s
stale_plain me s from TimeoutNow = quiet_plain me s

-- the same from before the term was taken
from_taken : (me : ℕ) (s : Node) (t : ℕ) (d : Outcome) → s.term < t → Plain me (in_newer_term s t) d → Plain me s d
from_taken me s t d lt p = record { kind = go p.kind; up = p.up; far = p.far }
  where
    go : Apart me (in_newer_term s t) d.node → Apart me s d.node
    go (logs a b c) = logs a b c
    go (metas a b) = took (omega arith) b
    go (took a b) = took (omega arith) b
    go (stood a id b) = stood (omega arith) id b

pub on_message_plain : (voters_of : List Entry → List ℕ) (me : ℕ) (s : Node) (m : Message) → Plain me s (on_message voters_of me s m)
unfolding on_message
on_message_plain voters_of me s m =
    cond_both (in_range s.term m) _ _ (Plain me s)
    (λ e. cond_both (nat_lt m.term s.term) _ _ (Plain me s) (λ x. stale_plain me s m.from m.what)
    (λ x. cond_both (nat_lt s.term m.term) _ _ (Plain me s) (λ y. from_taken me s m.term _ (ltb-true _ _ y) (in_turn_plain voters_of me (in_newer_term s m.term) m.from m.what)) (λ y. in_turn_plain voters_of me s m.from m.what)))
    (λ e. quiet_plain me s)

pub on_servers_plain : (me : ℕ) (s : Node) (servers : List Server) → Plain me s (on_servers me s servers)
unfolding on_servers
on_servers_plain me s servers =
    cond_both (is_leader s.role) _ _ (Plain me s)
    (λ e. record { kind = logs refl refl refl; up = omega arith; far = λ p a. peers_far servers me p (among_filter (λ p. not (among (peers s.servers me) p)) (peers servers me) p a).0 })
    (λ e. record { kind = logs refl refl refl; up = omega arith; far = tt })

-- the rule of an input, before the end of the step
abbrev pub rule_of : (List Entry → List ℕ) → ℕ → Node → Input → Outcome
rule_of voters_of me s (Local Timeout) = start_election voters_of me s false
rule_of voters_of me s (Local Beat) = on_beat s
rule_of voters_of me s (Local Yield) = on_yield s
rule_of voters_of me s (Local (Propose es)) = on_propose s es
rule_of voters_of me s (Local (Transfer to)) = on_transfer me s to
rule_of voters_of me s (Local (Snapped i)) = on_snapped s i
rule_of voters_of me s (Local (UseServers servers)) = on_servers me s servers
rule_of voters_of me s (Receive m) = on_message voters_of me s m

pub rule_plain : (voters_of : List Entry → List ℕ) (me : ℕ) (s : Node) (i : Input) → Plain me s (rule_of voters_of me s i)
unfolding on_beat on_yield on_propose on_transfer
rule_plain voters_of me s (Local Timeout) = stand_plain false voters_of me s
rule_plain voters_of me s (Local Beat) = cond_both (is_leader s.role) _ _ (Plain me s) (λ e. record { kind = logs refl refl refl; up = omega arith; far = tt }) (λ e. quiet_plain me s)
rule_plain voters_of me s (Local Yield) =
    cond_both (is_leader s.role && nat_lt s.term 4294967295) _ _ (Plain me s) (λ e. record { kind = took (omega arith) refl; up = omega arith; far = tt })
    (λ e. quiet_plain me s)
rule_plain voters_of me s (Local (Propose es)) = cond_both (is_leader s.role) _ _ (Plain me s) (λ e. record { kind = metas refl refl; up = omega arith; far = tt }) (λ e. quiet_plain me s)
rule_plain voters_of me s (Local (Transfer to)) = cond_both (is_leader s.role && not (to == me)) _ _ (Plain me s) (λ e. record { kind = logs refl refl refl; up = omega arith; far = tt }) (λ e. quiet_plain me s)
rule_plain voters_of me s (Local (Snapped i)) = on_snap_plain me s i
rule_plain voters_of me s (Local (UseServers servers)) = on_servers_plain me s servers
rule_plain voters_of me s (Receive m) = on_message_plain voters_of me s m

-- the commit index doesn't fall
below_up : (voters_of : List Entry → List ℕ) (me : ℕ) (s : Node) (k : ℕ) → s.commit ≤ commit_below voters_of me s k
unfolding commit_below commit_up_to majority_stores
below_up voters_of me s zero = omega arith
below_up voters_of me s (suc k) =
    cond_both (nat_lt s.commit (suc k)) _ _ (λ x. s.commit ≤ x)
    (λ e. cond_both (majority_stores voters_of me s (suc k)) _ _ (λ x. s.commit ≤ x) (λ x. let y = ltb-true _ _ e in omega arith) (λ x. below_up voters_of me s k))
    (λ e. omega arith)

pub index_up : (voters_of : List Entry → List ℕ) (me : ℕ) (s : Node) → s.commit ≤ commit_index voters_of me s
unfolding commit_index
index_up voters_of me s = below_up voters_of me s (length s.log)

moves : (me k : ℕ) (s t : Node) → Apart me s t → Apart me s (record t { commit = k })
moves me k s t (logs a b c) = logs a b c
moves me k s t (metas a b) = metas a b
moves me k s t (took a b) = took a b
moves me k s t (stood a id b) = stood a id b

finish_plain : (voters_of : List Entry → List ℕ) (me : ℕ) (s : Node) (d : Outcome) → Plain me s d → Plain me s (finish voters_of me d)
unfolding finish
finish_plain voters_of me s d p =
    cond_both (is_leader d.node.role) _ _ (Plain me s)
    (λ e. record { kind = moves me (commit_index voters_of me d.node) s d.node p.kind; up = let a = p.up in let b = index_up voters_of me d.node in omega arith; far = tt })
    (λ e. p)

serve_plain : (me : ℕ) (s : Node) (d : Outcome) → Plain me s d → Plain me s (serve me d)
unfolding serve
serve_plain me s d p = cond_both (is_leader d.node.role) _ _ (Plain me s) (λ e. record { kind = p.kind; up = p.up; far = tt }) (λ e. p)

pub step_plain : (voters_of : List Entry → List ℕ) (me : ℕ) (s : Node) (i : Input) → Plain me s (raft_step voters_of me s i)
unfolding raft_step
step_plain voters_of me s (Local Timeout) = finish_plain voters_of me s _ (rule_plain voters_of me s (Local Timeout))
step_plain voters_of me s (Local Beat) = finish_plain voters_of me s _ (rule_plain voters_of me s (Local Beat))
step_plain voters_of me s (Local Yield) = finish_plain voters_of me s _ (rule_plain voters_of me s (Local Yield))
step_plain voters_of me s (Local (Propose es)) = finish_plain voters_of me s _ (rule_plain voters_of me s (Local (Propose es)))
step_plain voters_of me s (Local (Transfer to)) = finish_plain voters_of me s _ (rule_plain voters_of me s (Local (Transfer to)))
step_plain voters_of me s (Local (Snapped i)) = finish_plain voters_of me s _ (rule_plain voters_of me s (Local (Snapped i)))
step_plain voters_of me s (Local (UseServers servers)) = serve_plain me s _ (rule_plain voters_of me s (Local (UseServers servers)))
step_plain voters_of me s (Receive m) = finish_plain voters_of me s _ (rule_plain voters_of me s (Receive m))
