-- What one step of Raft does to term, leadership, log, snapshot and cut of a node.
use Rattle.std.proofs.Common.{◌≡◌, ℕ, ◌<◌, ◌≤◌, Bool, true, false, true≢false, List, [], ◌∷◌, length, refl, sym, ap, subst, ◌∙◌, arith}
use Rattle.std.specs.Prelude.{◌==◌, ◌&&◌, not, nat_lt, nat_le}
use Rattle.std.proofs.lemmas.Bool.{cond_both, cond-true, and_parts, ltb-true, leb-true, lt-ltb, le-leb}
use Rattle.raft_spec.specs.Log.{Entry, LogEnd, matches}
use Rattle.raft_spec.specs.Node.{Role, Leader, Candidate, Follower, What, AskVote, Vote, Append, Ack, Install, TimeoutNow, Message, Node, Server, Outcome, among, peers, majority, is_leader, is_candidate, Timeout, Beat, Yield, Propose, Transfer, Snapped, UseServers, Input, Local, Receive}
use Rattle.raft_spec.specs.Outcomes.{quiet, in_newer_term}
use Rattle.raft_spec.specs.Elections.{on_grants, may_start_election, on_yield, start_election, grants_vote, on_ask_vote, grants_with, on_vote}
use Rattle.raft_spec.specs.Replication.{agrees, replaces_committed, take_entries, on_append, on_ack, on_propose, on_beat, on_transfer}
use Rattle.raft_spec.specs.Snapshots.{on_install, on_snapped}
use Rattle.raft_spec.specs.Membership.{on_servers}
use Rattle.raft_spec.specs.Receiving.{on_own_term, on_older_term, in_range, on_message}
use Rattle.raft_spec.specs.Steps.{finish, serve, raft_step}
use Rattle.raft_safety.specs.Members.{Setup, voters_after, may_take, member_step}

-- where the cut of a node goes: it stays, or the log does, or all of the log makes place for a snapshot of which it doesn't have the end
pub data Places (s t : Node) : Type 0 where
  cut_stays : t.base ≡ s.base → Places s t
  log_stays : t.log ≡ s.log → Places s t
  clears : matches s.log t.snapshot ≡ false → t.base ≡ t.snapshot.index → Places s t

-- The term doesn't fall. Who led and still has the term leads. A snapshot past the commit index reaches no leader.
pub record Shape (s t : Node) : Type 0 where
  pub up : s.term ≤ t.term
  pub leads : is_leader s.role ≡ true → t.term ≡ s.term → is_leader t.role ≡ true
  pub comes : s.snapshot.index ≤ s.commit → s.commit < t.snapshot.index → is_leader t.role ≡ false
  pub places : Places s t

abbrev Shaped : Node → Outcome → Type 0
Shaped s d = Shape s d.node

-- where term, role, snapshot and cut stay
same : (s t : Node) → t.term ≡ s.term → t.role ≡ s.role → t.snapshot ≡ s.snapshot → t.base ≡ s.base → Shape s t
same s t term role snapshot base = record {
  up = omega (arith, term);
  leads = λ l e. ap is_leader role ∙ l;
  comes = λ low past. let e : t.snapshot.index ≡ s.snapshot.index = ap (λ (x : LogEnd). x.index) snapshot in absurd (omega (arith, low, past, e));
  places = cut_stays base;
}

still : (s : Node) → Shaped s (quiet s)
still s = same s s refl refl refl refl

-- where the node didn't lead, and snapshot and cut stay
follows : (s t : Node) → is_leader s.role ≡ false → s.term ≤ t.term → t.snapshot ≡ s.snapshot → t.base ≡ s.base → Shape s t
follows s t none up snapshot base = record {
  up = up;
  leads = λ l e. absurd (true≢false (sym l ∙ none));
  comes = λ low past. let e : t.snapshot.index ≡ s.snapshot.index = ap (λ (x : LogEnd). x.index) snapshot in absurd (omega (arith, low, past, e));
  places = cut_stays base;
}

-- if the term rises, and snapshot and cut stay
rises : (s t : Node) → s.term < t.term → t.snapshot ≡ s.snapshot → t.base ≡ s.base → Shape s t
rises s t up snapshot base = record {
  up = omega (arith, up);
  leads = λ l e. absurd (omega (arith, up, e));
  comes = λ low past. let e : t.snapshot.index ≡ s.snapshot.index = ap (λ (x : LogEnd). x.index) snapshot in absurd (omega (arith, low, past, e));
  places = cut_stays base;
}

-- ---- elections

candidate_follows : (r : Role) → is_candidate r ≡ true → is_leader r ≡ false
candidate_follows Leader e = absurd cc
candidate_follows Candidate e = refl
candidate_follows Follower e = refl

stood : (transfer : Bool) (voters_of : List Entry → List ℕ) (me : ℕ) (s : Node) → Shaped s (start_election voters_of me s transfer)
unfolding start_election on_grants
stood transfer voters_of me s = cond_both (may_start_election voters_of me s) _ _ (Shaped s)
    (λ e. cond_both (majority (voters_of s.log) (among (me ∷ []))) _ _ (Shaped s) (λ a. rises s _ (omega arith) refl refl) (λ a. rises s _ (omega arith) refl refl))
    (λ e. still s)

voted : (voters_of : List Entry → List ℕ) (me : ℕ) (s : Node) (from : ℕ) (granted : Bool) → Shaped s (on_vote voters_of me s from granted)
unfolding on_vote on_grants
voted voters_of me s from granted = cond_both (granted && is_candidate s.role) _ _ (Shaped s)
    (λ e. let none : is_leader s.role ≡ false = candidate_follows s.role (and_parts _ _ e).1 in
    cond_both (majority (voters_of s.log) (among (grants_with (voters_of s.log) s.grants from))) _ _ (Shaped s) (λ a. follows s _ none (omega arith) refl refl) (λ a. follows s _ none (omega arith) refl refl))
    (λ e. still s)

asked : (me : ℕ) (s : Node) (from : ℕ) (last : LogEnd) → Shaped s (on_ask_vote me s from last)
unfolding on_ask_vote
asked me s from last = cond_both (grants_vote s from last) _ _ (Shaped s) (λ e. same s _ refl refl refl refl) (λ e. same s _ refl refl refl refl)

-- ---- logs and snapshots

appended : (me : ℕ) (s : Node) (from : ℕ) (prev : LogEnd) (commit : ℕ) (es : List Entry) → Shaped s (on_append me s from prev commit es)
unfolding on_append take_entries
appended me s from prev commit es = cond_both (is_leader s.role) _ _ (Shaped s) (λ e. still s)
    (λ e. cond_both (agrees s prev) _ _ (Shaped s)
    (λ a. cond_both (replaces_committed s prev es) _ _ (Shaped s) (λ r. still s) (λ r. follows s _ e (omega arith) refl refl))
    (λ a. follows s _ e (omega arith) refl refl))

acked : (me : ℕ) (s : Node) (from : ℕ) (good : Bool) (index : ℕ) → Shaped s (on_ack me s from good index)
unfolding on_ack
acked me s from true index = cond_both (is_leader s.role && among (peers s.servers me) from && nat_le index (length s.log)) _ _ (Shaped s) (λ e. same s _ refl refl refl refl) (λ e. still s)
acked me s from false index = cond_both (is_leader s.role && among (peers s.servers me) from) _ _ (Shaped s) (λ e. same s _ refl refl refl refl) (λ e. still s)

installs : (me : ℕ) (s : Node) (from : ℕ) (last : LogEnd) (front : List Entry) → Shaped s (on_install me s from last front)
unfolding on_install
installs me s from last front = cond_both (is_leader s.role) _ _ (Shaped s) (λ e. still s)
    (λ e. cond_both (nat_le last.index s.commit) _ _ (Shaped s) (λ a. follows s _ e (omega arith) refl refl)
    (λ a. cond_both (matches s.log last) _ _ (Shaped s)
    (λ b. record { up = omega arith; leads = λ l q. absurd (true≢false (sym l ∙ e)); comes = λ low past. refl; places = log_stays refl })
    (λ b. record { up = omega arith; leads = λ l q. absurd (true≢false (sym l ∙ e)); comes = λ low past. refl; places = clears b refl })))

snaps : (s : Node) (i : ℕ) → Shaped s (on_snapped s i)
unfolding on_snapped
snaps s i = cond_both (nat_lt s.snapshot.index i && nat_le i s.commit) _ _ (Shaped s)
    (λ e. let high : i ≤ s.commit = leb-true _ _ (and_parts _ _ e).1 in
    record { up = omega arith; leads = λ l q. l; comes = λ low past. absurd (omega (arith, high, past)); places = log_stays refl })
    (λ e. still s)

hears : (me : ℕ) (s : Node) (servers : List Server) → Shaped s (on_servers me s servers)
unfolding on_servers
hears me s servers = cond_both (is_leader s.role) _ _ (Shaped s) (λ e. same s _ refl refl refl refl) (λ e. same s _ refl refl refl refl)

proposes : (s : Node) (es : List Entry) → Shaped s (on_propose s es)
unfolding on_propose
proposes s es = cond_both (is_leader s.role) _ _ (Shaped s) (λ e. same s _ refl refl refl refl) (λ e. still s)

beats : (s : Node) → Shaped s (on_beat s)
unfolding on_beat
beats s = cond_both (is_leader s.role) _ _ (Shaped s) (λ e. same s _ refl refl refl refl) (λ e. still s)

yields : (s : Node) → Shaped s (on_yield s)
unfolding on_yield
yields s = cond_both (is_leader s.role && nat_lt s.term 4294967295) _ _ (Shaped s) (λ e. rises s _ (omega arith) refl refl) (λ e. still s)

hands : (me : ℕ) (s : Node) (to : ℕ) → Shaped s (on_transfer me s to)
unfolding on_transfer
hands me s to = cond_both (is_leader s.role && not (to == me)) _ _ (Shaped s) (λ e. same s _ refl refl refl refl) (λ e. still s)

-- ---- messages

in_turn : (voters_of : List Entry → List ℕ) (me : ℕ) (s : Node) (from : ℕ) (w : What) → Shaped s (on_own_term voters_of me s from w)
in_turn voters_of me s from (AskVote last transfer) = asked me s from last
in_turn voters_of me s from (Vote granted) = voted voters_of me s from granted
in_turn voters_of me s from (Append prev commit es) = appended me s from prev commit es
in_turn voters_of me s from (Ack good index) = acked me s from good index
in_turn voters_of me s from (Install last front) = installs me s from last front
in_turn voters_of me s from TimeoutNow = stood true voters_of me s

late : (me : ℕ) (s : Node) (from : ℕ) (w : What) → Shaped s (on_older_term me s from w)
late me s from (AskVote last transfer) = still s
late me s from (Vote granted) = still s
late me s from (Append prev commit es) = still s
late me s from (Ack good index) = still s
late me s from (Install last front) = still s
late me s from TimeoutNow = still s

-- the same from before the term was taken
from_taken : (s t : Node) (term : ℕ) → s.term < term → Shape (in_newer_term s term) t → Shape s t
from_taken s t term lt h =
    let up : term ≤ t.term = h.up in
    record {
      up = omega (arith, up, lt);
      leads = λ l e. absurd (omega (arith, up, lt, e));
      comes = h.comes;
      places = placed h.places;
    }
  where
    placed : Places (in_newer_term s term) t → Places s t
    placed (cut_stays e) = cut_stays e
    placed (log_stays e) = log_stays e
    placed (clears e b) = clears e b

heard : (voters_of : List Entry → List ℕ) (me : ℕ) (s : Node) (m : Message) → Shaped s (on_message voters_of me s m)
unfolding on_message
heard voters_of me s m = cond_both (in_range s.term m) _ _ (Shaped s)
    (λ e. cond_both (nat_lt m.term s.term) _ _ (Shaped s) (λ o. late me s m.from m.what)
    (λ o. cond_both (nat_lt s.term m.term) _ _ (Shaped s)
    (λ n. from_taken s _ m.term (ltb-true _ _ n) (in_turn voters_of me (in_newer_term s m.term) m.from m.what))
    (λ n. in_turn voters_of me s m.from m.what)))
    (λ e. still s)

-- ---- whole steps

-- the commit index may move at the end
moved : (s t : Node) (commit : ℕ) → Shape s t → Shape s (record t { commit = commit })
moved s t commit h = record { up = h.up; leads = h.leads; comes = h.comes; places = placed h.places }
  where
    placed : Places s t → Places s (record t { commit = commit })
    placed (cut_stays e) = cut_stays e
    placed (log_stays e) = log_stays e
    placed (clears e b) = clears e b

ends : (voters_of : List Entry → List ℕ) (me : ℕ) (s : Node) (d : Outcome) → Shaped s d → Shaped s (finish voters_of me d)
unfolding finish
ends voters_of me s d h = cond_both (is_leader d.node.role) _ _ (Shaped s) (λ e. moved s d.node _ h) (λ e. h)

serves : (me : ℕ) (s : Node) (d : Outcome) → Shaped s d → Shaped s (serve me d)
unfolding serve
serves me s d h = cond_both (is_leader d.node.role) _ _ (Shaped s) (λ e. h) (λ e. h)

whole : (voters_of : List Entry → List ℕ) (me : ℕ) (s : Node) (i : Input) → Shaped s (raft_step voters_of me s i)
unfolding raft_step
whole voters_of me s (Receive m) = ends voters_of me s _ (heard voters_of me s m)
whole voters_of me s (Local Timeout) = ends voters_of me s _ (stood false voters_of me s)
whole voters_of me s (Local Beat) = ends voters_of me s _ (beats s)
whole voters_of me s (Local Yield) = ends voters_of me s _ (yields s)
whole voters_of me s (Local (Propose es)) = ends voters_of me s _ (proposes s es)
whole voters_of me s (Local (Transfer to)) = ends voters_of me s _ (hands me s to)
whole voters_of me s (Local (Snapped i)) = ends voters_of me s _ (snaps s i)
whole voters_of me s (Local (UseServers servers)) = serves me s _ (hears me s servers)

pub step_shape : (vs : Setup) (me : ℕ) (s : Node) (i : Input) → Shape s (member_step vs me s i).node
unfolding member_step
step_shape vs me s i = cond_both (may_take vs s i) _ _ (Shaped s) (λ e. whole (voters_after vs) me s i) (λ e. still s)

-- ---- steps that leave the log

-- log, term and role stay
pub record Still (s t : Node) : Type 0 where
  pub log : t.log ≡ s.log
  pub term : t.term ≡ s.term
  pub role : t.role ≡ s.role

abbrev Stays : Node → Outcome → Type 0
Stays s d = Still s d.node

fixed_at : (s : Node) → Stays s (quiet s)
fixed_at s = record { log = refl; term = refl; role = refl }

ends_still : (voters_of : List Entry → List ℕ) (me : ℕ) (s : Node) (d : Outcome) → Stays s d → Stays s (finish voters_of me d)
unfolding finish
ends_still voters_of me s d h = cond_both (is_leader d.node.role) _ _ (Stays s) (λ e. record { log = h.log; term = h.term; role = h.role }) (λ e. h)

serves_still : (me : ℕ) (s : Node) (d : Outcome) → Stays s d → Stays s (serve me d)
unfolding serve
serves_still me s d h = cond_both (is_leader d.node.role) _ _ (Stays s) (λ e. h) (λ e. h)

pub servers_still : (vs : Setup) (me : ℕ) (s : Node) (servers : List Server) → Still s (member_step vs me s (Local (UseServers servers))).node
unfolding member_step raft_step on_servers
servers_still vs me s servers = serves_still me s (on_servers me s servers) (cond_both (is_leader s.role) _ _ (Stays s) (λ e. record { log = refl; term = refl; role = refl }) (λ e. record { log = refl; term = refl; role = refl }))

pub beat_still : (vs : Setup) (me : ℕ) (s : Node) → Still s (member_step vs me s (Local Beat)).node
unfolding member_step raft_step on_beat
beat_still vs me s = ends_still (voters_after vs) me s (on_beat s) (cond_both (is_leader s.role) _ _ (Stays s) (λ e. record { log = refl; term = refl; role = refl }) (λ e. fixed_at s))

pub transfer_still : (vs : Setup) (me : ℕ) (s : Node) (to : ℕ) → Still s (member_step vs me s (Local (Transfer to))).node
unfolding member_step raft_step on_transfer
transfer_still vs me s to = ends_still (voters_after vs) me s (on_transfer me s to) (cond_both (is_leader s.role && not (to == me)) _ _ (Stays s) (λ e. record { log = refl; term = refl; role = refl }) (λ e. fixed_at s))

-- an own snapshot at an applied index past the last one is there
pub record Snapt (s t : Node) (index : ℕ) : Type 0 where
  pub still : Still s t
  pub index_is : t.snapshot.index ≡ index

snapt_ends : (voters_of : List Entry → List ℕ) (me : ℕ) (s : Node) (index : ℕ) (d : Outcome) → Snapt s d.node index → Snapt s (finish voters_of me d).node index
unfolding finish
snapt_ends voters_of me s index d h = cond_both (is_leader d.node.role) _ _ (λ (x : Outcome). Snapt s x.node index) (λ e. record { still = record { log = h.still.log; term = h.still.term; role = h.still.role }; index_is = h.index_is }) (λ e. h)

pub snapped_still : (vs : Setup) (me : ℕ) (s : Node) (index : ℕ) → s.snapshot.index < index → index ≤ s.commit → Snapt s (member_step vs me s (Local (Snapped index))).node index
unfolding member_step raft_step on_snapped
snapped_still vs me s index past high = snapt_ends (voters_after vs) me s index (on_snapped s index) (subst (λ (d : Outcome). Snapt s d.node index) (sym (cond-true (nat_lt s.snapshot.index index && nat_le index s.commit) _ _ (and_true _ _ (lt-ltb _ _ past) (le-leb _ _ high)))) (record { still = record { log = refl; term = refl; role = refl }; index_is = refl }))
  where
    and_true : (a b : Bool) → a ≡ true → b ≡ true → (a && b) ≡ true
    and_true a b p q = ap (λ x. x && b) p ∙ q
