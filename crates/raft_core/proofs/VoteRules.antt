-- The rules of elections, as the code's node makes them.
use Rattle.std.proofs.Common.{◌≡◌, ℕ, suc, ◌<◌, List, [], ◌∷◌, ◌++◌, length, refl, sym, ap, subst, ◌∙◌, arith, append_assoc}
use Rattle.std.specs.Prelude.{Bool, true, false, cond, not, ◌&&◌, ◌||◌, map, Result, Ok, Err, IfOk}
use Rattle.std.proofs.lemmas.Bool.{cond-true, cond-false, eq-eqb, and_parts, ltb-true}
use Rattle.raft_spec.specs.Log.{Entry, LogEnd, log_end}
use Rattle.raft_spec.specs.Node.{Role, Leader, Candidate, Follower, AskVote, Vote, Message, Outcome, Everyone, among, majority, others, voters, peers, is_candidate}
use Rattle.raft_spec.specs.Outcomes.{quiet, says, answer, with_log, with_vote, barrier}
use Rattle.raft_spec.specs.Elections.{as_leader, may_start_election, start_election, grants_vote, on_grants, on_ask_vote, grants_with, on_vote}
use Rattle.raft_spec.specs.Progress.{rows_for, next_in, match_in}
use Rattle.raft_spec.specs.NodeValues.{NodeValue, node_of}
use Rattle.raft_spec.specs.Compaction.{compacted}
use Rattle.raft_spec.proofs.NodeValues.{whole_length}
use Rattle.raft_spec.proofs.ProgressPeers.{next_rows_for, match_rows_for}
use Rattle.raft_core.specs.declared.effects.Say.{Say}
use Rattle.raft_core.specs.declared.effects.Say.TheVariants as say
use Rattle.raft_core.specs.declared.effects.Recipients.TheVariants as sent
use Rattle.raft_core.specs.declared.effects.LogChange.TheVariants as changes
use Rattle.raft_core.specs.declared.effects.Effects.{Effects}
use Rattle.raft_core.specs.Effects.{said, outcome_of, Does}
use Rattle.raft_core.specs.Nodes.{told}
use Rattle.raft_core.proofs.TakenLogs.{appended}

-- this is said, and nothing else happens
abbrev pub only_says : Say → Effects
only_says say = record { say = say; recipients = sent.Nobody; change = changes.Nothing }

-- a rule that says this, at a node of which no more than vote, role or leader changes
pub does_say : (h now : NodeValue) (d : Outcome) (say : Say) → now.id ≡ h.id → now.servers ≡ h.servers → now.snapshot ≡ h.snapshot → (node_of now).log ≡ (node_of h).log → d ≡ outcome_of now (only_says say) → Does h d now (only_says say)
does_say h now d say id servers snapshot log is = record { id = id; servers = servers; outcome = is; log = (snapshot, log) }

pub does_nothing : (h : NodeValue) (d : Outcome) → d ≡ quiet (node_of h) → Does h d h (only_says say.Nothing)
does_nothing h d is = record { id = refl; servers = refl; outcome = is; log = (refl, refl) }

-- ---- winning

-- a candidate that leads, and has appended the barrier
abbrev pub led : NodeValue → ℕ → NodeValue
led h next = record h { role = Leader; leader = h.id; rows = rows_for (peers h.servers h.id) next []; entries = h.entries ++ barrier h.term ∷ [] }

led_node : (h : NodeValue) (next : ℕ) → next ≡ suc (length (node_of h).log) → with_log (as_leader h.id (node_of h)) ((node_of h).log ++ barrier h.term ∷ []) h.commit ≡ node_of (led h next)
led_node h next at = λ k. record (node_of (led h next)) { log = (append_assoc (compacted h.snapshot h.base) h.entries (barrier h.term ∷ [])) k; next_of = λ p. next_is p k; match_of = λ p. (sym (match_is p)) k }
  where
    ids : List ℕ
    ids = peers h.servers h.id

    next_is : (p : ℕ) → cond (among (peers h.servers h.id) p) (suc (length (node_of h).log)) 1 ≡ next_in (rows_for (peers h.servers h.id) next []) p
    next_is p = ap (λ n. cond (among (peers h.servers h.id) p) n 1) (sym at) ∙ sym (next_rows_for (peers h.servers h.id) next [] p)

    same : (b : Bool) (z : ℕ) → cond b z z ≡ z
    same true z = refl
    same false z = refl

    match_is : (p : ℕ) → match_in (rows_for (peers h.servers h.id) next []) p ≡ 0
    match_is p = match_rows_for (peers h.servers h.id) next [] p ∙ same (among (peers h.servers h.id) p) 0

pub does_lead : (h : NodeValue) (next : ℕ) (say : Say) → majority (voters h.servers) (among h.grants) ≡ true → next ≡ suc (length (node_of h).log) → h.commit < next → Does h (on_grants (told h) h.id (node_of h) (said h say)) (led h next) (record { say = say; recipients = sent.Everyone; change = changes.From next })
unfolding on_grants
does_lead h next say won at past =
    let n = whole_length h in record {
      id = refl;
      servers = refl;
      outcome = cond-true (majority (voters h.servers) (among h.grants)) _ _ won ∙ (λ k. record { node = (led_node h next at) k; out = said h say; recipients = Everyone });
      log = (refl, omega arith, appended h.commit (node_of h).log (barrier h.term ∷ []) (node_of (led h next)).log next (sym (append_assoc (compacted h.snapshot h.base) h.entries (barrier h.term ∷ []))) (omega arith) at past);
    }

pub does_wait : (h : NodeValue) (say : Say) → majority (voters h.servers) (among h.grants) ≡ false → Does h (on_grants (told h) h.id (node_of h) (said h say)) h (only_says say)
unfolding on_grants
does_wait h say won = record { id = refl; servers = refl; outcome = cond-false (majority (voters h.servers) (among h.grants)) _ _ won; log = (refl, refl) }

-- ---- standing

-- a node that stands for election in the next term
abbrev pub standing : NodeValue → NodeValue
standing h = record h { term = suc h.term; vote = h.id; role = Candidate; leader = 0; grants = h.id ∷ [] }

-- its own vote counts once
own_once : (ids : List ℕ) (x : ℕ) → grants_with ids (x ∷ []) x ≡ x ∷ []
unfolding grants_with
own_once ids x = ap (λ b. cond (among ids x && not (b || false)) ((x ∷ []) ++ x ∷ []) (x ∷ [])) (eq-eqb x x refl) ∙ none (among ids x)
  where
    none : (b : Bool) → cond (b && false) ((x ∷ []) ++ x ∷ []) (x ∷ []) ≡ x ∷ []
    none true = refl
    none false = refl

pub does_stand : (h mid counted now : NodeValue) (last : LogEnd) (transfer : Bool) (e : Effects) → may_start_election (told h) h.id (node_of h) ≡ true → mid ≡ standing h → last ≡ log_end (node_of mid).log → counted ≡ record mid { grants = grants_with (voters mid.servers) mid.grants mid.id } → Does counted (on_grants (told counted) counted.id (node_of counted) (said counted (say.AskVotes last transfer))) now e → Does h (start_election (told h) h.id (node_of h) transfer) now e
unfolding start_election
does_stand h mid counted now last transfer e may at end count d =
    let whole : counted ≡ standing h = count ∙ ap (λ (m : NodeValue). record m { grants = grants_with (voters m.servers) m.grants m.id }) at ∙ ap (λ g. record (standing h) { grants = g }) (own_once (voters h.servers) h.id) in
    let does : Does (standing h) (on_grants (told h) h.id (node_of (standing h)) (said (standing h) (say.AskVotes last transfer))) now e = subst (λ (m : NodeValue). Does m (on_grants (told m) m.id (node_of m) (said m (say.AskVotes last transfer))) now e) whole d in
    let its : last ≡ log_end (node_of h).log = end ∙ ap (λ (m : NodeValue). log_end (node_of m).log) at in
    record {
      id = does.id;
      servers = does.servers;
      outcome = cond-true (may_start_election (told h) h.id (node_of h)) _ _ may ∙ ap (λ l. on_grants (told h) h.id (node_of (standing h)) (map (λ to. record { from = h.id; to = to; term = suc h.term; what = AskVote l transfer }) (others (voters h.servers) h.id))) (sym its) ∙ does.outcome;
      log = does.log;
    }

pub does_not_stand : (h : NodeValue) (transfer : Bool) → may_start_election (told h) h.id (node_of h) ≡ false → Does h (start_election (told h) h.id (node_of h) transfer) h (only_says say.Nothing)
unfolding start_election
does_not_stand h transfer may = does_nothing h _ (cond-false (may_start_election (told h) h.id (node_of h)) _ _ may)

-- ---- votes

pub does_answer : (h now : NodeValue) (from : ℕ) (last : LogEnd) (granted : Bool) → granted ≡ grants_vote (node_of h) from last → now ≡ cond (grants_vote (node_of h) from last) (record h { vote = from }) h → Does h (on_ask_vote h.id (node_of h) from last) now (only_says (say.Vote from granted))
unfolding on_ask_vote
does_answer h now from last granted told_so is =
    let same : now ≡ cond granted (record h { vote = from }) h = is ∙ ap (λ b. cond b (record h { vote = from }) h) (sym told_so) in
    subst (λ (m : NodeValue). Does h (on_ask_vote h.id (node_of h) from last) m (only_says (say.Vote from granted))) (sym same)
    (subst (λ b. Does h (cond b (says (with_vote (node_of h) from) (answer_of true)) (says (node_of h) (answer_of false))) (cond granted (record h { vote = from }) h) (only_says (say.Vote from granted))) told_so (by granted))
  where
    answer_of : Bool → Message
    answer_of b = answer h.id (node_of h) from (Vote b)

    by : (b : Bool) → Does h (cond b (says (with_vote (node_of h) from) (answer h.id (node_of h) from (Vote true))) (says (node_of h) (answer h.id (node_of h) from (Vote false)))) (cond b (record h { vote = from }) h) (only_says (say.Vote from b))
    by true = record { id = refl; servers = refl; outcome = refl; log = (refl, refl) }
    by false = record { id = refl; servers = refl; outcome = refl; log = (refl, refl) }

pub does_count : (h mid now : NodeValue) (from : ℕ) (granted : Bool) (e : Effects) → (granted && is_candidate h.role) ≡ true → mid ≡ record h { grants = grants_with (voters h.servers) h.grants from } → Does mid (on_grants (told mid) mid.id (node_of mid) (said mid say.Nothing)) now e → Does h (on_vote (told h) h.id (node_of h) from granted) now e
unfolding on_vote
does_count h mid now from granted e may at d =
    let with : NodeValue = record h { grants = grants_with (voters h.servers) h.grants from } in
    let does : Does with (on_grants (told h) h.id (node_of with) []) now e = subst (λ (m : NodeValue). Does m (on_grants (told m) m.id (node_of m) []) now e) at d in
    record { id = does.id; servers = does.servers; outcome = cond-true (granted && is_candidate h.role) _ _ may ∙ does.outcome; log = does.log }

pub does_not_count : (h : NodeValue) (from : ℕ) (granted : Bool) → (granted && is_candidate h.role) ≡ false → Does h (on_vote (told h) h.id (node_of h) from granted) h (only_says say.Nothing)
unfolding on_vote
does_not_count h from granted may = does_nothing h _ (cond-false (granted && is_candidate h.role) _ _ may)

pub candidate_of : (r : Role) → is_candidate r ≡ true → r ≡ Candidate
candidate_of Leader e = absurd cc
candidate_of Candidate e = refl
candidate_of Follower e = absurd cc

-- ---- for the code's branches

-- the same for effects that are these
pub effects_are : (h now : NodeValue) (d : Outcome) (e e' : Effects) → e ≡ e' → Does h d now e' → Does h d now e
effects_are h now d e e' is x = subst (λ (e : Effects). Does h d now e) (sym is) x

-- what holds of a value, if there is one, holds of it in another form
pub if_ok : {A E : Type 0} (r : Result A E) (P Q : A → Type 0) → IfOk r P → ((x : A) → P x → Q x) → IfOk r Q
if_ok (Ok x) P Q p f = f x p
if_ok (Err e) P Q p f = tt

-- and two things that hold of it
pub both_ok : {A E : Type 0} (r : Result A E) (P Q : A → Type 0) → IfOk r P → IfOk r Q → IfOk r (λ x. P x × Q x)
both_ok (Ok x) P Q p q = (p, q)
both_ok (Err e) P Q p q = tt

-- a candidate that leads, as its parts have changed
pub leads_with : (h m now : NodeValue) (b : Entry) (next t : ℕ) → m ≡ record h { role = Leader; leader = h.id; rows = rows_for (peers h.servers h.id) next [] } → t ≡ m.term → b ≡ barrier t → now ≡ record m { entries = m.entries ++ b ∷ [] } → now ≡ led h next
leads_with h m now b next t is term made now_is =
    now_is ∙ ap (λ (m : NodeValue). record m { entries = m.entries ++ b ∷ [] }) is ∙ ap (λ b. record (led h next) { entries = h.entries ++ b ∷ [] }) (made ∙ ap barrier (term ∙ ap (λ (m : NodeValue). m.term) is))

-- who may stand votes, and has a term to be in
pub may_parts : (h : NodeValue) → may_start_election (told h) h.id (node_of h) ≡ true → (among (voters h.servers) h.id ≡ true) × (h.term < 4294967295)
unfolding may_start_election
may_parts h e =
    let a = and_parts _ _ e in
    let b = and_parts _ _ a.0 in
    let c = and_parts _ _ b.0 in
    let d = and_parts _ _ c.0 in
    (d.0, ltb-true _ _ b.1)
