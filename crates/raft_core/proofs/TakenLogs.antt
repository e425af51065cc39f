-- A node's log that has taken entries.
use Rattle.std.proofs.Common.{◌≡◌, ◌≢◌, ◌⊎◌, inl, inr, ℕ, suc, ◌+◌, ◌-◌, ◌<◌, ◌≤◌, List, ◌++◌, length, take, drop, refl, sym, ap, subst, ◌∙◌, ⊎_elim, arith, append_assoc, length-append, length-drop}
use Rattle.std.specs.Prelude.{Bool, true, false, cond, ◌&&◌, ◌||◌, ◌==◌, nat_lt, nat_le, max, Option, Some, None, option_map}
use Rattle.std.proofs.lemmas.Bool.{cond-false, cases_lt, and_cases, ltb-false, leb-true, leb-false, le-leb, ne_eqb}
use Rattle.std.proofs.lemmas.List.{take_all, length-take-le}
use Rattle.std.proofs.Math.Seq.{take-append-add, drop-append-add}
use Rattle.raft_spec.specs.Log.{Entry, LogEnd, nth_term, term_at, matches, conflict_place, first_replaced}
use Rattle.raft_spec.specs.Todo.{Begins}
use Rattle.raft_spec.specs.Node.{Node}
use Rattle.raft_spec.specs.Outcomes.{with_log}
use Rattle.raft_spec.specs.Replication.{agrees}
use Rattle.raft_spec.specs.Compaction.{CutLog, compacted, whole_log, meets}
use Rattle.raft_spec.specs.NodeValues.{NodeValue, node_of}
use Rattle.raft_spec.proofs.AcceptPlaces.{accept_past_cut, starts, nth_dropped, nth_next}
use Rattle.raft_spec.proofs.NodeValues.{compacted_length, whole_length}
use Rattle.raft_log.specs.Agreeing.{agreeing_front, TakesIn, TakesAfter}
use Rattle.raft_log.proofs.Agreeing.{front_short, front_stops, front_conflict}
use Rattle.raft_log.proofs.Taking.{entries_taken}
use Rattle.raft_safety.proofs.Alikes.{same_term, same_drop}
use Rattle.raft_messages.proofs.Grants.{or_cases}
use Rattle.raft_safety.proofs.AlikeRules.{Shape}
use Rattle.raft_core.specs.Effects.{ChangesLog, Takes, change_from}
use Rattle.raft_core.specs.Nodes.{IsLog}
use Rattle.raft_core.proofs.WholeLogs.{log_with, log_same}

-- the first m entries stay, and others follow them from the first that differs on
pub begins_from : (commit : ℕ) (old rest new : List Entry) (m k : ℕ) → new ≡ take m old ++ rest → m ≤ length old → 0 < length rest → k ≡ suc m → commit < k → (m ≡ length old) ⊎ (nth_term old m ≢ nth_term rest 0) → Begins commit old new k
begins_from commit old rest new m k is le some at past x =
    let s = starts m old rest new le some is x in
    subst (Begins commit old new) (sym at) (record { past = omega arith; next = omega arith; within = s.1; same = s.2; differs = s.3 })

-- entries are added
pub appended : (commit : ℕ) (old more new : List Entry) (k : ℕ) → new ≡ old ++ more → 0 < length more → k ≡ suc (length old) → commit < k → Begins commit old new k
appended commit old more new k is some at past = begins_from commit old more new (length old) k (is ∙ ap (λ l. l ++ more) (sym (take_all (length old) old (omega arith)))) (omega arith) some at past (inl refl)

-- the log past the cut
pub rest_of : (h : NodeValue) (place : ℕ) → h.base ≤ place → drop place (node_of h).log ≡ drop (place - h.base) h.entries
rest_of h place le =
    let n = compacted_length h.snapshot h.base in
    let at : place ≡ length (compacted h.snapshot h.base) + (place - h.base) = omega arith in
    ap (λ k. drop k (node_of h).log) at ∙ drop-append-add (compacted h.snapshot h.base) h.entries (place - h.base)

front_of : (h : NodeValue) (place : ℕ) → h.base ≤ place → take place (node_of h).log ≡ compacted h.snapshot h.base ++ take (place - h.base) h.entries
front_of h place le =
    let n = compacted_length h.snapshot h.base in
    let at : place ≡ length (compacted h.snapshot h.base) + (place - h.base) = omega arith in
    ap (λ k. take k (node_of h).log) at ∙ take-append-add (compacted h.snapshot h.base) h.entries (place - h.base)

-- a node with these entries and this commit index
abbrev pub with_entries : NodeValue → List Entry → ℕ → NodeValue
with_entries h es commit = record h { entries = es; commit = commit }

-- the first that doesn't agree is past the commit index, if no committed entry is replaced
late_at : (h : NodeValue) (coming : List Entry) (place n : ℕ) → h.base ≤ place → place ≤ length (node_of h).log → h.commit ≤ length (node_of h).log → (nat_lt 0 (first_replaced (node_of h).log place coming) && nat_le (first_replaced (node_of h).log place coming) h.commit) ≡ false → agreeing_front (drop (place - h.base) h.entries) coming ≡ n → n < length coming → h.commit < suc (place + n)
unfolding first_replaced
late_at h coming place n low high in_log keeps front lt =
    let all = whole_length h in
    let p = place - h.base in
    let rest = drop p h.entries in
    let short = front_short rest coming in
    let left = length-drop p h.entries in
    ⊎_elim
    (λ (l : n < length rest).
    let c : conflict_place (drop place (node_of h).log) coming ≡ suc n = ap (λ l. conflict_place l coming) (rest_of h place low) ∙ front_conflict rest coming n (sym front) lt l in
    let f : first_replaced (node_of h).log place coming ≡ place + suc n = cond-false (conflict_place (drop place (node_of h).log) coming == 0) 0 (place + conflict_place (drop place (node_of h).log) coming) (ne_eqb _ _ (λ z. omega arith)) ∙ ap (λ k. place + k) c in
    let late : h.commit < place + suc n = past (first_replaced (node_of h).log place coming) f keeps in
    omega arith)
    (λ (l : length rest ≤ n). omega arith)
    (cases_lt n (length rest))
  where
    past : (f : ℕ) → f ≡ place + suc n → (nat_lt 0 f && nat_le f h.commit) ≡ false → h.commit < place + suc n
    past f e k =
        ⊎_elim (λ (x : nat_lt 0 f ≡ false). let z : f ≤ 0 = ltb-false 0 f x in absurd (omega arith)) (λ (x : nat_le f h.commit ≡ false). let z : h.commit < f = leb-false f h.commit x in omega arith) (and_cases (nat_lt 0 f) (nat_le f h.commit) k)

-- it is the first at which the logs differ
differs_at : (h : NodeValue) (coming : List Entry) (place n : ℕ) → h.base ≤ place → place ≤ length (node_of h).log → agreeing_front (drop (place - h.base) h.entries) coming ≡ n → n < length coming → (place + n ≡ length (node_of h).log) ⊎ (nth_term (node_of h).log (place + n) ≢ nth_term (drop n coming) 0)
differs_at h coming place n low high front lt =
    let all = whole_length h in
    let rest = drop (place - h.base) h.entries in
    let left = length-drop (place - h.base) h.entries in
    let stops : (n ≡ length rest) ⊎ (nth_term rest n ≢ nth_term coming n) = subst (λ m. m < length coming → (m ≡ length rest) ⊎ (nth_term rest m ≢ nth_term coming m)) front (front_stops rest coming) lt in
    ⊎_elim
    (λ (e : n ≡ length rest). inl (omega arith))
    (λ (d : nth_term rest n ≢ nth_term coming n). inr (λ z. d (ap (λ l. nth_term l n) (sym (rest_of h place low)) ∙ nth_dropped place (node_of h).log n ∙ z ∙ nth_next n coming)))
    stops

changed : (h : NodeValue) (es coming : List Entry) (place commit : ℕ) (agreeing : Option ℕ) → h.base ≤ place → place ≤ length (node_of h).log → h.commit ≤ length (node_of h).log → (nat_lt 0 (first_replaced (node_of h).log place coming) && nat_le (first_replaced (node_of h).log place coming) h.commit) ≡ false → TakesIn h.entries es (place - h.base) coming agreeing → ChangesLog (node_of h) (node_of (with_entries h es commit)) (change_from (option_map (λ n. suc (place + n)) agreeing))
changed h es coming place commit None low high in_log keeps t = (refl, ap (λ l. compacted h.snapshot h.base ++ l) t.1)
changed h es coming place commit (Some n) low high in_log keeps t =
    let all = whole_length h in
    let short = front_short (drop (place - h.base) h.entries) coming in
    let left = length-drop (place - h.base) h.entries in
    let front = t.0 in
    let lt = t.1 in
    let more = length-drop n coming in
    let less : place + n - h.base ≡ place - h.base + n = omega arith in (
      refl,
      omega arith,
      begins_from h.commit (node_of h).log (drop n coming) (node_of (with_entries h es commit)).log (place + n) (suc (place + n))
          (ap (λ l. compacted h.snapshot h.base ++ l) t.2 ∙ sym (append_assoc (compacted h.snapshot h.base) (take (place - h.base + n) h.entries) (drop n coming)) ∙ ap (λ l. l ++ drop n coming) (sym (front_of h (place + n) (omega arith) ∙ ap (λ k. compacted h.snapshot h.base ++ take k h.entries) less)))
          (omega arith) (omega arith) refl (late_at h coming place n low high in_log keeps front lt) (differs_at h coming place n low high front lt),
    )

pub takes : (first : LogEnd) (h : NodeValue) (new : CutLog) (place : ℕ) (coming : List Entry) (commit : ℕ) (from : Option ℕ) → first.index ≡ h.base → IsLog (log_with first h) h.commit h.snapshot → h.snapshot.index ≤ place → place ≤ length (node_of h).log → (nat_lt 0 (first_replaced (node_of h).log place coming) && nat_le (first_replaced (node_of h).log place coming) h.commit) ≡ false → TakesAfter (log_with first h) new place coming from → Takes h (with_entries h new.entries (max h.commit commit)) place coming commit (change_from from)
takes first h new place coming commit from at ok low high keeps t =
    let below = ok.low in
    let within = ok.within in
    let all = whole_length h in
    let taken : TakesIn h.entries new.entries (place - h.base) coming t.0 = subst (λ n. TakesIn h.entries new.entries (place - n) coming t.0) at t.2 in
    let es = entries_taken h.entries new.entries coming (place - h.base) t.0 taken in
    record {
      id = refl;
      servers = refl;
      node = ap (λ l. with_log (node_of h) (compacted h.snapshot h.base ++ l) (max h.commit commit)) es ∙ ap (λ l. with_log (node_of h) l (max h.commit commit)) (sym (accept_past_cut h.snapshot h.base h.entries coming place (omega arith)));
      log = subst (λ f. ChangesLog (node_of h) (node_of (with_entries h new.entries (max h.commit commit))) (change_from f)) (sym t.1) (changed h new.entries coming place (max h.commit commit) t.0 (omega arith) high (omega arith) keeps taken);
    }

-- ---- how long it is then

long_at : (h : NodeValue) (es coming : List Entry) (place : ℕ) (agreeing : Option ℕ) → h.base ≤ place → place ≤ length (node_of h).log → h.commit ≤ length (node_of h).log → (nat_lt 0 (first_replaced (node_of h).log place coming) && nat_le (first_replaced (node_of h).log place coming) h.commit) ≡ false → TakesIn h.entries es (place - h.base) coming agreeing → (place + length coming ≤ h.base + length es) × (h.commit ≤ h.base + length es)
long_at h es coming place None low high in_log keeps t =
    let all = whole_length h in
    let short = front_short (drop (place - h.base) h.entries) coming in
    let left = length-drop (place - h.base) h.entries in
    let front = t.0 in
    let same = ap length t.1 in
    (omega arith, omega arith)
long_at h es coming place (Some n) low high in_log keeps t =
    let all = whole_length h in
    let p = place - h.base in
    let rest = drop p h.entries in
    let short = front_short rest coming in
    let left = length-drop p h.entries in
    let front = t.0 in
    let lt = t.1 in
    let cut = length-take-le (p + n) h.entries (omega arith) in
    let more = length-drop n coming in
    let size = ap length t.2 ∙ length-append (take (p + n) h.entries) (drop n coming) in
    let late = late_at h coming place n low high in_log keeps front lt in
    (omega arith, omega arith)

-- what is known of a log still holds, with the commit index that came
pub taken_log : (l new : CutLog) (h : NodeValue) (place : ℕ) (coming : List Entry) (commit : ℕ) (from : Option ℕ) → l ≡ log_with l.first h → l.first.index ≡ h.base → IsLog l h.commit h.snapshot → h.snapshot.index ≤ place → place ≤ length (node_of h).log → (nat_lt 0 (first_replaced (node_of h).log place coming) && nat_le (first_replaced (node_of h).log place coming) h.commit) ≡ false → commit ≤ place + length coming → new.first ≡ l.first → TakesAfter l new place coming from → IsLog new (max h.commit commit) h.snapshot
taken_log l new h place coming commit from is at ok low high keeps known first t =
    let all = whole_length h in
    let held = ap (λ (x : CutLog). length x.entries) is in
    let below = ok.low in
    let applied = ok.applied in
    let within = ok.within in
    let taken : TakesIn h.entries new.entries (place - h.base) coming t.0 = subst (λ n. TakesIn h.entries new.entries (place - n) coming t.0) at (subst (λ (x : CutLog). TakesIn x.entries new.entries (place - l.first.index) coming t.0) is t.2) in
    let long = long_at h new.entries coming place t.0 (omega arith) high (omega arith) keeps taken in
    let start = ap (λ (e : LogEnd). e.index) first in
    let a = long.0 in
    let b = long.1 in
    record {
      low = omega arith;
      applied = omega arith;
      within = omega arith;
      cut = λ e. ap (λ (x : LogEnd). x.term) first ∙ ok.cut (sym start ∙ e);
    }

-- ---- places

pub not_le : (a b : ℕ) → b < a → nat_le a b ≡ false
not_le a b lt = none (nat_le a b) (λ e. let le : a ≤ b = leb-true a b e in omega arith)
  where
    none : (x : Bool) → (x ≡ true → ⊥) → x ≡ false
    none true f = absurd (f refl)
    none false f = refl

-- the code's log has a place past the snapshot exactly if the node's log has it
pub agrees_same : (first : LogEnd) (h : NodeValue) (prev : LogEnd) → first.index ≡ h.base → IsLog (log_with first h) h.commit h.snapshot → (h.snapshot.index < prev.index) → meets (log_with first h) prev ≡ agrees (node_of h) prev
unfolding agrees matches
agrees_same first h prev at ok past =
    let s = log_same first h at ok in
    let below = ok.low in
    let t : term_at (whole_log (log_with first h)) prev.index ≡ term_at (node_of h).log prev.index = same_term prev.index (omega arith) s in
    ap (λ b. b && (nat_le prev.index (length (whole_log (log_with first h))) && (term_at (whole_log (log_with first h)) prev.index == prev.term))) (le-leb first.index prev.index (omega arith))
    ∙ ap (λ n. nat_le prev.index n && (term_at (whole_log (log_with first h)) prev.index == prev.term)) s.len
    ∙ ap (λ n. nat_le prev.index (length (node_of h).log) && (n == prev.term)) t
    ∙ ap (λ b. b || (nat_le prev.index (length (node_of h).log) && (term_at (node_of h).log prev.index == prev.term))) (sym (not_le prev.index h.snapshot.index past))

pub agrees_below : (s : Node) (prev : LogEnd) → prev.index ≤ s.snapshot.index → true ≡ agrees s prev
unfolding agrees
agrees_below s prev le = at (nat_le prev.index s.snapshot.index) (λ e. let lt : s.snapshot.index < prev.index = leb-false _ _ e in omega arith)
  where
    at : (x : Bool) → (x ≡ false → ⊥) → true ≡ (x || matches s.log prev)
    at true f = refl
    at false f = absurd (f refl)

-- a place that agrees, or the snapshot's end where that is later, is in the log
pub agreeing_place : (s : Node) (prev : LogEnd) → Shape s → agrees s prev ≡ true → max prev.index s.snapshot.index ≤ length s.log
unfolding agrees matches
agreeing_place s prev sh e =
    let a = sh.applied in
    let b = sh.within in
    ⊎_elim
    (λ (x : nat_le prev.index s.snapshot.index ≡ true). let le : prev.index ≤ s.snapshot.index = leb-true _ _ x in omega arith)
    (λ (x : (nat_le prev.index (length s.log) && (term_at s.log prev.index == prev.term)) ≡ true). let le : prev.index ≤ length s.log = leb-true _ _ (front _ _ x) in omega arith)
    (or_cases _ _ e)
  where
    front : (x y : Bool) → (x && y) ≡ true → x ≡ true
    front true y e = refl
    front false y e = absurd cc

-- of the code's log and the node's the same entries would be replaced
pub replaced_same : (first : LogEnd) (h : NodeValue) (place : ℕ) (coming : List Entry) → first.index ≡ h.base → IsLog (log_with first h) h.commit h.snapshot → h.snapshot.index ≤ place → first_replaced (whole_log (log_with first h)) place coming ≡ first_replaced (node_of h).log place coming
unfolding first_replaced
replaced_same first h place coming at ok low =
    let below = ok.low in
    ap (λ l. cond (conflict_place l coming == 0) 0 (place + conflict_place l coming)) (same_drop place (omega arith) (log_same first h at ok))
