-- A node's log that is compacted.
use Rattle.std.proofs.Common.{◌≡◌, ℕ, suc, ◌-◌, ◌<◌, ◌≤◌, List, length, drop, refl, sym, ap, subst, ◌∙◌, ⊎_elim, arith}
use Rattle.std.specs.Prelude.{Bool, true, false, ◌&&◌, ◌||◌, ◌==◌, not, nat_lt, nat_le, max, min, if◌then◌else◌, Option, Some, None}
use Rattle.std.proofs.lemmas.Bool.{cond-true, cond-false, cases_lt, and_parts, leb-true, leb-false, eqb-true, le-leb}
use Rattle.std.proofs.lemmas.List.{length-drop}
use Rattle.raft_spec.specs.Log.{Entry, LogEnd, term_at, matches}
use Rattle.raft_spec.specs.Node.{Node}
use Rattle.raft_spec.specs.Snapshots.{needs_snapshot}
use Rattle.raft_spec.specs.Compaction.{CutLog, whole_log}
use Rattle.raft_spec.specs.NodeValues.{NodeValue, node_of}
use Rattle.raft_spec.proofs.NodeValues.{whole_length}
use Rattle.raft_log.specs.Places.{known_term, place_at, cut_at}
use Rattle.raft_log.proofs.Places.{whole_count}
use Rattle.raft_log.specs.declared.compaction.InstallPlan.{InstallPlan}
use Rattle.raft_log.specs.declared.compaction.InstallPlan.TheVariants as plans
use Rattle.raft_log.specs.Compacting.{needs, has_that_term, plan_for}
use Rattle.raft_safety.proofs.Alikes.{same_term}
use Rattle.raft_core.specs.Nodes.{IsLog}
use Rattle.raft_core.specs.Steps.{PlansFor}
use Rattle.raft_core.proofs.WholeLogs.{log_with, log_same}
use Rattle.raft_core.proofs.TakenLogs.{not_le}

-- ---- who needs the snapshot

pub needs_same : (h : NodeValue) (last : LogEnd) (next first : ℕ) → last ≡ h.snapshot → first ≡ suc h.base → needs last next first ≡ needs_snapshot (node_of h) next
unfolding needs_snapshot
needs_same h last next first is at =
    let less : first - 1 ≡ h.base = omega arith in
    ap (λ n. nat_lt next n || ((next == n) && not (first - 1 == 0) && not (first - 1 == last.index))) at
    ∙ ap (λ n. nat_lt next (suc h.base) || ((next == suc h.base) && not (n == 0) && not (n == last.index))) less
    ∙ ap (λ (e : LogEnd). nat_lt next (suc h.base) || ((next == suc h.base) && not (h.base == 0) && not (h.base == e.index))) is

-- ---- what becomes of the log

past_term : (first : LogEnd) (h : NodeValue) (i : ℕ) → first.index ≡ h.base → IsLog (log_with first h) h.commit h.snapshot → h.commit < i → term_at (whole_log (log_with first h)) i ≡ term_at (node_of h).log i
past_term first h i at ok new =
    let low = ok.low in
    let applied = ok.applied in
    same_term i (omega arith) (log_same first h at ok)

has_term_at : (first : LogEnd) (h : NodeValue) (last : LogEnd) → first.index ≡ h.base → IsLog (log_with first h) h.commit h.snapshot → h.commit < last.index → has_that_term last (known_term (log_with first h) last.index) ≡ matches (node_of h).log last
unfolding matches
has_term_at first h last at ok new =
    let low = ok.low in
    let applied = ok.applied in
    let s = log_same first h at ok in
    ap (λ b. has_that_term last (if b && nat_le last.index (length (whole_log (log_with first h))) then Some (term_at (whole_log (log_with first h)) last.index) else None)) (le-leb first.index last.index (omega arith))
    ∙ ap (λ n. has_that_term last (if nat_le last.index n then Some (term_at (whole_log (log_with first h)) last.index) else None)) s.len
    ∙ ap (λ t. has_that_term last (if nat_le last.index (length (node_of h).log) then Some t else None)) (past_term first h last.index at ok new)
    ∙ both (nat_le last.index (length (node_of h).log)) (term_at (node_of h).log last.index)
  where
    both : (b : Bool) (t : ℕ) → has_that_term last (if b then Some t else None) ≡ (b && (t == last.term))
    both true t = refl
    both false t = refl

plans_at : (s : Node) (last : LogEnd) (old has : Bool) → nat_le last.index s.commit ≡ old → (old ≡ false → matches s.log last ≡ has) → PlansFor s last (if old then plans.Old else if has then plans.KeepRest else plans.Replace)
plans_at s last true has o m = o
plans_at s last false true o m = (o, m refl)
plans_at s last false false o m = (o, m refl)

pub plans_same : (first : LogEnd) (h : NodeValue) (last : LogEnd) (own : Option ℕ) (plan : InstallPlan) → first.index ≡ h.base → IsLog (log_with first h) h.commit h.snapshot → own ≡ known_term (log_with first h) last.index → plan ≡ plan_for last h.commit own → PlansFor (node_of h) last plan
plans_same first h last own plan at ok known is =
    subst (PlansFor (node_of h) last) (sym (is ∙ ap (plan_for last h.commit) known))
    (plans_at (node_of h) last (nat_le last.index h.commit) (has_that_term last (known_term (log_with first h) last.index)) refl (λ f. sym (has_term_at first h last at ok (leb-false _ _ f))))

-- ---- cutting

min_left : (a b : ℕ) → a ≤ b → min a b ≡ a
min_left a b le = omega arith

-- a log that has a snapshot's end is compacted there
pub cut_kept : (first : LogEnd) (h : NodeValue) (last : LogEnd) → first.index ≡ h.base → IsLog (log_with first h) h.commit h.snapshot → h.commit < last.index → matches (node_of h).log last ≡ true → cut_at (log_with first h) last.index ≡ record { first = last; entries = drop (last.index - h.base) h.entries }
unfolding matches
cut_kept first h last at ok new has =
    let low = ok.low in
    let applied = ok.applied in
    let s = log_same first h at ok in
    let parts = and_parts (nat_le last.index (length (node_of h).log)) (term_at (node_of h).log last.index == last.term) has in
    let within : last.index ≤ length (node_of h).log = leb-true _ _ parts.0 in
    let len = s.len in
    let place : min last.index (length (whole_log (log_with first h))) ≡ last.index = min_left _ _ (omega arith) in
    let term : term_at (whole_log (log_with first h)) (min last.index (length (whole_log (log_with first h)))) ≡ last.term = ap (term_at (whole_log (log_with first h))) place ∙ past_term first h last.index at ok new ∙ eqb-true _ _ parts.1 in
    let cut : last.index - first.index ≡ last.index - h.base = ap (λ n. last.index - n) at in
    cond-false (nat_le last.index first.index) _ _ (not_le last.index first.index (omega arith)) ∙ (λ k. record { first = record { index = place k; term = term k }; entries = drop (cut k) h.entries })

pub kept_log : (new : CutLog) (last : LogEnd) (es : List Entry) (commit : ℕ) → new ≡ record { first = last; entries = es } → commit ≡ last.index → IsLog new commit last
kept_log new last es commit is at =
    let i = ap (λ (l : CutLog). l.first.index) is in
    record { low = omega arith; applied = omega arith; within = omega arith; cut = λ e. ap (λ (l : CutLog). l.first.term) is }

-- a log that is compacted at an index that it has
pub cut_behind : (first : LogEnd) (h : NodeValue) (k : ℕ) → first.index ≡ h.base → k ≤ length (node_of h).log → ((cut_at (log_with first h) k).first.index ≡ max h.base k) × ((cut_at (log_with first h) k).entries ≡ drop (k - h.base) h.entries)
cut_behind first h k at within =
    let n = whole_count (log_with first h) in
    let m = whole_length h in
    ⊎_elim
    (λ (l : first.index < k).
    let is : cut_at (log_with first h) k ≡ record { first = place_at (log_with first h) (min k (length (whole_log (log_with first h)))); entries = drop (k - first.index) h.entries } = cond-false (nat_le k first.index) _ _ (not_le k first.index l) in
    let place : min k (length (whole_log (log_with first h))) ≡ max h.base k = omega arith in
    (ap (λ (l : CutLog). l.first.index) is ∙ place, ap (λ (l : CutLog). l.entries) is ∙ ap (λ n. drop (k - n) h.entries) at))
    (λ (l : k ≤ first.index).
    let is : cut_at (log_with first h) k ≡ log_with first h = cond-true (nat_le k first.index) _ _ (le-leb k first.index l) in
    let place : first.index ≡ max h.base k = omega arith in
    let none : 0 ≡ k - h.base = omega arith in
    (ap (λ (l : CutLog). l.first.index) is ∙ place, ap (λ (l : CutLog). l.entries) is ∙ ap (λ n. drop n h.entries) none))
    (cases_lt first.index k)

-- what is known of it with a snapshot at an applied index
pub compacted_log : (first : LogEnd) (h : NodeValue) (new : CutLog) (i k : ℕ) (last : LogEnd) → first.index ≡ h.base → IsLog (log_with first h) h.commit h.snapshot → h.snapshot.index < i → i ≤ h.commit → last.index ≡ i → k ≡ i - 16 → new ≡ cut_at (log_with first h) k → IsLog new h.commit last
compacted_log first h new i k last at ok newer applied end place is =
    let low = ok.low in
    let within = ok.within in
    let m = whole_length h in
    let b = cut_behind first h k at (omega arith) in
    let start = ap (λ (l : CutLog). l.first.index) is ∙ b.0 in
    let size = ap (λ (l : CutLog). length l.entries) is ∙ ap length b.1 ∙ length-drop (k - h.base) h.entries in
    record { low = omega arith; applied = omega arith; within = omega arith; cut = λ e. absurd (omega arith) }
