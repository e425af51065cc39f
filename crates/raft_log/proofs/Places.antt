-- Lengths and terms of the whole log that a log represents.
use Rattle.std.proofs.Common.{◌≡◌, ℕ, zero, suc, ◌+◌, ◌-◌, ◌<◌, ◌≤◌, List, [], ◌∷◌, ◌++◌, length, take, drop, slice_index_or, refl, sym, ap, ◌∙◌, arith, length-append, length-drop}
use Rattle.std.specs.Prelude.{◌&&◌, ◌==◌, nat_le, true}
use Rattle.std.proofs.lemmas.Bool.{and_parts, leb-true}
use Rattle.std.proofs.lemmas.List.{take_more, get_or-drop}
use Rattle.raft_spec.specs.Log.{Entry, LogEnd, nth_term, term_at, matches}
use Rattle.raft_spec.specs.Node.{Follower}
use Rattle.raft_spec.specs.Compaction.{CutLog, compacted, whole_log, meets}
use Rattle.raft_spec.specs.NodeValues.{NodeValue}
use Rattle.raft_spec.proofs.NodeValues.{compacted_length, whole_term, whole_term_cut}

-- how long the whole log is
pub whole_count : (l : CutLog) → length (whole_log l) ≡ l.first.index + length l.entries
whole_count l = length-append (compacted l.first l.first.index) l.entries ∙ ap (λ n. n + length l.entries) (compacted_length l.first l.first.index)

-- a node that holds the log
abbrev holder : CutLog → NodeValue
holder l = record { id = 0; term = 0; vote = 0; entries = l.entries; role = Follower; leader = 0; commit = 0; grants = []; servers = []; rows = []; snapshot = l.first; base = l.first.index }

pub nth_entry : (es : List Entry) (k : ℕ) (e : Entry) → k < length es → nth_term es k ≡ (slice_index_or es k e).term
nth_entry [] k d l = absurd (omega arith)
nth_entry (e ∷ es) zero d l = refl
nth_entry (e ∷ es) (suc k) d l = nth_entry es k d (omega arith)

pub term_none : (l : CutLog) → term_at (whole_log l) 0 ≡ 0
unfolding term_at
term_none l = refl

-- what is compacted has the term of the cut
pub term_cut : (l : CutLog) (k : ℕ) → 0 < k → k ≤ l.first.index → term_at (whole_log l) k ≡ l.first.term
term_cut l k pos le = whole_term_cut (holder l) k pos le

-- past it each entry has its own
pub term_past : (l : CutLog) (k : ℕ) → l.first.index < k → k ≤ length (whole_log l) → term_at (whole_log l) k ≡ nth_term l.entries (k - l.first.index - 1)
term_past l k lt le = let same : k - suc l.first.index ≡ k - l.first.index - 1 = omega arith in whole_term (holder l) k lt ∙ ap (nth_term l.entries) same

-- a place that the log has
pub meets_parts : (l : CutLog) (prev : LogEnd) → meets l prev ≡ true → (l.first.index ≤ prev.index) × (prev.index ≤ length (whole_log l))
unfolding matches
meets_parts l prev e =
    let a = and_parts (nat_le l.first.index prev.index) (nat_le prev.index (length (whole_log l)) && (term_at (whole_log l) prev.index == prev.term)) e in
    let b = and_parts (nat_le prev.index (length (whole_log l))) (term_at (whole_log l) prev.index == prev.term) a.1 in
    (leb-true _ _ a.0, leb-true _ _ b.0)

-- one more entry of a range
pub range_more : (xs made : List Entry) (from place : ℕ) (e d : Entry) → from ≤ place → place < length xs → made ≡ take (place - from) (drop from xs) → e ≡ slice_index_or xs place d → made ++ e ∷ [] ≡ take (place + 1 - from) (drop from xs)
range_more xs made from place e d le lt m is =
    let size = length-drop from xs in
    let at : from + (place - from) ≡ place = omega arith in
    let next : place + 1 - from ≡ place - from + 1 = omega arith in
    let found : slice_index_or (drop from xs) (place - from) d ≡ e = get_or-drop from xs (place - from) d ∙ ap (λ n. slice_index_or xs n d) at ∙ sym is in
    ap (λ l. l ++ e ∷ []) m ∙ ap (λ x. take (place - from) (drop from xs) ++ x ∷ []) (sym found) ∙ sym (take_more (drop from xs) (place - from) d (omega arith)) ∙ ap (λ n. take n (drop from xs)) (sym next)
