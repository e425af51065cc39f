-- The code's log and the log of the node that it represents are the same past the cut, and end alike.
use Rattle.std.proofs.Common.{◌≡◌, ℕ, suc, ◌+◌, ◌-◌, ◌<◌, ◌≤◌, List, length, drop, sym, ap, ◌∙◌, ⊎_elim, arith}
use Rattle.std.proofs.lemmas.List.{drop_at}
use Rattle.std.proofs.lemmas.Bool.{cases_lt}
use Rattle.raft_spec.specs.Log.{Entry, LogEnd, nth_term, term_at, log_end}
use Rattle.raft_spec.specs.Compaction.{CutLog, compacted, whole_log}
use Rattle.raft_spec.specs.NodeValues.{NodeValue, node_of}
use Rattle.raft_spec.proofs.NodeValues.{compacted_length, whole_length, whole_term_cut}
use Rattle.raft_log.proofs.Places.{whole_count, term_cut}
use Rattle.raft_safety.specs.Cuts.{Same}
use Rattle.raft_safety.proofs.Logs.{nth_at, term_at-zero}
use Rattle.raft_safety.proofs.Alikes.{same_end}
use Rattle.raft_safety.proofs.AlikeRules.{Shape}
use Rattle.raft_core.specs.Nodes.{IsLog}

-- the log of a node's entries, compacted at this place
abbrev pub log_with : LogEnd → NodeValue → CutLog
log_with first h = record { first = first; entries = h.entries }

past : (b : ℕ) (xs ys : List Entry) (k : ℕ) → drop b xs ≡ drop b ys → b < k → term_at xs k ≡ term_at ys k
past b xs ys k e lt =
    let at : suc (b + (k - suc b)) ≡ k = omega arith in
    ap (term_at xs) (sym at) ∙ sym (nth_at b (k - suc b) xs) ∙ ap (λ l. nth_term l (k - suc b)) e ∙ nth_at b (k - suc b) ys ∙ ap (term_at ys) at

pub log_same : (first : LogEnd) (h : NodeValue) → first.index ≡ h.base → IsLog (log_with first h) h.commit h.snapshot → Same h.base h.snapshot.index (whole_log (log_with first h)) (node_of h).log
log_same first h at ok = record {
  len = whole_count (log_with first h) ∙ ap (λ n. n + length h.entries) at ∙ sym (whole_length h);
  rest = rest;
  snapshot = ⊎_elim
      (λ (l : h.base < h.snapshot.index). past h.base (whole_log (log_with first h)) (node_of h).log h.snapshot.index rest l)
      (λ (l : h.snapshot.index ≤ h.base). here l)
      (cases_lt h.base h.snapshot.index);
}
  where
    rest : drop h.base (whole_log (log_with first h)) ≡ drop h.base (node_of h).log
    rest = drop_at (compacted first first.index) h.entries h.base (compacted_length first first.index ∙ at) ∙ sym (drop_at (compacted h.snapshot h.base) h.entries h.base (compacted_length h.snapshot h.base))

    here : h.snapshot.index ≤ h.base → term_at (whole_log (log_with first h)) h.snapshot.index ≡ term_at (node_of h).log h.snapshot.index
    here l =
        let low = ok.low in
        let same : first.index ≡ h.snapshot.index = omega arith in
        ⊎_elim
        (λ (pos : 0 < h.snapshot.index). term_cut (log_with first h) h.snapshot.index pos (omega arith) ∙ ok.cut same ∙ sym (whole_term_cut h h.snapshot.index pos l))
        (λ (none : h.snapshot.index ≤ 0). let z : h.snapshot.index ≡ 0 = omega arith in ap (term_at (whole_log (log_with first h))) z ∙ term_at-zero (whole_log (log_with first h)) ∙ sym (ap (term_at (node_of h).log) z ∙ term_at-zero (node_of h).log))
        (cases_lt 0 h.snapshot.index)

-- a node of the rules is well formed
pub shape_of : (first : LogEnd) (h : NodeValue) → first.index ≡ h.base → IsLog (log_with first h) h.commit h.snapshot → Shape (node_of h)
shape_of first h at ok =
    let n = whole_length h in
    let low = ok.low in
    let within = ok.within in
    record { low = omega arith; applied = ok.applied; within = omega arith }

pub ends_same : (first : LogEnd) (h : NodeValue) → first.index ≡ h.base → IsLog (log_with first h) h.commit h.snapshot → log_end (whole_log (log_with first h)) ≡ log_end (node_of h).log
ends_same first h at ok =
    let n = whole_count (log_with first h) in
    let low = ok.low in
    let applied = ok.applied in
    let within = ok.within in
    same_end (omega arith) (omega arith) (log_same first h at ok)
