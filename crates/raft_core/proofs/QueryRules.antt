-- What a node says of its log.
use Rattle.std.proofs.Common.{◌≡◌, ◌⊎◌, inl, inr, ℕ, length, refl, sym, ap, ◌∙◌, ⊎_elim}
use Rattle.std.specs.Prelude.{Bool, true, false, not, ◌&&◌, ◌==◌, nat_le, if◌then◌else◌, Some, None}
use Rattle.std.proofs.lemmas.Bool.{and_cases, not-false, leb-true, eqb-true, eqb-false}
use Rattle.raft_spec.specs.Log.{LogEnd, term_at}
use Rattle.raft_spec.specs.Compaction.{whole_log}
use Rattle.raft_spec.specs.NodeValues.{NodeValue, node_of}
use Rattle.raft_log.specs.Places.{known_term}
use Rattle.raft_core.specs.Nodes.{IsLog}
use Rattle.raft_core.specs.Queries.{forgets_at, known_at}
use Rattle.raft_core.proofs.WholeLogs.{log_with, log_same}
use Rattle.raft_core.proofs.FinishRules.{term_same}

-- if the term at the cut isn't forgotten, the cut is the log's begin or the snapshot's end
kept_cut : (h : NodeValue) (i : ℕ) → forgets_at h i ≡ false → i ≡ h.base → (h.base ≡ 0) ⊎ (h.base ≡ h.snapshot.index)
kept_cut h i f at =
    ⊎_elim
    (λ (x : ((i == h.base) && not (i == 0)) ≡ false). ⊎_elim
    (λ (y : (i == h.base) ≡ false). absurd (eqb-false _ _ y at))
    (λ (y : not (i == 0) ≡ false). inl (sym at ∙ eqb-true _ _ (not-false _ y)))
    (and_cases _ _ x))
    (λ (x : not (i == h.snapshot.index) ≡ false). inr (sym at ∙ eqb-true _ _ (not-false _ x)))
    (and_cases _ _ f)

pub known_same : (first : LogEnd) (h : NodeValue) (i : ℕ) → first.index ≡ h.base → IsLog (log_with first h) h.commit h.snapshot → forgets_at h i ≡ false → known_term (log_with first h) i ≡ known_at h i
known_same first h i at ok f =
    let s = log_same first h at ok in
    ap (λ b. if b && nat_le i (length (whole_log (log_with first h))) then Some (term_at (whole_log (log_with first h)) i) else None) (ap (λ n. nat_le n i) at)
    ∙ ap (λ n. if nat_le h.base i && nat_le i n then Some (term_at (whole_log (log_with first h)) i) else None) s.len
    ∙ by (nat_le h.base i) (nat_le i (length (node_of h).log)) refl
    ∙ sym (ap (λ b. if b then None else if nat_le h.base i && nat_le i (length (node_of h).log) then Some (term_at (node_of h).log i) else None) f)
  where
    by : (a b : Bool) → nat_le h.base i ≡ a → (if a && b then Some (term_at (whole_log (log_with first h)) i) else None) ≡ (if a && b then Some (term_at (node_of h).log i) else None)
    by true true e = ap (λ t. Some t) (term_same first h i at ok (leb-true _ _ e) (kept_cut h i f))
    by true false e = refl
    by false b e = refl

pub forgotten : (h : NodeValue) (i : ℕ) → forgets_at h i ≡ true → None ≡ known_at h i
forgotten h i f = sym (ap (λ b. if b then None else if nat_le h.base i && nat_le i (length (node_of h).log) then Some (term_at (node_of h).log i) else None) f)
