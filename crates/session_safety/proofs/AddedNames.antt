-- Names of databases, if one is added.
use Rattle.std.proofs.Common.{◌≡◌, ℕ, true, false, true≢false, List, [], ◌∷◌, refl, sym, ap, ◌∙◌, subst, ⊎_elim, Ordering, Less, Equal, Greater}
use Rattle.std.specs.Prelude.{bytes_eq}
use Rattle.std.specs.Ordering.{nat_cmp, match_ordering, is_eq}
use Rattle.std.specs.Cmp.Lexicographic.{slice_cmp}
use Rattle.std.proofs.lemmas.Map.Text.{is_eq-slice_cmp}
use Rattle.std.proofs.lemmas.Bool.{cases_Bool, or_cases, or_left, or_right}
use Rattle.database_state.specs.ByName.{at_name}
use Rattle.session_spec.specs.Machine.{is_named, with_name}
use Rattle.session_spec.proofs.Names.{name_is, same_name}

-- a name is there after it was added
pub there_name : (names : List (List ℕ)) (k : List ℕ) → is_named (with_name k names) k ≡ true
unfolding at_name
there_name [] k = or_left (bytes_eq k k) false (same_name k)
there_name (x ∷ names) k =
    let go : (o : Ordering) → slice_cmp nat_cmp k x ≡ o → is_named (match_ordering o (k ∷ x ∷ names) (x ∷ names) (x ∷ with_name k names)) k ≡ true =
    λ o. elim o as (λ o. slice_cmp nat_cmp k x ≡ o → is_named (match_ordering o (k ∷ x ∷ names) (x ∷ names) (x ∷ with_name k names)) k ≡ true) [
      | Less ↦ λ e. or_left (bytes_eq k k) (is_named (x ∷ names) k) (same_name k)
      | Equal ↦ λ e. or_left (bytes_eq k x) (is_named names k) (sym (is_eq-slice_cmp k x) ∙ ap is_eq e)
      | Greater ↦ λ e. or_right (bytes_eq k x) (is_named (with_name k names) k) (there_name names k)
    ] in
    go (slice_cmp nat_cmp k x) refl

-- and others are as before
pub still_named : (names : List (List ℕ)) (k n : List ℕ) → is_named names n ≡ true → is_named (with_name k names) n ≡ true
unfolding at_name
still_named [] k n h = absurd (true≢false (sym h))
still_named (x ∷ names) k n h =
    elim (slice_cmp nat_cmp k x) as (λ o. is_named (match_ordering o (k ∷ x ∷ names) (x ∷ names) (x ∷ with_name k names)) n ≡ true) [
      | Less ↦ or_right (bytes_eq n k) (is_named (x ∷ names) n) h
      | Equal ↦ h
      | Greater ↦ ⊎_elim
          (λ (e : bytes_eq n x ≡ true). or_left (bytes_eq n x) (is_named (with_name k names) n) e)
          (λ (e : is_named names n ≡ true). or_right (bytes_eq n x) (is_named (with_name k names) n) (still_named names k n e))
          (or_cases (bytes_eq n x) (is_named names n) h)
    ]

pub kept_name : (names : List (List ℕ)) (k n : List ℕ) → is_named (with_name k names) n ≡ false → is_named names n ≡ false
kept_name names k n h = ⊎_elim (λ (x : is_named names n ≡ true). absurd (true≢false (sym (still_named names k n x) ∙ h))) (λ (x : is_named names n ≡ false). x) (cases_Bool (is_named names n))

-- a database that is not the one of the name
pub another : (names : List (List ℕ)) (k n : List ℕ) → is_named (with_name k names) n ≡ false → bytes_eq n k ≡ true → ⊥
another names k n h e = true≢false (sym (subst (λ j. is_named (with_name k names) j ≡ true) (sym (name_is n k e)) (there_name names k)) ∙ h)
