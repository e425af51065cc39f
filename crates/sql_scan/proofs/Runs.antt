-- Runs of bytes that pass a test.
use Rattle.std.proofs.Common.{◌≡◌, ℕ, suc, ◌+◌, ◌≤◌, Bool, true, false, not, cond, ltb, List, [], ◌∷◌, length, Some, None, refl, ap, arith, inl, inr}
use Rattle.std.specs.Option.{unwrap_or}
use Rattle.std.specs.List.{prefix_len}
use Rattle.std.proofs.lemmas.Bool.{cases_lt, lt-ltb, le-ltb}
use Rattle.sql_scan.specs.Lengths.{run}

not-not : (b : Bool) → not (not b) ≡ b
not-not true = refl
not-not false = refl

counted : (p : ℕ → Bool) (xs : List ℕ) → prefix_len (λ x. not (not (p x))) xs ≡ prefix_len p xs
counted p [] = refl
counted p (x ∷ xs) = rw (not-not (p x)) (ap (λ n. cond (p x) (1 + n) 0) (counted p xs))

pub run-le : (p : ℕ → Bool) (xs : List ℕ) → prefix_len p xs ≤ length xs
run-le p [] = omega arith
run-le p (x ∷ xs) =
    let h : prefix_len p xs ≤ length xs = run-le p xs in
    elim (p x) as (λ b. cond b (1 + prefix_len p xs) 0 ≤ suc (length xs)) [ true ↦ omega arith | false ↦ omega arith ]

chosen : (n len : ℕ) → n ≤ len → unwrap_or (cond (ltb n len) (Some n) None) len ≡ n
chosen n len le = elim (cases_lt n len) [
  | inl lt ↦ rw (lt-ltb n len lt) refl
  | inr ge ↦ rw (le-ltb n len ge) (omega arith)
]

pub run_is : (p : ℕ → Bool) (xs : List ℕ) → run p xs ≡ prefix_len p xs
run_is p xs = rw (counted p xs) (chosen (prefix_len p xs) (length xs) (run-le p xs))
