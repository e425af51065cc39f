-- A statement has no NUL, so its request can be written.
use Rattle.std.proofs.Common.{◌≡◌, ◌<◌, ◌+◌, ◌%◌, ◌^◌, ℕ, List, [], ◌∷◌, ◌++◌, refl, ◌∙◌, arith}
use Rattle.std.specs.Prelude.{false, ◌||◌, ◌==◌, codes}
use Rattle.std.specs.Fmt.{decimal}
use Rattle.std.proofs.lemmas.Bool.{ne_eqb}
use Rattle.std.proofs.lemmas.Fmt.{decimal_by_steps}
use Rattle.std.proofs.lemmas.List.Folds.{list_any-append}
use Rattle.dq_base.specs.Names.{has_nul}
use Rattle.wire_msgs.specs.Requests.{IsWritableRequest}
use Rattle.script_generator.specs.Generated.{cell_of, value_of, statement, set_request}

-- two texts without a NUL, one after the other
both_plain : (xs ys : List ℕ) → has_nul xs ≡ false → has_nul ys ≡ false → has_nul (xs ++ ys) ≡ false
both_plain xs ys first second = list_any-append (λ (byte : ℕ). byte == 0) xs ys ∙ (λ i. first i || second i)

digit_plain : (n : ℕ) → has_nul ((48 + n) ∷ []) ≡ false
digit_plain n = let some : (48 + n == 0) ≡ false = ne_eqb (48 + n) 0 (λ q. absurd (omega (arith, q))) in (λ i. some i || false)

decimal_plain : (n : ℕ) → n < 2 ^ 64 → has_nul (decimal n) ≡ false
decimal_plain =
    decimal_by_steps (λ (n : ℕ) (digits : List ℕ). has_nul digits ≡ false) (λ n small. digit_plain n)
    (λ n digits some before. both_plain digits ((48 + n % 10) ∷ []) before (digit_plain (n % 10)))

pub statement_plain : (number : ℕ) → has_nul (statement number) ≡ false
unfolding statement
statement_plain number =
    let cell : has_nul (decimal (cell_of number)) ≡ false = decimal_plain (cell_of number) (omega arith) in
    let value : has_nul (decimal (value_of number)) ≡ false = decimal_plain (value_of number) (omega arith) in
    let end : has_nul (codes " " ++ decimal (value_of number)) ≡ false = both_plain (codes " ") (decimal (value_of number)) refl value in
    both_plain (codes "SET ") (decimal (cell_of number) ++ (codes " " ++ decimal (value_of number))) refl
    (both_plain (decimal (cell_of number)) (codes " " ++ decimal (value_of number)) cell end)

pub is_writable : (number : ℕ) → IsWritableRequest (set_request number)
is_writable number = (tt, (statement_plain number, ((omega arith, tt), tt)))
