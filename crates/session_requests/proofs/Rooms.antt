-- Where a statement that is prepared has room, and which of a text it is.
use Rattle.std.proofs.Common.{◌≡◌, ℕ, ◌+◌, ◌<◌, ◌≤◌, Bool, true, false, List, [], ◌∷◌, length, get_or, Option, Some, None, refl, arith}
use Rattle.std.proofs.lemmas.Bool.{cond-true, cond-false}
use Rattle.std.proofs.lemmas.List.Sums.{sum_by-cons}
use Rattle.sql_scan.specs.declared.pieces.StatementSpan.{StatementSpan}
use Rattle.session_spec.specs.Sessions.{Prepared, Session}
use Rattle.session_spec.specs.Statements.{prepared_from, prepared_count, free_id, any_barred}
use Rattle.session_spec.specs.Asking.{Never, asks_prepare_pieces, with_room, tail_of}
use Rattle.session_spec.specs.Causes.{NotAllowed, OneStatementWanted}
use Rattle.session_statements.specs.Texts.{cut_at}

-- the least free number is at most the number of statements
pub free_within : (statements : List (Option Prepared)) → free_id statements ≤ prepared_count statements
free_within [] = omega arith
free_within (None ∷ os) = omega arith
free_within (Some p ∷ os) =
    let more : prepared_count (Some p ∷ os) ≡ 1 + prepared_count os = sum_by-cons _ (Some p) os in
    let rest : free_id os ≤ prepared_count os = free_within os in
    omega arith

module _ (s : Session) (sql : List ℕ) (wide : Bool) where
  pub none_prepared : (pieces : List StatementSpan) → length pieces ≡ 0 → asks_prepare_pieces s sql wide pieces ≡ Never OneStatementWanted
  none_prepared [] e = refl
  none_prepared (p ∷ ps) e = absurd (omega arith)

  pub one_prepared : (pieces : List StatementSpan) (d : StatementSpan) → length pieces ≡ 1 → asks_prepare_pieces s sql wide pieces ≡ asks_prepare_pieces s sql wide (get_or pieces 0 d ∷ [])
  one_prepared [] d e = absurd (omega arith)
  one_prepared (p ∷ []) d e = refl
  one_prepared (p ∷ q ∷ ps) d e = absurd (omega arith)

  pub barred : (pieces : List StatementSpan) → 1 < length pieces → any_barred (cut_at sql pieces) ≡ true → asks_prepare_pieces s sql wide pieces ≡ Never NotAllowed
  barred [] several e = absurd (omega arith)
  barred (p ∷ []) several e = absurd (omega arith)
  barred (p ∷ q ∷ ps) several e = rw e refl

  pub too_many : (pieces : List StatementSpan) → 1 < length pieces → any_barred (cut_at sql pieces) ≡ false → wide ≡ false → asks_prepare_pieces s sql wide pieces ≡ Never OneStatementWanted
  too_many [] several e w = absurd (omega arith)
  too_many (p ∷ []) several e w = absurd (omega arith)
  too_many (p ∷ q ∷ ps) several e w = rw e (cond-false wide (with_room s (prepared_from sql p) (tail_of wide p)) (Never OneStatementWanted) w)

  pub first_prepared : (pieces : List StatementSpan) (d : StatementSpan) → 1 < length pieces → any_barred (cut_at sql pieces) ≡ false → wide ≡ true
      → asks_prepare_pieces s sql wide pieces ≡ with_room s (prepared_from sql (get_or pieces 0 d)) (tail_of wide (get_or pieces 0 d))
  first_prepared [] d several e w = absurd (omega arith)
  first_prepared (p ∷ []) d several e w = absurd (omega arith)
  first_prepared (p ∷ q ∷ ps) d several e w = rw e (cond-true wide (with_room s (prepared_from sql p) (tail_of wide p)) (Never OneStatementWanted) w)
