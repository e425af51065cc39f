-- What a text's statements want, by how many they are.
use Rattle.std.proofs.Common.{◌≡◌, ℕ, Bool, List, [], ◌∷◌, length, get_or, Option, Ok, refl, arith}
use Rattle.wire_words.specs.declared.value.Value.{Value}
use Rattle.sql_scan.specs.declared.pieces.StatementSpan.{StatementSpan}
use Rattle.session_spec.specs.Causes.{Cause}
use Rattle.session_spec.specs.Asking.{asks_text, asks_one, asks_several}
use Rattle.session_spec.specs.Statements.{prepared_from}
use Rattle.session_statements.specs.Texts.{cut_at}

pub not_one : (hinders : Option Cause) (inside : Bool) (sql : List ℕ) (pieces : List StatementSpan) (params : List Value) → (length pieces ≡ 1 → ⊥)
    → asks_text hinders inside sql (Ok pieces) params ≡ asks_several hinders (cut_at sql pieces) params
not_one hinders inside sql [] params h = refl
not_one hinders inside sql (p ∷ []) params h = absurd (h refl)
not_one hinders inside sql (p ∷ q ∷ ps) params h = refl

pub just_one : (hinders : Option Cause) (inside : Bool) (sql : List ℕ) (pieces : List StatementSpan) (params : List Value) (d : StatementSpan) → length pieces ≡ 1
    → asks_text hinders inside sql (Ok pieces) params ≡ asks_one hinders inside (prepared_from sql (get_or pieces 0 d)) params
just_one hinders inside sql [] params d h = absurd (omega arith)
just_one hinders inside sql (p ∷ []) params d h = refl
just_one hinders inside sql (p ∷ q ∷ ps) params d h = absurd (omega arith)
