-- The test for UTF-8, by the fact.
use Rattle.std.proofs.Common.{◌≡◌, ℕ, Bool, true, false, List, refl}
use Rattle.std.specs.Str.{IsUtf8, is_utf8}
use Rattle.std.proofs.lemmas.Str.{IsUtf8-from_is_utf8, is_utf8-from_IsUtf8}

false_unless : (b : Bool) → (b ≡ true → ⊥) → b ≡ false
false_unless true h = absurd (h refl)
false_unless false h = refl

pub not_utf8 : (bytes : List ℕ) → ¬ (IsUtf8 bytes) → is_utf8 bytes ≡ false
not_utf8 bytes h = false_unless (is_utf8 bytes) (λ e. h (IsUtf8-from_is_utf8 bytes e))

pub are_utf8 : (bytes : List ℕ) → IsUtf8 bytes → is_utf8 bytes ≡ true
are_utf8 bytes h = is_utf8-from_IsUtf8 bytes h
