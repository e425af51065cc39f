-- What single items are where a call of a reader gave them.
use Rattle.std.proofs.Common.{◌≡◌, ℕ, ◌+◌, ◌≤◌, Bool, true, false, ◌&&◌, leb, List, [], ◌∷◌, ◌++◌, length, drop, Some, Result, Ok, Err, refl, sym, ap, ◌∙◌, append_assoc, arith}
use Rattle.std.specs.List.{position}
use Rattle.std.proofs.lemmas.List.{length-append, drop_at}
use Rattle.std.proofs.lemmas.Bool.{leb-true}
use Rattle.dq_base.specs.Names.{IsName}
use Rattle.wire_words.specs.declared.fault.WordFault.{WordFault}
use Rattle.wire_words.specs.declared.fault.WordFault.TheVariants.{Short}
use Rattle.wire_words.specs.Reading.{Unread, raw_at, text_at}
use Rattle.wire_words.specs.Items.{is_zero, raw, text, zeros_after}
use Rattle.wire_words.proofs.Nul.{text_took, spelled_is_text, position_of_nul}
use Rattle.wire_words.proofs.Padding.{raw_took, padded_is_raw}
use Rattle.log_commands.specs.declared.fault.CommandFault.{CommandFault}
use Rattle.log_commands.specs.Reading.{in_command, name_at}

pub both_true : (a b : Bool) → (a && b) ≡ true → (a ≡ true) × (b ≡ true)
both_true true b e = (refl, e)
both_true false b e = absurd cc

-- the test of a name's length
abbrev pub is_short : List ℕ → Bool
is_short t = leb 1 (length t) && leb (length t) 255

no_name : (t : List ℕ) (b : Bool) → is_short t ≡ b → (is_short t ≡ true → IsName t) → ¬ (IsName t) → is_short t ≡ false
no_name t true e is not = absurd (not (is e))
no_name t false e is not = e

-- a text that was read ends at the first NUL
pub text_ends : (old new : Unread) (t : List ℕ) → text_at old ≡ Ok (t, new) → position is_zero old.bytes ≡ Some (length t)
text_ends old new t e =
    let took = text_took old new t e in
    let zeros = zeros_after (length (t ++ 0 ∷ [])) in
    let item : old.bytes ≡ text t ++ new.bytes = took.parts ∙ ap (λ (b : List ℕ). b ++ new.bytes) (spelled_is_text t took.item took.spelled) in
    let parts : old.bytes ≡ t ++ 0 ∷ (zeros ++ new.bytes) =
    item ∙ append_assoc (t ++ 0 ∷ []) zeros new.bytes ∙ append_assoc t (0 ∷ []) (zeros ++ new.bytes) in
    ap (position is_zero) parts ∙ position_of_nul t (zeros ++ new.bytes) took.spelled.no_nul

-- a text of another length is no name
pub name_refused : (old new : Unread) (t : List ℕ) → text_at old ≡ Ok (t, new) → ¬ (IsName t) → name_at old ≡ Err (Short old.at)
unfolding name_at
name_refused old new t e not =
    let text = text_took old new t e in
    let named : is_short t ≡ true → IsName t = λ short.
    let both = both_true (leb 1 (length t)) (leb (length t) 255) short in
    record { not_empty = omega (arith, leb-true 1 (length t) both.0); short = leb-true (length t) 255 both.1; no_nul = text.spelled.no_nul } in
    rw (text_ends old new t e, no_name t (is_short t) refl named not) refl

-- two bytes that were read with their zeros were eight
pub two_are_eight : (old new : Unread) (item : List ℕ) → raw_at 2 old ≡ Ok (item, new) → (8 ≤ length old.bytes) × (new.bytes ≡ drop 8 old.bytes)
two_are_eight old new item e =
    let took = raw_took 2 old new item e in
    let whole : took.1.item ≡ raw item = padded_is_raw item took.1.item took.1.spelled in
    let parts : old.bytes ≡ raw item ++ new.bytes = took.1.parts ∙ ap (λ (b : List ℕ). b ++ new.bytes) whole in
    let size : length (raw item) ≡ 8 = length-append item (zeros_after (length item)) ∙ rw took.0 refl in
    (omega (arith, ap length parts, length-append (raw item) new.bytes, size), sym (ap (drop 8) parts ∙ drop_at (raw item) new.bytes 8 size))

-- the value of a step that did not fail
pub in_command_ok : {A : Type 0} (r : Result A WordFault) (y : A) → in_command r ≡ Ok y → r ≡ Ok y
in_command_ok (Ok x) y e = let same : x ≡ y = cc in rw same refl
in_command_ok (Err fault) y e = absurd cc

abbrev done_command : {A : Type 0} → A → Result A CommandFault
done_command x = Ok x

pub command_is : {A : Type 0} (x y : A) → done_command x ≡ done_command y → x ≡ y
command_is x y e = cc
