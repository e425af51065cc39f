-- A message is read exactly where its fields stand, whatever its type.
use Rattle.std.proofs.Common.{◌≡◌, ◌≢◌, ℕ, zero, suc, ◌≤◌, Bool, true, false, eqb, ltb, [], length, Result, Ok, Err, refl, ap, ◌∙◌, arith}
use Rattle.std.proofs.lemmas.Bool.{eqb-true, ne_eqb, ltb-false, le-ltb}
use Rattle.std.proofs.lemmas.List.{nil_from_length}
use Rattle.wire_words.specs.declared.fault.WordFault.{WordFault}
use Rattle.wire_words.specs.declared.message.Message.{Message}
use Rattle.wire_words.specs.Reading.{◌>>=◌, Unread, unread}
use Rattle.wire_words.proofs.ReadBack.{bind_ok, refused_not, passed}
use Rattle.wire_msgs.specs.declared.fault.MsgFault.TheVariants.{Schema, Tail}
use Rattle.wire_msgs.specs.Fields.{schema_of}
use Rattle.wire_msgs.specs.Bodies.{Reading}
use Rattle.wire_msgs.specs.Reading.{in_message, ended, words_in, whole_of}

-- the schema of a type that has only schema 0
pub narrow : {wide : Bool} (n : ℕ) → ltb 0 n ≡ false → eqb n 1 ≡ wide → n ≡ 0
narrow n below same = let le : n ≤ 0 = ltb-false _ _ below in omega (arith, le)

-- the schema of a type that has schema 1 too
pub wide_is : (n : ℕ) (wide : Bool) → ltb 1 n ≡ false → eqb n 1 ≡ wide → n ≡ schema_of wide
wide_is n true below same = eqb-true _ _ same
wide_is zero false below same = refl
wide_is (suc zero) false below same = absurd cc
wide_is (suc (suc n)) false below same = let le : suc (suc n) ≤ 1 = ltb-false _ _ below in absurd (omega (arith, le))

in_message_ok : {A : Type 0} (r : Result A WordFault) (y : A) → in_message r ≡ Ok y → r ≡ Ok y
in_message_ok (Ok x) y e = let same : x ≡ y = cc in rw same refl
in_message_ok (Err fault) y e = absurd cc

-- how a message was read: its schema, and its fields to the end
pub record WasRead {X : Type 0} (top : ℕ) (fields : Bool → Unread → Reading X) (m : Message) (x : X) : Type 0 where
  pub schema : ltb top m.schema ≡ false
  pub left : Unread
  pub body : fields (eqb m.schema 1) (unread m.body) ≡ Ok (x, left)
  pub end : left.bytes ≡ []

pub was_read : {X : Type 0} (top : ℕ) (fields : Bool → Unread → Reading X) (m : Message) (x : X) → whole_of top fields m ≡ Ok x → WasRead top fields m x
was_read {X} top fields m x e =
    let body = fields (eqb m.schema 1) (unread m.body) in
    let a = refused_not (ltb top m.schema) (Schema m.kind m.schema) (in_message body >>= ended) x e in
    let b = bind_ok (in_message body) ended x a.1 in
    let c = passed (eqb (length b.0.1.bytes) 0) (Tail (words_in (length b.0.1.bytes))) (Ok b.0.0) x b.2 in
    let same : b.0.0 ≡ x = cc in
    let is : body ≡ Ok (x, b.0.1) = in_message_ok body b.0 b.1 ∙ ap (λ (y : X). Ok (y, b.0.1)) same in
    record { schema = a.0; left = b.0.1; body = is; end = nil_from_length b.0.1.bytes (eqb-true _ _ c.0) }

pub read_again : {X : Type 0} (top : ℕ) (fields : Bool → Unread → Reading X) (m : Message) (x : X) → WasRead top fields m x → whole_of top fields m ≡ Ok x
read_again top fields m x w =
    let nothing : length w.left.bytes ≡ 0 = ap length w.end in
    rw (w.schema, w.body, nothing) refl

-- a message with words after its fields
pub tail_left : {X : Type 0} (top : ℕ) (fields : Bool → Unread → Reading X) (m : Message) (x : X) (left : Unread) (n : ℕ) → m.schema ≤ top → fields (eqb m.schema 1) (unread m.body) ≡ Ok (x, left)
    → length left.bytes ≢ 0 → n ≡ words_in (length left.bytes) → whole_of top fields m ≡ Err (Tail n)
tail_left top fields m x left n below body more size =
    let known : ltb top m.schema ≡ false = le-ltb _ _ below in
    let some : eqb (length left.bytes) 0 ≡ false = ne_eqb _ _ more in
    rw (known, body, some, size) refl
