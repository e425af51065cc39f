-- Fields that a reader took one after the other.
use Rattle.std.proofs.Common.{◌≡◌, ◌+◌, List, [], ◌∷◌, ◌++◌, length, refl, sym, ap, subst, ◌∙◌}
use Rattle.wire_words.specs.declared.value.Dialect.{Dialect}
use Rattle.wire_words.specs.Items.{AreBytes}
use Rattle.wire_words.specs.Reading.{Unread, Took}
use Rattle.wire_words.proofs.Parts.{bytes_after}
use Rattle.wire_msgs.specs.Fields.{Field, IsField, AreFields}

-- between two states of a reader stood these fields
abbrev pub AllTook : Dialect → List Field → Unread → Unread → Type 0
AllTook dialect [] old new = old ≡ new
AllTook dialect (field ∷ fields) old new = (next : Unread) × Took (IsField dialect field) old next × AllTook dialect fields next new

pub fields_took : (dialect : Dialect) (fields : List Field) (old new : Unread) → AllTook dialect fields old new → new.bytes ≡ [] → AreFields dialect fields old.bytes
fields_took dialect [] old new took end = ap (λ (left : Unread). left.bytes) took ∙ end
fields_took dialect (field ∷ fields) old new took end =
    (took.1.item, took.0.bytes, took.1.parts, took.1.spelled, fields_took dialect fields took.0 new took.2 end)

pub fields_stand : (dialect : Dialect) (fields : List Field) (old : Unread) → AreFields dialect fields old.bytes → (new : Unread) × AllTook dialect fields old new × (new.bytes ≡ [])
fields_stand dialect [] old are = (old, refl, are)
fields_stand dialect (field ∷ fields) old are =
    let next : Unread = record { at = old.at + length are.0; bytes = are.1 } in
    let rest = fields_stand dialect fields next are.4 in
    let first : Took (IsField dialect field) old next = record { item = are.0; spelled = are.3; parts = are.2; place = refl } in
    (rest.0, (next, first, rest.1), rest.2)

-- fields in two parts
pub took_append : (dialect : Dialect) (fields more : List Field) (old mid new : Unread) → AllTook dialect fields old mid → AllTook dialect more mid new → AllTook dialect (fields ++ more) old new
took_append dialect [] more old mid new took rest = subst (λ (left : Unread). AllTook dialect more left new) (sym took) rest
took_append dialect (field ∷ fields) more old mid new took rest = (took.0, took.1, took_append dialect fields more took.0 mid new took.2 rest)

pub took_split : (dialect : Dialect) (fields more : List Field) (old new : Unread) → AllTook dialect (fields ++ more) old new → (mid : Unread) × AllTook dialect fields old mid × AllTook dialect more mid new
took_split dialect [] more old new took = (old, refl, took)
took_split dialect (field ∷ fields) more old new took =
    let rest = took_split dialect fields more took.0 new took.2 in
    (rest.0, (took.0, took.1, rest.1), rest.2)

-- what is left is bytes
pub all_bytes_after : (dialect : Dialect) (fields : List Field) (old new : Unread) → AreBytes old.bytes → AllTook dialect fields old new → AreBytes new.bytes
all_bytes_after dialect [] old new fits took = subst (λ (left : Unread). AreBytes left.bytes) took fits
all_bytes_after dialect (field ∷ fields) old new fits took = all_bytes_after dialect fields took.0 new (bytes_after old took.0 fits took.1) took.2
