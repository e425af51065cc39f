-- Each line has one encoding, and what is written is among what a client may send.
use Rattle.std.proofs.Common.{◌≡◌, ℕ, ◌+◌, ◌/◌, ◌%◌, ◌<◌, ◌≤◌, List, [], ◌∷◌, ◌++◌, length, inl, inr, Result, Ok, Err, refl, sym, ap, subst, ◌∙◌, arith}
use Rattle.std.specs.Prelude.{IfOk, OnOk, IsErr}
use Rattle.std.specs.declared.alloc.AllocError.{AllocError}
use Rattle.std.proofs.lemmas.Bool.{cases_lt}
use Rattle.std.proofs.lemmas.List.{length-append}
use Rattle.wire_words.specs.declared.message.Message.{Message}
use Rattle.wire_words.specs.declared.value.Dialect.TheVariants as dialects
use Rattle.wire_words.specs.Items.{word, raw}
use Rattle.wire_words.specs.Message.{header, message, IsBody}
use Rattle.wire_words.proofs.Nul.{text_is_spelled, spelled_is_text}
use Rattle.wire_words.proofs.Padding.{raw_is_padded, padded_is_raw}
use Rattle.wire_words.proofs.SpellingLaws.{tuple_spelled, tuple_only, tuple_accepted}
use Rattle.wire_msgs.specs.Fields.{Field, Word, AnyWord, Pair, Text, Blob, Params, Rest, Line, width, IsField, AreFields, Stands, WritesLine, field_bytes, body_bytes, line_bytes, Fits, AllFit}

-- ---- what is written is encoded so

field_written : (field : Field) → Fits field → IsField dialects.Exact field (field_bytes field)
field_written (Word n) fits = record { fits = fits; parts = refl }
field_written AnyWord fits = record { fits = omega arith; parts = refl }
field_written (Pair first second) fits = record { first_fits = fits.0; second_fits = fits.1; parts = refl }
field_written (Text t) fits = text_is_spelled t fits.0 fits.1
field_written (Blob b) fits = record { first = word (length b); second = raw b; parts = refl; is_first = record { fits = fits; parts = refl }; is_second = raw_is_padded b }
field_written (Params wide []) fits = refl
field_written (Params wide (v ∷ vs)) fits = tuple_spelled (width wide) (v ∷ vs) fits.0 fits.1
field_written (Rest b) fits = record { whole = fits; same = raw_is_padded b }

fields_written : (fields : List Field) → AllFit fields → AreFields dialects.Exact fields (body_bytes fields)
fields_written [] fits = refl
fields_written (field ∷ fields) fits =
    (field_bytes field, body_bytes fields, refl, field_written field fits.0, fields_written fields fits.1)

line_written : (line : Line) → AllFit line.fields → IsBody (body_bytes line.fields) → WritesLine line (line_bytes line)
line_written line fits body = record { body = body_bytes line.fields; fits = body; fields = fields_written line.fields fits; parts = refl }

-- a message of whole words, with a count that 32 bits can hold, has such a body
body_fits : (kind schema : ℕ) (body : List ℕ) → length (message kind schema body) % 8 ≡ 0 → (4294967295 < length body / 8 → ⊥) → IsBody body
body_fits kind schema body whole few =
    let all : length (message kind schema body) ≡ 8 + length body = length-append (header (length body / 8) kind schema) body in
    let below : length body / 8 ≤ 4294967295 = elim (cases_lt 4294967295 (length body / 8)) [ inl lt ↦ absurd (few lt) | inr le ↦ le ] in
    (omega (arith, all, whole), omega arith)

not_err : (bytes : List ℕ) → IsErr {E = AllocError} (Ok bytes) → ⊥
not_err bytes e = absurd cc

pub is_written : (line : Line) (result : Result (List ℕ) AllocError) → OnOk result (AllFit line.fields) → IfOk result (λ bytes. bytes ≡ line_bytes line)
    → IfOk result (λ bytes. length bytes % 8 ≡ 0) → (4294967295 < length (body_bytes line.fields) / 8 → IsErr result) → IfOk result (WritesLine line)
is_written line (Err e) fits parts whole many = tt
is_written line (Ok bytes) fits parts whole many =
    let words = ap (λ (b : List ℕ). length b % 8) (sym parts) ∙ whole in
    let body = body_fits line.kind line.schema (body_bytes line.fields) words (λ lt. not_err bytes (many lt)) in
    subst (λ (b : List ℕ). WritesLine line b) (sym parts) (line_written line fits body)

-- ---- it is the one encoding

field_only : (field : Field) (bytes : List ℕ) → IsField dialects.Exact field bytes → bytes ≡ field_bytes field
field_only (Word n) bytes s = s.parts
field_only AnyWord bytes s = s.parts
field_only (Pair first second) bytes s = s.parts
field_only (Text t) bytes s = spelled_is_text t bytes s
field_only (Blob b) bytes s =
    s.parts ∙ ap (λ (x : List ℕ). x ++ s.second) s.is_first.parts ∙ ap (λ (x : List ℕ). word (length b) ++ x) (padded_is_raw b s.second s.is_second)
field_only (Params wide []) bytes s = s
field_only (Params wide (v ∷ vs)) bytes s = tuple_only (width wide) (v ∷ vs) bytes s
field_only (Rest b) bytes s = padded_is_raw b bytes s.same

fields_only : (fields : List Field) (bytes : List ℕ) → AreFields dialects.Exact fields bytes → bytes ≡ body_bytes fields
fields_only [] bytes are = are
fields_only (field ∷ fields) bytes are =
    are.2 ∙ ap (λ (x : List ℕ). x ++ are.1) (field_only field are.0 are.3) ∙ ap (λ (x : List ℕ). field_bytes field ++ x) (fields_only fields are.1 are.4)

pub line_only : (line : Line) (bytes : List ℕ) → WritesLine line bytes → bytes ≡ line_bytes line
line_only line bytes w = w.parts ∙ ap (λ (body : List ℕ). message line.kind line.schema body) (fields_only line.fields w.body w.fields)

-- ---- it is among what a client may send

field_accepted : (field : Field) (bytes : List ℕ) → IsField dialects.Exact field bytes → IsField dialects.Client field bytes
field_accepted (Word n) bytes s = s
field_accepted AnyWord bytes s = (0, s)
field_accepted (Pair first second) bytes s = s
field_accepted (Text t) bytes s = s
field_accepted (Blob b) bytes s = s
field_accepted (Params wide []) bytes s = inl (record { none = refl; nothing = s })
field_accepted (Params wide (v ∷ vs)) bytes s = inr (tuple_accepted (width wide) (v ∷ vs) bytes s)
field_accepted (Rest b) bytes s = s

fields_accepted : (fields : List Field) (bytes : List ℕ) → AreFields dialects.Exact fields bytes → AreFields dialects.Client fields bytes
fields_accepted [] bytes are = are
fields_accepted (field ∷ fields) bytes are = (are.0, are.1, are.2, field_accepted field are.0 are.3, fields_accepted fields are.1 are.4)

pub line_accepted : (line : Line) (m : Message) → Stands dialects.Exact line m → Stands dialects.Client line m
line_accepted line m s = record { kind = s.kind; schema = s.schema; fields = fields_accepted line.fields m.body s.fields }
