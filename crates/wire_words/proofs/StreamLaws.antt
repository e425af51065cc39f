-- A stream gives the messages that are encoded in it.
use Rattle.std.proofs.Common.{◌≡◌, ℕ, ◌*◌, ◌/◌, ◌≤◌, ltb, false, List, [], ◌∷◌, ◌++◌, length, drop, refl, ap, ◌∙◌, append_assoc, arith}
use Rattle.std.proofs.lemmas.Bool.{le-ltb}
use Rattle.std.proofs.lemmas.List.{length-append, take_at, drop_at}
use Rattle.byteorder.specs.Numbers.{little_number-reads_back}
use Rattle.wire_words.specs.declared.message.Message.{Message}
use Rattle.wire_words.specs.declared.message.Header.{Header}
use Rattle.wire_words.specs.Message.{header, header_of, message, IsBody}
use Rattle.wire_words.specs.Stream.{Whole, front, front_with, one_before, messages_in, version_word, stream}
use Rattle.wire_words.proofs.Cutting.{front_head, with_whole, messages_whole, stream_long}

abbrev header_with : ℕ → ℕ → ℕ → Header
header_with kind schema words = record { words = words; kind = kind; schema = schema }

abbrev message_of : ℕ → ℕ → List ℕ → Message
message_of kind schema body = record { kind = kind; schema = schema; body = body }

pub message_first : (limit kind schema : ℕ) (body rest : List ℕ) → IsBody body → length body / 8 ≤ limit
    → messages_in limit (message kind schema body ++ rest) ≡ one_before (record { kind = kind; schema = schema; body = body }) (messages_in limit rest)
message_first limit kind schema body rest fits few =
    let n = length body / 8 in
    let head = header n kind schema in
    let h : Header = header_with kind schema n in
    let size : length body ≡ 8 * n = omega (arith, fits.0) in
    let read : header_of head ≡ h = ap (header_with kind schema) (little_number-reads_back 4 n (kind ∷ schema ∷ 0 ∷ 0 ∷ []) fits.1) in
    let room : ltb (length (body ++ rest)) (8 * n) ≡ false = le-ltb _ _ (omega (arith, size, length-append body rest)) in
    let stands : front limit (message kind schema body ++ rest) ≡ Whole (message_of kind schema body) rest =
    ap (front limit) (append_assoc head body rest) ∙ front_head limit head (body ++ rest) refl ∙ ap (λ (x : Header). front_with limit x (body ++ rest)) read
    ∙ with_whole limit h (body ++ rest) (le-ltb _ _ few) room
    ∙ ap (λ (x : List ℕ). Whole (message_of kind schema x) (drop (8 * n) (body ++ rest))) (take_at body rest (8 * n) size)
    ∙ ap (λ (x : List ℕ). Whole (message_of kind schema body) x) (drop_at body rest (8 * n) size) in
    messages_whole limit (message kind schema body ++ rest) (message_of kind schema body) rest stands

pub version_first : (limit : ℕ) (bytes : List ℕ) → stream limit (version_word ++ bytes) ≡ messages_in limit bytes
version_first limit bytes = stream_long limit (version_word ++ bytes) (le-ltb _ _ (omega (arith, length-append version_word bytes)))
