-- What a node makes of the bytes that the client sends.
use Rattle.std.proofs.Common.{◌≡◌, ◌<◌, ◌≤◌, ◌+◌, ◌%◌, ℕ, zero, suc, List, [], ◌∷◌, ◌++◌, length, refl, ap, ◌∙◌, append_assoc, append-nil, arith}
use Rattle.std.specs.Prelude.{codes, IsAscii, IsUtf8}
use Rattle.std.specs.List.{AllByRecursion}
use Rattle.std.specs.Fmt.{decimal}
use Rattle.std.proofs.lemmas.Fmt.{IsAscii-decimal, length-decimal-le}
use Rattle.std.proofs.lemmas.List.{length-append, length-replicate}
use Rattle.std.proofs.lemmas.Str.{IsUtf8-append, IsUtf8-from_ascii}
use Rattle.std.proofs.lemmas.Str.Ascii.{IsAscii-nil}
use Rattle.wire_words.specs.declared.message.Message.{Message}
use Rattle.wire_words.specs.declared.value.Dialect.TheVariants as dialects
use Rattle.wire_words.specs.Items.{gap, zeros_after, word, text}
use Rattle.wire_words.specs.Stream.{stream, messages_in, version_word, client_limit}
use Rattle.wire_words.proofs.Nul.{text_is_spelled}
use Rattle.wire_words.proofs.StreamLaws.{version_first, message_first}
use Rattle.wire_msgs.specs.declared.request.Request.{Request}
use Rattle.wire_msgs.specs.Fields.{AreFields, body_bytes}
use Rattle.wire_msgs.specs.Requests.{request_line, request_bytes}
use Rattle.wire_msgs.proofs.ReadBack.{request_read}
use Rattle.wire_msgs.proofs.Spellings.{line_accepted}
use Rattle.script_generator.specs.Generated.{cell_of, value_of, statement, open_request, set_request, opening_bytes, set_bytes}
use Rattle.script_generator.specs.Asking.{Asks}
use Rattle.script_generator.proofs.Plain.{statement_plain}

pub least_cell : (number : ℕ) → 1 ≤ cell_of number
least_cell number = omega arith

pub greatest_cell : (number : ℕ) → cell_of number ≤ 64
greatest_cell number = omega arith

pub value_small : (number : ℕ) → value_of number ≤ 999
value_small number = omega arith

pub begins : (rest : List ℕ) → stream client_limit (opening_bytes ++ rest) ≡ messages_in client_limit (request_bytes open_request ++ rest)
unfolding opening_bytes
begins rest =
    ap (stream client_limit) (append_assoc version_word (request_bytes open_request) rest) ∙ version_first client_limit (request_bytes open_request ++ rest)

-- a request whose fields are in a short body of whole words
asked : (request : Request) → AreFields dialects.Exact (request_line request).fields (body_bytes (request_line request).fields)
    → length (body_bytes (request_line request).fields) % 8 ≡ 0 → length (body_bytes (request_line request).fields) ≤ 1000 → Asks request (request_bytes request)
asked request fields whole short =
    let line = request_line request in
    let body = body_bytes line.fields in
    let m : Message = record { kind = line.kind; schema = line.schema; body = body } in
    record {
      sent = m;
      whole = λ rest. message_first client_limit line.kind line.schema body rest (whole, omega (arith, short)) (omega (arith, short));
      is_read = request_read m request (line_accepted line m (record { kind = refl; schema = refl; fields = fields }));
    }

-- ---- texts

ascii : (t : List ℕ) → AllByRecursion (λ byte. byte < 128) t → IsAscii t
ascii [] all i = IsAscii-nil i
ascii (byte ∷ t) all zero = all.0
ascii (byte ∷ t) all (suc i) = ascii t all.1 i

utf8 : (t : List ℕ) → AllByRecursion (λ byte. byte < 128) t → IsUtf8 t
utf8 t all = IsUtf8-from_ascii t (ascii t all)

-- ---- OPEN

pub open_asks : Asks open_request (request_bytes open_request)
open_asks =
    let name = text_is_spelled (codes "d") (utf8 (codes "d") (omega arith, tt)) refl in
    let vfs = text_is_spelled (codes "volatile") (utf8 (codes "volatile") (omega arith, (omega arith, (omega arith, (omega arith, (omega arith, (omega arith, (omega arith, (omega arith, tt))))))))) refl in
    asked open_request
    (text (codes "d"), _, refl, name, (word 0, _, refl, record { fits = omega arith; parts = refl }, (text (codes "volatile"), [], refl, vfs, refl)))
    refl (omega arith)

-- ---- EXEC_SQL

statement_utf8 : (number : ℕ) → IsUtf8 (statement number)
unfolding statement
statement_utf8 number =
    let cell = IsUtf8-from_ascii (decimal (cell_of number)) (IsAscii-decimal (cell_of number) (omega arith)) in
    let value = IsUtf8-from_ascii (decimal (value_of number)) (IsAscii-decimal (value_of number) (omega arith)) in
    let end = IsUtf8-append (codes " ") (decimal (value_of number)) (utf8 (codes " ") (omega arith, tt)) value in
    IsUtf8-append (codes "SET ") (decimal (cell_of number) ++ (codes " " ++ decimal (value_of number))) (utf8 (codes "SET ") (omega arith, (omega arith, (omega arith, (omega arith, tt)))))
    (IsUtf8-append (decimal (cell_of number)) (codes " " ++ decimal (value_of number)) cell end)

statement_short : (number : ℕ) → length (statement number) ≤ 10
unfolding statement
statement_short number =
    let cell : length (decimal (cell_of number)) ≤ 2 = length-decimal-le 2 (cell_of number) (omega arith) (omega arith) (omega arith) in
    let value : length (decimal (value_of number)) ≤ 3 = length-decimal-le 3 (value_of number) (omega arith) (omega arith) (omega arith) in
    let end : length (decimal (cell_of number) ++ (codes " " ++ decimal (value_of number))) ≡ length (decimal (cell_of number)) + length (codes " " ++ decimal (value_of number)) =
    length-append (decimal (cell_of number)) (codes " " ++ decimal (value_of number)) in
    omega (arith, cell, value, end)

text_length : (t : List ℕ) → length (text t) ≡ length (t ++ 0 ∷ []) + gap (length (t ++ 0 ∷ []))
text_length t =
    length-append (t ++ 0 ∷ []) (zeros_after (length (t ++ 0 ∷ []))) ∙ ap (λ (n : ℕ). length (t ++ 0 ∷ []) + n) (length-replicate (gap (length (t ++ 0 ∷ []))) 0)

pub set_asks : (number : ℕ) → Asks (set_request number) (set_bytes number)
unfolding set_bytes
set_asks number =
    let t = statement number in
    let spelled = text_is_spelled t (statement_utf8 number) (statement_plain number) in
    let all : length (body_bytes (request_line (set_request number)).fields) ≡ 8 + length (text t) =
    length-append (word 0) (text t ++ []) ∙ ap (λ (b : List ℕ). 8 + length b) (append-nil (text t)) in
    let whole : length (text t) % 8 ≡ 0 = spelled.padded.whole in
    let size = text_length t in
    let long : length (t ++ 0 ∷ []) ≡ length t + 1 = length-append t (0 ∷ []) in
    let short = statement_short number in
    asked (set_request number)
    (word 0, _, refl, record { fits = omega arith; parts = refl }, (text t, [], refl, spelled, ([], [], refl, refl, refl)))
    (omega (arith, all, whole)) (omega (arith, all, size, long, short))
