-- What is written of a message encodes it, and encodings are prefix-free.
use Rattle.std.proofs.Common.{◌≡◌, ℕ, ◌+◌, ◌/◌, ◌%◌, ◌<◌, ◌≤◌, true, false, List, [], ◌++◌, length, Result, Ok, Err, refl, sym, ap, ◌∙◌, inl, inr, arith}
use Rattle.std.specs.Prelude.{nat_le, IfOk, OnOk, IsErr}
use Rattle.std.specs.declared.alloc.AllocError.{AllocError}
use Rattle.std.proofs.lemmas.Bool.{cases_lt, cond-true, le-leb}
use Rattle.std.proofs.lemmas.List.{length-append}
use Rattle.wire_words.specs.Message.{header, message, IsBody}
use Rattle.wire_words.proofs.Prefix.{no_prefix}
use Rattle.raft_messages.specs.declared.message.RaftMessage.{RaftMessage}
use Rattle.raft_messages.specs.Messages.{what_number, message_fields, body_bytes, message_bytes, message_schema, numbers_fit, AllHold, Reads, Writes}

-- a message of whole words, with a count that 32 bits can hold, has such a body
body_fits : (kind schema : ℕ) (body : List ℕ) → length (message kind schema body) % 8 ≡ 0 → (4294967295 < length body / 8 → ⊥) → IsBody body
body_fits kind schema body whole few =
    let all : length (message kind schema body) ≡ 8 + length body = length-append (header (length body / 8) kind schema) body in
    let below : length body / 8 ≤ 4294967295 = elim (cases_lt 4294967295 (length body / 8)) [ inl lt ↦ absurd (few lt) | inr le ↦ le ] in
    (omega (arith, all, whole), omega arith)

not_err : (bytes : List ℕ) → IsErr {E = AllocError} (Ok bytes) → ⊥
not_err bytes e = absurd cc

pub is_written : (peer : RaftMessage) (result : Result (List ℕ) AllocError) → OnOk result (AllHold (message_fields peer)) → IfOk result (λ bytes. bytes ≡ message_bytes peer)
    → IfOk result (λ bytes. length bytes % 8 ≡ 0) → (4294967295 < length (body_bytes peer) / 8 → IsErr result) → numbers_fit peer ≡ true → peer.to ≤ 127 → IfOk result (Writes peer)
is_written peer (Err e) holds parts whole many in_range receiver = tt
is_written peer (Ok bytes) holds parts whole many in_range receiver =
    let words = ap (λ (b : List ℕ). length b % 8) (sym parts) ∙ whole in
    let body = body_fits (what_number peer.what) (message_schema peer) (body_bytes peer) words (λ lt. not_err bytes (many lt)) in
    record { receiver = receiver; holds = holds; whole = body; parts = parts; in_range = in_range }

pub written_is_read : (peer : RaftMessage) (bytes : List ℕ) → Writes peer bytes
    → Reads (record { kind = what_number peer.what; schema = message_schema peer; body = body_bytes peer }) peer
written_is_read peer bytes w = record { kind = refl; schema = cond-true (nat_le peer.to 127) _ _ (le-leb _ _ w.receiver); receiver = w.receiver; holds = w.holds; body = refl; in_range = w.in_range }

pub unspelled : (peer : RaftMessage) (bytes : List ℕ) → numbers_fit peer ≡ false → ¬ (Writes peer bytes)
unspelled peer bytes out w = let in_range = w.in_range in absurd cc

pub stand_apart : (peer other : RaftMessage) (bytes other_bytes rest : List ℕ) → Writes peer bytes → Writes other other_bytes → bytes ++ rest ≡ other_bytes → rest ≡ []
stand_apart peer other bytes other_bytes rest w v e =
    no_prefix (what_number peer.what) (what_number other.what) (message_schema peer) (message_schema other) (body_bytes peer)
    (body_bytes other) rest w.whole v.whole (sym (ap (λ (x : List ℕ). x ++ rest) w.parts) ∙ e ∙ v.parts)
