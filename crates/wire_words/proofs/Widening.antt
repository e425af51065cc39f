-- A stream without a fault is the same where a message may have more words.
use Rattle.std.proofs.Common.{◌≡◌, ◌≤◌, ℕ, zero, suc, Bool, true, false, cond, ltb, eqb, List, length, take, drop, Some, None, refl, sym, ap, ◌∙◌, arith}
use Rattle.std.proofs.lemmas.Bool.{ltb-true, ltb-false, le-ltb}
use Rattle.byteorder.specs.Endian.{little_number}
use Rattle.wire_words.specs.declared.message.Message.{Message}
use Rattle.wire_words.specs.declared.message.Header.{Header}
use Rattle.wire_words.specs.declared.splitter.SplitFault.TheVariants.{Version, TooLong}
use Rattle.wire_words.specs.Message.{header_of}
use Rattle.wire_words.specs.Stream.{Front, Part, Long, Whole, Stream, Splitting, Broken, front, body_size, message_with, ended, one_before, messages_in, versioned, stream, fed, fault_in}
use Rattle.wire_words.proofs.Cutting.{whole_front, whole_shorter, short_front, front_is_with, with_whole, with_part, messages_part, messages_long, messages_whole, stream_short, stream_long}

-- ---- fronts

part_tests : (long room : Bool) (words : ℕ) (m : Message) (r : List ℕ) → cond long (Long words) (cond room Part (Whole m r)) ≡ Part → (long ≡ false) × (room ≡ true)
part_tests true room words m r e = absurd cc
part_tests false true words m r e = (refl, refl)
part_tests false false words m r e = absurd cc

part_by : (b : Bool) (limit wide : ℕ) (bytes : List ℕ) → ltb (length bytes) 8 ≡ b → limit ≤ wide → front limit bytes ≡ Part → front wide bytes ≡ Part
part_by true limit wide bytes short le e = short_front wide bytes (ltb-true (length bytes) 8 short)
part_by false limit wide bytes long le e =
    let h : Header = header_of bytes in
    let behind : List ℕ = drop 8 bytes in
    let a = part_tests (ltb limit h.words) (ltb (length behind) (body_size h)) h.words (message_with h (take (body_size h) behind)) (drop (body_size h) behind) (sym (front_is_with limit bytes long) ∙ e) in
    let few : h.words ≤ limit = ltb-false _ _ a.0 in
    let fewer : h.words ≤ wide = omega arith in
    front_is_with wide bytes long ∙ with_part wide h behind (le-ltb _ _ fewer) a.1

-- a part of a message is one if a message may have more words
pub part_wider : (limit wide : ℕ) (bytes : List ℕ) → limit ≤ wide → front limit bytes ≡ Part → front wide bytes ≡ Part
part_wider limit wide bytes le e = part_by (ltb (length bytes) 8) limit wide bytes refl le e

whole_wider : (limit wide : ℕ) (bytes : List ℕ) (m : Message) (rest : List ℕ) → limit ≤ wide → front limit bytes ≡ Whole m rest → front wide bytes ≡ Whole m rest
whole_wider limit wide bytes m rest le e =
    let w = whole_front limit bytes m rest e in
    let h : Header = header_of bytes in
    let behind : List ℕ = drop 8 bytes in
    let few : h.words ≤ limit = ltb-false _ _ w.few in
    let fewer : h.words ≤ wide = omega arith in
    front_is_with wide bytes w.head ∙ with_whole wide h behind (le-ltb _ _ fewer) w.room
    ∙ ap (λ (x : Message). Whole x (drop (body_size h) behind)) w.message ∙ ap (λ (x : List ℕ). Whole m x) w.rest_is

-- ---- streams

wider_case : (limit wide : ℕ) (bytes : List ℕ) (f : Front) → front limit bytes ≡ f → limit ≤ wide → fault_in (messages_in limit bytes).end ≡ None
    → ((m : Message) (rest : List ℕ) → f ≡ Whole m rest → fault_in (messages_in limit rest).end ≡ None → messages_in wide rest ≡ messages_in limit rest)
    → messages_in wide bytes ≡ messages_in limit bytes
wider_case limit wide bytes Part e le none later = messages_part wide bytes (part_wider limit wide bytes le e) ∙ sym (messages_part limit bytes e)
wider_case limit wide bytes (Long words) e le none later =
    let broken : fault_in (messages_in limit bytes).end ≡ Some (TooLong words) = ap (λ (s : Stream). fault_in s.end) (messages_long limit bytes words e) in
    let never : Some (TooLong words) ≡ None = sym broken ∙ none in
    absurd cc
wider_case limit wide bytes (Whole m rest) e le none later =
    let behind : fault_in (messages_in limit rest).end ≡ None = ap (λ (s : Stream). fault_in s.end) (sym (messages_whole limit bytes m rest e)) ∙ none in
    messages_whole wide bytes m rest (whole_wider limit wide bytes m rest le e) ∙ ap (one_before m) (later m rest refl behind) ∙ sym (messages_whole limit bytes m rest e)

wider_by : (n limit wide : ℕ) (bytes : List ℕ) → limit ≤ wide → length bytes ≤ n → fault_in (messages_in limit bytes).end ≡ None → messages_in wide bytes ≡ messages_in limit bytes
wider_by zero limit wide bytes le below none =
    wider_case limit wide bytes (front limit bytes) refl le none (λ m rest e _. absurd (omega (arith, whole_shorter limit bytes m rest e, below)))
wider_by (suc n) limit wide bytes le below none =
    wider_case limit wide bytes (front limit bytes) refl le none (λ m rest e so. wider_by n limit wide rest le (omega (arith, whole_shorter limit bytes m rest e, below)) so)

versioned_wider : (limit wide version : ℕ) (b : Bool) (bytes : List ℕ) → limit ≤ wide → fault_in (cond b (messages_in limit bytes) (ended (Broken (Version version)))).end ≡ None
    → cond b (messages_in wide bytes) (ended (Broken (Version version))) ≡ cond b (messages_in limit bytes) (ended (Broken (Version version)))
versioned_wider limit wide version true bytes le none = wider_by (length bytes) limit wide bytes le (omega arith) none
versioned_wider limit wide version false bytes le none = refl

stream_by : (b : Bool) (limit wide : ℕ) (bytes : List ℕ) → ltb (length bytes) 8 ≡ b → limit ≤ wide → fault_in (stream limit bytes).end ≡ None → stream wide bytes ≡ stream limit bytes
stream_by true limit wide bytes short le none = stream_short wide bytes short ∙ sym (stream_short limit bytes short)
stream_by false limit wide bytes long le none =
    let version : ℕ = little_number 8 bytes in
    let behind : List ℕ = drop 8 bytes in
    let so : fault_in (versioned limit version behind).end ≡ None = ap (λ (s : Stream). fault_in s.end) (sym (stream_long limit bytes long)) ∙ none in
    stream_long wide bytes long ∙ versioned_wider limit wide version (eqb version 1) behind le so ∙ sym (stream_long limit bytes long)

-- A stream without a fault is the same where a message may have more words.
pub stream_wider : (limit wide : ℕ) (bytes : List ℕ) → limit ≤ wide → fault_in (stream limit bytes).end ≡ None → stream wide bytes ≡ stream limit bytes
stream_wider limit wide bytes le none = stream_by (ltb (length bytes) 8) limit wide bytes refl le none

-- ---- splitters

-- the same for a splitter that was fed these bytes
pub same_stream : (old : Splitting) (wide : ℕ) (before : List ℕ) → old.limit ≤ wide → old ≡ fed old.limit before → fault_in old.end ≡ None → stream wide before ≡ stream old.limit before
same_stream old wide before le is none =
    stream_wider old.limit wide before le (ap (λ (s : Splitting). fault_in s.end) (sym is) ∙ none)

pub fed_wider : (old : Splitting) (wide : ℕ) (before : List ℕ) → old.limit ≤ wide → old ≡ fed old.limit before → fault_in old.end ≡ None → record { limit = wide; end = old.end } ≡ fed wide before
fed_wider old wide before le is none =
    ap (λ (s : Splitting). record { limit = wide; end = s.end }) is
    ∙ ap (λ (s : Stream). record { limit = wide; end = s.end }) (sym (same_stream old wide before le is none))
