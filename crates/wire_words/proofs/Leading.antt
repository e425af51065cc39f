-- What a piece adds to the unread bytes, by where it leaves them.
use Rattle.std.proofs.Common.{◌≡◌, ◌<◌, ◌≤◌, ℕ, Bool, true, false, cond, eqb, ltb, List, [], ◌∷◌, ◌++◌, length, take, drop, None, refl, sym, ap, subst, ◌∙◌, append_assoc, arith, inl, inr}
use Rattle.std.proofs.lemmas.Bool.{cases_lt, eqb-true, ltb-true, lt-ltb, le-ltb}
use Rattle.std.proofs.lemmas.List.{length-append, length-take-le, append-nil, take_all, take_at, drop_at}
use Rattle.byteorder.specs.Endian.{little_number}
use Rattle.wire_words.specs.declared.message.Message.{Message}
use Rattle.wire_words.specs.declared.message.Header.{Header}
use Rattle.wire_words.specs.declared.splitter.SplitFault.{SplitFault}
use Rattle.wire_words.specs.declared.splitter.SplitFault.TheVariants.{Version, TooLong}
use Rattle.wire_words.specs.declared.unfinished.Unfinished.{Unfinished}
use Rattle.wire_words.specs.Message.{header_of}
use Rattle.wire_words.specs.Stream.{Part, Long, Whole, Stream, Opening, Rest, Broken, front, front_with, body_size, message_with, ended, one_before, after_messages, messages_in, versioned, stream, going_on, end_with}
use Rattle.wire_words.specs.Holding.{Holds, IsHead, held_bytes}
use Rattle.wire_words.proofs.Cutting.{messages_part, messages_long, messages_whole, short_front, with_whole, with_long, with_part, front_head, stream_short, stream_long, word_front}

-- ---- taking messages off

pub cut_part : (limit : ℕ) (ms : List Message) (rest : List ℕ) → front limit rest ≡ Part → after_messages ms (messages_in limit rest) ≡ record { messages = ms; end = Rest rest }
cut_part limit ms rest e = ap (after_messages ms) (messages_part limit rest e) ∙ ap (λ (xs : List Message). record { messages = xs; end = Rest rest }) (append-nil ms)

pub cut_long : (limit : ℕ) (ms : List Message) (rest : List ℕ) (words : ℕ) → front limit rest ≡ Long words → after_messages ms (messages_in limit rest) ≡ record { messages = ms; end = Broken (TooLong words) }
cut_long limit ms rest words e = ap (after_messages ms) (messages_long limit rest words e) ∙ ap (λ (xs : List Message). record { messages = xs; end = Broken (TooLong words) }) (append-nil ms)

pub cut_more : (limit : ℕ) (ms : List Message) (rest behind : List ℕ) (m : Message) → front limit rest ≡ Whole m behind → after_messages ms (messages_in limit rest) ≡ after_messages (ms ++ m ∷ []) (messages_in limit behind)
cut_more limit ms rest behind m e =
    ap (after_messages ms) (messages_whole limit rest m behind e)
    ∙ ap (λ (xs : List Message). record { messages = xs; end = (messages_in limit behind).end }) (sym (append_assoc ms (m ∷ []) (messages_in limit behind).messages))

-- ---- a piece that ends within a head

pub step_short : (limit : ℕ) (begun : Bool) (bytes piece whole : List ℕ) → whole ≡ bytes ++ piece → length whole < 8
    → going_on limit (end_with None begun bytes) piece ≡ ended (end_with None begun whole)
step_short limit true bytes piece whole e lt = ap (messages_in limit) (sym e) ∙ messages_part limit whole (short_front limit whole lt)
step_short limit false bytes piece whole e lt = ap (stream limit) (sym e) ∙ stream_short limit whole (lt-ltb _ _ lt)

-- ---- a piece that completes a head

-- the unread bytes and the piece are the whole head, the body so far and what follows
pub whole_bytes : (u : Unfinished) (piece head behind : List ℕ) (len : ℕ) → IsHead u → len ≡ 8 → length head ≡ 8
    → take u.head_len u.head ++ piece ≡ take len head ++ behind → (u.head_len ≡ 8 → (len ≡ 8) × (head ≡ u.head) × (behind ≡ piece))
    → held_bytes u ++ piece ≡ head ++ (u.body.items ++ behind)
whole_bytes u piece head behind len h eight width bytes kept =
    elim (cases_lt u.head_len 8) [
      | inl lt ↦
          let none = h.head_first lt in
          let all : take len head ≡ head = take_all len head (omega (arith, eight, width)) in
          ap (λ (b : List ℕ). (take u.head_len u.head ++ b) ++ piece) none ∙ ap (λ (x : List ℕ). x ++ piece) (append-nil (take u.head_len u.head))
          ∙ bytes ∙ ap (λ (x : List ℕ). x ++ behind) all ∙ ap (λ (b : List ℕ). head ++ (b ++ behind)) (sym none)
      | inr le ↦
          let same : u.head_len ≡ 8 = omega (arith, le, h.short) in
          let k = kept same in
          let all : take u.head_len u.head ≡ u.head = take_all u.head_len u.head (omega (arith, same, h.width)) in
          append_assoc (take u.head_len u.head) u.body.items piece ∙ ap (λ (x : List ℕ). x ++ (u.body.items ++ piece)) (all ∙ sym k.1) ∙ ap (λ (x : List ℕ). head ++ (u.body.items ++ x)) (sym k.2)
    ]

-- what the version word leads to
pub step_version : (limit : ℕ) (bytes piece head behind : List ℕ) → length head ≡ 8 → bytes ++ piece ≡ head ++ behind
    → going_on limit (Opening bytes) piece ≡ versioned limit (little_number 8 head) behind
step_version limit bytes piece head behind width e =
    let room : ltb (length (head ++ behind)) 8 ≡ false = le-ltb _ _ (omega (arith, width, length-append head behind)) in
    ap (stream limit) e ∙ stream_long limit (head ++ behind) room
    ∙ ap (λ (n : ℕ). versioned limit n (drop 8 (head ++ behind))) (word_front head behind (omega (arith, width)))
    ∙ ap (λ (rest : List ℕ). versioned limit (little_number 8 head) rest) (drop_at head behind 8 width)

-- ---- a message of which the head is there

pub head_long : (limit : ℕ) (head behind : List ℕ) → length head ≡ 8 → limit < (header_of head).words → messages_in limit (head ++ behind) ≡ ended (Broken (TooLong (header_of head).words))
head_long limit head behind width many =
    messages_long limit (head ++ behind) (header_of head).words (front_head limit head behind width ∙ with_long limit (header_of head) behind (lt-ltb _ _ many))

pub head_part : (limit : ℕ) (head behind : List ℕ) → length head ≡ 8 → (header_of head).words ≤ limit → length behind < body_size (header_of head) → front limit (head ++ behind) ≡ Part
head_part limit head behind width few short =
    front_head limit head behind width ∙ with_part limit (header_of head) behind (le-ltb _ _ few) (lt-ltb _ _ short)

pub head_whole : (limit : ℕ) (head front_part last after : List ℕ) → length head ≡ 8 → (header_of head).words ≤ limit → length (front_part ++ last) ≡ body_size (header_of head)
    → messages_in limit (head ++ (front_part ++ (last ++ after))) ≡ one_before (message_with (header_of head) (front_part ++ last)) (messages_in limit after)
head_whole limit head front_part last after width few size =
    let h = header_of head in
    let body = front_part ++ last in
    let room : ltb (length (body ++ after)) (body_size h) ≡ false = le-ltb _ _ (omega (arith, size, length-append body after)) in
    let stands : front limit (head ++ (body ++ after)) ≡ Whole (message_with h body) after =
    front_head limit head (body ++ after) width ∙ with_whole limit h (body ++ after) (le-ltb _ _ few) room
    ∙ ap (λ (x : List ℕ). Whole (message_with h x) (drop (body_size h) (body ++ after))) (take_at body after (body_size h) size)
    ∙ ap (λ (x : List ℕ). Whole (message_with h body) x) (drop_at body after (body_size h) size) in
    ap (λ (x : List ℕ). messages_in limit (head ++ x)) (sym (append_assoc front_part last after)) ∙ messages_whole limit (head ++ (body ++ after)) (message_with h body) after stands

part_case : (b c : Bool) (words : ℕ) (m : Message) (r : List ℕ) → cond b (Long words) (cond c Part (Whole m r)) ≡ Part → c ≡ true
part_case true c words m r e = absurd cc
part_case false true words m r e = refl
part_case false false words m r e = absurd cc

-- a part of a message has fewer bytes than its header states
part_short : (limit : ℕ) (h : Header) (behind : List ℕ) → front_with limit h behind ≡ Part → length behind < body_size h
part_short limit h behind e =
    ltb-true (length behind) (body_size h) (part_case (ltb limit h.words) (ltb (length behind) (body_size h)) h.words (message_with h (take (body_size h) behind)) (drop (body_size h) behind) e)

-- what is held after a whole head has room in the message
pub body_fits : (limit : ℕ) (u : Unfinished) → Holds limit u → (head : List ℕ) → (u.head_len ≡ 8 → head ≡ u.head) → length u.body.items ≤ body_size (header_of head)
body_fits limit u h head same =
    elim (cases_lt u.head_len 8) [
      | inl lt ↦ omega (arith, ap length (h.head.head_first lt))
      | inr le ↦
          let eight : u.head_len ≡ 8 = omega (arith, le, h.head.short) in
          let all : take u.head_len u.head ≡ u.head = take_all u.head_len u.head (omega (arith, eight, h.head.width)) in
          let part : front_with limit (header_of u.head) u.body.items ≡ Part =
          sym (front_head limit u.head u.body.items h.head.width) ∙ ap (λ (x : List ℕ). front limit (x ++ u.body.items)) (sym all) ∙ h.part in
          let short : length u.body.items < body_size (header_of u.head) = part_short limit (header_of u.head) u.body.items part in
          subst (λ (x : List ℕ). length u.body.items ≤ body_size (header_of x)) (sym (same eight)) (omega (arith, short))
    ]

-- ---- what a step leaves

by_version : (b : Bool) (limit version : ℕ) (behind : List ℕ) → (b ≡ true → version ≡ 1) → (version ≡ 1 → ⊥) → cond b (messages_in limit behind) (ended (Broken (Version version))) ≡ ended (Broken (Version version))
by_version true limit version behind is other = absurd (other (is refl))
by_version false limit version behind is other = refl

-- another version word ends the stream
pub other_version : (limit version : ℕ) (behind : List ℕ) → (version ≡ 1 → ⊥) → versioned limit version behind ≡ ended (Broken (Version version))
other_version limit version behind other = by_version (eqb version 1) limit version behind (eqb-true version 1) other

-- a part of a message is held
pub part_held : (limit : ℕ) (ms : List Message) (u : Unfinished) (bytes : List ℕ) → ms ≡ [] → u.begun ≡ true → IsHead u → held_bytes u ≡ bytes → front limit bytes ≡ Part
    → (messages_in limit bytes ≡ record { messages = ms; end = end_with None u.begun (held_bytes u) }) × Holds limit u
part_held limit ms u bytes none begun head held part = (
  messages_part limit bytes part ∙ ap (λ (b : List ℕ). ended (Rest b)) (sym held)
      ∙ ap (λ (b : Bool). ended (end_with None b (held_bytes u))) (sym begun)
      ∙ ap (λ (xs : List Message). record { messages = xs; end = end_with None u.begun (held_bytes u) }) (sym none),
  record { head = head; part = ap (front limit) held ∙ part; opening = λ e. let wrong : true ≡ false = sym begun ∙ e in absurd cc },
)

-- a part of a head is held
pub short_piece : (limit : ℕ) (ms : List Message) (u next : Unfinished) (piece behind : List ℕ) → Holds limit u → ms ≡ [] → next.body.items ≡ u.body.items → next.head_len < 8 → length next.head ≡ 8
    → take u.head_len u.head ++ piece ≡ take next.head_len next.head ++ behind → behind ≡ [] → (u.head_len ≡ 8 → next.head_len ≡ 8)
    → (going_on limit (end_with None u.begun (held_bytes u)) piece ≡ record { messages = ms; end = end_with None u.begun (held_bytes next) }) × Holds limit next
short_piece limit ms u next piece behind h none same lt width bytes all kept =
    let before : u.head_len < 8 =
    elim (cases_lt u.head_len 8) [
      | inl below ↦ below
      | inr le ↦ absurd (omega (arith, lt, kept (omega (arith, le, h.head.short))))
    ] in
    let empty : u.body.items ≡ [] = h.head.head_first before in
    let no_body : next.body.items ≡ [] = same ∙ empty in
    let front = take next.head_len next.head in
    let next_is : held_bytes next ≡ front = ap (λ (b : List ℕ). front ++ b) no_body ∙ append-nil front in
    let joined : held_bytes u ++ piece ≡ front =
    ap (λ (b : List ℕ). (take u.head_len u.head ++ b) ++ piece) empty ∙ ap (λ (x : List ℕ). x ++ piece) (append-nil (take u.head_len u.head)) ∙ bytes
    ∙ ap (λ (x : List ℕ). front ++ x) all ∙ append-nil front in
    let whole : held_bytes next ≡ held_bytes u ++ piece = next_is ∙ sym joined in
    let short : length (held_bytes next) < 8 = omega (arith, ap length next_is, length-take-le next.head_len next.head (omega (arith, lt, width)), lt) in (
      step_short limit u.begun (held_bytes u) piece (held_bytes next) whole short
          ∙ ap (λ (xs : List Message). record { messages = xs; end = end_with None u.begun (held_bytes next) }) (sym none),
      record {
        head = record { width = width; short = omega (arith, lt); head_first = λ _. no_body };
        part = short_front limit (held_bytes next) short;
        opening = λ _. lt;
      },
    )

-- a whole head with what follows it, if no version word was read
pub step_opening : (limit : ℕ) (u : Unfinished) (piece head behind : List ℕ) → Holds limit u → u.begun ≡ false → length head ≡ 8 → held_bytes u ++ piece ≡ head ++ (u.body.items ++ behind)
    → going_on limit (end_with None u.begun (held_bytes u)) piece ≡ versioned limit (little_number 8 head) behind
step_opening limit u piece head behind h begun width whole =
    let empty : u.body.items ≡ [] = h.head.head_first (h.opening begun) in
    ap (λ (b : Bool). going_on limit (end_with None b (held_bytes u)) piece) begun
    ∙ step_version limit (held_bytes u) piece head behind width (whole ∙ ap (λ (b : List ℕ). head ++ (b ++ behind)) empty)

-- the same where one was read
pub step_begun : (limit : ℕ) (u : Unfinished) (piece head behind : List ℕ) → u.begun ≡ true → held_bytes u ++ piece ≡ head ++ (u.body.items ++ behind)
    → going_on limit (end_with None u.begun (held_bytes u)) piece ≡ messages_in limit (head ++ (u.body.items ++ behind))
step_begun limit u piece head behind begun whole =
    ap (λ (b : Bool). going_on limit (end_with None b (held_bytes u)) piece) begun ∙ ap (messages_in limit) whole

-- a stream that breaks here
abbrev pub broken : SplitFault → List Message → Stream
broken fault messages = record { messages = messages; end = Broken fault }

pub broken_with : (fault : SplitFault) (ms : List Message) → ms ≡ [] → ended (Broken fault) ≡ broken fault ms
broken_with fault ms none = ap (broken fault) (sym none)
