-- Messages come off the front of bytes, however they are cut.
use Rattle.std.proofs.Common.{◌≡◌, ◌+◌, ◌<◌, ◌≤◌, ℕ, zero, suc, Bool, true, false, cond, ltb, eqb, List, [], ◌∷◌, ◌++◌, length, take, drop, refl, sym, ap, ◌∙◌, arith}
use Rattle.std.proofs.lemmas.Bool.{ltb-false, lt-ltb, le-ltb}
use Rattle.std.proofs.lemmas.List.{length-append, length-drop, drop_at}
use Rattle.byteorder.specs.Endian.{little_number}
use Rattle.wire_words.specs.declared.message.Message.{Message}
use Rattle.wire_words.specs.declared.message.Header.{Header}
use Rattle.wire_words.specs.declared.splitter.SplitFault.TheVariants.{Version, TooLong}
use Rattle.wire_words.specs.Message.{header_of}
use Rattle.wire_words.specs.Stream.{Front, Part, Long, Whole, Stream, Opening, Rest, Broken, front, front_with, body_size, message_with, ended, one_before, after_messages, taken, taking, messages_in, versioned, stream, going_on}

-- ---- fronts

whole_is : (m m' : Message) (r r' : List ℕ) → Whole m r ≡ Whole m' r' → (m ≡ m') × (r ≡ r')
whole_is m m' r r' e = (cc, cc)

long_is : (w w' : ℕ) → Long w ≡ Long w' → w ≡ w'
long_is w w' e = cc

-- what a test leaves of a front that is a message
long_not : (b : Bool) (words : ℕ) (f : Front) (m : Message) (r : List ℕ) → cond b (Long words) f ≡ Whole m r → (b ≡ false) × (f ≡ Whole m r)
long_not true words f m r e = absurd cc
long_not false words f m r e = (refl, e)

part_not : (b : Bool) (f : Front) (m : Message) (r : List ℕ) → cond b Part f ≡ Whole m r → (b ≡ false) × (f ≡ Whole m r)
part_not true f m r e = absurd cc
part_not false f m r e = (refl, e)

-- and of one that is too long
part_not_long : (b : Bool) (f : Front) (words : ℕ) → cond b Part f ≡ Long words → (b ≡ false) × (f ≡ Long words)
part_not_long true f words e = absurd cc
part_not_long false f words e = (refl, e)

-- a message is at the front
pub record IsWhole (limit : ℕ) (bytes : List ℕ) (m : Message) (rest : List ℕ) : Type 0 where
  pub head : ltb (length bytes) 8 ≡ false
  pub few : ltb limit (header_of bytes).words ≡ false
  pub room : ltb (length (drop 8 bytes)) (body_size (header_of bytes)) ≡ false
  pub message : message_with (header_of bytes) (take (body_size (header_of bytes)) (drop 8 bytes)) ≡ m
  pub rest_is : drop (body_size (header_of bytes)) (drop 8 bytes) ≡ rest

pub whole_front : (limit : ℕ) (bytes : List ℕ) (m : Message) (rest : List ℕ) → front limit bytes ≡ Whole m rest → IsWhole limit bytes m rest
unfolding front
whole_front limit bytes m rest e =
    let h = header_of bytes in
    let behind = drop 8 bytes in
    let whole = Whole (message_with h (take (body_size h) behind)) (drop (body_size h) behind) in
    let a = part_not (ltb (length bytes) 8) (front_with limit h behind) m rest e in
    let b = long_not (ltb limit h.words) h.words (cond (ltb (length behind) (body_size h)) Part whole) m rest a.1 in
    let c = part_not (ltb (length behind) (body_size h)) whole m rest b.1 in
    let is = whole_is (message_with h (take (body_size h) behind)) m (drop (body_size h) behind) rest c.1 in
    record { head = a.0; few = b.0; room = c.0; message = is.0; rest_is = is.1 }

-- a message takes eight bytes or more
pub whole_shorter : (limit : ℕ) (bytes : List ℕ) (m : Message) (rest : List ℕ) → front limit bytes ≡ Whole m rest → length rest + 8 ≤ length bytes
whole_shorter limit bytes m rest e =
    let w = whole_front limit bytes m rest e in
    let long : 8 ≤ length bytes = ltb-false _ _ w.head in
    let len = ap length (sym w.rest_is) in
    omega (arith, len, length-drop (body_size (header_of bytes)) (drop 8 bytes), length-drop 8 bytes)

-- ---- taking

taken_same : (bytes : List ℕ) (f : Front) (g h : List ℕ → Stream) → ((m : Message) (r : List ℕ) → f ≡ Whole m r → g r ≡ h r) → taken bytes f g ≡ taken bytes f h
taken_same bytes Part g h same = refl
taken_same bytes (Long words) g h same = refl
taken_same bytes (Whole m r) g h same = ap (one_before m) (same m r refl)

-- fewer than eight bytes are a part of a message
pub short_front : (limit : ℕ) (bytes : List ℕ) → length bytes < 8 → front limit bytes ≡ Part
unfolding front
short_front limit bytes lt = rw (lt-ltb (length bytes) 8 lt) refl

taking_none : (n limit : ℕ) (bytes : List ℕ) → length bytes ≡ 0 → taking n limit bytes ≡ ended (Rest bytes)
taking_none zero limit bytes e = refl
taking_none (suc n) limit bytes e = rw (short_front limit bytes (omega (arith, e))) refl

-- as many messages are taken off whatever bound is enough
pub taking_enough : (n m limit : ℕ) (bytes : List ℕ) → length bytes ≤ n → length bytes ≤ m → taking n limit bytes ≡ taking m limit bytes
taking_enough zero m limit bytes below below' = let none : length bytes ≡ 0 = omega arith in sym (taking_none m limit bytes none)
taking_enough (suc n) zero limit bytes below below' = let none : length bytes ≡ 0 = omega arith in taking_none (suc n) limit bytes none
taking_enough (suc n) (suc m) limit bytes below below' =
    taken_same bytes (front limit bytes) (taking n limit) (taking m limit)
    (λ msg rest e.
    let shorter = whole_shorter limit bytes msg rest e in
    taking_enough n m limit rest (omega (arith, shorter, below)) (omega (arith, shorter, below')))

-- the front decides what the stream begins with
pub messages_by_front : (limit : ℕ) (bytes : List ℕ) → messages_in limit bytes ≡ taken bytes (front limit bytes) (messages_in limit)
unfolding messages_in
messages_by_front limit bytes =
    taking_enough (length bytes) (suc (length bytes)) limit bytes (omega arith) (omega arith)
    ∙ taken_same bytes (front limit bytes) (taking (length bytes) limit) (λ rest. taking (length rest) limit rest)
    (λ msg rest e.
    let shorter = whole_shorter limit bytes msg rest e in
    taking_enough (length bytes) (length rest) limit rest (omega (arith, shorter)) (omega arith))

pub messages_part : (limit : ℕ) (bytes : List ℕ) → front limit bytes ≡ Part → messages_in limit bytes ≡ ended (Rest bytes)
messages_part limit bytes e = messages_by_front limit bytes ∙ ap (λ (f : Front). taken bytes f (messages_in limit)) e

pub messages_long : (limit : ℕ) (bytes : List ℕ) (words : ℕ) → front limit bytes ≡ Long words → messages_in limit bytes ≡ ended (Broken (TooLong words))
messages_long limit bytes words e = messages_by_front limit bytes ∙ ap (λ (f : Front). taken bytes f (messages_in limit)) e

pub messages_whole : (limit : ℕ) (bytes : List ℕ) (m : Message) (rest : List ℕ) → front limit bytes ≡ Whole m rest → messages_in limit bytes ≡ one_before m (messages_in limit rest)
messages_whole limit bytes m rest e = messages_by_front limit bytes ∙ ap (λ (f : Front). taken bytes f (messages_in limit)) e

-- ---- more bytes after

-- more bytes after four or eight leave what a header says
header_front : (bytes more : List ℕ) → 8 ≤ length bytes → header_of (bytes ++ more) ≡ header_of bytes
header_front (a ∷ b ∷ c ∷ d ∷ e ∷ f ∷ g ∷ h ∷ bytes) more long = refl
header_front _ more long = absurd (omega arith)

pub drop_front : (n : ℕ) (bytes more : List ℕ) → n ≤ length bytes → drop n (bytes ++ more) ≡ drop n bytes ++ more
drop_front zero bytes more long = refl
drop_front (suc n) [] more long = absurd (omega (arith, long))
drop_front (suc n) (b ∷ bytes) more long = drop_front n bytes more (omega (arith, long))

take_front : (n : ℕ) (bytes more : List ℕ) → n ≤ length bytes → take n (bytes ++ more) ≡ take n bytes
take_front zero bytes more long = refl
take_front (suc n) [] more long = absurd (omega (arith, long))
take_front (suc n) (b ∷ bytes) more long = ap (λ (xs : List ℕ). b ∷ xs) (take_front n bytes more (omega (arith, long)))

-- a front of eight bytes or more, by its header
pub front_is_with : (limit : ℕ) (bytes : List ℕ) → ltb (length bytes) 8 ≡ false → front limit bytes ≡ front_with limit (header_of bytes) (drop 8 bytes)
unfolding front
front_is_with limit bytes e = ap (λ (b : Bool). cond b Part (front_with limit (header_of bytes) (drop 8 bytes))) e

-- what follows a header, by the tests of it
abbrev whole_with : Header → List ℕ → Front
whole_with h behind = Whole (message_with h (take (body_size h) behind)) (drop (body_size h) behind)

pub with_whole : (limit : ℕ) (h : Header) (behind : List ℕ) → ltb limit h.words ≡ false → ltb (length behind) (body_size h) ≡ false
    → front_with limit h behind ≡ Whole (message_with h (take (body_size h) behind)) (drop (body_size h) behind)
with_whole limit h behind few room =
    ap (λ (b : Bool). cond b (Long h.words) (cond (ltb (length behind) (body_size h)) Part (whole_with h behind))) few ∙ ap (λ (b : Bool). cond b Part (whole_with h behind)) room

pub with_long : (limit : ℕ) (h : Header) (behind : List ℕ) → ltb limit h.words ≡ true → front_with limit h behind ≡ Long h.words
with_long limit h behind many = ap (λ (b : Bool). cond b (Long h.words) (cond (ltb (length behind) (body_size h)) Part (whole_with h behind))) many

pub with_part : (limit : ℕ) (h : Header) (behind : List ℕ) → ltb limit h.words ≡ false → ltb (length behind) (body_size h) ≡ true → front_with limit h behind ≡ Part
with_part limit h behind few short =
    ap (λ (b : Bool). cond b (Long h.words) (cond (ltb (length behind) (body_size h)) Part (whole_with h behind))) few ∙ ap (λ (b : Bool). cond b Part (whole_with h behind)) short

pub front_head : (limit : ℕ) (head behind : List ℕ) → length head ≡ 8 → front limit (head ++ behind) ≡ front_with limit (header_of head) behind
front_head limit head behind len =
    let room : ltb (length (head ++ behind)) 8 ≡ false = le-ltb _ _ (omega (arith, len, length-append head behind)) in
    let size : 8 ≤ length head = omega (arith, len) in
    front_is_with limit (head ++ behind) room
    ∙ ap (λ (h : Header). front_with limit h (drop 8 (head ++ behind))) (header_front head behind size)
    ∙ ap (λ (rest : List ℕ). front_with limit (header_of head) rest) (drop_at head behind 8 len)

-- the front of longer bytes, by the header of the first ones
front_longer : (limit : ℕ) (bytes more : List ℕ) → 8 ≤ length bytes → front limit (bytes ++ more) ≡ front_with limit (header_of bytes) (drop 8 bytes ++ more)
front_longer limit bytes more long =
    let head : ltb (length (bytes ++ more)) 8 ≡ false = le-ltb _ _ (omega (arith, long, length-append bytes more)) in
    front_is_with limit (bytes ++ more) head
    ∙ ap (λ (h : Header). front_with limit h (drop 8 (bytes ++ more))) (header_front bytes more long)
    ∙ ap (λ (rest : List ℕ). front_with limit (header_of bytes) rest) (drop_front 8 bytes more long)

pub whole_longer : (limit : ℕ) (bytes more : List ℕ) (m : Message) (rest : List ℕ) → front limit bytes ≡ Whole m rest → front limit (bytes ++ more) ≡ Whole m (rest ++ more)
whole_longer limit bytes more m rest e =
    let w = whole_front limit bytes m rest e in
    let h = header_of bytes in
    let behind = drop 8 bytes in
    let long : 8 ≤ length bytes = ltb-false _ _ w.head in
    let room : body_size h ≤ length behind = ltb-false _ _ w.room in
    let enough : ltb (length (behind ++ more)) (body_size h) ≡ false = le-ltb _ _ (omega (arith, room, length-append behind more)) in
    let body : take (body_size h) (behind ++ more) ≡ take (body_size h) behind = take_front (body_size h) behind more room in
    let after : drop (body_size h) (behind ++ more) ≡ drop (body_size h) behind ++ more = drop_front (body_size h) behind more room in
    front_longer limit bytes more long ∙ with_whole limit h (behind ++ more) w.few enough
    ∙ ap (λ (x : List ℕ). Whole (message_with h x) (drop (body_size h) (behind ++ more))) body
    ∙ ap (λ (x : List ℕ). Whole (message_with h (take (body_size h) behind)) x) after
    ∙ ap (λ (x : Message). Whole x (drop (body_size h) behind ++ more)) w.message
    ∙ ap (λ (x : List ℕ). Whole m (x ++ more)) w.rest_is

long_words : (limit : ℕ) (bytes : List ℕ) (words : ℕ) → front limit bytes ≡ Long words → (ltb (length bytes) 8 ≡ false) × (front_with limit (header_of bytes) (drop 8 bytes) ≡ Long words)
unfolding front
long_words limit bytes words e = part_not_long (ltb (length bytes) 8) (front_with limit (header_of bytes) (drop 8 bytes)) words e

is_long : (b : Bool) (words claimed : ℕ) (f : Front) → ((w : ℕ) → f ≡ Long w → ⊥) → cond b (Long claimed) f ≡ Long words → (b ≡ true) × (claimed ≡ words)
is_long true words claimed f never e = (refl, long_is claimed words e)
is_long false words claimed f never e = absurd (never words e)

never_long : (b : Bool) (m : Message) (r : List ℕ) (w : ℕ) → cond b Part (Whole m r) ≡ Long w → ⊥
never_long true m r w e = cc
never_long false m r w e = cc

pub long_longer : (limit : ℕ) (bytes more : List ℕ) (words : ℕ) → front limit bytes ≡ Long words → front limit (bytes ++ more) ≡ Long words
long_longer limit bytes more words e =
    let a = long_words limit bytes words e in
    let h = header_of bytes in
    let long : 8 ≤ length bytes = ltb-false _ _ a.0 in
    let behind = drop 8 bytes in
    let b = is_long (ltb limit h.words) words h.words (cond (ltb (length behind) (body_size h)) Part (Whole (message_with h (take (body_size h) behind)) (drop (body_size h) behind)))
    (never_long (ltb (length behind) (body_size h)) (message_with h (take (body_size h) behind)) (drop (body_size h) behind)) a.1 in
    front_longer limit bytes more long ∙ with_long limit h (behind ++ more) b.0 ∙ ap (λ (w : ℕ). Long w) b.1

-- what more bytes add to a stream
abbrev pub added : ℕ → Stream → List ℕ → Stream
added limit so_far more = after_messages so_far.messages (going_on limit so_far.end more)

joined_case : (limit : ℕ) (bytes more : List ℕ) (f : Front) → front limit bytes ≡ f
    → ((m : Message) (rest : List ℕ) → f ≡ Whole m rest → messages_in limit (rest ++ more) ≡ added limit (messages_in limit rest) more)
    → messages_in limit (bytes ++ more) ≡ added limit (messages_in limit bytes) more
joined_case limit bytes more Part e later = ap (λ (s : Stream). added limit s more) (sym (messages_part limit bytes e))
joined_case limit bytes more (Long words) e later =
    messages_long limit (bytes ++ more) words (long_longer limit bytes more words e) ∙ ap (λ (s : Stream). added limit s more) (sym (messages_long limit bytes words e))
joined_case limit bytes more (Whole m rest) e later =
    messages_whole limit (bytes ++ more) m (rest ++ more) (whole_longer limit bytes more m rest e) ∙ ap (one_before m) (later m rest refl)
    ∙ ap (λ (s : Stream). added limit s more) (sym (messages_whole limit bytes m rest e))

joined_by : (n limit : ℕ) (bytes more : List ℕ) → length bytes ≤ n → messages_in limit (bytes ++ more) ≡ added limit (messages_in limit bytes) more
joined_by zero limit bytes more below =
    joined_case limit bytes more (front limit bytes) refl (λ m rest e. absurd (omega (arith, whole_shorter limit bytes m rest e, below)))
joined_by (suc n) limit bytes more below =
    joined_case limit bytes more (front limit bytes) refl (λ m rest e. joined_by n limit rest more (omega (arith, whole_shorter limit bytes m rest e, below)))

-- bytes after a version word, and more bytes
pub messages_joined : (limit : ℕ) (bytes more : List ℕ) → messages_in limit (bytes ++ more) ≡ added limit (messages_in limit bytes) more
messages_joined limit bytes more = joined_by (length bytes) limit bytes more (omega arith)

-- a whole word is read the same with more bytes after it
pub word_front : (bytes more : List ℕ) → 8 ≤ length bytes → little_number 8 (bytes ++ more) ≡ little_number 8 bytes
word_front (a ∷ b ∷ c ∷ d ∷ e ∷ f ∷ g ∷ h ∷ bytes) more long = refl
word_front _ more long = absurd (omega arith)

versioned_joined : (limit version : ℕ) (bytes more : List ℕ) → versioned limit version (bytes ++ more) ≡ added limit (versioned limit version bytes) more
versioned_joined limit version bytes more =
    elim (eqb version 1) as (λ b. cond b (messages_in limit (bytes ++ more)) (ended (Broken (Version version))) ≡ added limit (cond b (messages_in limit bytes) (ended (Broken (Version version)))) more)
    [ true ↦ messages_joined limit bytes more | false ↦ refl ]

pub stream_short : (limit : ℕ) (bytes : List ℕ) → ltb (length bytes) 8 ≡ true → stream limit bytes ≡ ended (Opening bytes)
unfolding stream
stream_short limit bytes e = rw e refl

pub stream_long : (limit : ℕ) (bytes : List ℕ) → ltb (length bytes) 8 ≡ false → stream limit bytes ≡ versioned limit (little_number 8 bytes) (drop 8 bytes)
unfolding stream
stream_long limit bytes e = rw e refl

stream_case : (limit : ℕ) (bytes more : List ℕ) (b : Bool) → ltb (length bytes) 8 ≡ b → stream limit (bytes ++ more) ≡ added limit (stream limit bytes) more
stream_case limit bytes more true e = ap (λ (s : Stream). added limit s more) (sym (stream_short limit bytes e))
stream_case limit bytes more false e =
    let long : 8 ≤ length bytes = ltb-false _ _ e in
    let longer : ltb (length (bytes ++ more)) 8 ≡ false = le-ltb _ _ (omega (arith, long, length-append bytes more)) in
    stream_long limit (bytes ++ more) longer
    ∙ ap (λ (n : ℕ). versioned limit n (drop 8 (bytes ++ more))) (word_front bytes more long)
    ∙ ap (λ (rest : List ℕ). versioned limit (little_number 8 bytes) rest) (drop_front 8 bytes more long)
    ∙ versioned_joined limit (little_number 8 bytes) (drop 8 bytes) more
    ∙ ap (λ (s : Stream). added limit s more) (sym (stream_long limit bytes e))

-- The stream of bytes and more bytes is that of the bytes with what the others add to it.
pub stream_joined : (limit : ℕ) (bytes more : List ℕ) → stream limit (bytes ++ more) ≡ added limit (stream limit bytes) more
stream_joined limit bytes more = stream_case limit bytes more (ltb (length bytes) 8) refl
