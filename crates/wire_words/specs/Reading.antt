-- Reading items from left to right, with the first fault that is met and the place of its item.
use Rattle.std.specs.Prelude.{◌≡◌, ◌+◌, ℕ, zero, suc, Bool, true, not, List, [], ◌∷◌, ◌++◌, length, take, drop, Option, Some, None, Result, Ok, Err, MatchResult, nat_lt, if◌then◌else◌}
use Rattle.std.specs.List.{list_all, position}
use Rattle.std.specs.Str.{is_utf8}
use Rattle.byteorder.specs.Endian.{little_number}
use Rattle.wire_words.specs.declared.fault.WordFault.{WordFault}
use Rattle.wire_words.specs.declared.fault.WordFault.TheVariants.{Short, NoNul, NotUtf8, Pad, NoMemory}
use Rattle.wire_words.specs.declared.value.Dialect.{Dialect}
use Rattle.wire_words.specs.declared.value.Dialect.TheVariants as dialects
use Rattle.wire_words.specs.Items.{gap, is_zero}

-- What a reader has left: its place in the body, and the bytes from there on.
pub record Unread : Type 0 where
  pub at : ℕ
  pub bytes : List ℕ

-- a reader at the start of a body
abbrev pub unread : List ℕ → Unread
unread body = record { at = 0; bytes = body }

-- what is left after n bytes more
abbrev pub past : ℕ → Unread → Unread
past n left = record { at = left.at + n; bytes = drop n left.bytes }

infixl 10 ◌>>=◌
-- the next step, unless a fault came before it
abbrev pub ◌>>=◌ : {A B E : Type 0} → Result A E → (A → Result B E) → Result B E
(Ok x) >>= f = f x
(Err e) >>= f = Err e

-- a number of 64 bits
unfoldable pub word_at : Unread → Result (ℕ × Unread) WordFault
word_at left =
    if nat_lt (length left.bytes) 8 then Err (Short left.at)
    else Ok (little_number 8 left.bytes, past 8 left)

-- two numbers of 32 bits in one word
unfoldable pub pair_at : Unread → Result ((ℕ × ℕ) × Unread) WordFault
pair_at left =
    if nat_lt (length left.bytes) 8 then Err (Short left.at)
    else Ok ((little_number 4 left.bytes, little_number 4 (drop 4 left.bytes)), past 8 left)

-- the n bytes after the first size ones are zeros
abbrev pub are_zeros : ℕ → ℕ → List ℕ → Bool
are_zeros size n bytes = list_all is_zero (take n (drop size bytes))

-- whether these bytes may fill others up: zeros, or anything from a client
abbrev pub may_fill : Dialect → List ℕ → Bool
may_fill dialects.Exact bytes = list_all is_zero bytes
may_fill dialects.Client bytes = true

-- that many bytes, and zeros to a whole word
unfoldable pub raw_at : ℕ → Unread → Result (List ℕ × Unread) WordFault
raw_at size left =
    if nat_lt (length left.bytes) (size + gap size) then Err (Short left.at)
    else if are_zeros size (gap size) left.bytes then Ok (take size left.bytes, past (size + gap size) left)
    else Err (Pad left.at)

-- the n bytes before a NUL, which are to be UTF-8, the NUL, and zeros to a whole word
unfoldable pub text_of : ℕ → Unread → Result (List ℕ × Unread) WordFault
text_of n left =
    if nat_lt (length left.bytes) (n + 1 + gap (n + 1)) then Err (Short left.at)
    else if not (is_utf8 (take n left.bytes)) then Err (NotUtf8 left.at)
    else if are_zeros (n + 1) (gap (n + 1)) left.bytes then Ok (take n left.bytes, past (n + 1 + gap (n + 1)) left)
    else Err (Pad left.at)

abbrev pub text_to : Option ℕ → Unread → Result (List ℕ × Unread) WordFault
text_to None left = Err (NoNul left.at)
text_to (Some n) left = text_of n left

-- a text, which ends before the first NUL
unfoldable pub text_at : Unread → Result (List ℕ × Unread) WordFault
text_at left = text_to (position is_zero left.bytes) left

-- this many bytes of an item that begins at this place, and what fills them up to a whole word
abbrev pub filled_at : Dialect → ℕ → ℕ → Unread → Result (List ℕ × Unread) WordFault
filled_at dialect at size left =
    if nat_lt (length left.bytes) (size + gap size) then Err (Short at)
    else if may_fill dialect (take (gap size) (drop size left.bytes)) then Ok (take size left.bytes, past (size + gap size) left)
    else Err (Pad at)

-- a blob: the number of its bytes in a word, and this many bytes with what fills them up
unfoldable pub blob_at : Dialect → Unread → Result (List ℕ × Unread) WordFault
blob_at dialect left = do
  size ← word_at left
  filled_at dialect left.at size.0 size.1

-- this many items, one after the other
unfoldable pub many_at : {A E : Type 0} → (Unread → Result (A × Unread) E) → ℕ → Unread → Result (List A × Unread) E
many_at one zero left = Ok ([], left)
many_at one (suc count) left = do
  first ← one left
  others ← many_at one count first.1
  Ok (first.0 ∷ others.0, others.1)

-- an item for each element of a list, one after the other
unfoldable pub each_at : {X A E : Type 0} → (X → Unread → Result (A × Unread) E) → List X → Unread → Result (List A × Unread) E
each_at one [] left = Ok ([], left)
each_at one (x ∷ xs) left = do
  first ← one x left
  others ← each_at one xs first.1
  Ok (first.0 ∷ others.0, others.1)

-- A fault is the one that reading gives, unless memory ran out.
abbrev pub Fails : {Y : Type 0} → WordFault → Result Y WordFault → Type 0
Fails NoMemory reading = Unit {0}
Fails fault reading = reading ≡ Err fault

-- What a call of a reader gave, seen by view, and where it then stands are what reading gives; after a fault it stands
-- where it stood.
abbrev pub Gives : {X Y : Type 0} → (X → Y) → (Unread → Result (Y × Unread) WordFault) → Unread → Unread → Result X WordFault → Type 0
Gives view read old new result =
    MatchResult result (λ x. read old ≡ Ok (view x, new)) (λ e. (new ≡ old) × Fails e (read old))

-- What a reader of several items gave, one after the other, is what reading gives; nothing is said of where a fault leaves the reader.
abbrev pub Finds : {X Y : Type 0} → (X → Y) → (Unread → Result (Y × Unread) WordFault) → Unread → Unread → Result X WordFault → Type 0
Finds view read old new result = MatchResult result (λ x. read old ≡ Ok (view x, new)) (λ e. Fails e (read old))

-- What was between two states of a reader is an item.
pub record Took (IsItem : List ℕ → Type 0) (old new : Unread) : Type 0 where
  pub item : List ℕ
  pub spelled : IsItem item
  pub parts : old.bytes ≡ item ++ new.bytes
  pub place : new.at ≡ old.at + length item
