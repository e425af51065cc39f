-- What a line says that has something happen.
use Rattle.std.specs.Prelude.{◌==◌, ◌^◌, ◌&&◌, ℕ, Bool, List, length, codes, nat_le, true, false, Option, Some, None, option_and_then, if◌then◌else◌}
use Rattle.std.specs.Option.{option_map}
use Rattle.std.specs.Result.{result_ok}
use Rattle.dq_base.specs.Decimal.{number_below}
use Rattle.dq_base.specs.Texts.{halves, behind, or_else}
use Rattle.hex.specs.Hex.{decode_of}
use Rattle.script_grammar.specs.declared.events.Event.{Event}
use Rattle.script_grammar.specs.declared.events.Event.TheVariants.{Timeout, Beat, Connect, Bytes, Hangup, Deliver, Settle, Crash, Start, Put, Take}

-- a number in decimal below 2 ^ 32
abbrev pub number : List ℕ → Option ℕ
number word = number_below (2 ^ 32) word

infixl 10 ◌>>=◌
abbrev pub ◌>>=◌ : {A B : Type 0} → Option A → (A → Option B) → Option B
o >>= f = option_and_then f o

-- a number that is in a range
unfoldable pub number_within : ℕ → ℕ → List ℕ → Option ℕ
number_within least most word = do
  n ← number word
  if nat_le least n && nat_le n most then Some n else None

-- two numbers from the halves of a text, or its one number and 0
abbrev pub numbers_in : Option (List ℕ × List ℕ) → List ℕ → Option (ℕ × ℕ)
numbers_in None text = option_map (λ (n : ℕ). (n, 0)) (number text)
numbers_in (Some both) text = number both.0 >>= λ (n : ℕ). option_map (λ (m : ℕ). (n, m)) (number both.1)

-- one number, or two with a space between; if the second is left out it is 0
unfoldable pub one_or_two : List ℕ → Option (ℕ × ℕ)
one_or_two text = numbers_in (halves text) text

-- the bytes of hex digits of either case, at least two of them
unfoldable pub hex_bytes : List ℕ → Option (List ℕ)
hex_bytes word = if length word == 0 then None else result_ok (decode_of word)

-- `connect N C`
unfoldable pub connect_of : List ℕ → Option Event
connect_of text = do
  both ← halves text
  node ← number both.0
  connection ← number both.1
  Some (Connect node connection)

-- `bytes C HEX`
unfoldable pub bytes_of : List ℕ → Option Event
bytes_of text = do
  both ← halves text
  connection ← number both.0
  bytes ← hex_bytes both.1
  Some (Bytes connection bytes)

-- an event that leaves disks alone or is over all of them, or one at state machines
unfoldable pub other_event : List ℕ → Option Event
other_event line =
    or_else (behind (codes "connect ") line) connect_of
    (or_else (behind (codes "settle ") line) (λ text. option_map Settle (number_within 1 10000 text))
    (or_else (behind (codes "crash ") line) (λ text. option_map (λ (both : ℕ × ℕ). Crash both.0 both.1) (one_or_two text))
    (or_else (behind (codes "put ") line) (λ text. option_map Put (hex_bytes text))
    (or_else (behind (codes "take ") line) (λ text. option_map Take (number text))
    None))))

-- a line that has something happen: words, each after one space
unfoldable pub event_of : List ℕ → Option Event
event_of line =
    or_else (behind (codes "timeout ") line) (λ text. option_map Timeout (number text))
    (or_else (behind (codes "beat ") line) (λ text. option_map Beat (number text))
    (or_else (behind (codes "bytes ") line) bytes_of
    (or_else (behind (codes "hangup ") line) (λ text. option_map Hangup (number text))
    (or_else (behind (codes "deliver ") line) (λ text. option_map Deliver (number text))
    (or_else (behind (codes "start ") line) (λ text. option_map Start (number text))
    (other_event line))))))

-- whether an event is one node's work over its disk, which may be stopped or fail
abbrev pub may_be_aimed : Event → Bool
may_be_aimed (Timeout node) = true
may_be_aimed (Beat node) = true
may_be_aimed (Connect node connection) = false
may_be_aimed (Bytes connection bytes) = true
may_be_aimed (Hangup connection) = true
may_be_aimed (Deliver message) = true
may_be_aimed (Settle count) = false
may_be_aimed (Crash node pick) = false
may_be_aimed (Start node) = true
may_be_aimed (Put bytes) = false
may_be_aimed (Take machine) = false
