-- Reading a message, with the first fault that is met: its type, its schema, its items from left to right, its end.
use Rattle.std.specs.Prelude.{◌≡◌, ◌+◌, ◌/◌, ◌==◌, ◌&&◌, not, ℕ, Bool, false, length, nat_lt, Option, Some, None, Result, Ok, Err, MatchResult, if◌then◌else◌}
use Rattle.wire_words.specs.declared.fault.WordFault.{WordFault}
use Rattle.wire_words.specs.declared.fault.WordFault.TheVariants as word_faults
use Rattle.wire_words.specs.declared.message.Message.{Message}
use Rattle.wire_words.specs.Reading.{◌>>=◌, Unread, unread}
use Rattle.wire_msgs.specs.declared.fault.MsgFault.{MsgFault}
use Rattle.wire_msgs.specs.declared.fault.MsgFault.TheVariants.{Kind, Schema, Word, Tail, NoMemory}
use Rattle.wire_msgs.specs.declared.request.Request.{Request}
use Rattle.wire_msgs.specs.declared.request.RequestKind.{RequestKind}
use Rattle.wire_msgs.specs.declared.response.Response.{Response}
use Rattle.wire_msgs.specs.declared.response.ResponseKind.{ResponseKind}
use Rattle.wire_msgs.specs.Kinds.{request_kind, request_top_schema, takes_memory, response_kind, response_top_schema, response_takes_memory}
use Rattle.wire_msgs.specs.Bodies.{Reading, request_at, response_at}

-- how many words n bytes are, if a part of a word counts as one
abbrev pub words_in : ℕ → ℕ
words_in n = (n + 7) / 8

-- the fault of a message, if an item has this one
abbrev pub of_word : WordFault → MsgFault
of_word word_faults.NoMemory = NoMemory
of_word fault = Word fault

abbrev pub in_message : {X : Type 0} → Result X WordFault → Result X MsgFault
in_message (Ok x) = Ok x
in_message (Err fault) = Err (of_word fault)

-- what was read, if nothing is left
abbrev pub ended : {X : Type 0} → X × Unread → Result X MsgFault
ended x = if length x.1.bytes == 0 then Ok x.0 else Err (Tail (words_in (length x.1.bytes)))

-- a message of a type with this greatest schema and these fields, which may be wide
abbrev pub whole_of : {X : Type 0} → ℕ → (Bool → Unread → Reading X) → Message → Result X MsgFault
whole_of top fields m =
    if nat_lt top m.schema then Err (Schema m.kind m.schema)
    else in_message (fields (m.schema == 1) (unread m.body)) >>= ended

abbrev pub request_in : Option RequestKind → Message → Result Request MsgFault
request_in None m = Err (Kind m.kind)
request_in (Some kind) m = whole_of (request_top_schema kind) (request_at kind) m

-- the request of a message, or the first fault
unfoldable pub request_of : Message → Result Request MsgFault
request_of m = request_in (request_kind m.kind) m

abbrev pub response_in : Option ResponseKind → Bool → Message → Result Response MsgFault
response_in None roles m = Err (Kind m.kind)
response_in (Some kind) roles m = whole_of (response_top_schema kind) (response_at kind roles) m

-- the response of a message, in this format of its list of servers, or the first fault
unfoldable pub response_of : ℕ → Message → Result Response MsgFault
response_of format m = response_in (response_kind m.kind) (format == 1) m

-- whether reading a message may take memory: its type and its schema are there, and a request of the type takes memory
abbrev pub may_take_memory : Option RequestKind → Message → Bool
may_take_memory None m = false
may_take_memory (Some kind) m = not (nat_lt (request_top_schema kind) m.schema) && takes_memory kind

abbrev pub response_may_take_memory : Option ResponseKind → Message → Bool
response_may_take_memory None m = false
response_may_take_memory (Some kind) m = not (nat_lt (response_top_schema kind) m.schema) && response_takes_memory kind

-- A fault is the one that reading gives, unless memory ran out.
abbrev pub Fails : {X : Type 0} → MsgFault → Result X MsgFault → Type 0
Fails NoMemory reading = Unit {0}
Fails fault reading = reading ≡ Err fault

-- What a call gave is what reading gives, unless memory ran out.
abbrev pub Gives : {X : Type 0} → Result X MsgFault → Result X MsgFault → Type 0
Gives reading result = MatchResult result (λ x. reading ≡ Ok x) (λ fault. Fails fault reading)
