-- How a line of a script is encoded.
use Rattle.std.specs.Prelude.{◌≡◌, ◌<◌, ◌≤◌, ◌+◌, ◌^◌, ◌/◌, ◌%◌, ◌⊎◌, ◌++◌, ⊤, ℕ, List, [], ◌∷◌, length, slice_index, codes, true}
use Rattle.std.specs.List.{AllByRecursion}
use Rattle.std.specs.Fmt.{decimal}
use Rattle.script_grammar.specs.ScriptSize.{line_limit}
use Rattle.script_grammar.specs.Events.{may_be_aimed}
use Rattle.script_grammar.specs.declared.events.Event.{Event}
use Rattle.script_grammar.specs.declared.events.Event.TheVariants.{Timeout, Beat, Connect, Bytes, Hangup, Deliver, Settle, Crash, Start, Put, Take}
use Rattle.script_grammar.specs.declared.grammar.FaultTarget.{FaultTarget}
use Rattle.script_grammar.specs.declared.grammar.FaultTarget.TheVariants.{Nothing, Stop, Fail}
use Rattle.script_grammar.specs.declared.grammar.ScriptLine.{ScriptLine}
use Rattle.script_grammar.specs.declared.grammar.ScriptLine.TheVariants as says

-- the digit represents a number below 16, in either case
abbrev pub IsHexDigit : ℕ → ℕ → Type 0
IsHexDigit digit value =
    (value < 16) × ((digit ≡ slice_index (codes "0123456789abcdef") value) ⊎ (digit ≡ slice_index (codes "0123456789ABCDEF") value))

-- two digits for each byte, the high four bits first
abbrev pub AreHex : List ℕ → List ℕ → Type 0
AreHex [] [] = ⊤
AreHex (high ∷ low ∷ digits) (byte ∷ bytes) = IsHexDigit high (byte / 16) × IsHexDigit low (byte % 16) × AreHex digits bytes
AreHex digits bytes = ⊥

-- a word with the space after it, and a number below 2 ^ 32 in decimal
pub record IsNumbered (word : List ℕ) (number : ℕ) (text : List ℕ) : Type 0 where
  pub in_range : number < 2 ^ 32
  pub parts : text ≡ word ++ decimal number

-- a word with the space after it, and a number that is in a range
pub record IsCounted (least most : ℕ) (word : List ℕ) (number : ℕ) (text : List ℕ) : Type 0 where
  pub at_least : least ≤ number
  pub at_most : number ≤ most
  pub numbered : IsNumbered word number text

-- a word with the space after it, and two numbers with a space between, the second of which may be left out where it is 0
pub record IsPaired (word : List ℕ) (first second : ℕ) (text : List ℕ) : Type 0 where
  pub first_in_range : first < 2 ^ 32
  pub second_in_range : second < 2 ^ 32
  pub parts : ((second ≡ 0) × (text ≡ word ++ decimal first)) ⊎ (text ≡ word ++ (decimal first ++ (codes " " ++ decimal second)))

-- `connect N C`
pub record IsConnect (node connection : ℕ) (text : List ℕ) : Type 0 where
  pub node_in_range : node < 2 ^ 32
  pub connection_in_range : connection < 2 ^ 32
  pub parts : text ≡ codes "connect " ++ (decimal node ++ (codes " " ++ decimal connection))

-- `bytes C HEX`, with at least one byte
pub record IsBytes (connection : ℕ) (bytes text : List ℕ) : Type 0 where
  pub digits : List ℕ
  pub in_range : connection < 2 ^ 32
  pub some : 0 < length bytes
  pub hex : AreHex digits bytes
  pub parts : text ≡ codes "bytes " ++ (decimal connection ++ (codes " " ++ digits))

-- `put HEX`, with at least one byte
pub record IsPut (bytes text : List ℕ) : Type 0 where
  pub digits : List ℕ
  pub some : 0 < length bytes
  pub hex : AreHex digits bytes
  pub parts : text ≡ codes "put " ++ digits

-- the text of an event
abbrev pub IsEvent : Event → List ℕ → Type 0
IsEvent (Timeout node) text = IsNumbered (codes "timeout ") node text
IsEvent (Beat node) text = IsNumbered (codes "beat ") node text
IsEvent (Connect node connection) text = IsConnect node connection text
IsEvent (Bytes connection bytes) text = IsBytes connection bytes text
IsEvent (Hangup connection) text = IsNumbered (codes "hangup ") connection text
IsEvent (Deliver message) text = IsNumbered (codes "deliver ") message text
IsEvent (Settle count) text = IsCounted 1 10000 (codes "settle ") count text
IsEvent (Crash node pick) text = IsPaired (codes "crash ") node pick text
IsEvent (Start node) text = IsNumbered (codes "start ") node text
IsEvent (Put bytes) text = IsPut bytes text
IsEvent (Take machine) text = IsNumbered (codes "take ") machine text

-- `stop K P EVENT`
pub record IsStop (call pick : ℕ) (event : Event) (text : List ℕ) : Type 0 where
  pub rest : List ℕ
  pub first : 1 ≤ call
  pub call_in_range : call < 2 ^ 32
  pub pick_in_range : pick < 2 ^ 32
  pub may : may_be_aimed event ≡ true
  pub spelled : IsEvent event rest
  pub parts : text ≡ codes "stop " ++ (decimal call ++ (codes " " ++ (decimal pick ++ (codes " " ++ rest))))

-- `fail K EVENT`
pub record IsFail (call : ℕ) (event : Event) (text : List ℕ) : Type 0 where
  pub rest : List ℕ
  pub first : 1 ≤ call
  pub call_in_range : call < 2 ^ 32
  pub may : may_be_aimed event ≡ true
  pub spelled : IsEvent event rest
  pub parts : text ≡ codes "fail " ++ (decimal call ++ (codes " " ++ rest))

-- the text of an event under an aim
abbrev pub IsAimed : FaultTarget → Event → List ℕ → Type 0
IsAimed Nothing event text = IsEvent event text
IsAimed (Stop call pick) event text = IsStop call pick event text
IsAimed (Fail call) event text = IsFail call event text

-- `nodes V` and `nodes V S`
pub record IsNodes (voters spare : ℕ) (text : List ℕ) : Type 0 where
  pub some : 1 ≤ voters
  pub few : voters ≤ 7
  pub all : voters + spare ≤ 9
  pub paired : IsPaired (codes "nodes ") voters spare text

-- an empty text, or a comment
abbrev pub IsNothing : List ℕ → Type 0
IsNothing text = (text ≡ []) ⊎ ((comment : List ℕ) × (text ≡ codes "#" ++ comment))

-- the text of a line
abbrev pub IsLineText : ScriptLine → List ℕ → Type 0
IsLineText says.Blank text = IsNothing text
IsLineText (says.Nodes voters spare) text = IsNodes voters spare text
IsLineText (says.Pages machines) text = IsCounted 1 9 (codes "pages ") machines text
IsLineText (says.Show number) text = IsNumbered (codes "show ") number text
IsLineText (says.Event event aim) text = IsAimed aim event text

-- The bytes encode the line: they are its text, in ASCII, and no more than a line may have. That no LF is among them is in
-- how a script is split into lines.
pub record Spells (line : ScriptLine) (bytes : List ℕ) : Type 0 where
  pub short : length bytes ≤ line_limit
  pub ascii : AllByRecursion (λ b. b < 128) bytes
  pub text : IsLineText line bytes
