-- Which turns of its node have led to a place.
use Rattle.std.specs.List.{AllByRecursion}
use Rattle.std.specs.Prelude.{◌≡◌, ℕ, zero, suc, ◌==◌, cond, List, [], ◌∷◌, ◌++◌, Option, Some, None, slice_get}
use Rattle.script_grammar.specs.declared.grammar.FaultTarget.{FaultTarget}
use Rattle.raft_messages.specs.declared.message.RaftMessage.{RaftMessage}
use Rattle.raft_messages.specs.Messages.{message_fields, AllHold}
use Rattle.script_cluster.specs.Outcomes.{Outcome, Ending, Steps, Starts, Stops, Fails, Unreadable, Start, Turn, Does, Crashes}

-- the node at which it happened
abbrev pub actor : Turn → ℕ
actor (Does n doing aim outcome) = n
actor (Crashes n pick) = n

-- those at a node
abbrev pub turns_at : ℕ → List Turn → List Turn
turns_at n [] = []
turns_at n (turn ∷ turns) = cond (actor turn == n) (turn ∷ turns_at n turns) (turns_at n turns)

-- the messages that were said by it
abbrev pub messages_of : Ending → List RaftMessage
messages_of (Steps outs standing) = outs.messages
messages_of (Starts kept standing) = []
messages_of (Stops keeps) = []
messages_of (Fails keeps) = []
messages_of Unreadable = []

abbrev pub messages_in : Turn → List RaftMessage
messages_in (Does n doing aim outcome) = messages_of outcome.ending
messages_in (Crashes n pick) = []

-- The wire can hold the message: its numbers and sizes are of 64 bits.
abbrev pub CanHold : RaftMessage → Type 0
CanHold m = AllHold (message_fields m)

-- so each message that a step says
abbrev pub AllCanHold : List Turn → Type 0
AllCanHold [] = Unit {0}
AllCanHold (turn ∷ turns) = AllByRecursion CanHold (messages_in turn) × AllCanHold turns

-- These turns of the node of this number, in a cluster that was opened with this many voters, have led to this place.
abbrev pub Knowing : Type 0 → Type 1
Knowing P = P → ℕ → ℕ → List Turn → Type 0

-- nothing has happened there yet, whatever the node
abbrev pub IsNew : {P : Type 0} → Knowing P → P → Type 0
IsNew knows place = (node voters : ℕ) → knows place node voters []

-- whatever turns of a node led to the one place, with this one more they led to the other
abbrev pub LeadsOn : {P : Type 0} → Knowing P → P → P → (ℕ → Turn) → Type 0
LeadsOn knows old new turn = (node voters : ℕ) (turns : List Turn) → knows old node voters turns → knows new node voters (turns ++ turn node ∷ [])

-- so of a start, which tells the node and the voters
abbrev pub StartsOn : {P : Type 0} → Knowing P → P → P → ℕ → ℕ → FaultTarget → Outcome → Type 0
StartsOn knows old new node voters aim outcome =
    (turns : List Turn) → knows old node voters turns → knows new node voters (turns ++ Does node (Start voters) aim outcome ∷ [])

-- ---- all places

-- the place of a node; none has the number 0
abbrev pub node_at : {P : Type 0} → List P → ℕ → Option P
node_at places zero = None
node_at places (suc index) = slice_get places index

-- these turns of a node have led to its place; if it has none, there are none
abbrev pub KnowsAt : {P : Type 0} → Knowing P → ℕ → ℕ → List Turn → Option P → Type 0
KnowsAt knows voters node turns (Some place) = knows place node voters turns
KnowsAt knows voters node turns None = turns ≡ []

-- So each place has been led to by the turns of its node among these; and the wire can hold what they say.
abbrev pub AllKnow : {P : Type 0} → Knowing P → ℕ → List P → List Turn → Type 0
AllKnow knows voters places turns = ((node : ℕ) → KnowsAt knows voters node (turns_at node turns) (node_at places node)) × AllCanHold turns

-- what a node did after these turns, which isn't among them, led its place on
abbrev pub KnowsOver : {P : Type 0} → Knowing P → ℕ → List Turn → Option Turn → Type 0
KnowsOver knows voters turns None = Unit {0}
KnowsOver {P} knows voters turns (Some turn) = (place : P) × knows place (actor turn) voters (turns_at (actor turn) turns ++ turn ∷ [])

-- there are such places
pub record Told {P : Type 0} (knows : Knowing P) (turns : List Turn) (over : Option Turn) : Type 0 where
  pub voters : ℕ
  pub places : List P
  pub know : AllKnow knows voters places turns
  pub last : KnowsOver knows voters turns over

-- with it after them
abbrev pub with_over : List Turn → Option Turn → List Turn
with_over turns None = turns
with_over turns (Some turn) = turns ++ turn ∷ []

-- ---- the outcomes of turns

abbrev pub outcomes_of : Turn → List Outcome
outcomes_of (Does n doing aim outcome) = outcome ∷ []
outcomes_of (Crashes n pick) = []

abbrev pub outcomes_in : List Turn → List Outcome
outcomes_in [] = []
outcomes_in (turn ∷ turns) = outcomes_of turn ++ outcomes_in turns

abbrev pub outcomes_over : Option Turn → List Outcome
outcomes_over None = []
outcomes_over (Some turn) = outcomes_of turn
