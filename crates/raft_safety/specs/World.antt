-- All nodes, every message ever made, and what may happen.
use Rattle.std.specs.Prelude.{ℕ, true, false, cond, ◌==◌, Option, Some, None, List, [], ◌∷◌, ◌++◌, take, slice_get}
use Rattle.raft_spec.specs.Node.{Message, Node, Server, LocalEvent, Input, Local, Receive}
use Rattle.raft_spec.specs.Account.{Stored, stored_of, enacted, steps, said, account, loaded, older, fresh}
use Rattle.raft_safety.specs.Members.{Setup, member_step}

-- the nodes by their ids, and every message ever made, in order
pub record World : Type 0 where
  pub nodes : ℕ → Node
  pub messages : List Message

-- why a node makes a step: of itself, or for a message, by its number
pub data Cause : Type 0 where
  Does : (local : LocalEvent) → Cause
  Takes : (message : ℕ) → Cause

-- a loss is a message that nobody takes
pub data Event : Type 0 where
  -- a running node makes these steps, one after another; of what they say it says these, by their places
  Acts : (node : ℕ) (causes : List Cause) (places : List ℕ) → Event
  -- a stop or a failing disk call among these steps: this many acts of their account stand, nothing is said, and the node is down.
  -- It may have applied less, if a later step was made before all was applied, and its log may begin earlier than it kept.
  -- At a node that is down nothing stands: a start that is stopped
  Stops : (node : ℕ) (causes : List Cause) (acts applied base : ℕ) → Event
  Crash : (node : ℕ) → Event
  Start : (node : ℕ) (servers : List Server) → Event

-- a message is taken in by the node that it is for
abbrev pub taken : ℕ → Option Message → List Input
taken n None = []
taken n (Some m) = cond (m.to == n) (Receive m ∷ []) []

-- what the node takes in: a message that isn't there, or is for another, is nothing
abbrev pub inputs : ℕ → List Message → List Cause → List Input
inputs n ms [] = []
inputs n ms (Does local ∷ cs) = Local local ∷ inputs n ms cs
inputs n ms (Takes k ∷ cs) = taken n (slice_get ms k) ++ inputs n ms cs

-- the message, if it is there
abbrev pub one_of : Option Message → List Message
one_of None = []
one_of (Some m) = m ∷ []

-- those at these places, in this order
abbrev pub picked : List Message → List ℕ → List Message
picked ms [] = []
picked ms (k ∷ ks) = one_of (slice_get ms k) ++ picked ms ks

-- one node is in this state now, and these messages were made
unfoldable pub put : World → ℕ → Node → List Message → World
put w n s out = record { nodes = λ k. cond (k == n) s (w.nodes k); messages = w.messages ++ out }

-- the node after its steps, and what they say
abbrev pub after : Setup → World → ℕ → List Cause → Node
after setup w n causes = steps (member_step setup n) (w.nodes n) (inputs n w.messages causes)

-- what these steps say
abbrev pub outs : Setup → World → ℕ → List Cause → List Message
outs setup w n causes = said (member_step setup n) (w.nodes n) (inputs n w.messages causes)

-- what the node has stored and applied after this many acts
abbrev pub stopped : Setup → World → ℕ → List Cause → ℕ → Stored
stopped setup w n causes acts = cond (w.nodes n).up
    (enacted (stored_of (w.nodes n)) (take acts (account (member_step setup n) (w.nodes n) (inputs n w.messages causes))))
    (stored_of (w.nodes n))

-- the world after an event: what a node that is down can not do changes nothing
abbrev pub happens : Setup → World → Event → World
happens setup w (Acts n causes places) = cond (w.nodes n).up (put w n (after setup w n causes) (picked (outs setup w n causes) places)) w
happens setup w (Stops n causes acts applied base) = put w n (loaded false [] (older base (stopped setup w n causes acts))) []
happens setup w (Crash n) = put w n (loaded false [] (stored_of (w.nodes n))) []
happens setup w (Start n servers) = cond (w.nodes n).up w (put w n (loaded true servers (stored_of (w.nodes n))) [])

-- all nodes are up, have kept nothing, and were told the opening configuration
abbrev pub start : Setup → World
start setup = record { nodes = λ n. fresh setup.opening; messages = [] }

-- the world after these events, from another one on
abbrev pub run_from : Setup → World → List Event → World
run_from setup w [] = w
run_from setup w (e ∷ events) = run_from setup (happens setup w e) events

-- the world after these events
unfoldable pub run : Setup → List Event → World
run setup events = run_from setup (start setup) events
