-- Where the entries of logs come from.
use Rattle.std.specs.Prelude.{◌≡◌, ℕ, suc, ◌<◌, ◌≤◌, true, List, [], ◌∷◌, ◌++◌, length, take, drop, slice_get, Some}
use Rattle.raft_spec.specs.Log.{Entry, term_at}
use Rattle.raft_spec.specs.Node.{What, AskVote, Vote, Append, Ack, Install, TimeoutNow, Message, Leader, Node, Input, Local, Propose, is_leader}
use Rattle.raft_spec.specs.Outcomes.{barrier, with_term}
use Rattle.raft_spec.specs.Account.{steps}
use Rattle.raft_safety.specs.Members.{Setup, member_step}
use Rattle.raft_safety.specs.World.{World, Cause, Event, Acts, Stops, Crash, Start, inputs, run}
use Rattle.raft_safety.specs.Laws.{Leads, node_at, log_at, SameUpTo}
use Rattle.raft_safety.specs.Chosen.{actor, chosen}

-- what lets the node of an event make its steps
abbrev pub causes_of : Event → List Cause
causes_of (Acts n causes places) = causes
causes_of (Stops n causes acts applied base) = causes
causes_of (Crash n) = []
causes_of (Start n servers) = []

-- what the node of the event takes in, one step after another; a stopped event is one of its first steps and some acts
abbrev pub intake : World → Event → List Input
intake w e = inputs (actor e) w.messages (causes_of e)

-- the node of the event after its first k steps
abbrev pub midway : Setup → World → Event → ℕ → Node
midway setup w e k = steps (member_step setup (actor e)) (w.nodes (actor e)) (take k (intake w e))

-- In these events a running node led the term t after some step, and these entries were the front of its log.
pub record Led (setup : Setup) (events : List Event) (t : ℕ) (entries : List Entry) : Type 0 where
  pub first : List Event
  pub event : Event
  pub rest : List Event
  pub split : events ≡ first ++ event ∷ rest
  pub runs : ((run setup first).nodes (actor event)).up ≡ true
  pub steps : ℕ
  pub leads : (midway setup (run setup first) event steps).role ≡ Leader
  pub term : (midway setup (run setup first) event steps).term ≡ t
  pub within : length entries ≤ length (midway setup (run setup first) event steps).log
  pub has : take (length entries) (midway setup (run setup first) event steps).log ≡ entries

-- each entry of these, and all before it, was in the log of a leader of its term
abbrev pub AllLed : Setup → List Event → List Entry → Type 0
AllLed setup events entries = (i : ℕ) → 0 < i → i ≤ length entries → Led setup events (term_at entries i) (take i entries)

-- so at every node
abbrev pub EntriesLed : Type 0
EntriesLed = (setup : Setup) (events : List Event) (n : ℕ) → AllLed setup events (log_at setup events n)

-- what a message brings, and all before it, was in the log of a leader of its term
abbrev pub WhatLed : Setup → List Event → What → Type 0
WhatLed setup events (AskVote last transfer) = Unit {0}
WhatLed setup events (Vote granted) = Unit {0}
WhatLed setup events (Append prev commit entries) = (log : List Entry) × (drop prev.index log ≡ entries) × AllLed setup events log
WhatLed setup events (Ack good index) = Unit {0}
WhatLed setup events (Install last front) = AllLed setup events front
WhatLed setup events TimeoutNow = Unit {0}

-- and in every message: those of an Append are the end of such a log, a snapshot's front is one
abbrev pub MessagesLed : Type 0
MessagesLed =
    (setup : Setup) (events : List Event) (k : ℕ) (m : Message) → slice_get (run setup events).messages k ≡ Some m →
    WhatLed setup events m.what

-- A step after which a node leads leaves its log as it was, or adds its own entries at the end: a barrier, or what is proposed.
pub data Adds (s : Node) (i : Input) (d : Node) : Type 0 where
  nothing_new : d.log ≡ s.log → Adds s i d
  a_barrier : d.log ≡ s.log ++ barrier d.term ∷ [] → Adds s i d
  proposed : (new : List Entry) → i ≡ Local (Propose new) → is_leader s.role ≡ true → d.term ≡ s.term → d.log ≡ s.log ++ with_term d.term new → Adds s i d

-- the same holds for each step of each node
abbrev pub LeadersAdd : Type 0
LeadersAdd =
    (setup : Setup) (n : ℕ) (s : Node) (i : Input) → s.snapshot.index ≤ length s.log → is_leader (member_step setup n s i).node.role ≡ true →
    Adds s i (member_step setup n s i).node

-- at two moments at which a node leads one term, its log at the later one begins with the log at the earlier one
abbrev pub LeadersKeep : Type 0
LeadersKeep =
    (setup : Setup) (events more : List Event) (n m t : ℕ) → Leads setup events n t → Leads setup (events ++ more) m t →
    take (length (log_at setup events n)) (log_at setup (events ++ more) m) ≡ log_at setup events n

-- a message's snapshot represents a front of these entries
abbrev pub WhatFront : List Entry → What → Type 0
WhatFront c (Install last front) = (last.index ≤ length c) × (front ≡ take last.index c)
WhatFront c (AskVote last transfer) = Unit {0}
WhatFront c (Vote granted) = Unit {0}
WhatFront c (Append prev commit entries) = Unit {0}
WhatFront c (Ack good index) = Unit {0}
WhatFront c TimeoutNow = Unit {0}

-- each kept snapshot, and each in a message, represents that very front of the chosen entries
abbrev pub SnapshotFronts : Type 0
SnapshotFronts =
    (setup : Setup) (events : List Event) →
    ((n : ℕ) → SameUpTo (node_at setup events n).snapshot.index (log_at setup events n) (chosen setup events))
    × ((k : ℕ) (m : Message) → slice_get (run setup events).messages k ≡ Some m → WhatFront (chosen setup events) m.what)

-- in the midst of an event too, each step keeps what the node had applied
abbrev pub AppliedKept : Type 0
AppliedKept =
    (setup : Setup) (events : List Event) (e : Event) (k : ℕ) →
    let s = midway setup (run setup events) e k in let t = midway setup (run setup events) e (suc k) in (s.commit ≤ t.commit) × SameUpTo s.commit s.log t.log
