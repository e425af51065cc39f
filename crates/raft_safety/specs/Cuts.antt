-- The code's nodes, which have cut their logs, make the steps of the nodes of the world, which have not.
use Rattle.std.specs.Prelude.{◌≡◌, ℕ, true, List, [], ◌∷◌, ◌++◌, length, drop}
use Rattle.raft_spec.specs.Log.{Entry, term_at}
use Rattle.raft_spec.specs.Node.{Server, What, AskVote, Vote, Append, Ack, Install, TimeoutNow, Message, Node, voters, Timeout, Beat, Yield, Propose, Transfer, Snapped, UseServers, Input, Local, Receive}
use Rattle.raft_spec.specs.Outcomes.{with_term}
use Rattle.raft_spec.specs.Account.{steps, said}
use Rattle.raft_spec.specs.Compaction.{with_whole_log, compact, compacted_step}
use Rattle.raft_safety.specs.Members.{fixed, Setup, voters_after, may_take, member_step}
use Rattle.raft_safety.specs.World.{Cause, Event, inputs, run}

-- the same past the cut at b, and the same term at the snapshot's end i
pub record Same (b i : ℕ) (xs ys : List Entry) : Type 0 where
  pub len : length xs ≡ length ys
  pub rest : drop b xs ≡ drop b ys
  pub snapshot : term_at xs i ≡ term_at ys i

-- a node, and one that is the same except for the entries that are compacted
pub record Twin (s v : Node) : Type 0 where
  pub log : List Entry
  pub node : v ≡ with_whole_log s log
  pub same : Same s.base s.snapshot.index s.log log

-- two messages that differ at most in the front that a snapshot represents
abbrev pub AlikeWhat : What → What → Type 0
AlikeWhat (Install last front) w = (front' : List Entry) × (w ≡ Install last front') × Same last.index last.index front front'
AlikeWhat (AskVote last transfer) w = w ≡ AskVote last transfer
AlikeWhat (Vote granted) w = w ≡ Vote granted
AlikeWhat (Append prev commit entries) w = w ≡ Append prev commit entries
AlikeWhat (Ack good index) w = w ≡ Ack good index
AlikeWhat TimeoutNow w = w ≡ TimeoutNow

-- so of messages with sender, receiver and term
pub record AlikeMessage (m k : Message) : Type 0 where
  pub from : k.from ≡ m.from
  pub to : k.to ≡ m.to
  pub term : k.term ≡ m.term
  pub what : AlikeWhat m.what k.what

-- so of lists of messages, one by one
abbrev pub AlikeAll : List Message → List Message → Type 0
AlikeAll [] ks = ks ≡ []
AlikeAll (m ∷ ms) ks = (k : Message) × (rest : List Message) × (ks ≡ k ∷ rest) × AlikeMessage m k × AlikeAll ms rest

-- so of what a step takes in
abbrev pub AlikeInput : Input → Input → Type 0
AlikeInput (Local local) j = j ≡ Local local
AlikeInput (Receive m) j = (w : What) × (j ≡ Receive (record { from = m.from; to = m.to; term = m.term; what = w })) × AlikeWhat m.what w

-- and of several, one by one
abbrev pub AlikeInputs : List Input → List Input → Type 0
AlikeInputs [] js = js ≡ []
AlikeInputs (i ∷ is) js = (j : Input) × (rest : List Input) × (js ≡ j ∷ rest) × AlikeInput i j × AlikeInputs is rest

-- the voters that the node was given are those of its log: before a proposal, those that it will give; when it is given others, none
abbrev pub ToldAt : Setup → Node → Input → Type 0
ToldAt setup s (Local (UseServers servers)) = Unit {0}
ToldAt setup s (Local (Propose es)) = voters s.servers ≡ voters_after setup (s.log ++ with_term s.term es)
ToldAt setup s (Local Timeout) = voters s.servers ≡ voters_after setup s.log
ToldAt setup s (Local Beat) = voters s.servers ≡ voters_after setup s.log
ToldAt setup s (Local Yield) = voters s.servers ≡ voters_after setup s.log
ToldAt setup s (Local (Transfer to)) = voters s.servers ≡ voters_after setup s.log
ToldAt setup s (Local (Snapped i)) = voters s.servers ≡ voters_after setup s.log
ToldAt setup s (Receive m) = voters s.servers ≡ voters_after setup s.log

-- this holds at each of these steps, and each may be made
abbrev pub Told : Setup → ℕ → Node → List Input → Type 0
Told setup n s [] = Unit {0}
Told setup n s (i ∷ is) = (may_take setup s i ≡ true) × ToldAt setup s i × Told setup n (member_step setup n s i).node is

-- a node of a run and what it hasn't compacted are twins
abbrev pub ForgetsNothing : Type 0
ForgetsNothing = (setup : Setup) (events : List Event) (n : ℕ) → Twin ((run setup events).nodes n) (compact ((run setup events).nodes n))

-- the steps of an event at a node and at its twin leave twins, and say the same except for what snapshots stand
-- for
abbrev pub CutSteps : Type 0
CutSteps =
    (setup : Setup) (events : List Event) (n : ℕ) (causes : List Cause) (v : Node) (js : List Input) → Twin ((run setup events).nodes n) v →
    AlikeInputs (inputs n (run setup events).messages causes) js →
    Told setup n ((run setup events).nodes n) (inputs n (run setup events).messages causes) →
    Twin (steps (member_step setup n) ((run setup events).nodes n) (inputs n (run setup events).messages causes)) (steps (compacted_step n) v js)
    × AlikeAll (said (member_step setup n) ((run setup events).nodes n) (inputs n (run setup events).messages causes)) (said (compacted_step n) v js)

-- the inputs name no other voters
abbrev pub SameVoters : List ℕ → List Input → Type 0
SameVoters ids [] = Unit {0}
SameVoters ids (Local (UseServers servers) ∷ is) = (voters servers ≡ ids) × SameVoters ids is
SameVoters ids (Local Timeout ∷ is) = SameVoters ids is
SameVoters ids (Local Beat ∷ is) = SameVoters ids is
SameVoters ids (Local Yield ∷ is) = SameVoters ids is
SameVoters ids (Local (Propose es) ∷ is) = SameVoters ids is
SameVoters ids (Local (Transfer to) ∷ is) = SameVoters ids is
SameVoters ids (Local (Snapped i) ∷ is) = SameVoters ids is
SameVoters ids (Receive m ∷ is) = SameVoters ids is

-- with fixed voters, a node that was told them, and is given no others, was told as each step needs it; and it still was after the steps
abbrev pub FixedTold : Type 0
FixedTold =
    (servers : List Server) (n : ℕ) (s : Node) (is : List Input) → voters s.servers ≡ voters servers → SameVoters (voters servers) is →
    Told (fixed servers) n s is × (voters (steps (member_step (fixed servers) n) s is).servers ≡ voters servers)
