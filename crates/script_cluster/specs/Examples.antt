-- Small scripts with what came of their events, computed: two candidates of one term; a node whose start is stopped; connections that
-- close with their node; a message that arrives at a node that is down.
use Rattle.std.specs.Prelude.{◌≡◌, ℕ, true, false, List, [], ◌∷◌, Some}
use Rattle.raft_spec.specs.Node.{Role, Leader, Candidate, Follower}
use Rattle.raft_core.specs.declared.role.RaftRole.TheVariants as roles
use Rattle.raft_messages.specs.declared.message.RaftMessage.{RaftMessage}
use Rattle.raft_messages.specs.declared.message.MessageBody.{MessageBody}
use Rattle.raft_messages.specs.declared.message.MessageBody.TheVariants as whats
use Rattle.store_laws.specs.Store.{Kept, no_snap}
use Rattle.file_digest.specs.Digest.{digest}
use Rattle.script_grammar.specs.declared.events.Event.{Event}
use Rattle.script_grammar.specs.declared.events.Event.TheVariants as event
use Rattle.script_grammar.specs.declared.grammar.FaultTarget.{FaultTarget}
use Rattle.script_grammar.specs.declared.grammar.FaultTarget.TheVariants.{Nothing, Stop, Fail}
use Rattle.script_cluster.specs.declared.cluster_line.ClusterLine.TheVariants as says
use Rattle.script_cluster.specs.declared.cluster_line.MessageKind.TheVariants as kinds
use Rattle.script_cluster.specs.declared.cluster_line.DownCause.TheVariants as causes
use Rattle.script_cluster.specs.Outcomes.{Standing, Steps, Starts, Stops, Fails, Outcome, Met, Loaded}
use Rattle.script_cluster.specs.World.{World, NotThere, Went, quiet, then_on, takes, opened, all_shown}

-- ---- scripts

-- the world after these lines
abbrev pub all_take : List (Event × FaultTarget) → World → Went
all_take [] w = quiet w
all_take (line ∷ lines) w = then_on (all_take lines) (takes w line.0 line.1)

-- this many voters and these lines, with what came of them
abbrev pub plays : ℕ → List (Event × FaultTarget) → List Outcome → Went
plays voters lines outcomes = then_on (all_take lines) (opened voters 0 outcomes)

abbrev pub line : Event → Event × FaultTarget
line e = (e, Nothing)

-- ---- what comes of events

abbrev pub stands : ℕ → Role → ℕ → Standing
stands term role applied = record { term = term; role = role; applied = applied; databases = [] }

-- a step that says these messages to other nodes, and no more
abbrev pub sends : List RaftMessage → Standing → Outcome
sends messages standing = record { answers = []; ending = Steps (record { replies = []; closed = []; messages = messages }) standing }

abbrev pub kept_in_term : ℕ → ℕ → Kept
kept_in_term term vote = record { term = term; vote = vote; snap = no_snap; log = record { first = 1; entries = [] } }

-- a start over what was kept of a node that has applied nothing
abbrev pub started : ℕ → ℕ → Outcome
started term vote = record { answers = []; ending = Starts (kept_in_term term vote) (stands term Follower 0) }

abbrev pub message : ℕ → ℕ → MessageBody → RaftMessage
message from to what = record { from = from; to = to; term = 1; what = what }

abbrev pub ask : ℕ → ℕ → RaftMessage
ask from to = message from to (whats.AskVote (record { index = 0; term = 0 }) false)

-- ---- two candidates

unfoldable pub candidates : Went
candidates =
    plays 3
    (line (event.Timeout 1) ∷ line (event.Timeout 2) ∷ line (event.Deliver 2) ∷ line (event.Deliver 4) ∷ [])
    (started 0 0 ∷ started 0 0 ∷ started 0 0
    ∷ sends (ask 1 2 ∷ ask 1 3 ∷ []) (stands 1 Candidate 0)
    ∷ sends (ask 2 1 ∷ ask 2 3 ∷ []) (stands 1 Candidate 0)
    ∷ sends (message 3 1 (whats.Vote true) ∷ []) (stands 1 Follower 0)
    ∷ sends (message 3 2 (whats.Vote false) ∷ []) (stands 1 Follower 0)
    ∷ [])

abbrev pub CandidatesSay : Type 0
CandidatesSay =
    candidates.said
    ≡ says.Message 1 1 2 kinds.AskVote ∷ says.Message 2 1 3 kinds.AskVote ∷ says.Message 3 2 1 kinds.AskVote ∷ says.Message 4 2 3 kinds.AskVote
    ∷ says.Message 5 3 1 kinds.Vote ∷ says.Message 6 3 2 kinds.Vote ∷ []

abbrev pub CandidatesStand : Type 0
CandidatesStand = all_shown candidates.world ≡ says.Node 1 1 roles.Candidate 0 (digest []) ∷ says.Node 2 1 roles.Candidate 0 (digest [])
    ∷ says.Node 3 1 roles.Follower 0 (digest []) ∷ []

-- ---- a start that is stopped at its first disk call, and the next one

unfoldable pub stopped : Went
stopped =
    plays 1
    (line (event.Timeout 1) ∷ line (event.Crash 1 0) ∷ (event.Start 1, Stop 1 0) ∷ line (event.Timeout 1) ∷ line (event.Start 1) ∷ [])
    (started 0 0 ∷ sends [] (stands 1 Leader 1) ∷ record { answers = []; ending = Stops 0 } ∷ started 1 1 ∷ [])

abbrev pub StoppedSays : Type 0
StoppedSays = stopped.said ≡ says.Stopped 1 ∷ []

abbrev pub StoppedStands : Type 0
StoppedStands = all_shown stopped.world ≡ says.Node 1 1 roles.Follower 0 (digest []) ∷ []

-- how the call was met, and what the start after it loaded
abbrev pub StoppedNotes : Type 0
StoppedNotes = stopped.world.journal ≡ Met (Some 0) ∷ Loaded (kept_in_term 1 1) ∷ []

-- ---- connections close with their node, ascending; a message to it is lost; the next line names a node that isn't there

unfoldable pub closing : Went
closing =
    plays 2
    (line (event.Connect 1 7) ∷ line (event.Connect 2 4) ∷ line (event.Connect 1 3) ∷ line (event.Timeout 2) ∷ (event.Beat 1, Fail 2)
    ∷ line (event.Connect 1 5) ∷ line (event.Settle 9) ∷ line (event.Crash 3 0) ∷ line (event.Crash 2 0) ∷ [])
    (started 0 0 ∷ started 0 0 ∷ sends [] (stands 0 Follower 0) ∷ sends [] (stands 0 Follower 0) ∷ sends [] (stands 0 Follower 0)
    ∷ sends (ask 2 1 ∷ []) (stands 1 Candidate 0)
    ∷ record { answers = []; ending = Fails 1 }
    ∷ [])

abbrev pub ClosingSays : Type 0
ClosingSays = closing.said ≡ says.Message 1 2 1 kinds.AskVote ∷ says.Closed 3 4 ∷ says.Closed 7 4 ∷ says.Down 1 causes.DiskFault ∷ says.Closed 5 4 ∷ []

abbrev pub ClosingNotes : Type 0
ClosingNotes = closing.world.journal ≡ Met (Some 1) ∷ []

abbrev pub ClosingHalts : Type 0
ClosingHalts = closing.halt ≡ Some NotThere

-- seven events: the message that was lost counts, and the line that names no node does not
abbrev pub ClosingCounts : Type 0
ClosingCounts = closing.world.usage.events ≡ 7
