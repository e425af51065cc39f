-- What a rule has made beside the node after it: what is said, to whom the log is sent, if the log has changed.
use Rattle.std.specs.Prelude.{◌≡◌, ℕ, ◌<◌, max, Option, Some, None, List, [], ◌∷◌, map}
use Rattle.raft_spec.specs.Log.{Entry, accept}
use Rattle.raft_spec.specs.Node as rules
use Rattle.raft_spec.specs.NodeValues.{NodeValue, node_of}
use Rattle.raft_spec.specs.Outcomes.{with_log}
use Rattle.raft_spec.specs.Todo.{Begins}
use Rattle.raft_core.specs.declared.effects.Say.{Say}
use Rattle.raft_core.specs.declared.effects.Say.TheVariants as says
use Rattle.raft_core.specs.declared.effects.Recipients.{Recipients}
use Rattle.raft_core.specs.declared.effects.Recipients.TheVariants as sent
use Rattle.raft_core.specs.declared.effects.LogChange.{LogChange}
use Rattle.raft_core.specs.declared.effects.LogChange.TheVariants as changes
use Rattle.raft_core.specs.declared.effects.Effects.{Effects}

-- a message of the node of this id in this term
abbrev pub message_in : ℕ → ℕ → ℕ → rules.What → rules.Message
message_in me term to what = record { from = me; to = to; term = term; what = what }

-- the messages that it says, if these are the other voters
abbrev pub said_in : ℕ → ℕ → List ℕ → Say → List rules.Message
said_in me term voters says.Nothing = []
said_in me term voters (says.AskVotes last transfer) = map (λ to. message_in me term to (rules.AskVote last transfer)) voters
said_in me term voters (says.Vote to granted) = message_in me term to (rules.Vote granted) ∷ []
said_in me term voters (says.Ack to good index) = message_in me term to (rules.Ack good index) ∷ []
said_in me term voters (says.TimeoutNow to) = message_in me term to rules.TimeoutNow ∷ []

-- the messages that a node says
abbrev pub said : NodeValue → Say → List rules.Message
said h say = said_in h.id h.term (rules.others (rules.voters h.servers) h.id) say

abbrev pub recipients_value : Recipients → rules.Recipients
recipients_value sent.Nobody = rules.Nobody
recipients_value sent.Everyone = rules.Everyone
recipients_value (sent.Only peer) = rules.Only (peer ∷ [])

-- the rules' outcome
abbrev pub outcome_of : NodeValue → Effects → rules.Outcome
outcome_of h e = record { node = node_of h; out = said h e.say; recipients = recipients_value e.recipients }

-- if the log of a node has changed in a step: nowhere, from the first index on at which it is another one, past the cut, or a snapshot is in its place
abbrev pub ChangesLog : rules.Node → rules.Node → LogChange → Type 0
ChangesLog s t changes.Nothing = (t.snapshot ≡ s.snapshot) × (t.log ≡ s.log)
ChangesLog s t (changes.From k) = (t.snapshot ≡ s.snapshot) × (t.base < k) × Begins s.commit s.log t.log k
ChangesLog s t (changes.Installed last) = (s.commit < t.snapshot.index) × (last ≡ t.snapshot)

-- a rule at a node has this outcome, and the code's node is then this one
pub record Does (h : NodeValue) (d : rules.Outcome) (now : NodeValue) (e : Effects) : Type 0 where
  pub id : now.id ≡ h.id
  pub servers : now.servers ≡ h.servers
  pub outcome : d ≡ outcome_of now e
  pub log : ChangesLog (node_of h) (node_of now) e.change

-- if the log changes that takes entries
abbrev pub change_from : Option ℕ → LogChange
change_from None = changes.Nothing
change_from (Some k) = changes.From k

-- A node has taken entries that follow a place of its log, and a commit index.
pub record Takes (h now : NodeValue) (place : ℕ) (coming : List Entry) (commit : ℕ) (change : LogChange) : Type 0 where
  pub id : now.id ≡ h.id
  pub servers : now.servers ≡ h.servers
  pub node : node_of now ≡ with_log (node_of h) (accept (node_of h).log place coming) (max h.commit commit)
  pub log : ChangesLog (node_of h) (node_of now) change
