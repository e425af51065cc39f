-- What an act of clients says, what it gives Raft to propose, and what it hands to a reader.
use Rattle.std.specs.Prelude.{ℕ, List, [], ◌∷◌, map}
use Rattle.raft_spec.specs.Log.{Entry}
use Rattle.session_spec.specs.Sessions.{Job}
use Rattle.client_sessions.specs.declared.act.Act.{Act}
use Rattle.client_sessions.specs.declared.act.Act.TheVariants.{Reply, Propose, Lend, Transfer, Peer}

-- the messages that go to clients, each with its connection
abbrev pub messages_by : Act → List (ℕ × List ℕ)
messages_by (Reply conn messages) = map (λ (message : List ℕ). (conn, message)) messages
messages_by (Propose conn entries) = []
messages_by (Lend conn job) = []
messages_by (Transfer conn to reply) = (conn, reply) ∷ []
messages_by (Peer conn id reply) = (conn, reply) ∷ []

-- the proposal, if it is one
abbrev pub proposals_by : Act → List (List Entry)
proposals_by (Reply conn messages) = []
proposals_by (Propose conn entries) = entries ∷ []
proposals_by (Lend conn job) = []
proposals_by (Transfer conn to reply) = []
proposals_by (Peer conn id reply) = []

-- the job that goes to a reader, with its connection, if it is one
abbrev pub jobs_by : Act → List (ℕ × Job)
jobs_by (Reply conn messages) = []
jobs_by (Propose conn entries) = []
jobs_by (Lend conn job) = (conn, job) ∷ []
jobs_by (Transfer conn to reply) = []
jobs_by (Peer conn id reply) = []
