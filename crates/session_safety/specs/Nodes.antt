-- A node since it was started, as its sessions see it, and what its replies rest on.
use Rattle.std.specs.Prelude.{ℕ, Bool, false, List, [], length, take, Option}
use Rattle.sql_engine.specs.declared.answer.StatementResult.{StatementResult}
use Rattle.sql_engine.specs.Replies.{Statement}
use Rattle.raft_spec.specs.Node.{Server}
use Rattle.session_spec.specs.Entries.{Entry}
use Rattle.session_spec.specs.Machine.{Machine, files}
use Rattle.session_spec.specs.Sessions.{Reply, Gateway, View, no_sessions}

-- What rows rest on: the database, the index of the image that was used, the statements of the open transaction before
-- (none outside one), the statement, the engine's answer to it, and what its connection had seen before.
pub record Query : Type 0 where
  pub name : List ℕ
  pub at : ℕ
  pub before : List Statement
  pub statement : Statement
  pub answer : StatementResult
  pub seen : ℕ

-- An answered commit: its entries from first to last, of this term, and the statements that it represents.
pub record Commit : Type 0 where
  pub name : List ℕ
  pub first : ℕ
  pub last : ℕ
  pub term : ℕ
  pub statements : List Statement

-- A reply that was said, with the query or the commit that it rests on, if any, and the database that was opened by an entry,
-- if one was. If it waited for a proposal, `index` is that of the proposal's last entry and `term` the proposal's; else the
-- index is 0.
pub record Said : Type 0 where
  pub conn : ℕ
  pub reply : Reply
  pub query : Option Query
  pub commit : Option Commit
  pub opened : Option (List ℕ)
  pub index : ℕ
  pub term : ℕ

-- Of a connection: the greatest index that one of its answers used or one of its answered commits has; the applied index
-- when its transaction began, or else when its last statement ran; and the statements of its open transaction that were not
-- refused, or else those of its last request.
pub record Trail : Type 0 where
  pub seen : ℕ
  pub at : ℕ
  pub ran : List Statement

-- A node: its term; whether it leads, and serves; its log, and up to where it has applied it; its sessions, what is to be
-- known of each connection, and all replies so far.
pub record Node : Type 0 where
  pub term : ℕ
  pub leads : Bool
  pub serving : Bool
  pub log : List Entry
  pub applied : ℕ
  pub gate : Gateway
  pub trail : ℕ → Trail
  pub said : List Said

-- what else a node is at a moment: who it is, the leader that it knows, the servers, its peer connections and readers, who is even
-- with it and who is near
pub record Standing : Type 0 where
  pub id : ℕ
  pub leader : Option ℕ
  pub servers : List Server
  pub links : Bool
  pub readers : Bool
  pub even : List ℕ
  pub near : List ℕ

-- the databases of a node: those of the entries that it has applied
abbrev pub databases : Node → Machine
databases w = files (take w.applied w.log)

-- a node as its sessions see it
abbrev pub view_of : Node → Standing → View
view_of w standing = record {
  id = standing.id;
  leader = standing.leader;
  serving = w.serving;
  term = w.term;
  last = length w.log;
  servers = standing.servers;
  links = standing.links;
  readers = standing.readers;
  even = standing.even;
  near = standing.near;
}

abbrev pub unseen : Trail
unseen = record { seen = 0; at = 0; ran = [] }

-- a node that was started over a log, of which it had applied so much
abbrev pub started : List Entry → ℕ → ℕ → Node
started log applied term = record { term = term; leads = false; serving = false; log = log; applied = applied; gate = no_sessions; trail = λ conn. unseen; said = [] }

-- the entries that a node has applied
abbrev pub applied_entries : Node → List Entry
applied_entries w = take w.applied w.log
