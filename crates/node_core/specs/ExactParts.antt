-- What the parts of a turn lead to, exactly: an entry that is applied, a query that is run, a client's message, an own snapshot.
use Rattle.std.specs.Prelude.{◌≡◌, ◌⊎◌, ℕ, Bool, true, false, List, [], ◌∷◌, ◌++◌, map, Option, Some, None}
use Rattle.wire_msgs.specs.Reading.{request_of}
use Rattle.sql_engine.specs.declared.kind.EngineKind.{EngineKind}
use Rattle.sql_engine.specs.Meanings.{Meaning, Told}
use Rattle.session_statements.specs.Running.{TellsAll}
use Rattle.session_spec.specs.Engines.{Answer}
use Rattle.session_spec.specs.Entries.{Content}
use Rattle.session_spec.specs.Seen.{entry_seen}
use Rattle.session_spec.specs.Sessions.{later_query}
use Rattle.client_connection.specs.declared.connection.CloseReason.{CloseReason}
use Rattle.client_sessions.specs.declared.act.Act.{Act}
use Rattle.client_sessions.specs.declared.act.Act.TheVariants as acts
use Rattle.client_sessions.specs.Clients.{Offer, closing}
use Rattle.raft_spec.specs.Log.{Entry}
use Rattle.raft_core.specs.declared.event.RaftEvent.TheVariants as due
use Rattle.applied_state.specs.Content.{effect_of}
use Rattle.applied_state.specs.declared.effect.AppliedEffect.{AppliedEffect}
use Rattle.node_core.specs.Core.{Core, shown, entered, entry_at, giving, taking, idle, gone}
use Rattle.node_core.specs.Exact.{ExactMessage, ExactWaitingQuery, MayCompact, ExactCompaction}

-- It is so by these answers, which the engine told between two moments.
pub record Answered (told_before told_now : Option Told) (By : List Answer → Type 0) : Type 0 where
  pub answers : List Answer
  pub told : TellsAll answers told_before told_now
  pub by : By answers

-- ---- an entry

-- The next entry of the log was taken, this is told of it, and it made this of the node.
pub record ExactTake (makes : Content → Core → Core) (w v : Core) (effect : AppliedEffect) : Type 0 where
  pub entry : Entry
  pub is : entry_at w ≡ Some entry
  pub told : effect ≡ effect_of (entry_seen entry).content
  pub by : v ≡ makes (entry_seen entry).content w

-- it is applied, and sessions see the servers that are applied
abbrev pub entered_shown : Content → Core → Core
entered_shown content w = shown content (entered content w)

-- ---- a query that waits for its answer

-- it is run; if the connection has none, nothing is done
abbrev pub ExactResume : Meaning → EngineKind → ℕ → Core → Core → List Answer → Type 0
ExactResume m kind conn w v answers = ExactWaitingQuery m kind conn w v answers ⊎ ((later_query (w.sessions.session conn).later ≡ None) × ((v ≡ w) × (answers ≡ [])))

-- ---- a client's message

-- What came of a message is done. What goes to a reader, and a connection that carries a peer's messages, are not told here.
abbrev pub ExactPerform : Act → Core → Core → Type 0
ExactPerform (acts.Reply conn messages) w v = v ≡ record w { replies = w.replies ++ map (λ (message : List ℕ). (conn, message)) messages }
ExactPerform (acts.Propose conn entries) w v = v ≡ giving (due.Propose entries) w
ExactPerform (acts.Lend conn job) w v = Unit {0}
ExactPerform (acts.Transfer conn to reply) w v = v ≡ giving (due.Transfer to) (record w { replies = w.replies ++ (conn, reply) ∷ [] })
ExactPerform (acts.Peer conn id reply) w v = Unit {0}

-- the message whose turn it is is handled; without one, no connection's turn is left
abbrev pub ExactOffer : Meaning → EngineKind → Option Offer → Core → Core → List Answer → Type 0
ExactOffer m kind None w v answers = (v ≡ idle w) × (answers ≡ [])
ExactOffer m kind (Some offer) w v answers = ExactMessage m kind offer.conn (request_of offer.message) (taking offer w) v answers

-- ---- an own snapshot

-- one is taken where one may be, and only there
abbrev pub ExactCompactionIfDue : Core → Core → Bool → Type 0
ExactCompactionIfDue w v true = MayCompact w × ExactCompaction w v
ExactCompactionIfDue w v false = (MayCompact w → ⊥) × (v ≡ w)

-- ---- connections

-- the connection whose stream has ended is gone
abbrev pub gone_for : Option CloseReason → ℕ → Core → Core
gone_for None conn w = w
gone_for (Some reason) conn w = gone conn w

-- A connection was closed, if it was to be, and for this reason.
pub record ExactClose (conn : ℕ) (reason : Option CloseReason) (w v : Core) : Type 0 where
  pub why : reason ≡ closing (w.streams conn)
  pub by : v ≡ gone_for reason conn w
