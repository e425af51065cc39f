-- Counts of commits that begin again: a state machine that was restored from a snapshot counts from nothing, and all comes to the
-- same.
use Rattle.std.specs.Prelude.{◌≡◌, ℕ, ◌+◌, List}
use Rattle.std.specs.Option.{option_map}
use Rattle.log_commands.specs.declared.command.Command.{Command}
use Rattle.wire_msgs.specs.declared.request.Request.{Request}
use Rattle.sql_engine.specs.Replies.{Statement}
use Rattle.session_spec.specs.Engines.{Answer}
use Rattle.session_spec.specs.Events.{on_applied, told_applied, on_lost, told_lost, on_hangup, connects, connected}
use Rattle.session_spec.specs.Machine.{Machine, act}
use Rattle.session_spec.specs.Requests.{on_request, handed, on_later, handed_later, with_session, without_later}
use Rattle.session_spec.specs.Sessions.{Transaction, Session, Gateway, View, Turned, Refused, Lacks, Answers, Proposes, Lends, Affects}

-- What the counts of a restored state machine lack, by the names of databases, the marks of open transactions lack too.
abbrev pub shifted_tx : (List ℕ → ℕ) → Transaction → Transaction
shifted_tx lacks x = record { name = x.name; mark = lacks x.name + x.mark; pinned = x.pinned; working = x.working; turn = x.turn; touched = x.touched }

abbrev pub shifted_session : (List ℕ → ℕ) → Session → Session
shifted_session lacks s = record { there = s.there; hung = s.hung; database = s.database; barriers = s.barriers; later = s.later; statements = s.statements; tx = option_map (shifted_tx lacks) s.tx; lost = s.lost; flight = s.flight }

abbrev pub shifted : (List ℕ → ℕ) → Gateway → Gateway
shifted lacks g = record { conns = g.conns; session = λ conn. shifted_session lacks (g.session conn); weight = g.weight }

-- the databases of a restored state machine, with what its counts lack; pages since a checkpoint may be counted otherwise
abbrev pub restarted : (List ℕ → ℕ) → (List ℕ → ℕ) → Machine → Machine
restarted lacks since m = record { names = m.names; base = λ name. record { image = (m.base name).image; pending = (m.base name).pending; newest = lacks name + (m.base name).newest; since = since name } }

-- what comes of a request, with these marks
abbrev pub shifted_turned : (List ℕ → ℕ) → Turned → Turned
shifted_turned lacks (Refused cause) = Refused cause
shifted_turned lacks Lacks = Lacks
shifted_turned lacks (Answers s reply note) = Answers (shifted_session lacks s) reply note
shifted_turned lacks (Proposes s contents note) = Proposes (shifted_session lacks s) contents note
shifted_turned lacks (Lends s job) = Lends (shifted_session lacks s) job
shifted_turned lacks (Affects effect) = Affects effect

-- A request gives the same wherever the counts of commits begin, and hands the same to the engine.
pub record RequestSame (v : View) (lacks since : List ℕ → ℕ) (m : Machine) (g : Gateway) (conn : ℕ) (request : Request) : Type 0 where
  pub turned : (answers : List Answer) → on_request v (restarted lacks since m) (shifted lacks g) conn request answers ≡ shifted_turned lacks (on_request v m g conn request answers)
  pub handed : handed v (restarted lacks since m) (shifted lacks g) conn request ≡ handed v m g conn request

abbrev pub CountsRestart : Type 0
CountsRestart = (v : View) (lacks since : List ℕ → ℕ) (m : Machine) (g : Gateway) (conn : ℕ) (request : Request) → RequestSame v lacks since m g conn request

-- This holds for a query that is run later than it was asked.
pub record LaterSame (v : View) (lacks since : List ℕ → ℕ) (m : Machine) (g : Gateway) (conn : ℕ) (statement : Statement) : Type 0 where
  pub turned : (answers : List Answer) → on_later v (restarted lacks since m) (shifted lacks g) conn statement answers ≡ shifted_turned lacks (on_later v m g conn statement answers)
  pub handed : handed_later v (restarted lacks since m) (shifted lacks g) conn statement ≡ handed_later v m g conn statement

abbrev pub LatersRestart : Type 0
LatersRestart = (v : View) (lacks since : List ℕ → ℕ) (m : Machine) (g : Gateway) (conn : ℕ) (statement : Statement) → LaterSame v lacks since m g conn statement

-- This holds for all else that happens to sessions: entries that are applied, a lost leadership, connections that come and go.
pub record EventsSame (lacks : List ℕ → ℕ) (g : Gateway) : Type 0 where
  pub applied : (index : ℕ) → on_applied index (shifted lacks g) ≡ shifted lacks (on_applied index g)
  pub told_applied : (index : ℕ) → told_applied index (shifted lacks g) ≡ told_applied index g
  pub lost : on_lost (shifted lacks g) ≡ shifted lacks (on_lost g)
  pub told_lost : told_lost (shifted lacks g) ≡ told_lost g
  pub hangup : (conn : ℕ) → on_hangup (shifted lacks g) conn ≡ shifted lacks (on_hangup g conn)
  pub connects : (conn : ℕ) → connects (shifted lacks g) conn ≡ connects g conn
  pub connected : (conn : ℕ) → connected (shifted lacks g) conn ≡ shifted lacks (connected g conn)
  pub later : (conn : ℕ) → without_later (shifted lacks g) conn ≡ shifted lacks (without_later g conn)
  pub session : (conn : ℕ) (s : Session) → with_session (shifted lacks g) conn (shifted_session lacks s) ≡ shifted lacks (with_session g conn s)

abbrev pub EventsShift : Type 0
EventsShift = (lacks : List ℕ → ℕ) (g : Gateway) → EventsSame lacks g

-- And a command does to a restored state machine what it does to the other.
abbrev pub CommandsRestart : Type 0
CommandsRestart = (lacks since : List ℕ → ℕ) (m : Machine) (command : Command) → (later : List ℕ → ℕ) × (act (restarted lacks since m) command ≡ restarted lacks later (act m command))
