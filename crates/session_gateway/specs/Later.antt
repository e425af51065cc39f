-- What comes of queries that are answered later than they were asked.
use Rattle.std.specs.Prelude.{◌≡◌, ℕ, cond, List, [], ◌∷◌, length, Option, Some, None}
use Rattle.sql_engine.specs.Replies.{Statement}
use Rattle.session_spec.specs.Engines.{Answer, AllowsFor, used_for}
use Rattle.session_spec.specs.Requests.{handed_later, on_later, without_later}
use Rattle.session_spec.specs.Sessions.{Reply, Gateway, responses_of, is_due}
use Rattle.session_statements.specs.Calls.{EngineCall}
use Rattle.session_statements.specs.Running.{TellsAll}
use Rattle.session_outcomes.specs.Scenes.{Scene}
use Rattle.session_gateway.specs.declared.act.Act.{Act}
use Rattle.session_gateway.specs.declared.act.Act.TheVariants as acts
use Rattle.session_gateway.specs.Calls.{Is}

-- the first of these connections whose query is to be run next
abbrev pub first_due_in : Gateway → List ℕ → Option ℕ
first_due_in g [] = None
first_due_in g (conn ∷ conns) = cond (is_due (g.session conn).later) (Some conn) (first_due_in g conns)

abbrev pub first_due : Gateway → Option ℕ
first_due g = first_due_in g g.conns

-- There are answers that the engine may give to what the query hands it, and which it gave one after the other. The query uses
-- all of them, and by them it ends with this act and these sessions.
pub record RunsWaitingByAnswers (c : EngineCall) (at : Scene) (statement : Statement) (now : Gateway) (act : Act) : Type 0 where
  pub answers : List Answer
  pub allowed : AllowsFor c.meaning c.kind (handed_later at.view at.machine at.sessions at.conn statement) answers
  pub told : TellsAll answers c.told_before c.told_now
  pub exact : used_for (handed_later at.view at.machine at.sessions at.conn statement) answers ≡ length answers
  pub is : Is at.view at.sessions at.conn (on_later at.view at.machine at.sessions at.conn statement answers) now act

-- The query that a connection has yet to answer is run at its session without it; without one, nothing is done.
abbrev pub Resumed : EngineCall → Scene → Option Statement → Gateway → Option Act → Type 0
Resumed c at None now None = (now ≡ at.sessions) × (c.told_before ≡ c.told_now)
Resumed c at None now (Some act) = ⊥
Resumed c at (Some statement) now None = ⊥
Resumed c at (Some statement) now (Some act) = RunsWaitingByAnswers c (record at { sessions = without_later at.sessions at.conn }) statement now act

-- What a reader says of the query that it has is told to the connection, which then waits for it no more. If it has none of
-- the connection, or gives it back, nothing is done.
abbrev pub ReadDone : Gateway → ℕ → Option Statement → Option Reply → Gateway → Option Act → Type 0
ReadDone g conn None reply now act = (now ≡ g) × (act ≡ None)
ReadDone g conn (Some statement) None now act = (now ≡ g) × (act ≡ None)
ReadDone g conn (Some statement) (Some reply) now act = (now ≡ without_later g conn) × (act ≡ Some (acts.Reply (responses_of reply)))
