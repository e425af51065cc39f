-- What comes of queries that are answered later than they were asked, as code says it.
use Rattle.std.specs.Prelude.{◌≡◌, ◌<◌, ℕ, List, [], ◌∷◌, Option, Some, None}
use Rattle.sql_engine.specs.Replies.{Statement}
use Rattle.session_spec.specs.Causes.{NotADatabase, failure}
use Rattle.session_spec.specs.Requests.{without_later}
use Rattle.session_spec.specs.Sessions.{Reply as RuleReply, Gateway, responses_of}
use Rattle.session_statements.specs.Calls.{EngineCall}
use Rattle.session_outcomes.specs.Scenes.{Scene}
use Rattle.session_gateway.specs.declared.act.Act.{Act as GatewayAct}
use Rattle.session_gateway.specs.declared.act.Act.TheVariants as gateway
use Rattle.session_gateway.specs.Later.{RunsWaitingByAnswers}
use Rattle.client_sessions.specs.declared.act.Act.{Act}
use Rattle.client_sessions.specs.declared.act.Act.TheVariants.{Reply}
use Rattle.client_sessions.specs.Calls.{act_on, bytes_of}

-- A query ended with this act and these sessions by answers that the engine may give and gave, at its session without it. It is
-- refused as over no database only if one more opening was refused.
pub record RanLater (c : EngineCall) (at : Scene) (statement : Statement) (refused_before refused_now : ℕ) (now : Gateway) (act : Act) : Type 0 where
  pub gateway_act : GatewayAct
  pub ran : RunsWaitingByAnswers c (record at { sessions = without_later at.sessions at.conn }) statement now gateway_act
  pub act_is : act ≡ act_on at.conn gateway_act
  pub unopened : gateway_act ≡ gateway.Reply (failure NotADatabase ∷ []) → refused_before < refused_now

-- The query that a connection has yet to answer was run; without one, nothing was done.
abbrev pub Resumes : EngineCall → Scene → Option Statement → ℕ → ℕ → Gateway → Option Act → Type 0
Resumes c at None refused_before refused_now now None = (now ≡ at.sessions) × (c.told_before ≡ c.told_now)
Resumes c at None refused_before refused_now now (Some act) = ⊥
Resumes c at (Some statement) refused_before refused_now now None = ⊥
Resumes c at (Some statement) refused_before refused_now now (Some act) = RanLater c at statement refused_before refused_now now act

-- What a reader says of the query that it has is told to the connection, which then waits for it no more. If it has none of
-- the connection, or gives it back, nothing is done.
abbrev pub Finishes : Gateway → ℕ → Option Statement → Option RuleReply → Gateway → Option Act → Type 0
Finishes g conn None reply now act = (now ≡ g) × (act ≡ None)
Finishes g conn (Some statement) None now act = (now ≡ g) × (act ≡ None)
Finishes g conn (Some statement) (Some reply) now act = (now ≡ without_later g conn) × (act ≡ Some (Reply conn (bytes_of (responses_of reply))))

-- the connection gets a turn where something was done for it
abbrev pub turn_for : ℕ → Option Act → List ℕ
turn_for conn None = []
turn_for conn (Some act) = conn ∷ []
