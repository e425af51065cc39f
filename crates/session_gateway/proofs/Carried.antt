-- An outcome that is carried out is the rules' one.
use Rattle.std.proofs.Common.{◌≡◌, ℕ, List, [], ◌∷◌, map, Option, refl, sym, ap, ◌∙◌}
use Rattle.wire_msgs.specs.declared.response.Response.{Response}
use Rattle.wire_msgs.specs.declared.request.Request.{Request}
use Rattle.sql_engine.specs.declared.kind.EngineKind.{EngineKind}
use Rattle.sql_engine.specs.Meanings.{Meaning, Told}
use Rattle.sql_engine.specs.Replies.{Statement}
use Rattle.session_spec.specs.Machine.{Machine}
use Rattle.session_spec.specs.Causes.{Cause, failure}
use Rattle.session_spec.specs.Requests.{handed, handed_later, on_later, on_request, with_session, affected_by}
use Rattle.session_spec.specs.Sessions.{Gateway, View, Reply, responses_of, Turned, Refused, Lacks, Answers, Proposes, Lends, Affects}
use Rattle.session_outcomes.specs.declared.decision.Decision.{Decision}
use Rattle.session_outcomes.specs.declared.decision.Decision.TheVariants as decisions
use Rattle.session_outcomes.specs.Turning.{MatchesOutcomeByAnswers, MatchesOutcome}
use Rattle.session_statements.specs.Calls.{call_of}
use Rattle.session_outcomes.specs.Scenes.{scene}
use Rattle.session_gateway.specs.declared.act.Act.{Act}
use Rattle.session_gateway.specs.declared.act.Act.TheVariants as acts
use Rattle.session_gateway.specs.Calls.{Is, TurnsByAnswers, act_for}
use Rattle.session_gateway.specs.Later.{RunsWaitingByAnswers}
use Rattle.session_gateway.specs.Carrying.{Carries}

-- responses to a connection, without it
pub stripped : (conn : ℕ) (rs : List Response) → map (λ (one : ℕ × Response). one.1) (map {B = ℕ × Response} (λ (r : Response). (conn, r)) rs) ≡ rs
stripped conn [] = refl
stripped conn (r ∷ rs) = ap (λ (ss : List Response). r ∷ ss) (stripped conn rs)

module _ (v : View) (m : Machine) (g : Gateway) (conn : ℕ) (now : Gateway) (act : Act) where
  carried : (turned : Turned) (decision : Decision) → MatchesOutcome v m (g.session conn) turned decision → Carries m g conn decision now act → Is v g conn turned now act
  carried (Refused cause) (decisions.Refused told) e c = (c.0, c.1 ∙ ap (λ (cause : Cause). acts.Reply (failure cause ∷ [])) (sym e))
  carried (Refused cause) (decisions.Answers change reply) e c = absurd e
  carried (Refused cause) (decisions.Begins at_once) e c = absurd e
  carried (Refused cause) decisions.Ends e c = absurd e
  carried (Refused cause) (decisions.Proposes flight entries) e c = absurd e
  carried (Refused cause) (decisions.Creates flight entries barriers) e c = absurd e
  carried (Refused cause) (decisions.Lends query job) e c = absurd e
  carried (Refused cause) (decisions.Affects effect) e c = absurd e
  carried Lacks (decisions.Refused told) e c = e
  carried Lacks (decisions.Answers change reply) e c = e
  carried Lacks (decisions.Begins at_once) e c = e
  carried Lacks decisions.Ends e c = e
  carried Lacks (decisions.Proposes flight entries) e c = e
  carried Lacks (decisions.Creates flight entries barriers) e c = e
  carried Lacks (decisions.Lends query job) e c = e
  carried Lacks (decisions.Affects effect) e c = e
  carried (Answers to reply note) (decisions.Refused told) e c = absurd e
  carried (Answers to reply note) (decisions.Answers change told) e c = (c.0 ∙ ap (with_session g conn) (sym e.0), c.1 ∙ ap (λ (r : Reply). acts.Reply (responses_of r)) (sym e.1))
  carried (Answers to reply note) (decisions.Begins at_once) e c = (c.0 ∙ ap (with_session g conn) (sym e.0), c.1 ∙ ap (λ (r : Reply). acts.Reply (responses_of r)) (sym e.1))
  carried (Answers to reply note) decisions.Ends e c = (c.0 ∙ ap (with_session g conn) (sym e.0), c.1 ∙ ap (λ (r : Reply). acts.Reply (responses_of r)) (sym e.1))
  carried (Answers to reply note) (decisions.Proposes flight entries) e c = absurd e
  carried (Answers to reply note) (decisions.Creates flight entries barriers) e c = absurd e
  carried (Answers to reply note) (decisions.Lends query job) e c = absurd e
  carried (Answers to reply note) (decisions.Affects effect) e c = absurd e
  carried (Proposes to contents note) (decisions.Refused told) e c = absurd e
  carried (Proposes to contents note) (decisions.Answers change reply) e c = absurd e
  carried (Proposes to contents note) (decisions.Begins at_once) e c = absurd e
  carried (Proposes to contents note) decisions.Ends e c = absurd e
  carried (Proposes to contents note) (decisions.Proposes flight entries) e c = (c.0 ∙ ap (with_session g conn) (sym e.0), c.1 ∙ ap acts.Propose e.1, e.2)
  carried (Proposes to contents note) (decisions.Creates flight entries barriers) e c = (c.0 ∙ ap (with_session g conn) (sym e.0), c.1 ∙ ap acts.Propose e.1, e.2)
  carried (Proposes to contents note) (decisions.Lends query job) e c = absurd e
  carried (Proposes to contents note) (decisions.Affects effect) e c = absurd e
  carried (Lends to lent) (decisions.Refused told) e c = absurd e
  carried (Lends to lent) (decisions.Answers change reply) e c = absurd e
  carried (Lends to lent) (decisions.Begins at_once) e c = absurd e
  carried (Lends to lent) decisions.Ends e c = absurd e
  carried (Lends to lent) (decisions.Proposes flight entries) e c = absurd e
  carried (Lends to lent) (decisions.Creates flight entries barriers) e c = absurd e
  carried (Lends to lent) (decisions.Lends query job) e c = (c.0 ∙ ap (with_session g conn) (sym e.0), c.1 ∙ ap acts.Lend (sym e.1))
  carried (Lends to lent) (decisions.Affects effect) e c = absurd e
  carried (Affects effect) (decisions.Refused told) e c = absurd e
  carried (Affects effect) (decisions.Answers change reply) e c = absurd e
  carried (Affects effect) (decisions.Begins at_once) e c = absurd e
  carried (Affects effect) decisions.Ends e c = absurd e
  carried (Affects effect) (decisions.Proposes flight entries) e c = absurd e
  carried (Affects effect) (decisions.Creates flight entries barriers) e c = absurd e
  carried (Affects effect) (decisions.Lends query job) e c = absurd e
  carried (Affects effect) (decisions.Affects told) e c = (c.0 ∙ ap (affected_by g) (sym e), c.1 ∙ ap act_for (sym e))

module _ (m : Meaning) (kind : EngineKind) (v : View) (machine : Machine) (g : Gateway) (conn : ℕ) (before after : Option Told) (now : Gateway) (act : Act) (decision : Decision) (carries : Carries machine g conn decision now act) where
  -- of a request
  pub turned_by : (request : Request) → MatchesOutcomeByAnswers (call_of m kind before after) v machine (g.session conn) (handed v machine g conn request) (on_request v machine g conn request) decision → TurnsByAnswers (call_of m kind before after) (scene v machine g conn) request now act
  turned_by request ran = record {
    answers = ran.answers;
    allowed = ran.allowed;
    told = ran.told;
    exact = ran.exact;
    is = carried v machine g conn now act (on_request v machine g conn request ran.answers) decision ran.is carries;
  }

  -- of a query that is run later
  pub later_by : (statement : Statement) → MatchesOutcomeByAnswers (call_of m kind before after) v machine (g.session conn) (handed_later v machine g conn statement) (on_later v machine g conn statement) decision → RunsWaitingByAnswers (call_of m kind before after) (scene v machine g conn) statement now act
  later_by statement ran = record {
    answers = ran.answers;
    allowed = ran.allowed;
    told = ran.told;
    exact = ran.exact;
    is = carried v machine g conn now act (on_later v machine g conn statement ran.answers) decision ran.is carries;
  }
