-- Which act says that files weren't opened.
use Rattle.std.proofs.Common.{◌≡◌, ℕ, List, [], ◌∷◌, map, refl, sym, ap, subst, ◌∙◌, arith}
use Rattle.wire_msgs.specs.declared.request.Request.{Request}
use Rattle.wire_msgs.specs.declared.response.Response.{Response}
use Rattle.wire_msgs.specs.declared.response.Response.TheVariants as responses
use Rattle.sql_engine.specs.Replies.{Statement}
use Rattle.session_spec.specs.Causes.{NotLeader, NotADatabase, code, failure}
use Rattle.session_spec.specs.Engines.{Answer}
use Rattle.session_spec.specs.Allowed.{IsFailure}
use Rattle.session_spec.specs.Laws.{IsRefusal}
use Rattle.session_spec.specs.Machine.{Machine}
use Rattle.session_spec.specs.Requests.{on_request, on_later}
use Rattle.session_spec.specs.Sessions.{Session, Gateway, View, Note, Reply, Refusal, Single, Rows, responses_of, Turned, Refused, Lacks, Answers, Proposes, Lends, Affects}
use Rattle.session_spec.proofs.Keeping.{answers_plain, later_answers_plain}
use Rattle.session_table.specs.declared.cause.Cause.{Cause}
use Rattle.session_table.specs.declared.cause.Cause.TheVariants as told
use Rattle.session_table.specs.Named.{cause_named}
use Rattle.session_requests.specs.declared.wanted.ClusterEffect.TheVariants as effects
use Rattle.session_outcomes.specs.declared.decision.Decision.{Decision}
use Rattle.session_outcomes.specs.declared.decision.Decision.TheVariants as decisions
use Rattle.session_outcomes.specs.Turning.{MatchesOutcome}
use Rattle.session_gateway.specs.declared.act.Act.{Act}
use Rattle.session_gateway.specs.declared.act.Act.TheVariants as acts
use Rattle.session_gateway.specs.Carrying.{Carries}

by_code : (cause : Cause) → code (cause_named cause) ≡ 26 → cause ≡ told.NotADatabase
by_code told.BadRequest e = absurd (omega arith)
by_code told.FloatParameter e = absurd (omega arith)
by_code told.NotLeader e = absurd (omega arith)
by_code told.LeadershipLost e = absurd (omega arith)
by_code told.DatabaseOpen e = absurd (omega arith)
by_code told.ChangeInFlight e = absurd (omega arith)
by_code told.NoDatabase e = absurd (omega arith)
by_code told.NoStatement e = absurd (omega arith)
by_code told.OpenQuote e = absurd (omega arith)
by_code told.OpenComment e = absurd (omega arith)
by_code told.NamedParameter e = absurd (omega arith)
by_code told.BadParameterNumber e = absurd (omega arith)
by_code told.NotAllowed e = absurd (omega arith)
by_code told.OneStatementWanted e = absurd (omega arith)
by_code told.WrongParameters e = absurd (omega arith)
by_code told.InTransaction e = absurd (omega arith)
by_code told.NoTransaction e = absurd (omega arith)
by_code told.BadName e = absurd (omega arith)
by_code told.BadNode e = absurd (omega arith)
by_code told.BadRole e = absurd (omega arith)
by_code told.BadFormat e = absurd (omega arith)
by_code told.TargetBehind e = absurd (omega arith)
by_code told.TransferFirst e = absurd (omega arith)
by_code told.TooManyVoters e = absurd (omega arith)
by_code told.TooManyStatements e = absurd (omega arith)
by_code told.TooManyDatabases e = absurd (omega arith)
by_code told.LogFull e = absurd (omega arith)
by_code told.ConstraintFailed e = absurd (omega arith)
by_code told.SqlError e = absurd (omega arith)
by_code told.NotADatabase e = refl
by_code told.FloatColumn e = absurd (omega arith)
by_code told.NotUtf8 e = absurd (omega arith)
by_code told.OutOfMemory e = absurd (omega arith)
by_code told.NulInText e = absurd (omega arith)
by_code told.AnswerTooBig e = absurd (omega arith)
by_code told.Locked e = absurd (omega arith)
by_code told.OutOfDate e = absurd (omega arith)
by_code told.DatabaseFull e = absurd (omega arith)

code_of : (a b : Response) (n m : ℕ) (x y : List ℕ) → acts.Reply (responses.Failure n x ∷ []) ≡ acts.Reply (responses.Failure m y ∷ []) → n ≡ m
code_of a b n m x y e = (cc)

rows_differ : (parts : List (List ℕ)) (n : ℕ) (x : List ℕ) → acts.Reply (map (λ (body : List ℕ). responses.Rows body) parts) ≡ acts.Reply (responses.Failure n x ∷ []) → ⊥
rows_differ [] n x e = (cc)
rows_differ (p ∷ ps) n x e = (cc)

one_failure : (response : Response) (n : ℕ) (x : List ℕ) → acts.Reply (response ∷ []) ≡ acts.Reply (responses.Failure n x ∷ []) → responses.Failure n x ≡ response
one_failure response n x e = (cc)

codes_differ : code NotLeader ≡ 26 → ⊥
codes_differ e = absurd (omega arith)

refusals_differ : acts.Reply (failure NotLeader ∷ []) ≡ acts.Reply (failure NotADatabase ∷ []) → ⊥
refusals_differ e = codes_differ (code_of (failure NotLeader) (failure NotADatabase) _ _ _ _ e)

no_failure : (reply : Reply) → (IsRefusal reply → reply ≡ Single (failure NotLeader)) → acts.Reply (responses_of reply) ≡ acts.Reply (failure NotADatabase ∷ []) → ⊥
no_failure (Refusal cause) plain e = let other : Refusal cause ≡ Single (failure NotLeader) = plain tt in (cc)
no_failure (Single response) plain e =
    let same : Single response ≡ Single (failure NotLeader) = plain (subst IsFailure (one_failure response (code NotADatabase) _ e) tt) in
    refusals_differ (subst (λ (r : Reply). acts.Reply (responses_of r) ≡ acts.Reply (failure NotADatabase ∷ [])) same e)
no_failure (Rows answer) plain e = rows_differ _ _ _ e

-- if no answer at once is a refusal, except for that of a COMMIT of a lost transaction
module _ (v : View) (m : Machine) (g : Gateway) (conn : ℕ) (outcome : Turned) (plain : (to : Session) (reply : Reply) (note : Note) → outcome ≡ Answers to reply note → IsRefusal reply → reply ≡ Single (failure NotLeader)) (now : Gateway) (act : Act) (is : act ≡ acts.Reply (failure NotADatabase ∷ [])) where
  answered : (turned : Turned) (decision : Decision) → outcome ≡ turned → MatchesOutcome v m (g.session conn) turned decision → Carries m g conn decision now act → decision ≡ decisions.Refused told.NotADatabase
  answered turned (decisions.Refused cause) e comes carries = ap decisions.Refused (by_code cause (code_of (failure NotADatabase) (failure NotADatabase) _ _ _ _ (sym carries.1 ∙ is)))
  answered (Refused cause) (decisions.Answers change reply) e comes carries = absurd comes
  answered Lacks (decisions.Answers change reply) e comes carries = absurd comes
  answered (Answers to reply note) (decisions.Answers change told) e comes carries =
      absurd (no_failure reply (plain to reply note e) (ap (λ (r : Reply). acts.Reply (responses_of r)) comes.1 ∙ sym carries.1 ∙ is))
  answered (Proposes to contents note) (decisions.Answers change reply) e comes carries = absurd comes
  answered (Lends to job) (decisions.Answers change reply) e comes carries = absurd comes
  answered (Affects effect) (decisions.Answers change reply) e comes carries = absurd comes
  answered turned (decisions.Begins at_once) e comes carries = let other : acts.Reply (responses.Result 0 0 ∷ []) ≡ acts.Reply (failure NotADatabase ∷ []) = sym carries.1 ∙ is in (cc)
  answered turned decisions.Ends e comes carries = let other : acts.Reply (responses.Result 0 0 ∷ []) ≡ acts.Reply (failure NotADatabase ∷ []) = sym carries.1 ∙ is in (cc)
  answered turned (decisions.Proposes flight entries) e comes carries = let other : acts.Propose entries ≡ acts.Reply (failure NotADatabase ∷ []) = sym carries.1 ∙ is in (cc)
  answered turned (decisions.Creates flight entries barriers) e comes carries = let other : acts.Propose entries ≡ acts.Reply (failure NotADatabase ∷ []) = sym carries.1 ∙ is in (cc)
  answered turned (decisions.Lends query job) e comes carries = let other : acts.Lend job ≡ acts.Reply (failure NotADatabase ∷ []) = sym carries.1 ∙ is in (cc)
  answered turned (decisions.Affects (effects.HandsOver id)) e comes carries = let other : acts.Transfer id ≡ acts.Reply (failure NotADatabase ∷ []) = sym carries.1 ∙ is in (cc)
  answered turned (decisions.Affects (effects.JoinsPeer id)) e comes carries = let other : acts.Peer id ≡ acts.Reply (failure NotADatabase ∷ []) = sym carries.1 ∙ is in (cc)
  answered turned (decisions.Affects (effects.Weighs weight)) e comes carries = let other : acts.Reply (responses.Empty ∷ []) ≡ acts.Reply (failure NotADatabase ∷ []) = sym carries.1 ∙ is in (cc)

  unopened_outcome : (decision : Decision) → MatchesOutcome v m (g.session conn) outcome decision → Carries m g conn decision now act → decision ≡ decisions.Refused told.NotADatabase
  unopened_outcome decision comes carries = answered outcome decision refl comes carries

-- of a request
pub unopened_turn : (v : View) (m : Machine) (g : Gateway) (conn : ℕ) (request : Request) (answers : List Answer) (now : Gateway) (act : Act) → act ≡ acts.Reply (failure NotADatabase ∷ []) → (decision : Decision)
    → MatchesOutcome v m (g.session conn) (on_request v m g conn request answers) decision → Carries m g conn decision now act → decision ≡ decisions.Refused told.NotADatabase
unopened_turn v m g conn request answers now act is = unopened_outcome v m g conn (on_request v m g conn request answers) (answers_plain v m g conn request answers) now act is

-- of a query that is run later
pub unopened_later : (v : View) (m : Machine) (g : Gateway) (conn : ℕ) (statement : Statement) (answers : List Answer) (now : Gateway) (act : Act) → act ≡ acts.Reply (failure NotADatabase ∷ []) → (decision : Decision)
    → MatchesOutcome v m (g.session conn) (on_later v m g conn statement answers) decision → Carries m g conn decision now act → decision ≡ decisions.Refused told.NotADatabase
unopened_later v m g conn statement answers now act is = unopened_outcome v m g conn (on_later v m g conn statement answers) (λ to reply note e h. absurd (later_answers_plain v m g conn statement answers to reply note e h)) now act is
