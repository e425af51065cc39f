-- What comes of a request, as code says it before anything has changed.
use Rattle.std.specs.Prelude.{◌≡◌, true, List, length, Option, Some, None}
use Rattle.std.specs.List.{AllByRecursion}
use Rattle.session_spec.specs.Asking.{Asked, has_database}
use Rattle.session_spec.specs.Engines.{Answer, Handed, AllowsFor, used_for}
use Rattle.session_spec.specs.Entries.{written}
use Rattle.session_spec.specs.Machine.{Machine}
use Rattle.session_spec.specs.Requests.{with_tx, with_flight, with_barriers, with_later, begun, does, handed_for}
use Rattle.session_spec.specs.Seen.{HasSpelling}
use Rattle.session_spec.specs.Sessions.{Session, View, Lent, result, Turned, Refused, Answers, Proposes, Lends, Affects}
use Rattle.session_statements.specs.Calls.{EngineCall}
use Rattle.session_statements.specs.Running.{TellsAll}
use Rattle.session_table.specs.Changing.{changed_by, CanChange}
use Rattle.session_table.specs.Named.{cause_named, reply_named}
use Rattle.session_requests.specs.Meant.{effect_named}
use Rattle.session_outcomes.specs.Scenes.{Scene}
use Rattle.session_outcomes.specs.declared.decision.Decision.{Decision}
use Rattle.session_outcomes.specs.declared.decision.Decision.TheVariants as decisions

-- The outcome of the rules, at a session, is what code tells: the refusal; the change of the session, which can be made, and
-- the reply; the transaction that begins or ends; the proposal, whose entries read back; the query that is lent, with its job; or
-- what is outside the sessions.
abbrev pub MatchesOutcome : View → Machine → Session → Turned → Decision → Type 0
MatchesOutcome v m s (Refused cause) (decisions.Refused told) = cause ≡ cause_named told
MatchesOutcome v m s (Answers to reply note) (decisions.Answers change told) = (to ≡ changed_by s change) × (reply ≡ reply_named told) × CanChange s.statements change
MatchesOutcome v m s (Answers to reply note) (decisions.Begins at_once) = (to ≡ begun m s at_once) × (reply ≡ result 0) × (s.tx ≡ None) × (has_database s ≡ true)
MatchesOutcome v m s (Answers to reply note) decisions.Ends = (to ≡ with_tx s None) × (reply ≡ result 0)
MatchesOutcome v m s (Proposes to contents note) (decisions.Proposes flight entries) = (to ≡ with_flight s (Some flight)) × (entries ≡ written v.term contents)
    × AllByRecursion HasSpelling contents
MatchesOutcome v m s (Proposes to contents note) (decisions.Creates flight entries barriers) = (to ≡ with_flight (with_barriers s barriers) (Some flight))
    × (entries ≡ written v.term contents) × AllByRecursion HasSpelling contents
MatchesOutcome v m s (Lends to job) (decisions.Lends query told) = (to ≡ with_later s (Some (Lent query))) × (job ≡ told)
MatchesOutcome v m s (Affects effect) (decisions.Affects told) = effect ≡ effect_named told
MatchesOutcome v m s turned decision = ⊥

-- There are answers that the engine may give to what it is handed, and which it gave one after the other. All of them are
-- used, and by them the rules' outcome at a session is what code tells.
pub record MatchesOutcomeByAnswers (c : EngineCall) (v : View) (machine : Machine) (s : Session) (given : Option Handed) (outcome : List Answer → Turned)
    (decision : Decision) : Type 0 where
  pub answers : List Answer
  pub allowed : AllowsFor c.meaning c.kind given answers
  pub told : TellsAll answers c.told_before c.told_now
  pub exact : used_for given answers ≡ length answers
  pub is : MatchesOutcome v machine s (outcome answers) decision

-- the same for what is asked of a connection's session
abbrev pub TurnsTo : EngineCall → Scene → Session → Asked → Decision → Type 0
TurnsTo c at s asked decision =
    MatchesOutcomeByAnswers c at.view at.machine s (handed_for at.machine s asked) (does at.view at.machine at.sessions at.conn s asked) decision
