-- The rules ask for what can be done.
use Rattle.std.proofs.Common.{◌≡◌, ℕ, List, Option, Some, None, Result, Ok, Err, sym}
use Rattle.wire_words.specs.declared.value.Value.{Value}
use Rattle.std.specs.Prelude.{IfOk}
use Rattle.wire_msgs.specs.declared.request.Request.{Request}
use Rattle.session_spec.specs.Allowed as rules
use Rattle.session_spec.specs.Allowed.{IsEarlyCause}
use Rattle.session_spec.specs.Asking as asking
use Rattle.session_spec.specs.Asking.{Asked, asks_lost, unless_lost, asked_unless_lost, asked_by}
use Rattle.session_spec.specs.Causes as causes
use Rattle.session_spec.specs.Causes.{Cause}
use Rattle.session_spec.specs.Machine.{Machine}
use Rattle.session_spec.specs.Sessions.{Session, Gateway, View}
use Rattle.session_spec.proofs.Asked as walk
use Rattle.session_requests.specs.Meant.{IsPlainCause, IsAllowed, meant, planned_or}
use Rattle.session_requests.specs.declared.wanted.RequestPlan.{RequestPlan}

pub both_ok : {X E : Type 0} (r : Result X E) (P Q R : X → Type 0) → ((x : X) → P x → Q x → R x) → IfOk r P → IfOk r Q → IfOk r R
both_ok {X} {E} (Ok x) P Q R f p q = f x p q
both_ok {X} {E} (Err e) P Q R f p q = tt

plain : (cause : Cause) → IsEarlyCause cause → IsPlainCause cause
plain causes.BadRequest h = tt
plain causes.FloatParameter h = tt
plain causes.NotLeader h = tt
plain causes.LeadershipLost h = tt
plain causes.DatabaseOpen h = tt
plain causes.ChangeInFlight h = tt
plain causes.NoDatabase h = tt
plain causes.NoStatement h = tt
plain causes.OpenQuote h = tt
plain causes.OpenComment h = tt
plain causes.NamedParameter h = tt
plain causes.BadParameterNumber h = tt
plain causes.NotAllowed h = tt
plain causes.OneStatementWanted h = tt
plain causes.WrongParameters h = tt
plain causes.InTransaction h = tt
plain causes.NoTransaction h = tt
plain causes.BadName h = tt
plain causes.BadNode h = tt
plain causes.BadRole h = tt
plain causes.BadFormat h = tt
plain causes.TargetBehind h = tt
plain causes.TransferFirst h = tt
plain causes.TooManyVoters h = tt
plain causes.TooManyStatements h = tt
plain causes.TooManyDatabases h = tt
plain causes.LogFull h = tt
plain causes.ConstraintFailed h = tt
plain causes.SqlError h = tt
plain causes.NotADatabase h = h
plain causes.FloatColumn h = tt
plain causes.NotUtf8 h = tt
plain causes.OutOfMemory h = tt
plain causes.NulInText h = tt
plain causes.AnswerTooBig h = tt
plain causes.Locked h = tt
plain causes.OutOfDate h = tt
plain causes.DatabaseFull h = tt

allowed_of : (v : View) (g : Gateway) (s : Session) (r : Request) (asked : Asked) → rules.IsAllowed v g s r asked → IsAllowed v s asked
allowed_of v g s r (asking.Never cause) h = plain cause h
allowed_of v g s r (asking.Tells response) h = tt
allowed_of v g s r (asking.Sets effect) h = tt
allowed_of v g s r (asking.Opens name barriers) h = tt
allowed_of v g s r (asking.Creates name barriers) h = h.1
allowed_of v g s r (asking.Prepares p tail) h = tt
allowed_of v g s r (asking.Drops id) h = tt
allowed_of v g s r (asking.Forgets response) h = tt
allowed_of v g s r (asking.Begins at_once) h = h
allowed_of v g s r asking.Commits h = h
allowed_of v g s r asking.RollsBack h = tt
allowed_of v g s r (asking.Changes servers short) h = (h.0, h.3)
allowed_of v g s r (asking.Runs statements) h = h
allowed_of v g s r (asking.Reads statement) h = h

-- what is wanted at a session whose transaction is lost is what is asked for
pub wanted_lost : (v : View) (m : Machine) (g : Gateway) (conn : ℕ) (s : Session) (r : Request) (params : List Value) (w : RequestPlan)
    → ((asked : Asked) → unless_lost s.lost (asks_lost s r) asked ≡ planned_or params (Some w) asked) → meant params w ≡ asked_by v m g conn s r
unfolding asked_by
wanted_lost v m g conn s r params w e = sym (e (asked_unless_lost v m g conn s r))

-- and if nothing is wanted for that, what is wanted otherwise is
pub wanted_otherwise : (v : View) (m : Machine) (g : Gateway) (conn : ℕ) (s : Session) (r : Request) (params : List Value)
    → ((asked : Asked) → unless_lost s.lost (asks_lost s r) asked ≡ planned_or params None asked) → asked_unless_lost v m g conn s r ≡ asked_by v m g conn s r
unfolding asked_by
wanted_otherwise v m g conn s r params e = sym (e (asked_unless_lost v m g conn s r))

pub all_allowed : (v : View) (m : Machine) (g : Gateway) (conn : ℕ) (s : Session) (r : Request) → IsAllowed v s (asked_by v m g conn s r)
all_allowed v m g conn s r = allowed_of v g s r (asked_by v m g conn s r) (walk.all_allowed v m g conn s r)
