-- Requests that need no statement can be done as they are.
use Rattle.std.proofs.Common.{◌≡◌, Bool, true, false, cond, ℕ, List, Option, subst, sym, rules}
use Rattle.wire_words.specs.declared.value.Value.{Value}
use Rattle.wire_msgs.specs.declared.response.Response.TheVariants as responses
use Rattle.session_spec.specs.Asking.{Asked, Never, Tells, Sets, Opens, Creates, Prepares, Drops, Forgets, Begins, Commits, RollsBack, Changes, Runs, Reads, at_leader, in_database, asks_open, if_settled, asks_add, asks_assign, asks_remove}
use Rattle.session_spec.specs.Machine.{Machine}
use Rattle.session_spec.specs.Sessions.{Prepared, Session, Gateway, View}
use Rattle.wire_msgs.specs.declared.request.Request.{Request}
use Rattle.session_spec.specs.Causes.{NotLeader}
use Rattle.session_spec.specs.Asking.{asks_lost, unless_lost}
use Rattle.session_spec.proofs.Losing.{lost_so, unless_so}
use Rattle.session_requests.specs.declared.wanted.RequestPlan.{RequestPlan}
use Rattle.session_requests.specs.declared.wanted.RequestPlan.TheVariants as wanted
use Rattle.session_requests.specs.Meant.{meant, FitsStatements}

-- nothing of statements is asked
abbrev pub Plain : Asked → Type 0
Plain (Never cause) = Unit {0}
Plain (Tells response) = Unit {0}
Plain (Sets effect) = Unit {0}
Plain (Opens name barriers) = Unit {0}
Plain (Creates name barriers) = Unit {0}
Plain (Prepares p tail) = ⊥
Plain (Drops id) = ⊥
Plain (Forgets response) = Unit {0}
Plain (Begins at_once) = ⊥
Plain Commits = ⊥
Plain RollsBack = ⊥
Plain (Changes servers short) = Unit {0}
Plain (Runs ss) = ⊥
Plain (Reads s) = ⊥

pub plain_can : (statements : List (Option Prepared)) (params none : List Value) (w : RequestPlan) (asked : Asked) → meant none w ≡ asked → Plain asked → FitsStatements statements params w
plain_can statements params none (wanted.Never cause) asked e h = tt
plain_can statements params none (wanted.Tells response) asked e h = tt
plain_can statements params none (wanted.Sets effect) asked e h = tt
plain_can statements params none (wanted.Opens name barriers) asked e h = tt
plain_can statements params none (wanted.Creates name barriers) asked e h = tt
plain_can statements params none (wanted.Changes servers short) asked e h = tt
plain_can statements params none (wanted.Prepares p tail) asked e h = absurd (subst Plain (sym e) h)
plain_can statements params none (wanted.Drops id) asked e h = absurd (subst Plain (sym e) h)
plain_can statements params none (wanted.Forgets response) asked e h = tt
plain_can statements params none (wanted.Begins at_once) asked e h = tt
plain_can statements params none wanted.Commits asked e h = tt
plain_can statements params none wanted.RollsBack asked e h = tt
plain_can statements params none (wanted.RunsOne p) asked e h = tt
plain_can statements params none (wanted.RunsAll script) asked e h = absurd (subst Plain (sym e) h)
plain_can statements params none (wanted.Reads p) asked e h = tt

either : (b : Bool) (x y : Asked) → Plain x → Plain y → Plain (cond b x y)
either true x y a b = a
either false x y a b = b

pub open_plain : (v : View) (m : Machine) (g : Gateway) (s : Session) (name : List ℕ) (barriers : Bool) → Plain (at_leader v (asks_open v m g s name barriers))
open_plain v m g s name barriers = search (rules, either)

pub add_plain : (v : View) (g : Gateway) (id : ℕ) (address : List ℕ) → Plain (at_leader v (if_settled g (asks_add v.servers id address)))
add_plain v g id address = search (rules, either)

pub assign_plain : (v : View) (g : Gateway) (id role : ℕ) → Plain (at_leader v (if_settled g (asks_assign v id role)))
assign_plain v g id role = search (rules, either)

pub remove_plain : (v : View) (g : Gateway) (id : ℕ) → Plain (at_leader v (if_settled g (asks_remove v id)))
remove_plain v g id = search (rules, either)

pub interrupt_plain : (s : Session) (db : ℕ) → Plain (in_database s db (Tells responses.Empty))
interrupt_plain s db = search (rules, either)

-- what is wanted at a session whose transaction is lost
pub lost_can : (statements : List (Option Prepared)) (params : List Value) (w : RequestPlan) (s : Session) (r : Request)
    → unless_lost s.lost (asks_lost s r) (Never NotLeader) ≡ meant params w → FitsStatements statements params w
lost_can statements params w s r e =
    plain_can statements params params w (unless_lost s.lost (asks_lost s r) (Never NotLeader)) (sym e)
    (unless_so Plain s.lost (asks_lost s r) (Never NotLeader) (λ lost. lost_so Plain s tt tt tt r) tt)
