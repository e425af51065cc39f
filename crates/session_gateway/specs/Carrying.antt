-- What carrying out an outcome is: the sessions after it, and the act.
use Rattle.std.specs.Prelude.{◌≡◌, ℕ, List, [], ◌∷◌, ◌++◌, map, Some, None, IsSome}
use Rattle.sql_engine.specs.Known.{Known}
use Rattle.database_state.specs.declared.database.Database.{Database}
use Rattle.database_state.specs.ImageNumbers.{numbered}
use Rattle.session_spec.specs.Causes.{failure}
use Rattle.session_spec.specs.Machine.{Machine}
use Rattle.session_spec.specs.Requests.{with_session, with_tx, with_flight, with_barriers, with_later, begun, affected_by}
use Rattle.session_spec.specs.Sessions.{Gateway, Lent, responses_of, result}
use Rattle.session_statements.specs.Agreeing.{Agree}
use Rattle.session_table.specs.declared.session.Session.{Session}
use Rattle.session_table.specs.Named.{cause_named, reply_named}
use Rattle.session_table.specs.Changing.{changed_by, CanChange}
use Rattle.session_table.specs.Working.{works_of}
use Rattle.session_requests.specs.Meant.{effect_named}
use Rattle.session_outcomes.specs.declared.decision.Decision.{Decision}
use Rattle.session_outcomes.specs.declared.decision.Decision.TheVariants as decisions
use Rattle.session_gateway.specs.declared.act.Act.{Act}
use Rattle.session_gateway.specs.declared.act.Act.TheVariants as acts
use Rattle.session_gateway.specs.Calls.{act_for}

abbrev pub Carries : Machine → Gateway → ℕ → Decision → Gateway → Act → Type 0
Carries m g conn (decisions.Refused cause) now act = (now ≡ g) × (act ≡ acts.Reply (failure (cause_named cause) ∷ []))
Carries m g conn (decisions.Answers change reply) now act = (now ≡ with_session g conn (changed_by (g.session conn) change))
    × (act ≡ acts.Reply (responses_of (reply_named reply)))
Carries m g conn (decisions.Begins at_once) now act = (now ≡ with_session g conn (begun m (g.session conn) at_once))
    × (act ≡ acts.Reply (responses_of (result 0)))
Carries m g conn decisions.Ends now act = (now ≡ with_session g conn (with_tx (g.session conn) None)) × (act ≡ acts.Reply (responses_of (result 0)))
Carries m g conn (decisions.Proposes flight entries) now act = (now ≡ with_session g conn (with_flight (g.session conn) (Some flight)))
    × (act ≡ acts.Propose entries)
Carries m g conn (decisions.Creates flight entries barriers) now act =
    (now ≡ with_session g conn (with_flight (with_barriers (g.session conn) barriers) (Some flight))) × (act ≡ acts.Propose entries)
Carries m g conn (decisions.Lends query job) now act = (now ≡ with_session g conn (with_later (g.session conn) (Some (Lent query)))) × (act ≡ acts.Lend job)
Carries m g conn (decisions.Affects effect) now act = (now ≡ affected_by g (effect_named effect)) × (act ≡ act_for (effect_named effect))

-- If no number represented two images, also with these that are made, none does after it was carried out.
abbrev pub AgreesOn : List Known → List Session → List Database → List Session → List Database → Type 0
AgreesOn made before old after new =
    (known : List Known) (next : ℕ) → Agree known (made ++ works_of before) next (map numbered old) → Agree known (works_of after) next (map numbered new)

-- it can be carried out at this session
abbrev pub CanCarry : Session → Decision → Type 0
CanCarry s (decisions.Answers change reply) = CanChange s.statements.items change
CanCarry s (decisions.Begins at_once) = (s.transaction ≡ None) × IsSome s.database
CanCarry s decision = Unit {0}
