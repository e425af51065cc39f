use Rattle.std.proofs.Common.{◌≡◌, ℕ, List, [], true, false, sym, ap, ◌∙◌}
use Rattle.std.proofs.lemmas.Option.{MatchOption-at_some, MatchOption-at_none}
use Rattle.std.proofs.lemmas.Result.{IfOk-weaker}
use Rattle.database_state.specs.Machines.{names_of}
use Rattle.session_spec.specs.Asking as asking
use Rattle.session_spec.specs.Machine.{machine_of, is_named}
use Rattle.session_table.specs.Table.{session_of, table_of}
use Rattle.session_requests.specs.Meant.{meant}
use Rattle.session_requests.proofs.Opening as opening
use Rattle.session_requests.proofs.databases.wanted_by_open.Goals as goal

pub returns-then-has_database : goal.returns-then-has_database
returns-then-has_database c = λ weight.
    opening.is_open c.args.view.now (machine_of c.args.machine.now) (table_of c.args.machine.now c.args.sessions.now weight) (session_of c.args.machine.now c.args.session.now) c.args.name.now c.args.barriers (sym (c.has_database.ensures c.args.machine.now) ∙ c.if-has_database.true)

pub returns-in_default : goal.returns-in_default
returns-in_default c = λ weight.
    opening.ill_named c.args.view.now (machine_of c.args.machine.now) (table_of c.args.machine.now c.args.sessions.now weight) (session_of c.args.machine.now c.args.session.now) c.args.name.now c.args.barriers (sym (c.has_database.ensures c.args.machine.now) ∙ c.if-has_database.false)
    (MatchOption-at_none _ _ c.in_default.is c.in_ok-name.ensures)

pub returns-then-is_there : goal.returns-then-is_there
returns-then-is_there c = λ weight.
    let good : (asking.is_name c.args.name.now ≡ true) × (c.in-Some.name ≡ c.args.name.now) = MatchOption-at_some _ _ c.in-Some.name c.in-Some.is c.in_ok-name.ensures in
    let there : is_named (names_of c.args.machine.now) c.args.name.now ≡ true = ap (is_named (names_of c.args.machine.now)) (sym good.1 ∙ sym c.as_str.ensures.value) ∙ sym c.is_there.ensures ∙ c.if-is_there.true in
    ap (λ (n : List ℕ). asking.Opens n c.args.barriers) good.1
    ∙ opening.is_there c.args.view.now (machine_of c.args.machine.now) (table_of c.args.machine.now c.args.sessions.now weight) (session_of c.args.machine.now c.args.session.now) c.args.name.now c.args.barriers (sym (c.has_database.ensures c.args.machine.now) ∙ c.if-has_database.false) good.0 there

pub returns : goal.returns
returns c = λ weight.
    let good : (asking.is_name c.args.name.now ≡ true) × (c.in-Some.name ≡ c.args.name.now) = MatchOption-at_some _ _ c.in-Some.name c.in-Some.is c.in_ok-name.ensures in
    let new : is_named (names_of c.args.machine.now) c.args.name.now ≡ false = ap (is_named (names_of c.args.machine.now)) (sym good.1 ∙ sym c.as_str.ensures.value) ∙ sym c.is_there.ensures ∙ c.if-is_there.false in
    IfOk-weaker c.wanted_by_new.result _ _
    (λ w e. opening.is_new c.args.view.now (machine_of c.args.machine.now) (table_of c.args.machine.now c.args.sessions.now weight) (session_of c.args.machine.now c.args.session.now) c.args.name.now c.args.barriers (meant [] w) (sym (c.has_database.ensures c.args.machine.now) ∙ c.if-has_database.false) good.0 new (e ∙ ap (λ (n : List ℕ). asking.asks_new c.args.view.now (machine_of c.args.machine.now) (table_of c.args.machine.now c.args.sessions.now weight) n c.args.barriers) good.1))
    (c.wanted_by_new.ensures weight)
