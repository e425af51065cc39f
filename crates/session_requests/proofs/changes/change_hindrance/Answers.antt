use Rattle.std.proofs.Common.{sym, ap, ◌∙◌}
use Rattle.session_spec.specs.Sessions.{View}
use Rattle.session_table.specs.Table.{table_of}
use Rattle.session_requests.proofs.Changing.{not_serving, is_unsettled, is_settled}
use Rattle.session_requests.proofs.changes.change_hindrance.Goals as goal

pub returns-then-not-view : goal.returns-then-not-view
returns-then-not-view c = λ databases weight asked.
    not_serving c.args.view.now (table_of databases c.args.sessions.now weight) asked (sym (ap (λ (v : View). v.serving) c.view.view_is) ∙ c.if-not-view.true)

pub returns-then-change_in_flight : goal.returns-then-change_in_flight
returns-then-change_in_flight c = λ databases weight asked.
    is_unsettled c.args.view.now (table_of databases c.args.sessions.now weight) asked (sym (ap (λ (v : View). v.serving) c.view.view_is) ∙ c.if-not-view.false) (sym (c.change_in_flight.ensures databases weight) ∙ c.if-change_in_flight.true)

pub returns : goal.returns
returns c = λ databases weight asked.
    is_settled c.args.view.now (table_of databases c.args.sessions.now weight) asked (sym (ap (λ (v : View). v.serving) c.view.view_is) ∙ c.if-not-view.false) (sym (c.change_in_flight.ensures databases weight) ∙ c.if-change_in_flight.false)
