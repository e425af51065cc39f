use Rattle.std.proofs.Common.{false, sym, subst}
use Rattle.std.proofs.lemmas.Result.{IfOk-weaker, err_from_is_err_and}
use Rattle.session_spec.specs.Engines.{no_answer, runs}
use Rattle.session_spec.specs.Machine.{machine_of}
use Rattle.session_spec.specs.Requests.{ground}
use Rattle.session_spec.specs.Sessions.{Turned}
use Rattle.session_statements.specs.Texts.{assigned}
use Rattle.session_table.specs.Table.{table_of, session_of}
use Rattle.session_outcomes.specs.Turning.{MatchesOutcome}
use Rattle.session_outcomes.proofs.Formed.{well_formed}
use Rattle.session_outcomes.proofs.Ground.{has_opened, run_is}
use Rattle.session_outcomes.proofs.NeverUnopened.{was_unopened}
use Rattle.session_table.specs.Working.{works_of}
use Rattle.session_outcomes.specs.Numbers.{work_left}
use Rattle.session_outcomes.proofs.Placed.{found_agree, found_served, found_ran, found_runs}
use Rattle.session_outcomes.proofs.Works.{agree_left, agree_stopped, agree_turned}
use Rattle.session_outcomes.proofs.running.run_script.Goals as goal

pub decision_of-requires-clause-open : goal.decision_of-requires-clause-open
decision_of-requires-clause-open g c =
    let found = c.index-known-place.result in
    has_opened found.database (found_served c.args.sessions.now c.run_at.new.sessions c.args.place found c.run_at.ensures.kept c.requires.within c.index-known-place.is c.args.setting.now.view.now c.args.setting.now.machine.now c.requires.served).opened

pub decision_of-requires-clause-formed : goal.decision_of-requires-clause-formed
decision_of-requires-clause-formed g c =
    let found = c.index-known-place.result in
    let run = found_ran c.args.sessions.now c.run_at.new.sessions c.args.place found c.run_at.ensures.kept c.requires.within c.index-known-place.is _ _ _ _ _ _ _ c.in_ok-ending.ending c.in_ok-ending.ensures.ran in
    well_formed _ _ c.next_run-options.result.tx (ground (machine_of c.args.setting.now.machine.now) (session_of c.args.setting.now.machine.now found) (session_of c.args.setting.now.machine.now found).tx) (assigned c.args.script.now.text c.args.script.now.pieces c.args.params.now) run.answers c.in_ok-ending.ending run.allowed run.ends

pub returns-clause-unopened : goal.returns-clause-unopened
returns-clause-unopened g c =
    let found = c.index-known-place.result in
    let run = found_ran c.args.sessions.now c.run_at.new.sessions c.args.place found c.run_at.ensures.kept c.requires.within c.index-known-place.is _ _ _ _ _ _ _ c.in_ok-ending.ending c.in_ok-ending.ensures.ran in
    let served = found_served c.args.sessions.now c.run_at.new.sessions c.args.place found c.run_at.ensures.kept c.requires.within c.index-known-place.is c.args.setting.now.view.now c.args.setting.now.machine.now c.requires.served in
    let ended = runs (ground (machine_of c.args.setting.now.machine.now) (session_of c.args.setting.now.machine.now found) (session_of c.args.setting.now.machine.now found).tx) no_answer (assigned c.args.script.now.text c.args.script.now.pieces c.args.params.now) run.answers in
    IfOk-weaker c.decision_of.result _ _ (λ decision comes is. c.in_ok-ending.ensures.unopened (was_unopened c.args.setting.now.view.now (machine_of c.args.setting.now.machine.now) (table_of c.args.setting.now.machine.now c.run_at.new.sessions 0) found.conn (session_of c.args.setting.now.machine.now found) (session_of c.args.setting.now.machine.now found).tx (assigned c.args.script.now.text c.args.script.now.pieces c.args.params.now) false c.next_run-options.result.tx (ground (machine_of c.args.setting.now.machine.now) (session_of c.args.setting.now.machine.now found) (session_of c.args.setting.now.machine.now found).tx) ended c.in_ok-ending.ending decision run.ends comes is))
    (c.decision_of.ensures.comes 0 c.next_run-options.result.tx (assigned c.args.script.now.text c.args.script.now.pieces c.args.params.now) ended (λ room. c.next_run-options.ensures (c.requires.term served.serves) room) run.ends)

pub returns-clause-ran : goal.returns-clause-ran
returns-clause-ran g c = λ own weight.
    let found = c.index-known-place.result in
    let run = found_ran c.args.sessions.now c.run_at.new.sessions c.args.place found c.run_at.ensures.kept c.requires.within c.index-known-place.is _ _ _ _ _ _ _ c.in_ok-ending.ending c.in_ok-ending.ensures.ran in
    let served = found_served c.args.sessions.now c.run_at.new.sessions c.args.place found c.run_at.ensures.kept c.requires.within c.index-known-place.is c.args.setting.now.view.now c.args.setting.now.machine.now c.requires.served in
    let ended = runs (ground (machine_of c.args.setting.now.machine.now) (session_of c.args.setting.now.machine.now found) (session_of c.args.setting.now.machine.now found).tx) no_answer (assigned c.args.script.now.text c.args.script.now.pieces c.args.params.now) run.answers in
    found_runs c.args.sessions.now c.run_at.new.sessions c.args.place found c.run_at.ensures.kept c.requires.within c.index-known-place.is _ _ c.args.setting.now.view.now c.args.setting.now.machine.now weight (assigned c.args.script.now.text c.args.script.now.pieces c.args.params.now) false _ _ c.decision_of.result own
    (IfOk-weaker c.decision_of.result _ _ (λ decision comes. record {
      answers = run.answers;
      allowed = run.allowed;
      told = run.told;
      exact = run.exact;
      is = subst (λ (turned : Turned). MatchesOutcome c.args.setting.now.view.now (machine_of c.args.setting.now.machine.now) (session_of c.args.setting.now.machine.now found) turned decision) (sym (run_is c.args.setting.now.view.now (machine_of c.args.setting.now.machine.now) (table_of c.args.setting.now.machine.now c.run_at.new.sessions weight) found.conn (session_of c.args.setting.now.machine.now found) (session_of c.args.setting.now.machine.now found).tx (assigned c.args.script.now.text c.args.script.now.pieces c.args.params.now) false run.answers)) comes;
    })
    (c.decision_of.ensures.comes weight c.next_run-options.result.tx (assigned c.args.script.now.text c.args.script.now.pieces c.args.params.now) ended (λ room. c.next_run-options.ensures (c.requires.term served.serves) room) run.ends))

pub returns-in_err-ending-clause-agree : goal.returns-in_err-ending-clause-agree
returns-in_err-ending-clause-agree g c = λ own.
    let p = err_from_is_err_and c.from_residual.result c.from_residual.ensures.1 in
    rw p.1 (agree_stopped _ _ (works_of c.args.sessions.now) c.args.setting.now.number _ c.run_at.ensures.known c.requires.agree)

pub returns-clause-agree : goal.returns-clause-agree
returns-clause-agree g c = λ own.
    let found = c.index-known-place.result in
    let image = ground (machine_of c.args.setting.now.machine.now) (session_of c.args.setting.now.machine.now found) (session_of c.args.setting.now.machine.now found).tx in
    found_agree c.args.sessions.now c.run_at.new.sessions c.args.place found c.run_at.ensures.kept c.requires.within c.index-known-place.is _ _ _ c.decision_of.result own
    (agree_turned _ (work_left image c.args.setting.now.number c.in_ok-ending.ending) (works_of c.args.sessions.now) _ _ c.decision_of.result found.transaction c.decision_of.ensures.works
    (agree_left _ _ (works_of c.args.sessions.now) c.args.setting.now.number _ image c.in_ok-ending.ending c.run_at.ensures.known c.requires.agree))
