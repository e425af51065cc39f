use Rattle.std.proofs.Common.{[], ◌∷◌, sym, subst}
use Rattle.std.proofs.lemmas.Result.{IfOk-weaker}
use Rattle.session_spec.specs.Engines.{no_answer, runs}
use Rattle.session_spec.specs.Machine.{machine_of}
use Rattle.session_spec.specs.Requests.{ground}
use Rattle.session_spec.specs.Sessions.{Turned}
use Rattle.session_table.specs.Table.{table_of, session_of}
use Rattle.session_outcomes.specs.Turning.{MatchesOutcome}
use Rattle.session_outcomes.proofs.Formed.{well_formed}
use Rattle.session_outcomes.proofs.Ground.{has_opened, run_is}
use Rattle.session_outcomes.proofs.NeverUnopened.{was_unopened}
use Rattle.session_table.specs.Working.{works_of}
use Rattle.session_outcomes.specs.Numbers.{work_left}
use Rattle.session_outcomes.proofs.Works.{agree_turned}
use Rattle.session_outcomes.proofs.running.run_single.Goals as goal

pub decision_of-requires-clause-open : goal.decision_of-requires-clause-open
decision_of-requires-clause-open g c = has_opened c.args.session.now.database c.requires.served.opened

pub decision_of-requires-clause-formed : goal.decision_of-requires-clause-formed
decision_of-requires-clause-formed g c = well_formed _ _ c.next_run-options.result.tx (ground (machine_of c.args.setting.now.machine.now) (session_of c.args.setting.now.machine.now c.args.session.now) (session_of c.args.setting.now.machine.now c.args.session.now).tx) (record { text = c.args.text.now; params = c.args.params.now } ∷ []) c.in_ok-ending.ensures.ran.answers c.in_ok-ending.ending c.in_ok-ending.ensures.ran.allowed c.in_ok-ending.ensures.ran.ends

pub returns-clause-unopened : goal.returns-clause-unopened
returns-clause-unopened g c =
    let run = c.in_ok-ending.ensures.ran in
    let ended = runs (ground (machine_of c.args.setting.now.machine.now) (session_of c.args.setting.now.machine.now c.args.session.now) (session_of c.args.setting.now.machine.now c.args.session.now).tx) no_answer (record { text = c.args.text.now; params = c.args.params.now } ∷ []) run.answers in
    IfOk-weaker c.decision_of.result _ _ (λ decision comes is. c.in_ok-ending.ensures.unopened (was_unopened c.args.setting.now.view.now (machine_of c.args.setting.now.machine.now) (table_of c.args.setting.now.machine.now c.args.sessions.now 0) c.args.session.now.conn (session_of c.args.setting.now.machine.now c.args.session.now) (session_of c.args.setting.now.machine.now c.args.session.now).tx (record { text = c.args.text.now; params = c.args.params.now } ∷ []) c.args.rows c.next_run-options.result.tx (ground (machine_of c.args.setting.now.machine.now) (session_of c.args.setting.now.machine.now c.args.session.now) (session_of c.args.setting.now.machine.now c.args.session.now).tx) ended c.in_ok-ending.ending decision run.ends comes is))
    (c.decision_of.ensures.comes 0 c.next_run-options.result.tx (record { text = c.args.text.now; params = c.args.params.now } ∷ []) ended (λ room. c.next_run-options.ensures (c.requires.term c.requires.served.serves) room) run.ends)

pub returns-clause-ran : goal.returns-clause-ran
returns-clause-ran g c = λ weight.
    let run = c.in_ok-ending.ensures.ran in
    let ended = runs (ground (machine_of c.args.setting.now.machine.now) (session_of c.args.setting.now.machine.now c.args.session.now) (session_of c.args.setting.now.machine.now c.args.session.now).tx) no_answer (record { text = c.args.text.now; params = c.args.params.now } ∷ []) run.answers in
    IfOk-weaker c.decision_of.result _ _ (λ decision comes. record {
      answers = run.answers;
      allowed = run.allowed;
      told = run.told;
      exact = run.exact;
      is = subst (λ (turned : Turned). MatchesOutcome c.args.setting.now.view.now (machine_of c.args.setting.now.machine.now) (session_of c.args.setting.now.machine.now c.args.session.now) turned decision) (sym (run_is c.args.setting.now.view.now (machine_of c.args.setting.now.machine.now) (table_of c.args.setting.now.machine.now c.args.sessions.now weight) c.args.session.now.conn (session_of c.args.setting.now.machine.now c.args.session.now) (session_of c.args.setting.now.machine.now c.args.session.now).tx (record { text = c.args.text.now; params = c.args.params.now } ∷ []) c.args.rows run.answers)) comes;
    })
    (c.decision_of.ensures.comes weight c.next_run-options.result.tx (record { text = c.args.text.now; params = c.args.params.now } ∷ []) ended (λ room. c.next_run-options.ensures (c.requires.term c.requires.served.serves) room) run.ends)

pub returns-clause-agree : goal.returns-clause-agree
returns-clause-agree g c =
    let left = work_left (ground (machine_of c.args.setting.now.machine.now) (session_of c.args.setting.now.machine.now c.args.session.now) (session_of c.args.setting.now.machine.now c.args.session.now).tx) c.args.setting.now.number c.in_ok-ending.ending in
    agree_turned _ left (works_of c.args.sessions.now) _ _ c.decision_of.result c.args.session.now.transaction c.decision_of.ensures.works (c.in_ok-ending.ensures.agree (works_of c.args.sessions.now) c.requires.own c.requires.agree)
