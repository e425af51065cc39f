use Rattle.std.proofs.Common.{ℕ, List, Option, IfOk, sym, ap, subst, ◌∙◌}
use Rattle.dq_base.specs.declared.images.Image.{Image}
use Rattle.session_spec.specs.Machine.{machine_of}
use Rattle.session_spec.specs.Sessions.{Transaction as RuleTransaction}
use Rattle.session_table.specs.Table.{table_of, session_of}
use Rattle.session_outcomes.specs.Turning.{MatchesOutcome}
use Rattle.session_statements.specs.Running.{Shows}
use Rattle.session_outcomes.specs.Runs.{ran_in}
use Rattle.session_outcomes.proofs.Ground.{ground_inside, ground_outside, tx_inside, tx_outside}
use Rattle.session_outcomes.proofs.running.decision_of.Goals as goal

pub returns-in-Some-clause-comes : goal.returns-in-Some-clause-comes
returns-in-Some-clause-comes c = λ weight tx statements ended number shows.
    subst (λ (o : Option RuleTransaction). IfOk c.decision_inside.result (MatchesOutcome c.args.setting.now.view.now (machine_of c.args.setting.now.machine.now) (session_of c.args.setting.now.machine.now c.args.session.now) (ran_in c.args.setting.now.view.now (machine_of c.args.setting.now.machine.now) (table_of c.args.setting.now.machine.now c.args.sessions.now weight) c.args.session.now.conn (session_of c.args.setting.now.machine.now c.args.session.now) o statements c.args.rows ended))) (sym (tx_inside c.args.setting.now.machine.now c.args.session.now c.in-Some.transaction c.in-Some.is))
    (c.decision_inside.ensures.comes weight tx c.args.setting.now.view.now statements ended (subst (λ (image : Image). Shows tx image ended c.args.ending) (ground_inside c.args.setting.now.machine.now c.args.session.now c.in-Some.transaction c.in-Some.is) shows))

pub returns-in-None-clause-comes : goal.returns-in-None-clause-comes
returns-in-None-clause-comes c = λ weight tx statements ended number shows.
    subst (λ (o : Option RuleTransaction). IfOk c.decision_outside.result (MatchesOutcome c.args.setting.now.view.now (machine_of c.args.setting.now.machine.now) (session_of c.args.setting.now.machine.now c.args.session.now) (ran_in c.args.setting.now.view.now (machine_of c.args.setting.now.machine.now) (table_of c.args.setting.now.machine.now c.args.sessions.now weight) c.args.session.now.conn (session_of c.args.setting.now.machine.now c.args.session.now) o statements c.args.rows ended))) (sym (tx_outside c.args.setting.now.machine.now c.args.session.now c.in-None.is))
    (c.decision_outside.ensures weight tx statements ended number (subst (λ (image : Image). Shows tx image ended c.args.ending) (ground_outside c.args.setting.now.machine.now c.args.session.now c.in-None.is ∙ ap (λ (name : List ℕ). ((machine_of c.args.setting.now.machine.now).base name).image) c.opened_name-name.ensures) shows))
