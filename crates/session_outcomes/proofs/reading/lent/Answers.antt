use Rattle.session_spec.specs.Machine.{machine_of}
use Rattle.session_table.specs.Table.{session_of}
use Rattle.session_outcomes.proofs.Queries.{lent_so}
use Rattle.session_outcomes.proofs.reading.lent.Goals as goal

pub returns-clause-comes : goal.returns-clause-comes
returns-clause-comes c = λ v.
    lent_so v (machine_of c.args.setting.now.machine.now) (session_of c.args.setting.now.machine.now c.args.session.now) c.in_ok-query.query (record { text = c.args.text; params = c.args.params }) c.in_ok-job.job c.in_ok-query.ensures c.in_ok-job.ensures
