use Rattle.std.specs.Arc.{arc_value}
use Rattle.session_outcomes.proofs.Queries.{job_so}
use Rattle.session_outcomes.proofs.reading.job.Goals as goal

pub returns : goal.returns
returns c = job_so c.args.setting.now.machine.now c.args.session.now c.opened_name-opened.result.now c.in_ok-name.name c.as_str.result.now (arc_value c.in_ok-image.image) c.args.query.now c.in_ok-query.query c.opened_name-opened.ensures c.in_ok-name.ensures c.as_str.ensures.value c.in_ok-image.ensures c.in_ok-query.ensures
