use Rattle.session_outcomes.proofs.Works.{learnt_at, of_none}
use Rattle.session_statements.specs.Learning.{IsLearnt, left_by}
use Rattle.session_outcomes.proofs.running.run_on.Goals as goal

pub returns-in-Some-clause-learnt : goal.returns-in-Some-clause-learnt
returns-in-Some-clause-learnt g c = learnt_at _ _ c.args.before c.in-Some.before c.args.image.now c.args.number (left_by c.args.image.now c.run_one.result) c.in-Some.is c.run_one.ensures.learnt

pub returns-in-None-clause-learnt : goal.returns-in-None-clause-learnt
returns-in-None-clause-learnt g c = of_none (IsLearnt _ c.args.before c.args.image.now c.args.number (left_by c.args.image.now c.run_unnumbered.result)) _ c.run_unnumbered.ensures.known
