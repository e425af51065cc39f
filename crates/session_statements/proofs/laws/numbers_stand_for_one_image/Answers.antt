use Rattle.session_statements.proofs.Agreeing.{may_run, ran, forgotten, joined}
use Rattle.session_statements.proofs.AgreeingOn.{went_on}
use Rattle.session_statements.proofs.laws.numbers_stand_for_one_image.Goals as goal

pub returns-clause-runs : goal.returns-clause-runs
returns-clause-runs c = may_run

pub returns-clause-ran : goal.returns-clause-ran
returns-clause-ran c = ran

pub returns-clause-forgotten : goal.returns-clause-forgotten
returns-clause-forgotten c = forgotten

pub returns-clause-begun : goal.returns-clause-begun
returns-clause-begun c = joined

pub returns-clause-acted : goal.returns-clause-acted
returns-clause-acted c = went_on
