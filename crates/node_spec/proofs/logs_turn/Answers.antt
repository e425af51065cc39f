use Rattle.node_spec.proofs.Applying.{applying_goes_holds, ended_stay_holds}
use Rattle.node_spec.proofs.Owing.{owing_goes_holds}
use Rattle.node_spec.proofs.Serving.{serving_goes_holds}
use Rattle.node_spec.proofs.Taking.{proposal_goes_holds}
use Rattle.node_spec.proofs.logs_turn.Goals as goal

pub returns-clause-applies : goal.returns-clause-applies
returns-clause-applies g c = λ kind. applying_goes_holds (g.E.Engine.meaning kind) kind

pub returns-clause-ended : goal.returns-clause-ended
returns-clause-ended g c = ended_stay_holds

pub returns-clause-proposes : goal.returns-clause-proposes
returns-clause-proposes g c = λ kind. proposal_goes_holds (g.E.Engine.meaning kind) kind

pub returns-clause-owes : goal.returns-clause-owes
returns-clause-owes g c = λ kind. owing_goes_holds (g.E.Engine.meaning kind) kind

pub returns-clause-serves : goal.returns-clause-serves
returns-clause-serves g c = λ kind. serving_goes_holds (g.E.Engine.meaning kind) kind
