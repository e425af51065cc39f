use Rattle.sql_engine.proofs.Leading.{leads_on}
use Rattle.sql_engine.proofs.laws.answers_lead_on.Goals as goal

pub returns : goal.returns
returns g c = λ kind. leads_on (g.E.Engine.meaning kind)
