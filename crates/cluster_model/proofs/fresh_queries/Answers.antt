use Rattle.cluster_model.proofs.Barriers.{fresh_queries_hold}
use Rattle.cluster_model.proofs.fresh_queries.Goals as goal

pub returns : goal.returns
returns g c = λ kind. fresh_queries_hold (g.E.Engine.meaning kind) kind
