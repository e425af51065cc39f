use Rattle.cluster_model.proofs.Queries.{barrier_queries_hold}
use Rattle.cluster_model.proofs.barrier_queries.Goals as goal

pub returns : goal.returns
returns g c = λ kind. barrier_queries_hold (g.E.Engine.meaning kind) kind
