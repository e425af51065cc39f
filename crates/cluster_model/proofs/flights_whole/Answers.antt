use Rattle.cluster_model.proofs.Laters.{flights_whole_hold}
use Rattle.cluster_model.proofs.flights_whole.Goals as goal

pub returns : goal.returns
returns g c = λ kind. flights_whole_hold (g.E.Engine.meaning kind) kind
