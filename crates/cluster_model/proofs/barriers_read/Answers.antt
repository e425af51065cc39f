use Rattle.cluster_model.proofs.Laters.{barriers_read_hold}
use Rattle.cluster_model.proofs.barriers_read.Goals as goal

pub returns : goal.returns
returns g c = λ kind. barriers_read_hold (g.E.Engine.meaning kind) kind
