use Rattle.serve_safety.proofs.Alone.{alone_is_safe_hold}
use Rattle.serve_safety.proofs.served_alone_is_safe.Goals as goal

pub returns : goal.returns
returns g c = λ kind. alone_is_safe_hold (g.E.Engine.meaning kind) kind
