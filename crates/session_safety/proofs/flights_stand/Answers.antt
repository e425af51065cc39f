use Rattle.session_safety.proofs.Lives.{flights_stand_hold}
use Rattle.session_safety.proofs.flights_stand.Goals as goal

pub returns : goal.returns
returns g c = λ kind. flights_stand_hold (g.E.Engine.meaning kind) kind
