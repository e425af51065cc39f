use Rattle.script_safety.proofs.Showing.{shown_alike_holds}
use Rattle.script_safety.proofs.nodes_are_shown_alike.Goals as goal

pub returns : goal.returns
returns g c = λ kind. shown_alike_holds (g.E.Engine.meaning kind) kind
