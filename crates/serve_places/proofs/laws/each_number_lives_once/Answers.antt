use Rattle.serve_places.proofs.Lives.{lives_once}
use Rattle.serve_places.proofs.laws.each_number_lives_once.Goals as goal

pub returns : goal.returns
returns g c = lives_once
