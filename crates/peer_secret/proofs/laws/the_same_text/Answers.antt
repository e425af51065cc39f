use Rattle.peer_secret.proofs.Differing.{same_text}
use Rattle.peer_secret.proofs.laws.the_same_text.Goals as goal

pub returns : goal.returns
returns c = same_text
