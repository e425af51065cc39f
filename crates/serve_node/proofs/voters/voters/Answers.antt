use Rattle.serve_node.proofs.Configured.{stands}
use Rattle.serve_node.proofs.voters.voters.Goals as goal

pub returns-clause-stand : goal.returns-clause-stand
returns-clause-stand c = stands c.args.words.now c.named.result c.requires c.named.ensures
