use Rattle.node_spec.proofs.OwnTerms.{leaders_own}
use Rattle.node_spec.proofs.leaders_own_commits.Goals as goal

pub returns : goal.returns
returns c = leaders_own
