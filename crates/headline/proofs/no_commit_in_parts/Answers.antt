use Rattle.headline.proofs.Transactions.{no_commit_in_parts}
use Rattle.headline.proofs.no_commit_in_parts.Goals as goal

pub returns : goal.returns
returns g c kind = no_commit_in_parts _
