use Rattle.sqlite_files.proofs.StampedPages.{same_counts}
use Rattle.sqlite_files.proofs.stamps.reach.Goals as goal

pub returns-clause-count : goal.returns-clause-count
returns-clause-count c = same_counts _ _ c.grow.ensures.same
