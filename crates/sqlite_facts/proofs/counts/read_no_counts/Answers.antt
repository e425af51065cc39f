use Rattle.sqlite_facts.proofs.Recounting.{read_no_counts}
use Rattle.sqlite_facts.proofs.counts.read_no_counts.Goals as goal

pub returns : goal.returns
returns g c = read_no_counts
