use Rattle.sqlite_facts.proofs.TwoReadings.{one_database}
use Rattle.sqlite_facts.proofs.databases.one_database.Goals as goal

pub returns : goal.returns
returns c = one_database
