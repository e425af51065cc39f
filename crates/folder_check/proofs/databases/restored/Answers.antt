use Rattle.folder_check.proofs.Restored.{some_restored, none_restored}
use Rattle.folder_check.proofs.databases.restored.Goals as goal

pub returns-in-Some : goal.returns-in-Some
returns-in-Some c = some_restored c.in-Some.applied c.in_ok-applied.applied c.args.bytes.now c.in-Some.is c.in_ok-applied.ensures.exact

pub returns-in-None : goal.returns-in-None
returns-in-None c = none_restored c.in_ok-applied.applied c.args.bytes.now c.in-None.is c.in_ok-applied.ensures.exact
