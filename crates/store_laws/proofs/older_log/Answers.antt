use Rattle.store_laws.proofs.older_log.Goals as goal
use Rattle.store_laws.proofs.OlderLogs.{older_log_holds}

pub returns : goal.returns
returns c = older_log_holds
