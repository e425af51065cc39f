use Rattle.raft_safety.proofs.older_terms_wait.Goals as goal
use Rattle.raft_safety.proofs.Examples.{older_entry_waits_holds, older_entry_goes_holds, older_terms_dont_count_holds}

pub returns-clause-waits : goal.returns-clause-waits
returns-clause-waits c = older_entry_waits_holds

pub returns-clause-goes : goal.returns-clause-goes
returns-clause-goes c = older_entry_goes_holds

pub returns-clause-counts : goal.returns-clause-counts
returns-clause-counts c = older_terms_dont_count_holds
