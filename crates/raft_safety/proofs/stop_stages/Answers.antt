use Rattle.raft_safety.proofs.stop_stages.Goals as goal
use Rattle.raft_safety.proofs.Steps.{whole_account_holds, stops_before_holds, stops_at_meta_holds, stops_at_log_holds}

pub returns-clause-whole : goal.returns-clause-whole
returns-clause-whole c = whole_account_holds

pub returns-clause-before : goal.returns-clause-before
returns-clause-before c = stops_before_holds

pub returns-clause-meta : goal.returns-clause-meta
returns-clause-meta c = stops_at_meta_holds

pub returns-clause-log : goal.returns-clause-log
returns-clause-log c = stops_at_log_holds
