use Rattle.raft_safety.proofs.a_run_is_made.Goals as goal
use Rattle.raft_safety.proofs.Examples.{leader_commits_holds, fourth_joins_holds, install_serves_holds, office_passes_holds}

pub returns-clause-elected : goal.returns-clause-elected
returns-clause-elected c = leader_commits_holds

pub returns-clause-joined : goal.returns-clause-joined
returns-clause-joined c = fourth_joins_holds

pub returns-clause-installed : goal.returns-clause-installed
returns-clause-installed c = install_serves_holds

pub returns-clause-passed : goal.returns-clause-passed
returns-clause-passed c = office_passes_holds
