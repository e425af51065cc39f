use Rattle.raft_safety.proofs.exact_commit.Goals as goal
use Rattle.raft_safety.proofs.CommitSteps.{leader_commit_holds, current_voters_commit_holds, other_commit_holds, alone_commits_holds}

pub returns-clause-leader : goal.returns-clause-leader
returns-clause-leader c = leader_commit_holds

pub returns-clause-other : goal.returns-clause-other
returns-clause-other c = other_commit_holds

pub returns-clause-alone : goal.returns-clause-alone
returns-clause-alone c = alone_commits_holds

pub returns-clause-current : goal.returns-clause-current
returns-clause-current c = current_voters_commit_holds
