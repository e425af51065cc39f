use Rattle.session_safety.proofs.Commits.{one_commit_holds, commits_apply_hold, only_commits_hold}
use Rattle.session_safety.proofs.commits_stand_alone.Goals as goal

pub returns-clause-once : goal.returns-clause-once
returns-clause-once c = one_commit_holds

pub returns-clause-alone : goal.returns-clause-alone
returns-clause-alone c = commits_apply_hold

pub returns-clause-only : goal.returns-clause-only
returns-clause-only c = only_commits_hold
