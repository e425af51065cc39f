-- A leader's commit index, as a loop from the log's end downwards finds it.
use Rattle.std.proofs.Common.{◌≡◌, ℕ, zero, suc, ◌-◌, ◌<◌, ◌≤◌, true, false, List, length, sym, ap, ◌∙◌, arith}
use Rattle.raft_spec.specs.Log.{Entry}
use Rattle.raft_spec.specs.Commitment.{is_stored_by_majority, commit_up_to}
use Rattle.raft_spec.specs.Progress.{LeaderProgress, has_in, commit_of}
use Rattle.raft_spec.proofs.Commits.{commit_stays, commit_found, commit_skips}

-- the commit index by the indexes up to one
abbrev pub found_to : LeaderProgress → List Entry → ℕ → ℕ → ℕ → ℕ
found_to v log term commit k = commit_up_to log term v.voters (has_in v (length log)) commit k

module _ (v : LeaderProgress) (log : List Entry) (term commit : ℕ) where
  pub at_end : (k : ℕ) → found_to v log term commit (length log) ≡ found_to v log term commit k → k ≤ commit → commit ≡ commit_of v log term commit
  at_end k e le = sym (e ∙ commit_stays log term v.voters (has_in v (length log)) commit k le)

  pub at_found : (k : ℕ) → found_to v log term commit (length log) ≡ found_to v log term commit k → commit < k → is_stored_by_majority log term v.voters (has_in v (length log)) k ≡ true → k ≡ commit_of v log term commit
  at_found zero e lt s = absurd (omega arith)
  at_found (suc k) e lt s = sym (e ∙ commit_found log term v.voters (has_in v (length log)) commit k lt s)

  pub at_skip : (k : ℕ) → found_to v log term commit (length log) ≡ found_to v log term commit k → commit < k → is_stored_by_majority log term v.voters (has_in v (length log)) k ≡ false → found_to v log term commit (length log) ≡ found_to v log term commit (k - 1)
  at_skip zero e lt s = absurd (omega arith)
  at_skip (suc k) e lt s = let is : k ≡ suc k - 1 = omega arith in e ∙ commit_skips log term v.voters (has_in v (length log)) commit k lt s ∙ ap (found_to v log term commit) is
