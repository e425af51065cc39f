-- The commit index, as a loop from the log's end downwards finds it.
use Rattle.std.proofs.Common.{◌≡◌, ℕ, zero, suc, ◌<◌, ◌≤◌, true, false, List, refl, ◌∙◌}
use Rattle.std.specs.Prelude.{nat_lt, cond}
use Rattle.std.proofs.lemmas.Bool.{cond-true, cond-false, lt-ltb, le-ltb}
use Rattle.raft_spec.specs.Log.{Entry}
use Rattle.raft_spec.specs.Commitment.{is_stored_by_majority, commit_up_to}

module _ (log : List Entry) (term : ℕ) (vs : List ℕ) (has : ℕ → ℕ) (commit : ℕ) where
  -- down to the commit index it stays
  pub commit_stays : (k : ℕ) → k ≤ commit → commit_up_to log term vs has commit k ≡ commit
  unfolding commit_up_to
  commit_stays zero le = refl
  commit_stays (suc k) le = cond-false (nat_lt commit (suc k)) (cond (is_stored_by_majority log term vs has (suc k)) (suc k) (commit_up_to log term vs has commit k)) commit (le-ltb commit (suc k) le)

  -- an index that a majority has is found
  pub commit_found : (k : ℕ) → commit < suc k → is_stored_by_majority log term vs has (suc k) ≡ true → commit_up_to log term vs has commit (suc k) ≡ suc k
  unfolding commit_up_to
  commit_found k lt e = cond-true (nat_lt commit (suc k)) (cond (is_stored_by_majority log term vs has (suc k)) (suc k) (commit_up_to log term vs has commit k)) commit (lt-ltb _ _ lt) ∙ cond-true (is_stored_by_majority log term vs has (suc k)) (suc k) (commit_up_to log term vs has commit k) e

  -- one that none has is passed over
  pub commit_skips : (k : ℕ) → commit < suc k → is_stored_by_majority log term vs has (suc k) ≡ false → commit_up_to log term vs has commit (suc k) ≡ commit_up_to log term vs has commit k
  unfolding commit_up_to
  commit_skips k lt e = cond-true (nat_lt commit (suc k)) (cond (is_stored_by_majority log term vs has (suc k)) (suc k) (commit_up_to log term vs has commit k)) commit (lt-ltb _ _ lt) ∙ cond-false (is_stored_by_majority log term vs has (suc k)) (suc k) (commit_up_to log term vs has commit k) e
