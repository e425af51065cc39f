-- The commit index of a leader. `has` says up to which index each voter has the leader's log.
use Rattle.std.specs.Prelude.{ℕ, zero, suc, Bool, cond, ◌&&◌, ◌==◌, nat_lt, nat_le, List, length}
use Rattle.raft_spec.specs.Log.{Entry, term_at}
use Rattle.raft_spec.specs.Node.{Node, majority}

-- A voter has what its Acks reported; the leader counts itself as having its whole log.
abbrev pub has : ℕ → Node → ℕ → ℕ
has me s p = cond (p == me) (length s.log) (s.match_of p)

-- A majority of the voters has the entry at the index, and it is of this term: a leader commits by counting only entries of its own term.
unfoldable pub is_stored_by_majority : List Entry → ℕ → List ℕ → (ℕ → ℕ) → ℕ → Bool
is_stored_by_majority log term ids has k = (term_at log k == term) && majority ids (λ p. nat_le k (has p))

-- The greatest index above the commit index, and no greater than the last argument, that is so stored; else the commit index.
unfoldable pub commit_up_to : List Entry → ℕ → List ℕ → (ℕ → ℕ) → ℕ → ℕ → ℕ
commit_up_to log term ids has commit zero = commit
commit_up_to log term ids has commit (suc k) =
    cond (nat_lt commit (suc k)) (cond (is_stored_by_majority log term ids has (suc k)) (suc k) (commit_up_to log term ids has commit k)) commit

-- A majority of a leader's voters stores the entry: by its log, its term, the voters that its log gives, and what it knows of them.
unfoldable pub majority_stores : (List Entry → List ℕ) → ℕ → Node → ℕ → Bool
majority_stores voters_of me s k = is_stored_by_majority s.log s.term (voters_of s.log) (has me s) k

-- A leader's commit index by the indexes up to the last argument.
unfoldable pub commit_below : (List Entry → List ℕ) → ℕ → Node → ℕ → ℕ
commit_below voters_of me s k = commit_up_to s.log s.term (voters_of s.log) (has me s) s.commit k

-- The commit index that a leader moves to at the end of a step.
unfoldable pub commit_index : (List Entry → List ℕ) → ℕ → Node → ℕ
commit_index voters_of me s = commit_below voters_of me s (length s.log)
