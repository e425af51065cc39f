-- What a step of the code's node hands to its owner of its log: entries that are to be kept, or a snapshot that came.
use Rattle.std.specs.Prelude.{◌≡◌, ◌≢◌, ◌⊎◌, ℕ, suc, ◌-◌, ◌<◌, ◌≤◌, Option, Some, None, List, length, take}
use Rattle.raft_spec.specs.Log.{Entry, LogEnd, term_at}
use Rattle.raft_spec.specs.Node.{Node}

-- The new log is another one than the old from this index on: before it both are the same, at it the old one ends or has another term. What is committed is before it.
pub record Begins (commit : ℕ) (old new : List Entry) (first : ℕ) : Type 0 where
  pub past : commit < first
  pub next : first ≤ suc (length old)
  pub within : first ≤ length new
  pub same : take (first - 1) new ≡ take (first - 1) old
  pub differs : (first ≡ suc (length old)) ⊎ (term_at old first ≢ term_at new first)

-- The index from which on the entries of the new log are to be kept, in place of all from there; none exactly if the log stays.
abbrev pub IsBatch : ℕ → List Entry → List Entry → Option ℕ → Type 0
IsBatch commit old new None = new ≡ old
IsBatch commit old new (Some first) = Begins commit old new first

-- The end of a snapshot past the commit index, which an Install brought, and then no batch; else a batch. An own snapshot isn't in it: its owner has kept it before.
abbrev pub IsLogWrite : Node → Node → Option LogEnd → Option ℕ → Type 0
IsLogWrite s t None batch = (t.snapshot ≡ s.snapshot) × IsBatch s.commit s.log t.log batch
IsLogWrite s t (Some last) batch = (s.commit < t.snapshot.index) × (last ≡ t.snapshot) × (batch ≡ None)
