-- Up to where entries that come agree with those that stand.
use Rattle.std.specs.Prelude.{◌≡◌, ◌<◌, ℕ, zero, suc, ◌+◌, Bool, false, cond, ◌==◌, Option, Some, None, ◌-◌, option_map, List, [], ◌∷◌, ◌++◌, length, take, drop}
use Rattle.raft_spec.specs.Log.{Entry}
use Rattle.raft_spec.specs.Compaction.{CutLog}

-- there is an entry of this term at the place, from 0
abbrev pub has_term : List Entry → ℕ → ℕ → Bool
has_term [] k term = false
has_term (e ∷ es) zero term = e.term == term
has_term (e ∷ es) (suc k) term = has_term es k term

-- how many entries of both, from the first on, have the same terms
abbrev pub agreeing_front : List Entry → List Entry → ℕ
agreeing_front [] es = 0
agreeing_front (r ∷ rs) [] = 0
agreeing_front (r ∷ rs) (e ∷ es) = cond (r.term == e.term) (suc (agreeing_front rs es)) 0

-- entries that come are taken in from a place on: all agree and nothing changes, or this many do, and from there on they are alone
abbrev pub TakesIn : List Entry → List Entry → ℕ → List Entry → Option ℕ → Type 0
TakesIn old new place coming None = (agreeing_front (drop place old) coming ≡ length coming) × (new ≡ old)
TakesIn old new place coming (Some n) = (agreeing_front (drop place old) coming ≡ n) × (n < length coming) × (new ≡ take (place + n) old ++ drop n coming)

-- a log that is compacted takes the entries that follow an index: the first index that is replaced or added is that of the first entry that doesn't agree
abbrev pub TakesAfter : CutLog → CutLog → ℕ → List Entry → Option ℕ → Type 0
TakesAfter old new after coming from = (agreeing : Option ℕ) × (from ≡ option_map (λ n. suc (after + n)) agreeing) × TakesIn old.entries new.entries (after - old.first.index) coming agreeing
