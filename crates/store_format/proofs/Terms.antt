-- The term of an entry at a place.
use Rattle.std.proofs.Common.{◌≡◌, ℕ, zero, suc, ◌<◌, List, [], ◌∷◌, length, refl, arith}
use Rattle.std.specs.Prelude.{slice_index_or}
use Rattle.raft_spec.specs.Log.{Entry}
use Rattle.store_laws.specs.Store.{nth_term}

pub nth_entry : (es : List Entry) (k : ℕ) (e : Entry) → k < length es → nth_term es k ≡ (slice_index_or es k e).term
nth_entry [] k d l = absurd (omega (arith, l))
nth_entry (e ∷ es) zero d l = refl
nth_entry (e ∷ es) (suc k) d l = nth_entry es k d (omega (arith, l))
