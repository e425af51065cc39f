-- The batches of one segment, taken into a log one after the other.
use Rattle.std.specs.Prelude.{◌≡◌, ℕ, ◌+◌, ◌<◌, ◌≤◌, Bool, true, false, nat_lt, List, length, drop}
use Rattle.store_laws.specs.Store.{Format, Reader, Log, put_batch, log_of, batches, torn, batches_in, has_any}
use Rattle.store_laws.specs.Damage.{good_end}

-- one batch at a place, or none there
abbrev pub Steps : Reader → List ℕ → ℕ → ℕ → Log → Log → Bool → Type 0
Steps rd bytes place after old new true = (0 < (rd (drop place bytes)).size) × ((after ≡ place + (rd (drop place bytes)).size) × (new ≡ put_batch old (rd (drop place bytes)).batch))
Steps rd bytes place after old new false = ((rd (drop place bytes)).size ≡ 0) × ((after ≡ place) × (new ≡ old))

-- After the first word all batches were taken, up to a place at which none reads.
pub record ReadsAll (rd : Reader) (bytes : List ℕ) (old new : Log) (end : ℕ) : Type 0 where
  pub log : new ≡ log_of old (batches rd (length bytes) (drop 8 bytes))
  pub any : nat_lt 8 end ≡ has_any (batches rd (length bytes) (drop 8 bytes))
  pub torn : torn rd (length bytes) (drop 8 bytes) ≡ drop end bytes
  pub from : 8 ≤ end
  pub within : end ≤ length bytes

-- The batches of a segment were taken, and this far it reads.
pub record InLog (f : Format) (bytes : List ℕ) (old new : Log) (end : ℕ) : Type 0 where
  pub log : new ≡ log_of old (batches_in f bytes)
  pub any : nat_lt 8 end ≡ has_any (batches_in f bytes)
  pub good : end ≡ good_end f bytes
