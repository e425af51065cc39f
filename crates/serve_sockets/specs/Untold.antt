-- A dialer that reports its counts and not its calls.
use Rattle.std.specs.Prelude.{ℕ, None}
use Rattle.client.specs.Net.{Net}

-- how many times a call failed, an address was dialled, and one could not be
pub record Counts : Type 0 where
  pub faults : ℕ
  pub dialled : ℕ
  pub undialled : ℕ

abbrev pub net_of : Counts → Net
net_of counts = record { faults = counts.faults; dialled = counts.dialled; undialled = counts.undialled; calls = None }
