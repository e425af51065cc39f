-- Names are the same or not.
use Rattle.std.proofs.Common.{◌≡◌}

pub data Apart {N : Type 0} (m n : N) : Type 0 where
  same : m ≡ n → Apart m n
  apart : (m ≡ n → ⊥) → Apart m n
