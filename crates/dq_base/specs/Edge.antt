-- A source over a reader of std, or a sink over a writer.
use Rattle.std.specs.Prelude.{ℕ, List, Option}

-- The bytes that the reader has left or the writer holds, if it tells them, and the count of faults. A file or a
-- stream reports none.
pub record Edge : Type 0 where
  pub bytes : Option (List ℕ)
  pub faults : ℕ
