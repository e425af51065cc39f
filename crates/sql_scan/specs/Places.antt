-- Where statements are in a text.
use Rattle.std.specs.Prelude.{◌<◌, ◌≤◌, ℕ, List, length}
use Rattle.std.specs.Str.{IsCharBoundary}
use Rattle.sql_scan.specs.declared.pieces.StatementSpan.{StatementSpan}

-- The places of a statement are in order, and the text may be split at each of them.
pub record StandsIn (text : List ℕ) (piece : StatementSpan) : Type 0 where
  pub some : piece.start < piece.end
  pub ordered : piece.end ≤ piece.after
  pub within : piece.after ≤ length text
  pub at_start : IsCharBoundary text piece.start
  pub at_end : IsCharBoundary text piece.end
  pub at_rest : IsCharBoundary text piece.after

-- one statement stands wholly before another
abbrev pub StandsBefore : StatementSpan → StatementSpan → Type 0
StandsBefore first second = first.after ≤ second.start
