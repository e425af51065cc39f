use Rattle.std.proofs.Common.{◌≡◌, take}
use Rattle.sqlite_engine.proofs.texts.own_columns.Given as goal

-- the copies so far are those of the columns so far
abbrev pub invariant-loop-column : goal.invariant-loop-column
invariant-loop-column l = l.own.items ≡ take l.column-index l.columns
