use Rattle.std.proofs.Common.{◌≡◌, ◌++◌, drop}
use Rattle.wire_rows.specs.Spelling.{names_bytes, HaveNoNul}
use Rattle.wire_rows.proofs.writing.put_names.Given as goal

abbrev pub invariant-loop-name : goal.invariant-loop-name
invariant-loop-name l = (l.out ++ names_bytes (drop l.name-index l.names) ≡ l.initial.out ++ names_bytes l.names) × HaveNoNul (drop l.name-index l.names)
