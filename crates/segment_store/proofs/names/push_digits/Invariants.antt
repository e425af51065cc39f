use Rattle.std.proofs.Common.{◌≡◌, ◌++◌, take}
use Rattle.std.specs.Prelude.{map, string_bytes}
use Rattle.segment_store.specs.FileNames.{digit}
use Rattle.segment_store.proofs.names.push_digits.Given as goal

abbrev pub invariant-loop-power : goal.invariant-loop-power
invariant-loop-power l = string_bytes l.text ≡ string_bytes l.initial.text ++ map (digit l.number) (take l.power-index l.powers)
