use Rattle.std.proofs.Common.{◌≡◌, drop}
use Rattle.segment_store.specs.Listed.{read_digits}
use Rattle.folder_tail.proofs.names.number_in.Given as goal

abbrev pub invariant-loop-digit : goal.invariant-loop-digit
invariant-loop-digit l = read_digits 0 l.digits ≡ read_digits l.number (drop l.digit-index l.digits)
