use Rattle.std.proofs.Common.{◌≡◌, take}
use Rattle.store_format.specs.Sums.{crc_from}
use Rattle.store_format.proofs.sums.crc_over.Given as goal

abbrev pub invariant-loop-byte : goal.invariant-loop-byte
invariant-loop-byte l = l.rest ≡ crc_from l.start (take l.byte-index l.bytes)
