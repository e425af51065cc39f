use Rattle.std.proofs.Common.{◌≡◌, bit_xor, map, take}
use Rattle.peer_secret.proofs.hmac.padded.Given as goal

-- the bytes so far
abbrev pub invariant-loop-byte : goal.invariant-loop-byte
invariant-loop-byte l = l.padded.items ≡ map (λ byte. bit_xor byte l.pad) (take l.byte-index l.block)
