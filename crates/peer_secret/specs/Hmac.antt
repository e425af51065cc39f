-- HMAC-SHA-256 as a function on lists of bytes.
use Rattle.std.specs.Prelude.{ℕ, List, ◌++◌, ◌-◌, length, take, map, replicate, bit_xor, cond, nat_lt}
use Rattle.sha2.specs.Sha256.{sha256}

-- a key, or its digest if it is longer than a block
abbrev pub short_key : List ℕ → List ℕ
short_key key = cond (nat_lt 64 (length key)) (sha256 key) key

-- the same as one block of 64 bytes, with zeros after it
abbrev pub key_block : List ℕ → List ℕ
key_block key = take 64 (short_key key) ++ replicate (64 - length (short_key key)) 0

-- a block with a byte mixed into each of its bytes
abbrev pub padded : ℕ → List ℕ → List ℕ
padded pad block = map (λ byte. bit_xor byte pad) block

-- the digest of the outer block and of the digest of the inner block and the message
abbrev pub hmac : List ℕ → List ℕ → List ℕ
hmac key message = sha256 (padded 92 (key_block key) ++ sha256 (padded 54 (key_block key) ++ message))
