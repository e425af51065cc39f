-- A byte more in a CRC-32.
use Rattle.std.proofs.Common.{◌≡◌, ◌<◌, ◌+◌, ℕ, List, [], ◌∷◌, ◌++◌, length, take, get_or, refl, ap, ◌∙◌}
use Rattle.std.proofs.lemmas.List.{take_more}
use Rattle.store_format.specs.Sums.{crc_from, crc_byte}

pub crc_more : (c : ℕ) (bytes : List ℕ) (b : ℕ) → crc_from c (bytes ++ b ∷ []) ≡ crc_byte (crc_from c bytes) b
unfolding crc_from
crc_more c [] b = refl
crc_more c (x ∷ bytes) b = crc_more (crc_byte c x) bytes b

pub crc_none : (c : ℕ) → crc_from c [] ≡ c
unfolding crc_from
crc_none c = refl

pub crc_at : (c : ℕ) (bytes : List ℕ) (i : ℕ) (d : ℕ) → i < length bytes → crc_from c (take (i + 1) bytes) ≡ crc_byte (crc_from c (take i bytes)) (get_or bytes i d)
crc_at c bytes i d h = ap (crc_from c) (take_more bytes i d h) ∙ crc_more c (take i bytes) (get_or bytes i d)

pub crc_both : (c : ℕ) (xs ys : List ℕ) → crc_from c (xs ++ ys) ≡ crc_from (crc_from c xs) ys
unfolding crc_from
crc_both c [] ys = refl
crc_both c (x ∷ xs) ys = crc_both (crc_byte c x) xs ys
