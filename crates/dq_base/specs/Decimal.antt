-- Numbers in decimal, without sign or leading zeros.
use Rattle.std.specs.Prelude.{◌≡◌, ◌≢◌, ◌<◌, ◌&&◌, ℕ, List, length, slice_index, nat_lt, Option, Some, None, if◌then◌else◌}
use Rattle.std.specs.Str.{bytes_eq}
use Rattle.std.specs.Str.Parse.{digits_value}
use Rattle.std.specs.Fmt.{decimal}

-- neither a sign nor a leading zero, as `0` itself has not
pub record IsPlain (word : List ℕ) : Type 0 where
  pub some : 0 < length word
  pub unsigned : slice_index word 0 ≢ 43
  pub tight : slice_index word 0 ≡ 48 → length word ≡ 1

-- the word is how a number below a limit is written
pub record IsNumber (limit : ℕ) (word : List ℕ) (n : ℕ) : Type 0 where
  pub small : n < limit
  pub written : word ≡ decimal n

-- the number below a limit that a word is: writing it gives the word again
unfoldable pub number_below : ℕ → List ℕ → Option ℕ
number_below limit word =
    if bytes_eq (decimal (digits_value 10 word)) word && nat_lt (digits_value 10 word) limit
    then Some (digits_value 10 word)
    else None
