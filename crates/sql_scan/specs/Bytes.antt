-- The kinds of bytes in a text.
use Rattle.std.specs.Prelude.{ℕ, Bool, not, ◌==◌, ◌||◌, ◌&&◌, nat_le}

-- space, tab, LF, form feed, CR
unfoldable pub is_space : ℕ → Bool
is_space b = (b == 32) || (b == 10) || (b == 9) || (b == 13) || (b == 12)

unfoldable pub is_digit : ℕ → Bool
is_digit b = nat_le 48 b && nat_le b 57

-- an ASCII letter
unfoldable pub is_letter : ℕ → Bool
is_letter b = (nat_le 65 b && nat_le b 90) || (nat_le 97 b && nat_le b 122)

-- a letter, a digit, an underscore, or a byte above 127
unfoldable pub is_word_start : ℕ → Bool
is_word_start b = is_letter b || is_digit b || (b == 95) || nat_le 128 b

-- a word continues with these and with a dollar sign
unfoldable pub is_word_part : ℕ → Bool
is_word_part b = is_word_start b || (b == 36)

-- a colon, an at sign or a dollar sign, which make a parameter of a word after them
unfoldable pub is_sigil : ℕ → Bool
is_sigil b = (b == 58) || (b == 64) || (b == 36)

-- ', " or a backquote
unfoldable pub is_quote : ℕ → Bool
is_quote b = (b == 39) || (b == 34) || (b == 96)

-- all but LF
unfoldable pub is_in_line : ℕ → Bool
is_in_line b = not (b == 10)
