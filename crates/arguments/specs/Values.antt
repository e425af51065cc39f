-- The values of words.
use Rattle.std.specs.Prelude.{◌^◌, ◌==◌, ◌||◌, ℕ, Bool, false, not, ◌&&◌, cond, List, [], ◌∷◌, length, nat_le, nat_lt, codes, Option, Some, None}
use Rattle.std.specs.List.{list_all, position_or_len, before_first, after_first}
use Rattle.std.specs.Str.{bytes_eq}
use Rattle.clap.specs.Walk.{Text}
use Rattle.dq_base.specs.Names.{has_nul}
use Rattle.dq_base.specs.Decimal.{number_below}
use Rattle.sql_engine.specs.declared.kind.EngineKind.{EngineKind}
use Rattle.sql_engine.specs.declared.kind.EngineKind.TheVariants.{Sqlite, Cells}

-- the kind of engine of a name; SQLite's, if none is named
abbrev pub engine_named : Option Text → Option EngineKind
engine_named None = Some Sqlite
engine_named (Some name) = cond (bytes_eq name (codes "sqlite")) (Some Sqlite) (cond (bytes_eq name (codes "cells")) (Some Cells) None)

-- an option without a value is there
abbrev pub is_set : Option Text → Bool
is_set None = false
is_set (Some word) = bytes_eq word (codes "true")

abbrev pub is_within : ℕ → ℕ → ℕ → Bool
is_within least most number = nat_le least number && nat_le number most

abbrev pub within : ℕ → ℕ → Option ℕ → Option ℕ
within least most None = None
within least most (Some number) = cond (is_within least most number) (Some number) None

-- a number in decimal, not less than the one and not more than the other
abbrev pub number_in : ℕ → ℕ → Option Text → Option ℕ
number_in least most None = None
number_in least most (Some word) = within least most (number_below (2 ^ 32) word)

-- ---- addresses

abbrev pub is_port_number : Option ℕ → Bool
is_port_number None = false
is_port_number (Some number) = is_within 1 65535 number

-- a port is a number of 1 to 65535
abbrev pub is_port : Text → Bool
is_port text = is_port_number (number_below (2 ^ 32) text)

abbrev pub is_digit : ℕ → Bool
is_digit byte = is_within 48 57 byte

-- one of `A-Za-z0-9._-`
unfoldable pub is_host_byte : ℕ → Bool
is_host_byte byte = is_within 97 122 byte || (is_within 65 90 byte || (is_digit byte || (byte == 45 || (byte == 46 || byte == 95))))

-- a digit in base 16, `:`, `.` or `%`
unfoldable pub is_bracket_byte : ℕ → Bool
is_bracket_byte byte = is_within 97 102 byte || (is_within 65 70 byte || (is_digit byte || (byte == 58 || (byte == 46 || byte == 37))))

-- the name of a host, or an IPv4 address
unfoldable pub is_host : Text → Bool
is_host text = nat_le 1 (length text) && list_all is_host_byte text

abbrev pub is_colon : ℕ → Bool
is_colon byte = byte == 58

-- HOST:PORT
unfoldable pub is_at_host : Text → Bool
is_at_host text =
    cond (nat_lt (position_or_len is_colon text) (length text)) (is_host (before_first is_colon text) && is_port (after_first is_colon text)) false

abbrev pub after_byte : ℕ → Text → Option Text
after_byte byte [] = None
after_byte byte (first ∷ rest) = cond (first == byte) (Some rest) None

abbrev pub is_bracketed : Option Text → Bool
is_bracketed None = false
is_bracketed (Some inside) = nat_le 1 (length inside) && list_all is_bracket_byte inside

abbrev pub is_behind_brackets : Option Text → Bool
is_behind_brackets None = false
is_behind_brackets (Some port) = is_port port

abbrev pub is_close : ℕ → Bool
is_close byte = byte == 93

-- [IPV6]:PORT
unfoldable pub is_at_brackets : Text → Bool
is_at_brackets text =
    cond (nat_lt (position_or_len is_close text) (length text))
    (is_bracketed (after_byte 91 (before_first is_close text)) && is_behind_brackets (after_byte 58 (after_first is_close text))) false

-- an address is a host and a port, in at most 255 bytes
unfoldable pub is_address : Text → Bool
is_address text = nat_le (length text) 255 && (not (has_nul text) && (is_at_host text || is_at_brackets text))
