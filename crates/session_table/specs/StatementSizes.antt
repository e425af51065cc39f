-- How many bytes a statement keeps.
use Rattle.std.specs.Prelude.{◌+◌, ℕ, List, [], ◌∷◌, length}
use Rattle.wire_words.specs.declared.value.Value.{Value}
use Rattle.wire_words.specs.declared.value.Value.TheVariants as values
use Rattle.sql_engine.specs.Replies.{Statement}

-- a value counts 32 bytes, and besides those of its text or blob
abbrev pub value_size : Value → ℕ
value_size (values.Integer number) = 32
value_size (values.Text text) = length text + 32
value_size (values.Blob bytes) = length bytes + 32
value_size values.Null = 32

abbrev pub values_size : List Value → ℕ
values_size [] = 0
values_size (v ∷ vs) = value_size v + values_size vs

-- the bytes of its text, and the values of its parameters
abbrev pub statement_size : Statement → ℕ
statement_size s = length s.text + values_size s.params
