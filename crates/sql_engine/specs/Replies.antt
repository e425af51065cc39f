-- What a statement replies, before it is known whether the wire can carry it.
use Rattle.std.specs.Prelude.{◌≡◌, ℕ, suc, Bool, true, false, not, List, [], ◌∷◌, length, map, position, Option, Some, None}
use Rattle.std.specs.List.{AllByRecursion}
use Rattle.std.specs.Option.{option_map, option_or}
use Rattle.std.specs.Str.{is_utf8}
use Rattle.dq_base.specs.Names.{has_nul}
use Rattle.wire_words.specs.declared.value.Value.{Value}
use Rattle.wire_words.specs.declared.value.Value.TheVariants as values
use Rattle.sql_engine.specs.declared.fault.EngineFault.{EngineFault}
use Rattle.sql_engine.specs.declared.fault.EngineFault.TheVariants.{Float, NotText}

-- a value in a row of a reply: one of the wire, whose text may be any bytes, or a real number, which the wire never carries
pub data Shown : Type 0 where
  plain : Value → Shown
  real : Shown

-- how many rows were inserted, changed or deleted; the names of the columns; the rows
pub record Reply : Type 0 where
  pub affected : ℕ
  pub columns : List (List ℕ)
  pub rows : List (List Shown)

-- a statement: its text, and the values of its parameters
pub record Statement : Type 0 where
  pub text : List ℕ
  pub params : List Value

abbrev pub is_real : Shown → Bool
is_real real = true
is_real (plain v) = false

-- a text that isn't UTF-8
abbrev pub is_unreadable : Shown → Bool
is_unreadable (plain (values.Text t)) = not (is_utf8 t)
is_unreadable _ = false

-- where a value stands: the number of its row and that of its column, both from 0
pub record Place : Type 0 where
  pub row : ℕ
  pub column : ℕ

-- a place in the row of this number, else one in a later row
abbrev pub place_or : ℕ → Option ℕ → Option Place → Option Place
place_or row (Some column) later = Some (record { row = row; column = column })
place_or row None later = later

-- the first place of a value that passes the test in rows that are numbered from this number on
abbrev pub first_from : (Shown → Bool) → ℕ → List (List Shown) → Option Place
first_from test row [] = None
first_from test row (values ∷ rows) = place_or row (position test values) (first_from test (suc row) rows)

-- the first place of a value that passes the test, by rows and in a row by columns
abbrev pub first_place : (Shown → Bool) → List (List Shown) → Option Place
first_place test rows = first_from test 0 rows

-- Why rows can't be answered: there is a real value, the first by its place, or else a text that isn't UTF-8.
unfoldable pub fault_in : List (List Shown) → Option EngineFault
fault_in rows =
    option_or (option_map (λ p. Float p.row p.column) (first_place is_real rows))
    (option_map (λ p. NotText p.row p.column) (first_place is_unreadable rows))

-- rows of values of the wire
abbrev pub plain_rows : List (List Value) → List (List Shown)
plain_rows rows = map (map plain) rows

-- An answer is a table: no name of a column holds a NUL, each row has as many values as there are columns, and without
-- columns there are no rows.
pub record IsTable (columns : List (List ℕ)) (rows : List (List Value)) : Type 0 where
  pub named : AllByRecursion (λ name. has_nul name ≡ false) columns
  pub wide : AllByRecursion (λ row. length row ≡ length columns) rows
  pub empty : columns ≡ [] → rows ≡ []
