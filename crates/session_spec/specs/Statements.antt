-- The statements of a text of SQL, and those that a session has prepared.
use Rattle.std.specs.Prelude.{ℕ, suc, ◌-◌, Bool, true, false, not, ◌||◌, ◌==◌, List, [], ◌∷◌, length, take, drop, set, slice_get, sum_by, is_none, Option, Some, None}
use Rattle.std.specs.List.{list_any, count_by}
use Rattle.wire_words.specs.declared.value.Value.{Value}
use Rattle.sql_scan.specs.declared.pieces.StatementSpan.{StatementSpan}
use Rattle.sql_scan.specs.declared.heading.WordKind.{WordKind}
use Rattle.sql_scan.specs.declared.heading.WordKind.TheVariants as words
use Rattle.sql_engine.specs.Replies.{Statement}
use Rattle.session_spec.specs.Sessions.{Prepared}

-- a piece of a text as a statement
abbrev pub prepared_from : List ℕ → StatementSpan → Prepared
prepared_from sql piece = record { text = take (piece.end - piece.start) (drop piece.start sql); word = piece.word; params = piece.params }

-- it begins or ends a transaction
abbrev pub is_control : WordKind → Bool
is_control (words.Begin at_once) = true
is_control words.Commit = true
is_control words.Rollback = true
is_control words.Write = false
is_control words.LeftOut = false
is_control words.Other = false

abbrev pub is_left_out : WordKind → Bool
is_left_out (words.Begin at_once) = false
is_left_out words.Commit = false
is_left_out words.Rollback = false
is_left_out words.Write = false
is_left_out words.LeftOut = true
is_left_out words.Other = false

-- it begins an INSERT, REPLACE, UPDATE or DELETE, or a CREATE, DROP or ALTER
abbrev pub is_write_word : WordKind → Bool
is_write_word (words.Begin at_once) = false
is_write_word words.Commit = false
is_write_word words.Rollback = false
is_write_word words.Write = true
is_write_word words.LeftOut = false
is_write_word words.Other = false

-- one of these statements writes
abbrev pub any_write : List Prepared → Bool
any_write ps = list_any (λ (p : Prepared). is_write_word p.word) ps

-- one of these statements must not be in a query, or among several
abbrev pub any_barred : List Prepared → Bool
any_barred ps = list_any (λ (p : Prepared). is_control p.word || is_left_out p.word) ps

-- the statements have another number of parameters together than are given
abbrev pub wrong_params : List Prepared → List Value → Bool
wrong_params ps params = not (sum_by (λ (p : Prepared). p.params) ps == length params)

-- each statement takes as many parameters as it counts, in order
abbrev pub with_params : List Prepared → List Value → List Statement
with_params [] params = []
with_params (p ∷ ps) params = record { text = p.text; params = take p.params params } ∷ with_params ps (drop p.params params)

-- one statement with all parameters
abbrev pub with_all : Prepared → List Value → Statement
with_all p params = record { text = p.text; params = params }

-- ---- the statements that a session has prepared, by their numbers

abbrev pub flat : Option (Option Prepared) → Option Prepared
flat None = None
flat (Some o) = o

-- the statement of a number, if any
abbrev pub prepared_at : List (Option Prepared) → ℕ → Option Prepared
prepared_at statements id = flat (slice_get statements id)

-- how many there are
abbrev pub prepared_count : List (Option Prepared) → ℕ
prepared_count statements = count_by (λ (o : Option Prepared). not (is_none o)) statements

-- the least number that is free
abbrev pub free_id : List (Option Prepared) → ℕ
free_id [] = 0
free_id (None ∷ others) = 0
free_id (Some p ∷ others) = suc (free_id others)

-- with a statement under that number
abbrev pub with_prepared : Prepared → List (Option Prepared) → List (Option Prepared)
with_prepared p [] = Some p ∷ []
with_prepared p (None ∷ others) = Some p ∷ others
with_prepared p (Some q ∷ others) = Some q ∷ with_prepared p others

-- without the statement of a number
abbrev pub without_prepared : ℕ → List (Option Prepared) → List (Option Prepared)
without_prepared id statements = set statements id None
