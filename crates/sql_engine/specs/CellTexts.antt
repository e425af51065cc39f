-- The texts of the statements of cells, and the statement that a text is.
use Rattle.std.specs.Prelude.{◌≡◌, ◌<◌, ◌≤◌, ◌^◌, ◌&&◌, ◌++◌, ℕ, Bool, List, codes, nat_lt, nat_le, Option, Some, None, if◌then◌else◌}
use Rattle.std.specs.Fmt.{decimal}
use Rattle.dq_base.specs.Decimal.{number_below}
use Rattle.dq_base.specs.Texts.{halves, behind, or_else}
use Rattle.sql_engine.specs.declared.cell_statement.CellStatement.{CellStatement}
use Rattle.sql_engine.specs.declared.cell_statement.CellStatement.TheVariants.{Set, Get, Wipe}

-- ---- how a statement is written

-- numbers are in decimal without sign or leading zeros, and one space is before each
abbrev pub spelled : CellStatement → List ℕ
spelled (Set page value) = codes "SET " ++ (decimal page ++ (codes " " ++ decimal value))
spelled (Get page) = codes "GET " ++ decimal page
spelled (Wipe pages) = codes "WIPE " ++ decimal pages

-- a page is one of the first 8,192 of the main file
abbrev pub IsCellPage : ℕ → Type 0
IsCellPage page = (1 ≤ page) × (page ≤ 8192)

-- which numbers a statement may have: a value has at most 19 digits
abbrev pub IsInRange : CellStatement → Type 0
IsInRange (Set page value) = IsCellPage page × (value < 10 ^ 19)
IsInRange (Get page) = IsCellPage page
IsInRange (Wipe pages) = pages ≤ 8192

-- the text is this statement
pub record Says (text : List ℕ) (statement : CellStatement) : Type 0 where
  pub in_range : IsInRange statement
  pub spelling : text ≡ spelled statement

-- ---- the statement that a text is

abbrev pub is_cell_page : ℕ → Bool
is_cell_page page = nat_le 1 page && nat_le page 8192

abbrev pub set_of : Option ℕ → Option ℕ → Option CellStatement
set_of (Some page) (Some value) = if is_cell_page page && nat_lt value (10 ^ 19) then Some (Set page value) else None
set_of page value = None

abbrev pub get_of : Option ℕ → Option CellStatement
get_of (Some page) = if is_cell_page page then Some (Get page) else None
get_of None = None

abbrev pub wipe_of : Option ℕ → Option CellStatement
wipe_of (Some pages) = if nat_le pages 8192 then Some (Wipe pages) else None
wipe_of None = None

-- what follows `SET `
abbrev pub set_in : Option (List ℕ × List ℕ) → Option CellStatement
set_in (Some both) = set_of (number_below (2 ^ 64) both.0) (number_below (2 ^ 64) both.1)
set_in None = None

-- the statement that a text is
unfoldable pub statement_of : List ℕ → Option CellStatement
statement_of text =
    or_else (behind (codes "SET ") text) (λ rest. set_in (halves rest))
    (or_else (behind (codes "GET ") text) (λ rest. get_of (number_below (2 ^ 64) rest))
    (or_else (behind (codes "WIPE ") text) (λ rest. wipe_of (number_below (2 ^ 64) rest))
    None))
