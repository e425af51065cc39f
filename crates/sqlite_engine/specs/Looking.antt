-- Texts that look, and change nothing.
use Rattle.std.specs.Prelude.{◌≡◌, ℕ, ◌<◌, List, [], length, Option, None, IsSome, Result, Ok, Err}
use Rattle.std.specs.List.{All, Contains}
use Rattle.dq_base.specs.declared.images.Image.{Image}
use Rattle.sqlite.specs.Files.{file_state}
use Rattle.sqlite.specs.Listing.{understood}
use Rattle.sqlite_schema.specs.declared.schema.Schema.{Schema}
use Rattle.sqlite_facts.specs.Counts.{LooksOnly}
use Rattle.sqlite_resolve.specs.declared.compiled.Compiled.{Compiled}
use Rattle.sqlite_resolve.specs.declared.error.CompileError.{CompileError}
use Rattle.sql_engine.specs.declared.answer.StatementResult.{StatementResult}
use Rattle.sqlite_engine.specs.declared.texts.LookingText.{LookingText}
use Rattle.sqlite_engine.specs.Naming.{told_names}
use Rattle.sqlite_engine.specs.Sql.{Conn, Finds, NamesColumns}

-- a text with RETURNING, and one without
abbrev pub HasReturning : Result Compiled CompileError → Type 0
HasReturning (Ok c) = IsSome c.returning
HasReturning (Err e) = ⊥

abbrev pub HasNoReturning : Result Compiled CompileError → Type 0
HasNoReturning (Ok c) = c.returning ≡ None
HasNoReturning (Err e) = Unit {0}

-- on each connection that finds the image the text has no RETURNING
abbrev pub ReturnsNothing : Image → List ℕ → Type 0
ReturnsNothing image text = (limit : Option ℕ) (c : Conn) → Finds image limit (file_state c) → HasNoReturning (understood (file_state c).now.schema text)

-- a text that shows rows, and has no RETURNING, leaves the image as it is
abbrev pub LeavesLooked : Image → List ℕ → StatementResult → Type 0
LeavesLooked image text ran = 0 < length ran.columns → ReturnsNothing image text → ran.after.pages ≡ []

-- under this schema the text shows these columns, which are some, and changes nothing
pub record OnlyShows (schema : Schema) (text : List ℕ) (columns : List (List ℕ)) : Type 0 where
  pub only : LooksOnly (understood schema text)
  pub shows : NamesColumns schema text columns
  pub some : 0 < length columns

-- each of these texts does so
abbrev pub AllLook : Schema → List LookingText → Type 0
AllLook schema texts = All (λ (it : LookingText). OnlyShows schema it.text it.columns) texts

-- a text is one of these, and an answer gives its columns these names
pub record IsNoted (texts : List LookingText) (text : List ℕ) (names : List (List ℕ)) : Type 0 where
  pub columns : List (List ℕ)
  pub among : Contains texts (record { text = text; columns = columns })
  pub told : names ≡ told_names columns

-- the text looks only, and an answer gives its columns these names
pub record LooksUnder (schema : Schema) (text : List ℕ) (names : List (List ℕ)) : Type 0 where
  pub columns : List (List ℕ)
  pub looks : ∥ OnlyShows schema text columns ∥₁
  pub told : names ≡ told_names columns
