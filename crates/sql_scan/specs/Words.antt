-- Keywords, and the kind of statement that its first words make.
use Rattle.std.specs.Prelude.{ℕ, Bool, true, false, ◌||◌, List, codes, if◌then◌else◌}
use Rattle.std.specs.Str.{str_eq_ignore_ascii_case}
use Rattle.sql_scan.specs.declared.heading.Keyword.{Keyword}
use Rattle.sql_scan.specs.declared.heading.Keyword.TheVariants.{Begin, Deferred, AtOnce, Transaction, Commit, Rollback, Write, LeftOut, Plain}
use Rattle.sql_scan.specs.declared.heading.WordKind.{WordKind}
use Rattle.sql_scan.specs.declared.heading.WordKind.TheVariants as kinds
use Rattle.sql_scan.specs.declared.heading.StatementHead.{StatementHead}
use Rattle.sql_scan.specs.declared.heading.StatementHead.TheVariants.{Blank, Begun, Open, Full, Settled}

-- a word is this name, with letters of either case
abbrev pub is : List ℕ → List ℕ → Bool
is word name = str_eq_ignore_ascii_case word name

abbrev pub changes_rows : List ℕ → Bool
changes_rows word = is word (codes "INSERT") || is word (codes "REPLACE") || is word (codes "UPDATE") || is word (codes "DELETE")

abbrev pub changes_schema : List ℕ → Bool
changes_schema word = is word (codes "CREATE") || is word (codes "DROP") || is word (codes "ALTER")

unfoldable pub is_write : List ℕ → Bool
is_write word = changes_rows word || changes_schema word

unfoldable pub is_left_out : List ℕ → Bool
is_left_out word = is word (codes "ATTACH") || is word (codes "DETACH") || is word (codes "PRAGMA") || is word (codes "VACUUM") || is word (codes "SAVEPOINT") || is word (codes "RELEASE")

-- the keyword that a word is
unfoldable pub keyword_of : List ℕ → Keyword
keyword_of word =
    if is word (codes "BEGIN") then Begin
    else if is word (codes "COMMIT") || is word (codes "END") then Commit
    else if is word (codes "ROLLBACK") then Rollback
    else if is word (codes "TRANSACTION") then Transaction
    else if is word (codes "DEFERRED") then Deferred
    else if is word (codes "IMMEDIATE") || is word (codes "EXCLUSIVE") then AtOnce
    else if is_write word then Write
    else if is_left_out word then LeftOut
    else Plain

abbrev pub first_heading : Keyword → StatementHead
first_heading Begin = Begun
first_heading Commit = Open kinds.Commit
first_heading Rollback = Open kinds.Rollback
first_heading Write = Settled kinds.Write
first_heading LeftOut = Settled kinds.LeftOut
first_heading _ = Settled kinds.Other

abbrev pub after_begin : Keyword → StatementHead
after_begin Deferred = Open (kinds.Begin false)
after_begin AtOnce = Open (kinds.Begin true)
after_begin Transaction = Full (kinds.Begin false)
after_begin _ = Settled kinds.LeftOut

abbrev pub after_open : WordKind → Keyword → StatementHead
after_open kind Transaction = Full kind
after_open kind _ = Settled kinds.LeftOut

-- the first words with one more, or with something that is no word
unfoldable pub followed_by : StatementHead → Keyword → StatementHead
followed_by Blank keyword = first_heading keyword
followed_by Begun keyword = after_begin keyword
followed_by (Open kind) keyword = after_open kind keyword
followed_by (Full kind) keyword = Settled kinds.LeftOut
followed_by (Settled kind) keyword = Settled kind

-- what the first words make so far
unfoldable pub kind_so_far : StatementHead → WordKind
kind_so_far Blank = kinds.Other
kind_so_far Begun = kinds.Begin false
kind_so_far (Open kind) = kind
kind_so_far (Full kind) = kind
kind_so_far (Settled kind) = kind
