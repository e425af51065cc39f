-- The kind of a statement, by its first words.
use Rattle.std.specs.Prelude.{true, false, List, [], ◌∷◌}
use Rattle.std.specs.List.{fold}
use Rattle.sql_scan.specs.declared.heading.Keyword.{Keyword}
use Rattle.sql_scan.specs.declared.heading.Keyword.TheVariants.{Begin, Deferred, AtOnce, Transaction, Commit, Rollback, Write, LeftOut}
use Rattle.sql_scan.specs.declared.heading.WordKind.{WordKind}
use Rattle.sql_scan.specs.declared.heading.WordKind.TheVariants as kinds
use Rattle.sql_scan.specs.declared.heading.StatementHead.{StatementHead}
use Rattle.sql_scan.specs.declared.heading.StatementHead.TheVariants.{Blank}
use Rattle.sql_scan.specs.Words.{followed_by}

-- TRANSACTION may follow, and nothing else
abbrev pub with_transaction : WordKind → List Keyword → WordKind
with_transaction kind [] = kind
with_transaction kind (Transaction ∷ []) = kind
with_transaction kind (word ∷ others) = kinds.LeftOut

-- BEGIN may be followed by DEFERRED, IMMEDIATE or EXCLUSIVE, then TRANSACTION
abbrev pub begin_kind : List Keyword → WordKind
begin_kind (Deferred ∷ others) = with_transaction (kinds.Begin false) others
begin_kind (AtOnce ∷ others) = with_transaction (kinds.Begin true) others
begin_kind others = with_transaction (kinds.Begin false) others

-- the kind of a statement with these words, and with what is no word as a plain one
unfoldable pub kind_of : List Keyword → WordKind
kind_of (Begin ∷ others) = begin_kind others
kind_of (Commit ∷ others) = with_transaction kinds.Commit others
kind_of (Rollback ∷ others) = with_transaction kinds.Rollback others
kind_of (Write ∷ others) = kinds.Write
kind_of (LeftOut ∷ others) = kinds.LeftOut
kind_of others = kinds.Other

-- the same, one word after the other
abbrev pub heading_of : List Keyword → StatementHead
heading_of words = fold followed_by Blank words
