-- The statements that tokens make, one token after the other.
use Rattle.std.specs.Prelude.{◌≡◌, ℕ, ◌+◌, ◌*◌, ◌-◌, Bool, true, false, ◌&&◌, nat_le, max, List, [], ◌∷◌, ◌++◌, length, drop, Option, Some, None, option_to_list, Result, Ok, Err, MatchResult, if◌then◌else◌}
use Rattle.sql_scan.specs.declared.token.TokenKind.{TokenKind}
use Rattle.sql_scan.specs.declared.token.TokenKind.TheVariants as tokens
use Rattle.sql_scan.specs.declared.heading.Keyword.{Keyword}
use Rattle.sql_scan.specs.declared.heading.Keyword.TheVariants.{Plain}
use Rattle.sql_scan.specs.declared.heading.StatementHead.{StatementHead}
use Rattle.sql_scan.specs.declared.heading.StatementHead.TheVariants.{Blank}
use Rattle.sql_scan.specs.declared.draft.PartialStatement.{PartialStatement}
use Rattle.sql_scan.specs.declared.pieces.StatementSpan.{StatementSpan}
use Rattle.sql_scan.specs.declared.fault.ScanFault.{ScanFault}
use Rattle.sql_scan.specs.declared.fault.ScanFault.TheVariants.{OpenQuote, OpenComment, Named, Number, NoMemory}
use Rattle.sql_scan.specs.Tokens.{Token, tokens_of}
use Rattle.sql_scan.specs.Words.{keyword_of, followed_by, kind_so_far}

-- ---- parameters

-- the number that decimal digits after a number make of it
unfoldable pub decimal : ℕ → List ℕ → ℕ
decimal n [] = n
decimal n (d ∷ ds) = decimal (10 * n + (d - 48)) ds

-- a parameter's number, if it has one that it may have
unfoldable pub in_range : ℕ → Option ℕ
in_range n = if nat_le 1 n && nat_le n 32766 then Some n else None

-- the number of a parameter with these digits: without any, one more than the greatest so far
abbrev pub number_of : ℕ → List ℕ → ℕ
number_of greatest [] = greatest + 1
number_of greatest (d ∷ ds) = decimal 0 (d ∷ ds)

unfoldable pub parameter : ℕ → List ℕ → Option ℕ
parameter greatest digits = in_range (number_of greatest digits)

-- ---- a statement as far as it was read

abbrev pub is_blank : StatementHead → Bool
is_blank Blank = true
is_blank _ = false

-- nothing of a statement but the place after the one before
abbrev pub blank : ℕ → PartialStatement
blank at = record { start = at; end = at; params = 0; heading = Blank }

abbrev pub keyword_in : TokenKind → List ℕ → Keyword
keyword_in tokens.Word bytes = keyword_of bytes
keyword_in _ bytes = Plain

-- with a token that is no space: the statement begins with the first, and ends with the last
unfoldable pub solid : PartialStatement → ℕ → TokenKind → List ℕ → PartialStatement
solid draft at kind bytes = record {
  start = if is_blank draft.heading then at else draft.start;
  end = at + length bytes;
  params = draft.params;
  heading = followed_by draft.heading (keyword_in kind bytes);
}

-- with a parameter, whose number is in range: the count is the greatest number
abbrev pub counted : ℕ → PartialStatement → Option ℕ → Result PartialStatement ScanFault
counted at draft None = Err (Number at)
counted at draft (Some n) = Ok (record draft { params = max draft.params n })

-- with the token that is at this place
unfoldable pub extended : PartialStatement → ℕ → TokenKind → List ℕ → Result PartialStatement ScanFault
extended draft at tokens.Space bytes = Ok draft
extended draft at tokens.Comment bytes = Ok draft
extended draft at tokens.OpenComment bytes = Err (OpenComment at)
extended draft at tokens.OpenQuote bytes = Err (OpenQuote at)
extended draft at tokens.Named bytes = Err (Named at)
extended draft at tokens.Parameter bytes = counted at (solid draft at tokens.Parameter bytes) (parameter draft.params (drop 1 bytes))
extended draft at tokens.Quoted bytes = Ok (solid draft at tokens.Quoted bytes)
extended draft at tokens.Word bytes = Ok (solid draft at tokens.Word bytes)
extended draft at tokens.End bytes = Ok draft
extended draft at tokens.Other bytes = Ok (solid draft at tokens.Other bytes)

-- the statement, if there is one; the rest of the text begins at the place after
unfoldable pub finished : PartialStatement → ℕ → Option StatementSpan
finished draft after =
    if is_blank draft.heading then None
    else Some (record { start = draft.start; end = draft.end; word = kind_so_far draft.heading; params = draft.params; after = after })

-- ---- all statements

-- no statement ends here
abbrev pub still : Result PartialStatement ScanFault → Result (List StatementSpan × PartialStatement) ScanFault
still (Ok draft) = Ok ([], draft)
still (Err fault) = Err fault

-- the statement that ends with a token, and what there is of the next
abbrev pub moved : PartialStatement → ℕ → TokenKind → List ℕ → Result (List StatementSpan × PartialStatement) ScanFault
moved draft at tokens.End bytes = Ok (option_to_list (finished draft (at + length bytes)), blank (at + length bytes))
moved draft at kind bytes = still (extended draft at kind bytes)

-- the first statements and then the others, unless there is a fault
abbrev pub with_front : List StatementSpan → Result (List StatementSpan) ScanFault → Result (List StatementSpan) ScanFault
with_front front (Ok others) = Ok (front ++ others)
with_front front (Err fault) = Err fault

infixl 10 ◌>>=◌
abbrev pub ◌>>=◌ : {A B : Type 0} → Result A ScanFault → (A → Result B ScanFault) → Result B ScanFault
(Ok x) >>= f = f x
(Err e) >>= f = Err e

-- The statements from a place on, if the first of them is this draft so far, and these tokens follow. Or the first fault.
unfoldable pub statements_from : ℕ → PartialStatement → List Token → Result (List StatementSpan) ScanFault
statements_from at draft [] = Ok (option_to_list (finished draft at))
statements_from at draft (token ∷ others) =
    moved draft at token.kind token.bytes >>= λ m. with_front m.0 (statements_from (at + length token.bytes) m.1 others)

-- the statements that the tokens of a text make, or the first fault among them
abbrev pub statements_of : List Token → Result (List StatementSpan) ScanFault
statements_of tokens = statements_from 0 (blank 0) tokens

-- the statements of a text, or its first fault
unfoldable pub scan_of : List ℕ → Result (List StatementSpan) ScanFault
scan_of text = statements_of (tokens_of text)

-- A fault is the one that the definition gives, unless memory ran out.
abbrev pub Fails : {Y : Type 0} → ScanFault → Result Y ScanFault → Type 0
Fails NoMemory there = Unit {0}
Fails fault there = there ≡ Err fault

-- What was found, seen by view, is what there is to be found.
abbrev pub Gives : {X Y : Type 0} → (X → Y) → Result X ScanFault → Result Y ScanFault → Type 0
Gives view result there = MatchResult result (λ x. there ≡ Ok (view x)) (λ e. Fails e there)

-- What a token did to the statements that were found: those that it ends follow them, or it is a fault, or memory
-- ran out.
abbrev pub Moves : PartialStatement → ℕ → TokenKind → List ℕ → List StatementSpan → List StatementSpan → Result PartialStatement ScanFault → Type 0
Moves draft at kind bytes old new result =
    MatchResult result (λ next. (front : List StatementSpan) × (moved draft at kind bytes ≡ Ok (front, next)) × (new ≡ old ++ front)) (λ e. Fails e (moved draft at kind bytes))
