-- What the tokens of one statement make of it.
use Rattle.std.specs.Prelude.{◌≡◌, ℕ, ◌+◌, ◌||◌, Bool, true, false, max, List, [], ◌∷◌, ◌++◌, length, drop, Option, Some, None}
use Rattle.sql_scan.specs.declared.token.TokenKind.{TokenKind}
use Rattle.sql_scan.specs.declared.token.TokenKind.TheVariants.{Space, Comment, Quoted, Word, Parameter, Other}
use Rattle.sql_scan.specs.declared.heading.Keyword.{Keyword}
use Rattle.sql_scan.specs.declared.pieces.StatementSpan.{StatementSpan}
use Rattle.sql_scan.specs.Tokens.{Token}
use Rattle.sql_scan.specs.Grammar.{joined}
use Rattle.sql_scan.specs.Kinds.{kind_of}
use Rattle.sql_scan.specs.Statements.{keyword_in, parameter}

-- space and comments
abbrev pub is_gap : TokenKind → Bool
is_gap Space = true
is_gap Comment = true
is_gap _ = false

-- what a statement is made of besides
abbrev pub is_solid : TokenKind → Bool
is_solid Quoted = true
is_solid Word = true
is_solid Parameter = true
is_solid Other = true
is_solid _ = false

abbrev pub AreGaps : List Token → Type 0
AreGaps [] = Unit {0}
AreGaps (token ∷ others) = (is_gap token.kind ≡ true) × AreGaps others

-- tokens of one statement, of which the last is no gap
abbrev pub EndSolid : List Token → Type 0
EndSolid [] = Unit {0}
EndSolid (token ∷ []) = is_solid token.kind ≡ true
EndSolid (token ∷ next ∷ others) = ((is_gap token.kind || is_solid token.kind) ≡ true) × EndSolid (next ∷ others)

-- the words among them, and a plain one for each that is no word
abbrev pub word_in : TokenKind → List ℕ → List Keyword → List Keyword
word_in Space bytes words = words
word_in Comment bytes words = words
word_in kind bytes words = keyword_in kind bytes ∷ words

abbrev pub words_of : List Token → List Keyword
words_of [] = []
words_of (token ∷ others) = word_in token.kind token.bytes (words_of others)

abbrev pub numbered : ℕ → Option ℕ → Option ℕ
numbered greatest None = None
numbered greatest (Some n) = Some (max greatest n)

-- the greatest number so far with that of a token, if it is a parameter
abbrev pub with_number : ℕ → TokenKind → List ℕ → Option ℕ
with_number greatest Parameter bytes = numbered greatest (parameter greatest (drop 1 bytes))
with_number greatest kind bytes = Some greatest

-- the numbers of all parameters are in range, and this is the greatest of them and of the one before
abbrev pub Numbered : ℕ → List Token → ℕ → Type 0
Numbered before [] greatest = before ≡ greatest
Numbered before (token ∷ others) greatest = (n : ℕ) × (with_number before token.kind token.bytes ≡ Some n) × Numbered n others greatest

-- The tokens of one statement: space and comments, a first token that is none, others of which the last is none, and space
-- and comments again.
pub record Sentence : Type 0 where
  pub before : List Token
  pub first : Token
  pub inner : List Token
  pub behind : List Token

-- the tokens of the statement without what stands around it
abbrev pub own_tokens : Sentence → List Token
own_tokens s = s.first ∷ s.inner

abbrev pub all_tokens : Sentence → List Token
all_tokens s = s.before ++ (own_tokens s ++ s.behind)

-- These tokens are a statement, and the numbers of its parameters are in range; this is the greatest of them.
pub record IsSentence (s : Sentence) (greatest : ℕ) : Type 0 where
  pub gap_before : AreGaps s.before
  pub solid_first : is_solid s.first.kind ≡ true
  pub solid_end : EndSolid s.inner
  pub gap_behind : AreGaps s.behind
  pub numbers : Numbered 0 (own_tokens s) greatest

-- The statement that these tokens make from a place on: space and comments around it are left out, the kind is that of
-- its words, the count the greatest number of its parameters.
abbrev pub piece_of : ℕ → Sentence → ℕ → ℕ → StatementSpan
piece_of at s greatest after = record {
  start = at + length (joined s.before);
  end = at + length (joined s.before) + length (joined (own_tokens s));
  word = kind_of (words_of (own_tokens s));
  params = greatest;
  after = after;
}
