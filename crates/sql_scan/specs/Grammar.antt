-- The grammar of tokens: which bytes are a token of each kind, and what may follow it.
use Rattle.std.specs.Prelude.{◌≡◌, ◌≢◌, ℕ, Bool, true, false, not, ◌==◌, ◌&&◌, ◌||◌, ◌⊎◌, List, [], ◌∷◌, ◌++◌, if◌then◌else◌}
use Rattle.std.specs.List.{AllPass, flat_map}
use Rattle.sql_scan.specs.declared.token.TokenKind.{TokenKind}
use Rattle.sql_scan.specs.declared.token.TokenKind.TheVariants.{Space, Comment, OpenComment, Quoted, OpenQuote, Word, Parameter, Named, End, Other}
use Rattle.sql_scan.specs.Bytes.{is_space, is_digit, is_word_start, is_word_part, is_sigil, is_quote, is_in_line}
use Rattle.sql_scan.specs.Tokens.{Token}

-- the bytes don't begin with a byte of this kind
abbrev pub StopsAt : (ℕ → Bool) → List ℕ → Type 0
StopsAt p [] = Unit {0}
StopsAt p (b ∷ bytes) = p b ≡ false

-- The bytes are all of this kind, and no further one follows.
pub record Runs (p : ℕ → Bool) (bytes after : List ℕ) : Type 0 where
  pub each : AllPass p bytes
  pub stops : StopsAt p after

-- a content as it is written inside quotes: each of these quotes doubled
abbrev pub doubled : ℕ → ℕ → List ℕ
doubled quote b = if b == quote then quote ∷ quote ∷ [] else b ∷ []

abbrev pub spelled : ℕ → List ℕ → List ℕ
spelled quote content = flat_map (doubled quote) content

-- a star and a slash are in front, or anywhere
abbrev pub ends_here : List ℕ → Bool
ends_here [] = false
ends_here (a ∷ []) = false
ends_here (a ∷ b ∷ bytes) = a == 42 && b == 47

unfoldable pub has_end : List ℕ → Bool
has_end [] = false
has_end (b ∷ bytes) = ends_here (b ∷ bytes) || has_end bytes

abbrev pub is_bracket_inside : ℕ → Bool
is_bracket_inside b = not (b == 93)

-- ', " or a backquote, a content with these quotes doubled, and the quote again, and no further one
abbrev pub IsQuoted : List ℕ → List ℕ → Type 0
IsQuoted token after = (quote : ℕ) × (content : List ℕ) × (is_quote quote ≡ true) × (token ≡ quote ∷ (spelled quote content ++ quote ∷ [])) × StopsAt (λ b. b == quote) after

-- [, bytes without a ], and a ]
abbrev pub IsBracketed : List ℕ → Type 0
IsBracketed token = (inside : List ℕ) × AllPass is_bracket_inside inside × (token ≡ 91 ∷ (inside ++ 93 ∷ []))

-- the same up to the end of the text, where no quote ends it
abbrev pub IsOpenQuoted : List ℕ → Type 0
IsOpenQuoted token = (quote : ℕ) × (content : List ℕ) × (is_quote quote ≡ true) × (token ≡ quote ∷ spelled quote content)

abbrev pub IsOpenBracketed : List ℕ → Type 0
IsOpenBracketed token = (inside : List ℕ) × AllPass is_bracket_inside inside × (token ≡ 91 ∷ inside)

-- two dashes, and all up to the end of the line
abbrev pub IsLineComment : List ℕ → List ℕ → Type 0
IsLineComment token after = (bytes : List ℕ) × Runs is_in_line bytes after × (token ≡ 45 ∷ 45 ∷ bytes)

-- slash and star, and all up to the first star and slash after them
abbrev pub IsStarComment : List ℕ → Type 0
IsStarComment token = (inside : List ℕ) × (has_end (inside ++ 42 ∷ []) ≡ false) × (token ≡ 47 ∷ 42 ∷ (inside ++ 42 ∷ 47 ∷ []))

-- A byte that is its own token: none of the others begins with it.
pub record IsAlone (b : ℕ) (after : List ℕ) : Type 0 where
  pub space : is_space b ≡ false
  pub word : is_word_start b ≡ false
  pub quote : is_quote b ≡ false
  pub bracket : b ≢ 91
  pub end : b ≢ 59
  pub parameter : b ≢ 63
  pub named : is_sigil b ≡ true → StopsAt is_word_start after
  pub line : b ≡ 45 → StopsAt (λ c. c == 45) after
  pub star : b ≡ 47 → StopsAt (λ c. c == 42) after

-- the bytes are a token of this kind where these bytes follow
abbrev pub IsToken : TokenKind → List ℕ → List ℕ → Type 0
IsToken Space token after = (b : ℕ) × (is_space b ≡ true) × (token ≡ b ∷ [])
IsToken Comment token after = IsLineComment token after ⊎ IsStarComment token
IsToken OpenComment token after = (inside : List ℕ) × (has_end inside ≡ false) × (token ≡ 47 ∷ 42 ∷ inside) × (after ≡ [])
IsToken Quoted token after = IsQuoted token after ⊎ IsBracketed token
IsToken OpenQuote token after = (IsOpenQuoted token ⊎ IsOpenBracketed token) × (after ≡ [])
IsToken Word token after = (b : ℕ) × (bytes : List ℕ) × (is_word_start b ≡ true) × Runs is_word_part bytes after × (token ≡ b ∷ bytes)
IsToken Parameter token after = (digits : List ℕ) × Runs is_digit digits after × (token ≡ 63 ∷ digits)
IsToken Named token after = (b first : ℕ) × (bytes : List ℕ) × (is_sigil b ≡ true) × (is_word_start first ≡ true) × Runs is_word_part bytes after × (token ≡ b ∷ first ∷ bytes)
IsToken End token after = token ≡ 59 ∷ []
IsToken Other token after = (b : ℕ) × IsAlone b after × (token ≡ b ∷ [])

-- the tokens' bytes, one after the other
abbrev pub joined : List Token → List ℕ
joined tokens = flat_map (λ token. token.bytes) tokens

-- each is a token where those after it follow
abbrev pub AreTokens : List Token → Type 0
AreTokens [] = Unit {0}
AreTokens (token ∷ others) = IsToken token.kind token.bytes (joined others) × AreTokens others

-- The text is these tokens, one after the other.
pub record Cuts (text : List ℕ) (tokens : List Token) : Type 0 where
  pub together : joined tokens ≡ text
  pub each : AreTokens tokens
