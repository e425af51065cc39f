-- Cutting a text into tokens.
use Rattle.std.specs.Prelude.{ℕ, zero, suc, ◌+◌, ◌-◌, false, ◌==◌, List, [], ◌∷◌, length, take, Option, Some, None, if◌then◌else◌}
use Rattle.sql_scan.specs.declared.token.TokenKind.{TokenKind}
use Rattle.sql_scan.specs.declared.token.TokenKind.TheVariants.{Space, Comment, OpenComment, Quoted, OpenQuote, Word, Parameter, Named, End, Other}
use Rattle.sql_scan.specs.Bytes.{is_space, is_digit, is_word_start, is_word_part, is_sigil, is_quote, is_in_line}
use Rattle.sql_scan.specs.Lengths.{run, quoted, bracketed, starred}

-- What a token is, and its bytes.
pub record Token : Type 0 where
  pub kind : TokenKind
  pub bytes : List ℕ

-- a token with an end to be found after this many bytes: whole up to there, or open up to the end of the text
abbrev pub closed : ℕ → TokenKind → TokenKind → List ℕ → Option ℕ → TokenKind × ℕ
closed lead whole open_kind bytes None = (open_kind, lead + length bytes)
closed lead whole open_kind bytes (Some n) = (whole, lead + n)

-- after a colon, an at sign or a dollar sign
unfoldable pub sigil_token : List ℕ → TokenKind × ℕ
sigil_token [] = (Other, 1)
sigil_token (b ∷ bytes) = if is_word_start b then (Named, 2 + run is_word_part bytes) else (Other, 1)

-- after a dash
unfoldable pub dash_token : List ℕ → TokenKind × ℕ
dash_token [] = (Other, 1)
dash_token (b ∷ bytes) = if b == 45 then (Comment, 2 + run is_in_line bytes) else (Other, 1)

-- after a slash
unfoldable pub slash_token : List ℕ → TokenKind × ℕ
slash_token [] = (Other, 1)
slash_token (b ∷ bytes) = if b == 42 then closed 2 Comment OpenComment bytes (starred false bytes) else (Other, 1)

-- one that begins with ? ; [ - / or any other byte
unfoldable pub sign_token : ℕ → List ℕ → TokenKind × ℕ
sign_token b bytes =
    if b == 63 then (Parameter, 1 + run is_digit bytes)
    else if b == 59 then (End, 1)
    else if b == 91 then closed 1 Quoted OpenQuote bytes (bracketed bytes)
    else if b == 45 then dash_token bytes
    else if b == 47 then slash_token bytes
    else (Other, 1)

-- the first token of a text that begins with b: what it is, and how many bytes it has
unfoldable pub token_of : ℕ → List ℕ → TokenKind × ℕ
token_of b bytes =
    if is_space b then (Space, 1)
    else if is_word_start b then (Word, 1 + run is_word_part bytes)
    else if is_quote b then closed 1 Quoted OpenQuote bytes (quoted b false bytes)
    else if is_sigil b then sigil_token bytes
    else sign_token b bytes

-- the first token, if there is one
abbrev pub first_token : List ℕ → Option (TokenKind × ℕ)
first_token [] = None
first_token (b ∷ bytes) = Some (token_of b bytes)

-- the tokens of a text of which this many bytes are left of the token before
unfoldable pub tokens_past : ℕ → List ℕ → List Token
tokens_past n [] = []
tokens_past zero (b ∷ bytes) =
    record { kind = (token_of b bytes).0; bytes = take (token_of b bytes).1 (b ∷ bytes) } ∷ tokens_past ((token_of b bytes).1 - 1) bytes
tokens_past (suc n) (b ∷ bytes) = tokens_past n bytes

-- the tokens of a text
abbrev pub tokens_of : List ℕ → List Token
tokens_of text = tokens_past 0 text
