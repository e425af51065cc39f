-- What is written as a token is read as that token.
use Rattle.std.proofs.Common.{◌≡◌, ℕ, suc, ◌+◌, true, false, eqb, inl, inr, List, [], ◌∷◌, ◌++◌, length, Some, refl, sym, ap, subst, ◌∙◌, arith, append_assoc, length-append}
use Rattle.std.proofs.lemmas.Bool.{cases_Bool, eqb-true, ne_eqb}
use Rattle.std.proofs.lemmas.List.{append-nil}
use Rattle.sql_scan.specs.declared.token.TokenKind.{TokenKind}
use Rattle.sql_scan.specs.declared.token.TokenKind.TheVariants.{Space, Comment, OpenComment, Quoted, OpenQuote, Word, Parameter, Named, End, Other}
use Rattle.sql_scan.specs.Bytes.{is_space, is_digit, is_letter, is_word_start, is_word_part, is_sigil, is_quote, is_in_line}
use Rattle.sql_scan.specs.Lengths.{run, quoted, bracketed, starred}
use Rattle.sql_scan.specs.Tokens.{closed, sigil_token, dash_token, slash_token, sign_token, token_of, first_token}
use Rattle.sql_scan.specs.Grammar.{StopsAt, spelled, IsAlone, IsToken}
use Rattle.sql_scan.proofs.ByteCases.{quote_cases, sigil_cases, word-no-space}
use Rattle.sql_scan.proofs.ReadBack.{run_back, quoted_back, quoted_open_back, bracketed_back, bracketed_open_back, starred_back, starred_open_back}

one-plus : (n : ℕ) → 1 + n ≡ suc n
one-plus n = omega arith

two-plus : (n : ℕ) → 2 + n ≡ suc (suc n)
two-plus n = omega arith

-- of this kind and length
abbrev sized : TokenKind → ℕ → TokenKind × ℕ
sized kind n = (kind, n)

-- ---- which test of the first byte passes

pub space_back : (b : ℕ) (bytes : List ℕ) → is_space b ≡ true → token_of b bytes ≡ sized Space 1
unfolding token_of
space_back b bytes e = rw e refl

pub word_back : (b : ℕ) (bytes : List ℕ) → is_word_start b ≡ true → token_of b bytes ≡ sized Word (1 + run is_word_part bytes)
unfolding token_of
word_back b bytes e = let none : is_space b ≡ false = word-no-space b e in rw (none, e) refl

pub quote_others : (b : ℕ) → is_quote b ≡ true → (is_space b ≡ false) × (is_word_start b ≡ false)
unfolding is_space is_word_start is_letter is_digit
quote_others b e = quote_cases (λ (c : ℕ). (is_space c ≡ false) × (is_word_start c ≡ false)) b e (refl, refl) (refl, refl) (refl, refl)

pub quote_back : (b : ℕ) (bytes : List ℕ) → is_quote b ≡ true → token_of b bytes ≡ closed 1 Quoted OpenQuote bytes (quoted b false bytes)
unfolding token_of
quote_back b bytes e =
    let space : is_space b ≡ false = (quote_others b e).0 in
    let word : is_word_start b ≡ false = (quote_others b e).1 in
    rw (space, word, e) refl

pub sigil_others : (b : ℕ) → is_sigil b ≡ true → (is_space b ≡ false) × (is_word_start b ≡ false) × (is_quote b ≡ false)
unfolding is_space is_word_start is_letter is_digit is_quote
sigil_others b e = sigil_cases (λ (c : ℕ). (is_space c ≡ false) × (is_word_start c ≡ false) × (is_quote c ≡ false)) b e (refl, refl, refl) (refl, refl, refl) (refl, refl, refl)

pub sigil_back : (b : ℕ) (bytes : List ℕ) → is_sigil b ≡ true → token_of b bytes ≡ sigil_token bytes
unfolding token_of
sigil_back b bytes e =
    let space : is_space b ≡ false = (sigil_others b e).0 in
    let word : is_word_start b ≡ false = (sigil_others b e).1 in
    let quote : is_quote b ≡ false = (sigil_others b e).2 in
    rw (space, word, quote, e) refl

pub sign_back : (b : ℕ) (bytes : List ℕ) → is_space b ≡ false → is_word_start b ≡ false → is_quote b ≡ false → is_sigil b ≡ false → token_of b bytes ≡ sign_token b bytes
unfolding token_of
sign_back b bytes space word quote sigil = rw (space, word, quote, sigil) refl

pub parameter_sign : (bytes : List ℕ) → token_of 63 bytes ≡ sized Parameter (1 + run is_digit bytes)
unfolding is_space is_word_start is_letter is_digit is_quote is_sigil sign_token
parameter_sign bytes = sign_back 63 bytes refl refl refl refl

pub end_sign : (bytes : List ℕ) → token_of 59 bytes ≡ sized End 1
unfolding is_space is_word_start is_letter is_digit is_quote is_sigil sign_token
end_sign bytes = sign_back 59 bytes refl refl refl refl

pub bracket_sign : (bytes : List ℕ) → token_of 91 bytes ≡ closed 1 Quoted OpenQuote bytes (bracketed bytes)
unfolding is_space is_word_start is_letter is_digit is_quote is_sigil sign_token
bracket_sign bytes = sign_back 91 bytes refl refl refl refl

pub dash_sign : (bytes : List ℕ) → token_of 45 bytes ≡ dash_token bytes
unfolding is_space is_word_start is_letter is_digit is_quote is_sigil sign_token
dash_sign bytes = sign_back 45 bytes refl refl refl refl

pub slash_sign : (bytes : List ℕ) → token_of 47 bytes ≡ slash_token bytes
unfolding is_space is_word_start is_letter is_digit is_quote is_sigil sign_token
slash_sign bytes = sign_back 47 bytes refl refl refl refl

-- ---- a byte that is a token by itself

alone_sigil : (after : List ℕ) → StopsAt is_word_start after → sigil_token after ≡ sized Other 1
unfolding sigil_token
alone_sigil [] stops = refl
alone_sigil (c ∷ others) stops = rw stops refl

alone_dash : (after : List ℕ) → StopsAt (λ c. eqb c 45) after → dash_token after ≡ sized Other 1
unfolding dash_token
alone_dash [] stops = refl
alone_dash (c ∷ others) stops = rw stops refl

alone_slash : (after : List ℕ) → StopsAt (λ c. eqb c 42) after → slash_token after ≡ sized Other 1
unfolding slash_token
alone_slash [] stops = refl
alone_slash (c ∷ others) stops = rw stops refl

alone_sign : (b : ℕ) (after : List ℕ) → IsAlone b after → sign_token b after ≡ sized Other 1
unfolding sign_token
alone_sign b after h =
    let parameter : eqb b 63 ≡ false = ne_eqb b 63 h.parameter in
    let end : eqb b 59 ≡ false = ne_eqb b 59 h.end in
    let bracket : eqb b 91 ≡ false = ne_eqb b 91 h.bracket in
    elim (cases_Bool (eqb b 45)) [
      | inl line ↦ rw (parameter, end, bracket, line) (alone_dash after (h.line (eqb-true b 45 line)))
      | inr no_line ↦ elim (cases_Bool (eqb b 47)) [
        | inl star ↦ rw (parameter, end, bracket, no_line, star) (alone_slash after (h.star (eqb-true b 47 star)))
        | inr no_star ↦ rw (parameter, end, bracket, no_line, no_star) refl
      ]
    ]

pub alone_back : (b : ℕ) (after : List ℕ) → IsAlone b after → token_of b after ≡ sized Other 1
alone_back b after h = elim (cases_Bool (is_sigil b)) [
  | inl sigil ↦ sigil_back b after sigil ∙ alone_sigil after (h.named sigil)
  | inr none ↦ sign_back b after h.space h.word h.quote none ∙ alone_sign b after h
]

-- ---- the kinds

pub line_back : (bytes : List ℕ) → dash_token (45 ∷ bytes) ≡ sized Comment (2 + run is_in_line bytes)
unfolding dash_token
line_back bytes = refl

pub star_back : (bytes : List ℕ) → slash_token (42 ∷ bytes) ≡ closed 2 Comment OpenComment bytes (starred false bytes)
unfolding slash_token
star_back bytes = refl

pub named_back : (first : ℕ) (bytes : List ℕ) → is_word_start first ≡ true → sigil_token (first ∷ bytes) ≡ sized Named (2 + run is_word_part bytes)
unfolding sigil_token
named_back first bytes e = rw e refl

-- the encoding's first token
abbrev First : List ℕ → TokenKind → List ℕ → Type 0
First token kind after = first_token (token ++ after) ≡ Some (sized kind (length token))

whole : (b : ℕ) (bytes after : List ℕ) (kind : TokenKind) (n : ℕ) → token_of b (bytes ++ after) ≡ sized kind n → n ≡ suc (length bytes) → First (b ∷ bytes) kind after
whole b bytes after kind n e is = ap Some (e ∙ ap (sized kind) is)

pub token_back : (kind : TokenKind) (token after : List ℕ) → IsToken kind token after → first_token (token ++ after) ≡ Some (kind, length token)
token_back Space token after (b, e, is) =
    subst (λ (t : List ℕ). First t Space after) (sym is) (whole b [] after Space 1 (space_back b after e) refl)
token_back Word token after (b, bytes, e, runs, is) =
    subst (λ (t : List ℕ). First t Word after) (sym is)
    (whole b bytes after Word (1 + run is_word_part (bytes ++ after)) (word_back b (bytes ++ after) e) (ap (λ (n : ℕ). 1 + n) (run_back is_word_part bytes after runs) ∙ one-plus (length bytes)))
token_back Parameter token after (digits, runs, is) =
    subst (λ (t : List ℕ). First t Parameter after) (sym is)
    (whole 63 digits after Parameter (1 + run is_digit (digits ++ after)) (parameter_sign (digits ++ after)) (ap (λ (n : ℕ). 1 + n) (run_back is_digit digits after runs) ∙ one-plus (length digits)))
token_back Named token after (b, first, bytes, sigil, e, runs, is) =
    subst (λ (t : List ℕ). First t Named after) (sym is)
    (whole b (first ∷ bytes) after Named (2 + run is_word_part (bytes ++ after)) (sigil_back b (first ∷ (bytes ++ after)) sigil ∙ named_back first (bytes ++ after) e)
    (ap (λ (n : ℕ). 2 + n) (run_back is_word_part bytes after runs) ∙ two-plus (length bytes)))
token_back End token after is = subst (λ (t : List ℕ). First t End after) (sym is) (whole 59 [] after End 1 (end_sign after) refl)
token_back Other token after (b, alone, is) = subst (λ (t : List ℕ). First t Other after) (sym is) (whole b [] after Other 1 (alone_back b after alone) refl)
token_back Comment token after (inl (bytes, runs, is)) =
    subst (λ (t : List ℕ). First t Comment after) (sym is)
    (whole 45 (45 ∷ bytes) after Comment (2 + run is_in_line (bytes ++ after)) (dash_sign (45 ∷ (bytes ++ after)) ∙ line_back (bytes ++ after))
    (ap (λ (n : ℕ). 2 + n) (run_back is_in_line bytes after runs) ∙ two-plus (length bytes)))
token_back Comment token after (inr (inside, free, is)) =
    subst (λ (t : List ℕ). First t Comment after) (sym is)
    (whole 47 (42 ∷ (inside ++ 42 ∷ 47 ∷ [])) after Comment (2 + (length inside + 2))
    (slash_sign (42 ∷ ((inside ++ 42 ∷ 47 ∷ []) ++ after)) ∙ star_back ((inside ++ 42 ∷ 47 ∷ []) ++ after)
    ∙ ap (closed 2 Comment OpenComment ((inside ++ 42 ∷ 47 ∷ []) ++ after)) (ap (starred false) (append_assoc inside (42 ∷ 47 ∷ []) after) ∙ starred_back false inside after free))
    (omega (arith, length-append inside (42 ∷ 47 ∷ []))))
token_back OpenComment token after (inside, free, is, none) =
    subst (λ (t : List ℕ). First t OpenComment after) (sym is) (subst (λ (a : List ℕ). First (47 ∷ 42 ∷ inside) OpenComment a) (sym none)
    (whole 47 (42 ∷ inside) [] OpenComment (2 + length (inside ++ []))
    (slash_sign (42 ∷ (inside ++ [])) ∙ star_back (inside ++ [])
    ∙ ap (closed 2 Comment OpenComment (inside ++ [])) (ap (starred false) (append-nil inside) ∙ starred_open_back false inside free))
    (omega (arith, length-append inside []))))
token_back Quoted token after (inl (quote, content, e, is, stops)) =
    subst (λ (t : List ℕ). First t Quoted after) (sym is)
    (whole quote (spelled quote content ++ quote ∷ []) after Quoted (1 + (length (spelled quote content) + 1))
    (quote_back quote ((spelled quote content ++ quote ∷ []) ++ after) e
    ∙ ap (closed 1 Quoted OpenQuote ((spelled quote content ++ quote ∷ []) ++ after)) (ap (quoted quote false) (append_assoc (spelled quote content) (quote ∷ []) after) ∙ quoted_back quote content after stops))
    (omega (arith, length-append (spelled quote content) (quote ∷ []))))
token_back Quoted token after (inr (inside, each, is)) =
    subst (λ (t : List ℕ). First t Quoted after) (sym is)
    (whole 91 (inside ++ 93 ∷ []) after Quoted (1 + (length inside + 1))
    (bracket_sign ((inside ++ 93 ∷ []) ++ after)
    ∙ ap (closed 1 Quoted OpenQuote ((inside ++ 93 ∷ []) ++ after)) (ap bracketed (append_assoc inside (93 ∷ []) after) ∙ bracketed_back inside after (record { each = each; stops = refl })))
    (omega (arith, length-append inside (93 ∷ []))))
token_back OpenQuote token after (inl (quote, content, e, is), none) =
    subst (λ (t : List ℕ). First t OpenQuote after) (sym is) (subst (λ (a : List ℕ). First (quote ∷ spelled quote content) OpenQuote a) (sym none)
    (whole quote (spelled quote content) [] OpenQuote (1 + length (spelled quote content ++ []))
    (quote_back quote (spelled quote content ++ []) e
    ∙ ap (closed 1 Quoted OpenQuote (spelled quote content ++ [])) (ap (quoted quote false) (append-nil (spelled quote content)) ∙ quoted_open_back quote content))
    (omega (arith, length-append (spelled quote content) []))))
token_back OpenQuote token after (inr (inside, each, is), none) =
    subst (λ (t : List ℕ). First t OpenQuote after) (sym is) (subst (λ (a : List ℕ). First (91 ∷ inside) OpenQuote a) (sym none)
    (whole 91 inside [] OpenQuote (1 + length (inside ++ []))
    (bracket_sign (inside ++ [])
    ∙ ap (closed 1 Quoted OpenQuote (inside ++ [])) (ap bracketed (append-nil inside) ∙ bracketed_open_back inside (record { each = each; stops = tt })))
    (omega (arith, length-append inside []))))
