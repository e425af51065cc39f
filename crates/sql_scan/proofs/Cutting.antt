-- Each text is split into tokens in one way.
use Rattle.std.proofs.Common.{◌≡◌, ℕ, zero, suc, ◌<◌, ◌≤◌, List, [], ◌∷◌, ◌++◌, length, take, drop, Some, inl, inr, refl, sym, ap, subst, ◌∙◌, arith}
use Rattle.std.proofs.lemmas.List.{take_at, drop_at, take-append-drop, length-drop}
use Rattle.sql_scan.specs.declared.token.TokenKind.{TokenKind}
use Rattle.sql_scan.specs.declared.token.TokenKind.TheVariants.{Space, Comment, OpenComment, Quoted, OpenQuote, Word, Parameter, Named, End, Other}
use Rattle.sql_scan.specs.Tokens.{Token, token_of, first_token, tokens_past, tokens_of}
use Rattle.sql_scan.specs.Grammar.{IsToken, AreTokens, joined, Cuts}
use Rattle.sql_scan.proofs.Scanning.{first_then, tokens_more}
use Rattle.sql_scan.proofs.TokenBack.{token_back}
use Rattle.sql_scan.proofs.SpelledTokens.{token_front}

begun : (b : ℕ) (bytes token : List ℕ) → token ≡ b ∷ bytes → 0 < length token
begun b bytes token is = let e : length token ≡ suc (length bytes) = ap length is in omega arith

-- a token has a byte
pub token_some : (kind : TokenKind) (token after : List ℕ) → IsToken kind token after → 0 < length token
token_some Space token after (b, e, is) = begun b [] token is
token_some Comment token after (inl (bytes, runs, is)) = begun 45 (45 ∷ bytes) token is
token_some Comment token after (inr (inside, free, is)) = begun 47 (42 ∷ (inside ++ 42 ∷ 47 ∷ [])) token is
token_some OpenComment token after (inside, free, is, none) = begun 47 (42 ∷ inside) token is
token_some Quoted token after (inl (quote, content, e, is, stops)) = begun quote _ token is
token_some Quoted token after (inr (inside, each, is)) = begun 91 (inside ++ 93 ∷ []) token is
token_some OpenQuote token after (inl (quote, content, e, is), none) = begun quote _ token is
token_some OpenQuote token after (inr (inside, each, is), none) = begun 91 inside token is
token_some Word token after (b, bytes, e, runs, is) = begun b bytes token is
token_some Parameter token after (digits, runs, is) = begun 63 digits token is
token_some Named token after (b, first, bytes, sigil, e, runs, is) = begun b (first ∷ bytes) token is
token_some End token after is = begun 59 [] token is
token_some Other token after (b, alone, is) = begun b [] token is

some_is : (x y : TokenKind × ℕ) → Some x ≡ Some y → x ≡ y
some_is x y e = cc

-- so long is the first token
pub token_length : (b : ℕ) (bytes : List ℕ) → length (take (token_of b bytes).1 (b ∷ bytes)) ≡ (token_of b bytes).1
token_length b bytes =
    let t : TokenKind × ℕ = token_of b bytes in
    let token : List ℕ = take t.1 (b ∷ bytes) in
    let again : first_token (token ++ drop t.1 (b ∷ bytes)) ≡ Some (t.0, length token) = token_back t.0 token (drop t.1 (b ∷ bytes)) (token_front b bytes) in
    let first : Some t ≡ Some (t.0, length token) = ap first_token (sym (take-append-drop t.1 (b ∷ bytes))) ∙ again in
    sym (ap (λ (u : TokenKind × ℕ). u.1) (some_is t (t.0, length token) first))

pub token_pos : (b : ℕ) (bytes : List ℕ) → 0 < (token_of b bytes).1
token_pos b bytes =
    let t : TokenKind × ℕ = token_of b bytes in
    subst (λ (n : ℕ). 0 < n) (token_length b bytes) (token_some t.0 (take t.1 (b ∷ bytes)) (drop t.1 (b ∷ bytes)) (token_front b bytes))

-- ---- tokens, one after the other

pub cut_back : (tokens : List Token) → AreTokens tokens → tokens_of (joined tokens) ≡ tokens
unfolding tokens_past
cut_back [] h = refl
cut_back (t ∷ others) (h, hs) =
    let n : ℕ = length t.bytes in
    let text : List ℕ = t.bytes ++ joined others in
    first_then text t.kind n (token_back t.kind t.bytes (joined others) h) (token_some t.kind t.bytes (joined others) h)
    ∙ ap (λ (xs : List ℕ). let first : Token = record { kind = t.kind; bytes = xs } in first ∷ tokens_of (drop n text)) (take_at t.bytes (joined others) n refl)
    ∙ ap (λ (xs : List ℕ). t ∷ tokens_of xs) (drop_at t.bytes (joined others) n refl)
    ∙ ap (λ (ts : List Token). t ∷ ts) (cut_back others hs)

pub one_cut : (text : List ℕ) (tokens : List Token) → Cuts text tokens → tokens ≡ tokens_of text
one_cut text tokens h = sym (cut_back tokens h.each) ∙ ap tokens_of h.together

shorter : (k n : ℕ) (text : List ℕ) → 0 < k → length text ≤ suc n → length (drop k text) ≤ n
shorter k n text pos le = omega (arith, length-drop k text)

cut_within : (n : ℕ) (text : List ℕ) → length text ≤ n → (joined (tokens_of text) ≡ text) × AreTokens (tokens_of text)
unfolding tokens_past
cut_within n [] le = (refl, tt)
cut_within zero (b ∷ bytes) le = absurd (omega arith)
cut_within (suc n) (b ∷ bytes) le =
    let text : List ℕ = b ∷ bytes in
    let k : ℕ = (token_of b bytes).1 in
    let kind : TokenKind = (token_of b bytes).0 in
    let rest : List ℕ = drop k text in
    let later : (joined (tokens_of rest) ≡ rest) × AreTokens (tokens_of rest) = cut_within n rest (shorter k n text (token_pos b bytes) le) in
    let first : Token = record { kind = kind; bytes = take k text } in
    subst (λ (ts : List Token). (joined ts ≡ text) × AreTokens ts) (sym (tokens_more b bytes (token_pos b bytes))) (
      ap (λ (xs : List ℕ). take k text ++ xs) later.0 ∙ take-append-drop k text,
      (subst (λ (after : List ℕ). IsToken kind (take k text) after) (sym later.0) (token_front b bytes), later.1),
    )

pub cuts : (text : List ℕ) → Cuts text (tokens_of text)
cuts text = let h = cut_within (length text) text (omega arith) in record { together = h.0; each = h.1 }
