-- Statements are where the text may be split.
use Rattle.std.proofs.Common.{◌≡◌, ℕ, suc, ◌+◌, ◌<◌, ◌≤◌, Bool, true, false, leb, ◌⊎◌, inl, inr, List, [], ◌∷◌, ◌++◌, length, get_or, refl, sym, ap, subst, ◌∙◌, arith, append_assoc, length-append}
use Rattle.std.specs.List.{AllPass}
use Rattle.std.specs.Str.{IsUtf8, IsCharBoundary}
use Rattle.std.proofs.lemmas.Bool.{and_parts, leb-true}
use Rattle.std.proofs.lemmas.List.{get_or_at, append-nil}
use Rattle.std.proofs.lemmas.Str.{IsCharBoundary-end, IsCharBoundary-before_ascii, IsCharBoundary-after_ascii}
use Rattle.sql_scan.specs.declared.token.TokenKind.{TokenKind}
use Rattle.sql_scan.specs.declared.token.TokenKind.TheVariants.{Space, Comment, OpenComment, Quoted, OpenQuote, Word, Parameter, Named, End, Other}
use Rattle.sql_scan.specs.Bytes.{is_space, is_digit, is_word_part, is_quote, is_in_line}
use Rattle.sql_scan.specs.Grammar.{StopsAt, spelled, IsToken}
use Rattle.sql_scan.proofs.ByteCases.{space_cases, quote_cases, ends-word, ends-line, word-end}

-- ---- the ends of tokens

-- the last byte is ASCII
pub record LastAscii (xs : List ℕ) : Type 0 where
  pub front : List ℕ
  pub last : ℕ
  pub is : xs ≡ front ++ last ∷ []
  pub ascii : last < 128

-- no byte above 127 follows
abbrev AsciiNext : List ℕ → Type 0
AsciiNext [] = Unit {0}
AsciiNext (b ∷ bytes) = b < 128

next_ascii : (p : ℕ → Bool) (after : List ℕ) → ((b : ℕ) → p b ≡ false → b < 128) → StopsAt p after → AsciiNext after
next_ascii p [] ascii stops = tt
next_ascii p (b ∷ bytes) ascii stops = ascii b stops

digit-ascii : (b : ℕ) → is_digit b ≡ true → b < 128
unfolding is_digit
digit-ascii b e = let parts = and_parts (leb 48 b) (leb b 57) e in let le : b ≤ 57 = leb-true b 57 parts.1 in omega arith

last_digit : (b : ℕ) (digits : List ℕ) → b < 128 → AllPass is_digit digits → LastAscii (b ∷ digits)
last_digit b [] ascii each = record { front = []; last = b; is = refl; ascii = ascii }
last_digit b (d ∷ digits) ascii each =
    let first : d < 128 = digit-ascii d (each 0 0 (omega arith)) in
    let rest : LastAscii (d ∷ digits) = last_digit d digits first (λ k x lt. each (suc k) x (omega arith)) in
    record { front = b ∷ rest.front; last = rest.last; is = ap (λ (xs : List ℕ). b ∷ xs) rest.is; ascii = rest.ascii }

quote-ascii : (b : ℕ) → is_quote b ≡ true → b < 128
quote-ascii b e = quote_cases (λ (c : ℕ). c < 128) b e (omega arith) (omega arith) (omega arith)

space-ascii : (b : ℕ) → is_space b ≡ true → b < 128
space-ascii b e = space_cases (λ (c : ℕ). c < 128) b e (omega arith) (omega arith) (omega arith) (omega arith) (omega arith)

-- a token ends before ASCII, after ASCII, or at the end of the text
abbrev Edge : List ℕ → List ℕ → Type 0
Edge token after = LastAscii token ⊎ AsciiNext after

one_last : (b : ℕ) (token : List ℕ) → b < 128 → token ≡ b ∷ [] → LastAscii token
one_last b token ascii is = record { front = []; last = b; is = is; ascii = ascii }

open_edge : (token after : List ℕ) → after ≡ [] → Edge token after
open_edge token after none = inr (subst AsciiNext (sym none) tt)

edge : (kind : TokenKind) (token after : List ℕ) → IsToken kind token after → Edge token after
edge Space token after (b, e, is) = inl (one_last b token (space-ascii b e) is)
edge Comment token after (inl (bytes, runs, is)) = inr (next_ascii is_in_line after ends-line runs.stops)
edge Comment token after (inr (inside, free, is)) =
    inl (record { front = 47 ∷ 42 ∷ (inside ++ 42 ∷ []); last = 47; is = is ∙ ap (λ (xs : List ℕ). 47 ∷ 42 ∷ xs) (sym (append_assoc inside (42 ∷ []) (47 ∷ []))); ascii = omega arith })
edge OpenComment token after (inside, free, is, none) = open_edge token after none
edge Quoted token after (inl (quote, content, e, is, stops)) = inl (record { front = quote ∷ spelled quote content; last = quote; is = is; ascii = quote-ascii quote e })
edge Quoted token after (inr (inside, each, is)) = inl (record { front = 91 ∷ inside; last = 93; is = is; ascii = omega arith })
edge OpenQuote token after (h, none) = open_edge token after none
edge Word token after (b, bytes, e, runs, is) = inr (next_ascii is_word_part after ends-word runs.stops)
edge Parameter token after (digits, runs, is) = inl (subst LastAscii (sym is) (last_digit 63 digits (omega arith) runs.each))
edge Named token after (b, first, bytes, sigil, e, runs, is) = inr (next_ascii is_word_part after ends-word runs.stops)
edge End token after is = inl (one_last 59 token (omega arith) is)
edge Other token after (b, alone, is) = inl (one_last b token (word-end b alone.word) is)

before_next : (text front after : List ℕ) → text ≡ front ++ after → AsciiNext after → IsCharBoundary text (length front)
before_next text front [] is h = let e : length text ≡ length front = ap length (is ∙ append-nil front) in subst (λ (n : ℕ). IsCharBoundary text n) e (IsCharBoundary-end text)
before_next text front (b ∷ bytes) is h =
    let len : length text ≡ length front + suc (length bytes) = ap length is ∙ length-append front (b ∷ bytes) in
    let at : get_or text (length front) 0 ≡ b = ap (λ (xs : List ℕ). get_or xs (length front) 0) is ∙ get_or_at front b bytes 0 (length front) refl in
    IsCharBoundary-before_ascii text (length front) (omega arith) (omega arith)

behind_last : (text front after : List ℕ) → IsUtf8 text → text ≡ front ++ after → LastAscii front → IsCharBoundary text (length front)
behind_last text front after utf8 is h =
    let split : text ≡ h.front ++ (h.last ∷ after) = is ∙ ap (λ (xs : List ℕ). xs ++ after) h.is ∙ append_assoc h.front (h.last ∷ []) after in
    let len : length text ≡ length h.front + suc (length after) = ap length split ∙ length-append h.front (h.last ∷ after) in
    let at : get_or text (length h.front) 0 ≡ h.last = ap (λ (xs : List ℕ). get_or xs (length h.front) 0) split ∙ get_or_at h.front h.last after 0 (length h.front) refl in
    let ascii : h.last < 128 = h.ascii in
    let e : length h.front + 1 ≡ length front = sym (ap length h.is ∙ length-append h.front (h.last ∷ [])) in
    subst (λ (n : ℕ). IsCharBoundary text n) e (IsCharBoundary-after_ascii text (length h.front) utf8 (omega arith) (omega arith))

-- a text may be split after a token
pub token_boundary : (text front token after : List ℕ) (kind : TokenKind) → IsUtf8 text → text ≡ (front ++ token) ++ after → IsToken kind token after → IsCharBoundary text (length (front ++ token))
token_boundary text front token after kind utf8 is h = elim (edge kind token after h) [
  | inl l ↦ behind_last text (front ++ token) after utf8 is
      (record { front = front ++ l.front; last = l.last; is = ap (λ (xs : List ℕ). front ++ xs) l.is ∙ sym (append_assoc front l.front (l.last ∷ [])); ascii = l.ascii })
  | inr r ↦ before_next text (front ++ token) after is r
]
