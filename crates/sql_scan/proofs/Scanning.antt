-- The steps of the scanner.
use Rattle.std.proofs.Common.{◌≡◌, ℕ, zero, suc, ◌+◌, ◌-◌, ◌<◌, ◌≤◌, List, [], ◌∷◌, ◌++◌, length, take, drop, Some, None, Result, Ok, Err, refl, sym, ap, subst, ◌∙◌, arith, append_assoc}
use Rattle.std.specs.Option.{option_to_list}
use Rattle.std.proofs.lemmas.List.{length-take-le}
use Rattle.sql_scan.specs.declared.token.TokenKind.{TokenKind}
use Rattle.sql_scan.specs.declared.draft.PartialStatement.{PartialStatement}
use Rattle.sql_scan.specs.declared.pieces.StatementSpan.{StatementSpan}
use Rattle.sql_scan.specs.declared.fault.ScanFault.{ScanFault}
use Rattle.sql_scan.specs.declared.fault.ScanFault.TheVariants.{OpenQuote, OpenComment, Named, Number, NoMemory}
use Rattle.sql_scan.specs.Tokens.{Token, token_of, first_token, tokens_past, tokens_of}
use Rattle.sql_scan.specs.Statements.{blank, finished, moved, with_front, ◌>>=◌, statements_from, scan_of, Fails}

-- ---- the tokens after a token

pub past_is : (n : ℕ) (text : List ℕ) → tokens_past n text ≡ tokens_past 0 (drop n text)
unfolding tokens_past
past_is zero text = refl
past_is (suc n) [] = refl
past_is (suc n) (b ∷ bytes) = past_is n bytes

less : (n : ℕ) → 0 < n → suc (n - 1) ≡ n
less n lt = omega arith

pub tokens_more : (b : ℕ) (bytes : List ℕ) → 0 < (token_of b bytes).1
    → tokens_of (b ∷ bytes) ≡ record { kind = (token_of b bytes).0; bytes = take (token_of b bytes).1 (b ∷ bytes) } ∷ tokens_of (drop (token_of b bytes).1 (b ∷ bytes))
unfolding tokens_past
tokens_more b bytes lt =
    let n : ℕ = (token_of b bytes).1 in
    let rest : tokens_past (n - 1) bytes ≡ tokens_of (drop n (b ∷ bytes)) = past_is (n - 1) bytes ∙ ap (λ (m : ℕ). tokens_past 0 (drop m (b ∷ bytes))) (less n lt) in
    ap (λ (others : List Token). let first : Token = record { kind = (token_of b bytes).0; bytes = take (token_of b bytes).1 (b ∷ bytes) } in first ∷ others) rest

-- a text with a first token has its tokens after it
pub first_then : (text : List ℕ) (kind : TokenKind) (n : ℕ) → first_token text ≡ Some (kind, n) → 0 < n
    → tokens_of text ≡ record { kind = kind; bytes = take n text } ∷ tokens_of (drop n text)
first_then [] kind n e lt = absurd cc
first_then (b ∷ bytes) kind n e lt =
    let is : token_of b bytes ≡ (kind, n) = cc in
    let f : (TokenKind × ℕ) → List Token = λ (t : TokenKind × ℕ). let first : Token = record { kind = t.0; bytes = take t.1 (b ∷ bytes) } in first ∷ tokens_of (drop t.1 (b ∷ bytes)) in
    let pos : 0 < (token_of b bytes).1 = subst (λ (t : TokenKind × ℕ). 0 < t.1) (sym is) lt in
    tokens_more b bytes pos ∙ ap f is

pub no_first : (text : List ℕ) → first_token text ≡ None → text ≡ []
no_first [] e = refl
no_first (b ∷ bytes) e = absurd cc

-- ---- statements so far

front-front : (a b : List StatementSpan) (r : Result (List StatementSpan) ScanFault) → with_front (a ++ b) r ≡ with_front a (with_front b r)
front-front a b (Ok xs) = ap Ok (append_assoc a b xs)
front-front a b (Err e) = refl

pub front-none : (r : Result (List StatementSpan) ScanFault) → with_front [] r ≡ r
front-none (Ok xs) = refl
front-none (Err e) = refl

-- what follows a token of n bytes
abbrev behind : ℕ → ℕ → List ℕ → List StatementSpan × PartialStatement → Result (List StatementSpan) ScanFault
behind at n rest m = with_front m.0 (statements_from (at + n) m.1 (tokens_of (drop n rest)))

unrolled : (at n : ℕ) (draft : PartialStatement) (kind : TokenKind) (rest : List ℕ) → first_token rest ≡ Some (kind, n) → 0 < n → n ≤ length rest
    → statements_from at draft (tokens_of rest) ≡ (moved draft at kind (take n rest) >>= behind at n rest)
unfolding statements_from
unrolled at n draft kind rest first lt le =
    ap (statements_from at draft) (first_then rest kind n first lt)
    ∙ ap (λ (k : ℕ). moved draft at kind (take n rest) >>= λ m. with_front m.0 (statements_from (at + k) m.1 (tokens_of (drop n rest)))) (length-take-le n rest le)

-- what was found so far and what is still to be found are all that there is
pub step : (old new front : List StatementSpan) (at n : ℕ) (draft next : PartialStatement) (kind : TokenKind) (rest token : List ℕ) (total : Result (List StatementSpan) ScanFault)
    → first_token rest ≡ Some (kind, n) → 0 < n → n ≤ length rest → token ≡ take n rest
    → moved draft at kind token ≡ Ok (front, next) → new ≡ old ++ front
    → with_front old (statements_from at draft (tokens_of rest)) ≡ total → with_front new (statements_from (at + n) next (tokens_of (drop n rest))) ≡ total
step old new front at n draft next kind rest token total first lt le cut moves is so_far =
    ap (λ (xs : List StatementSpan). with_front xs (statements_from (at + n) next (tokens_of (drop n rest)))) is
    ∙ front-front old front (statements_from (at + n) next (tokens_of (drop n rest)))
    ∙ sym (ap (with_front old) (unrolled at n draft kind rest first lt le ∙ ap (λ (r : Result (List StatementSpan × PartialStatement) ScanFault). r >>= behind at n rest) (sym (ap (moved draft at kind) cut) ∙ moves)))
    ∙ so_far

stops : (old : List StatementSpan) (at n : ℕ) (draft : PartialStatement) (kind : TokenKind) (rest token : List ℕ) (total : Result (List StatementSpan) ScanFault) (fault : ScanFault)
    → first_token rest ≡ Some (kind, n) → 0 < n → n ≤ length rest → token ≡ take n rest
    → with_front old (statements_from at draft (tokens_of rest)) ≡ total → moved draft at kind token ≡ Err fault → total ≡ Err fault
stops old at n draft kind rest token total fault first lt le cut so_far moves =
    sym so_far ∙ ap (with_front old) (unrolled at n draft kind rest first lt le ∙ ap (λ (r : Result (List StatementSpan × PartialStatement) ScanFault). r >>= behind at n rest) (sym (ap (moved draft at kind) cut) ∙ moves))

pub fails : (old : List StatementSpan) (at n : ℕ) (draft : PartialStatement) (kind : TokenKind) (rest token : List ℕ) (total : Result (List StatementSpan) ScanFault) (fault : ScanFault)
    → first_token rest ≡ Some (kind, n) → 0 < n → n ≤ length rest → token ≡ take n rest
    → with_front old (statements_from at draft (tokens_of rest)) ≡ total → Fails fault (moved draft at kind token) → Fails fault total
fails old at n draft kind rest token total NoMemory first lt le cut so_far h = tt
fails old at n draft kind rest token total (OpenQuote p) first lt le cut so_far h = stops old at n draft kind rest token total (OpenQuote p) first lt le cut so_far h
fails old at n draft kind rest token total (OpenComment p) first lt le cut so_far h = stops old at n draft kind rest token total (OpenComment p) first lt le cut so_far h
fails old at n draft kind rest token total (Named p) first lt le cut so_far h = stops old at n draft kind rest token total (Named p) first lt le cut so_far h
fails old at n draft kind rest token total (Number p) first lt le cut so_far h = stops old at n draft kind rest token total (Number p) first lt le cut so_far h

-- no token is left
pub ends : (old new : List StatementSpan) (at : ℕ) (draft : PartialStatement) (rest : List ℕ) (total : Result (List StatementSpan) ScanFault) → first_token rest ≡ None
    → new ≡ old ++ option_to_list (finished draft at) → with_front old (statements_from at draft (tokens_of rest)) ≡ total → total ≡ Ok new
unfolding statements_from tokens_past
ends old new at draft rest total none is so_far =
    sym so_far ∙ ap (λ (xs : List ℕ). with_front old (statements_from at draft (tokens_of xs))) (no_first rest none) ∙ ap Ok (sym is)

-- nothing was found yet
pub begins : (found : List StatementSpan) (text : List ℕ) → found ≡ [] → with_front found (statements_from 0 (blank 0) (tokens_of (drop 0 text))) ≡ scan_of text
unfolding scan_of
begins found text is = ap (λ (xs : List StatementSpan). with_front xs (statements_from 0 (blank 0) (tokens_of text))) is ∙ front-none (statements_from 0 (blank 0) (tokens_of text))
