-- What is read as a token is written as one.
use Rattle.std.proofs.Common.{◌≡◌, ◌≢◌, ℕ, suc, ◌+◌, ◌≤◌, true, false, not, eqb, ltb, inl, inr, List, [], ◌∷◌, ◌++◌, length, take, drop, get_or, Option, Some, None, refl, sym, ap, subst, ◌∙◌, arith}
use Rattle.std.specs.List.{prefix_len, AllPass}
use Rattle.std.proofs.lemmas.Bool.{cases_Bool, cases_lt, eqb-true, eqb-false, lt-ltb, le-ltb, cond-true, cond-false}
use Rattle.std.proofs.lemmas.List.{take_all, drop_all, take_more}
use Rattle.std.proofs.lemmas.List.Sums.{prefix_len_stops}
use Rattle.sql_scan.specs.declared.token.TokenKind.{TokenKind}
use Rattle.sql_scan.specs.declared.token.TokenKind.TheVariants.{Comment, OpenComment, Quoted, OpenQuote, Word, Parameter, Named}
use Rattle.sql_scan.specs.Bytes.{is_space, is_digit, is_letter, is_word_start, is_word_part, is_sigil, is_quote, is_in_line}
use Rattle.sql_scan.specs.Lengths.{run, longer, quoted, bracketed, starred}
use Rattle.sql_scan.specs.Tokens.{closed, token_of}
use Rattle.sql_scan.specs.Grammar.{StopsAt, Runs, is_bracket_inside, IsAlone, IsToken}
use Rattle.sql_scan.proofs.ByteCases.{sigil_cases}
use Rattle.sql_scan.proofs.Spelled.{run_split, prefix_split, quoted_so, quoted_open_so, Closed, Unclosed, starred_so, starred_open_so, Ended}
use Rattle.sql_scan.proofs.TokenBack.{space_back, word_back, quote_back, sigil_back, sigil_others, parameter_sign, end_sign, bracket_sign, dash_sign, slash_sign, line_back, star_back, named_back, alone_back}

-- the first bytes of a text are a token of this kind
abbrev Front : List ℕ → TokenKind × ℕ → Type 0
Front text t = IsToken t.0 (take t.1 text) (drop t.1 text)

one_more : (text : List ℕ) (kind : TokenKind) (n : ℕ) → Front text (kind, suc n) → Front text (kind, 1 + n)
one_more text kind n h = let e : suc n ≡ 1 + n = omega arith in subst (λ (k : ℕ). Front text (kind, k)) e h

two_more : (text : List ℕ) (kind : TokenKind) (n : ℕ) → Front text (kind, suc (suc n)) → Front text (kind, 2 + n)
two_more text kind n h = let e : suc (suc n) ≡ 2 + n = omega arith in subst (λ (k : ℕ). Front text (kind, k)) e h

all_taken : (xs : List ℕ) → take (length xs) xs ≡ xs
all_taken xs = let le : length xs ≤ length xs = omega arith in take_all (length xs) xs le

none_left : (xs : List ℕ) → drop (length xs) xs ≡ []
none_left xs = let le : length xs ≤ length xs = omega arith in drop_all (length xs) xs le

alone_front : (b : ℕ) (bytes : List ℕ) → IsAlone b bytes → Front (b ∷ bytes) (token_of b bytes)
alone_front b bytes h = subst (Front (b ∷ bytes)) (sym (alone_back b bytes h)) (b, h, refl)

-- ---- quotes

quote_found : (b : ℕ) (bytes : List ℕ) (o : Option ℕ) → is_quote b ≡ true → quoted b false bytes ≡ o → Front (b ∷ bytes) (closed 1 Quoted OpenQuote bytes o)
quote_found b bytes (Some n) q e =
    let c : Closed b false bytes n = quoted_so b bytes false n e in
    one_more (b ∷ bytes) Quoted n (inl (b, c.content, q, ap (λ (ys : List ℕ). b ∷ ys) c.is, c.stops))
quote_found b bytes None q e =
    let c : Unclosed b false bytes = quoted_open_so b bytes false e in
    one_more (b ∷ bytes) OpenQuote (length bytes) (inl (b, c.content, q, ap (λ (ys : List ℕ). b ∷ ys) (all_taken bytes ∙ c.is)), none_left bytes)

quote_front : (b : ℕ) (bytes : List ℕ) → is_quote b ≡ true → Front (b ∷ bytes) (token_of b bytes)
quote_front b bytes q = subst (Front (b ∷ bytes)) (sym (quote_back b bytes q)) (quote_found b bytes (quoted b false bytes) q refl)

bracket_is : (x : ℕ) → is_bracket_inside x ≡ false → x ≡ 93
bracket_is x e = elim (cases_Bool (eqb x 93)) [
  | inl same ↦ eqb-true x 93 same
  | inr other ↦ absurd (let h : true ≡ false = sym (ap not other) ∙ e in cc)
]

bracket_front : (bytes : List ℕ) → Front (91 ∷ bytes) (token_of 91 bytes)
bracket_front bytes =
    let m : ℕ = prefix_len is_bracket_inside bytes in
    let runs : Runs is_bracket_inside (take m bytes) (drop m bytes) = prefix_split is_bracket_inside bytes in
    subst (Front (91 ∷ bytes)) (sym (bracket_sign bytes)) (elim (cases_lt m (length bytes)) [
      | inl lt ↦
          let found : bracketed bytes ≡ Some (m + 1) = ap longer (cond-true (ltb m (length bytes)) (Some m) None (lt-ltb m (length bytes) lt)) in
          let last : take (m + 1) bytes ≡ take m bytes ++ 93 ∷ [] =
          take_more bytes m 0 lt ∙ ap (λ (x : ℕ). take m bytes ++ x ∷ []) (bracket_is (get_or bytes m 0) (prefix_len_stops is_bracket_inside bytes 0 lt)) in
          subst (λ (o : Option ℕ). Front (91 ∷ bytes) (closed 1 Quoted OpenQuote bytes o)) (sym found)
          (one_more (91 ∷ bytes) Quoted (m + 1) (inr (take m bytes, runs.each, ap (λ (ys : List ℕ). 91 ∷ ys) last)))
      | inr ge ↦
          let none : bracketed bytes ≡ None = ap longer (cond-false (ltb m (length bytes)) (Some m) None (le-ltb m (length bytes) ge)) in
          subst (λ (o : Option ℕ). Front (91 ∷ bytes) (closed 1 Quoted OpenQuote bytes o)) (sym none)
          (one_more (91 ∷ bytes) OpenQuote (length bytes)
          (inr (bytes, subst (AllPass is_bracket_inside) (take_all m bytes ge) runs.each, ap (λ (ys : List ℕ). 91 ∷ ys) (all_taken bytes)), none_left bytes))
    ])

-- ---- comments

dash_alone : (bytes : List ℕ) → StopsAt (λ c. eqb c 45) bytes → IsAlone 45 bytes
unfolding is_space is_word_start is_letter is_digit is_quote is_sigil
dash_alone bytes h = record { space = refl; word = refl; quote = refl; bracket = λ e. omega arith; end = λ e. omega arith; parameter = λ e. omega arith; named = λ s. absurd cc; line = λ _. h; star = λ e. absurd (omega arith) }

dash_front : (bytes : List ℕ) → Front (45 ∷ bytes) (token_of 45 bytes)
dash_front [] = alone_front 45 [] (dash_alone [] tt)
dash_front (c ∷ bytes) = elim (cases_Bool (eqb c 45)) [
  | inl same ↦
      let is : 45 ≡ c = sym (eqb-true c 45 same) in
      subst (λ (x : ℕ). Front (45 ∷ x ∷ bytes) (token_of 45 (x ∷ bytes))) is
      (subst (Front (45 ∷ 45 ∷ bytes)) (sym (dash_sign (45 ∷ bytes) ∙ line_back bytes))
      (two_more (45 ∷ 45 ∷ bytes) Comment (run is_in_line bytes) (inl (take (run is_in_line bytes) bytes, run_split is_in_line bytes, refl))))
  | inr other ↦ alone_front 45 (c ∷ bytes) (dash_alone (c ∷ bytes) other)
]

slash_alone : (bytes : List ℕ) → StopsAt (λ c. eqb c 42) bytes → IsAlone 47 bytes
unfolding is_space is_word_start is_letter is_digit is_quote is_sigil
slash_alone bytes h = record { space = refl; word = refl; quote = refl; bracket = λ e. omega arith; end = λ e. omega arith; parameter = λ e. omega arith; named = λ s. absurd cc; line = λ e. absurd (omega arith); star = λ _. h }

star_found : (bytes : List ℕ) (o : Option ℕ) → starred false bytes ≡ o → Front (47 ∷ 42 ∷ bytes) (closed 2 Comment OpenComment bytes o)
star_found bytes (Some n) e =
    let c : Ended false bytes n = starred_so bytes false n e in
    two_more (47 ∷ 42 ∷ bytes) Comment n (inr (c.inside, c.free, ap (λ (ys : List ℕ). 47 ∷ 42 ∷ ys) c.is))
star_found bytes None e =
    two_more (47 ∷ 42 ∷ bytes) OpenComment (length bytes) (bytes, starred_open_so bytes false e, ap (λ (ys : List ℕ). 47 ∷ 42 ∷ ys) (all_taken bytes), none_left bytes)

slash_front : (bytes : List ℕ) → Front (47 ∷ bytes) (token_of 47 bytes)
slash_front [] = alone_front 47 [] (slash_alone [] tt)
slash_front (c ∷ bytes) = elim (cases_Bool (eqb c 42)) [
  | inl same ↦
      let is : 42 ≡ c = sym (eqb-true c 42 same) in
      subst (λ (x : ℕ). Front (47 ∷ x ∷ bytes) (token_of 47 (x ∷ bytes))) is
      (subst (Front (47 ∷ 42 ∷ bytes)) (sym (slash_sign (42 ∷ bytes) ∙ star_back bytes)) (star_found bytes (starred false bytes) refl))
  | inr other ↦ alone_front 47 (c ∷ bytes) (slash_alone (c ∷ bytes) other)
]

-- ---- parameters

sigil_apart : (b : ℕ) → is_sigil b ≡ true → (b ≢ 91) × (b ≢ 59) × (b ≢ 63) × (b ≢ 45) × (b ≢ 47)
sigil_apart b s = sigil_cases (λ (c : ℕ). (c ≢ 91) × (c ≢ 59) × (c ≢ 63) × (c ≢ 45) × (c ≢ 47)) b s
    (λ e. omega arith, λ e. omega arith, λ e. omega arith, λ e. omega arith, λ e. omega arith)
    (λ e. omega arith, λ e. omega arith, λ e. omega arith, λ e. omega arith, λ e. omega arith)
    (λ e. omega arith, λ e. omega arith, λ e. omega arith, λ e. omega arith, λ e. omega arith)

sigil_alone : (b : ℕ) (bytes : List ℕ) → is_sigil b ≡ true → StopsAt is_word_start bytes → IsAlone b bytes
sigil_alone b bytes s h =
    let others = sigil_others b s in
    let apart = sigil_apart b s in
    record { space = others.0; word = others.1; quote = others.2; bracket = apart.0; end = apart.1; parameter = apart.2; named = λ _. h; line = λ e. absurd (apart.3 e); star = λ e. absurd (apart.4 e) }

sigil_front : (b : ℕ) (bytes : List ℕ) → is_sigil b ≡ true → Front (b ∷ bytes) (token_of b bytes)
sigil_front b [] s = alone_front b [] (sigil_alone b [] s tt)
sigil_front b (c ∷ bytes) s = elim (cases_Bool (is_word_start c)) [
  | inl word ↦
      subst (Front (b ∷ c ∷ bytes)) (sym (sigil_back b (c ∷ bytes) s ∙ named_back c bytes word))
      (two_more (b ∷ c ∷ bytes) Named (run is_word_part bytes) (b, c, take (run is_word_part bytes) bytes, s, word, run_split is_word_part bytes, refl))
  | inr other ↦ alone_front b (c ∷ bytes) (sigil_alone b (c ∷ bytes) s other)
]

-- ---- signs

-- what is true of the byte k is true of b, where b is k
at_byte : (b k : ℕ) (bytes : List ℕ) → Front (k ∷ bytes) (token_of k bytes) → eqb b k ≡ true → Front (b ∷ bytes) (token_of b bytes)
at_byte b k bytes h e = subst (λ (c : ℕ). Front (c ∷ bytes) (token_of c bytes)) (sym (eqb-true b k e)) h

parameter_front : (bytes : List ℕ) → Front (63 ∷ bytes) (token_of 63 bytes)
parameter_front bytes = subst (Front (63 ∷ bytes)) (sym (parameter_sign bytes)) (one_more (63 ∷ bytes) Parameter (run is_digit bytes) (take (run is_digit bytes) bytes, run_split is_digit bytes, refl))

end_front : (bytes : List ℕ) → Front (59 ∷ bytes) (token_of 59 bytes)
end_front bytes = subst (Front (59 ∷ bytes)) (sym (end_sign bytes)) refl

sign_front : (b : ℕ) (bytes : List ℕ) → is_space b ≡ false → is_word_start b ≡ false → is_quote b ≡ false → is_sigil b ≡ false → Front (b ∷ bytes) (token_of b bytes)
sign_front b bytes space word quote sigil = elim (cases_Bool (eqb b 63)) [
  | inl e ↦ at_byte b 63 bytes (parameter_front bytes) e
  | inr n63 ↦ elim (cases_Bool (eqb b 59)) [
    | inl e ↦ at_byte b 59 bytes (end_front bytes) e
    | inr n59 ↦ elim (cases_Bool (eqb b 91)) [
      | inl e ↦ at_byte b 91 bytes (bracket_front bytes) e
      | inr n91 ↦ elim (cases_Bool (eqb b 45)) [
        | inl e ↦ at_byte b 45 bytes (dash_front bytes) e
        | inr n45 ↦ elim (cases_Bool (eqb b 47)) [
          | inl e ↦ at_byte b 47 bytes (slash_front bytes) e
          | inr n47 ↦ alone_front b bytes (record {
            space = space;
            word = word;
            quote = quote;
            bracket = eqb-false b 91 n91;
            end = eqb-false b 59 n59;
            parameter = eqb-false b 63 n63;
            named = λ s. absurd (let h : true ≡ false = sym s ∙ sigil in cc);
            line = λ e. absurd (eqb-false b 45 n45 e);
            star = λ e. absurd (eqb-false b 47 n47 e);
          })
        ]
      ]
    ]
  ]
]

-- the first token of a text is one
pub token_front : (b : ℕ) (bytes : List ℕ) → IsToken (token_of b bytes).0 (take (token_of b bytes).1 (b ∷ bytes)) (drop (token_of b bytes).1 (b ∷ bytes))
token_front b bytes = elim (cases_Bool (is_space b)) [
  | inl e ↦ subst (Front (b ∷ bytes)) (sym (space_back b bytes e)) (b, e, refl)
  | inr space ↦ elim (cases_Bool (is_word_start b)) [
    | inl e ↦ subst (Front (b ∷ bytes)) (sym (word_back b bytes e)) (one_more (b ∷ bytes) Word (run is_word_part bytes) (b, take (run is_word_part bytes) bytes, e, run_split is_word_part bytes, refl))
    | inr word ↦ elim (cases_Bool (is_quote b)) [
      | inl e ↦ quote_front b bytes e
      | inr quote ↦ elim (cases_Bool (is_sigil b)) [
        | inl e ↦ sigil_front b bytes e
        | inr sigil ↦ sign_front b bytes space word quote sigil
      ]
    ]
  ]
]
