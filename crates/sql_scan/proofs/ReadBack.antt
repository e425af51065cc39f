-- What is written as a token is read as that token.
use Rattle.std.proofs.Common.{◌≡◌, ℕ, suc, ◌+◌, ◌<◌, ◌≤◌, Bool, true, false, cond, eqb, ltb, ◌&&◌, List, [], ◌∷◌, ◌++◌, length, Option, Some, None, refl, sym, ap, subst, ◌∙◌, arith, length-append}
use Rattle.std.specs.List.{prefix_len}
use Rattle.std.proofs.lemmas.Bool.{or_parts, eqb-true, eq-eqb, lt-ltb, le-ltb, cond-true, cond-false, cond_both}
use Rattle.std.proofs.lemmas.List.{get_or_append_left, get_or_at, append-nil}
use Rattle.std.proofs.lemmas.List.Sums.{prefix_len_is}
use Rattle.sql_scan.specs.Lengths.{run, longer, quoted, bracketed, starred}
use Rattle.sql_scan.specs.Grammar.{StopsAt, Runs, spelled, ends_here, has_end, is_bracket_inside}
use Rattle.sql_scan.proofs.Runs.{run_is}

-- ---- runs

pub prefix_back : (p : ℕ → Bool) (bytes after : List ℕ) → Runs p bytes after → prefix_len p (bytes ++ after) ≡ length bytes
prefix_back p bytes [] r =
    prefix_len_is p (bytes ++ []) (length bytes) 0 (omega (arith, length-append bytes []))
    (λ k lt. rw get_or_append_left (r.each k 0 lt))
    (λ lt. absurd (omega (arith, length-append bytes [])))
prefix_back p bytes (a ∷ others) r =
    prefix_len_is p (bytes ++ a ∷ others) (length bytes) 0 (omega (arith, length-append bytes (a ∷ others)))
    (λ k lt. rw get_or_append_left (r.each k 0 lt))
    (λ lt. rw (get_or_at bytes a others 0 (length bytes) refl) r.stops)

pub run_back : (p : ℕ → Bool) (bytes after : List ℕ) → Runs p bytes after → run p (bytes ++ after) ≡ length bytes
run_back p bytes after r = run_is p (bytes ++ after) ∙ prefix_back p bytes after r

-- ---- quotes

pair : (q : ℕ) (rest : List ℕ) → quoted q false (q ∷ q ∷ rest) ≡ longer (longer (quoted q false rest))
unfolding quoted
pair q rest = rw (eq-eqb q q refl) refl

plain : (q c : ℕ) (rest : List ℕ) → eqb c q ≡ false → quoted q false (c ∷ rest) ≡ longer (quoted q false rest)
unfolding quoted
plain q c rest e = rw e refl

last : (q : ℕ) (after : List ℕ) → StopsAt (λ b. eqb b q) after → quoted q false (q ∷ after) ≡ Some 1
unfolding quoted
last q [] stops = rw (eq-eqb q q refl) refl
last q (a ∷ others) stops = rw (eq-eqb q q refl, stops) refl

pub quoted_back : (q : ℕ) (content after : List ℕ) → StopsAt (λ b. eqb b q) after → quoted q false (spelled q content ++ (q ∷ after)) ≡ Some (length (spelled q content) + 1)
quoted_back q [] after stops = last q after stops
quoted_back q (c ∷ others) after stops =
    let so_far : quoted q false (spelled q others ++ (q ∷ after)) ≡ Some (length (spelled q others) + 1) = quoted_back q others after stops in
    let P : List ℕ → Type 0 = λ d. quoted q false ((d ++ spelled q others) ++ (q ∷ after)) ≡ Some (length (d ++ spelled q others) + 1) in
    cond_both (eqb c q) (q ∷ q ∷ []) (c ∷ []) P
    (λ e. pair q (spelled q others ++ (q ∷ after)) ∙ ap (λ (o : Option ℕ). longer (longer o)) so_far ∙ ap Some (two (length (spelled q others))))
    (λ e. plain q c (spelled q others ++ (q ∷ after)) e ∙ ap longer so_far ∙ ap Some (one (length (spelled q others))))
  where
    two : (n : ℕ) → n + 1 + 1 + 1 ≡ suc (suc n) + 1
    two n = omega arith

    one : (n : ℕ) → n + 1 + 1 ≡ suc n + 1
    one n = omega arith

pub quoted_open_back : (q : ℕ) (content : List ℕ) → quoted q false (spelled q content) ≡ None
unfolding quoted
quoted_open_back q [] = refl
quoted_open_back q (c ∷ others) =
    let P : List ℕ → Type 0 = λ d. quoted q false (d ++ spelled q others) ≡ None in
    cond_both (eqb c q) (q ∷ q ∷ []) (c ∷ []) P
    (λ e. pair q (spelled q others) ∙ ap (λ (o : Option ℕ). longer (longer o)) (quoted_open_back q others))
    (λ e. plain q c (spelled q others) e ∙ ap longer (quoted_open_back q others))

-- ---- brackets

pub bracketed_back : (inside after : List ℕ) → Runs is_bracket_inside inside (93 ∷ after) → bracketed (inside ++ (93 ∷ after)) ≡ Some (length inside + 1)
bracketed_back inside after r =
    let n : prefix_len is_bracket_inside (inside ++ (93 ∷ after)) ≡ length inside = prefix_back is_bracket_inside inside (93 ∷ after) r in
    let lt : length inside < length (inside ++ (93 ∷ after)) = omega (arith, length-append inside (93 ∷ after)) in
    ap (λ (k : ℕ). longer (cond (ltb k (length (inside ++ (93 ∷ after)))) (Some k) None)) n
    ∙ ap longer (cond-true (ltb (length inside) (length (inside ++ (93 ∷ after)))) (Some (length inside)) None (lt-ltb (length inside) (length (inside ++ (93 ∷ after))) lt))

pub bracketed_open_back : (inside : List ℕ) → Runs is_bracket_inside inside [] → bracketed inside ≡ None
bracketed_open_back inside r =
    let n : prefix_len is_bracket_inside inside ≡ length inside = sym (ap (prefix_len is_bracket_inside) (append-nil inside)) ∙ prefix_back is_bracket_inside inside [] r in
    let le : length inside ≤ length inside = omega arith in
    ap (λ (k : ℕ). longer (cond (ltb k (length inside)) (Some k) None)) n
    ∙ ap longer (cond-false (ltb (length inside) (length inside)) (Some (length inside)) None (le-ltb (length inside) (length inside) le))

-- ---- star comments

-- the star that stands just before, if one does
abbrev pub lead : Bool → List ℕ
lead true = 42 ∷ []
lead false = []

pub without_lead : (star : Bool) (xs : List ℕ) → has_end (lead star ++ xs) ≡ false → has_end xs ≡ false
unfolding has_end
without_lead true xs h = (or_parts (ends_here (42 ∷ xs)) (has_end xs) h).1
without_lead false xs h = h

no_slash : (star : Bool) (b : ℕ) (xs : List ℕ) → has_end (lead star ++ (b ∷ xs)) ≡ false → (star && eqb b 47) ≡ false
unfolding has_end
no_slash true b xs h = (or_parts (eqb b 47) (has_end (b ∷ xs)) h).0
no_slash false b xs h = refl

one_on : (b : ℕ) (t : Bool) (xs : List ℕ) → eqb b 42 ≡ t → has_end (b ∷ xs) ≡ false → has_end (lead t ++ xs) ≡ false
unfolding has_end
one_on b true xs e h = subst (λ (c : ℕ). has_end (c ∷ xs) ≡ false) (eqb-true b 42 e) h
one_on b false xs e h = (or_parts (ends_here (b ∷ xs)) (has_end xs) h).1

pub starred_back : (star : Bool) (inside after : List ℕ) → has_end (lead star ++ (inside ++ 42 ∷ [])) ≡ false → starred star (inside ++ (42 ∷ 47 ∷ after)) ≡ Some (length inside + 2)
unfolding starred
starred_back true [] after h = refl
starred_back false [] after h = refl
starred_back star (b ∷ inside) after h =
    let rest : has_end (lead (eqb b 42) ++ (inside ++ 42 ∷ [])) ≡ false = one_on b (eqb b 42) (inside ++ 42 ∷ []) refl (without_lead star (b ∷ (inside ++ 42 ∷ [])) h) in
    cond-false (star && eqb b 47) (Some 1) (longer (starred (eqb b 42) (inside ++ (42 ∷ 47 ∷ after)))) (no_slash star b (inside ++ 42 ∷ []) h)
    ∙ ap longer (starred_back (eqb b 42) inside after rest) ∙ ap Some (let e : length inside + 2 + 1 ≡ suc (length inside) + 2 = omega arith in e)

pub starred_open_back : (star : Bool) (inside : List ℕ) → has_end (lead star ++ inside) ≡ false → starred star inside ≡ None
unfolding starred
starred_open_back star [] h = refl
starred_open_back star (b ∷ inside) h =
    let rest : has_end (lead (eqb b 42) ++ inside) ≡ false = one_on b (eqb b 42) inside refl (without_lead star (b ∷ inside) h) in
    cond-false (star && eqb b 47) (Some 1) (longer (starred (eqb b 42) inside)) (no_slash star b inside h)
    ∙ ap longer (starred_open_back (eqb b 42) inside rest)
