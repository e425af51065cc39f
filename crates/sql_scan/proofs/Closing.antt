-- The steps of the loops that look for the end of a token.
use Rattle.std.proofs.Common.{◌≡◌, ℕ, ◌+◌, ◌<◌, ◌≤◌, Bool, true, false, not, eqb, ◌&&◌, List, ◌∷◌, length, get_or, drop, Option, Some, None, refl, sym, ap, ◌∙◌, arith}
use Rattle.std.specs.Option.{option_map}
use Rattle.std.proofs.lemmas.Bool.{cond-true, cond-false}
use Rattle.std.proofs.lemmas.List.{at_drop_more, at_drop_all}
use Rattle.sql_scan.specs.Lengths.{longer, quoted, starred}

-- this many bytes more
abbrev pub further : ℕ → Option ℕ → Option ℕ
further n o = option_map (λ m. n + m) o

further-none : (o : Option ℕ) → further 0 o ≡ o
further-none None = refl
further-none (Some m) = ap Some (let e : 0 + m ≡ m = omega arith in e)

further-longer : (i : ℕ) (o : Option ℕ) → further i (longer o) ≡ further (i + 1) o
further-longer i None = refl
further-longer i (Some m) = ap Some (let e : i + (m + 1) ≡ (i + 1) + m = omega arith in e)

-- what is left at an item, one item on
next : {Y : Type 0} (F : List ℕ → Y) (xs : List ℕ) (i x : ℕ) → i < length xs → x ≡ get_or xs i 0 → F (drop i xs) ≡ F (x ∷ drop (i + 1) xs)
next F xs i x lt is = at_drop_more F xs i 0 lt ∙ ap (λ (y : ℕ). F (y ∷ drop (i + 1) xs)) (sym is)

pub quoted_none : (q : ℕ) (odd : Bool) (xs : List ℕ) → further 0 (quoted q odd (drop 0 xs)) ≡ quoted q odd xs
quoted_none q odd xs = further-none (quoted q odd xs)

pub quoted_stop : (q : ℕ) (odd : Bool) (xs : List ℕ) (i b : ℕ) (total : Option ℕ) → i < length xs → b ≡ get_or xs i 0 → (odd && not (eqb b q)) ≡ true
    → further i (quoted q odd (drop i xs)) ≡ total → Some i ≡ total
unfolding quoted
quoted_stop q odd xs i b total lt is stop so_far =
    ap Some (let e : i ≡ i + 0 = omega arith in e)
    ∙ sym (ap (further i) (next (quoted q odd) xs i b lt is ∙ cond-true (odd && not (eqb b q)) (Some 0) (longer (quoted q (eqb b q && not odd) (drop (i + 1) xs))) stop))
    ∙ so_far

pub quoted_more : (q : ℕ) (odd : Bool) (xs : List ℕ) (i b : ℕ) (total : Option ℕ) → i < length xs → b ≡ get_or xs i 0 → (odd && not (eqb b q)) ≡ false
    → further i (quoted q odd (drop i xs)) ≡ total → further (i + 1) (quoted q (eqb b q && not odd) (drop (i + 1) xs)) ≡ total
unfolding quoted
quoted_more q odd xs i b total lt is go so_far =
    sym (further-longer i (quoted q (eqb b q && not odd) (drop (i + 1) xs)))
    ∙ sym (ap (further i) (next (quoted q odd) xs i b lt is ∙ cond-false (odd && not (eqb b q)) (Some 0) (longer (quoted q (eqb b q && not odd) (drop (i + 1) xs))) go))
    ∙ so_far

pub quoted_whole : (q : ℕ) (odd : Bool) (xs : List ℕ) (i : ℕ) (total : Option ℕ) → length xs ≤ i → i ≤ length xs → odd ≡ true → further i (quoted q odd (drop i xs)) ≡ total
    → Some (length xs) ≡ total
unfolding quoted
quoted_whole q true xs i total le ge is so_far =
    ap Some (let e : length xs ≡ i + 0 = omega arith in e) ∙ sym (at_drop_all (λ (ys : List ℕ). further i (quoted q true ys)) xs i le) ∙ so_far
quoted_whole q false xs i total le ge is so_far = absurd cc

pub quoted_open : (q : ℕ) (odd : Bool) (xs : List ℕ) (i : ℕ) (total : Option ℕ) → length xs ≤ i → odd ≡ false → further i (quoted q odd (drop i xs)) ≡ total → None ≡ total
unfolding quoted
quoted_open q true xs i total le is so_far = absurd cc
quoted_open q false xs i total le is so_far = sym (at_drop_all (λ (ys : List ℕ). further i (quoted q false ys)) xs i le) ∙ so_far

pub starred_none : (star : Bool) (xs : List ℕ) → further 0 (starred star (drop 0 xs)) ≡ starred star xs
starred_none star xs = further-none (starred star xs)

pub starred_stop : (star : Bool) (xs : List ℕ) (i b : ℕ) (total : Option ℕ) → i < length xs → b ≡ get_or xs i 0 → (star && eqb b 47) ≡ true
    → further i (starred star (drop i xs)) ≡ total → Some (i + 1) ≡ total
unfolding starred
starred_stop star xs i b total lt is stop so_far =
    sym (ap (further i) (next (starred star) xs i b lt is ∙ cond-true (star && eqb b 47) (Some 1) (longer (starred (eqb b 42) (drop (i + 1) xs))) stop)) ∙ so_far

pub starred_more : (star : Bool) (xs : List ℕ) (i b : ℕ) (total : Option ℕ) → i < length xs → b ≡ get_or xs i 0 → (star && eqb b 47) ≡ false
    → further i (starred star (drop i xs)) ≡ total → further (i + 1) (starred (eqb b 42) (drop (i + 1) xs)) ≡ total
unfolding starred
starred_more star xs i b total lt is go so_far =
    sym (further-longer i (starred (eqb b 42) (drop (i + 1) xs)))
    ∙ sym (ap (further i) (next (starred star) xs i b lt is ∙ cond-false (star && eqb b 47) (Some 1) (longer (starred (eqb b 42) (drop (i + 1) xs))) go))
    ∙ so_far

pub starred_all : (star : Bool) (xs : List ℕ) (i : ℕ) (total : Option ℕ) → length xs ≤ i → further i (starred star (drop i xs)) ≡ total → None ≡ total
unfolding starred
starred_all star xs i total le so_far = sym (at_drop_all (λ (ys : List ℕ). further i (starred star ys)) xs i le) ∙ so_far
