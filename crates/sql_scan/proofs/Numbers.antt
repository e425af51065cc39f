-- Numbers of parameters.
use Rattle.std.proofs.Common.{◌≡◌, ℕ, ◌+◌, ◌*◌, ◌-◌, ◌<◌, ◌≤◌, min, leb, ◌&&◌, List, [], ◌∷◌, length, get_or, drop, Option, Some, None, sym, ap, ◌∙◌, arith, inl, inr}
use Rattle.std.proofs.lemmas.Bool.{cases_lt, cond-false, and_right, lt-leb}
use Rattle.std.proofs.lemmas.List.{at_drop_more, at_drop_all}
use Rattle.sql_scan.specs.Statements.{decimal, in_range, parameter}

-- a number may be capped at one that is too great
capped-decimal : (m : ℕ) (ds : List ℕ) → min (decimal (min m 32767) ds) 32767 ≡ min (decimal m ds) 32767
unfolding decimal
capped-decimal m [] = omega arith
capped-decimal m (d ∷ ds) =
    let x : ℕ = 10 * min m 32767 + (d - 48) in
    let y : ℕ = 10 * m + (d - 48) in
    let same : min x 32767 ≡ min y 32767 = omega arith in
    sym (capped-decimal x ds) ∙ ap (λ (n : ℕ). min (decimal n ds) 32767) same ∙ capped-decimal y ds

pub decimal_more : (n i d : ℕ) (ds : List ℕ) (total : ℕ) → i < length ds → d ≡ get_or ds i 0 → min (decimal n (drop i ds)) 32767 ≡ total
    → min (decimal (min (10 * n + (d - 48)) 32767) (drop (i + 1) ds)) 32767 ≡ total
unfolding decimal
decimal_more n i d ds total lt is so_far =
    capped-decimal (10 * n + (d - 48)) (drop (i + 1) ds)
    ∙ sym (at_drop_more (λ (xs : List ℕ). min (decimal n xs) 32767) ds i 0 lt ∙ ap (λ (e : ℕ). min (decimal (10 * n + (e - 48)) (drop (i + 1) ds)) 32767) (sym is))
    ∙ so_far

pub decimal_all : (n i : ℕ) (ds : List ℕ) (total : ℕ) → length ds ≤ i → n ≤ 32767 → min (decimal n (drop i ds)) 32767 ≡ total → n ≡ total
unfolding decimal
decimal_all n i ds total le small so_far =
    let e : n ≡ min n 32767 = omega arith in
    e ∙ sym (at_drop_all (λ (xs : List ℕ). min (decimal n xs) 32767) ds i le) ∙ so_far

too_great : (n : ℕ) → 32767 ≤ n → None ≡ in_range n
unfolding in_range
too_great n ge =
    let above : 32766 < n = omega arith in
    sym (cond-false (leb 1 n && leb n 32766) (Some n) None (and_right (leb 1 n) (leb n 32766) (lt-leb n 32766 above)))

pub in_range_capped : (n : ℕ) → in_range (min n 32767) ≡ in_range n
unfolding in_range
in_range_capped n = elim (cases_lt n 32767) [
  | inl lt ↦ ap in_range (let e : min n 32767 ≡ n = omega arith in e)
  | inr ge ↦ ap in_range (let e : min n 32767 ≡ 32767 = omega arith in e) ∙ too_great n ge
]

pub parameter_none : (greatest : ℕ) (digits : List ℕ) (found : Option ℕ) → length digits ≡ 0 → found ≡ in_range (greatest + 1) → found ≡ parameter greatest digits
unfolding parameter
parameter_none greatest [] found len is = is
parameter_none greatest (d ∷ ds) found len is = absurd (omega arith)

pub parameter_some : (greatest m : ℕ) (digits : List ℕ) (found : Option ℕ) → 0 < length digits → m ≡ min (decimal 0 digits) 32767 → found ≡ in_range m → found ≡ parameter greatest digits
unfolding parameter
parameter_some greatest m [] found len number is = absurd (omega arith)
parameter_some greatest m (d ∷ ds) found len number is = is ∙ ap in_range number ∙ in_range_capped (decimal 0 (d ∷ ds))
