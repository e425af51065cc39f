-- The cut of rows into parts, one part after the other.
use Rattle.std.proofs.Common.{◌≡◌, ◌+◌, ◌-◌, ◌<◌, ◌≤◌, ℕ, zero, suc, Bool, true, false, List, [], ◌∷◌, ◌++◌, length, take, drop, append_assoc, refl, sym, ap, ◌∙◌, arith}
use Rattle.std.proofs.lemmas.List.{length-drop, nil_from_length, at_drop_all, take_all}
use Rattle.std.proofs.lemmas.List.Sums.{sum_by-cons}
use Rattle.std.proofs.lemmas.Bool.{eqb-true, eqb-false}
use Rattle.std.proofs.Math.Dec.{eqb}
use Rattle.wire_rows.specs.declared.part.More.{More}
use Rattle.wire_rows.specs.declared.part.More.TheVariants.{Last, Follows}
use Rattle.wire_rows.specs.Spelling.{body_bytes}
use Rattle.wire_rows.specs.Cut.{Rows, first_count, where_any, cut_in, cut, more_after, bodies, total_size}
use Rattle.wire_rows.specs.Answering.{held}
use Rattle.wire_rows.proofs.Greedy.{one_at_least}

drop_of_none : (n : ℕ) (rows : Rows) → length rows ≤ 0 → drop n rows ≡ []
drop_of_none n rows none = at_drop_all (λ (rs : Rows). rs) rows n (omega arith)

-- what is left after the first part is shorter
pub rest_shorter : (columns : List (List ℕ)) (rows : Rows) (n : ℕ) → length rows ≤ suc n → length (drop (first_count columns rows) rows) ≤ n
rest_shorter columns rows n le = let one = one_at_least columns rows in rw (length-drop (first_count columns rows) rows) (omega arith)

-- enough parts are allowed where as many are as there are rows
enough : (n m : ℕ) (columns : List (List ℕ)) (rows : Rows) → length rows ≤ n → length rows ≤ m → cut_in n columns rows ≡ cut_in m columns rows
enough zero zero columns rows le me = refl
enough zero (suc m) columns rows le me =
    let all : take (first_count columns rows) rows ≡ rows = take_all (first_count columns rows) rows (omega arith) in
    rw (all, drop_of_none (first_count columns rows) rows le) refl
enough (suc n) zero columns rows le me =
    let all : take (first_count columns rows) rows ≡ rows = take_all (first_count columns rows) rows (omega arith) in
    rw (all, drop_of_none (first_count columns rows) rows me) refl
enough (suc n) (suc m) columns rows le me =
    let k = first_count columns rows in
    ap (λ (parts : List Rows). take k rows ∷ where_any (drop k rows) parts)
    (enough n m columns (drop k rows) (rest_shorter columns rows n le) (rest_shorter columns rows m me))

-- the first part, and the parts of the rest
pub cut_first : (columns : List (List ℕ)) (rows : Rows) → cut columns rows ≡ take (first_count columns rows) rows ∷ where_any (drop (first_count columns rows) rows) (cut columns (drop (first_count columns rows) rows))
unfolding cut
cut_first columns rows =
    enough (length rows) (suc (length rows)) columns rows (omega arith) (omega arith)
    ∙ ap (λ (parts : List Rows). take (first_count columns rows) rows ∷ where_any (drop (first_count columns rows) rows) parts)
    (enough (length rows) (length (drop (first_count columns rows) rows)) columns (drop (first_count columns rows) rows) (rest_shorter columns rows (length rows) (omega arith)) (omega arith))

cut_in_goes_on : (n : ℕ) (columns : List (List ℕ)) (rows : Rows) → more_after (cut_in n columns rows) ≡ Follows
cut_in_goes_on zero columns rows = refl
cut_in_goes_on (suc n) columns rows = refl

goes_on : (columns : List (List ℕ)) (rows : Rows) → more_after (cut columns rows) ≡ Follows
unfolding cut
goes_on columns rows = cut_in_goes_on (length rows) columns rows

some_rows : (rest : Rows) (parts : List Rows) → 0 < length rest → where_any rest parts ≡ parts
some_rows [] parts lt = absurd (omega arith)
some_rows (r ∷ rest) parts lt = refl

-- the cut where no row is after the first part
pub cut_last : (columns : List (List ℕ)) (rows part rest : Rows) → part ≡ take (first_count columns rows) rows → rest ≡ drop (first_count columns rows) rows → length rest ≡ 0
    → cut columns rows ≡ part ∷ []
cut_last columns rows part rest first behind none =
    let empty : drop (first_count columns rows) rows ≡ [] = sym behind ∙ nil_from_length rest none in
    cut_first columns rows ∙ ap (λ (left : Rows). take (first_count columns rows) rows ∷ where_any left (cut columns left)) empty ∙ ap (λ (p : Rows). p ∷ []) (sym first)

-- the cut where some are
pub cut_more : (columns : List (List ℕ)) (rows part rest : Rows) → part ≡ take (first_count columns rows) rows → rest ≡ drop (first_count columns rows) rows → 0 < length rest
    → cut columns rows ≡ part ∷ cut columns rest
cut_more columns rows part rest first behind some =
    cut_first columns rows ∙ ap (λ (left : Rows). take (first_count columns rows) rows ∷ where_any left (cut columns left)) (sym behind)
    ∙ ap (λ (parts : List Rows). take (first_count columns rows) rows ∷ parts) (some_rows rest (cut columns rest) some) ∙ ap (λ (p : Rows). p ∷ cut columns rest) (sym first)

pub bodies_last : (columns : List (List ℕ)) (rows part rest : Rows) → part ≡ take (first_count columns rows) rows → rest ≡ drop (first_count columns rows) rows → length rest ≡ 0
    → bodies columns (cut columns rows) ≡ body_bytes columns part Last ∷ []
bodies_last columns rows part rest first behind none = ap (bodies columns) (cut_last columns rows part rest first behind none)

pub bodies_more : (columns : List (List ℕ)) (rows part rest : Rows) → part ≡ take (first_count columns rows) rows → rest ≡ drop (first_count columns rows) rows → 0 < length rest
    → bodies columns (cut columns rows) ≡ body_bytes columns part Follows ∷ bodies columns (cut columns rest)
bodies_more columns rows part rest first behind some =
    ap (bodies columns) (cut_more columns rows part rest first behind some)
    ∙ ap (λ (more : More). body_bytes columns part more ∷ bodies columns (cut columns rest)) (goes_on columns rest)

pub total_last : (columns : List (List ℕ)) (rows part rest : Rows) → part ≡ take (first_count columns rows) rows → rest ≡ drop (first_count columns rows) rows → length rest ≡ 0
    → total_size (bodies columns (cut columns rows)) ≡ length (body_bytes columns part Last)
total_last columns rows part rest first behind none =
    let one : total_size (bodies columns (cut columns rows)) ≡ total_size (body_bytes columns part Last ∷ []) = ap total_size (bodies_last columns rows part rest first behind none) in
    let size : total_size (body_bytes columns part Last ∷ []) ≡ length (body_bytes columns part Last) + 0 = sum_by-cons length (body_bytes columns part Last) [] in
    omega arith

pub total_more : (columns : List (List ℕ)) (rows part rest : Rows) → part ≡ take (first_count columns rows) rows → rest ≡ drop (first_count columns rows) rows → 0 < length rest
    → total_size (bodies columns (cut columns rows)) ≡ length (body_bytes columns part Follows) + total_size (bodies columns (cut columns rest))
total_more columns rows part rest first behind some =
    ap total_size (bodies_more columns rows part rest first behind some) ∙ sum_by-cons length (body_bytes columns part Follows) (bodies columns (cut columns rest))

-- the rows after the first part are fewer
pub fewer_rows : (columns : List (List ℕ)) (rows rest : Rows) → rest ≡ drop (first_count columns rows) rows → 0 < length rest → length rest < length rows
fewer_rows columns rows rest behind some =
    let one = one_at_least columns rows in
    let size : length rest ≡ length rows - first_count columns rows = ap length behind ∙ length-drop (first_count columns rows) rows in
    omega arith

some_left : (rest : Rows) (empty : Bool) → empty ≡ eqb (length rest) 0 → empty ≡ false → 0 < length rest
some_left [] empty is more = absurd (eqb-false 0 0 (sym is ∙ more) refl)
some_left (r ∷ rest) empty is more = omega arith

none_left : (rest : Rows) (empty : Bool) → empty ≡ eqb (length rest) 0 → empty ≡ true → length rest ≡ 0
none_left rest empty is none = eqb-true (length rest) 0 (sym is ∙ none)

-- adding the sizes of bodies up, at the last part
pub sum_at_end : (columns : List (List ℕ)) (rows part rest : Rows) (empty : Bool) (total size sum whole : ℕ) → part ≡ take (first_count columns rows) rows → rest ≡ drop (first_count columns rows) rows
    → empty ≡ eqb (length rest) 0 → empty ≡ true → sum ≡ held (total + size) → size ≡ held (length (body_bytes columns part Last))
    → held (total + total_size (bodies columns (cut columns rows))) ≡ whole → sum ≡ whole
sum_at_end columns rows part rest empty total size sum whole first behind is none added sized so_far =
    let last = total_last columns rows part rest first behind (none_left rest empty is none) in
    omega (arith, added, sized, rw last at so_far)

-- and at another
pub sum_goes_on : (columns : List (List ℕ)) (rows part rest : Rows) (empty : Bool) (total size sum whole : ℕ) → part ≡ take (first_count columns rows) rows → rest ≡ drop (first_count columns rows) rows
    → empty ≡ eqb (length rest) 0 → empty ≡ false → sum ≡ held (total + size) → size ≡ held (length (body_bytes columns part Follows))
    → held (total + total_size (bodies columns (cut columns rows))) ≡ whole → held (sum + total_size (bodies columns (cut columns rest))) ≡ whole
sum_goes_on columns rows part rest empty total size sum whole first behind is some added sized so_far =
    let more = total_more columns rows part rest first behind (some_left rest empty is some) in
    omega (arith, added, sized, rw more at so_far)

-- bodies that were made, and those of the rows that are left
pub bodies_go_on : (columns : List (List ℕ)) (rows part rest : Rows) (empty : Bool) (made new whole : List (List ℕ)) (body : List ℕ) → part ≡ take (first_count columns rows) rows → rest ≡ drop (first_count columns rows) rows
    → empty ≡ eqb (length rest) 0 → empty ≡ false → body ≡ body_bytes columns part Follows → new ≡ made ++ body ∷ []
    → made ++ bodies columns (cut columns rows) ≡ whole → new ++ bodies columns (cut columns rest) ≡ whole
bodies_go_on columns rows part rest empty made new whole body first behind is some spelled pushed so_far =
    let more = bodies_more columns rows part rest first behind (some_left rest empty is some) in
    let left = bodies columns (cut columns rest) in
    ap (λ (xs : List (List ℕ)). xs ++ left) pushed ∙ append_assoc made (body ∷ []) left ∙ ap (λ (b : List ℕ). made ++ b ∷ left) spelled ∙ sym (ap (λ (xs : List (List ℕ)). made ++ xs) more) ∙ so_far
