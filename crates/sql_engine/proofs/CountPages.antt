-- The side file after a change: its page 1 counts one change more.
use Rattle.std.proofs.Common.{◌≡◌, ℕ, ◌+◌, ◌-◌, ◌*◌, ◌%◌, ◌^◌, ◌<◌, ◌≤◌, max, List, [], ◌∷◌, length, Option, Some, None, refl, ap, ◌∙◌, arith, inl, inr}
use Rattle.std.specs.Str.{bytes_eq}
use Rattle.std.proofs.lemmas.Bool.{cases_lt, cond-false, false_from_ne_true}
use Rattle.std.proofs.lemmas.Slice.Eq.{bytes_eq-Decides}
use Rattle.byteorder.specs.Endian.{little_number}
use Rattle.byteorder.specs.Numbers.{little_number-reads_back}
use Rattle.dq_base.specs.declared.images.Image.{Image}
use Rattle.dq_base.specs.Images.{zeros, page_from, page_at}
use Rattle.dq_base.specs.Changes.{changed_page}
use Rattle.sql_engine.specs.Cells.{cell_page, with_page, number_in, changes_in, with_main}
use Rattle.sql_engine.specs.CellChanges.{count_page}
use Rattle.sql_engine.proofs.CellFiles.{length-cell_page, length-with_page, page_there, page_else}
use Rattle.sql_engine.proofs.CellPages.{side_inside, side_past}
use Rattle.sql_engine.proofs.ChangeLists.{here, Same, same_gone, same_there}

-- the count after one more
abbrev next_count : Image → ℕ
next_count image = (changes_in image + 1) % 2 ^ 64

number_of_cell : (value : ℕ) → value < 2 ^ 64 → little_number 8 (cell_page value) ≡ value
unfolding cell_page
number_of_cell value fits = little_number-reads_back 8 value (zeros 4088) fits

pub count_there : (a : Image) (main : List ℕ) → page_at (with_main a main) 3 ≡ Some (cell_page (next_count a))
count_there a main =
    let size : length (cell_page (next_count a)) ≡ 4096 = length-cell_page (next_count a) in
    let len : length (with_page a.side 1 (cell_page (next_count a))) ≡ max (length a.side) 4096 = length-with_page a.side 1 (cell_page (next_count a)) size in
    side_inside (with_main a main) 1 (omega arith) (omega arith)
    ∙ ap (λ (x : List ℕ). Some x) (page_there a.side 1 (cell_page (next_count a)) (omega arith) size)

-- the page of a number that differs from the one before
other_page : (n next : ℕ) (old : Option (List ℕ)) → next < 2 ^ 64 → (number_in old ≡ next → ⊥) → changed_page n old (Some (cell_page next)) ≡ (record { number = n; page = cell_page next }) ∷ []
other_page n next None fits differ = refl
other_page n next (Some old) fits differ =
    cond-false (bytes_eq old (cell_page next)) [] ((record { number = n; page = cell_page next }) ∷ [])
    (false_from_ne_true (bytes_eq old (cell_page next)) (λ same.
    differ (ap (little_number 8) ((bytes_eq-Decides old (cell_page next)).0 same) ∙ number_of_cell next fits)))

counts_on : (c : ℕ) → c ≡ (c + 1) % 2 ^ 64 → ⊥
counts_on c e = absurd (omega arith)

pub count_listed : (a : Image) (main : List ℕ) → here a (with_main a main) 3 ≡ count_page a ∷ []
count_listed a main =
    ap (λ (o : Option (List ℕ)). changed_page 3 (page_at a 3) o) (count_there a main)
    ∙ other_page 3 (next_count a) (page_at a 3) (omega arith) (counts_on (changes_in a))

-- the images differ
pub count_differs : (a : Image) (main : List ℕ) → a ≡ with_main a main → ⊥
count_differs a main e =
    let pages : page_at a 3 ≡ Some (cell_page (next_count a)) = ap (λ (i : Image). page_at i 3) e ∙ count_there a main in
    counts_on (changes_in a) (ap number_in pages ∙ number_of_cell (next_count a) (omega arith))

-- all pages of the side file but the first are as before
pub sides_same : (a : Image) (main : List ℕ) (q : ℕ) → 2 ≤ q → Same a (with_main a main) (2 * q + 1)
sides_same a main q from =
    let size : length (cell_page (next_count a)) ≡ 4096 = length-cell_page (next_count a) in
    let len : length (with_page a.side 1 (cell_page (next_count a))) ≡ max (length a.side) 4096 = length-with_page a.side 1 (cell_page (next_count a)) size in
    elim (cases_lt (4096 * (q - 1)) (length a.side)) [
      | inl inside ↦
          same_there a (with_main a main) (2 * q + 1) (page_from a.side (4096 * (q - 1))) (side_inside a q (omega arith) inside)
          (side_inside (with_main a main) q (omega arith) (omega arith)
          ∙ ap (λ (x : List ℕ). Some x) (page_else a.side 1 q (cell_page (next_count a)) (omega arith) (omega arith) (λ e. absurd (omega arith)) size))
      | inr past ↦ same_gone a (with_main a main) (2 * q + 1) (side_past (with_main a main) q (omega arith) (omega arith))
    ]
