-- What the statements of cells change, as the lists that they make.
use Rattle.std.proofs.Common.{◌≡◌, ℕ, zero, suc, ◌+◌, ◌-◌, ◌*◌, ◌%◌, ◌^◌, ◌<◌, ◌≤◌, ◌⊎◌, max, min, eqb, List, [], ◌∷◌, ◌++◌, length, take, Option, Some, refl, sym, ap, ◌∙◌, append_assoc, arith, inl, inr}
use Rattle.std.proofs.lemmas.Bool.{cases_lt, cond-true, cond-false, lt-ltb, le-ltb, eq-eqb, ne_eqb}
use Rattle.std.proofs.lemmas.List.{append-nil, length-take}
use Rattle.dq_base.specs.declared.images.Image.{Image}
use Rattle.dq_base.specs.declared.pages.NumberedPage.{NumberedPage}
use Rattle.dq_base.specs.Images.{zeros, page_from, page_at, pages_in, sizes_page}
use Rattle.dq_base.specs.Changes.{changed_page, numbers_above_one, sizes_of, changed}
use Rattle.sql_engine.specs.Cells.{cell_page, with_page, changes_in, with_main, with_cell, wiped}
use Rattle.sql_engine.specs.CellChanges.{new_page, cells_from, count_page}
use Rattle.sql_engine.proofs.CellFiles.{length-cell_page, length-with_page, page_there, page_else, page_past, page_before_cut}
use Rattle.sql_engine.proofs.CellPages.{main_inside, main_past}
use Rattle.sql_engine.proofs.ChangeLists.{here, Same, same_gone, same_there, evens, evens_none, evens_join, changed_around, changed_none}
use Rattle.sql_engine.proofs.CountPages.{count_listed, count_differs, sides_same}

-- the side file of an image after a change
side_length : (a : Image) (main : List ℕ) → length (with_main a main).side ≡ max (length a.side) 4096
side_length a main = length-with_page a.side 1 (cell_page ((changes_in a + 1) % 2 ^ 64)) (length-cell_page ((changes_in a + 1) % 2 ^ 64))

-- how many pages of a file there can be after the first, of an image after a change
abbrev pub behind_first : Image → ℕ
behind_first b = max (pages_in b.main) (pages_in b.side) - 1

some_pages : (a : Image) (main : List ℕ) → numbers_above_one (with_main a main) ≡ 2 * suc (behind_first (with_main a main))
some_pages a main =
    let side = side_length a main in
    omega arith

abbrev pub sizes_with : ℕ → ℕ → NumberedPage
sizes_with main side = record { number = 1; page = sizes_page main side }

sizes_after : (a : Image) (main : List ℕ) (len : ℕ) → length main ≡ len → sizes_of (with_main a main) ≡ sizes_with len (max (length a.side) 4096)
sizes_after a main len main_is =
    ap (λ (n : ℕ). sizes_with n (length (with_main a main).side)) main_is ∙ ap (sizes_with len) (side_length a main)

-- the change to an image with another main file: the first page of the main file, the count, and the others
changed_main : (a : Image) (main : List ℕ) (len : ℕ) → length main ≡ len
    → changed a (with_main a main) ≡ (here a (with_main a main) 2 ++ (count_page a ∷ evens a (with_main a main) 2 (behind_first (with_main a main)))) ++ sizes_with len (max (length a.side) 4096) ∷ []
changed_main a main len main_is =
    let b : Image = with_main a main in
    changed_around a b (behind_first b) (count_differs a main) (some_pages a main) (sides_same a main)
    ∙ ap (λ (ps : List NumberedPage). (here a b 2 ++ (ps ++ evens a b 2 (behind_first b))) ++ sizes_of b ∷ []) (count_listed a main)
    ∙ ap (λ (p : NumberedPage). (here a b 2 ++ (count_page a ∷ evens a b 2 (behind_first b))) ++ p ∷ []) (sizes_after a main len main_is)

-- ---- wiping

cut_length : (file : List ℕ) (n : ℕ) → 4096 * n < length file → length (take (4096 * n) file) ≡ 4096 * n
cut_length file n shorter = omega (arith, length-take (4096 * n) file)

wiped_same : (a : Image) (n q : ℕ) → 4096 * n < length a.main → 1 ≤ q → Same a (with_main a (take (4096 * n) a.main)) (2 * q)
wiped_same a n q shorter above =
    let b : Image = with_main a (take (4096 * n) a.main) in
    let len : length b.main ≡ 4096 * n = cut_length a.main n shorter in
    elim (cases_lt n q) [
      | inl gone ↦ same_gone a b (2 * q) (main_past b q above (omega arith))
      | inr left ↦
          same_there a b (2 * q) (page_from a.main (4096 * (q - 1))) (main_inside a q above (omega arith))
          (main_inside b q above (omega arith) ∙ ap (λ (x : List ℕ). Some x) (page_before_cut a.main n q above (omega arith)))
    ]

pub wipe_lists : (a : Image) (n : ℕ) → 4096 * n < length a.main → changed a (wiped a n) ≡ count_page a ∷ sizes_with (4096 * n) (max (length a.side) 4096) ∷ []
unfolding wiped
wipe_lists a n shorter =
    let main : List ℕ = take (4096 * n) a.main in
    let b : Image = with_main a main in
    let first : here a b 2 ≡ [] = wiped_same a n 1 shorter (omega arith) in
    let others : evens a b 2 (behind_first b) ≡ [] = evens_none a b 2 (behind_first b) (λ q from to. wiped_same a n q shorter (omega arith)) in
    ap (changed a) (cond-true _ b a (lt-ltb (4096 * n) (length a.main) shorter))
    ∙ changed_main a main (4096 * n) (cut_length a.main n shorter)
    ∙ ap (λ (ps : List NumberedPage). (ps ++ (count_page a ∷ evens a b 2 (behind_first b))) ++ sizes_with (4096 * n) (max (length a.side) 4096) ∷ []) first
    ∙ ap (λ (ps : List NumberedPage). (count_page a ∷ ps) ++ sizes_with (4096 * n) (max (length a.side) 4096) ∷ []) others

pub wipe_nothing : (a : Image) (n : ℕ) → length a.main ≤ 4096 * n → changed a (wiped a n) ≡ []
unfolding wiped
wipe_nothing a n le =
    ap (changed a) (cond-false _ (with_main a (take (4096 * n) a.main)) a (le-ltb (4096 * n) (length a.main) le)) ∙ changed_none a

-- ---- setting a cell

-- the first page of the main file that setting a cell may change
abbrev pub first_page : Image → ℕ → ℕ
first_page a page = min page (pages_in a.main + 1)

abbrev cell_file : Image → ℕ → ℕ → List ℕ
cell_file a page value = with_page a.main page (cell_page value)

cell_length : (a : Image) (page value : ℕ) → length (cell_file a page value) ≡ max (length a.main) (4096 * page)
cell_length a page value = length-with_page a.main page (cell_page value) (length-cell_page value)

-- a page from the first one to the cell's
cell_there : (a : Image) (page value q : ℕ) → 1 ≤ page → first_page a page ≤ q → q ≤ page → page_at (with_main a (cell_file a page value)) (2 * q) ≡ Some (new_page page value q)
cell_there a page value q above from to =
    let len = cell_length a page value in
    let is : page_at (with_main a (cell_file a page value)) (2 * q) ≡ Some (page_from (cell_file a page value) (4096 * (q - 1))) = main_inside (with_main a (cell_file a page value)) q (omega arith) (omega arith) in
    elim (cases_lt q page) [
      | inl before ↦
          is
          ∙ ap (λ (x : List ℕ). Some x) (page_else a.main page q (cell_page value) above (omega arith) (λ e. absurd (omega arith)) (length-cell_page value))
          ∙ ap (λ (x : List ℕ). Some x) (page_past a.main (4096 * (q - 1)) (omega arith))
          ∙ ap (λ (x : List ℕ). Some x) (sym (cond-false (eqb q page) (cell_page value) (zeros 4096) (ne_eqb q page (λ e. absurd (omega arith)))))
      | inr from_page ↦
          let same : q ≡ page = omega arith in
          is
          ∙ ap (λ (p : ℕ). Some (page_from (cell_file a page value) (4096 * (p - 1)))) same
          ∙ ap (λ (x : List ℕ). Some x) (page_there a.main page (cell_page value) above (length-cell_page value))
          ∙ ap (λ (x : List ℕ). Some x) (sym (cond-true (eqb q page) (cell_page value) (zeros 4096) (eq-eqb q page same)))
    ]

-- any other page
cell_same : (a : Image) (page value q : ℕ) → 1 ≤ page → 1 ≤ q → (q < first_page a page) ⊎ (page < q) → Same a (with_main a (cell_file a page value)) (2 * q)
cell_same a page value q above q_above side =
    let b : Image = with_main a (cell_file a page value) in
    let len = cell_length a page value in
    let differ : q ≡ page → ⊥ = λ e. elim side [ inl less ↦ absurd (omega arith) | inr more ↦ absurd (omega arith) ] in
    let behind : length a.main ≤ 4096 * (q - 1) → page < q = λ past. elim side [ inl less ↦ absurd (omega arith) | inr more ↦ more ] in
    elim (cases_lt (4096 * (q - 1)) (length a.main)) [
      | inl inside ↦
          same_there a b (2 * q) (page_from a.main (4096 * (q - 1))) (main_inside a q q_above inside)
          (main_inside b q q_above (omega arith) ∙ ap (λ (x : List ℕ). Some x) (page_else a.main page q (cell_page value) above q_above differ (length-cell_page value)))
      | inr past ↦
          let more : page < q = behind past in
          same_gone a b (2 * q) (main_past b q q_above (omega arith))
    ]

-- pages that are all listed
evens_are : (a b : Image) (page value p k : ℕ) → ((q : ℕ) → p ≤ q → q < p + k → page_at b (2 * q) ≡ Some (new_page page value q)) → evens a b p k ≡ cells_from a page value p k
unfolding evens cells_from
evens_are a b page value p zero there = refl
evens_are a b page value p (suc k) there =
    ap (λ (o : Option (List ℕ)). changed_page (2 * p) (page_at a (2 * p)) o ++ evens a b (p + 1) k) (there p (omega arith) (omega arith))
    ∙ ap (λ (ps : List NumberedPage). changed_page (2 * p) (page_at a (2 * p)) (Some (new_page page value p)) ++ ps) (evens_are a b page value (p + 1) k (λ q from to. there q (omega arith) (omega arith)))

no_cells : (a : Image) (page value p : ℕ) → cells_from a page value p 0 ≡ []
unfolding cells_from
no_cells a page value p = refl

-- the first page of the main file
first_listed : (a : Image) (page value : ℕ) → 1 ≤ page → here a (with_main a (cell_file a page value)) 2 ≡ cells_from a page value (first_page a page) (2 - first_page a page)
unfolding evens
first_listed a page value above =
    let b : Image = with_main a (cell_file a page value) in
    let first : ℕ = first_page a page in
    let alone : here a b 2 ≡ evens a b 1 1 = sym (append-nil (here a b 2)) in
    elim (cases_lt 1 first) [
      | inl later ↦
          let none : 2 - first ≡ 0 = omega arith in
          cell_same a page value 1 above (omega arith) (inl later) ∙ sym (ap (cells_from a page value first) none ∙ no_cells a page value first)
      | inr now ↦
          let one : first ≡ 1 = omega arith in
          let count : 2 - first ≡ 1 = omega arith in
          alone
          ∙ evens_are a b page value 1 1 (λ q from to. cell_there a page value q above (omega arith) (omega arith))
          ∙ ap (λ (p : ℕ). cells_from a page value p 1) (sym one)
          ∙ ap (cells_from a page value first) (sym count)
    ]

-- the pages after it
others_listed : (a : Image) (page value : ℕ) → 1 ≤ page
    → evens a (with_main a (cell_file a page value)) 2 (behind_first (with_main a (cell_file a page value))) ≡ cells_from a page value (max (first_page a page) 2) (page + 1 - max (first_page a page) 2)
others_listed a page value above =
    let b : Image = with_main a (cell_file a page value) in
    let len = cell_length a page value in
    let first : ℕ = max (first_page a page) 2 in
    let before : ℕ = first - 2 in
    let listed : ℕ = page + 1 - first in
    let rest : ℕ = behind_first b - before - listed in
    let pages : page ≤ pages_in b.main = omega arith in
    let count : behind_first b ≡ before + (listed + rest) = omega arith in
    let place : 2 + before ≡ first = omega arith in
    let none_before : evens a b 2 before ≡ [] = evens_none a b 2 before (λ q from to. cell_same a page value q above (omega arith) (inl (omega arith))) in
    let none_behind : evens a b (first + listed) rest ≡ [] = evens_none a b (first + listed) rest (λ q from to. cell_same a page value q above (omega arith) (inr (omega arith))) in
    ap (evens a b 2) count
    ∙ evens_join a b 2 before (listed + rest)
    ∙ ap (λ (ps : List NumberedPage). ps ++ evens a b (2 + before) (listed + rest)) none_before
    ∙ ap (λ (p : ℕ). evens a b p (listed + rest)) place
    ∙ evens_join a b first listed rest
    ∙ ap (λ (ps : List NumberedPage). evens a b first listed ++ ps) none_behind
    ∙ append-nil (evens a b first listed)
    ∙ evens_are a b page value first listed (λ q from to. cell_there a page value q above (omega arith) (omega arith))

pub set_lists : (a : Image) (page value : ℕ) → 1 ≤ page
    → changed a (with_cell a page value)
    ≡ (cells_from a page value (first_page a page) (2 - first_page a page) ++ (count_page a ∷ cells_from a page value (max (first_page a page) 2) (page + 1 - max (first_page a page) 2)))
    ++ sizes_with (max (length a.main) (4096 * page)) (max (length a.side) 4096) ∷ []
unfolding with_cell
set_lists a page value above =
    let b : Image = with_main a (cell_file a page value) in
    let last : List NumberedPage = sizes_with (max (length a.main) (4096 * page)) (max (length a.side) 4096) ∷ [] in
    changed_main a (cell_file a page value) (max (length a.main) (4096 * page)) (cell_length a page value)
    ∙ ap (λ (ps : List NumberedPage). (ps ++ (count_page a ∷ evens a b 2 (behind_first b))) ++ last) (first_listed a page value above)
    ∙ ap (λ (ps : List NumberedPage). (cells_from a page value (first_page a page) (2 - first_page a page) ++ (count_page a ∷ ps)) ++ last) (others_listed a page value above)

-- the list that is made in four steps
pub set_made : (a : Image) (page value first later len : ℕ) (one two three all : List NumberedPage) → 1 ≤ page
    → first ≡ first_page a page → later ≡ max first 2 → len ≡ max (length a.main) (4096 * page)
    → one ≡ cells_from a page value first (2 - first)
    → two ≡ one ++ count_page a ∷ []
    → three ≡ two ++ cells_from a page value later (page + 1 - later)
    → all ≡ three ++ sizes_with len (max (length a.side) 4096) ∷ []
    → all ≡ changed a (with_cell a page value)
set_made a page value first later len one two three all above first_is later_is len_is one_is two_is three_is all_is =
    let start : ℕ = max (first_page a page) 2 in
    let front : List NumberedPage = cells_from a page value (first_page a page) (2 - first_page a page) in
    let back : List NumberedPage = cells_from a page value start (page + 1 - start) in
    let begins : later ≡ start = later_is ∙ ap (λ (n : ℕ). max n 2) first_is in
    let a1 : one ≡ front = one_is ∙ ap (λ (n : ℕ). cells_from a page value n (2 - n)) first_is in
    let a2 : two ≡ front ++ count_page a ∷ [] = two_is ∙ ap (λ (ps : List NumberedPage). ps ++ count_page a ∷ []) a1 in
    let a3 : three ≡ (front ++ count_page a ∷ []) ++ back = three_is ∙ ap (λ (ps : List NumberedPage). ps ++ cells_from a page value later (page + 1 - later)) a2 ∙ ap (λ (n : ℕ). (front ++ count_page a ∷ []) ++ cells_from a page value n (page + 1 - n)) begins in
    all_is
    ∙ ap (λ (n : ℕ). three ++ sizes_with n (max (length a.side) 4096) ∷ []) len_is
    ∙ ap (λ (ps : List NumberedPage). ps ++ sizes_with (max (length a.main) (4096 * page)) (max (length a.side) 4096) ∷ []) (a3 ∙ append_assoc front (count_page a ∷ []) back)
    ∙ sym (set_lists a page value above)
