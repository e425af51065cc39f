-- The pages of a file in which a page was put, and of one that was cut.
use Rattle.std.proofs.Common.{◌≡◌, ℕ, ◌+◌, ◌-◌, ◌*◌, ◌<◌, ◌≤◌, ◌⊎◌, max, List, length, get_or, take, sym, ◌∙◌, arith, inl, inr}
use Rattle.std.proofs.lemmas.Bool.{cases_lt}
use Rattle.std.proofs.lemmas.List.{ext_get_or, length-append, get_or-take, get_or-replicate, get_or_past}
use Rattle.byteorder.specs.Endian.{little_bytes}
use Rattle.dq_base.specs.Images.{zeros, resized, page_from}
use Rattle.dq_base.specs.Applying.{replaced}
use Rattle.dq_base.proofs.FileBytes.{length-zeros, length-resized, get_or-resized, length-page_from, get_or-page_from, length-replaced, get_or-replaced_inside, get_or-replaced_before, get_or-replaced_after}
use Rattle.sql_engine.specs.Cells.{cell_page, with_page}

pub length-cell_page : (value : ℕ) → length (cell_page value) ≡ 4096
unfolding cell_page
length-cell_page value = omega (arith, length-append (little_bytes 8 value) (zeros 4088), length-zeros 4088)

pub length-with_page : (file : List ℕ) (k : ℕ) (page : List ℕ) → length page ≡ 4096 → length (with_page file k page) ≡ max (length file) (4096 * k)
unfolding with_page
length-with_page file k page size =
    length-replaced (resized (max (length file) (4096 * k)) file) (4096 * (k - 1)) page size ∙ length-resized (max (length file) (4096 * k)) file

-- a byte of the page that was put in
with_page_there : (file : List ℕ) (k : ℕ) (page : List ℕ) (j : ℕ) → 1 ≤ k → length page ≡ 4096 → j < 4096 → get_or (with_page file k page) (4096 * (k - 1) + j) 0 ≡ get_or page j 0
unfolding with_page
with_page_there file k page j above size lt =
    let len : length (resized (max (length file) (4096 * k)) file) ≡ max (length file) (4096 * k) = length-resized (max (length file) (4096 * k)) file in
    get_or-replaced_inside (resized (max (length file) (4096 * k)) file) (4096 * (k - 1)) page j size lt (omega arith)

-- a byte of the grown file
grown_byte : (file : List ℕ) (n i : ℕ) → length file ≤ n → get_or (resized n file) i 0 ≡ get_or file i 0
grown_byte file n i le =
    elim (cases_lt i n) [
      | inl inside ↦ get_or-resized n file i inside
      | inr past ↦ get_or_past (resized n file) i 0 (omega (arith, length-resized n file)) ∙ sym (get_or_past file i 0 (omega arith))
    ]

-- a byte outside of the page that was put in, past the file's end too
with_page_else : (file : List ℕ) (k : ℕ) (page : List ℕ) (i : ℕ) → 1 ≤ k → length page ≡ 4096 → (i < 4096 * (k - 1)) ⊎ (4096 * (k - 1) + 4096 ≤ i) → get_or (with_page file k page) i 0 ≡ get_or file i 0
unfolding with_page
with_page_else file k page i above size (inl before) =
    let n : ℕ = max (length file) (4096 * k) in
    let len : length (resized n file) ≡ n = length-resized n file in
    get_or-replaced_before (resized n file) (4096 * (k - 1)) page i before (omega arith) ∙ grown_byte file n i (omega arith)
with_page_else file k page i above size (inr after) =
    let n : ℕ = max (length file) (4096 * k) in
    let len : length (resized n file) ≡ n = length-resized n file in
    let all : length (replaced (resized n file) (4096 * (k - 1)) page) ≡ n = length-replaced (resized n file) (4096 * (k - 1)) page size ∙ len in
    elim (cases_lt i n) [
      | inl inside ↦ get_or-replaced_after (resized n file) (4096 * (k - 1)) page i size after (omega arith) ∙ grown_byte file n i (omega arith)
      | inr past ↦ get_or_past (replaced (resized n file) (4096 * (k - 1)) page) i 0 (omega arith) ∙ sym (get_or_past file i 0 (omega arith))
    ]

-- ---- pages

-- pages of two files whose bytes are the same there
same_page : (f g : List ℕ) (start : ℕ) → ((j : ℕ) → j < 4096 → get_or f (start + j) 0 ≡ get_or g (start + j) 0) → page_from f start ≡ page_from g start
same_page f g start same =
    let f_len : length (page_from f start) ≡ 4096 = length-page_from f start in
    let g_len : length (page_from g start) ≡ 4096 = length-page_from g start in
    ext_get_or 0 (page_from f start) (page_from g start) (f_len ∙ sym g_len) (λ j lt.
    let small : j < 4096 = omega arith in
    get_or-page_from f start j small ∙ same j small ∙ sym (get_or-page_from g start j small))

pub page_there : (file : List ℕ) (k : ℕ) (page : List ℕ) → 1 ≤ k → length page ≡ 4096 → page_from (with_page file k page) (4096 * (k - 1)) ≡ page
page_there file k page above size =
    let len : length (page_from (with_page file k page) (4096 * (k - 1))) ≡ 4096 = length-page_from (with_page file k page) (4096 * (k - 1)) in
    ext_get_or 0 (page_from (with_page file k page) (4096 * (k - 1))) page (len ∙ sym size) (λ j lt.
    let small : j < 4096 = omega arith in
    get_or-page_from (with_page file k page) (4096 * (k - 1)) j small ∙ with_page_there file k page j above size small)

apart : (k p j : ℕ) → 1 ≤ k → 1 ≤ p → (p ≡ k → ⊥) → j < 4096 → (4096 * (p - 1) + j < 4096 * (k - 1)) ⊎ (4096 * (k - 1) + 4096 ≤ 4096 * (p - 1) + j)
apart k p j k_above p_above differ lt =
    elim (cases_lt p k) [
      | inl less ↦ inl (omega arith)
      | inr not_less ↦ elim (cases_lt k p) [
        | inl more ↦ inr (omega arith)
        | inr not_more ↦ absurd (differ (omega arith))
      ]
    ]

pub page_else : (file : List ℕ) (k p : ℕ) (page : List ℕ) → 1 ≤ k → 1 ≤ p → (p ≡ k → ⊥) → length page ≡ 4096 → page_from (with_page file k page) (4096 * (p - 1)) ≡ page_from file (4096 * (p - 1))
page_else file k p page k_above p_above differ size =
    same_page (with_page file k page) file (4096 * (p - 1)) (λ j lt. with_page_else file k page (4096 * (p - 1) + j) k_above size (apart k p j k_above p_above differ lt))

zero_at : (n j : ℕ) → j < n → get_or (zeros n) j 0 ≡ 0
unfolding zeros
zero_at n j small = get_or-replicate n j 0 0 small

-- a page wholly past a file's end
pub page_past : (file : List ℕ) (start : ℕ) → length file ≤ start → page_from file start ≡ zeros 4096
page_past file start past =
    let len : length (page_from file start) ≡ 4096 = length-page_from file start in
    let zeros_len : length (zeros 4096) ≡ 4096 = length-zeros 4096 in
    ext_get_or 0 (page_from file start) (zeros 4096) (len ∙ sym zeros_len) (λ j lt.
    let small : j < 4096 = omega arith in
    get_or-page_from file start j small ∙ get_or_past file (start + j) 0 (omega arith) ∙ sym (zero_at 4096 j small))

-- a page of a file that is cut after it
pub page_before_cut : (file : List ℕ) (n p : ℕ) → 1 ≤ p → p ≤ n → page_from (take (4096 * n) file) (4096 * (p - 1)) ≡ page_from file (4096 * (p - 1))
page_before_cut file n p above le =
    same_page (take (4096 * n) file) file (4096 * (p - 1)) (λ j lt. get_or-take (4096 * n) file (4096 * (p - 1) + j) 0 (omega arith))
