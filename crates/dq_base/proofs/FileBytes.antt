-- The bytes of a file that was resized, of its pages, and of a file with a page replaced.
use Rattle.std.proofs.Common.{◌≡◌, ℕ, ◌+◌, ◌-◌, ◌<◌, ◌≤◌, min, List, ◌++◌, length, get_or, take, drop, sym, ap, ◌∙◌, arith, inl, inr}
use Rattle.std.proofs.lemmas.Bool.{cases_lt}
use Rattle.std.proofs.lemmas.List.{length-take, length-drop, length-append, length-replicate, get_or-take, get_or-drop, get_or-replicate, get_or_append_left, get_or-append_right, get_or_past}
use Rattle.dq_base.specs.Images.{zeros, resized, page_from}
use Rattle.dq_base.specs.Applying.{replaced}

pub length-zeros : (n : ℕ) → length (zeros n) ≡ n
unfolding zeros
length-zeros n = length-replicate {A = ℕ} n 0

pub length-resized : (n : ℕ) (file : List ℕ) → length (resized n file) ≡ n
unfolding resized
length-resized n file = omega (arith, length-append (take n file) (zeros (n - length file)), length-take n file, length-zeros (n - length file))

-- a byte of zeros, past their end too
zeros_at : (n i : ℕ) → get_or (zeros n) i 0 ≡ 0
unfolding zeros
zeros_at n i = elim (cases_lt i n) [
  | inl lt ↦ get_or-replicate n i 0 0 lt
  | inr le ↦ get_or_past (zeros n) i 0 (omega (arith, length-zeros n))
]

pub get_or-resized : (n : ℕ) (file : List ℕ) (i : ℕ) → i < n → get_or (resized n file) i 0 ≡ get_or file i 0
unfolding resized
get_or-resized n file i lt =
    let front_len : length (take n file) ≡ min n (length file) = length-take n file in
    elim (cases_lt i (length file)) [
      | inl inside ↦ get_or_append_left (take n file) (zeros (n - length file)) 0 i (omega arith) ∙ get_or-take n file i 0 lt
      | inr past ↦
          get_or-append_right (take n file) (zeros (n - length file)) (length file) i 0 (omega arith) past
          ∙ zeros_at (n - length file) (i - length file) ∙ sym (get_or_past file i 0 past)
    ]

pub length-page_from : (file : List ℕ) (start : ℕ) → length (page_from file start) ≡ 4096
unfolding page_from
length-page_from file start = length-resized 4096 (drop start file)

pub get_or-page_from : (file : List ℕ) (start j : ℕ) → j < 4096 → get_or (page_from file start) j 0 ≡ get_or file (start + j) 0
unfolding page_from
get_or-page_from file start j lt = get_or-resized 4096 (drop start file) j lt ∙ get_or-drop start file j 0

pub length-replaced : (file : List ℕ) (start : ℕ) (page : List ℕ) → length page ≡ 4096 → length (replaced file start page) ≡ length file
unfolding replaced
length-replaced file start page size =
    omega (
      arith,
      length-append (take start file ++ take (length file - start) page) (drop (start + 4096) file),
      length-append (take start file) (take (length file - start) page),
      length-take start file,
      length-take (length file - start) page,
      length-drop (start + 4096) file,
    )

pub get_or-replaced_inside : (file : List ℕ) (start : ℕ) (page : List ℕ) (j : ℕ) → length page ≡ 4096 → j < 4096 → start + j < length file → get_or (replaced file start page) (start + j) 0 ≡ get_or page j 0
unfolding replaced
get_or-replaced_inside file start page j size lt inside =
    let front_len : length (take start file) ≡ start = omega (arith, length-take start file) in
    let middle_len = length-take (length file - start) page in
    let both_len = length-append (take start file) (take (length file - start) page) in
    let back : start + j - start ≡ j = omega arith in
    get_or_append_left (take start file ++ take (length file - start) page) (drop (start + 4096) file) 0 (start + j) (omega arith)
    ∙ get_or-append_right (take start file) (take (length file - start) page) start (start + j) 0 front_len (omega arith)
    ∙ ap (λ (k : ℕ). get_or (take (length file - start) page) k 0) back
    ∙ get_or-take (length file - start) page j 0 (omega arith)

-- a byte before the replaced page
pub get_or-replaced_before : (file : List ℕ) (start : ℕ) (page : List ℕ) (i : ℕ) → i < start → i < length file → get_or (replaced file start page) i 0 ≡ get_or file i 0
unfolding replaced
get_or-replaced_before file start page i before inside =
    let front_len = length-take start file in
    let both_len = length-append (take start file) (take (length file - start) page) in
    get_or_append_left (take start file ++ take (length file - start) page) (drop (start + 4096) file) 0 i (omega arith)
    ∙ get_or_append_left (take start file) (take (length file - start) page) 0 i (omega arith)
    ∙ get_or-take start file i 0 before

-- a byte after the replaced page
pub get_or-replaced_after : (file : List ℕ) (start : ℕ) (page : List ℕ) (i : ℕ) → length page ≡ 4096 → start + 4096 ≤ i → i < length file → get_or (replaced file start page) i 0 ≡ get_or file i 0
unfolding replaced
get_or-replaced_after file start page i size after inside =
    let front_len = length-take start file in
    let middle_len = length-take (length file - start) page in
    let both_len = length-append (take start file) (take (length file - start) page) in
    let place : start + 4096 + (i - (start + 4096)) ≡ i = omega arith in
    get_or-append_right (take start file ++ take (length file - start) page) (drop (start + 4096) file) (start + 4096) i 0 (omega arith) after
    ∙ get_or-drop (start + 4096) file (i - (start + 4096)) 0
    ∙ ap (λ (k : ℕ). get_or file k 0) place
