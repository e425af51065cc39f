-- Whether two images are equally long, by three of the pages of the one.
use Rattle.std.proofs.Common.{◌≡◌, ℕ, ◌+◌, ◌*◌, ◌/◌, ◌%◌, ◌^◌, ◌<◌, ◌≤◌, Bool, true, false, eqb, List, ◌++◌, length, drop, Option, inl, inr, refl, sym, ap, subst, ◌∙◌, append_assoc, arith}
use Rattle.std.specs.Prelude.{◌&&◌, ◌==◌, is_none}
use Rattle.std.specs.Str.{bytes_eq}
use Rattle.std.proofs.lemmas.Bool.{cases_Bool, cases_lt, both_ways, and_parts, and_from, and_left, cond-true, cond-false, eq-eqb, eqb-true, ne_eqb, false_from_ne_true}
use Rattle.std.proofs.lemmas.List.{drop_at}
use Rattle.std.proofs.lemmas.Slice.Eq.{bytes_eq-Decides}
use Rattle.byteorder.specs.Endian.{little_bytes, little_number}
use Rattle.byteorder.specs.Numbers.{little_from-bytes}
use Rattle.dq_base.specs.declared.images.Image.{Image}
use Rattle.dq_base.specs.Images.{zeros, sizes_page, page_at, page_start, file_of, pages_of}
use Rattle.dq_base.specs.Applying.{stated_main, stated_side}
use Rattle.dq_base.proofs.ChangeLaw.{stated_main-sizes_page, stated_side-sizes_page}
use Rattle.dq_base.proofs.ChangedPages.{page_at_inside, page_at_past, page_at-one}
use Rattle.image_diff.specs.Touched.{same_lengths}
use Rattle.image_diff.specs.Pages.{shows, has_sizes, number_behind, ends_within}

-- ---- sizes pages

sizes_test : (a b : Image) → has_sizes a b ≡ bytes_eq (sizes_page (length a.main) (length a.side)) (sizes_page (length b.main) (length b.side))
sizes_test a b = ap (λ (page : Option (List ℕ)). shows page (sizes_page (length b.main) (length b.side))) (page_at-one a 1 refl)

-- ---- the page after a file

main_file : (image : Image) (k : ℕ) → file_of image (2 + 2 * k) ≡ image.main
main_file image k = cond-true (eqb ((2 + 2 * k) % 2) 0) image.main image.side (eq-eqb ((2 + 2 * k) % 2) 0 (omega arith))

side_file : (image : Image) (k : ℕ) → file_of image (3 + 2 * k) ≡ image.side
side_file image k =
    let odd : (3 + 2 * k) % 2 ≡ 1 = omega arith in
    cond-false (eqb ((3 + 2 * k) % 2) 0) image.main image.side (ne_eqb ((3 + 2 * k) % 2) 0 (λ e. omega arith))

main_start : (k : ℕ) → page_start (2 + 2 * k) ≡ 4096 * k
main_start k = let half : (2 + 2 * k) / 2 ≡ k + 1 = omega arith in omega arith

side_start : (k : ℕ) → page_start (3 + 2 * k) ≡ 4096 * k
side_start k = let half : (3 + 2 * k) / 2 ≡ k + 1 = omega arith in omega arith

-- if an image lacks a page, its file ends at that page's start or before
ends_at : (image : Image) (n : ℕ) → 1 < n → is_none (page_at image n) ≡ true → length (file_of image n) ≤ page_start n
ends_at image n above lacks = elim (cases_lt (page_start n) (length (file_of image n))) [
  | inl inside ↦ absurd (both_ways (is_none (page_at image n)) (ap is_none (page_at_inside image n above inside)) lacks)
  | inr past ↦ past
]

main_ends : (image : Image) (k : ℕ) → is_none (page_at image (2 + 2 * k)) ≡ true → length image.main ≤ 4096 * k
main_ends image k lacks =
    let file : length (file_of image (2 + 2 * k)) ≡ length image.main = ap length (main_file image k) in
    let start : page_start (2 + 2 * k) ≡ 4096 * k = main_start k in
    let ends : length (file_of image (2 + 2 * k)) ≤ page_start (2 + 2 * k) = ends_at image (2 + 2 * k) (omega arith) lacks in
    omega (arith, file, start, ends)

side_ends : (image : Image) (k : ℕ) → is_none (page_at image (3 + 2 * k)) ≡ true → length image.side ≤ 4096 * k
side_ends image k lacks =
    let file : length (file_of image (3 + 2 * k)) ≡ length image.side = ap length (side_file image k) in
    let start : page_start (3 + 2 * k) ≡ 4096 * k = side_start k in
    let ends : length (file_of image (3 + 2 * k)) ≤ page_start (3 + 2 * k) = ends_at image (3 + 2 * k) (omega arith) lacks in
    omega (arith, file, start, ends)

own_main_ends : (a : Image) → is_none (page_at a (number_behind 2 (length a.main))) ≡ true
own_main_ends a =
    let k : ℕ = pages_of (length a.main) in
    let file : length (file_of a (2 + 2 * k)) ≡ length a.main = ap length (main_file a k) in
    let start : page_start (2 + 2 * k) ≡ 4096 * k = main_start k in
    let past : length (file_of a (2 + 2 * k)) ≤ page_start (2 + 2 * k) = omega (arith, file, start) in
    ap is_none (page_at_past a (2 + 2 * k) (omega arith) past)

own_side_ends : (a : Image) → is_none (page_at a (number_behind 3 (length a.side))) ≡ true
own_side_ends a =
    let k : ℕ = pages_of (length a.side) in
    let file : length (file_of a (3 + 2 * k)) ≡ length a.side = ap length (side_file a k) in
    let start : page_start (3 + 2 * k) ≡ 4096 * k = side_start k in
    let past : length (file_of a (3 + 2 * k)) ≤ page_start (3 + 2 * k) = omega (arith, file, start) in
    ap is_none (page_at_past a (3 + 2 * k) (omega arith) past)

-- ---- lengths

-- what a sizes page states of files of any length
low_main : (main side : ℕ) → stated_main (sizes_page main side) ≡ main / 256 ^ 0 % 256 ^ 8
unfolding sizes_page stated_main
low_main main side = ap (little_number 8) (append_assoc (little_bytes 8 main) (little_bytes 8 side) (zeros 4080)) ∙ little_from-bytes 8 0 main (little_bytes 8 side ++ zeros 4080)

low_side : (main side : ℕ) → stated_side (sizes_page main side) ≡ side / 256 ^ 0 % 256 ^ 8
unfolding sizes_page stated_side
low_side main side =
    let whole : drop 8 (sizes_page main side) ≡ little_bytes 8 side ++ zeros 4080 =
    ap (drop 8) (append_assoc (little_bytes 8 main) (little_bytes 8 side) (zeros 4080)) ∙ drop_at (little_bytes 8 main) (little_bytes 8 side ++ zeros 4080) 8 refl in
    ap (little_number 8) whole ∙ little_from-bytes 8 0 side (zeros 4080)

same_length : (n m : ℕ) → m < 2 ^ 64 → n ≤ 4096 * pages_of m → n / 256 ^ 0 % 256 ^ 8 ≡ m → n ≡ m
same_length n m fits ends low =
    let one : n / 256 ^ 0 ≡ n = omega arith in
    let rest : n % 256 ^ 8 ≡ m = ap (λ (x : ℕ). x % 256 ^ 8) (sym one) ∙ low in
    omega (arith, fits, ends, rest)

module _ (a b : Image) (main_fits : length b.main < 2 ^ 64) (side_fits : length b.side < 2 ^ 64) where
  same_sizes : has_sizes a b ≡ true → sizes_page (length a.main) (length a.side) ≡ sizes_page (length b.main) (length b.side)
  same_sizes e = (bytes_eq-Decides (sizes_page (length a.main) (length a.side)) (sizes_page (length b.main) (length b.side))).0 (sym (sizes_test a b) ∙ e)

  same_main : has_sizes a b ≡ true → is_none (page_at a (number_behind 2 (length b.main))) ≡ true → length a.main ≡ length b.main
  same_main e lacks =
      same_length (length a.main) (length b.main) main_fits (main_ends a (pages_of (length b.main)) lacks)
      (sym (low_main (length a.main) (length a.side)) ∙ ap stated_main (same_sizes e) ∙ stated_main-sizes_page (length b.main) (length b.side) main_fits)

  same_side : has_sizes a b ≡ true → is_none (page_at a (number_behind 3 (length b.side))) ≡ true → length a.side ≡ length b.side
  same_side e lacks =
      same_length (length a.side) (length b.side) side_fits (side_ends a (pages_of (length b.side)) lacks)
      (sym (low_side (length a.main) (length a.side)) ∙ ap stated_side (same_sizes e) ∙ stated_side-sizes_page (length b.main) (length b.side) side_fits)

-- ---- both together

module _ (a b : Image) (main_fits : length b.main < 2 ^ 64) (side_fits : length b.side < 2 ^ 64) where
  long_test : same_lengths a b ≡ true → (has_sizes a b && ends_within a (length b.main) (length b.side)) ≡ true
  long_test e =
      let parts = and_parts (length a.main == length b.main) (length a.side == length b.side) e in
      let main : length a.main ≡ length b.main = eqb-true _ _ parts.0 in
      let side : length a.side ≡ length b.side = eqb-true _ _ parts.1 in
      let sizes : sizes_page (length a.main) (length a.side) ≡ sizes_page (length b.main) (length b.side) = ap (λ (n : ℕ). sizes_page n (length a.side)) main ∙ ap (λ (n : ℕ). sizes_page (length b.main) n) side in
      and_from (has_sizes a b) (ends_within a (length b.main) (length b.side))
      (sizes_test a b ∙ (bytes_eq-Decides (sizes_page (length a.main) (length a.side)) (sizes_page (length b.main) (length b.side))).1 sizes)
      (and_from (is_none (page_at a (number_behind 2 (length b.main)))) (is_none (page_at a (number_behind 3 (length b.side))))
      (subst (λ (n : ℕ). is_none (page_at a (number_behind 2 n)) ≡ true) main (own_main_ends a))
      (subst (λ (n : ℕ). is_none (page_at a (number_behind 3 n)) ≡ true) side (own_side_ends a)))

  equally_long : (has_sizes a b && ends_within a (length b.main) (length b.side)) ≡ same_lengths a b
  equally_long = elim (cases_Bool (same_lengths a b)) [
    | inl same ↦ long_test same ∙ sym same
    | inr other ↦
        false_from_ne_true (has_sizes a b && ends_within a (length b.main) (length b.side)) (λ e.
        let one = and_parts (has_sizes a b) (ends_within a (length b.main) (length b.side)) e in
        let two = and_parts (is_none (page_at a (number_behind 2 (length b.main)))) (is_none (page_at a (number_behind 3 (length b.side)))) one.1 in
        both_ways (same_lengths a b) other
        (and_from (length a.main == length b.main) (length a.side == length b.side)
        (eq-eqb _ _ (same_main a b main_fits side_fits one.0 two.0)) (eq-eqb _ _ (same_side a b main_fits side_fits one.0 two.1))))
        ∙ sym other
  ]

  -- one test after the other
  pub other_sizes : has_sizes a b ≡ false → false ≡ same_lengths a b
  other_sizes other = sym (and_left (has_sizes a b) (ends_within a (length b.main) (length b.side)) other) ∙ equally_long

  pub same_ends : has_sizes a b ≡ true → ends_within a (length b.main) (length b.side) ≡ same_lengths a b
  same_ends sizes = sym (ap (λ (x : Bool). x && ends_within a (length b.main) (length b.side)) sizes) ∙ equally_long
