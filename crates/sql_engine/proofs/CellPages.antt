-- The pages of an image by the files that they lie in.
use Rattle.std.proofs.Common.{◌≡◌, ℕ, ◌+◌, ◌-◌, ◌*◌, ◌/◌, ◌%◌, ◌<◌, ◌≤◌, eqb, List, length, Some, None, ap, ◌∙◌, arith}
use Rattle.std.proofs.lemmas.Bool.{cond-true, cond-false, eq-eqb, ne_eqb}
use Rattle.dq_base.specs.declared.images.Image.{Image}
use Rattle.dq_base.specs.Images.{page_start, file_of, page_from, page_at}
use Rattle.dq_base.proofs.ChangedPages.{page_at_inside, page_at_past}

main_start : (p : ℕ) → page_start (2 * p) ≡ 4096 * (p - 1)
main_start p = let half : 2 * p / 2 ≡ p = omega arith in ap (λ (h : ℕ). 4096 * (h - 1)) half

side_start : (p : ℕ) → page_start (2 * p + 1) ≡ 4096 * (p - 1)
side_start p = let half : (2 * p + 1) / 2 ≡ p = omega arith in ap (λ (h : ℕ). 4096 * (h - 1)) half

in_main : (image : Image) (p : ℕ) → file_of image (2 * p) ≡ image.main
in_main image p = cond-true (eqb (2 * p % 2) 0) image.main image.side (eq-eqb (2 * p % 2) 0 (omega arith))

in_side : (image : Image) (p : ℕ) → file_of image (2 * p + 1) ≡ image.side
in_side image p = cond-false (eqb ((2 * p + 1) % 2) 0) image.main image.side (ne_eqb ((2 * p + 1) % 2) 0 (λ e. omega arith))

inside_at : (image : Image) (n : ℕ) (file : List ℕ) (start : ℕ) → 1 < n → file_of image n ≡ file → page_start n ≡ start → start < length file → page_at image n ≡ Some (page_from file start)
inside_at image n file start above file_is start_is inside =
    let len : length (file_of image n) ≡ length file = ap length file_is in
    page_at_inside image n above (omega arith)
    ∙ ap (λ (f : List ℕ). Some (page_from f (page_start n))) file_is
    ∙ ap (λ (s : ℕ). Some (page_from file s)) start_is

past_at : (image : Image) (n : ℕ) (file : List ℕ) (start : ℕ) → 1 < n → file_of image n ≡ file → page_start n ≡ start → length file ≤ start → page_at image n ≡ None
past_at image n file start above file_is start_is past =
    let len : length (file_of image n) ≡ length file = ap length file_is in
    page_at_past image n above (omega arith)

pub main_inside : (image : Image) (p : ℕ) → 1 ≤ p → 4096 * (p - 1) < length image.main → page_at image (2 * p) ≡ Some (page_from image.main (4096 * (p - 1)))
main_inside image p above inside = inside_at image (2 * p) image.main (4096 * (p - 1)) (omega arith) (in_main image p) (main_start p) inside

pub main_past : (image : Image) (p : ℕ) → 1 ≤ p → length image.main ≤ 4096 * (p - 1) → page_at image (2 * p) ≡ None
main_past image p above past = past_at image (2 * p) image.main (4096 * (p - 1)) (omega arith) (in_main image p) (main_start p) past

pub side_inside : (image : Image) (p : ℕ) → 1 ≤ p → 4096 * (p - 1) < length image.side → page_at image (2 * p + 1) ≡ Some (page_from image.side (4096 * (p - 1)))
side_inside image p above inside = inside_at image (2 * p + 1) image.side (4096 * (p - 1)) (omega arith) (in_side image p) (side_start p) inside

pub side_past : (image : Image) (p : ℕ) → 1 ≤ p → length image.side ≤ 4096 * (p - 1) → page_at image (2 * p + 1) ≡ None
side_past image p above past = past_at image (2 * p + 1) image.side (4096 * (p - 1)) (omega arith) (in_side image p) (side_start p) past
