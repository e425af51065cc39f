-- The pages of an image, one number after the other.
use Rattle.std.proofs.Common.{◌≡◌, ℕ, zero, suc, ◌+◌, ◌-◌, ◌*◌, ◌/◌, ◌%◌, ◌<◌, ◌≤◌, inl, inr, min, max, Bool, true, false, cond, eqb, List, [], ◌∷◌, ◌++◌, length, Option, Some, None, refl, sym, ap, ◌∙◌, append_assoc, arith}
use Rattle.std.specs.List.{AllByRecursion}
use Rattle.std.proofs.lemmas.Bool.{cases_lt, and_from, lt-ltb, eq-eqb}
use Rattle.std.proofs.lemmas.List.{length-append, length-map}
use Rattle.dq_base.specs.declared.images.Image.{Image}
use Rattle.dq_base.specs.declared.pages.NumberedPage.{NumberedPage}
use Rattle.dq_base.specs.Applying.{longest_file}
use Rattle.dq_base.specs.Images.{page_at, page_count, pages_in, page_start, file_of, is_main, is_side}
use Rattle.dq_base.specs.Changes.{changed_page, changed_from, numbers_above_one, sizes_of}
use Rattle.dq_base.proofs.ChangedPages.{numbered, page_at_inside, page_at_past, page_at-one, page_at_is}
use Rattle.dq_base.proofs.ChangeLaw.{file_of_main, file_of_side, length-sizes_page}
use Rattle.dq_base.proofs.FileBytes.{length-page_from}
use Rattle.dq_base.proofs.PutPages.{All-append}
use Rattle.wal_frames.specs.declared.frame.Frame.{Frame}
use Rattle.wal_frames.specs.Text.{IsFrame}
use Rattle.wal_frames.specs.Valid.{AreFrames}
use Rattle.database_state.specs.Files.{empty_image}
use Rattle.database_state.specs.Logs.{IsShort, listed, pages_from, pages_above_one, all_pages, frame_of, plain_frames, image_frames}

-- ---- one number more

pub pages_more : (number count : ℕ) (image : Image) → pages_from number (suc count) image ≡ pages_from number count image ++ listed (number + count) (page_at image (number + count))
unfolding pages_from
pages_more number zero image =
    let here : number ≡ number + 0 = omega arith in
    by (listed number (page_at image number)) ∙ ap (λ (n : ℕ). listed n (page_at image n)) here
  where
    by : (xs : List NumberedPage) → xs ++ [] ≡ xs
    by [] = refl
    by (x ∷ xs) = ap (λ (l : List NumberedPage). x ∷ l) (by xs)
pages_more number (suc count) image =
    let next : suc number + count ≡ number + suc count = omega arith in
    ap (λ (l : List NumberedPage). listed number (page_at image number) ++ l) (pages_more (suc number) count image)
    ∙ sym (append_assoc (listed number (page_at image number)) (pages_from (suc number) count image) (listed (suc number + count) (page_at image (suc number + count))))
    ∙ ap (λ (n : ℕ). (listed number (page_at image number) ++ pages_from (suc number) count image) ++ listed n (page_at image n)) next

-- what holds of each page is true of the pages of this many numbers
pub pages_all : (P : NumberedPage → Type 0) (number count : ℕ) (image : Image) → ((n : ℕ) (page : List ℕ) → number ≤ n → n < number + count → page_at image n ≡ Some page → P (numbered n page)) → AllByRecursion P (pages_from number count image)
unfolding pages_from
pages_all P number zero image each = tt
pages_all P number (suc count) image each =
    All-append P (listed number (page_at image number)) (pages_from (suc number) count image)
    (by (page_at image number) refl)
    (pages_all P (suc number) count image (λ n page from to is. each n page (omega arith) (omega arith) is))
  where
    by : (o : Option (List ℕ)) → page_at image number ≡ o → AllByRecursion P (listed number o)
    by None is = tt
    by (Some page) is = (each number page (omega arith) (omega arith) is, tt)

-- ---- the change of two empty files

empty_file : (n : ℕ) → length (file_of empty_image n) ≡ 0
empty_file n = by (eqb (n % 2) 0)
  where
    by : (b : Bool) → length (cond b (empty_image.main) (empty_image.side)) ≡ 0
    by true = refl
    by false = refl

listed_is : (n : ℕ) (after : Option (List ℕ)) → changed_page n None after ≡ listed n after
listed_is n None = refl
listed_is n (Some page) = refl

pub changed_is_pages : (number count : ℕ) (image : Image) → 1 < number → changed_from number count empty_image image ≡ pages_from number count image
unfolding changed_from pages_from
changed_is_pages number zero image above = refl
changed_is_pages number (suc count) image above =
    let none : page_at empty_image number ≡ None = page_at_past empty_image number above (omega (arith, empty_file number)) in
    ap (λ (o : Option (List ℕ)). changed_page number o (page_at image number) ++ changed_from (suc number) count empty_image image) none
    ∙ ap (λ (l : List NumberedPage). l ++ changed_from (suc number) count empty_image image) (listed_is number (page_at image number))
    ∙ ap (λ (l : List NumberedPage). listed number (page_at image number) ++ l) (changed_is_pages (suc number) count image (omega arith))

-- ---- how many there are

pages_short : (bytes : ℕ) → bytes ≤ longest_file → (bytes + 4095) / 4096 ≤ 16384
pages_short bytes short = omega arith

one_listed : (n : ℕ) (o : Option (List ℕ)) (page : List ℕ) → o ≡ Some page → length (listed n o) ≡ 1
one_listed n None page e = absurd cc
one_listed n (Some p) page e = refl

none_listed : (n : ℕ) (o : Option (List ℕ)) → o ≡ None → length (listed n o) ≡ 0
none_listed n None e = refl
none_listed n (Some p) e = absurd cc

-- how many pages a number has
held : (image : Image) (n : ℕ) (file : List ℕ) → file_of image n ≡ file → 1 < n → (k : ℕ) → page_start n ≡ 4096 * k
    → length (listed n (page_at image n)) ≡ min 1 (pages_in file - k)
held image n file is above k start =
    let len : length (file_of image n) ≡ length file = ap length is in
    elim (cases_lt (page_start n) (length (file_of image n))) [
      | inl inside ↦
          let one : length (listed n (page_at image n)) ≡ 1 = one_listed n (page_at image n) _ (page_at_inside image n above inside) in
          let many : 1 ≤ (length file + 4095) / 4096 - k = omega arith in
          omega arith
      | inr past ↦
          let none : length (listed n (page_at image n)) ≡ 0 = none_listed n (page_at image n) (page_at_past image n above past) in
          let few : (length file + 4095) / 4096 - k ≡ 0 = omega arith in
          omega arith
    ]

main_held : (image : Image) (k : ℕ) → length (listed (2 * k + 2) (page_at image (2 * k + 2))) ≡ min 1 (pages_in image.main - k)
main_held image k =
    let n : ℕ = 2 * k + 2 in
    let mine : is_main n ≡ true = and_from _ _ (lt-ltb 1 n (omega arith)) (eq-eqb (n % 2) 0 (omega arith)) in
    let start : 4096 * (n / 2 - 1) ≡ 4096 * k = omega arith in
    held image n image.main (file_of_main image n mine) (omega arith) k start

side_held : (image : Image) (k : ℕ) → length (listed (2 * k + 3) (page_at image (2 * k + 3))) ≡ min 1 (pages_in image.side - k)
side_held image k =
    let n : ℕ = 2 * k + 3 in
    let mine : is_side n ≡ true = and_from _ _ (lt-ltb 1 n (omega arith)) (eq-eqb (n % 2) 1 (omega arith)) in
    let start : 4096 * (n / 2 - 1) ≡ 4096 * k = omega arith in
    held image n image.side (file_of_side image n mine) (omega arith) k start

-- the pages of this many pairs of numbers
pairs_held : (count k : ℕ) (image : Image) → length (pages_from (2 * k + 2) (2 * count) image) ≡ min count (pages_in image.main - k) + min count (pages_in image.side - k)
unfolding pages_from
pairs_held zero k image = omega arith
pairs_held (suc count) k image =
    let n : ℕ = 2 * k + 2 in
    let twice : 2 * suc count ≡ suc (suc (2 * count)) = omega arith in
    let second : suc n ≡ 2 * k + 3 = omega arith in
    let third : suc (suc n) ≡ 2 * (k + 1) + 2 = omega arith in
    let a : ℕ = pages_in image.main in
    let b : ℕ = pages_in image.side in
    let first_len : length (listed n (page_at image n)) ≡ min 1 (a - k) = main_held image k in
    let second_len : length (listed (suc n) (page_at image (suc n))) ≡ min 1 (b - k) = ap (λ (m : ℕ). length (listed m (page_at image m))) second ∙ side_held image k in
    let rest_len : length (pages_from (suc (suc n)) (2 * count) image) ≡ min count (a - (k + 1)) + min count (b - (k + 1)) = ap (λ (m : ℕ). length (pages_from m (2 * count) image)) third ∙ pairs_held count (k + 1) image in
    let rest : List NumberedPage = pages_from (suc (suc n)) (2 * count) image in
    let parts : length (pages_from n (2 * suc count) image) ≡ length (listed n (page_at image n)) + (length (listed (suc n) (page_at image (suc n))) + length rest) =
    ap (λ (m : ℕ). length (pages_from n m image)) twice
    ∙ length-append (listed n (page_at image n)) (listed (suc n) (page_at image (suc n)) ++ rest)
    ∙ ap (λ (m : ℕ). length (listed n (page_at image n)) + m) (length-append (listed (suc n) (page_at image (suc n))) rest) in
    omega (arith, parts, first_len, second_len, rest_len)

-- an image has one page above 1 less than its page count
pub pages_counted : (image : Image) → length (pages_above_one image) + 1 ≡ page_count image
pages_counted image =
    let a : ℕ = pages_in image.main in
    let b : ℕ = pages_in image.side in
    let pairs : length (pages_from (2 * 0 + 2) (2 * max a b) image) ≡ min (max a b) (a - 0) + min (max a b) (b - 0) = pairs_held (max a b) 0 image in
    let same : length (pages_from (2 * 0 + 2) (2 * max a b) image) ≡ length (pages_above_one image) = refl in
    let total : page_count image ≡ 1 + a + b = refl in
    omega (arith, pairs, same, total)

-- ---- as frames

pub low_numbers : (image : Image) → IsShort image → numbers_above_one image + 2 ≤ 32770
low_numbers image short =
    let main = pages_short (length image.main) short.main in
    let side = pages_short (length image.side) short.side in
    omega arith

pub low_count : (image : Image) → IsShort image → page_count image ≤ 32769
low_count image short =
    let main = pages_short (length image.main) short.main in
    let side = pages_short (length image.side) short.side in
    omega arith

frames_all : (P : Frame → Type 0) (pages : List NumberedPage) → AllByRecursion (λ p. P (frame_of 0 p)) pages → AllByRecursion P (plain_frames pages)
frames_all P [] all = tt
frames_all P (p ∷ pages) all = (all.0, frames_all P pages all.1)

frames_both : (fs gs : List Frame) → AreFrames fs → AreFrames gs → AreFrames (fs ++ gs)
frames_both [] gs a b = b
frames_both (f ∷ fs) gs a b = (a.0, frames_both fs gs a.1 b)

-- the pages of a short image as frames
pub image_fits : (image : Image) → IsShort image → AreFrames (image_frames image)
image_fits image short =
    let low = low_numbers image short in
    let few = low_count image short in
    let each : AllByRecursion (λ p. IsFrame (frame_of 0 p)) (pages_above_one image) =
    pages_all (λ p. IsFrame (frame_of 0 p)) 2 (numbers_above_one image) image (λ n page from to is.
    let here = page_at_is image n page (omega arith) is in
    record { number = omega arith; commit = omega arith; page = ap length here.0 ∙ length-page_from (file_of image n) (page_start n) }) in
    frames_both (plain_frames (pages_above_one image)) (frame_of (page_count image) (sizes_of image) ∷ []) (frames_all IsFrame (pages_above_one image) each)
    (record { number = omega arith; commit = omega arith; page = length-sizes_page (length image.main) (length image.side) }, tt)

pub image_frame_count : (image : Image) → length (image_frames image) ≡ page_count image
image_frame_count image =
    let front : length (plain_frames (pages_above_one image)) ≡ length (pages_above_one image) = length-map (pages_above_one image) (frame_of 0) in
    length-append (plain_frames (pages_above_one image)) (frame_of (page_count image) (sizes_of image) ∷ []) ∙ omega (arith, front, pages_counted image)

-- ---- all pages

pub all_counted : (image : Image) → length (all_pages image) ≡ page_count image
all_counted image = length-append (pages_above_one image) (sizes_of image ∷ []) ∙ pages_counted image

-- each is the image's page of its number
pub all_own : (image : Image) → AllByRecursion (λ p. page_at image p.number ≡ Some p.page) (all_pages image)
all_own image =
    All-append (λ p. page_at image p.number ≡ Some p.page) (pages_above_one image) (sizes_of image ∷ [])
    (pages_all (λ p. page_at image p.number ≡ Some p.page) 2 (numbers_above_one image) image (λ n page from to is. is))
    (page_at-one image 1 refl, tt)
