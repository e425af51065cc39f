-- Applying the change from one image to another gives the other.
use Rattle.std.proofs.Common.{◌≡◌, ℕ, ◌+◌, ◌*◌, ◌/◌, ◌%◌, ◌-◌, ◌^◌, ◌<◌, ◌≤◌, ◌⊎◌, Bool, true, false, eqb, ltb, List, [], ◌∷◌, ◌++◌, length, get_or, drop, Option, Some, None, refl, sym, ap, ◌∙◌, append_assoc, arith, inl, inr}
use Rattle.std.specs.List.{AllByRecursion}
use Rattle.std.specs.Str.{bytes_eq}
use Rattle.std.proofs.lemmas.Bool.{cases_Bool, both_ways, and_parts, and_from, eqb-true, eq-eqb, lt-ltb, false_from_ne_true, cond-true, cond-false, ne_eqb}
use Rattle.std.proofs.lemmas.List.{ext_get_or, drop_at, length-append}
use Rattle.std.proofs.lemmas.Slice.Eq.{bytes_eq-Decides}
use Rattle.byteorder.specs.Endian.{little_bytes, little_number}
use Rattle.byteorder.specs.Numbers.{little_number-reads_back}
use Rattle.dq_base.specs.declared.images.Image.{Image}
use Rattle.dq_base.specs.declared.pages.NumberedPage.{NumberedPage}
use Rattle.dq_base.specs.Images.{zeros, resized, page_from, sizes_page, page_start, is_main, is_side, file_of, page_at}
use Rattle.dq_base.specs.Changes.{same_image, changed_from, numbers_above_one, sizes_of, changed}
use Rattle.dq_base.specs.Applying.{stated_main, stated_side, put_pages, applied_with, applied}
use Rattle.dq_base.proofs.FileBytes.{length-zeros, length-resized, get_or-resized, length-page_from, get_or-page_from}
use Rattle.dq_base.proofs.PutPages.{SomeOf, SomeOf-append_left, All-append, Shows, Covers, length-put_pages, get_or-put_pages}
use Rattle.dq_base.proofs.PageFaults.{last_page-push}
use Rattle.dq_base.proofs.ChangedPages.{numbered, page_at_inside, page_at_is, changed_from_all, changed_from_some}

-- ---- the sizes page

pub length-sizes_page : (main side : ℕ) → length (sizes_page main side) ≡ 4096
unfolding sizes_page
length-sizes_page main side = omega (arith, length-append (little_bytes 8 main ++ little_bytes 8 side) (zeros 4080), length-zeros 4080)

pub stated_main-sizes_page : (main side : ℕ) → main < 2 ^ 64 → stated_main (sizes_page main side) ≡ main
unfolding sizes_page stated_main
stated_main-sizes_page main side fits =
    ap (little_number 8) (append_assoc (little_bytes 8 main) (little_bytes 8 side) (zeros 4080)) ∙ little_number-reads_back 8 main (little_bytes 8 side ++ zeros 4080) fits

pub stated_side-sizes_page : (main side : ℕ) → side < 2 ^ 64 → stated_side (sizes_page main side) ≡ side
unfolding sizes_page stated_side
stated_side-sizes_page main side fits =
    let whole : drop 8 (sizes_page main side) ≡ little_bytes 8 side ++ zeros 4080 =
    ap (drop 8) (append_assoc (little_bytes 8 main) (little_bytes 8 side) (zeros 4080)) ∙ drop_at (little_bytes 8 main) (little_bytes 8 side ++ zeros 4080) 8 refl in
    ap (little_number 8) whole ∙ little_number-reads_back 8 side (zeros 4080) fits

-- ---- the files of numbers

pub file_of_main : (image : Image) (n : ℕ) → is_main n ≡ true → file_of image n ≡ image.main
file_of_main image n h = cond-true (eqb (n % 2) 0) image.main image.side (and_parts (ltb 1 n) (eqb (n % 2) 0) h).1

pub file_of_side : (image : Image) (n : ℕ) → is_side n ≡ true → file_of image n ≡ image.side
file_of_side image n h =
    let odd : n % 2 ≡ 1 = eqb-true (n % 2) 1 (and_parts (ltb 1 n) (eqb (n % 2) 1) h).1 in
    cond-false (eqb (n % 2) 0) image.main image.side (ne_eqb (n % 2) 0 (λ e. omega arith))

-- which number has the page of a byte
record Place (mine : ℕ → Bool) (b : Image) (i : ℕ) : Type 0 where
  number : ℕ
  above : 1 < number
  below : number < 2 + numbers_above_one b
  is_mine : mine number ≡ true
  from : page_start number ≤ i
  to : i < page_start number + 4096

main_place : (b : Image) (i : ℕ) → i < length b.main → Place is_main b i
main_place b i inside =
    let n : ℕ = 2 * (i / 4096 + 1) in
    record {
      number = n;
      above = omega arith;
      below = omega arith;
      is_mine = and_from (ltb 1 n) (eqb (n % 2) 0) (lt-ltb 1 n (omega arith)) (eq-eqb (n % 2) 0 (omega arith));
      from = omega arith;
      to = omega arith;
    }

side_place : (b : Image) (i : ℕ) → i < length b.side → Place is_side b i
side_place b i inside =
    let n : ℕ = 2 * (i / 4096 + 1) + 1 in
    record {
      number = n;
      above = omega arith;
      below = omega arith;
      is_mine = and_from (ltb 1 n) (eqb (n % 2) 1) (lt-ltb 1 n (omega arith)) (eq-eqb (n % 2) 1 (omega arith));
      from = omega arith;
      to = omega arith;
    }

-- ---- the pages of a change, put into the resized file

-- a page of b shows the file that it is a page of
pub page_shows : (b : Image) (file : List ℕ) (mine : ℕ → Bool) → ((n : ℕ) → mine n ≡ true → file_of b n ≡ file) → (m : ℕ) (page : List ℕ) → 2 ≤ m → page_at b m ≡ Some page → Shows mine file (numbered m page)
page_shows b file mine file_is m page above is =
    let p = page_at_is b m page (omega arith) is in
    record {
      size = ap length p.0 ∙ length-page_from (file_of b m) (page_start m);
      bytes = λ h j lt. ap (λ (x : List ℕ). get_or x j 0) p.0 ∙ get_or-page_from (file_of b m) (page_start m) j lt ∙ ap (λ (x : List ℕ). get_or x (page_start m + j) 0) (file_is m h);
    }

decide_page : (before : Option (List ℕ)) (page : List ℕ) → (before ≡ Some page) ⊎ (before ≡ Some page → ⊥)
decide_page None page = inr (λ e. absurd cc)
decide_page (Some old) page =
    elim (cases_Bool (bytes_eq old page)) [
      | inl same ↦ inl (ap (λ (x : List ℕ). Some x) ((bytes_eq-Decides old page).0 same))
      | inr other ↦ inr (λ e. both_ways (bytes_eq old page) other ((bytes_eq-Decides old page).1 cc))
    ]

-- a byte of a file: the change lists a page over it, or it is right once the file is resized
changed_byte : (a b : Image) (fa fb : List ℕ) (mine : ℕ → Bool) (i : ℕ) (at : Place mine b i) → file_of a at.number ≡ fa → file_of b at.number ≡ fb → i < length fb
    → SomeOf (Covers mine i) (changed_from 2 (numbers_above_one b) a b) ⊎ (get_or (resized (length fb) fa) i 0 ≡ get_or fb i 0)
changed_byte a b fa fb mine i at a_is b_is inside =
    let start : ℕ = page_start at.number in
    let from : start ≤ i = at.from in
    let to : i < start + 4096 = at.to in
    let len : length (file_of b at.number) ≡ length fb = ap length b_is in
    let page : List ℕ = page_from (file_of b at.number) start in
    let is : page_at b at.number ≡ Some page = page_at_inside b at.number at.above (omega arith) in
    elim (decide_page (page_at a at.number) page) [
      | inr differs ↦ inl (changed_from_some (Covers mine i) 2 (numbers_above_one b) a b at.number page at.above at.below is differs (record { is_mine = at.is_mine; from = at.from; to = at.to }))
      | inl same ↦
          let j : ℕ = i - start in
          let place : start + j ≡ i = omega arith in
          let lt : j < 4096 = omega arith in
          let old = (page_at_is a at.number page at.above same).0 in
          let of_a : get_or page j 0 ≡ get_or fa i 0 = ap (λ (x : List ℕ). get_or x j 0) old ∙ get_or-page_from (file_of a at.number) start j lt ∙ ap (λ (x : List ℕ). get_or x (start + j) 0) a_is ∙ ap (λ (k : ℕ). get_or fa k 0) place in
          let of_b : get_or page j 0 ≡ get_or fb i 0 = get_or-page_from (file_of b at.number) start j lt ∙ ap (λ (x : List ℕ). get_or x (start + j) 0) b_is ∙ ap (λ (k : ℕ). get_or fb k 0) place in
          inr (get_or-resized (length fb) fa i inside ∙ sym of_a ∙ of_b)
    ]

sizes_shown : (mine : ℕ → Bool) (file : List ℕ) (ps : List NumberedPage) → AllByRecursion (Shows mine file) ps → AllByRecursion (λ p. length p.page ≡ 4096) ps
sizes_shown mine file [] h = tt
sizes_shown mine file (p ∷ ps) h = (h.0.size, sizes_shown mine file ps h.1)

-- one file after the change
file_changed : (a b : Image) (fa fb : List ℕ) (mine : ℕ → Bool) → ((n : ℕ) → mine n ≡ true → file_of a n ≡ fa) → ((n : ℕ) → mine n ≡ true → file_of b n ≡ fb) → mine 1 ≡ false → ((i : ℕ) → i < length fb → Place mine b i)
    → put_pages mine (changed_from 2 (numbers_above_one b) a b ++ sizes_of b ∷ []) (resized (length fb) fa) ≡ fb
file_changed a b fa fb mine a_is b_is not_one places =
    let front : List NumberedPage = changed_from 2 (numbers_above_one b) a b in
    let pages : List NumberedPage = front ++ sizes_of b ∷ [] in
    let of_sizes : Shows mine fb (sizes_of b) = record { size = length-sizes_page (length b.main) (length b.side); bytes = λ h. absurd (both_ways (mine 1) not_one h) } in
    let of_front : AllByRecursion (Shows mine fb) front = changed_from_all (Shows mine fb) 2 (numbers_above_one b) a b (page_shows b fb mine b_is) in
    let shows : AllByRecursion (Shows mine fb) pages = All-append (Shows mine fb) front (sizes_of b ∷ []) of_front (of_sizes, tt) in
    let resized_len : length (resized (length fb) fa) ≡ length fb = length-resized (length fb) fa in
    let len : length (put_pages mine pages (resized (length fb) fa)) ≡ length fb = length-put_pages mine pages (resized (length fb) fa) (sizes_shown mine fb pages shows) ∙ resized_len in
    ext_get_or 0 (put_pages mine pages (resized (length fb) fa)) fb len (λ i lt.
    let inside : i < length fb = omega arith in
    let at : Place mine b i = places i inside in
    let reason : SomeOf (Covers mine i) pages ⊎ (get_or (resized (length fb) fa) i 0 ≡ get_or fb i 0) =
    elim (changed_byte a b fa fb mine i at (a_is at.number at.is_mine) (b_is at.number at.is_mine) inside) [
      | inl listed ↦ inl (SomeOf-append_left (Covers mine i) front (sizes_of b ∷ []) listed)
      | inr right ↦ inr right
    ] in
    get_or-put_pages mine pages (resized (length fb) fa) fb i shows (omega arith) reason)

-- ---- whole images

pub same_images : (a b : Image) → a.main ≡ b.main → a.side ≡ b.side → a ≡ b
same_images a b main side = λ i. record { main = main i; side = side i }

-- images that are not the same do not pass the test
pub same_image-false : (a b : Image) → (a ≡ b → ⊥) → same_image a b ≡ false
same_image-false a b differ = false_from_ne_true (same_image a b) (λ t.
    let both = and_parts (bytes_eq a.main b.main) (bytes_eq a.side b.side) t in
    differ (same_images a b ((bytes_eq-Decides a.main b.main).0 both.0) ((bytes_eq-Decides a.side b.side).0 both.1)))

pub changed_is : (a b : Image) → (a ≡ b → ⊥) → changed a b ≡ changed_from 2 (numbers_above_one b) a b ++ sizes_of b ∷ []
unfolding changed
changed_is a b differ = cond-false (same_image a b) [] (changed_from 2 (numbers_above_one b) a b ++ sizes_of b ∷ []) (same_image-false a b differ)

pub applied_change : (a b : Image) → (a ≡ b → ⊥) → length b.main < 2 ^ 64 → length b.side < 2 ^ 64 → applied a (changed a b) ≡ b
unfolding applied
applied_change a b differ main_fits side_fits =
    let pages : List NumberedPage = changed_from 2 (numbers_above_one b) a b ++ sizes_of b ∷ [] in
    let sizes : List ℕ = sizes_page (length b.main) (length b.side) in
    let main : put_pages is_main pages (resized (stated_main sizes) a.main) ≡ b.main =
    ap (λ (n : ℕ). put_pages is_main pages (resized n a.main)) (stated_main-sizes_page (length b.main) (length b.side) main_fits)
    ∙ file_changed a b a.main b.main is_main (file_of_main a) (file_of_main b) refl (main_place b) in
    let side : put_pages is_side pages (resized (stated_side sizes) a.side) ≡ b.side =
    ap (λ (n : ℕ). put_pages is_side pages (resized n a.side)) (stated_side-sizes_page (length b.main) (length b.side) side_fits)
    ∙ file_changed a b a.side b.side is_side (file_of_side a) (file_of_side b) refl (side_place b) in
    ap (applied a) (changed_is a b differ)
    ∙ ap (λ (last : Option NumberedPage). applied_with last pages a) (last_page-push (changed_from 2 (numbers_above_one b) a b) (sizes_of b))
    ∙ same_images (applied_with (Some (sizes_of b)) pages a) b main side
