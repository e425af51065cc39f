-- The change between two images, from the pages that were touched.
use Rattle.std.proofs.Common.{◌≡◌, ℕ, zero, suc, ◌+◌, ◌-◌, ◌*◌, ◌/◌, ◌%◌, ◌<◌, ◌≤◌, Bool, false, cond, eqb, List, [], ◌∷◌, ◌++◌, length, get_or, take, Option, Some, None, refl, sym, ◌∙◌, ap, subst, append_assoc, arith, inl, inr, add-one, add-zero}
use Rattle.std.specs.Str.{bytes_eq}
use Rattle.std.proofs.lemmas.Bool.{cases_lt, cases_Bool, both_ways, and_from, cond-true, eqb-true, eq-eqb, ne_eqb}
use Rattle.std.proofs.lemmas.List.{append-nil, ext_get_or, get_or_past, take_all}
use Rattle.std.proofs.lemmas.List.Sums.{sum_by_more, sum_by-take-le}
use Rattle.std.proofs.lemmas.Slice.Eq.{bytes_eq-Decides}
use Rattle.dq_base.specs.declared.images.Image.{Image}
use Rattle.dq_base.specs.declared.pages.NumberedPage.{NumberedPage}
use Rattle.dq_base.specs.Images.{page_at, page_start, page_from, sizes_page, file_of}
use Rattle.dq_base.specs.Changes.{same_image, changed_page, changed_from, numbers_above_one, sizes_of, changed}
use Rattle.dq_base.proofs.FileBytes.{length-page_from, get_or-page_from}
use Rattle.dq_base.proofs.ChangedPages.{page_at_inside, page_at_past, page_at_is, page_at-one, changed_from_some}
use Rattle.dq_base.proofs.ChangeLaw.{same_images, changed_is}
use Rattle.dq_base.proofs.PutPages.{SomeOf}
use Rattle.sqlite_files.specs.Recording.{is_touched, touched_count, IsRecorded}

-- ---- a page that wasn't touched is the same

page_from_same : (before after : List ℕ) (page : ℕ) (touched : List Bool) → IsRecorded before after touched → is_touched touched page ≡ false → page_from before (4096 * page) ≡ page_from after (4096 * page)
page_from_same before after page touched was clean =
    ext_get_or 0 (page_from before (4096 * page)) (page_from after (4096 * page)) (length-page_from before (4096 * page) ∙ sym (length-page_from after (4096 * page)))
    (λ j lt.
    let inside : j < 4096 = omega (arith, length-page_from before (4096 * page)) in
    let place : (4096 * page + j) / 4096 ≡ page = omega arith in
    let still : is_touched touched ((4096 * page + j) / 4096) ≡ false = ap (is_touched touched) place ∙ clean in
    get_or-page_from before (4096 * page) j inside ∙ was.bytes (4096 * page + j) still ∙ sym (get_or-page_from after (4096 * page) j inside))

pub page_at_same : (a b : Image) (number page : ℕ) (touched : List Bool) → 1 < number → page_start number ≡ 4096 * page → IsRecorded (file_of a number) (file_of b number) touched → is_touched touched page ≡ false → page_at a number ≡ page_at b number
page_at_same a b number page touched above start was clean =
    let place : (4096 * page) / 4096 ≡ page = omega arith in
    let still : is_touched touched ((4096 * page) / 4096) ≡ false = ap (is_touched touched) place ∙ clean in
    let reach = was.reach (4096 * page) still in
    elim (cases_lt (4096 * page) (length (file_of a number))) [
      | inl inside ↦
          let there : 4096 * page < length (file_of b number) = reach.0 inside in
          page_at_inside a number above (omega arith)
          ∙ ap (λ (s : ℕ). Some (page_from (file_of a number) s)) start
          ∙ ap (λ (p : List ℕ). Some p) (page_from_same _ _ page touched was clean)
          ∙ ap (λ (s : ℕ). Some (page_from (file_of b number) s)) (sym start)
          ∙ sym (page_at_inside b number above (omega arith))
      | inr past ↦
          elim (cases_lt (4096 * page) (length (file_of b number))) [
            | inl there ↦ let inside : 4096 * page < length (file_of a number) = reach.1 there in absurd (omega arith)
            | inr beyond ↦ page_at_past a number above (omega arith) ∙ sym (page_at_past b number above (omega arith))
          ]
    ]

-- ---- the numbers of the pages of an index

pub even_is_main : (image : Image) (i : ℕ) → file_of image (2 * (i + 1)) ≡ image.main
even_is_main image i = let even : (2 * (i + 1)) % 2 ≡ 0 = omega arith in rw (eq-eqb ((2 * (i + 1)) % 2) 0 even) refl

pub odd_is_side : (image : Image) (i : ℕ) → file_of image (2 * (i + 1) + 1) ≡ image.side
odd_is_side image i = let odd : eqb ((2 * (i + 1) + 1) % 2) 0 ≡ false = ne_eqb ((2 * (i + 1) + 1) % 2) 0 (λ e. omega arith) in rw odd refl

pub main_page_same : (a b : Image) (i : ℕ) (touched : List Bool) → IsRecorded a.main b.main touched → is_touched touched i ≡ false → page_at a (2 * (i + 1)) ≡ page_at b (2 * (i + 1))
main_page_same a b i touched was clean =
    page_at_same a b (2 * (i + 1)) i touched (omega arith) (omega arith)
    (subst (λ (f : List ℕ). IsRecorded f (file_of b (2 * (i + 1))) touched) (sym (even_is_main a i)) (subst (λ (f : List ℕ). IsRecorded a.main f touched) (sym (even_is_main b i)) was))
    clean

pub side_page_same : (a b : Image) (i : ℕ) (touched : List Bool) → IsRecorded a.side b.side touched → is_touched touched i ≡ false → page_at a (2 * (i + 1) + 1) ≡ page_at b (2 * (i + 1) + 1)
side_page_same a b i touched was clean =
    page_at_same a b (2 * (i + 1) + 1) i touched (omega arith) (omega arith)
    (subst (λ (f : List ℕ). IsRecorded f (file_of b (2 * (i + 1) + 1)) touched) (sym (odd_is_side a i)) (subst (λ (f : List ℕ). IsRecorded a.side f touched) (sym (odd_is_side b i)) was))
    clean

-- ---- a page that is the same is not listed

pub same_is_unlisted : (number : ℕ) (page : Option (List ℕ)) → changed_page number page page ≡ []
same_is_unlisted number None = refl
same_is_unlisted number (Some page) = rw ((bytes_eq-Decides page page).1 refl) refl

-- ---- the pages from a number on, one more at a time

abbrev at_number : Image → Image → ℕ → List NumberedPage
at_number a b number = changed_page number (page_at a number) (page_at b number)

changed_next : (a b : Image) (n count : ℕ) → changed_from n (suc count) a b ≡ changed_from n count a b ++ at_number a b (n + count)
unfolding changed_from
changed_next a b n zero = rw (add-zero, append-nil) refl
changed_next a b n (suc count) =
    let next : suc n + count ≡ n + suc count = omega arith in
    ap (λ (rest : List NumberedPage). at_number a b n ++ rest) (changed_next a b (suc n) count)
    ∙ sym (append_assoc (at_number a b n) (changed_from (suc n) count a b) (at_number a b (suc n + count)))
    ∙ ap (λ (k : ℕ). (at_number a b n ++ changed_from (suc n) count a b) ++ at_number a b k) next

pub changed_more : (a b : Image) (n count : ℕ) → changed_from n (count + 1) a b ≡ changed_from n count a b ++ changed_page (n + count) (page_at a (n + count)) (page_at b (n + count))
changed_more a b n count = rw add-one (changed_next a b n count)

pub changed_none : (a b : Image) (n : ℕ) → changed_from n 0 a b ≡ []
unfolding changed_from
changed_none a b n = refl

pub sizes_listed : (image : Image) (page : List ℕ) → Some page ≡ page_at image 1 → page ≡ sizes_page (length image.main) (length image.side)
sizes_listed image page is = let one = page_at-one image 1 refl in cc

pub sizes_are_there : (image : Image) → None ≡ page_at image 1 → ⊥
sizes_are_there image is = let one = page_at-one image 1 refl in absurd cc

pub changed_two_more : (a b : Image) (i : ℕ) (pages one two : List NumberedPage) → pages ≡ changed_from 2 (2 * i) a b
    → one ≡ pages ++ changed_page (2 * (i + 1)) (page_at a (2 * (i + 1))) (page_at b (2 * (i + 1)))
    → two ≡ one ++ changed_page (2 * (i + 1) + 1) (page_at a (2 * (i + 1) + 1)) (page_at b (2 * (i + 1) + 1))
    → two ≡ changed_from 2 (2 * (i + 1)) a b
changed_two_more a b i pages one two pages_is one_is two_is =
    let first : 2 + 2 * i ≡ 2 * (i + 1) = omega arith in
    let second : 2 + (2 * i + 1) ≡ 2 * (i + 1) + 1 = omega arith in
    let count : 2 * i + 1 + 1 ≡ 2 * (i + 1) = omega arith in
    let so_far : one ≡ changed_from 2 (2 * i + 1) a b =
    one_is ∙ ap (λ (front : List NumberedPage). front ++ at_number a b (2 * (i + 1))) pages_is
    ∙ ap (λ (k : ℕ). changed_from 2 (2 * i) a b ++ at_number a b k) (sym first)
    ∙ sym (changed_more a b 2 (2 * i)) in
    two_is ∙ ap (λ (front : List NumberedPage). front ++ at_number a b (2 * (i + 1) + 1)) so_far
    ∙ ap (λ (k : ℕ). changed_from 2 (2 * i + 1) a b ++ at_number a b k) (sym second)
    ∙ sym (changed_more a b 2 (2 * i + 1))
    ∙ ap (λ (k : ℕ). changed_from 2 k a b) count

-- ---- how many of the pages so far were touched

touched_more : (touched : List Bool) (i : ℕ) → touched_count (take (i + 1) touched) ≡ touched_count (take i touched) + cond (is_touched touched i) 1 0
touched_more touched i =
    elim (cases_lt i (length touched)) [
      | inl inside ↦ sum_by_more (λ (b : Bool). cond b 1 0) touched i false inside
      | inr past ↦
          let later : take (i + 1) touched ≡ touched = take_all (i + 1) touched (omega arith) in
          let sooner : take i touched ≡ touched = take_all i touched past in
          let off : is_touched touched i ≡ false = get_or_past touched i false past in
          rw (later, sooner, off) (omega arith)
    ]

-- the steps after the pages of one index more, of which the first may be the last
module _ (main side : List Bool) (i start before : ℕ) (so_far : before ≤ start + (touched_count (take i main) + touched_count (take i side))) where
  pub steps_of_two : (middle after : ℕ) (of_main of_side : Bool) → of_main ≡ is_touched main i → of_side ≡ is_touched side i → middle ≤ before + cond of_main 1 0 → after ≤ middle + cond of_side 1 0
      → after ≤ start + (touched_count (take (i + 1) main) + touched_count (take (i + 1) side))
  steps_of_two middle after of_main of_side main_is side_is one two =
      let first = rw main_is at one in
      let second = rw side_is at two in
      omega (arith, first, second, touched_more main i, touched_more side i)

  pub steps_within : (middle after : ℕ) (of_main of_side : Bool) → of_main ≡ is_touched main i → of_side ≡ is_touched side i → middle ≤ before + cond of_main 1 0 → after ≤ middle + cond of_side 1 0
      → after ≤ start + (touched_count main + touched_count side)
  steps_within middle after of_main of_side main_is side_is one two =
      let both = steps_of_two middle after of_main of_side main_is side_is one two in
      omega (arith, sum_by-take-le (λ (b : Bool). cond b 1 0) main (i + 1), sum_by-take-le (λ (b : Bool). cond b 1 0) side (i + 1))

  pub steps_of_one : (middle : ℕ) (of_main : Bool) → of_main ≡ is_touched main i → middle ≤ before + cond of_main 1 0 → middle ≤ start + (touched_count main + touched_count side)
  steps_of_one middle of_main main_is one = steps_within middle middle of_main (is_touched side i) main_is refl one (omega arith)

-- ---- where nothing is listed and the lengths are the same, the images are the same

unlisted_byte : (a b : Image) (n i : ℕ) → 1 < n → n < 2 + numbers_above_one b → page_start n ≤ i → i < page_start n + 4096 → i < length (file_of b n) → changed_from 2 (numbers_above_one b) a b ≡ []
    → get_or (file_of a n) i 0 ≡ get_or (file_of b n) i 0
unlisted_byte a b n i above below from to inside none =
    let start : ℕ = page_start n in
    let j : ℕ = i - start in
    let place : start + j ≡ i = omega arith in
    let page : List ℕ = page_from (file_of b n) start in
    let is : page_at b n ≡ Some page = page_at_inside b n above (omega arith) in
    let of_b : get_or page j 0 ≡ get_or (file_of b n) i 0 = get_or-page_from (file_of b n) start j (omega arith) ∙ ap (λ (k : ℕ). get_or (file_of b n) k 0) place in
    elim (cases_Bool (eqb (get_or (file_of a n) i 0) (get_or (file_of b n) i 0))) [
      | inl same ↦ eqb-true _ _ same
      | inr other ↦
          let differs : page_at a n ≡ Some page → ⊥ = λ same.
          (let of_a : get_or page j 0 ≡ get_or (file_of a n) i 0 =
          ap (λ (x : List ℕ). get_or x j 0) (page_at_is a n page above same).0 ∙ get_or-page_from (file_of a n) start j (omega arith) ∙ ap (λ (k : ℕ). get_or (file_of a n) k 0) place in
          both_ways (eqb (get_or (file_of a n) i 0) (get_or (file_of b n) i 0)) other (eq-eqb _ _ (sym of_a ∙ of_b))) in
          let listed : SomeOf (λ (p : NumberedPage). Unit {0}) (changed_from 2 (numbers_above_one b) a b) =
          changed_from_some (λ (p : NumberedPage). Unit {0}) 2 (numbers_above_one b) a b n page above below is differs tt in
          absurd (subst (SomeOf (λ (p : NumberedPage). Unit {0})) none listed)
    ]

pub nothing_listed : (a b : Image) → changed_from 2 (numbers_above_one b) a b ≡ [] → length a.main ≡ length b.main → length a.side ≡ length b.side → a ≡ b
nothing_listed a b none main_len side_len =
    let main : a.main ≡ b.main = ext_get_or 0 a.main b.main main_len (λ i lt.
    let k : ℕ = i / 4096 in
    let a_is = even_is_main a k in
    let b_is = even_is_main b k in
    let inside : i < length (file_of b (2 * (k + 1))) = rw b_is (omega arith) in
    let same = unlisted_byte a b (2 * (k + 1)) i (omega arith) (omega arith) (omega arith) (omega arith) inside none in
    ap (λ (f : List ℕ). get_or f i 0) (sym a_is) ∙ same ∙ ap (λ (f : List ℕ). get_or f i 0) b_is) in
    let side : a.side ≡ b.side = ext_get_or 0 a.side b.side side_len (λ i lt.
    let k : ℕ = i / 4096 in
    let a_is = odd_is_side a k in
    let b_is = odd_is_side b k in
    let inside : i < length (file_of b (2 * (k + 1) + 1)) = rw b_is (omega arith) in
    let same = unlisted_byte a b (2 * (k + 1) + 1) i (omega arith) (omega arith) (omega arith) (omega arith) inside none in
    ap (λ (f : List ℕ). get_or f i 0) (sym a_is) ∙ same ∙ ap (λ (f : List ℕ). get_or f i 0) b_is) in
    same_images a b main side

-- ---- the whole change

same_unlisted : (n count : ℕ) (a : Image) → changed_from n count a a ≡ []
unfolding changed_from
same_unlisted n zero a = refl
same_unlisted n (suc count) a = rw (same_is_unlisted n (page_at a n)) (same_unlisted (suc n) count a)

pub same_change : (a b : Image) → a ≡ b → changed a b ≡ []
unfolding changed
same_change a b e = cond-true (same_image a b) [] _ (and_from (bytes_eq a.main b.main) (bytes_eq a.side b.side) ((bytes_eq-Decides a.main b.main).1 (ap (λ (x : Image). x.main) e)) ((bytes_eq-Decides a.side b.side).1 (ap (λ (x : Image). x.side) e)))

pub changed_nothing : (a b : Image) (pages : List NumberedPage) → pages ≡ changed_from 2 (numbers_above_one b) a b → pages ≡ [] → length a.main ≡ length b.main → length a.side ≡ length b.side → pages ≡ changed a b
changed_nothing a b pages pages_is none main side = none ∙ sym (same_change a b (nothing_listed a b (sym pages_is ∙ none) main side))

-- something is listed, or a length is another one
pub changed_something : (a b : Image) (pages : List NumberedPage) → pages ≡ changed_from 2 (numbers_above_one b) a b → (pages ≡ [] → length a.main ≡ length b.main → length a.side ≡ length b.side → ⊥)
    → pages ++ sizes_of b ∷ [] ≡ changed a b
changed_something a b pages pages_is differs =
    ap (λ (front : List NumberedPage). front ++ sizes_of b ∷ []) pages_is
    ∙ sym (changed_is a b (λ same. differs (pages_is ∙ ap (λ (x : Image). changed_from 2 (numbers_above_one b) x b) same ∙ same_unlisted 2 (numbers_above_one b) b) (ap (λ (x : Image). length x.main) same) (ap (λ (x : Image). length x.side) same)))
