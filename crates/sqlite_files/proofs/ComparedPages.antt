-- What a comparison of all pages says of an image and two files.
use Rattle.std.proofs.Common.{◌≡◌, ℕ, ◌+◌, ◌-◌, ◌*◌, ◌<◌, ◌≤◌, min, List, [], ◌∷◌, ◌++◌, length, get_or, take, drop, Some, None, refl, sym, ap, ◌∙◌, inl, inr, arith, take_all, get_or-take, get_or-drop}
use Rattle.std.specs.Str.{bytes_eq}
use Rattle.std.proofs.lemmas.Bool.{cases_lt, cases_Bool}
use Rattle.std.proofs.lemmas.Slice.Eq.{bytes_eq-Decides}
use Rattle.std.proofs.lemmas.List.{length-take, length-drop, ext_get_or}
use Rattle.dq_base.specs.declared.images.Image.{Image}
use Rattle.dq_base.specs.declared.pages.NumberedPage.{NumberedPage}
use Rattle.dq_base.specs.Images.{page_at, page_start, page_from, file_of, resized}
use Rattle.dq_base.specs.Changes.{changed_page, changed_from}
use Rattle.dq_base.proofs.FileBytes.{length-resized, get_or-resized, length-page_from, get_or-page_from}
use Rattle.dq_base.proofs.ChangedPages.{page_at_inside, page_at_past}
use Rattle.sqlite_files.specs.Pairs.{piece_of, page_of}
use Rattle.sqlite_files.proofs.TakenPages.{even_is_main, odd_is_side, changed_two_more, same_is_unlisted}

pub cut : (k : ℕ) (xs : List ℕ) (l m : ℕ) → length xs ≡ l → m ≡ min l k → take m (take l xs) ≡ take k xs
cut k xs l m len least = ap (take m) (take_all l xs (omega (arith, len))) ∙ elim (cases_lt k l) [
  | inl less ↦ let same : m ≡ k = omega (arith, less, least) in ap (λ n. take n xs) same
  | inr most ↦ take_all m xs (omega (arith, len, most, least)) ∙ sym (take_all k xs (omega (arith, len, most)))
]

pub piece_length : (file : List ℕ) (page : ℕ) → length (piece_of file page) ≡ min 4096 (length file - page * 4096)
piece_length file page = length-take 4096 (drop (page * 4096) file) ∙ ap (min 4096) (length-drop (page * 4096) file)

some_page : (bytes : List ℕ) → 0 < length bytes → page_of bytes ≡ Some (resized 4096 bytes)
some_page [] none = absurd (omega (arith, none))
some_page (byte ∷ rest) some = refl

no_page : (bytes : List ℕ) → length bytes ≡ 0 → page_of bytes ≡ None
no_page [] none = refl
no_page (byte ∷ rest) some = absurd (omega (arith, some))

-- the bytes that a file has of a page, and zeros, are the page
piece_is_page : (file : List ℕ) (page : ℕ) → resized 4096 (piece_of file page) ≡ page_from file (4096 * page)
piece_is_page file page = ext_get_or 0 (resized 4096 (piece_of file page)) (page_from file (4096 * page)) (length-resized 4096 (piece_of file page) ∙ sym (length-page_from file (4096 * page)))
    (λ j lt.
    let inside : j < 4096 = omega (arith, lt, length-resized 4096 (piece_of file page)) in
    let start : page * 4096 + j ≡ 4096 * page + j = omega arith in
    get_or-resized 4096 (piece_of file page) j inside ∙ get_or-take 4096 (drop (page * 4096) file) j 0 inside ∙ get_or-drop (page * 4096) file j 0
    ∙ ap (λ (k : ℕ). get_or file k 0) start ∙ sym (get_or-page_from file (4096 * page) j inside))

numbered_page : (image : Image) (number page : ℕ) → 1 < number → page_start number ≡ 4096 * page → page_at image number ≡ page_of (piece_of (file_of image number) page)
numbered_page image number page above start =
    let file : List ℕ = file_of image number in
    elim (cases_lt (4096 * page) (length file)) [
      | inl inside ↦
          page_at_inside image number above (omega (arith, inside, start))
          ∙ ap (λ (s : ℕ). Some (page_from file s)) start
          ∙ ap (λ (p : List ℕ). Some p) (sym (piece_is_page file page))
          ∙ sym (some_page (piece_of file page) (omega (arith, inside, piece_length file page)))
      | inr past ↦ page_at_past image number above (omega (arith, past, start)) ∙ sym (no_page (piece_of file page) (omega (arith, past, piece_length file page)))
    ]

pub main_page : (image : Image) (page : ℕ) → page_at image (2 * (page + 1)) ≡ page_of (piece_of image.main page)
main_page image page = numbered_page image (2 * (page + 1)) page (omega arith) (omega arith) ∙ ap (λ (file : List ℕ). page_of (piece_of file page)) (even_is_main image page)

pub side_page : (image : Image) (page : ℕ) → page_at image (2 * (page + 1) + 1) ≡ page_of (piece_of image.side page)
side_page image page = numbered_page image (2 * (page + 1) + 1) page (omega arith) (omega arith) ∙ ap (λ (file : List ℕ). page_of (piece_of file page)) (odd_is_side image page)

-- the pages of one index more
pub two_more_compared : (a b : Image) (page : ℕ) (pages one two : List NumberedPage) (main_before main side_before side : List ℕ)
    → main_before ≡ piece_of a.main page → main ≡ piece_of b.main page → side_before ≡ piece_of a.side page → side ≡ piece_of b.side page
    → pages ≡ changed_from 2 (2 * page) a b
    → one ≡ pages ++ changed_page (2 * (page + 1)) (page_of main_before) (page_of main)
    → two ≡ one ++ changed_page (2 * (page + 1) + 1) (page_of side_before) (page_of side)
    → two ≡ changed_from 2 (2 * (page + 1)) a b
two_more_compared a b page pages one two main_before main side_before side main_before_is main_is side_before_is side_is so_far first second =
    changed_two_more a b page pages one two so_far
    (first ∙ ap (λ (list : List NumberedPage). pages ++ list)
    (λ i. changed_page (2 * (page + 1)) ((ap page_of main_before_is ∙ sym (main_page a page)) i) ((ap page_of main_is ∙ sym (main_page b page)) i)))
    (second ∙ ap (λ (list : List NumberedPage). one ++ list)
    (λ i. changed_page (2 * (page + 1) + 1) ((ap page_of side_before_is ∙ sym (side_page a page)) i) ((ap page_of side_is ∙ sym (side_page b page)) i)))

-- bytes that are the same make a page that isn't listed
pub same_piece : (number : ℕ) (before now : List ℕ) → before ≡ now → changed_page number (page_of before) (page_of now) ≡ []
same_piece number before now same = ap (λ (bytes : List ℕ). changed_page number (page_of bytes) (page_of now)) same ∙ same_is_unlisted number (page_of now)

-- other bytes of the same length make another page
resized_same : (a b : List ℕ) → length a ≡ length b → length b ≤ 4096 → resized 4096 a ≡ resized 4096 b → a ≡ b
resized_same a b len short same = ext_get_or 0 a b len (λ j lt.
    let inside : j < 4096 = omega (arith, lt, len, short) in
    sym (get_or-resized 4096 a j inside) ∙ ap (λ (page : List ℕ). get_or page j 0) same ∙ get_or-resized 4096 b j inside)

pub other_piece : (number : ℕ) (before now : List ℕ) → length before ≡ length now → length now ≤ 4096 → (before ≡ now → ⊥)
    → changed_page number None (page_of now) ≡ changed_page number (page_of before) (page_of now)
other_piece number before [] len short other = refl
other_piece number [] (byte ∷ rest) len short other = refl
other_piece number (first ∷ more) (byte ∷ rest) len short other =
    let before : List ℕ = first ∷ more in
    let now : List ℕ = byte ∷ rest in
    elim (cases_Bool (bytes_eq (resized 4096 before) (resized 4096 now))) [
      | inl same ↦ absurd (other (resized_same before now len short ((bytes_eq-Decides (resized 4096 before) (resized 4096 now)).0 same)))
      | inr differs ↦ rw differs refl
    ]
