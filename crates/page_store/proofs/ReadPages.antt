-- Looking up a page: lengths and room by places, the last frame by the index, and bytes padded to a page.
use Rattle.std.proofs.Common.{◌≡◌, ℕ, ◌+◌, ◌-◌, ◌%◌, ◌<◌, ◌≤◌, Bool, true, false, cond, eqb, ltb, min, List, [], length, map, take, drop, get_or, Some, refl, sym, ap, ◌∙◌, arith, inl, inr}
use Rattle.std.specs.Prelude.{◌↔◌}
use Rattle.std.specs.List.{AllByRecursion, slice_get}
use Rattle.std.proofs.lemmas.Bool.{cases_lt, and_from, lt-ltb, eq-eqb}
use Rattle.std.proofs.lemmas.Option.{slice_get-get_or, get_or_from_slice_get}
use Rattle.std.proofs.lemmas.List.{length-map, length-take, length-take-le, get_or-map, get_or-take, get_or-drop, get_or_past, ext_get_or, take_min}
use Rattle.dq_base.specs.declared.images.Image.{Image}
use Rattle.dq_base.specs.declared.pages.NumberedPage.{NumberedPage}
use Rattle.dq_base.specs.declared.sizes.Lengths.{Lengths}
use Rattle.dq_base.specs.Images.{resized, page_from, is_page_of, file_of}
use Rattle.dq_base.proofs.FileBytes.{length-resized, get_or-resized, length-page_from, get_or-page_from}
use Rattle.page_store.specs.Frames.{IsLastAt, NoneAt}
use Rattle.page_store.specs.Laying.{length_of, length_at, no_lengths, laid_one, laid, Room, IsLeast}
use Rattle.page_store.specs.Log.{Log, IsSized}
use Rattle.page_store.proofs.LaidBytes.{after_frames, laid_more, LastFrame, NoFrame, length-after}

-- ---- room

pub room_at : (parity : ℕ) (lengths : List Lengths) (count capacity i : ℕ) → Room parity (take count lengths) capacity → count ≤ length lengths → i < count → length_at parity lengths i ≤ capacity
room_at parity lengths count capacity i room le lt =
    let len : length (take count lengths) ≡ count = length-take-le count lengths le in
    let h : length_at parity (take count lengths) i ≤ capacity = room i (omega arith) in
    let same : length_at parity (take count lengths) i ≡ length_at parity lengths i = ap (length_of parity) (get_or-take count lengths i no_lengths lt) in
    omega arith

pub room_more : (parity : ℕ) (lengths : List Lengths) (i before now : ℕ) → i < length lengths → Room parity (take i lengths) before → before ≤ now → length_at parity lengths i ≤ now → Room parity (take (i + 1) lengths) now
room_more parity lengths i before now inside room le here j lt =
    let len : length (take (i + 1) lengths) ≡ i + 1 = length-take-le (i + 1) lengths (omega arith) in
    let same : length_at parity (take (i + 1) lengths) j ≡ length_at parity lengths j = ap (length_of parity) (get_or-take (i + 1) lengths j no_lengths (omega arith)) in
    elim (cases_lt j i) [
      | inl earlier ↦ let h : length_at parity lengths j ≤ before = room_at parity lengths i before j room (omega arith) earlier in omega arith
      | inr at ↦ let is : j ≡ i = omega arith in let value : length_at parity lengths j ≡ length_at parity lengths i = ap (length_at parity lengths) is in omega arith
    ]

pub lay_more : (parity : ℕ) (pages : List NumberedPage) (lengths : List Lengths) (file : List ℕ) (i : ℕ) (p : NumberedPage) (l : Lengths) (now : List ℕ) → i < length pages → i < length lengths → p ≡ get_or pages i p → l ≡ get_or lengths i no_lengths
    → now ≡ laid parity (take i pages) (take i lengths) file → laid_one parity p l now ≡ laid parity (take (i + 1) pages) (take (i + 1) lengths) file
lay_more parity pages lengths file i p l now in_pages in_lengths page_is length_is so_far =
    ap (laid_one parity p l) so_far
    ∙ ap (λ (q : NumberedPage). laid_one parity q l (after_frames parity pages lengths file i)) page_is
    ∙ ap (λ (k : Lengths). laid_one parity (get_or pages i p) k (after_frames parity pages lengths file i)) length_is
    ∙ sym (laid_more parity pages lengths file i p in_pages in_lengths)

-- ---- lengths

-- some page, for a place past the end
pub no_page : NumberedPage
no_page = record { number = 0; page = [] }

pub length_under : (parity : ℕ) (pages : List NumberedPage) (lengths : List Lengths) (file : List ℕ) (count : ℕ) → 0 < count → count ≤ length pages → count ≤ length lengths → AllByRecursion IsSized pages
    → length_of parity (get_or lengths (count - 1) no_lengths) ≡ length (after_frames parity pages lengths file count)
length_under parity pages lengths file count some in_pages in_lengths sized =
    let last : count - 1 + 1 ≡ count = omega arith in
    sym (length-after parity pages lengths file (count - 1) no_page (omega arith) (omega arith) sized)
    ∙ ap (λ (n : ℕ). length (after_frames parity pages lengths file n)) last

length_case : (t : Bool) (main side : List ℕ) (l : Lengths) → l.main ≡ length main → l.side ≡ length side → cond t l.main l.side ≡ length (cond t main side)
length_case true main side l m s = m
length_case false main side l m s = s

pub file_length : (image : Image) (number : ℕ) (l : Lengths) → l.main ≡ length image.main → l.side ≡ length image.side → length_of (number % 2) l ≡ length (file_of image number)
file_length image number l main side = length_case (eqb (number % 2) 0) image.main image.side l main side

least_case : (t : Bool) (lengths : List Lengths) (first last : ℕ) (l : Lengths) → IsLeast 0 lengths first last l.main → IsLeast 1 lengths first last l.side
    → (k : ℕ) → (k ≤ cond t l.main l.side) ↔ ((i : ℕ) → first ≤ i → i ≤ last → k ≤ cond t (get_or lengths i no_lengths).main (get_or lengths i no_lengths).side)
least_case true lengths first last l main side = main
least_case false lengths first last l main side = side

pub least_of_file : (parity : ℕ) (lengths : List Lengths) (first last : ℕ) (l : Lengths) → IsLeast 0 lengths first last l.main → IsLeast 1 lengths first last l.side → IsLeast parity lengths first last (length_of parity l)
least_of_file parity lengths first last l main side = least_case (eqb parity 0) lengths first last l main side

-- ---- what the index says of the pages

pub mine_is : (number : ℕ) → 1 < number → is_page_of (number % 2) number ≡ true
mine_is number above = and_from (ltb 1 number) (eqb (number % 2) (number % 2)) (lt-ltb 1 number above) (eq-eqb (number % 2) (number % 2) refl)

has_number : (pages : List NumberedPage) (i number : ℕ) (d : NumberedPage) → i < length pages → (get_or pages i d).number ≡ number → slice_get (map (λ (p : NumberedPage). p.number) pages) i ≡ Some number
has_number pages i number d lt e =
    let len : length (map (λ (p : NumberedPage). p.number) pages) ≡ length pages = length-map pages (λ (p : NumberedPage). p.number) in
    slice_get-get_or (map (λ (p : NumberedPage). p.number) pages) i 0 (omega arith)
    ∙ ap (λ (n : ℕ). Some n) (get_or-map (λ (p : NumberedPage). p.number) pages i d 0 lt ∙ e)

pub last_of : (log : Log) (number count frame : ℕ) (d : NumberedPage) → count ≤ length log.pages → length log.lengths ≡ length log.pages → AllByRecursion IsSized log.pages → 1 < number → IsLastAt (map (λ (p : NumberedPage). p.number) log.pages) number count frame
    → LastFrame (number % 2) log.pages log.lengths (frame - 1) count number d
last_of log number count frame d within same sized above is =
    let one : 1 ≤ frame = is.from_one in
    let le : frame ≤ count = is.within in
    let place : frame - 1 < length log.pages = omega arith in
    record {
      before = omega arith;
      in_pages = within;
      in_lengths = omega arith;
      sized = sized;
      mine = mine_is number above;
      number_is =
          sym (get_or-map (λ (p : NumberedPage). p.number) log.pages (frame - 1) d 0 place)
          ∙ get_or_from_slice_get (map (λ (p : NumberedPage). p.number) log.pages) (frame - 1) number 0 is.has_number;
      none_after = λ j after before e. is.none_after j (omega arith) before (has_number log.pages j number d (omega arith) e);
    }

pub none_of : (log : Log) (number count : ℕ) (d : NumberedPage) → count ≤ length log.pages → length log.lengths ≡ length log.pages → AllByRecursion IsSized log.pages → 1 < number → NoneAt (map (λ (p : NumberedPage). p.number) log.pages) number count
    → NoFrame (number % 2) log.pages log.lengths count number d
none_of log number count d within same sized above is = record {
  in_pages = within;
  in_lengths = omega arith;
  sized = sized;
  mine = mine_is number above;
  none = λ j before e. is j before (has_number log.pages j number d (omega arith) e);
}

-- ---- bytes padded to a page

pub kept_page : (page : List ℕ) (n kept : ℕ) → length page ≡ 4096 → kept ≡ min n 4096 → take kept page ≡ take n page
kept_page page n kept size e = ap (λ (k : ℕ). take k page) e ∙ ap (λ (k : ℕ). take (min n k) page) (sym size) ∙ take_min n page

pub base_bytes : (file : List ℕ) (start end begin n : ℕ) → end ≤ length file → begin ≡ min start end → n ≡ min 4096 (end - begin) → resized 4096 (take n (drop begin file)) ≡ page_from (take end file) start
base_bytes file start end begin n within begin_is n_is =
    let left : List ℕ = take n (drop begin file) in
    let cut : List ℕ = take end file in
    ext_get_or 0 (resized 4096 left) (page_from cut start) (length-resized 4096 left ∙ sym (length-page_from cut start)) (λ j in_page.
    let lt : j < 4096 = omega (arith, length-resized 4096 left) in
    get_or-resized 4096 left j lt ∙ each j lt ∙ sym (get_or-page_from cut start j lt))
  where
    each : (j : ℕ) → j < 4096 → get_or (take n (drop begin file)) j 0 ≡ get_or (take end file) (start + j) 0
    each j lt = elim (cases_lt (start + j) end) [
      | inl inside ↦
          let same : begin ≡ start = omega arith in
          get_or-take n (drop begin file) j 0 (omega arith)
          ∙ get_or-drop begin file j 0
          ∙ ap (λ (k : ℕ). get_or file (k + j) 0) same
          ∙ sym (get_or-take end file (start + j) 0 inside)
      | inr past ↦
          get_or_past (take n (drop begin file)) j 0 (omega (arith, length-take n (drop begin file)))
          ∙ sym (get_or_past (take end file) (start + j) 0 (omega (arith, length-take end file)))
    ]
