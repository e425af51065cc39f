-- The bytes of a file after pages are laid into it: those of the last frame of their page, or of the file before, as far
-- as no later length cut them, and then zeros.
use Rattle.std.proofs.Common.{◌≡◌, ℕ, zero, suc, ◌+◌, ◌-◌, ◌%◌, ◌<◌, ◌≤◌, ◌⊎◌, Bool, true, false, eqb, ltb, min, List, [], ◌∷◌, ◌++◌, length, take, get_or, refl, sym, ap, ◌∙◌, add-zero, zero-add, arith, inl, inr}
use Rattle.std.specs.List.{AllByRecursion}
use Rattle.std.proofs.lemmas.Bool.{cases_lt, and_parts, eqb-true, ltb-true, cond-true}
use Rattle.std.proofs.lemmas.List.{take_more, length-take, length-take-le, get_or-take, get_or_past, ext_get_or}
use Rattle.dq_base.specs.declared.pages.NumberedPage.{NumberedPage}
use Rattle.dq_base.specs.declared.sizes.Lengths.{Lengths}
use Rattle.dq_base.specs.Images.{resized, page_from, page_start, is_page_of}
use Rattle.dq_base.specs.Applying.{replaced}
use Rattle.dq_base.proofs.FileBytes.{length-resized, get_or-resized, length-page_from, get_or-page_from, length-replaced, get_or-replaced_inside, get_or-replaced_before, get_or-replaced_after}
use Rattle.page_store.specs.Laying.{length_of, length_at, no_lengths, put_one, laid_one, laid, IsLeast}
use Rattle.page_store.specs.Log.{Log, IsSized, PageOfBase}
use Rattle.page_store.proofs.LaidSets.{laid-append}
use Rattle.page_store.proofs.LeastLengths.{some_below}

-- ---- one frame

-- the page of this file, if it is one, doesn't lie over the byte
abbrev Apart : ℕ → NumberedPage → ℕ → Type 0
Apart parity p i = is_page_of parity p.number ≡ true → (i < page_start p.number) ⊎ (page_start p.number + 4096 ≤ i)

length-put : (mine : Bool) (p : NumberedPage) (file : List ℕ) → IsSized p → length (put_one mine p file) ≡ length file
length-put true p file size = length-replaced file (page_start p.number) p.page size
length-put false p file size = refl

pub length-laid_one : (parity : ℕ) (p : NumberedPage) (l : Lengths) (file : List ℕ) → IsSized p → length (laid_one parity p l file) ≡ length_of parity l
length-laid_one parity p l file size = length-put (is_page_of parity p.number) p (resized (length_of parity l) file) size ∙ length-resized (length_of parity l) file

put_apart : (mine : Bool) (p : NumberedPage) (file : List ℕ) (i : ℕ) → IsSized p → (mine ≡ true → (i < page_start p.number) ⊎ (page_start p.number + 4096 ≤ i)) → i < length file → get_or (put_one mine p file) i 0 ≡ get_or file i 0
put_apart false p file i size apart inside = refl
put_apart true p file i size apart inside = elim (apart refl) [
  | inl before ↦ get_or-replaced_before file (page_start p.number) p.page i before inside
  | inr after ↦ get_or-replaced_after file (page_start p.number) p.page i size after inside
]

byte_kept : (parity : ℕ) (p : NumberedPage) (l : Lengths) (file : List ℕ) (i : ℕ) → IsSized p → Apart parity p i → i < length_of parity l → get_or (laid_one parity p l file) i 0 ≡ get_or file i 0
byte_kept parity p l file i size apart inside =
    let n : ℕ = length_of parity l in
    let len : length (resized n file) ≡ n = length-resized n file in
    put_apart (is_page_of parity p.number) p (resized n file) i size apart (omega arith) ∙ get_or-resized n file i inside

byte_cut : (parity : ℕ) (p : NumberedPage) (l : Lengths) (file : List ℕ) (i : ℕ) → IsSized p → length_of parity l ≤ i → get_or (laid_one parity p l file) i 0 ≡ 0
byte_cut parity p l file i size past = let len = length-laid_one parity p l file size in get_or_past (laid_one parity p l file) i 0 (omega arith)

byte_zero : (parity : ℕ) (p : NumberedPage) (l : Lengths) (file : List ℕ) (i : ℕ) → IsSized p → Apart parity p i → get_or file i 0 ≡ 0 → get_or (laid_one parity p l file) i 0 ≡ 0
byte_zero parity p l file i size apart none = elim (cases_lt i (length_of parity l)) [
  | inl inside ↦ byte_kept parity p l file i size apart inside ∙ none
  | inr past ↦ byte_cut parity p l file i size past
]

byte_put : (parity : ℕ) (p : NumberedPage) (l : Lengths) (file : List ℕ) (j : ℕ) → IsSized p → is_page_of parity p.number ≡ true → j < 4096 → page_start p.number + j < length_of parity l
    → get_or (laid_one parity p l file) (page_start p.number + j) 0 ≡ get_or p.page j 0
byte_put parity p l file j size mine lt inside =
    let n : ℕ = length_of parity l in
    let len : length (resized n file) ≡ n = length-resized n file in
    ap (λ (f : List ℕ). get_or f (page_start p.number + j) 0) (cond-true (is_page_of parity p.number) (replaced (resized n file) (page_start p.number) p.page) (resized n file) mine)
    ∙ get_or-replaced_inside (resized n file) (page_start p.number) p.page j size lt (omega arith)

-- pages of one file with other numbers don't lie over each other
pub apart_from : (parity number i : ℕ) (p : NumberedPage) → is_page_of parity number ≡ true → (p.number ≡ number → ⊥) → page_start number ≤ i → i < page_start number + 4096 → Apart parity p i
apart_from parity number i p mine other from to is =
    let a = and_parts (ltb 1 p.number) (eqb (p.number % 2) parity) is in
    let b = and_parts (ltb 1 number) (eqb (number % 2) parity) mine in
    let a_above : 1 < p.number = ltb-true 1 p.number a.0 in
    let b_above : 1 < number = ltb-true 1 number b.0 in
    let a_is : p.number % 2 ≡ parity = eqb-true (p.number % 2) parity a.1 in
    let b_is : number % 2 ≡ parity = eqb-true (number % 2) parity b.1 in
    elim (cases_lt p.number number) [
      | inl below ↦ inr (omega arith)
      | inr not_below ↦ elim (cases_lt number p.number) [
        | inl above ↦ inl (omega arith)
        | inr not_above ↦ absurd (other (omega arith))
      ]
    ]

-- ---- frames in order

all_at : (ps : List NumberedPage) (i : ℕ) (d : NumberedPage) → AllByRecursion IsSized ps → i < length ps → IsSized (get_or ps i d)
all_at [] i d h lt = absurd (omega arith)
all_at (p ∷ ps) zero d h lt = h.0
all_at (p ∷ ps) (suc i) d h lt = all_at ps i d h.1 (omega arith)

-- a file after the first n frames
abbrev pub after_frames : ℕ → List NumberedPage → List Lengths → List ℕ → ℕ → List ℕ
after_frames parity pages lengths file n = laid parity (take n pages) (take n lengths) file

pub laid_more : (parity : ℕ) (pages : List NumberedPage) (lengths : List Lengths) (file : List ℕ) (n : ℕ) (d : NumberedPage) → n < length pages → n < length lengths
    → after_frames parity pages lengths file (n + 1) ≡ laid_one parity (get_or pages n d) (get_or lengths n no_lengths) (after_frames parity pages lengths file n)
laid_more parity pages lengths file n d in_pages in_lengths =
    let same : length (take n pages) ≡ length (take n lengths) = length-take-le n pages (omega arith) ∙ sym (length-take-le n lengths (omega arith)) in
    ap (λ (ps : List NumberedPage). laid parity ps (take (n + 1) lengths) file) (take_more pages n d in_pages)
    ∙ ap (λ (ls : List Lengths). laid parity (take n pages ++ get_or pages n d ∷ []) ls file) (take_more lengths n no_lengths in_lengths)
    ∙ laid-append parity (take n pages) (get_or pages n d ∷ []) (take n lengths) (get_or lengths n no_lengths ∷ []) file same

-- the frames of a log, of which those from one place to another don't lie over a byte
pub record Quiet (parity : ℕ) (pages : List NumberedPage) (lengths : List Lengths) (from to i : ℕ) (d : NumberedPage) : Type 0 where
  pub in_pages : to ≤ length pages
  pub in_lengths : to ≤ length lengths
  pub sized : AllByRecursion IsSized pages
  pub apart : (j : ℕ) → from ≤ j → j < to → Apart parity (get_or pages j d) i

quiet_from : (parity : ℕ) (pages : List NumberedPage) (lengths : List Lengths) (from later to i : ℕ) (d : NumberedPage) → from ≤ later → Quiet parity pages lengths from to i d → Quiet parity pages lengths later to i d
quiet_from parity pages lengths from later to i d le q = record { in_pages = q.in_pages; in_lengths = q.in_lengths; sized = q.sized; apart = λ j after before. q.apart j (omega arith) before }

kept_by : (parity : ℕ) (pages : List NumberedPage) (lengths : List Lengths) (file : List ℕ) (from n to i : ℕ) (d : NumberedPage) → Quiet parity pages lengths from to i d → from + n ≤ to
    → ((j : ℕ) → from ≤ j → j < to → i < length_at parity lengths j) → get_or (after_frames parity pages lengths file (from + n)) i 0 ≡ get_or (after_frames parity pages lengths file from) i 0
kept_by parity pages lengths file from zero to i d q le long = ap (λ (k : ℕ). get_or (after_frames parity pages lengths file k) i 0) (add-zero from)
kept_by parity pages lengths file from (suc n) to i d q le long =
    let k : ℕ = from + n in
    let next : from + suc n ≡ k + 1 = omega arith in
    let p : to ≤ length pages = q.in_pages in
    let l : to ≤ length lengths = q.in_lengths in
    ap (λ (m : ℕ). get_or (after_frames parity pages lengths file m) i 0) next
    ∙ ap (λ (f : List ℕ). get_or f i 0) (laid_more parity pages lengths file k d (omega arith) (omega arith))
    ∙ byte_kept parity (get_or pages k d) (get_or lengths k no_lengths) (after_frames parity pages lengths file k) i (all_at pages k d q.sized (omega arith)) (q.apart k (omega arith) (omega arith)) (long k (omega arith) (omega arith))
    ∙ kept_by parity pages lengths file from n to i d q (omega arith) long

zero_by : (parity : ℕ) (pages : List NumberedPage) (lengths : List Lengths) (file : List ℕ) (from n to i : ℕ) (d : NumberedPage) → Quiet parity pages lengths from to i d → from + n ≤ to
    → get_or (after_frames parity pages lengths file from) i 0 ≡ 0 → get_or (after_frames parity pages lengths file (from + n)) i 0 ≡ 0
zero_by parity pages lengths file from zero to i d q le none = ap (λ (k : ℕ). get_or (after_frames parity pages lengths file k) i 0) (add-zero from) ∙ none
zero_by parity pages lengths file from (suc n) to i d q le none =
    let k : ℕ = from + n in
    let next : from + suc n ≡ k + 1 = omega arith in
    let p : to ≤ length pages = q.in_pages in
    let l : to ≤ length lengths = q.in_lengths in
    ap (λ (m : ℕ). get_or (after_frames parity pages lengths file m) i 0) next
    ∙ ap (λ (f : List ℕ). get_or f i 0) (laid_more parity pages lengths file k d (omega arith) (omega arith))
    ∙ byte_zero parity (get_or pages k d) (get_or lengths k no_lengths) (after_frames parity pages lengths file k) i (all_at pages k d q.sized (omega arith)) (q.apart k (omega arith) (omega arith))
    (zero_by parity pages lengths file from n to i d q (omega arith) none)

-- a byte past the length at some frame is zero from then on
cut_then_zero : (parity : ℕ) (pages : List NumberedPage) (lengths : List Lengths) (file : List ℕ) (at to i : ℕ) (d : NumberedPage) → at < to → Quiet parity pages lengths (at + 1) to i d → length_at parity lengths at ≤ i
    → get_or (after_frames parity pages lengths file to) i 0 ≡ 0
cut_then_zero parity pages lengths file at to i d before q past =
    let p : to ≤ length pages = q.in_pages in
    let l : to ≤ length lengths = q.in_lengths in
    let end : at + 1 + (to - (at + 1)) ≡ to = omega arith in
    ap (λ (m : ℕ). get_or (after_frames parity pages lengths file m) i 0) (sym end)
    ∙ zero_by parity pages lengths file (at + 1) (to - (at + 1)) to i d q (omega arith)
    (ap (λ (f : List ℕ). get_or f i 0) (laid_more parity pages lengths file at d (omega arith) (omega arith))
    ∙ byte_cut parity (get_or pages at d) (get_or lengths at no_lengths) (after_frames parity pages lengths file at) i (all_at pages at d q.sized (omega arith)) past)

keep_to : (parity : ℕ) (pages : List NumberedPage) (lengths : List Lengths) (file : List ℕ) (from to i : ℕ) (d : NumberedPage) → from ≤ to → Quiet parity pages lengths from to i d
    → ((j : ℕ) → from ≤ j → j < to → i < length_at parity lengths j) → get_or (after_frames parity pages lengths file to) i 0 ≡ get_or (after_frames parity pages lengths file from) i 0
keep_to parity pages lengths file from to i d le q long =
    let end : from + (to - from) ≡ to = omega arith in
    ap (λ (m : ℕ). get_or (after_frames parity pages lengths file m) i 0) (sym end) ∙ kept_by parity pages lengths file from (to - from) to i d q (omega arith) long

-- ---- the page of a frame

pub record LastFrame (parity : ℕ) (pages : List NumberedPage) (lengths : List Lengths) (frame count number : ℕ) (d : NumberedPage) : Type 0 where
  pub before : frame < count
  pub in_pages : count ≤ length pages
  pub in_lengths : count ≤ length lengths
  pub sized : AllByRecursion IsSized pages
  pub mine : is_page_of parity number ≡ true
  pub number_is : (get_or pages frame d).number ≡ number
  pub none_after : (j : ℕ) → frame + 1 ≤ j → j < count → (get_or pages j d).number ≡ number → ⊥

quiet_after : (parity : ℕ) (pages : List NumberedPage) (lengths : List Lengths) (frame count number i : ℕ) (d : NumberedPage) → LastFrame parity pages lengths frame count number d → page_start number ≤ i → i < page_start number + 4096
    → Quiet parity pages lengths (frame + 1) count i d
quiet_after parity pages lengths frame count number i d last from to = record {
  in_pages = last.in_pages;
  in_lengths = last.in_lengths;
  sized = last.sized;
  apart = λ j after before. apart_from parity number i (get_or pages j d) last.mine (last.none_after j after before) from to;
}

frame_byte : (parity : ℕ) (pages : List NumberedPage) (lengths : List Lengths) (file : List ℕ) (frame count number least j : ℕ) (d : NumberedPage) → LastFrame parity pages lengths frame count number d → IsLeast parity lengths frame (count - 1) least → j < 4096
    → page_start number + j < least → get_or (after_frames parity pages lengths file count) (page_start number + j) 0 ≡ get_or (get_or pages frame d).page j 0
frame_byte parity pages lengths file frame count number least j d last is lt inside =
    let i : ℕ = page_start number + j in
    let p : NumberedPage = get_or pages frame d in
    let l : Lengths = get_or lengths frame no_lengths in
    let bc : frame < count = last.before in
    let bp : count ≤ length pages = last.in_pages in
    let bl : count ≤ length lengths = last.in_lengths in
    let long = (is (i + 1)).0 (omega arith) in
    let here : i + 1 ≤ length_at parity lengths frame = long frame (omega arith) (omega arith) in
    let same : page_start p.number + j ≡ i = ap (λ (n : ℕ). page_start n + j) last.number_is in
    keep_to parity pages lengths file (frame + 1) count i d (omega arith) (quiet_after parity pages lengths frame count number i d last (omega arith) (omega arith)) (λ k after before. let h : i + 1 ≤ length_at parity lengths k = long k (omega arith) (omega arith) in omega arith)
    ∙ ap (λ (f : List ℕ). get_or f i 0) (laid_more parity pages lengths file frame d (omega arith) (omega arith))
    ∙ ap (λ (k : ℕ). get_or (laid_one parity p l (after_frames parity pages lengths file frame)) k 0) (sym same)
    ∙ byte_put parity p l (after_frames parity pages lengths file frame) j (all_at pages frame d last.sized (omega arith)) (ap (is_page_of parity) last.number_is ∙ last.mine) lt (omega arith)

frame_zero : (parity : ℕ) (pages : List NumberedPage) (lengths : List Lengths) (file : List ℕ) (frame count number least j : ℕ) (d : NumberedPage) → LastFrame parity pages lengths frame count number d → IsLeast parity lengths frame (count - 1) least → j < 4096
    → least ≤ page_start number + j → get_or (after_frames parity pages lengths file count) (page_start number + j) 0 ≡ 0
frame_zero parity pages lengths file frame count number least j d last is lt past =
    let i : ℕ = page_start number + j in
    let bc : frame < count = last.before in
    let some = some_below (length_at parity lengths) frame (count - 1) least (i + 1) (omega arith) is (omega arith) in
    let after : frame ≤ some.0 = some.1 in
    let before : some.0 ≤ count - 1 = some.2 in
    let cut : length_at parity lengths some.0 < i + 1 = some.3 in
    cut_then_zero parity pages lengths file some.0 count i d (omega arith)
    (quiet_from parity pages lengths (frame + 1) (some.0 + 1) count i d (omega arith) (quiet_after parity pages lengths frame count number i d last (omega arith) (omega arith)))
    (omega arith)

pub frame_page : (parity : ℕ) (pages : List NumberedPage) (lengths : List Lengths) (file : List ℕ) (frame count number least : ℕ) (d : NumberedPage) → LastFrame parity pages lengths frame count number d → IsLeast parity lengths frame (count - 1) least
    → page_from (after_frames parity pages lengths file count) (page_start number) ≡ resized 4096 (take (least - page_start number) (get_or pages frame d).page)
frame_page parity pages lengths file frame count number least d last is =
    let start : ℕ = page_start number in
    let after : List ℕ = after_frames parity pages lengths file count in
    let bytes : List ℕ = take (least - start) (get_or pages frame d).page in
    let len : length (page_from after start) ≡ 4096 = length-page_from after start in
    ext_get_or 0 (page_from after start) (resized 4096 bytes) (len ∙ sym (length-resized 4096 bytes)) (λ j in_page.
    let lt : j < 4096 = omega arith in
    get_or-page_from after start j lt ∙ each j lt ∙ sym (get_or-resized 4096 bytes j lt))
  where
    each : (j : ℕ) → j < 4096 → get_or (after_frames parity pages lengths file count) (page_start number + j) 0 ≡ get_or (take (least - page_start number) (get_or pages frame d).page) j 0
    each j lt = elim (cases_lt (page_start number + j) least) [
      | inl inside ↦ frame_byte parity pages lengths file frame count number least j d last is lt inside ∙ sym (get_or-take (least - page_start number) (get_or pages frame d).page j 0 (omega arith))
      | inr past ↦ frame_zero parity pages lengths file frame count number least j d last is lt past
          ∙ sym (get_or_past (take (least - page_start number) (get_or pages frame d).page) j 0 (omega (arith, length-take (least - page_start number) (get_or pages frame d).page)))
    ]

-- ---- the page of a base without a frame

pub record NoFrame (parity : ℕ) (pages : List NumberedPage) (lengths : List Lengths) (count number : ℕ) (d : NumberedPage) : Type 0 where
  pub in_pages : count ≤ length pages
  pub in_lengths : count ≤ length lengths
  pub sized : AllByRecursion IsSized pages
  pub mine : is_page_of parity number ≡ true
  pub none : (j : ℕ) → j < count → (get_or pages j d).number ≡ number → ⊥

quiet_base : (parity : ℕ) (pages : List NumberedPage) (lengths : List Lengths) (count number i : ℕ) (d : NumberedPage) → NoFrame parity pages lengths count number d → page_start number ≤ i → i < page_start number + 4096
    → Quiet parity pages lengths 0 count i d
quiet_base parity pages lengths count number i d base from to = record {
  in_pages = base.in_pages;
  in_lengths = base.in_lengths;
  sized = base.sized;
  apart = λ j after before. apart_from parity number i (get_or pages j d) base.mine (base.none j before) from to;
}

base_byte : (parity : ℕ) (log : Log) (file page : List ℕ) (count number j : ℕ) (d : NumberedPage) → NoFrame parity log.pages log.lengths count number d → (of_base : PageOfBase log file count parity (page_start number) page) → j < 4096
    → page_start number + j < of_base.end → get_or (after_frames parity log.pages log.lengths file count) (page_start number + j) 0 ≡ get_or file (page_start number + j) 0
base_byte parity log file page count number j d base of_base lt inside =
    keep_to parity log.pages log.lengths file 0 count (page_start number + j) d (omega arith) (quiet_base parity log.pages log.lengths count number (page_start number + j) d base (omega arith) (omega arith)) long
  where
    long : (k : ℕ) → 0 ≤ k → k < count → page_start number + j < length_at parity log.lengths k
    long k from before =
        let l = of_base.least (omega arith) in
        let end : of_base.end ≡ min (length file) l.0 = l.2 in
        let h : page_start number + j + 1 ≤ length_at parity log.lengths k = (l.1 (page_start number + j + 1)).0 (omega arith) k from (omega arith) in
        omega arith

base_zero : (parity : ℕ) (log : Log) (file page : List ℕ) (count number j : ℕ) (d : NumberedPage) → NoFrame parity log.pages log.lengths count number d → (of_base : PageOfBase log file count parity (page_start number) page) → j < 4096
    → of_base.end ≤ page_start number + j → get_or (after_frames parity log.pages log.lengths file count) (page_start number + j) 0 ≡ 0
base_zero parity log file page count number j d base of_base lt past =
    elim (cases_lt (page_start number + j) (length file)) [
      | inr outside ↦ past_file outside
      | inl inside ↦ elim (cases_lt 0 count) [
        | inr none ↦ let zero_count : count ≡ 0 = omega arith in let whole : of_base.end ≡ length file = of_base.none zero_count in absurd (omega arith)
        | inl some ↦ cut some inside
      ]
    ]
  where
    quiet : Quiet parity log.pages log.lengths 0 count (page_start number + j) d
    quiet = quiet_base parity log.pages log.lengths count number (page_start number + j) d base (omega arith) (omega arith)

    past_file : length file ≤ page_start number + j → get_or (after_frames parity log.pages log.lengths file count) (page_start number + j) 0 ≡ 0
    past_file outside =
        ap (λ (m : ℕ). get_or (after_frames parity log.pages log.lengths file m) (page_start number + j) 0) (sym (zero-add count))
        ∙ zero_by parity log.pages log.lengths file 0 count count (page_start number + j) d quiet (omega arith) (get_or_past file (page_start number + j) 0 outside)

    cut : 0 < count → page_start number + j < length file → get_or (after_frames parity log.pages log.lengths file count) (page_start number + j) 0 ≡ 0
    cut some inside =
        let l = of_base.least some in
        let end : of_base.end ≡ min (length file) l.0 = l.2 in
        let below = some_below (length_at parity log.lengths) 0 (count - 1) l.0 (page_start number + j + 1) (omega arith) l.1 (omega arith) in
        let to : below.0 ≤ count - 1 = below.2 in
        let short : length_at parity log.lengths below.0 < page_start number + j + 1 = below.3 in
        cut_then_zero parity log.pages log.lengths file below.0 count (page_start number + j) d (omega arith) (quiet_from parity log.pages log.lengths 0 (below.0 + 1) count (page_start number + j) d (omega arith) quiet) (omega arith)

pub base_page : (parity : ℕ) (log : Log) (file page : List ℕ) (count number : ℕ) (d : NumberedPage) → NoFrame parity log.pages log.lengths count number d → PageOfBase log file count parity (page_start number) page
    → page ≡ page_from (after_frames parity log.pages log.lengths file count) (page_start number)
base_page parity log file page count number d base of_base =
    let start : ℕ = page_start number in
    let after : List ℕ = after_frames parity log.pages log.lengths file count in
    let cut : List ℕ = take of_base.end file in
    let len : length (page_from after start) ≡ 4096 = length-page_from after start in
    of_base.bytes
    ∙ sym (ext_get_or 0 (page_from after start) (page_from cut start) (len ∙ sym (length-page_from cut start)) (λ j in_page.
    let lt : j < 4096 = omega arith in
    get_or-page_from after start j lt ∙ each j lt ∙ sym (get_or-page_from cut start j lt)))
  where
    each : (j : ℕ) → j < 4096 → get_or (after_frames parity log.pages log.lengths file count) (page_start number + j) 0 ≡ get_or (take of_base.end file) (page_start number + j) 0
    each j lt = elim (cases_lt (page_start number + j) of_base.end) [
      | inl inside ↦ base_byte parity log file page count number j d base of_base lt inside ∙ sym (get_or-take of_base.end file (page_start number + j) 0 inside)
      | inr past ↦ base_zero parity log file page count number j d base of_base lt past
          ∙ sym (get_or_past (take of_base.end file) (page_start number + j) 0 (omega (arith, length-take of_base.end file)))
    ]

-- ---- how long the file is

pub length-after : (parity : ℕ) (pages : List NumberedPage) (lengths : List Lengths) (file : List ℕ) (n : ℕ) (d : NumberedPage) → n < length pages → n < length lengths → AllByRecursion IsSized pages
    → length (after_frames parity pages lengths file (n + 1)) ≡ length_at parity lengths n
length-after parity pages lengths file n d in_pages in_lengths sized =
    ap length (laid_more parity pages lengths file n d in_pages in_lengths)
    ∙ length-laid_one parity (get_or pages n d) (get_or lengths n no_lengths) (after_frames parity pages lengths file n) (all_at pages n d sized in_pages)
