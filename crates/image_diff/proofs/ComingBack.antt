-- Pages that were applied to an image come off it again.
use Rattle.std.proofs.Common.{◌≡◌, ℕ, ◌+◌, ◌<◌, ◌≤◌, ◌⊎◌, min, Bool, true, false, cond, ltb, List, [], ◌∷◌, ◌++◌, length, get_or, take, drop, Option, Some, None, Ok, Err, OnOk, OnErr, refl, sym, ap, subst, ◌∙◌, append_assoc, append-nil, arith, inl, inr}
use Rattle.std.specs.Prelude.{Result}
use Rattle.std.specs.List.{AllByRecursion}
use Rattle.std.proofs.lemmas.Bool.{cases_lt, cases_Bool, cond-true, cond-false, and_parts, leb-true, lt-ltb, ltb-true}
use Rattle.std.proofs.lemmas.List.{ext_get_or, length-take, get_or-take, at_drop_more, at_drop_all}
use Rattle.dq_base.specs.declared.images.Image.{Image}
use Rattle.dq_base.specs.declared.pages.NumberedPage.{NumberedPage}
use Rattle.dq_base.specs.declared.sizes.Lengths.{Lengths}
use Rattle.dq_base.specs.Images.{resized, page_from, page_start, is_main, is_side, file_of, page_at, lengths_of}
use Rattle.dq_base.specs.Changes.{changed, changed_page, changed_from, numbers_above_one, sizes_of, same_image}
use Rattle.dq_base.specs.Applying.{replaced, put_pages, applied, StateLengths}
use Rattle.dq_base.proofs.FileBytes.{length-resized, get_or-resized, length-page_from, length-replaced, get_or-replaced_before, get_or-replaced_after}
use Rattle.dq_base.proofs.PutPages.{SomeOf, SomeOf-append_left, SomeOf-append_right, All-append, Shows, Covers, length-put_pages, get_or-put_pages}
use Rattle.dq_base.proofs.ChangedPages.{numbered, page_at_inside, page_at_is, changed_from_all}
use Rattle.dq_base.proofs.ChangeLaw.{file_of_main, file_of_side, page_shows, length-sizes_page, same_images}
use Rattle.image_diff.specs.declared.undoing.Undo.{Undo}
use Rattle.image_diff.specs.declared.undoing.Undo.TheVariants as undoes
use Rattle.image_diff.specs.Undoing.{IsChange, page_under, pages_under, is_within, undo_of, cut_back, undone, all_undone}

-- each has 4,096 bytes
abbrev pub AreWhole : List NumberedPage → Type 0
AreWhole pages = AllByRecursion (λ p. length p.page ≡ 4096) pages

-- ---- one file

-- a byte after one page was put into a file: the page lies over it, or it stayed
after_page : (mine : ℕ → Bool) (p : NumberedPage) (file : List ℕ) (i : ℕ) → length p.page ≡ 4096 → i < length file
    → Covers mine i p ⊎ (get_or (cond (mine p.number) (replaced file (page_start p.number) p.page) file) i 0 ≡ get_or file i 0)
after_page mine p file i size inside =
    elim (cases_Bool (mine p.number)) [
      | inr other ↦ inr (ap (λ (f : List ℕ). get_or f i 0) (cond-false (mine p.number) (replaced file (page_start p.number) p.page) file other))
      | inl own ↦
          let is : cond (mine p.number) (replaced file (page_start p.number) p.page) file ≡ replaced file (page_start p.number) p.page = cond-true (mine p.number) (replaced file (page_start p.number) p.page) file own in
          elim (cases_lt i (page_start p.number)) [
            | inl before ↦ inr (ap (λ (f : List ℕ). get_or f i 0) is ∙ get_or-replaced_before file (page_start p.number) p.page i before inside)
            | inr from ↦ elim (cases_lt i (page_start p.number + 4096)) [
              | inl to ↦ inl (record { is_mine = own; from = from; to = to })
              | inr after ↦ inr (ap (λ (f : List ℕ). get_or f i 0) is ∙ get_or-replaced_after file (page_start p.number) p.page i size after inside)
            ]
          ]
    ]

length-after_page : (mine : Bool) (start : ℕ) (page file : List ℕ) → length page ≡ 4096 → length (cond mine (replaced file start page) file) ≡ length file
length-after_page true start page file size = length-replaced file start page size
length-after_page false start page file size = refl

-- a byte after pages were put into a file: some page lies over it, or it stayed
after_pages : (mine : ℕ → Bool) (ps : List NumberedPage) (file : List ℕ) (i : ℕ) → AreWhole ps → i < length file
    → SomeOf (Covers mine i) ps ⊎ (get_or (put_pages mine ps file) i 0 ≡ get_or file i 0)
unfolding put_pages
after_pages mine [] file i whole inside = inr refl
after_pages mine (p ∷ ps) file i whole inside =
    let next : List ℕ = cond (mine p.number) (replaced file (page_start p.number) p.page) file in
    let len : length next ≡ length file = length-after_page (mine p.number) (page_start p.number) p.page file whole.0 in
    elim (after_pages mine ps next i whole.1 (omega arith)) [
      | inl later ↦ inl (inr later)
      | inr stayed ↦ elim (after_page mine p file i whole.0 inside) [
        | inl here ↦ inl (inl here)
        | inr same ↦ inr (stayed ∙ same)
      ]
    ]

sizes_shown : (mine : ℕ → Bool) (file : List ℕ) (ps : List NumberedPage) → AllByRecursion (Shows mine file) ps → AreWhole ps
sizes_shown mine file [] h = tt
sizes_shown mine file (p ∷ ps) h = (h.0.size, sizes_shown mine file ps h.1)

-- a file that is right in each byte up to the length, or has a page of it over it, comes back
cut_is : (mine : ℕ → Bool) (old : List NumberedPage) (now file : List ℕ) → length file ≤ length now → AllByRecursion (Shows mine file) old
    → ((i : ℕ) → i < length file → SomeOf (Covers mine i) old ⊎ (get_or now i 0 ≡ get_or file i 0)) → cut_back mine old (length file) now ≡ file
cut_is mine old now file long shows reason =
    let whole : List ℕ = put_pages mine old now in
    let len : length whole ≡ length now = length-put_pages mine old now (sizes_shown mine file old shows) in
    let cut : length (take (length file) whole) ≡ min (length file) (length whole) = length-take (length file) whole in
    ext_get_or 0 (take (length file) whole) file (omega arith) (λ i lt.
    let inside : i < length file = omega arith in
    get_or-take (length file) whole i 0 inside ∙ get_or-put_pages mine old now file i shows (omega arith) (reason i inside))

-- ---- the pages that lay under others

module _ (image : Image) (file : List ℕ) (mine : ℕ → Bool) (file_is : (n : ℕ) → mine n ≡ true → file_of image n ≡ file) where
  shown_at : (n : ℕ) (o : Option (List ℕ)) → 1 < n → page_at image n ≡ o → AllByRecursion (Shows mine file) (changed_page n None o)
  shown_at n None above is = tt
  shown_at n (Some page) above is = (page_shows image file mine file_is n page (omega arith) is, tt)

  shown_under : (n : ℕ) → AllByRecursion (Shows mine file) (page_under image n)
  shown_under n = elim (cases_Bool (ltb 1 n)) [
    | inl above ↦ subst (AllByRecursion (Shows mine file)) (sym (cond-true (ltb 1 n) (changed_page n None (page_at image n)) [] above)) (shown_at n (page_at image n) (ltb-true 1 n above) refl)
    | inr below ↦ subst (AllByRecursion (Shows mine file)) (sym (cond-false (ltb 1 n) (changed_page n None (page_at image n)) [] below)) tt
  ]

  pub all_shown : (ps : List NumberedPage) → AllByRecursion (Shows mine file) (pages_under image ps)
  unfolding pages_under
  all_shown [] = tt
  all_shown (p ∷ ps) = All-append (Shows mine file) (page_under image p.number) (pages_under image ps) (shown_under p.number) (all_shown ps)

  covered_at : (above : (n : ℕ) → mine n ≡ true → 1 < n) (i : ℕ) (p : NumberedPage) → i < length file → Covers mine i p → SomeOf (Covers mine i) (page_under image p.number)
  covered_at above i p inside covers =
      let n : ℕ = p.number in
      let over : 1 < n = above n covers.is_mine in
      let len : length (file_of image n) ≡ length file = ap length (file_is n covers.is_mine) in
      let from : page_start n ≤ i = covers.from in
      let page : List ℕ = page_from (file_of image n) (page_start n) in
      let is : page_at image n ≡ Some page = page_at_inside image n over (omega arith) in
      let under : page_under image n ≡ numbered n page ∷ [] = cond-true (ltb 1 n) (changed_page n None (page_at image n)) [] (lt-ltb 1 n over) ∙ ap (changed_page n None) is in
      subst (SomeOf (Covers mine i)) (sym under) (inl (record { is_mine = covers.is_mine; from = covers.from; to = covers.to }))

  pub all_covered : (above : (n : ℕ) → mine n ≡ true → 1 < n) (i : ℕ) (ps : List NumberedPage) → i < length file → SomeOf (Covers mine i) ps → SomeOf (Covers mine i) (pages_under image ps)
  unfolding pages_under
  all_covered above i [] inside h = absurd h
  all_covered above i (p ∷ ps) inside (inl here) = SomeOf-append_left (Covers mine i) (page_under image p.number) (pages_under image ps) (covered_at above i p inside here)
  all_covered above i (p ∷ ps) inside (inr later) = SomeOf-append_right (Covers mine i) (page_under image p.number) (pages_under image ps) (all_covered above i ps inside later)

  -- the file comes back from where pages were applied
  pub file_back : (above : (n : ℕ) → mine n ≡ true → 1 < n) (ps : List NumberedPage) (n : ℕ) → AreWhole ps → length file ≤ n → cut_back mine (pages_under image ps) (length file) (put_pages mine ps (resized n file)) ≡ file
  file_back above ps n whole long =
      let grown : List ℕ = resized n file in
      let grown_len : length grown ≡ n = length-resized n file in
      let now : List ℕ = put_pages mine ps grown in
      let len : length now ≡ length grown = length-put_pages mine ps grown whole in
      cut_is mine (pages_under image ps) now file (omega arith) (all_shown ps) (λ i inside.
      elim (after_pages mine ps grown i whole (omega arith)) [
        | inl over ↦ inl (all_covered above i ps inside over)
        | inr stayed ↦ inr (stayed ∙ get_or-resized n file i (omega arith))
      ])

  -- and it stays where none were
  pub file_stays : (ps : List NumberedPage) → cut_back mine (pages_under image ps) (length file) file ≡ file
  file_stays ps = cut_is mine (pages_under image ps) file file (omega arith) (all_shown ps) (λ i inside. inr refl)

-- ---- the whole image

above_main : (n : ℕ) → is_main n ≡ true → 1 < n
above_main n h = ltb-true 1 n (and_parts (ltb 1 n) _ h).0

above_side : (n : ℕ) → is_side n ≡ true → 1 < n
above_side n h = ltb-true 1 n (and_parts (ltb 1 n) _ h).0

whole_pages : (a b : Image) → AreWhole (changed a b)
unfolding changed
whole_pages a b =
    let front : List NumberedPage = changed_from 2 (numbers_above_one b) a b in
    let of_front : AreWhole front = changed_from_all (λ p. length p.page ≡ 4096) 2 (numbers_above_one b) a b (λ m page above is. ap length (page_at_is b m page (omega arith) is).0 ∙ length-page_from (file_of b m) (page_start m)) in
    elim (same_image a b) as (λ (t : Bool). AreWhole (cond t [] (front ++ sizes_of b ∷ []))) [
      | true ↦ tt
      | false ↦ All-append (λ p. length p.page ≡ 4096) front (sizes_of b ∷ []) of_front (length-sizes_page (length b.main) (length b.side), tt)
    ]

pub are_whole : (from : Image) (pages : List NumberedPage) → IsChange from pages → AreWhole pages
are_whole from pages change = subst AreWhole (sym change.all) (whole_pages from change.to)

pub comes_back : (from : Image) (pages : List NumberedPage) (lengths : Lengths) → IsChange from pages → StateLengths pages lengths.main lengths.side → undone (undo_of from pages lengths) (applied from pages) ≡ from
comes_back from pages lengths change states =
    elim (cases_Bool (is_within from lengths)) [
      | inl within ↦
          let whole : AreWhole pages = are_whole from pages change in
          let both = and_parts _ _ within in
          let main_long : length from.main ≤ lengths.main = leb-true _ _ both.0 in
          let side_long : length from.side ≤ lengths.side = leb-true _ _ both.1 in
          ap (λ (u : Undo). undone u (applied from pages)) (cond-true (is_within from lengths) (undoes.Pages (lengths_of from) (pages_under from pages)) (undoes.Whole from) within)
          ∙ ap (undone (undoes.Pages (lengths_of from) (pages_under from pages))) (states from)
          ∙ same_images _ from (file_back from from.main is_main (file_of_main from) above_main pages lengths.main whole main_long) (file_back from from.side is_side (file_of_side from) above_side pages lengths.side whole side_long)
      | inr shorter ↦ ap (λ (u : Undo). undone u (applied from pages)) (cond-false (is_within from lengths) (undoes.Pages (lengths_of from) (pages_under from pages)) (undoes.Whole from) shorter)
    ]

pub stays : (from : Image) (pages : List NumberedPage) (lengths : Lengths) → undone (undo_of from pages lengths) from ≡ from
stays from pages lengths =
    elim (cases_Bool (is_within from lengths)) [
      | inl within ↦
          ap (λ (u : Undo). undone u from) (cond-true (is_within from lengths) (undoes.Pages (lengths_of from) (pages_under from pages)) (undoes.Whole from) within)
          ∙ same_images _ from (file_stays from from.main is_main (file_of_main from) pages) (file_stays from from.side is_side (file_of_side from) pages)
      | inr shorter ↦ ap (λ (u : Undo). undone u from) (cond-false (is_within from lengths) (undoes.Pages (lengths_of from) (pages_under from pages)) (undoes.Whole from) shorter)
    ]

-- one more that takes the image back a step
pub undone_more : (undos : List Undo) (undo : Undo) (image : Image) → all_undone (undos ++ undo ∷ []) image ≡ all_undone undos (undone undo image)
unfolding all_undone
undone_more [] undo image = refl
undone_more (u ∷ us) undo image = ap (undone u) (undone_more us undo image)

-- an entry is noted and its pages are applied, or not: the image comes back all the same
pub noted : {X E : Type 0} (undos items : List Undo) (undo : Undo) (from to : Image) (pages : List NumberedPage) (lengths : Lengths) (result : Result X E) → IsChange from pages → StateLengths pages lengths.main lengths.side
    → items ≡ undos ++ undo ∷ [] → undo ≡ undo_of from pages lengths → OnOk result (to ≡ applied from pages) → OnErr result (to ≡ from) → all_undone items to ≡ all_undone undos from
noted undos items undo from to pages lengths (Ok x) change states more is done kept =
    ap (λ (us : List Undo). all_undone us to) more ∙ undone_more undos undo to
    ∙ ap (all_undone undos) (ap (λ (u : Undo). undone u to) is ∙ ap (undone (undo_of from pages lengths)) done ∙ comes_back from pages lengths change states)
noted undos items undo from to pages lengths (Err e) change states more is done kept =
    ap (λ (us : List Undo). all_undone us to) more ∙ undone_more undos undo to
    ∙ ap (all_undone undos) (ap (λ (u : Undo). undone u to) is ∙ ap (undone (undo_of from pages lengths)) kept ∙ stays from pages lengths)

-- the last entry comes off
pub popped : (all rest : List Undo) (undo : Undo) (now after first : Image) → all ≡ rest ++ undo ∷ [] → after ≡ undone undo now → all_undone all now ≡ first → all_undone rest after ≡ first
popped all rest undo now after first last is so_far =
    ap (all_undone rest) is ∙ sym (undone_more rest undo now) ∙ ap (λ (us : List Undo). all_undone us now) (sym last) ∙ so_far

pub none_left : (all : List Undo) (now first : Image) → all ≡ [] → all_undone all now ≡ first → now ≡ first
unfolding all_undone
none_left all now first none so_far = ap (λ (us : List Undo). all_undone us now) (sym none) ∙ so_far

-- ---- gathering the pages that lie under others

pub under_more : (image : Image) (made grown : List NumberedPage) (ps : List NumberedPage) (i : ℕ) (p : NumberedPage) (all : List NumberedPage) → i < length ps → p ≡ get_or ps i p → grown ≡ made ++ page_under image p.number
    → made ++ pages_under image (drop i ps) ≡ all → grown ++ pages_under image (drop (i + 1) ps) ≡ all
unfolding pages_under
under_more image made grown ps i p all at is step so_far =
    let next : pages_under image (drop i ps) ≡ pages_under image (p ∷ drop (i + 1) ps) = at_drop_more (pages_under image) ps i p at ∙ ap (λ (q : NumberedPage). pages_under image (q ∷ drop (i + 1) ps)) (sym is) in
    ap (λ (made : List NumberedPage). made ++ pages_under image (drop (i + 1) ps)) step
    ∙ append_assoc made (page_under image p.number) (pages_under image (drop (i + 1) ps))
    ∙ ap (λ (more : List NumberedPage). made ++ more) (sym next)
    ∙ so_far

pub under_all : (image : Image) (made : List NumberedPage) (ps : List NumberedPage) (i : ℕ) (all : List NumberedPage) → length ps ≤ i → made ++ pages_under image (drop i ps) ≡ all → made ≡ all
unfolding pages_under
under_all image made ps i all past so_far =
    sym (append-nil made) ∙ ap (λ (more : List NumberedPage). made ++ more) (sym (at_drop_all (pages_under image) ps i past)) ∙ so_far

-- what was put back is the first image
pub back : (undos none : List Undo) (from to now : Image) → now ≡ all_undone undos to → all_undone undos to ≡ all_undone none from → none ≡ [] → now ≡ from
unfolding all_undone
back undos none from to now is kept empty = is ∙ kept ∙ ap (λ (us : List Undo). all_undone us from) empty
