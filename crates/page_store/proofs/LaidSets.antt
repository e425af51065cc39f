-- Laying the pages of whole sets, each page with its set's lengths, is applying the sets in order.
use Rattle.std.proofs.Common.{◌≡◌, ℕ, ◌-◌, Bool, true, false, List, [], ◌∷◌, ◌++◌, length, map, take, drop, replicate, refl, sym, ap, ◌∙◌, subst, append-nil, arith}
use Rattle.std.specs.List.{AllByRecursion, flat_map}
use Rattle.std.proofs.lemmas.Grind.{flat_map-append}
use Rattle.std.proofs.lemmas.List.{length-map, length_push, length-take-le, take_at, drop_at, take_all, take-append-drop}
use Rattle.dq_base.specs.declared.images.Image.{Image}
use Rattle.dq_base.specs.declared.pages.NumberedPage.{NumberedPage}
use Rattle.dq_base.specs.declared.sizes.Lengths.{Lengths}
use Rattle.dq_base.specs.Images.{resized, zeros, page_start, is_page_of}
use Rattle.dq_base.specs.Applying.{put_pages, applied, lengths_in}
use Rattle.dq_base.proofs.FileBytes.{length-resized, length-replaced}
use Rattle.page_store.specs.Store.{after_sets, view}
use Rattle.page_store.specs.Sets.{sets_of, lengths_of_set}
use Rattle.page_store.specs.Laying.{length_of, put_one, laid_one, laid}
use Rattle.page_store.specs.Log.{Log, laid_image, IsSized}
use Rattle.page_store.specs.Holding.{IsSoundSet, IsEnd}
use Rattle.page_store.proofs.SetLists.{cut_sets, first_sets, lengths_of_sets, sets_joined}
use Rattle.page_store.proofs.SoundSets.{parts, applied_main, applied_side}

-- ---- lists in two parts

pub laid-append : (parity : ℕ) (xs ys : List NumberedPage) (ks ls : List Lengths) (file : List ℕ) → length xs ≡ length ks → laid parity (xs ++ ys) (ks ++ ls) file ≡ laid parity ys ls (laid parity xs ks file)
laid-append parity [] ys [] ls file e = refl
laid-append parity [] ys (k ∷ ks) ls file e = absurd (omega arith)
laid-append parity (x ∷ xs) ys [] ls file e = absurd (omega arith)
laid-append parity (x ∷ xs) ys (k ∷ ks) ls file e = laid-append parity xs ys ks ls (laid_one parity x k file) (omega arith)

pub all_first : {X : Type 0} (P : X → Type 0) (xs ys : List X) → AllByRecursion P (xs ++ ys) → AllByRecursion P xs
all_first P [] ys h = tt
all_first P (x ∷ xs) ys h = (h.0, all_first P xs ys h.1)

pub all_second : {X : Type 0} (P : X → Type 0) (xs ys : List X) → AllByRecursion P (xs ++ ys) → AllByRecursion P ys
all_second P [] ys h = h
all_second P (x ∷ xs) ys h = all_second P xs ys h.1

pub all_both : {X : Type 0} (P : X → Type 0) (xs ys : List X) → AllByRecursion P xs → AllByRecursion P ys → AllByRecursion P (xs ++ ys)
all_both P [] ys h k = k
all_both P (x ∷ xs) ys h k = (h.0, all_both P xs ys h.1 k)

-- ---- one set

pub resized_same : (n : ℕ) (file : List ℕ) → length file ≡ n → resized n file ≡ file
unfolding resized zeros
resized_same n file e =
    let none : n - length file ≡ 0 = omega arith in
    ap (λ (k : ℕ). take n file ++ replicate k 0) none ∙ append-nil (take n file) ∙ take_all n file (omega arith)

length-put_one : (mine : Bool) (p : NumberedPage) (file : List ℕ) → IsSized p → length (put_one mine p file) ≡ length file
length-put_one true p file size = length-replaced file (page_start p.number) p.page size
length-put_one false p file size = refl

-- pages of one length, from a file of this length on
laid_same : (parity : ℕ) (ps : List NumberedPage) (lengths : Lengths) (file : List ℕ) → length file ≡ length_of parity lengths → AllByRecursion IsSized ps
    → laid parity ps (map (λ p. lengths) ps) file ≡ put_pages (is_page_of parity) ps file
unfolding put_pages
laid_same parity [] lengths file e sized = refl
laid_same parity (p ∷ ps) lengths file e sized =
    let mine : Bool = is_page_of parity p.number in
    ap (λ (f : List ℕ). laid parity ps (map (λ q. lengths) ps) (put_one mine p f)) (resized_same (length_of parity lengths) file e)
    ∙ laid_same parity ps lengths (put_one mine p file) (length-put_one mine p file sized.0 ∙ e) sized.1

laid_set : (parity : ℕ) (p : NumberedPage) (ps : List NumberedPage) (lengths : Lengths) (file : List ℕ) → AllByRecursion IsSized (p ∷ ps)
    → laid parity (p ∷ ps) (map (λ q. lengths) (p ∷ ps)) file ≡ put_pages (is_page_of parity) (p ∷ ps) (resized (length_of parity lengths) file)
unfolding put_pages
laid_set parity p ps lengths file sized =
    let mine : Bool = is_page_of parity p.number in
    let n : ℕ = length_of parity lengths in
    laid_same parity ps lengths (put_one mine p (resized n file)) (length-put_one mine p (resized n file) sized.0 ∙ length-resized n file) sized.1

laid_sound : (parity : ℕ) (set : List NumberedPage) (lengths : Lengths) (file : List ℕ) → IsSoundSet set → AllByRecursion IsSized set
    → laid parity set (map (λ q. lengths) set) file ≡ put_pages (is_page_of parity) set (resized (length_of parity lengths) file)
laid_sound parity [] lengths file sound sized =
    let p = parts [] sound in
    let len : length (p.front ++ p.last ∷ []) ≡ 0 = ap length (sym p.is) in
    absurd (omega (arith, length_push p.front p.last))
laid_sound parity (p ∷ ps) lengths file sound sized = laid_set parity p ps lengths file sized

-- ---- sets in order

abbrev joined : List (List NumberedPage) → List NumberedPage
joined sets = flat_map (λ (set : List NumberedPage). set) sets

laid_main : (sets : List (List NumberedPage)) (image : Image) → AllByRecursion IsSoundSet sets → AllByRecursion IsSized (joined sets)
    → laid 0 (joined sets) (flat_map lengths_of_set sets) image.main ≡ (after_sets image sets).main
laid_main [] image sound sized = refl
laid_main (set ∷ sets) image sound sized =
    laid-append 0 set (joined sets) (lengths_of_set set) (flat_map lengths_of_set sets) image.main (sym (length-map set (λ p. lengths_in set)))
    ∙ ap (laid 0 (joined sets) (flat_map lengths_of_set sets)) (laid_sound 0 set (lengths_in set) image.main sound.0 (all_first IsSized set (joined sets) sized) ∙ sym (applied_main image set sound.0))
    ∙ laid_main sets (applied image set) sound.1 (all_second IsSized set (joined sets) sized)

laid_side : (sets : List (List NumberedPage)) (image : Image) → AllByRecursion IsSoundSet sets → AllByRecursion IsSized (joined sets)
    → laid 1 (joined sets) (flat_map lengths_of_set sets) image.side ≡ (after_sets image sets).side
laid_side [] image sound sized = refl
laid_side (set ∷ sets) image sound sized =
    laid-append 1 set (joined sets) (lengths_of_set set) (flat_map lengths_of_set sets) image.side (sym (length-map set (λ p. lengths_in set)))
    ∙ ap (laid 1 (joined sets) (flat_map lengths_of_set sets)) (laid_sound 1 set (lengths_in set) image.side sound.0 (all_first IsSized set (joined sets) sized) ∙ sym (applied_side image set sound.0))
    ∙ laid_side sets (applied image set) sound.1 (all_second IsSized set (joined sets) sized)

-- ---- the first frames of a log

pub first_lengths : (pages : List NumberedPage) (lengths : List Lengths) (count : ℕ) → IsEnd pages count → lengths ≡ flat_map lengths_of_set (sets_of pages)
    → take count lengths ≡ flat_map lengths_of_set (sets_of (take count pages))
first_lengths pages lengths count end is =
    let whole : lengths ≡ flat_map lengths_of_set (sets_of (take count pages)) ++ flat_map lengths_of_set (sets_of (drop count pages)) =
    is ∙ ap (flat_map lengths_of_set) (cut_sets pages count end) ∙ flat_map-append lengths_of_set (sets_of (take count pages)) (sets_of (drop count pages)) in
    let len : length (flat_map lengths_of_set (sets_of (take count pages))) ≡ count =
    lengths_of_sets (take count pages) end.closed ∙ length-take-le count pages end.within in
    ap (take count) whole ∙ take_at (flat_map lengths_of_set (sets_of (take count pages))) (flat_map lengths_of_set (sets_of (drop count pages))) count len

pub later_lengths : (pages : List NumberedPage) (lengths : List Lengths) (count : ℕ) → IsEnd pages count → lengths ≡ flat_map lengths_of_set (sets_of pages)
    → drop count lengths ≡ flat_map lengths_of_set (sets_of (drop count pages))
later_lengths pages lengths count end is =
    let whole : lengths ≡ flat_map lengths_of_set (sets_of (take count pages)) ++ flat_map lengths_of_set (sets_of (drop count pages)) =
    is ∙ ap (flat_map lengths_of_set) (cut_sets pages count end) ∙ flat_map-append lengths_of_set (sets_of (take count pages)) (sets_of (drop count pages)) in
    let len : length (flat_map lengths_of_set (sets_of (take count pages))) ≡ count =
    lengths_of_sets (take count pages) end.closed ∙ length-take-le count pages end.within in
    ap (drop count) whole ∙ drop_at (flat_map lengths_of_set (sets_of (take count pages))) (flat_map lengths_of_set (sets_of (drop count pages))) count len

-- the frames up to a place where a set ends make the image with the sets up to there
pub laid_is : (base : Image) (log : Log) (count : ℕ) → IsEnd log.pages count → AllByRecursion IsSoundSet (sets_of log.pages) → AllByRecursion IsSized log.pages → log.lengths ≡ flat_map lengths_of_set (sets_of log.pages)
    → laid_image log count base.main base.side ≡ view base (sets_of log.pages) (length (sets_of (take count log.pages)))
laid_is base log count end sound sized is =
    let pages : List NumberedPage = take count log.pages in
    let sets : List (List NumberedPage) = sets_of pages in
    let lens : take count log.lengths ≡ flat_map lengths_of_set sets = first_lengths log.pages log.lengths count end is in
    let all : joined sets ≡ pages = sets_joined pages end.closed in
    let sound_first : AllByRecursion IsSoundSet sets = all_first IsSoundSet sets (sets_of (drop count log.pages)) (subst (AllByRecursion IsSoundSet) (cut_sets log.pages count end) sound) in
    let sized_pages : AllByRecursion IsSized pages = all_first IsSized pages (drop count log.pages) (subst (AllByRecursion IsSized) (sym (take-append-drop count log.pages)) sized) in
    let sized_first : AllByRecursion IsSized (joined sets) = subst (AllByRecursion IsSized) (sym all) sized_pages in
    let main : laid 0 pages (take count log.lengths) base.main ≡ (after_sets base sets).main =
    ap (λ (ls : List Lengths). laid 0 pages ls base.main) lens ∙ ap (λ (ps : List NumberedPage). laid 0 ps (flat_map lengths_of_set sets) base.main) (sym all) ∙ laid_main sets base sound_first sized_first in
    let side : laid 1 pages (take count log.lengths) base.side ≡ (after_sets base sets).side =
    ap (λ (ls : List Lengths). laid 1 pages ls base.side) lens ∙ ap (λ (ps : List NumberedPage). laid 1 ps (flat_map lengths_of_set sets) base.side) (sym all) ∙ laid_side sets base sound_first sized_first in
    let both : laid_image log count base.main base.side ≡ after_sets base sets = λ i. record { main = main i; side = side i } in
    both ∙ ap (after_sets base) (sym (first_sets log.pages count end))
