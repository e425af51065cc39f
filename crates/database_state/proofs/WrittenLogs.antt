-- Logs that are written frame by frame.
use Rattle.std.proofs.Common.{◌≡◌, ℕ, suc, ◌+◌, ◌-◌, ◌*◌, ◌<◌, ◌≤◌, List, [], ◌∷◌, ◌++◌, length, get_or, take, Option, Some, None, Result, Ok, Err, refl, sym, ap, subst, ◌∙◌, append_assoc, append-nil, arith}
use Rattle.std.specs.Prelude.{OnOk}
use Rattle.std.proofs.lemmas.List.{take_more, take_all}
use Rattle.wire_words.specs.Items.{word, blob}
use Rattle.log_commands.specs.Numbers.{AreLow}
use Rattle.log_commands.specs.Spelling.{HaveSizes}
use Rattle.dq_base.specs.declared.images.Image.{Image}
use Rattle.dq_base.specs.declared.pages.NumberedPage.{NumberedPage}
use Rattle.dq_base.specs.Images.{page_at, page_count, sizes_page}
use Rattle.dq_base.specs.Changes.{numbers_above_one}
use Rattle.dq_base.proofs.ChangedPages.{page_at-one}
use Rattle.wal_frames.specs.declared.frame.Frame.{Frame}
use Rattle.wal_frames.specs.Text.{wal}
use Rattle.wal_frames.specs.Writing.{Place, Wrote}
use Rattle.database_state.specs.Logs.{listed, pages_from, frame_of, plain_frames, image_frames, image_log, pending_log, Continues}
use Rattle.database_state.proofs.ImagePages.{pages_more}
use Rattle.database_state.proofs.WalTexts.{log_blob, pending_log_length}

-- ---- one after the other

pub continues_none : (out : List ℕ) (writer : Place) → Continues [] out writer out writer
continues_none out writer start sequence frames w = subst (λ (fs : List Frame). Wrote start sequence fs out writer) (sym (append-nil frames)) w

continues_both : (a b : List Frame) (o0 o1 o2 : List ℕ) (w0 w1 w2 : Place) → Continues a o0 w0 o1 w1 → Continues b o1 w1 o2 w2 → Continues (a ++ b) o0 w0 o2 w2
continues_both a b o0 o1 o2 w0 w1 w2 first second start sequence frames w =
    subst (λ (fs : List Frame). Wrote start sequence fs o2 w2) (append_assoc frames a b) (second start sequence (frames ++ a) (first start sequence frames w))

pub plain_both : (xs ys : List NumberedPage) → plain_frames (xs ++ ys) ≡ plain_frames xs ++ plain_frames ys
plain_both [] ys = refl
plain_both (x ∷ xs) ys = ap (λ (fs : List Frame). frame_of 0 x ∷ fs) (plain_both xs ys)

-- ---- a page

pub listed_page : {F : Type 0} (r : Result (Unit {0}) F) (number : ℕ) (o : Option (List ℕ)) (page : List ℕ) (o0 o1 : List ℕ) (w0 w1 : Place) → o ≡ Some page
    → OnOk r (Continues (record { number = number; commit = 0; page = page } ∷ []) o0 w0 o1 w1) → OnOk r (Continues (plain_frames (listed number o)) o0 w0 o1 w1)
listed_page r number o page o0 o1 w0 w1 is put = subst (λ (x : Option (List ℕ)). OnOk r (Continues (plain_frames (listed number x)) o0 w0 o1 w1)) (sym is) put

pub listed_none : (number : ℕ) (o : Option (List ℕ)) (out : List ℕ) (writer : Place) → o ≡ None → Continues (plain_frames (listed number o)) out writer out writer
listed_none number o out writer is = subst (λ (x : Option (List ℕ)). Continues (plain_frames (listed number x)) out writer out writer) (sym is) (continues_none out writer)

-- ---- the pages of numbers from 2 on

pub no_pages : (image : Image) (out : List ℕ) (writer : Place) → Continues (plain_frames (pages_from 2 0 image)) out writer out writer
unfolding pages_from
no_pages image out writer = continues_none out writer

pub one_page_more : (image : Image) (n : ℕ) (o0 o1 o2 : List ℕ) (w0 w1 w2 : Place) → 2 ≤ n → Continues (plain_frames (pages_from 2 (n - 2) image)) o0 w0 o1 w1
    → Continues (plain_frames (listed n (page_at image n))) o1 w1 o2 w2 → Continues (plain_frames (pages_from 2 (n + 1 - 2) image)) o0 w0 o2 w2
one_page_more image n o0 o1 o2 w0 w1 w2 from before here =
    let i : ℕ = n - 2 in
    let next : suc i ≡ n + 1 - 2 = omega arith in
    let place : n ≡ 2 + i = omega arith in
    let own = subst (λ (k : ℕ). Continues (plain_frames (listed k (page_at image k))) o1 w1 o2 w2) place here in
    let both = continues_both (plain_frames (pages_from 2 i image)) (plain_frames (listed (2 + i) (page_at image (2 + i)))) o0 o1 o2 w0 w1 w2 before own in
    let joined : plain_frames (pages_from 2 i image) ++ plain_frames (listed (2 + i) (page_at image (2 + i))) ≡ plain_frames (pages_from 2 (n + 1 - 2) image) =
    sym (plain_both (pages_from 2 i image) (listed (2 + i) (page_at image (2 + i)))) ∙ ap plain_frames (sym (pages_more 2 i image)) ∙ ap (λ (k : ℕ). plain_frames (pages_from 2 k image)) next in
    subst (λ (fs : List Frame). Continues fs o0 w0 o2 w2) joined both

-- ---- the whole log of an image

some_is : (x y : List ℕ) → Some x ≡ Some y → x ≡ y
some_is x y e = cc

pub image_written : {F : Type 0} (r : Result (Unit {0}) F) (image : Image) (count pages : ℕ) (sizes start o1 o2 o3 : List ℕ) (w1 w2 w3 : Place) → Wrote start 0 [] o1 w1
    → Continues (plain_frames (pages_from 2 count image)) o1 w1 o2 w2 → count ≡ numbers_above_one image → Some sizes ≡ page_at image 1 → pages ≡ page_count image
    → OnOk r ((start : List ℕ) (sequence : ℕ) (frames : List Frame) → Wrote start sequence frames o2 w2 → Wrote start sequence (frames ++ record { number = 1; commit = pages; page = sizes } ∷ []) o3 w3)
    → OnOk r (o3 ≡ start ++ image_log image)
unfolding image_log
image_written (Err fault) image count pages sizes start o1 o2 o3 w1 w2 w3 begun front count_is sizes_are pages_are last = tt
image_written (Ok done) image count pages sizes start o1 o2 o3 w1 w2 w3 begun front count_is sizes_are pages_are last =
    let sizes_is : sizes ≡ sizes_page (length image.main) (length image.side) = some_is sizes (sizes_page (length image.main) (length image.side)) (sizes_are ∙ page_at-one image 1 refl) in
    let above : Wrote start 0 (plain_frames (pages_from 2 count image)) o2 w2 = front start 0 [] begun in
    let whole = last start 0 (plain_frames (pages_from 2 count image)) above in
    let frames : plain_frames (pages_from 2 count image) ++ record { number = 1; commit = pages; page = sizes } ∷ [] ≡ image_frames image =
    λ i. plain_frames (pages_from 2 (count_is i) image) ++ record { number = 1; commit = pages_are i; page = sizes_is i } ∷ [] in
    whole.text ∙ ap (λ (fs : List Frame). start ++ wal 0 fs) frames

-- ---- the log of pending pages

pub pending_written : (pages : List NumberedPage) (start out : List ℕ) (writer : Place) → Wrote start 0 (plain_frames pages) out writer → out ≡ start ++ pending_log pages
unfolding pending_log
pending_written pages start out writer wrote = wrote.text

-- one page more is written
pub pending_more : (pages : List NumberedPage) (i : ℕ) (p : NumberedPage) (start o1 o2 : List ℕ) (w1 w2 : Place) → i < length pages → p ≡ get_or pages i p → Wrote start 0 (plain_frames (take i pages)) o1 w1
    → Continues (record { number = p.number; commit = 0; page = p.page } ∷ []) o1 w1 o2 w2 → Wrote start 0 (plain_frames (take (i + 1) pages)) o2 w2
pending_more pages i p start o1 o2 w1 w2 lt is before put =
    let more : take (i + 1) pages ≡ take i pages ++ p ∷ [] = take_more pages i p lt ∙ ap (λ (q : NumberedPage). take i pages ++ q ∷ []) (sym is) in
    let frames : plain_frames (take i pages) ++ frame_of 0 p ∷ [] ≡ plain_frames (take (i + 1) pages) = sym (plain_both (take i pages) (p ∷ [])) ∙ ap plain_frames (sym more) in
    subst (λ (fs : List Frame). Wrote start 0 fs o2 w2) frames (put start 0 (plain_frames (take i pages)) before)

pub pending_done : (pages : List NumberedPage) (i : ℕ) (start out : List ℕ) (writer : Place) → length pages ≤ i → Wrote start 0 (plain_frames (take i pages)) out writer → out ≡ start ++ pending_log pages
pending_done pages i start out writer past wrote =
    pending_written pages start out writer (subst (λ (ps : List NumberedPage). Wrote start 0 (plain_frames ps) out writer) (take_all i pages past) wrote)

-- ---- a blob

-- a word and a text that fills whole words are a blob
pub blob_written : {F : Type 0} (r : Result (Unit {0}) F) (o0 o1 o2 o3 text : List ℕ) (n count : ℕ) → o1 ≡ o0 ++ word n → o2 ≡ o1 → n ≡ length text → length text ≡ 32 + 4120 * count → OnOk r (o3 ≡ o2 ++ text) → OnOk r (o3 ≡ o0 ++ blob text)
blob_written (Err fault) o0 o1 o2 o3 text n count first same size len last = tt
blob_written (Ok done) o0 o1 o2 o3 text n count first same size len last =
    last ∙ ap (λ (o : List ℕ). o ++ text) (same ∙ first) ∙ append_assoc o0 (word n) text ∙ ap (λ (k : ℕ). o0 ++ (word k ++ text)) size ∙ ap (λ (b : List ℕ). o0 ++ b) (sym (log_blob text count len))

-- ---- items after items

pub behind_two : {F : Type 0} (r : Result (Unit {0}) F) (o0 o1 o2 a b : List ℕ) → o1 ≡ o0 ++ a → OnOk r (o2 ≡ o1 ++ b) → OnOk r (o2 ≡ o0 ++ (a ++ b))
behind_two (Err fault) o0 o1 o2 a b first last = tt
behind_two (Ok done) o0 o1 o2 a b first last = last ∙ ap (λ (o : List ℕ). o ++ b) first ∙ append_assoc o0 a b

pub behind_three : {F : Type 0} (r : Result (Unit {0}) F) (o0 o1 o2 o3 a b c : List ℕ) → o1 ≡ o0 ++ a → o2 ≡ o1 ++ b → OnOk r (o3 ≡ o2 ++ c) → OnOk r (o3 ≡ o0 ++ (a ++ (b ++ c)))
behind_three r o0 o1 o2 o3 a b c first second last = behind_two r o0 o1 o3 a (b ++ c) first (behind_two r o1 o2 o3 b c second last)

pub pending_blob : {F : Type 0} (r : Result (Unit {0}) F) (o0 o1 o2 o3 : List ℕ) (pages : List NumberedPage) (n : ℕ) → o1 ≡ o0 ++ word n → o2 ≡ o1 → n ≡ 32 + 4120 * length pages → AreLow pages → OnOk r (o3 ≡ o2 ++ pending_log pages) → OnOk r (HaveSizes pages)
    → OnOk r (o3 ≡ o0 ++ blob (pending_log pages))
pending_blob {F} (Err fault) o0 o1 o2 o3 pages n first same size low last sizes = tt
pending_blob {F} (Ok done) o0 o1 o2 o3 pages n first same size low last sizes =
    let len = pending_log_length pages low sizes in
    blob_written {F = F} (Ok done) o0 o1 o2 o3 (pending_log pages) n (length pages) first same (size ∙ sym len) len last
