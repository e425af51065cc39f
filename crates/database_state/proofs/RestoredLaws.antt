-- The image and the pending pages of a log are read exactly where their log stands.
use Rattle.std.proofs.Common.{◌≡◌, ◌≢◌, ℕ, ◌⊎◌, inl, inr, Bool, true, false, cond, List, [], ◌∷◌, ◌++◌, length, Option, Some, None, Result, Ok, Err, refl, sym, ap, subst, ◌∙◌, arith}
use Rattle.std.specs.Str.{bytes_eq}
use Rattle.std.proofs.lemmas.Bool.{cases_Bool, and_parts, cond-true}
use Rattle.std.proofs.lemmas.List.{nil_from_length}
use Rattle.std.proofs.lemmas.Slice.Eq.{bytes_eq-Decides}
use Rattle.dq_base.specs.declared.images.Image.{Image}
use Rattle.dq_base.specs.declared.pages.NumberedPage.{NumberedPage}
use Rattle.dq_base.specs.declared.page_fault.PageFault.{PageFault}
use Rattle.dq_base.specs.Images.{resized, sizes_page, page_count}
use Rattle.dq_base.specs.Applying.{stated_main, stated_side, put_pages, applied, applied_with, page_fault}
use Rattle.dq_base.specs.Changes.{same_image, numbers_above_one, sizes_of, changed_from, changed}
use Rattle.dq_base.proofs.FileBytes.{length-resized}
use Rattle.dq_base.proofs.ChangeLaw.{same_images, changed_is, applied_change, stated_main-sizes_page, stated_side-sizes_page}
use Rattle.dq_base.proofs.ChangeFaults.{change_is_sound}
use Rattle.log_commands.specs.Numbers.{AreLow}
use Rattle.log_commands.specs.Spelling.{HaveSizes}
use Rattle.wire_words.specs.Reading.{◌>>=◌}
use Rattle.wal_frames.specs.Text.{AreBytes, wal}
use Rattle.database_state.specs.declared.fault.SnapFault.{SnapFault}
use Rattle.database_state.specs.declared.fault.SnapFault.TheVariants.{Order}
use Rattle.database_state.specs.Files.{empty_image}
use Rattle.database_state.specs.Logs.{IsShort, pages_from, pages_above_one, all_pages, frame_of, plain_frames, image_frames, image_log, pending_log}
use Rattle.database_state.specs.Restoring.{frames_in, pages_of, log_pages, applied_or, image_of, log_image, log_pending}
use Rattle.wire_words.proofs.ReadBack.{bind_ok}
use Rattle.database_state.proofs.ImagePages.{changed_is_pages, image_fits}
use Rattle.database_state.proofs.WalTexts.{frames_fit, plain_pages, pages_both, plain_fit, pages_fit, log_read, log_is}
use Rattle.database_state.proofs.Short.{applied_short}

-- ---- all pages of an image, applied to two empty files

is_empty : (image : Image) → (image ≡ empty_image) ⊎ (empty_image ≢ image)
is_empty image =
    elim (cases_Bool (same_image empty_image image)) [
      | inl same ↦
          let both = and_parts (bytes_eq [] image.main) (bytes_eq [] image.side) same in
          inl (sym (same_images empty_image image ((bytes_eq-Decides [] image.main).0 both.0) ((bytes_eq-Decides [] image.side).0 both.1)))
      | inr other ↦ inr (λ e. absurd (differs image e other))
    ]
  where
    no_bool : true ≡ false → ⊥
    no_bool e = cc

    differs : (im : Image) → empty_image ≡ im → same_image empty_image im ≡ false → ⊥
    differs im e other = no_bool (ap (same_image empty_image) e ∙ other)

all_changed : (image : Image) → empty_image ≢ image → changed empty_image image ≡ all_pages image
all_changed image differs =
    changed_is empty_image image differs ∙ ap (λ (l : List NumberedPage). l ++ sizes_of image ∷ []) (changed_is_pages 2 (numbers_above_one image) image (omega arith))

empty_resized : (n : ℕ) → n ≡ 0 → resized n [] ≡ []
empty_resized n none = nil_from_length (resized n []) (omega (arith, length-resized n [], none))

empty_applied : applied empty_image (all_pages empty_image) ≡ empty_image
unfolding applied pages_from put_pages
empty_applied =
    let sizes : List ℕ = sizes_page 0 0 in
    let main : stated_main sizes ≡ 0 = stated_main-sizes_page 0 0 (omega arith) in
    let side : stated_side sizes ≡ 0 = stated_side-sizes_page 0 0 (omega arith) in
    same_images (applied_with (Some (sizes_of empty_image)) (sizes_of empty_image ∷ []) empty_image) empty_image (empty_resized (stated_main sizes) main) (empty_resized (stated_side sizes) side)

-- two empty files become the image
pub image_again : (image : Image) → IsShort image → applied empty_image (all_pages image) ≡ image
image_again image short =
    elim (is_empty image) [
      | inl same ↦ subst (λ (im : Image). applied empty_image (all_pages im) ≡ im) (sym same) empty_applied
      | inr differs ↦ ap (applied empty_image) (sym (all_changed image differs)) ∙ applied_change empty_image image differs (omega (arith, short.main)) (omega (arith, short.side))
    ]

-- some other image
abbrev one_byte : Image
one_byte = record { main = 0 ∷ []; side = [] }

one_byte_differs : one_byte ≢ empty_image
one_byte_differs e =
    let len : length one_byte.main ≡ length empty_image.main = ap (λ (im : Image). length im.main) e in
    omega (arith, len)

empty_sound : page_fault (all_pages empty_image) ≡ None
unfolding pages_from changed_from
empty_sound = ap page_fault (sym (changed_is one_byte empty_image one_byte_differs)) ∙ change_is_sound one_byte empty_image one_byte_differs (omega arith) (omega arith)

pub image_sound : (image : Image) → IsShort image → page_fault (all_pages image) ≡ None
image_sound image short =
    elim (is_empty image) [
      | inl same ↦ subst (λ (im : Image). page_fault (all_pages im) ≡ None) (sym same) empty_sound
      | inr differs ↦ ap page_fault (sym (all_changed image differs)) ∙ change_is_sound empty_image image differs short.main short.side
    ]

-- ---- the log of an image

pub image_pages : (image : Image) → pages_of (image_frames image) ≡ all_pages image
image_pages image =
    pages_both (plain_frames (pages_above_one image)) (frame_of (page_count image) (sizes_of image) ∷ []) ∙ ap (λ (ps : List NumberedPage). ps ++ sizes_of image ∷ []) (plain_pages (pages_above_one image))

same_text : (text : List ℕ) → bytes_eq text text ≡ true
same_text text = (bytes_eq-Decides text text).1 refl

abbrev kept_image : ℕ → List ℕ → Image → Result Image SnapFault
kept_image at log image = cond (bytes_eq log (image_log image)) (Ok image) (Err (Order at))

abbrev kept_pending : ℕ → List ℕ → List NumberedPage → Result (List NumberedPage) SnapFault
kept_pending at log pages = cond (bytes_eq log (pending_log pages)) (Ok pages) (Err (Order at))

-- the image's log is read as the image
pub image_read : (at : ℕ) (image : Image) → IsShort image → log_image at (image_log image) ≡ Ok image
unfolding log_image image_of image_log
image_read at image short =
    let text : List ℕ = wal 0 (image_frames image) in
    let pages : log_pages at text ≡ Ok (all_pages image) = log_read at (image_frames image) (image_fits image short) ∙ ap (λ (ps : List NumberedPage). Ok ps) (image_pages image) in
    let sound : applied_or (page_fault (all_pages image)) (all_pages image) ≡ Ok image =
    ap (λ (o : Option PageFault). applied_or o (all_pages image)) (image_sound image short) ∙ ap (λ (im : Image). Ok im) (image_again image short) in
    ap (λ (r : Result (List NumberedPage) SnapFault). r >>= λ ps. applied_or (page_fault ps) ps >>= λ im. cond (bytes_eq text (wal 0 (image_frames im))) (Ok im) (Err (Order at))) pages
    ∙ ap (λ (r : Result Image SnapFault). r >>= λ im. cond (bytes_eq text (wal 0 (image_frames im))) (Ok im) (Err (Order at))) sound
    ∙ cond-true (bytes_eq text text) (Ok image) (Err (Order at)) (same_text text)

-- what is read of an image's log is encoded so
pub record IsImageLog (text : List ℕ) (image : Image) : Type 0 where
  pub text_is : text ≡ image_log image
  pub short : IsShort image

abbrev an_image : Image → Result Image SnapFault
an_image image = Ok image

image_is : (x y : Image) → an_image x ≡ an_image y → x ≡ y
image_is x y e = cc

kept_is : (at : ℕ) (text : List ℕ) (x image : Image) → kept_image at text x ≡ Ok image → (text ≡ image_log image) × (x ≡ image)
kept_is at text x image e = by (bytes_eq text (image_log x)) refl e
  where
    by : (b : Bool) → bytes_eq text (image_log x) ≡ b → cond b (Ok x) (Err (Order at)) ≡ Ok image → (text ≡ image_log image) × (x ≡ image)
    by true same e =
        let is : x ≡ image = image_is x image e in
        ((bytes_eq-Decides text (image_log x)).0 same ∙ ap image_log is, is)
    by false same e = absurd cc

applied_is : (o : Option PageFault) (pages : List NumberedPage) (image : Image) → applied_or o pages ≡ Ok image → (o ≡ None) × (applied empty_image pages ≡ image)
applied_is None pages image e = (refl, image_is (applied empty_image pages) image e)
applied_is (Some fault) pages image e = absurd cc

-- pages that were applied to two empty files leave short ones
pub image_of_short : (pages : List NumberedPage) (image : Image) → HaveSizes pages → image_of pages ≡ Ok image → IsShort image
unfolding image_of
image_of_short pages image sizes e =
    let a = applied_is (page_fault pages) pages image e in
    subst IsShort a.1 (applied_short empty_image pages a.0 sizes)

pub image_took : (at : ℕ) (text : List ℕ) (image : Image) → AreBytes text → log_image at text ≡ Ok image → IsImageLog text image
unfolding log_image
image_took at text image bytes e =
    let a = bind_ok (log_pages at text) (λ pages. image_of pages >>= λ im. kept_image at text im) image e in
    let b = bind_ok (image_of a.0) (λ im. kept_image at text im) image a.2 in
    let kept = kept_is at text b.0 image b.2 in
    let log = log_is at text a.0 a.1 in
    let sizes : HaveSizes a.0 = subst HaveSizes (sym log.pages_are) (pages_fit (frames_in text) (frames_fit text bytes)).1 in
    record { text_is = kept.0; short = subst IsShort kept.1 (image_of_short a.0 b.0 sizes b.1) }

-- ---- the log of pending pages

pub pending_read : (at : ℕ) (pages : List NumberedPage) → AreLow pages → HaveSizes pages → log_pending at (pending_log pages) ≡ Ok pages
unfolding log_pending pending_log
pending_read at pages low sizes =
    let text : List ℕ = wal 0 (plain_frames pages) in
    let read : log_pages at text ≡ Ok pages = log_read at (plain_frames pages) (plain_fit pages low sizes) ∙ ap (λ (ps : List NumberedPage). Ok ps) (plain_pages pages) in
    ap (λ (r : Result (List NumberedPage) SnapFault). r >>= λ ps. cond (bytes_eq text (wal 0 (plain_frames ps))) (Ok ps) (Err (Order at))) read
    ∙ cond-true (bytes_eq text text) (Ok pages) (Err (Order at)) (same_text text)

pub record IsPendingLog (text : List ℕ) (pages : List NumberedPage) : Type 0 where
  pub text_is : text ≡ pending_log pages
  pub low : AreLow pages
  pub sizes : HaveSizes pages

abbrev some_pages : List NumberedPage → Result (List NumberedPage) SnapFault
some_pages pages = Ok pages

pages_are : (x y : List NumberedPage) → some_pages x ≡ some_pages y → x ≡ y
pages_are x y e = cc

pending_kept : (at : ℕ) (text : List ℕ) (x pages : List NumberedPage) → kept_pending at text x ≡ Ok pages → (text ≡ pending_log pages) × (x ≡ pages)
pending_kept at text x pages e = by (bytes_eq text (pending_log x)) refl e
  where
    by : (b : Bool) → bytes_eq text (pending_log x) ≡ b → cond b (Ok x) (Err (Order at)) ≡ Ok pages → (text ≡ pending_log pages) × (x ≡ pages)
    by true same e =
        let is : x ≡ pages = pages_are x pages e in
        ((bytes_eq-Decides text (pending_log x)).0 same ∙ ap pending_log is, is)
    by false same e = absurd cc

pub pending_took : (at : ℕ) (text : List ℕ) (pages : List NumberedPage) → AreBytes text → log_pending at text ≡ Ok pages → IsPendingLog text pages
unfolding log_pending
pending_took at text pages bytes e =
    let a = bind_ok (log_pages at text) (λ ps. kept_pending at text ps) pages e in
    let kept = pending_kept at text a.0 pages a.2 in
    let log = log_is at text a.0 a.1 in
    let fit = pages_fit (frames_in text) (frames_fit text bytes) in
    let is : pages_of (frames_in text) ≡ pages = sym log.pages_are ∙ kept.1 in
    record { text_is = kept.0; low = subst AreLow is fit.0; sizes = subst HaveSizes is fit.1 }
