-- A log that is written here states its frames, and a log that is read whole is one that is written here.
use Rattle.std.proofs.Common.{◌≡◌, ℕ, zero, suc, ◌+◌, ◌-◌, ◌*◌, ◌/◌, ◌≤◌, Bool, true, false, cond, List, [], ◌∷◌, ◌++◌, length, take, drop, replicate, Result, Ok, Err, refl, sym, ap, ap₂, subst, ◌∙◌, append_assoc, append-nil, arith}
use Rattle.std.specs.Str.{bytes_eq}
use Rattle.std.proofs.lemmas.Bool.{cond-true, cond-false, false_from_ne_true}
use Rattle.std.proofs.lemmas.List.{length-append, length-map, length-take, length-drop, take_at, drop_at, nil_from_length}
use Rattle.std.proofs.lemmas.Slice.Eq.{bytes_eq-Decides}
use Rattle.dq_base.specs.declared.images.Image.{Image}
use Rattle.dq_base.specs.declared.pages.NumberedPage.{NumberedPage}
use Rattle.dq_base.specs.Images.{page_count}
use Rattle.wire_words.specs.Items.{word, blob, zeros_after}
use Rattle.log_commands.specs.Numbers.{AreLow}
use Rattle.log_commands.specs.Spelling.{HaveSizes}
use Rattle.wal_frames.specs.declared.fault.WalFault.{WalFault}
use Rattle.wal_frames.specs.declared.frame.Frame.{Frame}
use Rattle.wal_frames.specs.declared.header.WalHeader.{WalHeader}
use Rattle.wal_frames.specs.Text.{AreBytes, IsHeader, header, header_sums, frame, frame_sums, frames, log, wal, written_header}
use Rattle.wal_frames.specs.Headers.{header_of}
use Rattle.wal_frames.specs.Valid.{AreFrames, AreValid, Reading, Opened, NoneMatches, stated_frame}
use Rattle.wal_frames.proofs.Pairs.{AreBytes-take, AreBytes-drop}
use Rattle.wal_frames.proofs.HeaderLaws.{header_of-header, length-header}
use Rattle.wal_frames.proofs.FrameLaws.{length-frame, stated_frame-frame, stated_frame-fits}
use Rattle.wal_frames.proofs.LogLaws.{length-log, log_stands, valid_if_read, whole_log_valid, one_valid}
use Rattle.database_state.specs.declared.fault.SnapFault.TheVariants.{Order}
use Rattle.database_state.specs.Logs.{IsShort, frame_of, plain_frames, image_frames, image_log, pending_log}
use Rattle.database_state.specs.Restoring.{of_wal, stated_frames, frames_in, pages_of, checked_pages, log_pages, TookPages}
use Rattle.database_state.proofs.ImagePages.{image_fits, image_frame_count}

-- ---- the frames that a log states

stated_again : (h : WalHeader) (before : ℕ × ℕ) (fs : List Frame) → AreFrames fs → stated_frames (length fs) (frames h before fs) ≡ fs
unfolding frames stated_frames
stated_again h before [] fits = refl
stated_again h before (f ∷ fs) fits =
    let one : List ℕ = frame h before f in
    let rest : List ℕ = frames h (frame_sums h before f) fs in
    let len : length one ≡ 4120 = length-frame h before f fits.0 in
    let first : stated_frame (take 4120 (one ++ rest)) ≡ f =
    ap stated_frame (take_at one rest 4120 len ∙ sym (append-nil one)) ∙ stated_frame-frame h before f [] fits.0 in
    let others : stated_frames (length fs) (drop 4120 (one ++ rest)) ≡ fs =
    ap (stated_frames (length fs)) (drop_at one rest 4120 len) ∙ stated_again h (frame_sums h before f) fs fits.1 in
    ap₂ (λ (x : Frame) (xs : List Frame). x ∷ xs) first others

pub frames_again : (fs : List Frame) → AreFrames fs → frames_in (wal 0 fs) ≡ fs
unfolding log
frames_again fs fits =
    let h : WalHeader = written_header 0 in
    let len : length (log h fs) ≡ 32 + 4120 * length fs = length-log h fs fits in
    let count : (length (log h fs) - 32) / 4120 ≡ length fs = omega arith in
    let rest : drop 32 (header h ++ frames h (header_sums h) fs) ≡ frames h (header_sums h) fs = drop_at (header h) (frames h (header_sums h) fs) 32 (length-header h) in
    ap₂ stated_frames count rest ∙ stated_again h (header_sums h) fs fits

stated_fit : (count : ℕ) (bytes : List ℕ) → 4120 * count ≤ length bytes → AreBytes bytes → AreFrames (stated_frames count bytes)
unfolding stated_frames
stated_fit zero bytes long fits = tt
stated_fit (suc count) bytes long fits = (
  stated_frame-fits (take 4120 bytes) (omega (arith, length-take 4120 bytes)) (AreBytes-take 4120 bytes fits),
  stated_fit count (drop 4120 bytes) (omega (arith, length-drop 4120 bytes)) (AreBytes-drop 4120 bytes fits),
)

pub frames_fit : (bytes : List ℕ) → AreBytes bytes → AreFrames (frames_in bytes)
frames_fit bytes fits = stated_fit ((length bytes - 32) / 4120) (drop 32 bytes) (omega (arith, length-drop 32 bytes)) (AreBytes-drop 32 bytes fits)

-- ---- pages as frames

pub plain_pages : (pages : List NumberedPage) → pages_of (plain_frames pages) ≡ pages
plain_pages [] = refl
plain_pages (p ∷ pages) = ap (λ (ps : List NumberedPage). p ∷ ps) (plain_pages pages)

pub pages_both : (fs gs : List Frame) → pages_of (fs ++ gs) ≡ pages_of fs ++ pages_of gs
pages_both [] gs = refl
pages_both (f ∷ fs) gs = ap (λ (ps : List NumberedPage). record { number = f.number; page = f.page } ∷ ps) (pages_both fs gs)

pub plain_fit : (pages : List NumberedPage) → AreLow pages → HaveSizes pages → AreFrames (plain_frames pages)
plain_fit [] low sizes = tt
plain_fit (p ∷ pages) low sizes = (record { number = omega (arith, low.0); commit = omega arith; page = sizes.0 }, plain_fit pages low.1 sizes.1)

pub pages_fit : (fs : List Frame) → AreFrames fs → AreLow (pages_of fs) × HaveSizes (pages_of fs)
pages_fit [] fits = (tt, tt)
pages_fit (f ∷ fs) fits =
    let rest = pages_fit fs fits.1 in
    ((omega (arith, fits.0.number), rest.0), (fits.0.page, rest.1))

-- ---- the blob of a log

no_zeros : (count : ℕ) → zeros_after (32 + 4120 * count) ≡ []
no_zeros count = let none : (32 + 4120 * count + 7) / 8 * 8 - (32 + 4120 * count) ≡ 0 = omega arith in ap (λ (n : ℕ). replicate n 0) none

-- a log fills whole words
pub log_blob : (text : List ℕ) (count : ℕ) → length text ≡ 32 + 4120 * count → blob text ≡ word (length text) ++ text
log_blob text count len =
    ap (λ (zs : List ℕ). word (length text) ++ (text ++ zs)) (ap zeros_after len ∙ no_zeros count) ∙ ap (λ (t : List ℕ). word (length text) ++ t) (append-nil text)

pub image_log_length : (image : Image) → IsShort image → length (image_log image) ≡ 32 + 4120 * page_count image
unfolding image_log
image_log_length image short = length-log (written_header 0) (image_frames image) (image_fits image short) ∙ ap (λ (n : ℕ). 32 + 4120 * n) (image_frame_count image)

pub pending_log_length : (pages : List NumberedPage) → AreLow pages → HaveSizes pages → length (pending_log pages) ≡ 32 + 4120 * length pages
unfolding pending_log
pending_log_length pages low sizes = length-log (written_header 0) (plain_frames pages) (plain_fit pages low sizes) ∙ ap (λ (n : ℕ). 32 + 4120 * n) (length-map pages (frame_of 0))

-- ---- reading a log

header_fits : IsHeader (written_header 0)
header_fits = record { sequence = omega arith; salts = (omega arith, omega arith) }

pub header_again : (fs : List Frame) (rest : List ℕ) → header_of (wal 0 fs ++ rest) ≡ Ok (written_header 0)
unfolding log
header_again fs rest =
    let h : WalHeader = written_header 0 in
    ap header_of (append_assoc (header h) (frames h (header_sums h) fs) rest) ∙ header_of-header h (frames h (header_sums h) fs ++ rest) header_fits

same_text : (text : List ℕ) → bytes_eq text text ≡ true
same_text text = (bytes_eq-Decides text text).1 refl

-- a log that is written here is read
pub log_read : (at : ℕ) (fs : List Frame) → AreFrames fs → log_pages at (wal 0 fs) ≡ Ok (pages_of fs)
unfolding log_pages
log_read at fs fits =
    let text : List ℕ = wal 0 fs in
    let head : header_of text ≡ Ok (written_header 0) = ap header_of (sym (append-nil text)) ∙ header_again fs [] in
    let again : frames_in text ≡ fs = frames_again fs fits in
    let same : bytes_eq text (wal 0 (frames_in text)) ≡ true = ap (λ (gs : List Frame). bytes_eq text (wal 0 gs)) again ∙ same_text text in
    ap (checked_pages at text) head ∙ cond-true (bytes_eq text (wal 0 (frames_in text))) (Ok (pages_of (frames_in text))) (Err (Order at)) same ∙ ap (λ (gs : List Frame). Ok (pages_of gs)) again

-- what is read is written so
pub record IsLogOf (text : List ℕ) (pages : List NumberedPage) : Type 0 where
  pub text_is : text ≡ wal 0 (frames_in text)
  pub pages_are : pages ≡ pages_of (frames_in text)

checked_is : (at : ℕ) (text : List ℕ) (head : Result WalHeader WalFault) (pages : List NumberedPage) → checked_pages at text head ≡ Ok pages → IsLogOf text pages
checked_is at text (Err fault) pages e = absurd cc
checked_is at text (Ok h) pages e = by (bytes_eq text (wal 0 (frames_in text))) refl e
  where
    by : (b : Bool) → bytes_eq text (wal 0 (frames_in text)) ≡ b → cond b (Ok (pages_of (frames_in text))) (Err (Order at)) ≡ Ok pages → IsLogOf text pages
    by true same e = record { text_is = (bytes_eq-Decides text (wal 0 (frames_in text))).0 same; pages_are = cc }
    by false same e = absurd cc

pub log_is : (at : ℕ) (text : List ℕ) (pages : List NumberedPage) → log_pages at text ≡ Ok pages → IsLogOf text pages
unfolding log_pages
log_is at text pages e = checked_is at text (header_of text) pages e

-- ---- what a reader found

-- a log that was read to its end, after the header that is written here
pub read_whole : (at : ℕ) (text : List ℕ) (start : Reading) (pages : List NumberedPage) (new : Reading) → Opened text start → TookPages start pages new → start.header ≡ written_header 0 → length new.rest ≡ 0 → log_pages at text ≡ Ok pages
read_whole at text start pages new opened took head ended =
    let fs : List Frame = took.0 in
    let none : new.rest ≡ [] = nil_from_length new.rest ended in
    let stands : text ≡ wal 0 fs =
    log_stands text start fs new opened took.1 ∙ ap₂ (λ (h : WalHeader) (rest : List ℕ). log h fs ++ rest) head none ∙ append-nil (wal 0 fs) in
    ap (log_pages at) stands ∙ log_read at fs took.1.fit ∙ ap (λ (ps : List NumberedPage). Ok ps) (sym took.2)

abbrev stated_header : WalHeader → Result WalHeader WalFault
stated_header h = Ok h

same_header : (h k : WalHeader) → stated_header h ≡ stated_header k → h ≡ k
same_header h k e = cc

-- a log that is written here has that header, and its valid frames end where it ends
pub written_so : (text : List ℕ) (start : Reading) (pages : List NumberedPage) (new : Reading) → AreBytes text → Opened text start → TookPages start pages new → NoneMatches new → text ≡ wal 0 (frames_in text)
    → (start.header ≡ written_header 0) × (length new.rest ≡ 0)
written_so text start pages new bytes opened took none is =
    let gs : List Frame = frames_in text in
    let fs : List Frame = took.0 in
    let fits : AreFrames gs = frames_fit text bytes in
    let stated : header_of text ≡ Ok (written_header 0) = ap header_of (is ∙ sym (append-nil (wal 0 gs))) ∙ header_again gs [] in
    let head : start.header ≡ written_header 0 = same_header start.header (written_header 0) (sym opened.stated ∙ stated) in
    let valid : AreValid text (written_header 0) fs = subst (λ (h : WalHeader). AreValid text h fs) head (valid_if_read text start fs new opened took.1 none) in
    let whole : AreValid text (written_header 0) gs = subst (λ (t : List ℕ). AreValid t (written_header 0) gs) (sym is) (whole_log_valid (written_header 0) gs fits) in
    let same : fs ≡ gs = one_valid text (written_header 0) fs gs valid whole in
    let stands : text ≡ wal 0 gs ++ new.rest =
    log_stands text start fs new opened took.1 ∙ ap₂ (λ (h : WalHeader) (xs : List Frame). log h xs ++ new.rest) head same in
    let len : length text ≡ length (wal 0 gs) + length new.rest = ap length stands ∙ length-append (wal 0 gs) new.rest in
    let own : length text ≡ length (wal 0 gs) = ap length is in
    (head, omega (arith, len, own))

-- a log that isn't written here is refused at its place
pub read_other : (at : ℕ) (text : List ℕ) (start : Reading) (pages : List NumberedPage) (new : Reading) → AreBytes text → Opened text start → TookPages start pages new → NoneMatches new
    → ((start.header ≡ written_header 0) → (length new.rest ≡ 0) → ⊥) → log_pages at text ≡ Err (Order at)
unfolding log_pages
read_other at text start pages new bytes opened took none other =
    let differs : bytes_eq text (wal 0 (frames_in text)) ≡ false = false_from_ne_true (bytes_eq text (wal 0 (frames_in text))) (λ t.
    let so = written_so text start pages new bytes opened took none ((bytes_eq-Decides text (wal 0 (frames_in text))).0 t) in
    other so.0 so.1) in
    ap (checked_pages at text) opened.stated ∙ cond-false (bytes_eq text (wal 0 (frames_in text))) (Ok (pages_of (frames_in text))) (Err (Order at)) differs

-- the header's fault is the log's
pub read_none : (at : ℕ) (text : List ℕ) (fault : WalFault) → header_of text ≡ Err fault → log_pages at text ≡ Err (of_wal fault)
unfolding log_pages
read_none at text fault e = ap (checked_pages at text) e
