-- The steps in which a snapshot is read.
use Rattle.std.proofs.Common.{◌≡◌, ℕ, suc, ◌+◌, ◌-◌, ◌<◌, ◌≤◌, ◌&&◌, leb, Bool, false, cond, List, [], ◌∷◌, ◌++◌, length, Option, Some, None, Result, Ok, Err, refl, sym, ap, ap₂, subst, ◌∙◌, append_assoc, append-nil, arith}
use Rattle.std.specs.Prelude.{slice_get}
use Rattle.std.proofs.lemmas.Bool.{and_parts, leb-true, false_from_ne_true}
use Rattle.dq_base.specs.declared.images.Image.{Image}
use Rattle.dq_base.specs.declared.pages.NumberedPage.{NumberedPage}
use Rattle.dq_base.specs.declared.page_fault.PageFault.{PageFault}
use Rattle.dq_base.specs.declared.page_fault.PageFault.TheVariants as page_faults
use Rattle.dq_base.specs.Applying.{applied, page_fault, IsRefusal}
use Rattle.dq_base.specs.Names.{IsName}
use Rattle.dq_base.proofs.ChangeLaw.{same_images}
use Rattle.wire_words.proofs.Passing.{text_passed}
use Rattle.log_commands.specs.Numbers.{AreLow}
use Rattle.log_commands.specs.Spelling.{HaveSizes}
use Rattle.wal_frames.specs.declared.fault.WalFault.{WalFault}
use Rattle.wal_frames.specs.declared.fault.WalFault.TheVariants as wal_faults
use Rattle.wal_frames.specs.Headers.{header_of}
use Rattle.wal_frames.specs.Valid.{Reading}
use Rattle.database_state.proofs.WalTexts.{pages_fit, read_none}
use Rattle.page_store.specs.Store.{Store, fresh_store, newest_image}
use Rattle.std.specs.Option.{option_map}
use Rattle.std.proofs.lemmas.List.{length-append}
use Rattle.wire_words.specs.declared.fault.WordFault.{WordFault}
use Rattle.wire_words.specs.Reading.{◌>>=◌, Unread, text_at}
use Rattle.database_state.specs.declared.fault.SnapFault.{SnapFault}
use Rattle.database_state.specs.declared.fault.SnapFault.TheVariants as faults
use Rattle.database_state.specs.declared.database.Database.{Database}
use Rattle.database_state.specs.Files.{Content, empty_image}
use Rattle.database_state.specs.Databases.{content_of, contents_of}
use Rattle.database_state.specs.Restoring.{of_wal, of_pages, TookPages, log_pages, applied_or, image_of, in_snapshot, has_name_length, is_above, name_at, content_at, contents_at, last_name, restored_at, restored_from, restored, Fails}

-- a fault of a step is the fault of the whole
pub fails_so : {A B : Type 0} (e : SnapFault) (step : Result A SnapFault) (whole : Result B SnapFault) → ((f : SnapFault) → step ≡ Err f → whole ≡ Err f) → Fails e step → Fails e whole
fails_so faults.Format step whole so fails = so faults.Format fails
fails_so (faults.Word w) step whole so fails = so (faults.Word w) fails
fails_so (faults.Order n) step whole so fails = so (faults.Order n) fails
fails_so (faults.Wal w) step whole so fails = so (faults.Wal w) fails
fails_so (faults.Pages p) step whole so fails = so (faults.Pages p) fails
fails_so faults.Tail step whole so fails = so faults.Tail fails
fails_so faults.NoMemory step whole so fails = tt

-- ---- databases

-- what was read before, and what is still read
abbrev pub contents_front : List Content → Result (List Content × Unread) SnapFault → Result (List Content × Unread) SnapFault
contents_front front read = read >>= λ x. Ok (front ++ x.0, x.1)

regroup : (front : List Content) (c : Content) (read : Result (List Content × Unread) SnapFault) → contents_front front (read >>= λ x. Ok (c ∷ x.0, x.1)) ≡ contents_front (front ++ c ∷ []) read
regroup front c (Ok x) = ap (λ (cs : List Content). Ok (cs, x.1)) (sym (append_assoc front (c ∷ []) x.0))
regroup front c (Err f) = refl

pub contents_more : (front : List Content) (count i : ℕ) (before : Option (List ℕ)) (left next : Unread) (c : Content) (total : Result (List Content × Unread) SnapFault) → i < count → content_at before left ≡ Ok (c, next)
    → contents_front front (contents_at (count - i) before left) ≡ total → contents_front (front ++ c ∷ []) (contents_at (count - (i + 1)) (Some c.name) next) ≡ total
unfolding contents_at
contents_more front count i before left next c total lt h so_far =
    let k : count - i ≡ suc (count - (i + 1)) = omega arith in
    let one : contents_front front (contents_at (count - i) before left) ≡ contents_front (front ++ c ∷ []) (contents_at (count - (i + 1)) (Some c.name) next) =
    rw (k, h) (regroup front c (contents_at (count - (i + 1)) (Some c.name) next)) in
    sym one ∙ so_far

pub contents_end : (e : SnapFault) (front : List Content) (count i : ℕ) (before : Option (List ℕ)) (left : Unread) (total : Result (List Content × Unread) SnapFault) → i < count → Fails e (content_at before left)
    → contents_front front (contents_at (count - i) before left) ≡ total → Fails e total
unfolding contents_at
contents_end e front count i before left total lt fails so_far =
    let k : count - i ≡ suc (count - (i + 1)) = omega arith in
    fails_so e (content_at before left) total (λ f h. let one : contents_front front (contents_at (count - i) before left) ≡ Err f = rw (k, h) refl in sym so_far ∙ one) fails

pub contents_done : (front : List Content) (count i : ℕ) (before : Option (List ℕ)) (left : Unread) (total : Result (List Content × Unread) SnapFault) → count ≤ i → contents_front front (contents_at (count - i) before left) ≡ total → total ≡ Ok (front, left)
unfolding contents_at
contents_done front count i before left total le so_far =
    let k : count - i ≡ 0 = omega arith in
    let one : contents_front front (contents_at (count - i) before left) ≡ Ok (front, left) = rw k (ap (λ (cs : List Content). Ok (cs, left)) (append-nil front)) in
    sym so_far ∙ one

-- ---- one database more

pub contents_behind : (ds : List Database) (d : Database) → contents_of (ds ++ d ∷ []) ≡ contents_of ds ++ content_of d ∷ []
contents_behind [] d = refl
contents_behind (x ∷ ds) d = ap (λ (cs : List Content). content_of x ∷ cs) (contents_behind ds d)

restored_behind : (place : ℕ) (cs : List Content) (c : Content) → restored_from place (cs ++ c ∷ []) ≡ restored_from place cs ++ restored_at (place + length cs) c ∷ []
restored_behind place [] c = let e : place ≡ place + 0 = omega arith in ap (λ (p : ℕ). restored_at p c ∷ []) e
restored_behind place (x ∷ cs) c =
    let e : suc place + length cs ≡ place + suc (length cs) = omega arith in
    ap (λ (ds : List Database). restored_at place x ∷ ds) (restored_behind (suc place) cs c) ∙ ap (λ (p : ℕ). restored_at place x ∷ (restored_from (suc place) cs ++ restored_at p c ∷ [])) e

as_many : (ds : List Database) → length (contents_of ds) ≡ length ds
as_many [] = refl
as_many (d ∷ ds) = ap suc (as_many ds)

pub restored_more : (ds : List Database) (d : Database) → ds ≡ restored (contents_of ds) → d ≡ restored_at (length ds) (content_of d) → ds ++ d ∷ [] ≡ restored (contents_of (ds ++ d ∷ []))
restored_more ds d fresh here =
    let place : 0 + length (contents_of ds) ≡ length ds = omega (arith, as_many ds) in
    ap₂ (λ (xs : List Database) (x : Database). xs ++ x ∷ []) fresh here
    ∙ ap (λ (p : ℕ). restored (contents_of ds) ++ restored_at p (content_of d) ∷ []) (sym place)
    ∙ sym (restored_behind 0 (contents_of ds) (content_of d))
    ∙ ap restored (sym (contents_behind ds d))

slice_get_end : (ds : List Database) (d : Database) → slice_get (ds ++ d ∷ []) (length ds) ≡ Some d
slice_get_end [] d = refl
slice_get_end (x ∷ ds) d = slice_get_end ds d

-- the last of the databases is the one that was read last
pub last_behind : (ds : List Database) (d : Database) → last_name (ds ++ d ∷ []) ≡ Some d.name
last_behind ds d =
    let less : length (ds ++ d ∷ []) - 1 ≡ length ds = omega (arith, length-append ds (d ∷ [])) in
    ap (λ (o : Option Database). option_map (λ (database : Database). database.name) o) (ap (slice_get (ds ++ d ∷ [])) less ∙ slice_get_end ds d)

-- ---- a loop over databases

pub databases_more : (ds new : List Database) (d : Database) (count i : ℕ) (left next : Unread) (total : Result (List Content × Unread) SnapFault) → new ≡ ds ++ d ∷ [] → i < count → content_at (last_name ds) left ≡ Ok (content_of d, next)
    → contents_front (contents_of ds) (contents_at (count - i) (last_name ds) left) ≡ total → contents_front (contents_of new) (contents_at (count - (i + 1)) (last_name new) next) ≡ total
databases_more ds new d count i left next total is lt read so_far =
    let contents : contents_of new ≡ contents_of ds ++ content_of d ∷ [] = ap contents_of is ∙ contents_behind ds d in
    let before : last_name new ≡ Some d.name = ap last_name is ∙ last_behind ds d in
    ap₂ (λ (cs : List Content) (b : Option (List ℕ)). contents_front cs (contents_at (count - (i + 1)) b next)) contents before
    ∙ contents_more (contents_of ds) count i (last_name ds) left next (content_of d) total lt read so_far

pub databases_fresh : (ds new : List Database) (d : Database) → new ≡ ds ++ d ∷ [] → ds ≡ restored (contents_of ds) → d ≡ restored_at (length ds) (content_of d) → new ≡ restored (contents_of new)
databases_fresh ds new d is fresh here = is ∙ restored_more ds d fresh here ∙ ap (λ (xs : List Database). restored (contents_of xs)) (sym is)

-- ---- what calls find

pub pages_refused : (pages : List NumberedPage) (fault : PageFault) → IsRefusal fault (page_fault pages) → Fails (of_pages fault) (image_of pages)
unfolding image_of
pages_refused pages page_faults.NoSizes refused = ap (λ (o : Option PageFault). applied_or o pages) refused
pages_refused pages (page_faults.Order n) refused = ap (λ (o : Option PageFault). applied_or o pages) refused
pages_refused pages (page_faults.NotInLength n) refused = ap (λ (o : Option PageFault). applied_or o pages) refused
pages_refused pages page_faults.NoMemory refused = tt

-- the image that pages make of two empty files
pub pages_stored : (pages : List NumberedPage) (first image : Image) (store : Store) → first.main ≡ [] → first.side ≡ [] → page_fault pages ≡ None → image ≡ applied first pages → store ≡ fresh_store image → image_of pages ≡ Ok (newest_image store)
unfolding image_of
pages_stored pages first image store main side sound is made =
    let start : first ≡ empty_image = same_images first empty_image main side in
    let shown : newest_image store ≡ applied empty_image pages = ap newest_image made ∙ is ∙ ap (λ (im : Image). applied im pages) start in
    ap (λ (o : Option PageFault). applied_or o pages) sound ∙ ap (λ (im : Image). Ok im) (sym shown)

-- a text of another length is no name
pub name_refused : (before : Option (List ℕ)) (old new : Unread) (t : List ℕ) → text_at old ≡ Ok (t, new) → ¬ (IsName t) → name_at before old ≡ Err (faults.Order old.at)
unfolding name_at
name_refused before old new t e not =
    let read = text_passed old new t e in
    let other : has_name_length t ≡ false = false_from_ne_true (has_name_length t) (λ short.
    let size = and_parts (leb 1 (length t)) (leb (length t) 255) short in
    not (record { not_empty = omega (arith, leb-true 1 (length t) size.0); short = leb-true (length t) 255 size.1; no_nul = read.1 })) in
    ap (λ (r : Result (List ℕ × Unread) WordFault). in_snapshot r >>= λ name. cond (has_name_length name.0 && is_above before name.0) (Ok name) (Err (faults.Order old.at))) e
    ∙ ap (λ (b : Bool). cond (b && is_above before t) (Ok (t, new)) (Err (faults.Order old.at))) other

-- the fault of a log's header is that of the log
pub log_fails : (at : ℕ) (text : List ℕ) (fault : WalFault) → header_of text ≡ Err fault → Fails (of_wal fault) (log_pages at text)
log_fails at text wal_faults.Short e = read_none at text wal_faults.Short e
log_fails at text wal_faults.Magic e = read_none at text wal_faults.Magic e
log_fails at text wal_faults.Version e = read_none at text wal_faults.Version e
log_fails at text wal_faults.PageSize e = read_none at text wal_faults.PageSize e
log_fails at text wal_faults.HeaderSum e = read_none at text wal_faults.HeaderSum e
log_fails at text wal_faults.NoMemory e = tt

-- the pages that a reader took may be pending, and have their size
pub took_fit : (old : Reading) (pages : List NumberedPage) (new : Reading) → TookPages old pages new → AreLow pages × HaveSizes pages
took_fit old pages new took =
    let fit = pages_fit took.0 took.1.fit in
    (subst AreLow (sym took.2) fit.0, subst HaveSizes (sym took.2) fit.1)
