-- A snapshot is read exactly if the bytes are one.
use Rattle.std.proofs.Common.{◌≡◌, ◌≢◌, ℕ, zero, suc, ◌+◌, ◌<◌, ◌≤◌, ◌^◌, true, false, cond, eqb, leb, inl, inr, List, [], ◌∷◌, ◌++◌, length, Option, Some, None, Result, Ok, Err, OnOk, refl, sym, ap, subst, ◌∙◌, append_assoc, append-nil, ◌&&◌, arith, Ordering, Less, Equal, Greater}
use Rattle.std.specs.List.{AllByRecursion}
use Rattle.std.specs.Ordering.{match_ordering}
use Rattle.std.specs.List.Sorted.{IsStrictlySortedBy}
use Rattle.std.proofs.lemmas.Bool.{and_parts, and_from, leb-true, le-leb, eqb-true, cases_Bool, cond-true, cond-false}
use Rattle.std.proofs.lemmas.List.{nil_from_length}
use Rattle.dq_base.specs.declared.images.Image.{Image}
use Rattle.dq_base.specs.declared.pages.NumberedPage.{NumberedPage}
use Rattle.dq_base.specs.declared.pages.PageSet.{PageSet}
use Rattle.wire_words.specs.declared.fault.WordFault.{WordFault}
use Rattle.wire_words.specs.declared.value.Dialect.TheVariants.{Exact}
use Rattle.wire_words.specs.Items.{word, text, raw, blob, zeros_after, AreBytes}
use Rattle.wire_words.specs.Reading.{◌>>=◌, Unread, unread, word_at, text_at, blob_at}
use Rattle.wire_words.proofs.ReadBack.{bind_ok, passed}
use Rattle.wire_words.proofs.Passing.{Passed, passed_none, pass_none, passed_both, between, passed_first, passed_second, bytes_after, bytes_of, word_passed, word_stood, text_passed, text_stood, blob_passed, blob_stood}
use Rattle.log_commands.specs.Numbers.{AreLow}
use Rattle.log_commands.specs.Spelling.{IsTextName, HaveSizes}
use Rattle.page_store.specs.Store.{fresh_store, MarksWithin}
use Rattle.page_store.proofs.History.{no_mark_at_first}
use Rattle.database_state.specs.declared.fault.SnapFault.{SnapFault}
use Rattle.database_state.specs.declared.fault.SnapFault.TheVariants.{Format, Order, Tail}
use Rattle.database_state.specs.ByName.{Ascend}
use Rattle.database_state.specs.declared.database.Database.{Database}
use Rattle.database_state.specs.AsMap.{names_of}
use Rattle.database_state.specs.Machines as machines
use Rattle.database_state.specs.Machines.{AreApart, AreBelow, AllWithin, IsPendingLow, AllPendingLow, AllShort, IsMachine}
use Rattle.database_state.specs.Files.{Content}
use Rattle.database_state.specs.Logs.{IsShort, image_log, pending_log}
use Rattle.database_state.specs.Snapshot.{pending_text, content_text, contents_text, snapshot_text, IsKeptSet, IsKeptPending, IsKept, IsSnapshot}
use Rattle.database_state.specs.Databases.{contents_of}
use Rattle.database_state.specs.Restoring.{restored_from, Fails, in_snapshot, log_image, log_pending, has_name_length, is_above, name_at, image_at, pages_at, set_at, flagged, pending_at, content_at, contents_at, head_at, ended, snapshot_of}
use Rattle.database_state.proofs.WalTexts.{image_log_length}
use Rattle.database_state.proofs.ImagePages.{low_count}
use Rattle.database_state.proofs.Named.{compare}
use Rattle.database_state.proofs.Ordered.{all_above}
use Rattle.database_state.proofs.RestoredLaws.{image_read, image_took, pending_read, pending_took}

-- the value of a step that did not fail
step_ok : {A : Type 0} (r : Result A WordFault) (y : A) → in_snapshot r ≡ Ok y → r ≡ Ok y
step_ok (Ok x) y e = let same : x ≡ y = cc in rw same refl
step_ok (Err fault) y e = absurd cc

abbrev done : {A : Type 0} → A → Result A SnapFault
done x = Ok x

done_is : {A : Type 0} (x y : A) → done x ≡ done y → x ≡ y
done_is x y e = cc

-- ---- names

-- a name is above the one before, if there is one
abbrev Above : Option (List ℕ) → List ℕ → Type 0
Above None name = Unit {0}
Above (Some before) name = compare before name ≡ Less

test_of : (before : Option (List ℕ)) (name : List ℕ) → Above before name → is_above before name ≡ true
test_of None name above = refl
test_of (Some before) name above = ap (λ (o : Ordering). match_ordering o true false false) above

of_test : (before : Option (List ℕ)) (name : List ℕ) → is_above before name ≡ true → Above before name
of_test None name e = tt
of_test (Some before) name e = by (compare before name) e
  where
    by : (o : Ordering) → match_ordering o true false false ≡ true → o ≡ Less
    by Less e = refl
    by Equal e = absurd cc
    by Greater e = absurd cc

-- what is above a name is above what is before it
all_next : (before : Option (List ℕ)) (name : List ℕ) (names : List (List ℕ)) → Above before name → AllByRecursion (λ z. compare name z ≡ Less) names → AllByRecursion (Above before) names
all_next None name [] above all = tt
all_next None name (n ∷ names) above all = (tt, all_next None name names above all.1)
all_next (Some before) name names above all = all_above before name names above all

name_passed : (before : Option (List ℕ)) (old new : Unread) (t : List ℕ) → name_at before old ≡ Ok (t, new) → IsTextName t × Above before t × Passed (text t) old new
unfolding name_at
name_passed before old new t e =
    let a = bind_ok (in_snapshot (text_at old)) (λ name. cond (has_name_length name.0 && is_above before name.0) (Ok name) (Err (Order old.at))) (t, new) e in
    let kept = passed (has_name_length a.0.0 && is_above before a.0.0) (Order old.at) (Ok a.0) (t, new) a.2 in
    let tests = and_parts (has_name_length a.0.0) (is_above before a.0.0) kept.0 in
    let size = and_parts (leb 1 (length a.0.0)) (leb (length a.0.0) 255) tests.0 in
    let read = text_passed old a.0.1 a.0.0 (step_ok (text_at old) a.0 a.1) in
    let named : IsTextName a.0.0 = (record { not_empty = omega (arith, leb-true 1 (length a.0.0) size.0); short = leb-true (length a.0.0) 255 size.1; no_nul = read.1 }, read.0) in
    let all : IsTextName a.0.0 × Above before a.0.0 × Passed (text a.0.0) old a.0.1 = (named, of_test before a.0.0 tests.1, read.2) in
    subst (λ (x : List ℕ × Unread). IsTextName x.0 × Above before x.0 × Passed (text x.0) old x.1) (done_is a.0 (t, new) kept.1) all

name_stood : (before : Option (List ℕ)) (old new : Unread) (t : List ℕ) → IsTextName t → Above before t → Passed (text t) old new → name_at before old ≡ Ok (t, new)
unfolding name_at
name_stood before old new t name above p =
    let size : has_name_length t ≡ true = and_from (leb 1 (length t)) (leb (length t) 255) (le-leb 1 (length t) (omega (arith, name.0.not_empty))) (le-leb (length t) 255 name.0.short) in
    let test : (has_name_length t && is_above before t) ≡ true = and_from (has_name_length t) (is_above before t) size (test_of before t above) in
    ap (λ (r : Result (List ℕ × Unread) WordFault). in_snapshot r >>= λ name. cond (has_name_length name.0 && is_above before name.0) (Ok name) (Err (Order old.at))) (text_stood old new t name.1 name.0.no_nul p)
    ∙ cond-true (has_name_length t && is_above before t) (Ok (t, new)) (Err (Order old.at)) test

-- ---- the log of an image, and that of pending pages

-- the bytes of a blob
blob_bytes : (content : List ℕ) (old new : Unread) → Passed (blob content) old new → AreBytes old.bytes → AreBytes content
blob_bytes content old new p fits =
    let first = passed_first old new (word (length content)) (raw content) p in
    let rest = passed_second old new (word (length content)) (raw content) p in
    bytes_of content (zeros_after (length content)) (between old (word (length content)) (raw content) new) new rest (bytes_after (word (length content)) old (between old (word (length content)) (raw content) new) first fits)

image_passed : (old new : Unread) (image : Image) → AreBytes old.bytes → image_at old ≡ Ok (image, new) → IsShort image × Passed (blob (image_log image)) old new
unfolding image_at
image_passed old new image fits e =
    let a = bind_ok (in_snapshot (blob_at Exact old)) (λ log. log_image old.at log.0 >>= λ im. Ok (im, log.1)) (image, new) e in
    let b = bind_ok (log_image old.at a.0.0) (λ im. Ok (im, a.0.1)) (image, new) a.2 in
    let p = blob_passed old a.0.1 a.0.0 fits (step_ok (blob_at Exact old) a.0 a.1) in
    let took = image_took old.at a.0.0 b.0 (blob_bytes a.0.0 old a.0.1 p.1 fits) b.1 in
    let made : Image × Unread = (b.0, a.0.1) in
    let all : IsShort b.0 × Passed (blob (image_log b.0)) old a.0.1 = (took.short, subst (λ (x : List ℕ). Passed (blob x) old a.0.1) took.text_is p.1) in
    subst (λ (x : Image × Unread). IsShort x.0 × Passed (blob (image_log x.0)) old x.1) (done_is made (image, new) b.2) all

image_stood : (old new : Unread) (image : Image) → IsShort image → Passed (blob (image_log image)) old new → image_at old ≡ Ok (image, new)
unfolding image_at
image_stood old new image short p =
    let few = low_count image short in
    let len = image_log_length image short in
    ap (λ (r : Result (List ℕ × Unread) WordFault). in_snapshot r >>= λ log. log_image old.at log.0 >>= λ im. Ok (im, log.1)) (blob_stood old new (image_log image) (omega arith) p)
    ∙ ap (λ (r : Result Image SnapFault). r >>= λ im. Ok (im, new)) (image_read old.at image short)

pages_passed : (old new : Unread) (pages : List NumberedPage) → AreBytes old.bytes → pages_at old ≡ Ok (pages, new)
    → AreLow pages × HaveSizes pages × (length (pending_log pages) < 2 ^ 64) × Passed (blob (pending_log pages)) old new
unfolding pages_at
pages_passed old new pages fits e =
    let a = bind_ok (in_snapshot (blob_at Exact old)) (λ log. log_pending old.at log.0 >>= λ ps. Ok (ps, log.1)) (pages, new) e in
    let b = bind_ok (log_pending old.at a.0.0) (λ ps. Ok (ps, a.0.1)) (pages, new) a.2 in
    let p = blob_passed old a.0.1 a.0.0 fits (step_ok (blob_at Exact old) a.0 a.1) in
    let took = pending_took old.at a.0.0 b.0 (blob_bytes a.0.0 old a.0.1 p.1 fits) b.1 in
    let made : List NumberedPage × Unread = (b.0, a.0.1) in
    let all : AreLow b.0 × HaveSizes b.0 × (length (pending_log b.0) < 2 ^ 64) × Passed (blob (pending_log b.0)) old a.0.1 =
    (took.low, took.sizes, subst (λ (x : List ℕ). length x < 2 ^ 64) took.text_is p.0, subst (λ (x : List ℕ). Passed (blob x) old a.0.1) took.text_is p.1) in
    subst (λ (x : List NumberedPage × Unread). AreLow x.0 × HaveSizes x.0 × (length (pending_log x.0) < 2 ^ 64) × Passed (blob (pending_log x.0)) old x.1) (done_is made (pages, new) b.2) all

pages_stood : (old new : Unread) (pages : List NumberedPage) → AreLow pages → HaveSizes pages → length (pending_log pages) < 2 ^ 64 → Passed (blob (pending_log pages)) old new → pages_at old ≡ Ok (pages, new)
unfolding pages_at
pages_stood old new pages low sizes long p =
    ap (λ (r : Result (List ℕ × Unread) WordFault). in_snapshot r >>= λ log. log_pending old.at log.0 >>= λ ps. Ok (ps, log.1)) (blob_stood old new (pending_log pages) long p)
    ∙ ap (λ (r : Result (List NumberedPage) SnapFault). r >>= λ ps. Ok (ps, new)) (pending_read old.at pages low sizes)

-- ---- what is pending

abbrev set_text : PageSet → List ℕ
set_text set = word set.tx ++ blob (pending_log set.pages)

set_passed : (old new : Unread) (set : PageSet) → AreBytes old.bytes → set_at old ≡ Ok (set, new) → IsKeptSet set × Passed (set_text set) old new
unfolding set_at
set_passed old new set fits e =
    let a = bind_ok (in_snapshot (word_at old)) (λ tx. pages_at tx.1 >>= λ pages. Ok (record { tx = tx.0; pages = pages.0 }, pages.1)) (set, new) e in
    let b = bind_ok (pages_at a.0.1) (λ pages. Ok (record { tx = a.0.0; pages = pages.0 }, pages.1)) (set, new) a.2 in
    let tx = word_passed old a.0.1 a.0.0 fits (step_ok (word_at old) a.0 a.1) in
    let pages = pages_passed a.0.1 b.0.1 b.0.0 (bytes_after (word a.0.0) old a.0.1 tx.1 fits) b.1 in
    let made : PageSet × Unread = (record { tx = a.0.0; pages = b.0.0 }, b.0.1) in
    let all : IsKeptSet made.0 × Passed (set_text made.0) old made.1 =
    (record { tx = tx.0; low = pages.0; sizes = pages.1; fits = pages.2 }, passed_both old a.0.1 b.0.1 (word a.0.0) (blob (pending_log b.0.0)) tx.1 pages.3) in
    subst (λ (x : PageSet × Unread). IsKeptSet x.0 × Passed (set_text x.0) old x.1) (done_is made (set, new) b.2) all

set_stood : (old new : Unread) (set : PageSet) → IsKeptSet set → Passed (set_text set) old new → set_at old ≡ Ok (set, new)
unfolding set_at
set_stood old new set kept p =
    let rest : List ℕ = blob (pending_log set.pages) in
    let mid = between old (word set.tx) rest new in
    ap (λ (r : Result (ℕ × Unread) WordFault). in_snapshot r >>= λ tx. pages_at tx.1 >>= λ pages. Ok (record { tx = tx.0; pages = pages.0 }, pages.1)) (word_stood old mid set.tx kept.tx (passed_first old new (word set.tx) rest p))
    ∙ ap (λ (r : Result (List NumberedPage × Unread) SnapFault). r >>= λ pages. Ok (record { tx = set.tx; pages = pages.0 }, pages.1)) (pages_stood mid new set.pages kept.low kept.sizes kept.fits (passed_second old new (word set.tx) rest p))

-- what followed a flag
record PassedFlag (flag : ℕ) (pending : Option PageSet) (mid new : Unread) : Type 0 where
  rest : List ℕ
  spelled : word flag ++ rest ≡ pending_text pending
  kept : IsKeptPending pending
  stood : Passed rest mid new

flag_passed : (at flag : ℕ) (mid new : Unread) (pending : Option PageSet) → AreBytes mid.bytes → flagged at flag mid ≡ Ok (pending, new) → PassedFlag flag pending mid new
flag_passed at flag mid new pending fits e =
    elim (cases_Bool (eqb flag 0)) [
      | inl zero_flag ↦
          let is : done (none_set, mid) ≡ Ok (pending, new) = sym (cond-true (eqb flag 0) (Ok (none_set, mid)) others zero_flag) ∙ e in
          subst (λ (x : Option PageSet × Unread). PassedFlag flag x.0 mid x.1) (done_is (none_set, mid) (pending, new) is)
          (record { rest = []; spelled = append-nil (word flag) ∙ ap word (eqb-true flag 0 zero_flag); kept = tt; stood = pass_none mid })
      | inr other ↦
          let later : others ≡ Ok (pending, new) = sym (cond-false (eqb flag 0) (Ok (none_set, mid)) others other) ∙ e in
          elim (cases_Bool (eqb flag 1)) [
            | inl one_flag ↦
                let read : set_read ≡ Ok (pending, new) = sym (cond-true (eqb flag 1) set_read (Err (Order at)) one_flag) ∙ later in
                let a = bind_ok (set_at mid) (λ set. Ok (Some set.0, set.1)) (pending, new) read in
                let p = set_passed mid a.0.1 a.0.0 fits a.1 in
                let made : Option PageSet × Unread = (Some a.0.0, a.0.1) in
                subst (λ (x : Option PageSet × Unread). PassedFlag flag x.0 mid x.1) (done_is made (pending, new) a.2)
                (record { rest = set_text a.0.0; spelled = ap (λ (n : ℕ). word n ++ set_text a.0.0) (eqb-true flag 1 one_flag); kept = p.0; stood = p.1 })
            | inr neither ↦
                absurd (let refused : Err (Order at) ≡ done (pending, new) = sym (cond-false (eqb flag 1) set_read (Err (Order at)) neither) ∙ later in cc)
          ]
    ]
  where
    none_set : Option PageSet
    none_set = None

    set_read : Result (Option PageSet × Unread) SnapFault
    set_read = set_at mid >>= λ set. Ok (Some set.0, set.1)

    others : Result (Option PageSet × Unread) SnapFault
    others = cond (eqb flag 1) set_read (Err (Order at))

pending_passed : (old new : Unread) (pending : Option PageSet) → AreBytes old.bytes → pending_at old ≡ Ok (pending, new) → IsKeptPending pending × Passed (pending_text pending) old new
unfolding pending_at
pending_passed old new pending fits e =
    let a = bind_ok (in_snapshot (word_at old)) (λ flag. flagged old.at flag.0 flag.1) (pending, new) e in
    let flag = word_passed old a.0.1 a.0.0 fits (step_ok (word_at old) a.0 a.1) in
    let p = flag_passed old.at a.0.0 a.0.1 new pending (bytes_after (word a.0.0) old a.0.1 flag.1 fits) a.2 in
    (p.kept, subst (λ (x : List ℕ). Passed x old new) p.spelled (passed_both old a.0.1 new (word a.0.0) p.rest flag.1 p.stood))

pending_stood : (old new : Unread) (pending : Option PageSet) → IsKeptPending pending → Passed (pending_text pending) old new → pending_at old ≡ Ok (pending, new)
unfolding pending_at
pending_stood old new None kept p =
    ap (λ (r : Result (ℕ × Unread) WordFault). in_snapshot r >>= λ flag. flagged old.at flag.0 flag.1) (word_stood old new 0 (omega arith) p)
pending_stood old new (Some set) kept p =
    let mid = between old (word 1) (set_text set) new in
    ap (λ (r : Result (ℕ × Unread) WordFault). in_snapshot r >>= λ flag. flagged old.at flag.0 flag.1) (word_stood old mid 1 (omega arith) (passed_first old new (word 1) (set_text set) p))
    ∙ ap (λ (r : Result (PageSet × Unread) SnapFault). r >>= λ s. Ok (Some s.0, s.1)) (set_stood mid new set kept (passed_second old new (word 1) (set_text set) p))

-- ---- a database

content_passed : (before : Option (List ℕ)) (old new : Unread) (content : Content) → AreBytes old.bytes → content_at before old ≡ Ok (content, new) → IsKept content × Above before content.name × Passed (content_text content) old new
unfolding content_at
content_passed before old new content fits e =
    let a = bind_ok (name_at before old) (λ name. image_at name.1 >>= λ image. pending_at image.1 >>= λ pending. Ok (record { name = name.0; image = image.0; pending = pending.0 }, pending.1)) (content, new) e in
    let b = bind_ok (image_at a.0.1) (λ image. pending_at image.1 >>= λ pending. Ok (record { name = a.0.0; image = image.0; pending = pending.0 }, pending.1)) (content, new) a.2 in
    let c = bind_ok (pending_at b.0.1) (λ pending. Ok (record { name = a.0.0; image = b.0.0; pending = pending.0 }, pending.1)) (content, new) b.2 in
    let name = name_passed before old a.0.1 a.0.0 a.1 in
    let rest = bytes_after (text a.0.0) old a.0.1 name.2 fits in
    let image = image_passed a.0.1 b.0.1 b.0.0 rest b.1 in
    let pending = pending_passed b.0.1 c.0.1 c.0.0 (bytes_after (blob (image_log b.0.0)) a.0.1 b.0.1 image.1 rest) c.1 in
    let made : Content × Unread = (record { name = a.0.0; image = b.0.0; pending = c.0.0 }, c.0.1) in
    let back = passed_both a.0.1 b.0.1 c.0.1 (blob (image_log b.0.0)) (pending_text c.0.0) image.1 pending.1 in
    let all : IsKept made.0 × Above before made.0.name × Passed (content_text made.0) old made.1 =
    (record { name = name.0; image = image.0; pending = pending.0 }, name.1, passed_both old a.0.1 c.0.1 (text a.0.0) (blob (image_log b.0.0) ++ pending_text c.0.0) name.2 back) in
    subst (λ (x : Content × Unread). IsKept x.0 × Above before x.0.name × Passed (content_text x.0) old x.1) (done_is made (content, new) c.2) all

content_stood : (before : Option (List ℕ)) (old new : Unread) (content : Content) → IsKept content → Above before content.name → Passed (content_text content) old new → content_at before old ≡ Ok (content, new)
unfolding content_at
content_stood before old new content kept above p =
    let name : List ℕ = text content.name in
    let image : List ℕ = blob (image_log content.image) in
    let pending : List ℕ = pending_text content.pending in
    let one = between old name (image ++ pending) new in
    let back = passed_second old new name (image ++ pending) p in
    let two = between one image pending new in
    ap (λ (r : Result (List ℕ × Unread) SnapFault). r >>= λ name. image_at name.1 >>= λ image. pending_at image.1 >>= λ pending. Ok (record { name = name.0; image = image.0; pending = pending.0 }, pending.1))
    (name_stood before old one content.name kept.name above (passed_first old new name (image ++ pending) p))
    ∙ ap (λ (r : Result (Image × Unread) SnapFault). r >>= λ image. pending_at image.1 >>= λ pending. Ok (record { name = content.name; image = image.0; pending = pending.0 }, pending.1))
    (image_stood one two content.image kept.image (passed_first one new image pending back))
    ∙ ap (λ (r : Result (Option PageSet × Unread) SnapFault). r >>= λ pending. Ok (record { name = content.name; image = content.image; pending = pending.0 }, pending.1))
    (pending_stood two new content.pending kept.pending (passed_second one new image pending back))

-- ---- databases

record PassedContents (count : ℕ) (before : Option (List ℕ)) (contents : List Content) (old new : Unread) : Type 0 where
  many : length contents ≡ count
  kept : AllByRecursion IsKept contents
  above : AllByRecursion (Above before) (names_of contents)
  in_order : Ascend (names_of contents)
  stood : Passed (contents_text contents) old new

contents_passed : (count : ℕ) (before : Option (List ℕ)) (old new : Unread) (contents : List Content) → AreBytes old.bytes → contents_at count before old ≡ Ok (contents, new) → PassedContents count before contents old new
unfolding contents_at IsStrictlySortedBy
contents_passed zero before old new contents fits e =
    subst (λ (x : List Content × Unread). PassedContents 0 before x.0 old x.1) (done_is ([], old) (contents, new) e) (record { many = refl; kept = tt; above = tt; in_order = tt; stood = pass_none old })
contents_passed (suc count) before old new contents fits e =
    let a = bind_ok (content_at before old) (λ first. contents_at count (Some first.0.name) first.1 >>= λ others. Ok (first.0 ∷ others.0, others.1)) (contents, new) e in
    let c = a.0.0 in
    let mid = a.0.1 in
    let b = bind_ok (contents_at count (Some c.name) mid) (λ others. Ok (c ∷ others.0, others.1)) (contents, new) a.2 in
    let first = content_passed before old mid c fits a.1 in
    let others = contents_passed count (Some c.name) mid b.0.1 b.0.0 (bytes_after (content_text c) old mid first.2 fits) b.1 in
    let made : List Content × Unread = (c ∷ b.0.0, b.0.1) in
    subst (λ (x : List Content × Unread). PassedContents (suc count) before x.0 old x.1) (done_is made (contents, new) b.2)
    (record {
      many = ap suc others.many;
      kept = (first.0, others.kept);
      above = (first.1, all_next before c.name (names_of b.0.0) first.1 others.above);
      in_order = (others.above, others.in_order);
      stood = passed_both old mid b.0.1 (content_text c) (contents_text b.0.0) first.2 others.stood;
    })

contents_stood : (before : Option (List ℕ)) (contents : List Content) (old new : Unread) → AllByRecursion IsKept contents → AllByRecursion (Above before) (names_of contents) → Ascend (names_of contents) → Passed (contents_text contents) old new
    → contents_at (length contents) before old ≡ Ok (contents, new)
unfolding contents_at IsStrictlySortedBy
contents_stood before [] old new kept above order p = ap (λ (left : Unread). Ok ([], left)) (passed_none old new p)
contents_stood before (c ∷ contents) old new kept above order p =
    let mid = between old (content_text c) (contents_text contents) new in
    ap (λ (r : Result (Content × Unread) SnapFault). r >>= λ first. contents_at (length contents) (Some first.0.name) first.1 >>= λ others. Ok (first.0 ∷ others.0, others.1))
    (content_stood before old mid c kept.0 above.0 (passed_first old new (content_text c) (contents_text contents) p))
    ∙ ap (λ (r : Result (List Content × Unread) SnapFault). r >>= λ others. Ok (c ∷ others.0, others.1))
    (contents_stood (Some c.name) contents mid new kept.1 order.0 order.1 (passed_second old new (content_text c) (contents_text contents) p))

-- ---- the whole

head_passed : (old new : Unread) (count : ℕ) → AreBytes old.bytes → head_at old ≡ Ok (count, new) → (count < 2 ^ 64) × Passed (word 1 ++ word count) old new
unfolding head_at
head_passed old new count fits e =
    let a = bind_ok (in_snapshot (word_at old)) (λ format. cond (eqb format.0 1) (in_snapshot (word_at format.1)) (Err Format)) (count, new) e in
    let kept = passed (eqb a.0.0 1) Format (in_snapshot (word_at a.0.1)) (count, new) a.2 in
    let format = word_passed old a.0.1 a.0.0 fits (step_ok (word_at old) a.0 a.1) in
    let number = word_passed a.0.1 new count (bytes_after (word a.0.0) old a.0.1 format.1 fits) (step_ok (word_at a.0.1) (count, new) kept.1) in
    (number.0, passed_both old a.0.1 new (word 1) (word count) (subst (λ (n : ℕ). Passed (word n) old a.0.1) (eqb-true a.0.0 1 kept.0) format.1) number.1)

head_stood : (old new : Unread) (count : ℕ) → count < 2 ^ 64 → Passed (word 1 ++ word count) old new → head_at old ≡ Ok (count, new)
unfolding head_at
head_stood old new count fits p =
    let mid = between old (word 1) (word count) new in
    ap (λ (r : Result (ℕ × Unread) WordFault). in_snapshot r >>= λ format. cond (eqb format.0 1) (in_snapshot (word_at format.1)) (Err Format)) (word_stood old mid 1 (omega arith) (passed_first old new (word 1) (word count) p))
    ∙ ap (λ (r : Result (ℕ × Unread) WordFault). in_snapshot r) (word_stood mid new count fits (passed_second old new (word 1) (word count) p))

all_above_none : (names : List (List ℕ)) → AllByRecursion (Above None) names
all_above_none [] = tt
all_above_none (n ∷ names) = (tt, all_above_none names)

-- what is read is encoded so
pub snapshot_passed : (bytes : List ℕ) (contents : List Content) → AreBytes bytes → snapshot_of bytes ≡ Ok contents → IsSnapshot contents bytes
unfolding snapshot_of
snapshot_passed bytes contents fits e =
    let a = bind_ok (head_at (unread bytes)) (λ count. contents_at count.0 None count.1 >>= ended) contents e in
    let b = bind_ok (contents_at a.0.0 None a.0.1) ended contents a.2 in
    let kept = passed (eqb (length b.0.1.bytes) 0) Tail (Ok b.0.0) contents b.2 in
    let head = head_passed (unread bytes) a.0.1 a.0.0 fits a.1 in
    let rest = contents_passed a.0.0 None a.0.1 b.0.1 b.0.0 (bytes_after (word 1 ++ word a.0.0) (unread bytes) a.0.1 head.1 fits) b.1 in
    let none : b.0.1.bytes ≡ [] = nil_from_length b.0.1.bytes (eqb-true (length b.0.1.bytes) 0 kept.0) in
    let whole = passed_both (unread bytes) a.0.1 b.0.1 (word 1 ++ word a.0.0) (contents_text b.0.0) head.1 rest.stood in
    let parts : bytes ≡ snapshot_text b.0.0 =
    whole.parts ∙ ap (λ (x : List ℕ). ((word 1 ++ word a.0.0) ++ contents_text b.0.0) ++ x) none ∙ append-nil ((word 1 ++ word a.0.0) ++ contents_text b.0.0)
    ∙ append_assoc (word 1) (word a.0.0) (contents_text b.0.0) ∙ ap (λ (n : ℕ). word 1 ++ (word n ++ contents_text b.0.0)) (sym rest.many) in
    subst (λ (cs : List Content). IsSnapshot cs bytes) (done_is b.0.0 contents kept.1)
    (record { kept = rest.kept; in_order = rest.in_order; count = subst (λ (n : ℕ). n < 2 ^ 64) (sym rest.many) head.0; parts = parts })

-- what is encoded so is read
pub snapshot_stood : (bytes : List ℕ) (contents : List Content) → IsSnapshot contents bytes → snapshot_of bytes ≡ Ok contents
unfolding snapshot_of
snapshot_stood bytes contents s =
    let end : Unread = record { at = length bytes; bytes = [] } in
    let front : List ℕ = word 1 ++ word (length contents) in
    let parts : bytes ≡ front ++ contents_text contents = s.parts ∙ sym (append_assoc (word 1) (word (length contents)) (contents_text contents)) in
    let len : length bytes ≡ length (front ++ contents_text contents) = ap length parts in
    let p : Passed (front ++ contents_text contents) (unread bytes) end = record { parts = parts ∙ sym (append-nil (front ++ contents_text contents)); place = omega (arith, len) } in
    let mid = between (unread bytes) front (contents_text contents) end in
    ap (λ (r : Result (ℕ × Unread) SnapFault). r >>= λ count. contents_at count.0 None count.1 >>= ended) (head_stood (unread bytes) mid (length contents) s.count (passed_first (unread bytes) end front (contents_text contents) p))
    ∙ ap (λ (r : Result (List Content × Unread) SnapFault). r >>= ended) (contents_stood None contents mid end s.kept (all_above_none (names_of contents)) s.in_order (passed_second (unread bytes) end front (contents_text contents) p))

-- ---- the state machine that is read

pub restored_shown : (place : ℕ) (contents : List Content) → contents_of (restored_from place contents) ≡ contents
restored_shown place [] = refl
restored_shown place (c ∷ contents) = ap (λ (cs : List Content). c ∷ cs) (restored_shown (suc place) contents)

-- ---- the state machine that is written

same_names : (ds : List Database) → names_of (contents_of ds) ≡ machines.names_of ds
same_names [] = refl
same_names (d ∷ ds) = ap (λ (ns : List (List ℕ)). d.name ∷ ns) (same_names ds)

as_many : (ds : List Database) → length (contents_of ds) ≡ length ds
as_many [] = refl
as_many (d ∷ ds) = ap suc (as_many ds)

pub machine_snapshot : (ds : List Database) (bytes : List ℕ) → IsMachine ds → bytes ≡ snapshot_text (contents_of ds) → AllByRecursion IsKept (contents_of ds) → length ds < 2 ^ 64 → IsSnapshot (contents_of ds) bytes
machine_snapshot ds bytes m parts kept count = record {
  kept = kept;
  in_order = subst Ascend (sym (same_names ds)) m.in_order;
  count = omega (arith, as_many ds, count);
  parts = parts;
}

pub snapshot_appended : {F : Type 0} (r : Result (Unit {0}) F) (ds : List Database) → IsMachine ds → OnOk r (AllByRecursion IsKept (contents_of ds)) → length ds < 2 ^ 64 → OnOk r (IsSnapshot (contents_of ds) (snapshot_text (contents_of ds)))
snapshot_appended (Err fault) ds m kept count = tt
snapshot_appended (Ok done) ds m kept count = machine_snapshot ds (snapshot_text (contents_of ds)) m refl kept count

-- ---- what a call gives

pub fails_only : (fault : SnapFault) (bytes : List ℕ) → Fails fault (snapshot_of bytes) → (contents : List Content) → IsSnapshot contents bytes → Fails fault (done contents)
fails_only fault bytes fails contents s = subst (λ (reading : Result (List Content) SnapFault). Fails fault reading) (snapshot_stood bytes contents s) fails

restored_names : (place : ℕ) (contents : List Content) → machines.names_of (restored_from place contents) ≡ names_of contents
restored_names place [] = refl
restored_names place (c ∷ contents) = ap (λ (ns : List (List ℕ)). c.name ∷ ns) (restored_names (suc place) contents)

restored_count : (place : ℕ) (contents : List Content) → length (restored_from place contents) ≡ length contents
restored_count place [] = refl
restored_count place (c ∷ contents) = ap suc (restored_count (suc place) contents)

-- the places are in the order of the databases
restored_below : (place n : ℕ) (contents : List Content) → place + length contents ≤ n → AreBelow n (restored_from place contents)
restored_below place n [] le = tt
restored_below place n (c ∷ contents) le = (omega arith, restored_below (suc place) n contents (omega arith))

restored_other : (n place : ℕ) (contents : List Content) → n < place → AllByRecursion (λ e. n ≢ e.place) (restored_from place contents)
restored_other n place [] lt = tt
restored_other n place (c ∷ contents) lt = (λ e. absurd (omega arith), restored_other n (suc place) contents (omega arith))

restored_apart : (place : ℕ) (contents : List Content) → AreApart (restored_from place contents)
restored_apart place [] = tt
restored_apart place (c ∷ contents) = (restored_other place (suc place) contents (omega arith), restored_apart (suc place) contents)

none_is_mark : (m : ℕ) → None ≡ Some m → ⊥
none_is_mark m e = cc

-- no mark is live in a store that was just made
fresh_marks : (image : Image) → MarksWithin (fresh_store image)
fresh_marks image id m e = absurd (none_is_mark m (sym (no_mark_at_first id) ∙ e))

restored_marks : (place : ℕ) (contents : List Content) → AllWithin (restored_from place contents)
restored_marks place [] = tt
restored_marks place (c ∷ contents) = (fresh_marks c.image, restored_marks (suc place) contents)

kept_low : (pending : Option PageSet) → IsKeptPending pending → IsPendingLow pending
kept_low None kept = tt
kept_low (Some set) kept = kept.low

restored_low : (place : ℕ) (contents : List Content) → AllByRecursion IsKept contents → AllPendingLow (restored_from place contents)
restored_low place [] kept = tt
restored_low place (c ∷ contents) kept = (kept_low c.pending kept.0.pending, restored_low (suc place) contents kept.1)

restored_short : (place : ℕ) (contents : List Content) → AllByRecursion IsKept contents → AllShort (restored_from place contents)
restored_short place [] kept = tt
restored_short place (c ∷ contents) kept = (kept.0.image, restored_short (suc place) contents kept.1)

-- what is read of a snapshot is a state machine
pub restored_machine : (contents : List Content) (bytes : List ℕ) → IsSnapshot contents bytes → IsMachine (restored_from 0 contents) × AllShort (restored_from 0 contents)
restored_machine contents bytes s = (
  record {
    in_order = subst Ascend (sym (restored_names 0 contents)) s.in_order;
    below = restored_below 0 (length (restored_from 0 contents)) contents (omega (arith, restored_count 0 contents));
    apart = restored_apart 0 contents;
    marks = restored_marks 0 contents;
    numbers = restored_low 0 contents s.kept;
  },
  restored_short 0 contents s.kept,
)
