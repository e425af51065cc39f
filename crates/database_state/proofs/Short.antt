-- No file of a state machine is longer than a sizes page may state.
use Rattle.std.proofs.Common.{◌≡◌, ℕ, zero, suc, ◌-◌, ◌≤◌, ◌<◌, Bool, true, false, cond, List, [], ◌∷◌, ◌++◌, length, take, drop, map, set, get_or, Option, None, Result, Ok, Err, sym, ap, subst, ◌∙◌, arith, Ordering, Less, Equal, Greater}
use Rattle.std.specs.Prelude.{IfOk, OnOk, OnErr}
use Rattle.std.specs.List.{AllByRecursion}
use Rattle.std.specs.Ordering.{match_ordering}
use Rattle.std.proofs.lemmas.Bool.{and_parts, leb-true}
use Rattle.dq_base.specs.declared.images.Image.{Image}
use Rattle.dq_base.specs.declared.pages.NumberedPage.{NumberedPage}
use Rattle.dq_base.specs.Images.{resized, is_main, is_side}
use Rattle.dq_base.specs.Applying.{is_sizes, stated_main, stated_side, longest_file, last_page, lengths_stated, lengths_in, applied, page_fault}
use Rattle.dq_base.proofs.FileBytes.{length-resized}
use Rattle.dq_base.proofs.PutPages.{length-put_pages}
use Rattle.page_store.specs.Store.{Store, newest_image, committed, pinned, released}
use Rattle.page_store.specs.Log.{IsSized}
use Rattle.page_store.proofs.SoundSets.{applied_main, applied_side}
use Rattle.database_state.specs.declared.database.Database.{Database}
use Rattle.database_state.specs.declared.pin.PinFault.{PinFault}
use Rattle.database_state.specs.ByName.{at_name, change_first}
use Rattle.database_state.specs.Databases.{has_name, opened, undone, moved, changed, with_store}
use Rattle.database_state.specs.Logs.{IsShort}
use Rattle.database_state.specs.Machines.{AllShort, StaysShort}
use Rattle.database_state.specs.Pins.{Pinning, has_place, without_pin, IsPin}
use Rattle.database_state.proofs.Contents.{committed_image, checkpointed_image}
use Rattle.database_state.proofs.Named.{compare}
use Rattle.database_state.proofs.StatedLaw.{fault_free}

-- ---- a commit

sizes_short : (p : NumberedPage) → is_sizes p ≡ true → (stated_main p.page ≤ longest_file) × (stated_side p.page ≤ longest_file)
unfolding is_sizes
sizes_short p e =
    let all = and_parts _ _ e in
    (leb-true (stated_main p.page) longest_file (and_parts _ _ all.0).1, leb-true (stated_side p.page) longest_file all.1)

-- an image to which pages were applied is short
pub applied_short : (image : Image) (pages : List NumberedPage) → page_fault pages ≡ None → AllByRecursion IsSized pages → IsShort (applied image pages)
applied_short image pages sound sized =
    let last = fault_free (last_page pages) (take (length pages - 1) pages) sound in
    let short = sizes_short last.0 last.2 in
    let main_is : (lengths_in pages).main ≡ stated_main last.0.page = ap (λ (o : Option NumberedPage). (lengths_stated o).main) last.1 in
    let side_is : (lengths_in pages).side ≡ stated_side last.0.page = ap (λ (o : Option NumberedPage). (lengths_stated o).side) last.1 in
    let main : length (applied image pages).main ≡ (lengths_in pages).main =
    ap length (applied_main image pages sound) ∙ length-put_pages is_main pages (resized (lengths_in pages).main image.main) sized ∙ length-resized (lengths_in pages).main image.main in
    let side : length (applied image pages).side ≡ (lengths_in pages).side =
    ap length (applied_side image pages sound) ∙ length-put_pages is_side pages (resized (lengths_in pages).side image.side) sized ∙ length-resized (lengths_in pages).side image.side in
    record { main = omega (arith, main, main_is, short.0); side = omega (arith, side, side_is, short.1) }

pub commit_short : (old new : Store) (pages : List NumberedPage) → new ≡ committed old pages → page_fault pages ≡ None → AllByRecursion IsSized pages → StaysShort old new
commit_short old new pages is sound sized before =
    subst IsShort (sym (committed_image old pages) ∙ sym (ap newest_image is)) (applied_short (newest_image old) pages sound sized)

-- ---- lists of databases

empty_short : IsShort (record { main = []; side = [] })
empty_short = record { main = omega arith; side = omega arith }

-- a change that keeps the newest image, or makes a short one of a short one
abbrev EachShort : (Database → Database) → Type 0
EachShort f = (d : Database) → IsShort (newest_image d.store) → IsShort (newest_image (f d).store)

pub short_set : (ds : List Database) (place : ℕ) (d : Database) → AllShort ds → IsShort (newest_image d.store) → AllShort (set ds place d)
short_set [] place d all here = tt
short_set (x ∷ ds) zero d all here = (here, all.1)
short_set (x ∷ ds) (suc place) d all here = (all.0, short_set ds place d all.1 here)

pub short_at_place : (ds : List Database) (place : ℕ) (d : Database) → place < length ds → AllShort ds → IsShort (newest_image (get_or ds place d).store)
short_at_place [] place d lt all = absurd (omega arith)
short_at_place (x ∷ ds) zero d lt all = all.0
short_at_place (x ∷ ds) (suc place) d lt all = short_at_place ds place d (omega arith) all.1

module _ (f : Database → Database) (each : EachShort f) where
  pub short_at : (new : Database) (name : List ℕ) → IsShort (newest_image (f new).store) → (ds : List Database) → AllShort ds → AllShort (at_name (λ (d : Database). d.name) new name f ds)
  unfolding at_name
  short_at new name first [] all = (first, tt)
  short_at new name first (d ∷ ds) all =
      let Q : Ordering → Type 0 = λ o. AllShort (match_ordering o (f new ∷ d ∷ ds) (f d ∷ ds) (d ∷ at_name (λ (d : Database). d.name) new name f ds)) in
      elim (compare name d.name) as Q [
        | Less ↦ (first, all)
        | Equal ↦ (each d all.0, all.1)
        | Greater ↦ (all.0, short_at new name first ds all.1)
      ]

  pub short_first : (test : Database → Bool) (ds : List Database) → AllShort ds → AllShort (change_first test f ds)
  unfolding change_first
  short_first test [] all = tt
  short_first test (d ∷ ds) all =
      let Q : Bool → Type 0 = λ b. AllShort (cond b (f d ∷ ds) (d ∷ change_first test f ds)) in
      elim (test d) as Q [
        | true ↦ (each d all.0, all.1)
        | false ↦ (all.0, short_first test ds all.1)
      ]

  pub short_each : (ds : List Database) → AllShort ds → AllShort (map f ds)
  short_each [] all = tt
  short_each (d ∷ ds) all = (each d all.0, short_each ds all.1)

-- ---- commands that commit nothing

pub opened_short : (name : List ℕ) (old new : List Database) → new ≡ changed name (λ d. d) old → AllShort old → AllShort new
opened_short name old new is all = subst AllShort (sym is) (short_at (λ d. d) (λ d h. h) (opened (length old) name) name empty_short old all)

pub undone_short : (tx : ℕ) (old new : List Database) → new ≡ map (undone tx) old → AllShort old → AllShort new
undone_short tx old new is all = subst AllShort (sym is) (short_each (undone tx) (λ d h. h) old all)

pub moved_short : (name : List ℕ) (old new : List Database) → new ≡ change_first (has_name name) moved old → AllShort old → AllShort new
moved_short name old new is all =
    subst AllShort (sym is) (short_first (λ d. moved d) (λ d h. subst IsShort (sym (checkpointed_image d.store)) h) (has_name name) old all)

-- ---- calls of a state machine

pub short_after : {F : Type 0} (result : Result (Unit {0}) F) (old new : List Database) → OnOk result (AllShort old → AllShort new) → OnErr result (new ≡ old) → AllShort old → AllShort new
short_after (Ok done) old new ok kept all = ok all
short_after (Err fault) old new ok kept all = subst AllShort (sym kept) all

pub pin_short : (result : Result Pinning PinFault) (name : List ℕ) (old new : List Database) → AllShort old → IfOk result (IsPin name old new) → OnErr result (new ≡ old) → AllShort new
pin_short (Ok pin) name old new all is kept = subst AllShort (sym is.now) (short_first (λ d. with_store (pinned d.store pin.mark) d) (λ d h. h) (has_name name) old all)
pin_short (Err fault) name old new all is kept = subst AllShort (sym kept) all

pub release_short : (pin : Pinning) (old : List Database) → AllShort old → AllShort (without_pin pin old)
release_short pin old all = short_first (λ d. with_store (released d.store pin.mark) d) (λ d h. h) (has_place pin.place) old all

-- a call that opens a database
pub opened_after : {F : Type 0} (r : Result (Unit {0}) F) (name : List ℕ) (old new : List Database) → OnOk r (new ≡ changed name (λ d. d) old) → OnOk r (AllShort old → AllShort new)
opened_after (Ok done) name old new ok = λ all. opened_short name old new ok all
opened_after (Err fault) name old new ok = tt

all_taken : (n : ℕ) (ds : List Database) → AllShort ds → AllShort (take n ds)
all_taken zero ds all = tt
all_taken (suc n) [] all = tt
all_taken (suc n) (d ∷ ds) all = (all.0, all_taken n ds all.1)

all_dropped : (n : ℕ) (ds : List Database) → AllShort ds → AllShort (drop n ds)
all_dropped zero ds all = all
all_dropped (suc n) [] all = tt
all_dropped (suc n) (d ∷ ds) all = all_dropped n ds all.1

all_joined : (xs ys : List Database) → AllShort xs → AllShort ys → AllShort (xs ++ ys)
all_joined [] ys a b = b
all_joined (x ∷ xs) ys a b = (a.0, all_joined xs ys a.1 b)

-- a slice that was changed, in its vector
pub back_short : (n m : ℕ) (new old : List Database) → AllShort new → AllShort old → AllShort (take n (new ++ drop m old))
back_short n m new old a b = all_taken n (new ++ drop m old) (all_joined new (drop m old) a (all_dropped m old b))
