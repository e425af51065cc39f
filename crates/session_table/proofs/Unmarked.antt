-- Commands make no read mark.
use Rattle.std.proofs.Common.{◌≡◌, ℕ, zero, suc, Bool, true, false, cond, true≢false, List, [], ◌∷◌, ◌++◌, length, map, replicate, find, is_none, Option, Some, None, refl, sym, ap, subst, ◌∙◌}
use Rattle.std.specs.Prelude.{◌==◌, is_some, IsSome}
use Rattle.std.specs.Ordering.{nat_cmp, match_ordering}
use Rattle.std.specs.Cmp.Lexicographic.{slice_cmp}
use Rattle.std.specs.declared.cmp.Ordering.{Ordering}
use Rattle.std.specs.declared.cmp.Ordering.TheVariants.{Less, Equal, Greater}
use Rattle.dq_base.specs.declared.pages.NumberedPage.{NumberedPage}
use Rattle.dq_base.specs.Applying.{page_fault}
use Rattle.log_commands.specs.declared.command.Command.{Command}
use Rattle.log_commands.specs.declared.command.Command.TheVariants.{OpenDb, Frames, Undo, Checkpoint}
use Rattle.page_store.specs.Marks.{mark_at, no_marks, lowered, lowered_mark}
use Rattle.page_store.specs.Store.{IsLive, fresh_store}
use Rattle.database_state.specs.declared.database.Database.{Database}
use Rattle.database_state.specs.ByName.{at_name, change_first}
use Rattle.database_state.specs.Files.{empty_image, pending_of}
use Rattle.database_state.specs.Databases.{has_name, opened, grown, with_commit, frames, undone, moved, changed, act}
use Rattle.database_state.specs.Pins.{Pinning, has_place, is_live_in, IsPinned}

-- what is done to a database moves it to no other place, and makes no mark of it live
pub record MakesNone (f : Database → Database) : Type 0 where
  pub place : (d : Database) → (f d).place ≡ d.place
  pub marks : (d : Database) (mark : ℕ) → IsLive (f d).store mark → IsLive d.store mark

none_at : (n mark : ℕ) → is_some (mark_at (replicate n None) mark) ≡ false
none_at zero mark = refl
none_at (suc n) zero = refl
none_at (suc n) (suc mark) = none_at n mark

fresh_has_none : (mark : ℕ) → IsLive (fresh_store empty_image) mark → ⊥
unfolding no_marks
fresh_has_none mark live = true≢false (sym live ∙ none_at 64 mark)

module _ (f : Database → Database) (k : MakesNone f) (place mark : ℕ) where
  -- one database, and others after it
  one : (d : Database) (now before : Option Database) → (is_live_in now mark → is_live_in before mark)
      → is_live_in (cond (has_place place (f d)) (Some (f d)) now) mark → is_live_in (cond (has_place place d) (Some d) before) mark
  one d now before rest live =
      let same : has_place place d ≡ has_place place (f d) = ap (λ (p : ℕ). p == place) (sym (k.place d)) in
      subst (λ (b : Bool). is_live_in (cond b (Some d) before) mark) (sym same) (both (has_place place (f d)) live)
    where
      both : (b : Bool) → is_live_in (cond b (Some (f d)) now) mark → is_live_in (cond b (Some d) before) mark
      both true l = k.marks d mark l
      both false l = rest l

  same : (d : Database) (now before : Option Database) → (is_live_in now mark → is_live_in before mark)
      → is_live_in (cond (has_place place d) (Some d) now) mark → is_live_in (cond (has_place place d) (Some d) before) mark
  same d now before rest = both (has_place place d)
    where
      both : (b : Bool) → is_live_in (cond b (Some d) now) mark → is_live_in (cond b (Some d) before) mark
      both true l = l
      both false l = rest l

  each : (ds : List Database) → is_live_in (find (has_place place) (map f ds)) mark → is_live_in (find (has_place place) ds) mark
  each [] live = live
  each (d ∷ ds) live = one d (find (has_place place) (map f ds)) (find (has_place place) ds) (each ds) live

  first : (test : Database → Bool) (ds : List Database) → is_live_in (find (has_place place) (change_first test f ds)) mark → is_live_in (find (has_place place) ds) mark
  unfolding change_first
  first test [] live = live
  first test (d ∷ ds) live = (elim (test d) as (λ (b : Bool). is_live_in (find (has_place place) (cond b (f d ∷ ds) (d ∷ change_first test f ds))) mark → is_live_in (find (has_place place) (d ∷ ds)) mark) [
    | true ↦ one d (find (has_place place) ds) (find (has_place place) ds) (λ l. l)
    | false ↦ same d (find (has_place place) (change_first test f ds)) (find (has_place place) ds) (first test ds)
  ]) live

  -- a new database in front, which has no live mark
  fresh : (new : Database) → (IsLive (f new).store mark → ⊥) → (others before : Option Database) → (is_live_in others mark → is_live_in before mark) → is_live_in (cond (has_place place (f new)) (Some (f new)) others) mark → is_live_in before mark
  fresh new none others before rest = both (has_place place (f new))
    where
      both : (b : Bool) → is_live_in (cond b (Some (f new)) others) mark → is_live_in before mark
      both true l = absurd (none l)
      both false l = rest l

  named_one : (new : Database) → (IsLive (f new).store mark → ⊥) → (name : List ℕ) (ds : List Database) → is_live_in (find (has_place place) (at_name (λ (d : Database). d.name) new name f ds)) mark → is_live_in (find (has_place place) ds) mark
  unfolding at_name
  named_one new none name [] live = fresh new none None None (λ l. l) live
  named_one new none name (d ∷ ds) live = (elim (slice_cmp nat_cmp name d.name) as (λ (o : Ordering). is_live_in (find (has_place place) (match_ordering o (f new ∷ d ∷ ds) (f d ∷ ds) (d ∷ at_name (λ (x : Database). x.name) new name f ds))) mark → is_live_in (find (has_place place) (d ∷ ds)) mark) [
    | Less ↦ fresh new none (find (has_place place) (d ∷ ds)) (find (has_place place) (d ∷ ds)) (λ l. l)
    | Equal ↦ one d (find (has_place place) ds) (find (has_place place) ds) (λ l. l)
    | Greater ↦ same d (find (has_place place) (at_name (λ (x : Database). x.name) new name f ds)) (find (has_place place) ds) (named_one new none name ds)
  ]) live

  changed_one : (name : List ℕ) (ds : List Database) → is_live_in (find (has_place place) (changed name f ds)) mark → is_live_in (find (has_place place) ds) mark
  changed_one name ds = named_one (opened (length ds) name) (λ l. fresh_has_none mark (k.marks (opened (length ds) name) mark l)) name ds

-- the commands' changes are of this kind

stays_as : MakesNone (λ d. d)
stays_as = record { place = λ d. refl; marks = λ d mark live. live }

commit_makes_none : (pages : List NumberedPage) → MakesNone (with_commit pages)
commit_makes_none pages = record {
  place = λ d. elim (is_none (page_fault pages)) as (λ (b : Bool). (cond b (record { name = d.name; place = d.place; store = record d.store { sets = d.store.sets ++ pages ∷ [] }; pending = d.pending; since = grown d.since (length pages) }) d).place ≡ d.place) [ true ↦ refl | false ↦ refl ];
  marks = λ d mark. elim (is_none (page_fault pages)) as (λ (b : Bool). IsLive (cond b (record { name = d.name; place = d.place; store = record d.store { sets = d.store.sets ++ pages ∷ [] }; pending = d.pending; since = grown d.since (length pages) }) d).store mark → IsLive d.store mark) [ true ↦ λ live. live | false ↦ λ live. live ];
}

frames_make_none : (tx : ℕ) (commit : Bool) (pages : List NumberedPage) → MakesNone (frames tx commit pages)
unfolding frames
frames_make_none tx true pages = record {
  place = λ d. (commit_makes_none (pending_of tx d.pending ++ pages)).place d;
  marks = λ d mark live. (commit_makes_none (pending_of tx d.pending ++ pages)).marks d mark live;
}
frames_make_none tx false pages = record { place = λ d. refl; marks = λ d mark live. live }

undone_makes_none : (tx : ℕ) → MakesNone (undone tx)
undone_makes_none tx = record { place = λ d. refl; marks = λ d mark live. live }

lowered_live : (by : ℕ) (table : List (Option ℕ)) (mark : ℕ) → IsSome (mark_at (map (lowered_mark by) table) mark) → IsSome (mark_at table mark)
lowered_live by [] mark live = live
lowered_live by (None ∷ ms) zero live = live
lowered_live by (Some m ∷ ms) zero live = refl
lowered_live by (m ∷ ms) (suc mark) live = lowered_live by ms mark live

moved_makes_none : MakesNone moved
unfolding lowered
moved_makes_none = record { place = λ d. refl; marks = λ d mark live. lowered_live _ d.store.marks mark live }

pub none_made : (ds : List Database) (command : Command) (pin : Pinning) → IsPinned (act ds command) pin → IsPinned ds pin
unfolding act
none_made ds (OpenDb name) pin live = changed_one (λ d. d) stays_as pin.place pin.mark name ds live
none_made ds (Frames name tx truncate commit pages) pin live = changed_one (frames tx commit pages) (frames_make_none tx commit pages) pin.place pin.mark name ds live
none_made ds (Undo tx) pin live = each (undone tx) (undone_makes_none tx) pin.place pin.mark ds live
none_made ds (Checkpoint name) pin live = first moved moved_makes_none pin.place pin.mark (has_name name) ds live
