-- A state machine stays one whatever a command does, and live pins continue showing what they showed.
use Rattle.std.proofs.Common.{◌≡◌, ◌≢◌, ℕ, ◌<◌, Bool, true, false, cond, eqb, inl, inr, ◌⊎◌, List, [], ◌∷◌, ◌++◌, length, map, Option, Some, None, Result, Ok, Err, refl, sym, ap, subst, ◌∙◌, arith, Ordering, Less, Equal, Greater}
use Rattle.std.specs.Prelude.{is_none, IfOk, OnOk, OnErr}
use Rattle.std.specs.Option.{option_map}
use Rattle.dq_base.specs.declared.images.Image.{Image}
use Rattle.database_state.specs.declared.pin.PinFault.{PinFault}
use Rattle.std.specs.List.{AllByRecursion, find}
use Rattle.std.specs.Ordering.{match_ordering}
use Rattle.std.specs.List.Sorted.{IsStrictlySortedBy}
use Rattle.std.proofs.lemmas.Bool.{eqb-true, eq-eqb, ne_eqb}
use Rattle.dq_base.specs.declared.pages.NumberedPage.{NumberedPage}
use Rattle.dq_base.specs.declared.pages.PageSet.{PageSet}
use Rattle.dq_base.specs.Applying.{page_fault}
use Rattle.log_commands.specs.declared.command.Command.{Command}
use Rattle.log_commands.specs.declared.command.Command.TheVariants.{OpenDb, Frames, Undo, Checkpoint}
use Rattle.log_commands.specs.Numbers.{AreLow, HasLowNumbers}
use Rattle.page_store.specs.Marks.{mark_at}
use Rattle.page_store.specs.Store.{Store, fresh_store, newest_image, pinned, released, committed, sets_to_move, IsLive, StillShows, MarksWithin}
use Rattle.page_store.proofs.History.{no_mark_at_first}
use Rattle.page_store.proofs.Shown.{commit_shows, checkpoint_shows, pin_shows, release_shows, within-committed, within-moved, within-pinned, within-released}
use Rattle.database_state.specs.declared.database.Database.{Database}
use Rattle.database_state.specs.ByName.{at_name, change_first}
use Rattle.database_state.specs.Files.{empty_image, pending_of, pending_without}
use Rattle.database_state.specs.Databases.{has_name, opened, grown, with_commit, with_store, frames, undone, moved, changed, act}
use Rattle.database_state.specs.Machines.{AreApart, IsPendingLow, IsMachine}
use Rattle.database_state.specs.Pins.{Pinning, has_place, at_place, is_live_in, shown_by, IsPinned, with_pin, without_pin, IsPin, ShowsNewest, StillPinned}
use Rattle.database_state.proofs.Named.{compare}
use Rattle.database_state.proofs.First.{stays}
use Rattle.database_state.proofs.Kept.{Keeps, machine_at, machine_first, machine_each}

-- a change of a database under which its live marks show what they showed
pub record Shows (f : Database → Database) : Type 0 where
  pub keeps : Keeps f
  pub shows : (d : Database) (id : ℕ) → MarksWithin d.store → StillShows d.store (f d).store id

still : (store : Store) (id : ℕ) → StillShows store store id
still store id = record { live = λ h. h; same_image = λ h. refl }

same_shows : Shows (λ d. d)
same_shows = record { keeps = record { name = λ d. refl; place = λ d. refl; marks = λ d h. h; numbers = λ d h. h }; shows = λ d id h. still d.store id }

commit_keeps : (pages : List NumberedPage) → Shows (λ d. with_commit pages d)
commit_keeps pages = record {
  keeps = record { name = λ d. name (is_none (page_fault pages)) d; place = λ d. place (is_none (page_fault pages)) d; marks = λ d h. marks (is_none (page_fault pages)) d h; numbers = λ d h. numbers (is_none (page_fault pages)) d h };
  shows = λ d id h. shows (is_none (page_fault pages)) d id h;
}
  where
    after : Bool → Database → Database
    after b d = cond b (record { name = d.name; place = d.place; store = committed d.store pages; pending = d.pending; since = grown d.since (length pages) }) d

    name : (b : Bool) (d : Database) → (after b d).name ≡ d.name
    name true d = refl
    name false d = refl

    place : (b : Bool) (d : Database) → (after b d).place ≡ d.place
    place true d = refl
    place false d = refl

    marks : (b : Bool) (d : Database) → MarksWithin d.store → MarksWithin (after b d).store
    marks true d h = within-committed d.store pages h
    marks false d h = h

    numbers : (b : Bool) (d : Database) → IsPendingLow d.pending → IsPendingLow (after b d).pending
    numbers true d h = h
    numbers false d h = h

    shows : (b : Bool) (d : Database) (id : ℕ) → MarksWithin d.store → StillShows d.store (after b d).store id
    shows true d id h = commit_shows d.store pages id h
    shows false d id h = still d.store id

low_both : (first second : List NumberedPage) → AreLow first → AreLow second → AreLow (first ++ second)
low_both [] second a b = b
low_both (p ∷ first) second a b = (a.0, low_both first second a.1 b)

pending_low : (tx : ℕ) (pending : Option PageSet) → IsPendingLow pending → AreLow (pending_of tx pending)
pending_low tx None h = tt
pending_low tx (Some set) h = by (eqb set.tx tx)
  where
    by : (b : Bool) → AreLow (cond b set.pages [])
    by true = h
    by false = tt

without_low : (tx : ℕ) (pending : Option PageSet) → IsPendingLow pending → IsPendingLow (pending_without tx pending)
without_low tx None h = tt
without_low tx (Some set) h = by (eqb set.tx tx)
  where
    by : (b : Bool) → IsPendingLow (cond b None (Some set))
    by true = tt
    by false = h

frames_shows : (tx : ℕ) (commit : Bool) (pages : List NumberedPage) → AreLow pages → Shows (frames tx commit pages)
unfolding frames
frames_shows tx true pages low = record {
  keeps = record {
    name = λ d. (commit_keeps (pending_of tx d.pending ++ pages)).keeps.name d;
    place = λ d. (commit_keeps (pending_of tx d.pending ++ pages)).keeps.place d;
    marks = λ d h. (commit_keeps (pending_of tx d.pending ++ pages)).keeps.marks d h;
    numbers = λ d h. tt;
  };
  shows = λ d id h. (commit_keeps (pending_of tx d.pending ++ pages)).shows d id h;
}
frames_shows tx false pages low = record { keeps = record { name = λ d. refl; place = λ d. refl; marks = λ d h. h; numbers = λ d h. low_both (pending_of tx d.pending) pages (pending_low tx d.pending h) low }; shows = λ d id h. still d.store id }

undone_shows : (tx : ℕ) → Shows (undone tx)
undone_shows tx = record { keeps = record { name = λ d. refl; place = λ d. refl; marks = λ d h. h; numbers = λ d h. without_low tx d.pending h }; shows = λ d id h. still d.store id }

moved_shows : Shows (λ d. moved d)
moved_shows = record {
  keeps = record { name = λ d. refl; place = λ d. refl; marks = λ d h. within-moved d.store (sets_to_move d.store) h; numbers = λ d h. h };
  shows = λ d id h. checkpoint_shows d.store id;
}

none_is_mark : (m : ℕ) → None ≡ Some m → ⊥
none_is_mark m e = cc

pub fresh_within : MarksWithin (fresh_store empty_image)
fresh_within id m e = absurd (none_is_mark m (sym (no_mark_at_first id) ∙ e))

-- ---- a state machine stays one

machine_changed : (name : List ℕ) (f : Database → Database) → Keeps f → (ds : List Database) → IsMachine ds → IsMachine (changed name f ds)
machine_changed name f keeps ds m = machine_at f keeps (opened (length ds) name) name ds refl refl fresh_within tt m

pub act_machine : (ds : List Database) (command : Command) → HasLowNumbers command → IsMachine ds → IsMachine (act ds command)
unfolding act
act_machine ds (OpenDb name) low m = machine_changed name (λ d. d) same_shows.keeps ds m
act_machine ds (Frames name tx truncate commit pages) low m = machine_changed name (frames tx commit pages) (frames_shows tx commit pages low).keeps ds m
act_machine ds (Undo tx) low m = machine_each (undone tx) (undone_shows tx).keeps ds m
act_machine ds (Checkpoint name) low m = machine_first (λ d. moved d) moved_shows.keeps (has_name name) ds m

-- ---- the database of a place

-- what was found at a place is there after a change: as it was, or changed
abbrev pub AsWas : (Database → Database) → Database → Option Database → Type 0
AsWas f d found = (found ≡ Some d) ⊎ (found ≡ Some (f d))

some_is : (a b : Database) → Some a ≡ Some b → a ≡ b
some_is a b e = cc

none_is_some : (d : Database) → None ≡ Some d → ⊥
none_is_some d e = cc

module _ (f : Database → Database) (place : (d : Database) → (f d).place ≡ d.place) (p : ℕ) where
  same_place : (d : Database) → has_place p (f d) ≡ has_place p d
  same_place d = ap (λ (k : ℕ). eqb k p) (place d)

  place_at : (new : Database) (name : List ℕ) (ds : List Database) (d : Database) → has_place p new ≡ false → at_place p ds ≡ Some d → AsWas f d (at_place p (at_name (λ (d : Database). d.name) new name f ds))
  unfolding at_name
  place_at new name [] d apart e = absurd (none_is_some d e)
  place_at new name (x ∷ ds) d apart e =
      let rest : List Database = at_name (λ (d : Database). d.name) new name f ds in
      let Q : Ordering → Type 0 = λ o. AsWas f d (at_place p (match_ordering o (f new ∷ x ∷ ds) (f x ∷ ds) (x ∷ rest))) in
      elim (compare name x.name) as Q [
        | Less ↦ inl (ap (λ (b : Bool). cond b (Some (f new)) (at_place p (x ∷ ds))) (same_place new ∙ apart) ∙ e)
        | Equal ↦ changed_here (has_place p x) refl e
        | Greater ↦ kept_here (has_place p x) refl e (λ later. place_at new name ds d apart later)
      ]
    where
      changed_here : (b : Bool) → has_place p x ≡ b → cond (has_place p x) (Some x) (at_place p ds) ≡ Some d → AsWas f d (cond (has_place p (f x)) (Some (f x)) (at_place p ds))
      changed_here true is e =
          let same : x ≡ d = some_is x d (sym (ap (λ (b : Bool). cond b (Some x) (at_place p ds)) is) ∙ e) in
          inr (ap (λ (b : Bool). cond b (Some (f x)) (at_place p ds)) (same_place x ∙ is) ∙ ap (λ (y : Database). Some (f y)) same)
      changed_here false is e =
          inl (ap (λ (b : Bool). cond b (Some (f x)) (at_place p ds)) (same_place x ∙ is) ∙ sym (ap (λ (b : Bool). cond b (Some x) (at_place p ds)) is) ∙ e)

      kept_here : (b : Bool) → has_place p x ≡ b → cond (has_place p x) (Some x) (at_place p ds) ≡ Some d → (at_place p ds ≡ Some d → AsWas f d (at_place p (at_name (λ (d : Database). d.name) new name f ds))) → AsWas f d (cond (has_place p x) (Some x) (at_place p (at_name (λ (d : Database). d.name) new name f ds)))
      kept_here true is e next =
          inl (ap (λ (b : Bool). cond b (Some x) (at_place p (at_name (λ (d : Database). d.name) new name f ds))) is ∙ sym (ap (λ (b : Bool). cond b (Some x) (at_place p ds)) is) ∙ e)
      kept_here false is e next =
          let later : at_place p ds ≡ Some d = sym (ap (λ (b : Bool). cond b (Some x) (at_place p ds)) is) ∙ e in
          let found : cond (has_place p x) (Some x) (at_place p (at_name (λ (d : Database). d.name) new name f ds)) ≡ at_place p (at_name (λ (d : Database). d.name) new name f ds) = ap (λ (b : Bool). cond b (Some x) (at_place p (at_name (λ (d : Database). d.name) new name f ds))) is in
          subst (AsWas f d) (sym found) (next later)

  -- if the first that passes a test is changed, it is that one or it stays
  pub place_first : (test : Database → Bool) (ds : List Database) (d first : Database) → find test ds ≡ Some first → at_place p ds ≡ Some d
      → (at_place p (change_first test f ds) ≡ Some d) ⊎ ((d ≡ first) × (at_place p (change_first test f ds) ≡ Some (f d)))
  unfolding change_first
  place_first test [] d first found e = absurd (none_is_some d e)
  place_first test (x ∷ ds) d first found e = by (λ next later. place_first test ds d first next later) (test x) refl (has_place p x) refl
    where
      Goal : List Database → Type 0
      Goal ys = (at_place p ys ≡ Some d) ⊎ ((d ≡ first) × (at_place p ys ≡ Some (f d)))

      here : (b : Bool) (y : Database) (ys : List Database) → has_place p y ≡ b → at_place p (y ∷ ys) ≡ cond b (Some y) (at_place p ys)
      here b y ys is = ap (λ (c : Bool). cond c (Some y) (at_place p ys)) is

      by : (find test ds ≡ Some first → at_place p ds ≡ Some d → Goal (change_first test f ds)) → (t : Bool) → test x ≡ t → (b : Bool) → has_place p x ≡ b → Goal (cond (test x) (f x ∷ ds) (x ∷ change_first test f ds))
      by on true passes true is =
          let same : x ≡ d = some_is x d (sym (here true x ds is) ∙ e) in
          let one : x ≡ first = some_is x first (sym (ap (λ (c : Bool). cond c (Some x) (find test ds)) passes) ∙ found) in
          subst Goal (sym (ap (λ (c : Bool). cond c (f x ∷ ds) (x ∷ change_first test f ds)) passes))
          (inr (sym same ∙ one, here true (f x) ds (same_place x ∙ is) ∙ ap (λ (y : Database). Some (f y)) same))
      by on true passes false is =
          subst Goal (sym (ap (λ (c : Bool). cond c (f x ∷ ds) (x ∷ change_first test f ds)) passes))
          (inl (here false (f x) ds (same_place x ∙ is) ∙ sym (here false x ds is) ∙ e))
      by on false fails true is =
          subst Goal (sym (ap (λ (c : Bool). cond c (f x ∷ ds) (x ∷ change_first test f ds)) fails))
          (inl (here true x (change_first test f ds) is ∙ sym (here true x ds is) ∙ e))
      by on false fails false is =
          let later : at_place p ds ≡ Some d = sym (here false x ds is) ∙ e in
          let next : find test ds ≡ Some first = sym (ap (λ (c : Bool). cond c (Some x) (find test ds)) fails) ∙ found in
          subst Goal (sym (ap (λ (c : Bool). cond c (f x ∷ ds) (x ∷ change_first test f ds)) fails))
          (subst (λ (o : Option Database). (o ≡ Some d) ⊎ ((d ≡ first) × (o ≡ Some (f d)))) (sym (here false x (change_first test f ds) is)) (on next later))

  place_each : (ds : List Database) (d : Database) → at_place p ds ≡ Some d → at_place p (map f ds) ≡ Some (f d)
  place_each [] d e = absurd (none_is_some d e)
  place_each (x ∷ ds) d e = by (λ later. place_each ds d later) (has_place p x) refl
    where
      by : (at_place p ds ≡ Some d → at_place p (map f ds) ≡ Some (f d)) → (b : Bool) → has_place p x ≡ b → cond (has_place p (f x)) (Some (f x)) (at_place p (map f ds)) ≡ Some (f d)
      by on true is =
          let same : x ≡ d = some_is x d (sym (ap (λ (c : Bool). cond c (Some x) (at_place p ds)) is) ∙ e) in
          ap (λ (c : Bool). cond c (Some (f x)) (at_place p (map f ds))) (same_place x ∙ is) ∙ ap (λ (y : Database). Some (f y)) same
      by on false is =
          ap (λ (c : Bool). cond c (Some (f x)) (at_place p (map f ds))) (same_place x ∙ is)
          ∙ on (sym (ap (λ (c : Bool). cond c (Some x) (at_place p ds)) is) ∙ e)

place_is : (p : ℕ) (ds : List Database) (d : Database) (P : Database → Type 0) → AllByRecursion P ds → at_place p ds ≡ Some d → (d.place ≡ p) × P d
place_is p [] d P all e = absurd (none_is_some d e)
place_is p (x ∷ ds) d P all e = by (λ later. place_is p ds d P all.1 later) (has_place p x) refl
  where
    by : (at_place p ds ≡ Some d → (d.place ≡ p) × P d) → (b : Bool) → has_place p x ≡ b → (d.place ≡ p) × P d
    by on true is =
        let same : x ≡ d = some_is x d (sym (ap (λ (c : Bool). cond c (Some x) (at_place p ds)) is) ∙ e) in
        (ap (λ (y : Database). y.place) (sym same) ∙ eqb-true x.place p is, subst P same all.0)
    by on false is = on (sym (ap (λ (c : Bool). cond c (Some x) (at_place p ds)) is) ∙ e)

-- ---- live pins

pinned_database : (o : Option Database) (mark : ℕ) → is_live_in o mark → (d : Database) × (o ≡ Some d) × IsLive d.store mark
pinned_database None mark h = absurd h
pinned_database (Some d) mark h = (d, refl, h)

-- a pin whose database is found again, with a store that shows what it showed
found_again : (old new : List Database) (pin : Pinning) → ((d : Database) → at_place pin.place old ≡ Some d → IsLive d.store pin.mark → (e : Database) × (at_place pin.place new ≡ Some e) × StillShows d.store e.store pin.mark) → StillPinned old new pin
found_again old new pin again = record {
  live = λ h.
      let p = pinned_database (at_place pin.place old) pin.mark h in
      let n = again p.0 p.1 p.2 in
      subst (λ (o : Option Database). is_live_in o pin.mark) (sym n.1) (n.2.live p.2);
  same_image = λ h.
      let p = pinned_database (at_place pin.place old) pin.mark h in
      let n = again p.0 p.1 p.2 in
      ap (λ (o : Option Database). shown_by o pin.mark) n.1 ∙ n.2.same_image p.2 ∙ sym (ap (λ (o : Option Database). shown_by o pin.mark) p.1);
}

as_was_shows : (f : Database → Database) → Shows f → (d : Database) (found : Option Database) (id : ℕ) → MarksWithin d.store → AsWas f d found → (e : Database) × (found ≡ Some e) × StillShows d.store e.store id
as_was_shows f s d found id within (inl e) = (d, e, still d.store id)
as_was_shows f s d found id within (inr e) = (f d, e, s.shows d id within)

changed_pinned : (name : List ℕ) (f : Database → Database) → Shows f → (ds : List Database) → IsMachine ds → (pin : Pinning) → StillPinned ds (changed name f ds) pin
changed_pinned name f s ds m pin = found_again ds (changed name f ds) pin (λ d e live.
    let below = place_is pin.place ds d (λ x. x.place < length ds) m.below e in
    let within = place_is pin.place ds d (λ x. MarksWithin x.store) m.marks e in
    let apart : has_place pin.place (opened (length ds) name) ≡ false = ne_eqb (length ds) pin.place (λ h. absurd (omega (arith, h, below.0, below.1))) in
    as_was_shows f s d (at_place pin.place (changed name f ds)) pin.mark within.1 (place_at f s.keeps.place pin.place (opened (length ds) name) name ds d apart e))

each_pinned : (f : Database → Database) → Shows f → (ds : List Database) → IsMachine ds → (pin : Pinning) → StillPinned ds (map f ds) pin
each_pinned f s ds m pin = found_again ds (map f ds) pin (λ d e live.
    let within = place_is pin.place ds d (λ x. MarksWithin x.store) m.marks e in
    (f d, place_each f s.keeps.place pin.place ds d e, s.shows d pin.mark within.1))

found_or_none : (o : Option Database) → (o ≡ None) ⊎ ((d : Database) × (o ≡ Some d))
found_or_none None = inl refl
found_or_none (Some d) = inr (d, refl)

first_pinned : (f : Database → Database) → Shows f → (test : Database → Bool) (ds : List Database) → IsMachine ds → (pin : Pinning) → StillPinned ds (change_first test f ds) pin
first_pinned f s test ds m pin = found_again ds (change_first test f ds) pin (λ d e live.
    let within = place_is pin.place ds d (λ x. MarksWithin x.store) m.marks e in
    elim (found_or_none (find test ds)) [
      | inl none ↦ (d, ap (at_place pin.place) (stays test f ds none) ∙ e, still d.store pin.mark)
      | inr some ↦ elim (place_first f s.keeps.place pin.place test ds d some.0 some.1 e) [
        | inl same ↦ (d, same, still d.store pin.mark)
        | inr here ↦ (f d, here.1, s.shows d pin.mark within.1)
      ]
    ])

pub act_pinned : (ds : List Database) (command : Command) → HasLowNumbers command → IsMachine ds → (pin : Pinning) → StillPinned ds (act ds command) pin
unfolding act
act_pinned ds (OpenDb name) low m pin = changed_pinned name (λ d. d) same_shows ds m pin
act_pinned ds (Frames name tx truncate commit pages) low m pin = changed_pinned name (frames tx commit pages) (frames_shows tx commit pages low) ds m pin
act_pinned ds (Undo tx) low m pin = each_pinned (undone tx) (undone_shows tx) ds m pin
act_pinned ds (Checkpoint name) low m pin = first_pinned (λ d. moved d) moved_shows (has_name name) ds m pin

-- ---- after a call that may want memory

pub machine_after : {F : Type 0} (result : Result (Unit {0}) F) (old new : List Database) (command : Command) → HasLowNumbers command → IsMachine old → OnOk result (new ≡ act old command) → OnErr result (new ≡ old) → IsMachine new
machine_after (Ok done) old new command low m ok kept = subst IsMachine (sym ok) (act_machine old command low m)
machine_after (Err fault) old new command low m ok kept = subst IsMachine (sym kept) m

pub pinned_after : {F : Type 0} (result : Result (Unit {0}) F) (old new : List Database) (command : Command) → HasLowNumbers command → IsMachine old → OnOk result (new ≡ act old command) → OnErr result (new ≡ old) → (pin : Pinning) → StillPinned old new pin
pinned_after (Ok done) old new command low m ok kept pin = subst (λ (ds : List Database). StillPinned old ds pin) (sym ok) (act_pinned old command low m pin)
pinned_after (Err fault) old new command low m ok kept pin = subst (λ (ds : List Database). StillPinned old ds pin) (sym kept) (record { live = λ h. h; same_image = λ h. refl })

pub no_databases : IsMachine []
unfolding IsStrictlySortedBy
no_databases = record { in_order = tt; below = tt; apart = tt; marks = tt; numbers = tt }

-- ---- a pin

-- a database with a mark more
abbrev pub marked : ℕ → Database → Database
marked mark d = with_store (pinned d.store mark) d

marked_keeps : (mark : ℕ) → Keeps (marked mark)
marked_keeps mark = record { name = λ d. refl; place = λ d. refl; marks = λ d h. within-pinned d.store mark h; numbers = λ d h. h }

pub pin_machine : (name : List ℕ) (old new : List Database) (pin : Pinning) → IsPin name old new pin → IsMachine old → IsMachine new
pin_machine name old new pin is m = subst IsMachine (sym is.now) (machine_first (marked pin.mark) (marked_keeps pin.mark) (has_name name) old m)

pub pin_pinned : (name : List ℕ) (old new : List Database) (pin : Pinning) → IsPin name old new pin → IsMachine old → (other : Pinning) → StillPinned old new other
pin_pinned name old new pin is m other = subst (λ (ds : List Database). StillPinned old ds other) (sym is.now) (found_again old (with_pin name pin.mark old) other (λ d e live.
    elim (place_first (marked pin.mark) (λ d. refl) other.place (has_name name) old d is.database is.is e) [
      | inl same ↦ (d, same, still d.store other.mark)
      | inr here ↦ (marked pin.mark d, here.1, pin_shows d.store pin.mark other.mark (ap (λ (x : Database). mark_at x.store.marks pin.mark) here.0 ∙ is.was_free))
    ]))

-- the first that passes a test is one of the list
find_all : (test : Database → Bool) (P : Database → Type 0) (ds : List Database) (d : Database) → AllByRecursion P ds → find test ds ≡ Some d → P d
find_all test P [] d all e = absurd (none_is_some d e)
find_all test P (x ∷ ds) d all e = by (λ later. find_all test P ds d all.1 later) (test x) refl
  where
    by : (find test ds ≡ Some d → P d) → (b : Bool) → test x ≡ b → P d
    by on true is = subst P (some_is x d (sym (ap (λ (c : Bool). cond c (Some x) (find test ds)) is) ∙ e)) all.0
    by on false is = on (sym (ap (λ (c : Bool). cond c (Some x) (find test ds)) is) ∙ e)

-- if no two have one place, the one that was found by a test is found by its place
pub own_place : (test : Database → Bool) (ds : List Database) (d : Database) → AreApart ds → find test ds ≡ Some d → at_place d.place ds ≡ Some d
own_place test [] d apart e = absurd (none_is_some d e)
own_place test (x ∷ ds) d apart e = by (λ later. own_place test ds d apart.1 later) (test x) refl
  where
    by : (find test ds ≡ Some d → at_place d.place ds ≡ Some d) → (b : Bool) → test x ≡ b → cond (has_place d.place x) (Some x) (at_place d.place ds) ≡ Some d
    by on true is =
        let same : x ≡ d = some_is x d (sym (ap (λ (c : Bool). cond c (Some x) (find test ds)) is) ∙ e) in
        ap (λ (c : Bool). cond c (Some x) (at_place d.place ds)) (eq-eqb x.place d.place (ap (λ (y : Database). y.place) same)) ∙ ap (λ (y : Database). Some y) same
    by on false is =
        let later : find test ds ≡ Some d = sym (ap (λ (c : Bool). cond c (Some x) (find test ds)) is) ∙ e in
        let other : x.place ≢ d.place = find_all test (λ y. x.place ≢ y.place) ds d apart.0 later in
        ap (λ (c : Bool). cond c (Some x) (at_place d.place ds)) (ne_eqb x.place d.place other) ∙ on later

-- if it is changed, it is found by its place as it was changed
own_changed : (test : Database → Bool) (f : Database → Database) → ((d : Database) → (f d).place ≡ d.place) → (ds : List Database) (d : Database) → AreApart ds → find test ds ≡ Some d → at_place d.place (change_first test f ds) ≡ Some (f d)
unfolding change_first
own_changed test f place [] d apart e = absurd (none_is_some d e)
own_changed test f place (x ∷ ds) d apart e = by (λ later. own_changed test f place ds d apart.1 later) (test x) refl
  where
    by : (find test ds ≡ Some d → at_place d.place (change_first test f ds) ≡ Some (f d)) → (b : Bool) → test x ≡ b → at_place d.place (cond (test x) (f x ∷ ds) (x ∷ change_first test f ds)) ≡ Some (f d)
    by on true is =
        let same : x ≡ d = some_is x d (sym (ap (λ (c : Bool). cond c (Some x) (find test ds)) is) ∙ e) in
        ap (λ (c : Bool). at_place d.place (cond c (f x ∷ ds) (x ∷ change_first test f ds))) is
        ∙ ap (λ (c : Bool). cond c (Some (f x)) (at_place d.place ds)) (eq-eqb (f x).place d.place (place x ∙ ap (λ (y : Database). y.place) same))
        ∙ ap (λ (y : Database). Some (f y)) same
    by on false is =
        let later : find test ds ≡ Some d = sym (ap (λ (c : Bool). cond c (Some x) (find test ds)) is) ∙ e in
        let other : x.place ≢ d.place = find_all test (λ y. x.place ≢ y.place) ds d apart.0 later in
        ap (λ (c : Bool). at_place d.place (cond c (f x ∷ ds) (x ∷ change_first test f ds))) is
        ∙ ap (λ (c : Bool). cond c (Some x) (at_place d.place (change_first test f ds))) (ne_eqb x.place d.place other) ∙ on later

pub pin_newest : (name : List ℕ) (old new : List Database) (pin : Pinning) → IsPin name old new pin → IsMachine old → ShowsNewest name old new pin
pin_newest name old new pin is m =
    let found : at_place pin.place new ≡ Some (marked pin.mark is.database) =
    ap (λ (p : ℕ). at_place p new) is.place ∙ ap (at_place is.database.place) is.now ∙ own_changed (has_name name) (marked pin.mark) (λ d. refl) old is.database m.apart is.is in
    record {
      live = subst (λ (o : Option Database). is_live_in o pin.mark) (sym found) is.live;
      shows = ap (λ (image : Image). Some image) (ap (λ (o : Option Database). shown_by o pin.mark) found ∙ is.shows) ∙ sym (ap (option_map (λ (database : Database). newest_image database.store)) is.is);
    }

-- ---- a release

-- a database with a mark less
abbrev pub unmarked : ℕ → Database → Database
unmarked mark d = with_store (released d.store mark) d

pub release_machine : (pin : Pinning) (ds : List Database) → IsMachine ds → IsMachine (without_pin pin ds)
release_machine pin ds m = machine_first (unmarked pin.mark) (record { name = λ d. refl; place = λ d. refl; marks = λ d h. within-released d.store pin.mark h; numbers = λ d h. h }) (has_place pin.place) ds m

place_of_found : (p : ℕ) (ds : List Database) (d : Database) → at_place p ds ≡ Some d → d.place ≡ p
place_of_found p ds d e = (place_is p ds d (λ x. Unit {0}) (all_unit ds) e).0
  where
    all_unit : (xs : List Database) → AllByRecursion (λ x. Unit {0}) xs
    all_unit [] = tt
    all_unit (x ∷ xs) = (tt, all_unit xs)

pub release_pinned : (pin : Pinning) (ds : List Database) → IsPinned ds pin → (other : Pinning) → other ≢ pin → StillPinned ds (without_pin pin ds) other
release_pinned pin ds live other apart = found_again ds (without_pin pin ds) other (λ d e h.
    let p = pinned_database (at_place pin.place ds) pin.mark live in
    elim (place_first (unmarked pin.mark) (λ d. refl) other.place (has_place pin.place) ds d p.0 p.1 e) [
      | inl same ↦ (d, same, still d.store other.mark)
      | inr here ↦
          let place : other.place ≡ pin.place = sym (place_of_found other.place ds d e) ∙ ap (λ (x : Database). x.place) here.0 ∙ place_of_found pin.place ds p.0 p.1 in
          (unmarked pin.mark d, here.1, release_shows d.store pin.mark other.mark (λ mark. apart (λ i. record { place = place i; mark = mark i })))
    ])

-- ---- after calls

pub pin_after_machine : (result : Result Pinning PinFault) (name : List ℕ) (old new : List Database) → IsMachine old → IfOk result (IsPin name old new) → OnErr result (new ≡ old) → IsMachine new
pin_after_machine (Ok pin) name old new m is kept = pin_machine name old new pin is m
pin_after_machine (Err fault) name old new m is kept = subst IsMachine (sym kept) m

pub pin_after_pinned : (result : Result Pinning PinFault) (name : List ℕ) (old new : List Database) → IsMachine old → IfOk result (IsPin name old new) → OnErr result (new ≡ old) → (other : Pinning) → StillPinned old new other
pin_after_pinned (Ok pin) name old new m is kept other = pin_pinned name old new pin is m other
pin_after_pinned (Err fault) name old new m is kept other = subst (λ (ds : List Database). StillPinned old ds other) (sym kept) (record { live = λ h. h; same_image = λ h. refl })

pub pin_after_shows : (result : Result Pinning PinFault) (name : List ℕ) (old new : List Database) → IsMachine old → IfOk result (IsPin name old new) → IfOk result (ShowsNewest name old new)
pin_after_shows (Ok pin) name old new m is = pin_newest name old new pin is m
pin_after_shows (Err fault) name old new m is = tt
