-- What a command, a pin and a release leave of the numbers of newest images.
use Rattle.std.proofs.Common.{◌≡◌, ◌≢◌, ℕ, zero, suc, ◌≤◌, ◌<◌, Bool, true, false, cond, List, [], ◌∷◌, ◌++◌, length, map, Contains, refl, sym, ap, subst, ◌∙◌, arith, inl, inr, Ordering, Less, Equal, Greater}
use Rattle.std.specs.Prelude.{is_none}
use Rattle.std.specs.List.{AllByRecursion}
use Rattle.std.specs.Ordering.{match_ordering}
use Rattle.std.proofs.lemmas.List.{length_push, length-drop, length-map}
use Rattle.dq_base.specs.declared.pages.NumberedPage.{NumberedPage}
use Rattle.dq_base.specs.Applying.{page_fault}
use Rattle.log_commands.specs.declared.command.Command.{Command}
use Rattle.log_commands.specs.declared.command.Command.TheVariants.{OpenDb, Frames, Undo, Checkpoint}
use Rattle.page_store.specs.Store.{committed, pinned, released, sets_to_move}
use Rattle.page_store.proofs.Shown.{newest_checkpointed}
use Rattle.database_state.specs.declared.database.Database.{Database}
use Rattle.database_state.specs.ByName.{at_name, change_first}
use Rattle.database_state.specs.Files.{pending_of}
use Rattle.database_state.specs.Databases.{has_name, opened, grown, with_commit, with_store, frames, undone, moved, changed, act}
use Rattle.database_state.specs.ImageNumbers.{numbered, Follows, ComesFrom, NumbersGoOn, NumbersStay}
use Rattle.database_state.specs.Machines.{AreApart, AreBelow}
use Rattle.database_state.specs.Pins.{Pinning, has_place, with_pin, without_pin}
use Rattle.database_state.proofs.Named.{compare, map_change_first}

-- ---- what is done to a database

same_follows : (d : Database) → Follows d d
same_follows d = record { place = refl; commits = omega arith; image = λ e. refl }

pub follows_on : (a b c : Database) → Follows a b → Follows b c → Follows a c
follows_on a b c first second = record {
  place = second.place ∙ first.place;
  commits = omega (arith, first.commits, second.commits);
  image = λ e. second.image (omega (arith, e, first.commits, second.commits)) ∙ first.image (omega (arith, e, first.commits, second.commits));
}

commit_follows : (pages : List NumberedPage) (d : Database) → Follows d (with_commit pages d)
commit_follows pages d = by (is_none (page_fault pages))
  where
    by : (b : Bool) → Follows d (cond b (record { name = d.name; place = d.place; store = committed d.store pages; pending = d.pending; since = grown d.since (length pages) }) d)
    by true = record { place = refl; commits = omega (arith, length_push d.store.sets pages); image = λ e. absurd (omega (arith, e, length_push d.store.sets pages)) }
    by false = same_follows d

frames_follows : (tx : ℕ) (commit : Bool) (pages : List NumberedPage) (d : Database) → Follows d (frames tx commit pages d)
unfolding frames
frames_follows tx true pages d =
    let done = commit_follows (pending_of tx d.pending ++ pages) d in
    record { place = done.place; commits = done.commits; image = done.image }
frames_follows tx false pages d = record { place = refl; commits = omega arith; image = λ e. refl }

undone_follows : (tx : ℕ) (d : Database) → Follows d (undone tx d)
undone_follows tx d = record { place = refl; commits = omega arith; image = λ e. refl }

moved_follows : (d : Database) → Follows d (moved d)
moved_follows d = record { place = refl; commits = omega (arith, length-drop (sets_to_move d.store) d.store.sets); image = λ e. newest_checkpointed d.store }

-- ---- what is done to one of the databases, or to each

module _ (P : Database → Type 0) (f : Database → Database) (each : (d : Database) → P d → P (f d)) where
  all_at : (new : Database) (name : List ℕ) → P (f new) → (ds : List Database) → AllByRecursion P ds → AllByRecursion P (at_name (λ (d : Database). d.name) new name f ds)
  unfolding at_name
  all_at new name first [] all = (first, tt)
  all_at new name first (d ∷ ds) all =
      let Q : Ordering → Type 0 = λ o. AllByRecursion P (match_ordering o (f new ∷ d ∷ ds) (f d ∷ ds) (d ∷ at_name (λ (d : Database). d.name) new name f ds)) in
      elim (compare name d.name) as Q [
        | Less ↦ (first, all)
        | Equal ↦ (each d all.0, all.1)
        | Greater ↦ (all.0, all_at new name first ds all.1)
      ]

  all_first : (test : Database → Bool) (ds : List Database) → AllByRecursion P ds → AllByRecursion P (change_first test f ds)
  unfolding change_first
  all_first test [] all = tt
  all_first test (d ∷ ds) all =
      let Q : Bool → Type 0 = λ b. AllByRecursion P (cond b (f d ∷ ds) (d ∷ change_first test f ds)) in
      elim (test d) as Q [
        | true ↦ (each d all.0, all.1)
        | false ↦ (all.0, all_first test ds all.1)
      ]

  all_each : (ds : List Database) → AllByRecursion P ds → AllByRecursion P (map f ds)
  all_each [] all = tt
  all_each (d ∷ ds) all = (each d all.0, all_each ds all.1)

module _ (f : Database → Database) where
  longer_at : (new : Database) (name : List ℕ) (ds : List Database) → length ds ≤ length (at_name (λ (d : Database). d.name) new name f ds)
  unfolding at_name
  longer_at new name [] = omega arith
  longer_at new name (d ∷ ds) =
      let rest : List Database = at_name (λ (d : Database). d.name) new name f ds in
      let later : length ds ≤ length rest = longer_at new name ds in
      let Q : Ordering → Type 0 = λ o. suc (length ds) ≤ length (match_ordering o (f new ∷ d ∷ ds) (f d ∷ ds) (d ∷ rest)) in
      elim (compare name d.name) as Q [
        | Less ↦ omega arith
        | Equal ↦ omega arith
        | Greater ↦ omega (arith, later)
      ]

  as_many_first : (test : Database → Bool) (ds : List Database) → length (change_first test f ds) ≡ length ds
  unfolding change_first
  as_many_first test [] = refl
  as_many_first test (d ∷ ds) =
      let Q : Bool → Type 0 = λ b. length (cond b (f d ∷ ds) (d ∷ change_first test f ds)) ≡ suc (length ds) in
      elim (test d) as Q [
        | true ↦ refl
        | false ↦ ap (λ (k : ℕ). suc k) (as_many_first test ds)
      ]

-- ---- a property of each database that a later one keeps, and that each new one has

module _ (P : Database → Type 0) (kept : (old new : Database) → Follows old new → P old → P new) (ds : List Database) (fresh : (new : Database) → length ds ≤ new.place → P new) (all : AllByRecursion P ds) where
  changed_all : (name : List ℕ) (f : Database → Database) → ((d : Database) → Follows d (f d)) → AllByRecursion P (changed name f ds)
  changed_all name f follows =
      let new : Database = opened (length ds) name in
      let place : (f new).place ≡ length ds = (follows new).place in
      all_at P f (λ d h. kept d (f d) (follows d) h) new name (fresh (f new) (omega (arith, place))) ds all

  first_all : (test : Database → Bool) (f : Database → Database) → ((d : Database) → Follows d (f d)) → AllByRecursion P (change_first test f ds)
  first_all test f follows = all_first P f (λ d h. kept d (f d) (follows d) h) test ds all

  pub all_after_act : (command : Command) → AllByRecursion P (act ds command)
  unfolding act
  all_after_act (OpenDb name) = changed_all name (λ d. d) same_follows
  all_after_act (Frames name tx truncate commit pages) = changed_all name (frames tx commit pages) (frames_follows tx commit pages)
  all_after_act (Undo tx) = all_each P (undone tx) (λ d h. kept d (undone tx d) (undone_follows tx d) h) ds all
  all_after_act (Checkpoint name) = first_all (has_name name) (λ d. moved d) moved_follows

  pub all_after_pin : (name : List ℕ) (mark : ℕ) → AllByRecursion P (with_pin name mark ds)
  all_after_pin name mark = first_all (has_name name) (λ d. with_store (pinned d.store mark) d) (λ d. record { place = refl; commits = omega arith; image = λ e. refl })

  pub all_after_release : (pin : Pinning) → AllByRecursion P (without_pin pin ds)
  all_after_release pin = first_all (has_place pin.place) (λ d. with_store (released d.store pin.mark) d) (λ d. record { place = refl; commits = omega arith; image = λ e. refl })

-- ---- each database comes from one of those before, or is new

later_item : (d x : Database) (ds : List Database) → Contains ds x → Contains (d ∷ ds) x
later_item d x ds found = (suc found.0, omega (arith, found.1), found.2)

each_there : (P : Database → Type 0) (ds : List Database) → ((d : Database) → Contains ds d → P d) → AllByRecursion P ds
each_there P [] each = tt
each_there P (d ∷ ds) each = (each d (0, omega arith, refl), each_there P ds (λ x found. each x (later_item d x ds found)))

come_on : (ds : List Database) (old new : Database) → Follows old new → ComesFrom ds old → ComesFrom ds new
come_on ds old new follows (inl from) = inl (from.0, from.1, follows_on from.0 old new from.2 follows)
come_on ds old new follows (inr past) = inr (omega (arith, past, follows.place))

come_first : (ds : List Database) → AllByRecursion (ComesFrom ds) ds
come_first ds = each_there (ComesFrom ds) ds (λ d found. inl (d, found, same_follows d))

longer_after : (ds : List Database) (command : Command) → length ds ≤ length (act ds command)
unfolding act
longer_after ds (OpenDb name) = longer_at (λ d. d) (opened (length ds) name) name ds
longer_after ds (Frames name tx truncate commit pages) = longer_at (frames tx commit pages) (opened (length ds) name) name ds
longer_after ds (Undo tx) = omega (arith, length-map ds (undone tx))
longer_after ds (Checkpoint name) = omega (arith, as_many_first (λ d. moved d) (has_name name) ds)

pub numbers_after_act : (ds : List Database) (command : Command) → NumbersGoOn ds (act ds command)
numbers_after_act ds command = record { count = longer_after ds command; each = all_after_act (ComesFrom ds) (come_on ds) ds (λ new past. inr past) (come_first ds) command }

pub numbers_after_pin : (ds : List Database) (name : List ℕ) (mark : ℕ) → NumbersGoOn ds (with_pin name mark ds)
numbers_after_pin ds name mark = record {
  count = omega (arith, as_many_first (λ d. with_store (pinned d.store mark) d) (has_name name) ds);
  each = all_after_pin (ComesFrom ds) (come_on ds) ds (λ new past. inr past) (come_first ds) name mark;
}

pub numbers_after_release : (ds : List Database) (pin : Pinning) → NumbersGoOn ds (without_pin pin ds)
numbers_after_release ds pin = record {
  count = omega (arith, as_many_first (λ d. with_store (released d.store pin.mark) d) (has_place pin.place) ds);
  each = all_after_release (ComesFrom ds) (come_on ds) ds (λ new past. inr past) (come_first ds) pin;
}

pub pin_stays : (ds : List Database) (name : List ℕ) (mark : ℕ) → NumbersStay ds (with_pin name mark ds)
pin_stays ds name mark = map_change_first numbered (has_name name) (λ d. with_store (pinned d.store mark) d) (λ d. refl) ds

pub release_stays : (ds : List Database) (pin : Pinning) → NumbersStay ds (without_pin pin ds)
release_stays ds pin = map_change_first numbered (has_place pin.place) (λ d. with_store (released d.store pin.mark) d) (λ d. refl) ds

-- ---- no two databases are of one place

not_of_place : (n : ℕ) (ds : List Database) (d : Database) → AllByRecursion (λ e. n ≢ e.place) ds → Contains ds d → n ≢ d.place
not_of_place n [] d apart found = absurd (omega (arith, found.1))
not_of_place n (x ∷ xs) d apart (zero, lt, is) = λ e. apart.0 (e ∙ ap (λ (y : Database). y.place) (sym is))
not_of_place n (x ∷ xs) d apart (suc k, lt, is) = not_of_place n xs d apart.1 (k, omega (arith, lt), is)

pub one_at_place : (ds : List Database) (d e : Database) → AreApart ds → Contains ds d → Contains ds e → d.place ≡ e.place → d ≡ e
one_at_place [] d e apart at other same = absurd (omega (arith, at.1))
one_at_place (x ∷ xs) d e apart (zero, lt, is) (zero, lt', is') same = sym is ∙ is'
one_at_place (x ∷ xs) d e apart (zero, lt, is) (suc k, lt', is') same =
    absurd (not_of_place x.place xs e apart.0 (k, omega (arith, lt'), is') (ap (λ (y : Database). y.place) is ∙ same))
one_at_place (x ∷ xs) d e apart (suc k, lt, is) (zero, lt', is') same =
    absurd (not_of_place x.place xs d apart.0 (k, omega (arith, lt), is) (ap (λ (y : Database). y.place) is' ∙ sym same))
one_at_place (x ∷ xs) d e apart (suc k, lt, is) (suc j, lt', is') same = one_at_place xs d e apart.1 (k, omega (arith, lt), is) (j, omega (arith, lt'), is') same

pub place_below : (n : ℕ) (ds : List Database) (d : Database) → AreBelow n ds → Contains ds d → d.place < n
place_below n [] d below found = absurd (omega (arith, found.1))
place_below n (x ∷ xs) d below (zero, lt, is) = subst (λ (y : Database). y.place < n) is below.0
place_below n (x ∷ xs) d below (suc k, lt, is) = place_below n xs d below.1 (k, omega (arith, lt), is)
