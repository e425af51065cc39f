-- What a command does to the databases of a node, seen as a map from names.
use Rattle.std.proofs.Common.{◌≡◌, ◌≢◌, ℕ, suc, ◌≤◌, Bool, true, false, cond, List, [], ◌∷◌, ◌++◌, length, map, refl, sym, ap, ◌∙◌, subst, ⊎_elim, arith, length-append, Ordering, Less, Equal, Greater}
use Rattle.std.specs.Prelude.{bytes_eq, is_none, unwrap_or, Option, Some, None}
use Rattle.std.specs.Option.{option_map}
use Rattle.std.specs.Ordering.{is_eq, match_ordering}
use Rattle.std.specs.List.{AllByRecursion}
use Rattle.std.specs.List.Sorted.{IsStrictlySortedBy}
use Rattle.std.proofs.lemmas.List.{length-drop}
use Rattle.std.proofs.lemmas.Bool.{cond-true, cond-false, cond_both}
use Rattle.std.proofs.lemmas.Map.Text.{is_eq-slice_cmp}
use Rattle.dq_base.specs.declared.pages.NumberedPage.{NumberedPage}
use Rattle.dq_base.specs.Applying.{applied, page_fault}
use Rattle.log_commands.specs.declared.command.Command.TheVariants.{OpenDb, Frames, Undo, Checkpoint}
use Rattle.page_store.specs.Marks.{least_mark}
use Rattle.page_store.proofs.MarkTables.{least_mark-some}
use Rattle.page_store.specs.Store.{Store, newest, newest_image, committed, sets_to_move, MarksWithin}
use Rattle.page_store.proofs.Shown.{after_sets-append}
use Rattle.database_state.specs.declared.database.Database.{Database}
use Rattle.database_state.specs.ByName.{at_name, change_first, Ascend}
use Rattle.database_state.specs.Files.{pending_of}
use Rattle.database_state.specs.Machines.{names_of, AllWithin}
use Rattle.database_state.specs.Databases as databases
use Rattle.database_state.specs.Databases.{has_name, named, opened, grown, moved}
use Rattle.database_state.proofs.Contents.{checkpointed_image}
use Rattle.database_state.proofs.Named.{compare, map_at_name, map_change_first}
use Rattle.database_state.proofs.Ordered.{all_above}
use Rattle.session_spec.specs.Machine.{Base, Machine, blank, base_of, with_name, with_commit, with_pending, framed, undone, checked, changed_at, act}
use Rattle.session_spec.specs.Laws.{MachinesFollow}
use Rattle.session_spec.proofs.Names.{same_name, name_is, names_apart, one_or_other}

-- ---- one database

bases_same : (a b : Base) → a.image ≡ b.image → a.pending ≡ b.pending → a.newest ≡ b.newest → a.since ≡ b.since → a ≡ b
bases_same a b image pending newest since = λ i. record { image = image i; pending = pending i; newest = newest i; since = since i }

committed_is : (pages : List NumberedPage) (d : Database) → base_of (Some (databases.with_commit pages d)) ≡ with_commit pages (base_of (Some d))
unfolding with_commit
committed_is pages d = by (is_none (page_fault pages)) refl
  where
    by : (b : Bool) → is_none (page_fault pages) ≡ b → base_of (Some (cond b (record { name = d.name; place = d.place; store = committed d.store pages; pending = d.pending; since = grown d.since (length pages) }) d)) ≡ cond b (record { image = cond (is_none (page_fault pages)) (applied (newest_image d.store) pages) (newest_image d.store); pending = d.pending; newest = suc (newest d.store); since = grown d.since (length pages) }) (base_of (Some d))
    by true e =
        let more = length-append d.store.sets (pages ∷ []) in
        bases_same _ _
        (after_sets-append d.store.base d.store.sets (pages ∷ []) ∙ sym (cond-true (is_none (page_fault pages)) (applied (newest_image d.store) pages) (newest_image d.store) e))
        refl (omega arith) refl
    by false e = refl

framed_is : (tx : ℕ) (commit : Bool) (pages : List NumberedPage) (d : Database) → base_of (Some (databases.frames tx commit pages d)) ≡ framed tx commit pages (base_of (Some d))
unfolding framed databases.frames
framed_is tx true pages d = ap (with_pending None) (committed_is (pending_of tx d.pending ++ pages) d)
framed_is tx false pages d = refl

undone_is : (tx : ℕ) (o : Option Database) → base_of (option_map (databases.undone tx) o) ≡ undone tx (base_of o)
undone_is tx None = refl
undone_is tx (Some d) = refl

-- no more sets are moved than there are
moves_within : (store : Store) → MarksWithin store → sets_to_move store ≤ length store.sets
moves_within store within = by (least_mark store.marks) refl
  where
    by : (o : Option ℕ) → least_mark store.marks ≡ o → unwrap_or o (length store.sets) ≤ length store.sets
    by None e = omega arith
    by (Some least) e = let m = least_mark-some store.marks least e in within m.is_live.0 least m.is_live.1

checked_is : (o : Option Database) → ((d : Database) → o ≡ Some d → MarksWithin d.store) → base_of (option_map moved o) ≡ checked (base_of o)
checked_is None within = refl
checked_is (Some d) within =
    let le = moves_within d.store (within d refl) in
    let left = length-drop (sets_to_move d.store) d.store.sets in
    bases_same _ _ (checkpointed_image d.store) refl (omega arith) refl

-- ---- the database of a name, after something was done

tells_bytes : (x y : List ℕ) (o : Ordering) → compare x y ≡ o → bytes_eq x y ≡ is_eq o
tells_bytes x y o e = sym (is_eq-slice_cmp x y) ∙ ap is_eq e

none_named : (name : List ℕ) (ds : List Database) → AllByRecursion (λ z. compare name z ≡ Less) (names_of ds) → named name ds ≡ None
none_named name [] above = refl
none_named name (d ∷ ds) above = ap (λ (b : Bool). cond b (Some d) (named name ds)) (tells_bytes name d.name Less above.0) ∙ none_named name ds above.1

module _ (name : List ℕ) (new : Database) (is : new.name ≡ name) (f : Database → Database) (keeps : (d : Database) → (f d).name ≡ d.name) where
  after : List Database → List Database
  after ds = at_name (λ (d : Database). d.name) new name f ds

  new_is : bytes_eq name (f new).name ≡ true
  new_is = ap (bytes_eq name) (keeps new ∙ is) ∙ same_name name

  own_changed : (ds : List Database) → Ascend (names_of ds) → named name (at_name (λ (d : Database). d.name) new name f ds) ≡ Some (f (unwrap_or (named name ds) new))
  unfolding at_name IsStrictlySortedBy
  own_changed [] order = ap (λ (b : Bool). cond b (Some (f new)) None) new_is
  own_changed (d ∷ ds) order =
      let Q : Ordering → Type 0 = λ o. compare name d.name ≡ o → named name (match_ordering o (f new ∷ d ∷ ds) (f d ∷ ds) (d ∷ at_name (λ (d : Database). d.name) new name f ds)) ≡ Some (f (unwrap_or (named name (d ∷ ds)) new)) in
      let go : (o : Ordering) → Q o =
      λ o. elim o as Q [
        | Less ↦ λ e.
            let none : named name (d ∷ ds) ≡ None = none_named name (d ∷ ds) (e, all_above name d.name (names_of ds) e order.0) in
            ap (λ (b : Bool). cond b (Some (f new)) (named name (d ∷ ds))) new_is
            ∙ sym (ap (λ (o : Option Database). Some (f (unwrap_or o new))) none)
        | Equal ↦ λ e.
            let here : bytes_eq name d.name ≡ true = tells_bytes name d.name Equal e in
            ap (λ (b : Bool). cond b (Some (f d)) (named name ds)) (ap (bytes_eq name) (keeps d) ∙ here)
            ∙ sym (ap (λ (b : Bool). Some (f (unwrap_or (cond b (Some d) (named name ds)) new))) here)
        | Greater ↦ λ e.
            let apart : bytes_eq name d.name ≡ false = tells_bytes name d.name Greater e in
            ap (λ (b : Bool). cond b (Some d) (named name (at_name (λ (d : Database). d.name) new name f ds))) apart ∙ own_changed ds order.1
            ∙ sym (ap (λ (b : Bool). Some (f (unwrap_or (cond b (Some d) (named name ds)) new))) apart)
      ] in
      go (compare name d.name) refl

  others_kept : (other : List ℕ) → other ≢ name → (ds : List Database) → named other (at_name (λ (d : Database). d.name) new name f ds) ≡ named other ds
  unfolding at_name
  others_kept other apart [] = ap (λ (b : Bool). cond b (Some (f new)) None) (ap (bytes_eq other) (keeps new ∙ is) ∙ names_apart other name apart)
  others_kept other apart (d ∷ ds) =
      let Q : Ordering → Type 0 = λ o. compare name d.name ≡ o → named other (match_ordering o (f new ∷ d ∷ ds) (f d ∷ ds) (d ∷ at_name (λ (d : Database). d.name) new name f ds)) ≡ named other (d ∷ ds) in
      let go : (o : Ordering) → Q o =
      λ o. elim o as Q [
        | Less ↦ λ e. ap (λ (b : Bool). cond b (Some (f new)) (named other (d ∷ ds))) (ap (bytes_eq other) (keeps new ∙ is) ∙ names_apart other name apart)
        | Equal ↦ λ e.
            let same : name ≡ d.name = name_is name d.name (tells_bytes name d.name Equal e) in
            let differs : bytes_eq other d.name ≡ false = names_apart other d.name (λ h. apart (h ∙ sym same)) in
            ap (λ (b : Bool). cond b (Some (f d)) (named other ds)) (ap (bytes_eq other) (keeps d) ∙ differs) ∙ sym (ap (λ (b : Bool). cond b (Some d) (named other ds)) differs)
        | Greater ↦ λ e. ap (λ (o : Option Database). cond (bytes_eq other d.name) (Some d) o) (others_kept other apart ds)
      ] in
      go (compare name d.name) refl

  -- the same as bases
  based : (g : Base → Base) (ds : List Database) → Ascend (names_of ds) → base_of (Some new) ≡ blank → ((d : Database) → base_of (Some (f d)) ≡ g (base_of (Some d))) → (other : List ℕ)
      → base_of (named other (at_name (λ (d : Database). d.name) new name f ds)) ≡ changed_at name g (λ n. base_of (named n ds)) other
  based g ds order fresh does other = ⊎_elim
      (λ (e : other ≡ name).
      ap (λ n. base_of (named n (at_name (λ (d : Database). d.name) new name f ds))) e ∙ ap base_of (own_changed ds order) ∙ does (unwrap_or (named name ds) new) ∙ ap g (given (named name ds))
      ∙ sym (ap (λ n. cond (bytes_eq n name) (g (base_of (named n ds))) (base_of (named n ds))) e ∙ cond-true (bytes_eq name name) (g (base_of (named name ds))) (base_of (named name ds)) (same_name name)))
      (λ (e : other ≢ name). ap base_of (others_kept other e ds) ∙ sym (cond-false (bytes_eq other name) (g (base_of (named other ds))) (base_of (named other ds)) (names_apart other name e)))
      (one_or_other other name)
    where
      given : (o : Option Database) → base_of (Some (unwrap_or o new)) ≡ base_of o
      given None = fresh
      given (Some d) = refl

-- each database is changed
each_changed : (tx : ℕ) (name : List ℕ) (ds : List Database) → named name (map (databases.undone tx) ds) ≡ option_map (databases.undone tx) (named name ds)
each_changed tx name [] = refl
each_changed tx name (d ∷ ds) = ap (λ (o : Option Database). cond (bytes_eq name d.name) (Some (databases.undone tx d)) o) (each_changed tx name ds) ∙ within (bytes_eq name d.name) (named name ds)
  where
    within : (b : Bool) (o : Option Database) → cond b (Some (databases.undone tx d)) (option_map (databases.undone tx) o) ≡ option_map (databases.undone tx) (cond b (Some d) o)
    within true o = refl
    within false o = refl

-- the first of a name is changed
first_own : (name : List ℕ) (ds : List Database) → named name (change_first (has_name name) moved ds) ≡ option_map moved (named name ds)
unfolding change_first
first_own name [] = refl
first_own name (d ∷ ds) = by (bytes_eq name d.name) (first_own name ds) refl
  where
    by : (b : Bool) → named name (change_first (has_name name) moved ds) ≡ option_map moved (named name ds) → bytes_eq name d.name ≡ b → named name (cond b (moved d ∷ ds) (d ∷ change_first (has_name name) moved ds)) ≡ option_map moved (cond b (Some d) (named name ds))
    by true later e = cond-true (bytes_eq name d.name) (Some (moved d)) (named name ds) e
    by false later e = cond-false (bytes_eq name d.name) (Some d) (named name (change_first (has_name name) moved ds)) e ∙ later

first_others : (name other : List ℕ) → other ≢ name → (ds : List Database) → named other (change_first (has_name name) moved ds) ≡ named other ds
unfolding change_first
first_others name other apart [] = refl
first_others name other apart (d ∷ ds) = by (bytes_eq name d.name) (first_others name other apart ds) refl
  where
    by : (b : Bool) → named other (change_first (has_name name) moved ds) ≡ named other ds → bytes_eq name d.name ≡ b → named other (cond b (moved d ∷ ds) (d ∷ change_first (has_name name) moved ds)) ≡ named other (d ∷ ds)
    by true later e =
        let differs : bytes_eq other d.name ≡ false = names_apart other d.name (λ h. apart (h ∙ sym (name_is name d.name e))) in
        cond-false (bytes_eq other d.name) (Some (moved d)) (named other ds) differs ∙ sym (cond-false (bytes_eq other d.name) (Some d) (named other ds) differs)
    by false later e = ap (λ (o : Option Database). cond (bytes_eq other d.name) (Some d) o) later

-- marks of the database of a name
within_named : (name : List ℕ) (ds : List Database) → AllWithin ds → (d : Database) → named name ds ≡ Some d → MarksWithin d.store
within_named name [] all d e = absurd cc
within_named name (x ∷ ds) all d e = by (bytes_eq name x.name) (within_named name ds all.1 d) e
  where
    some_same : {A : Type 0} {a b : A} → Some a ≡ Some b → a ≡ b
    some_same q = cc

    by : (b : Bool) → (named name ds ≡ Some d → MarksWithin d.store) → cond b (Some x) (named name ds) ≡ Some d → MarksWithin d.store
    by true later q = subst (λ (y : Database). MarksWithin y.store) (some_same q) all.0
    by false later q = later q

checked_at : (name : List ℕ) (ds : List Database) → AllWithin ds → (other : List ℕ) → base_of (named other (change_first (has_name name) moved ds)) ≡ changed_at name checked (λ n. base_of (named n ds)) other
checked_at name ds all other = ⊎_elim
    (λ (e : other ≡ name).
    ap (λ n. base_of (named n (change_first (has_name name) moved ds))) e ∙ ap base_of (first_own name ds) ∙ checked_is (named name ds) (within_named name ds all)
    ∙ sym (ap (λ n. cond (bytes_eq n name) (checked (base_of (named n ds))) (base_of (named n ds))) e ∙ cond-true (bytes_eq name name) (checked (base_of (named name ds))) (base_of (named name ds)) (same_name name)))
    (λ (e : other ≢ name). ap base_of (first_others name other e ds) ∙ sym (cond-false (bytes_eq other name) (checked (base_of (named other ds))) (base_of (named other ds)) (names_apart other name e)))
    (one_or_other other name)

-- ---- the law

names_changed : (name : List ℕ) (f : Database → Database) → ((d : Database) → (f d).name ≡ d.name) → (new : Database) → new.name ≡ name → (ds : List Database) → names_of (at_name (λ (d : Database). d.name) new name f ds) ≡ with_name name (names_of ds)
names_changed name f keeps new is ds =
    map_at_name (λ (d : Database). d.name) (λ (d : Database). d.name) (λ (n : List ℕ). n) new name f (λ (n : List ℕ). n) (λ d. refl) keeps ds
    ∙ ap (λ (n : List ℕ). at_name (λ (n : List ℕ). n) n name (λ (n : List ℕ). n) (names_of ds)) is

machines_same : (a b : Machine) → a.names ≡ b.names → ((name : List ℕ) → a.base name ≡ b.base name) → a ≡ b
machines_same a b names base = λ i. record { names = names i; base = λ name. base name i }

frames_keep : (tx : ℕ) (commit : Bool) (pages : List NumberedPage) (d : Database) → (databases.frames tx commit pages d).name ≡ d.name
unfolding databases.frames
frames_keep tx true pages d = cond_both (is_none (page_fault (pending_of tx d.pending ++ pages))) _ d (λ (x : Database). x.name ≡ d.name) (λ e. refl) (λ e. refl)
frames_keep tx false pages d = refl

-- a name that is opened is there, and nothing else
opened_at : (name other : List ℕ) (base : List ℕ → Base) → changed_at name (λ b. b) base other ≡ base other
opened_at name other base = cond_both (bytes_eq other name) (base other) (base other) (λ b. b ≡ base other) (λ e. refl) (λ e. refl)

undone_names : (tx : ℕ) (ds : List Database) → names_of (map (databases.undone tx) ds) ≡ names_of ds
undone_names tx [] = refl
undone_names tx (d ∷ ds) = ap (λ (ns : List (List ℕ)). d.name ∷ ns) (undone_names tx ds)

pub machines_follow_hold : MachinesFollow
unfolding act databases.act
machines_follow_hold ds (OpenDb name) m =
    machines_same _ _ (names_changed name (λ d. d) (λ d. refl) (opened (length ds) name) refl ds)
    (λ other. based name (opened (length ds) name) refl (λ d. d) (λ d. refl) (λ b. b) ds m.in_order refl (λ d. refl) other ∙ opened_at name other (λ n. base_of (named n ds)))
machines_follow_hold ds (Frames name tx truncate commit pages) m =
    machines_same _ _ (names_changed name (databases.frames tx commit pages) (frames_keep tx commit pages) (opened (length ds) name) refl ds)
    (λ other. based name (opened (length ds) name) refl (databases.frames tx commit pages) (frames_keep tx commit pages) (framed tx commit pages) ds m.in_order refl (framed_is tx commit pages) other)
machines_follow_hold ds (Undo tx) m =
    machines_same _ _ (undone_names tx ds) (λ other. ap base_of (each_changed tx other ds) ∙ undone_is tx (named other ds))
machines_follow_hold ds (Checkpoint name) m =
    machines_same _ _ (map_change_first (λ (d : Database). d.name) (has_name name) moved (λ d. refl) ds) (λ other. checked_at name ds m.marks other)
