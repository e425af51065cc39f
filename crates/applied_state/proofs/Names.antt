-- The databases of a state machine by their names, as a snapshot has them and as it gives them back.
use Rattle.std.proofs.Common.{◌≡◌, ℕ, suc, ◌+◌, arith, Bool, true, false, true≢false, cond, List, [], ◌∷◌, map, Option, Some, None, refl, sym, ap, subst, ◌∙◌, ⊎_elim, Less}
use Rattle.std.specs.Prelude.{bytes_eq}
use Rattle.std.specs.Ordering.{is_eq}
use Rattle.std.specs.List.{AllByRecursion}
use Rattle.std.specs.List.Sorted.{IsStrictlySortedBy}
use Rattle.std.proofs.lemmas.Bool.{cond-true, cond-false, cond_both, cases_Bool, or_cases, or_left, or_right}
use Rattle.std.proofs.lemmas.Map.Text.{is_eq-slice_cmp}
use Rattle.log_commands.specs.declared.command.Command.{Command}
use Rattle.log_commands.specs.declared.command.Command.TheVariants.{OpenDb, Frames, Undo, Checkpoint}
use Rattle.database_state.specs.declared.database.Database.{Database}
use Rattle.database_state.specs.ByName.{Ascend}
use Rattle.database_state.specs.Databases.{named, content_of, contents_of}
use Rattle.database_state.specs.Files.{Content, empty_image, pending_without}
use Rattle.database_state.specs.Machines.{names_of}
use Rattle.database_state.specs.Restoring.{restored_at, restored_from, restored}
use Rattle.database_state.proofs.Named.{compare}
use Rattle.session_spec.specs.Entries as seen
use Rattle.session_spec.specs.Machine.{Base, Machine, base_of, machine_of, is_named, framed, checked, act, done, nothing, files_from, files}
use Rattle.session_spec.proofs.Names.{same_name, name_is}
use Rattle.session_safety.proofs.AddedNames.{kept_name, another}
use Rattle.applied_state.specs.Applied.{ShowsFiles}
use Rattle.applied_state.specs.Snapshot.{contents_in}

-- ---- a state machine's own databases

map_alike : {X Y : Type 0} (f g : X → Y) (xs : List X) → AllByRecursion (λ x. f x ≡ g x) xs → map f xs ≡ map g xs
map_alike f g [] all = refl
map_alike f g (x ∷ xs) all = ap (λ y. y ∷ map f xs) all.0 ∙ ap (λ ys. g x ∷ ys) (map_alike f g xs all.1)

-- what is shown of the database of a name
shown : List ℕ → Option Database → Content
shown name o = record { name = name; image = (base_of o).image; pending = (base_of o).pending }

-- names after the first one are others
behind : (d : Database) (ds : List Database) (names : List (List ℕ)) → AllByRecursion (λ z. compare d.name z ≡ Less) names → AllByRecursion (λ n. shown n (named n (d ∷ ds)) ≡ shown n (named n ds)) names
behind d ds [] all = tt
behind d ds (n ∷ names) all =
    (ap (shown n) (cond-false (bytes_eq n d.name) (Some d) (named n ds) (apart n all.0)), behind d ds names all.1)
  where
    apart : (n : List ℕ) → compare d.name n ≡ Less → bytes_eq n d.name ≡ false
    apart n less = by (bytes_eq n d.name) refl
      where
        by : (b : Bool) → bytes_eq n d.name ≡ b → bytes_eq n d.name ≡ false
        by false e = e
        by true e =
            let same : bytes_eq d.name n ≡ true = ap (bytes_eq d.name) (name_is n d.name e) ∙ same_name d.name in
            absurd (true≢false (sym same ∙ sym (is_eq-slice_cmp d.name n) ∙ ap is_eq less))

shown_are : (ds : List Database) → Ascend (names_of ds) → map (λ (n : List ℕ). shown n (named n ds)) (names_of ds) ≡ contents_of ds
unfolding IsStrictlySortedBy shown
shown_are [] order = refl
shown_are (d ∷ ds) order =
    ap (λ (c : Content). c ∷ map (λ (n : List ℕ). shown n (named n (d ∷ ds))) (names_of ds)) (ap (shown d.name) (cond-true (bytes_eq d.name d.name) (Some d) (named d.name ds) (same_name d.name)))
    ∙ ap (λ (cs : List Content). content_of d ∷ cs) (map_alike (λ (n : List ℕ). shown n (named n (d ∷ ds))) (λ (n : List ℕ). shown n (named n ds)) (names_of ds) (behind d ds (names_of ds) order.0) ∙ shown_are ds order.1)

pub own_contents : (ds : List Database) → Ascend (names_of ds) → contents_in (machine_of ds) ≡ contents_of ds
unfolding shown
own_contents ds order = shown_are ds order

-- ---- a state machine that was restored

restored_names : (place : ℕ) (m : Machine) (names : List (List ℕ)) → names_of (restored_from place (map (λ (name : List ℕ). record { name = name; image = (m.base name).image; pending = (m.base name).pending }) names)) ≡ names
restored_names place m [] = refl
restored_names place m (n ∷ names) = ap (λ (ns : List (List ℕ)). n ∷ ns) (restored_names (suc place) m names)

-- What a database of a restored state machine is: no commits, no pages since a checkpoint, and what the snapshot says; or a new one.
record AsSaved (m : Machine) (name : List ℕ) (b : Base) : Type 0 where
  pub image : b.image ≡ (m.base name).image
  pub pending : b.pending ≡ (m.base name).pending
  pub newest : b.newest ≡ 0

abbrev saved : Machine → List (List ℕ) → List Content
saved m names = map (λ (name : List ℕ). record { name = name; image = (m.base name).image; pending = (m.base name).pending }) names

saved_named : (place : ℕ) (m : Machine) (names : List (List ℕ)) (name : List ℕ) → is_named names name ≡ true → AsSaved m name (base_of (named name (restored_from place (saved m names))))
saved_named place m [] name h = absurd (true≢false (sym h))
saved_named place m (n ∷ names) name h = by (saved_named (suc place) m names name) (bytes_eq name n) refl
  where
    others : Option Database
    others = named name (restored_from (suc place) (saved m names))

    mine : Database
    mine = restored_at place (record { name = n; image = (m.base n).image; pending = (m.base n).pending })

    by : (is_named names name ≡ true → AsSaved m name (base_of others)) → (b : Bool) → bytes_eq name n ≡ b → AsSaved m name (base_of (cond (bytes_eq name n) (Some mine) others))
    by rest true e =
        let is : name ≡ n = name_is name n e in
        subst (λ (o : Option Database). AsSaved m name (base_of o)) (sym (cond-true (bytes_eq name n) (Some mine) others e))
        (record { image = ap (λ (k : List ℕ). (m.base k).image) (sym is); pending = ap (λ (k : List ℕ). (m.base k).pending) (sym is); newest = refl })
    by rest false e =
        subst (λ (o : Option Database). AsSaved m name (base_of o)) (sym (cond-false (bytes_eq name n) (Some mine) others e))
        (rest (later e h))
      where
        later : bytes_eq name n ≡ false → is_named (n ∷ names) name ≡ true → is_named names name ≡ true
        later e h = ⊎_elim (λ (x : bytes_eq name n ≡ true). absurd (true≢false (sym x ∙ e))) (λ (x : is_named names name ≡ true). x) (or_cases (bytes_eq name n) (is_named names name) h)

saved_unnamed : (place : ℕ) (m : Machine) (names : List (List ℕ)) (name : List ℕ) → is_named names name ≡ false → named name (restored_from place (saved m names)) ≡ None
saved_unnamed place m [] name h = refl
saved_unnamed place m (n ∷ names) name h = by (saved_unnamed (suc place) m names name) (bytes_eq name n) refl
  where
    others : Option Database
    others = named name (restored_from (suc place) (saved m names))

    mine : Database
    mine = restored_at place (record { name = n; image = (m.base n).image; pending = (m.base n).pending })

    by : (is_named names name ≡ false → others ≡ None) → (b : Bool) → bytes_eq name n ≡ b → cond (bytes_eq name n) (Some mine) others ≡ None
    by rest true e = absurd (true≢false (sym (or_left (bytes_eq name n) (is_named names name) e) ∙ h))
    by rest false e = cond-false (bytes_eq name n) (Some mine) others e ∙ rest (later e h)
      where
        later : bytes_eq name n ≡ false → is_named (n ∷ names) name ≡ false → is_named names name ≡ false
        later e h = ⊎_elim (λ (x : is_named names name ≡ true). absurd (true≢false (sym (or_right (bytes_eq name n) (is_named names name) x) ∙ h))) (λ (x : is_named names name ≡ false). x) (cases_Bool (is_named names name))

-- a database that no name is among has nothing in it
pub record IsEmpty (b : Base) : Type 0 where
  pub image : b.image ≡ empty_image
  pub pending : b.pending ≡ None

abbrev pub OthersEmpty : Machine → Type 0
OthersEmpty m = (name : List ℕ) → is_named m.names name ≡ false → IsEmpty (m.base name)

saved_at : (m : Machine) (name : List ℕ) → OthersEmpty m → AsSaved m name (base_of (named name (restored (contents_in m))))
saved_at m name empty = ⊎_elim
    (λ (h : is_named m.names name ≡ true). saved_named 0 m m.names name h)
    (λ (h : is_named m.names name ≡ false).
    let e = empty name h in
    subst (λ (o : Option Database). AsSaved m name (base_of o)) (sym (saved_unnamed 0 m m.names name h)) (record { image = sym e.image; pending = sym e.pending; newest = refl }))
    (cases_Bool (is_named m.names name))

bases_same : (a b : Base) → a.image ≡ b.image → a.pending ≡ b.pending → a.newest ≡ b.newest → a.since ≡ b.since → a ≡ b
bases_same a b image pending newest since = λ i. record { image = image i; pending = pending i; newest = newest i; since = since i }

machines_same : (a b : Machine) → a.names ≡ b.names → ((name : List ℕ) → a.base name ≡ b.base name) → a ≡ b
machines_same a b names base = λ i. record { names = names i; base = λ name. base name i }

no_more : (n k : ℕ) → k ≡ 0 → n ≡ n + k
no_more n k e = omega (arith, e)

pub restored_shows : (m : Machine) → OthersEmpty m → ShowsFiles (λ name. (m.base name).newest) m (restored (contents_in m))
restored_shows m empty = (
  (λ (name : List ℕ). (m.base name).since),
  machines_same m _ (sym (restored_names 0 m m.names))
      (λ name.
      let s = saved_at m name empty in
      bases_same (m.base name) _ (sym s.image) (sym s.pending) (no_more (m.base name).newest _ s.newest) refl),
)

-- ---- names that entries open

empty_act : (m : Machine) (c : Command) → OthersEmpty m → OthersEmpty (act m c)
unfolding act
empty_act m (OpenDb name) a n h = a n (kept_name m.names name n h)
empty_act m (Frames name tx truncate commit pages) a n h = cond_both (bytes_eq n name) (framed tx commit pages (m.base n)) (m.base n) IsEmpty (λ e. absurd (another m.names name n h e)) (λ e. a n (kept_name m.names name n h))
empty_act m (Undo tx) a n h = let e = a n h in record { image = e.image; pending = ap (pending_without tx) e.pending }
empty_act m (Checkpoint name) a n h = let e = a n h in cond_both (bytes_eq n name) (checked (m.base n)) (m.base n) IsEmpty (λ _. record { image = e.image; pending = e.pending }) (λ _. e)

empty_done : (m : Machine) (c : seen.Content) → OthersEmpty m → OthersEmpty (done m c)
empty_done m (seen.Does command) a = empty_act m command a
empty_done m (seen.Configures servers) a = a
empty_done m seen.Other a = a

empty_from : (es : List seen.Entry) (m : Machine) → OthersEmpty m → OthersEmpty (files_from m es)
empty_from [] m a = a
empty_from (e ∷ es) m a = empty_from es (done m e.content) (empty_done m e.content a)

pub empty_files : (log : List seen.Entry) → OthersEmpty (files log)
unfolding files
empty_files log = empty_from log nothing (λ n h. record { image = refl; pending = refl })
