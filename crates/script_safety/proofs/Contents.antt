-- The files of a node's databases, from the map that they are.
use Rattle.std.proofs.Common.{◌≡◌, ℕ, Bool, true, false, List, [], ◌∷◌, map, refl, sym, ap, ◌∙◌, Less, Equal}
use Rattle.std.specs.Prelude.{bytes_eq, Option, Some}
use Rattle.std.specs.List.{AllByRecursion}
use Rattle.std.specs.List.Sorted.{IsStrictlySortedBy}
use Rattle.std.proofs.lemmas.Bool.{cond-true, cond-false}
use Rattle.dq_base.specs.declared.images.Image.{Image}
use Rattle.dq_base.specs.declared.pages.PageSet.{PageSet}
use Rattle.database_state.specs.declared.database.Database.{Database}
use Rattle.database_state.specs.ByName.{Ascend}
use Rattle.database_state.specs.Files.{Content}
use Rattle.database_state.specs.Machines.{names_of}
use Rattle.database_state.specs.Databases.{content_of, contents_of, named}
use Rattle.database_state.proofs.Named.{compare, compare_same}
use Rattle.session_spec.specs.Machine.{Base, Machine, base_of, machine_of}
use Rattle.session_spec.proofs.Names.{same_name, name_is}
use Rattle.cluster_safety.specs.Laws.{SameFiles}

abbrev content_in : List ℕ → Base → Content
content_in name base = record { name = name; image = base.image; pending = base.pending }

abbrev contents_in : Machine → List Content
contents_in m = map (λ (name : List ℕ). content_in name (m.base name)) m.names

-- each of these is found by its name
abbrev AreFound : List Database → List Database → Type 0
AreFound all ds = AllByRecursion (λ (d : Database). named d.name all ≡ Some d) ds

less_differs : (x y : List ℕ) → compare x y ≡ Less → bytes_eq y x ≡ true → ⊥
less_differs x y less same = let e : Less ≡ Equal = sym less ∙ ap (compare x) (name_is y x same) ∙ compare_same x in absurd cc

is_false : (b : Bool) → (b ≡ true → ⊥) → b ≡ false
is_false true h = absurd (h refl)
is_false false h = refl

found_behind : (d : Database) (all ds : List Database) → AllByRecursion (λ (y : List ℕ). compare d.name y ≡ Less) (names_of ds) → AreFound all ds → AreFound (d ∷ all) ds
found_behind d all [] above found = tt
found_behind d all (e ∷ ds) above found =
    let apart : bytes_eq e.name d.name ≡ false = is_false (bytes_eq e.name d.name) (less_differs d.name e.name above.0) in
    (cond-false (bytes_eq e.name d.name) (Some d) (named e.name all) apart ∙ found.0, found_behind d all ds above.1 found.1)

all_found : (ds : List Database) → Ascend (names_of ds) → AreFound ds ds
unfolding IsStrictlySortedBy
all_found [] order = tt
all_found (d ∷ ds) order = (cond-true (bytes_eq d.name d.name) (Some d) (named d.name ds) (same_name d.name), found_behind d ds ds order.0 (all_found ds order.1))

shown_by : (all ds : List Database) → AreFound all ds → map content_of ds ≡ map (λ (name : List ℕ). content_in name (base_of (named name all))) (names_of ds)
shown_by all [] found = refl
shown_by all (d ∷ ds) found =
    ap (λ (o : Option Database). content_in d.name (base_of o) ∷ map content_of ds) (sym found.0)
    ∙ ap (λ (cs : List Content). content_in d.name (base_of (named d.name all)) ∷ cs) (shown_by all ds found.1)

-- so the map tells the files
contents_shown : (ds : List Database) → Ascend (names_of ds) → contents_of ds ≡ contents_in (machine_of ds)
contents_shown ds order = shown_by ds ds (all_found ds order)

same_in : (a b : Machine) → ((name : List ℕ) → (a.base name).image ≡ (b.base name).image) → ((name : List ℕ) → (a.base name).pending ≡ (b.base name).pending) → (names : List (List ℕ)) →
    map (λ (name : List ℕ). content_in name (a.base name)) names ≡ map (λ (name : List ℕ). content_in name (b.base name)) names
same_in a b images pending [] = refl
same_in a b images pending (name ∷ names) =
    ap (λ (cs : List Content). content_in name (a.base name) ∷ cs) (same_in a b images pending names)
    ∙ ap (λ (i : Image). record { name = name; image = i; pending = (a.base name).pending } ∷ map (λ (n : List ℕ). content_in n (b.base n)) names) (images name)
    ∙ ap (λ (p : Option PageSet). record { name = name; image = (b.base name).image; pending = p } ∷ map (λ (n : List ℕ). content_in n (b.base n)) names) (pending name)

-- databases with the same files have the same contents
pub same_contents : (xs ys : List Database) → Ascend (names_of xs) → Ascend (names_of ys) → SameFiles (machine_of xs) (machine_of ys) → contents_of xs ≡ contents_of ys
same_contents xs ys a b same =
    contents_shown xs a
    ∙ same_in (machine_of xs) (machine_of ys) same.images same.pending (machine_of xs).names
    ∙ ap (λ (names : List (List ℕ)). map (λ (name : List ℕ). content_in name ((machine_of ys).base name)) names) same.names
    ∙ sym (contents_shown ys b)
