-- Names of databases, one after another.
use Rattle.std.proofs.Common.{◌≡◌, ℕ, ◌+◌, ◌<◌, ◌≤◌, Bool, true, false, cond, List, [], ◌∷◌, length, drop, get_or, Some, None, refl, sym, ap, ◌∙◌, ◌&&◌, ◌||◌}
use Rattle.std.specs.Prelude.{bytes_eq, is_some}
use Rattle.std.specs.Option.{option_map}
use Rattle.std.proofs.lemmas.Bool.{cond-true, cond-false}
use Rattle.std.proofs.lemmas.List.{drop_all, drop_more}
use Rattle.database_state.specs.Files.{Content}
use Rattle.database_state.specs.declared.database.Database.{Database}
use Rattle.database_state.specs.AsMap as contents
use Rattle.database_state.specs.Databases.{named, contents_of}
use Rattle.database_state.specs.Machines.{names_of}
use Rattle.session_spec.specs.Machine.{is_named}
use Rattle.applied_state.specs.Applied.{has_names}
use Rattle.applied_state.specs.Snapshot.{NodeSnapshot, offered_to}

pub named_there : {X : Type 0} (f : Database → X) (name : List ℕ) (ds : List Database) → is_named (names_of ds) name ≡ is_some (option_map f (named name ds))
named_there f name [] = refl
named_there f name (d ∷ ds) = by (bytes_eq name d.name) (named_there f name ds)
  where
    by : (b : Bool) → is_named (names_of ds) name ≡ is_some (option_map f (named name ds)) → (b || is_named (names_of ds) name) ≡ is_some (option_map f (cond b (Some d) (named name ds)))
    by true later = refl
    by false later = later

pub same_names : (ds : List Database) → contents.names_of (contents_of ds) ≡ names_of ds
same_names [] = refl
same_names (d ∷ ds) = ap (λ (ns : List (List ℕ)). d.name ∷ ns) (same_names ds)

-- an offer that has all names, or not
pub accepted : (o : NodeSnapshot) (ds : List Database) (names : List (List ℕ)) (b : Bool) → o.contents ≡ contents_of ds → b ≡ has_names (names_of ds) names → b ≡ true → Some o ≡ offered_to names (Some o)
accepted o ds names b is same found = sym (cond-true (has_names (contents.names_of o.contents) names) (Some o) None (ap (λ (cs : List Content). has_names (contents.names_of cs) names) is ∙ ap (λ (ns : List (List ℕ)). has_names ns names) (same_names ds) ∙ sym same ∙ found))

pub refused : (o : NodeSnapshot) (ds : List Database) (names : List (List ℕ)) (b : Bool) → o.contents ≡ contents_of ds → b ≡ has_names (names_of ds) names → b ≡ false → None ≡ offered_to names (Some o)
refused o ds names b is same lacks = sym (cond-false (has_names (contents.names_of o.contents) names) (Some o) None (ap (λ (cs : List Content). has_names (contents.names_of cs) names) is ∙ ap (λ (ns : List (List ℕ)). has_names ns names) (same_names ds) ∙ sym same ∙ lacks))

-- ---- one after another

names_at : (names : List (List ℕ)) (ds : List Database) (place : ℕ) (d e : Database) → place < length ds → d ≡ get_or ds place e
    → has_names names (names_of (drop place ds)) ≡ (is_named names d.name && has_names names (names_of (drop (place + 1) ds)))
names_at names ds place d e within is =
    ap (λ (xs : List Database). has_names names (names_of xs)) (drop_more ds place e within)
    ∙ ap (λ (x : Database). is_named names x.name && has_names names (names_of (drop (place + 1) ds))) (sym is)

pub lacks_one : (names : List (List ℕ)) (ds : List Database) (place : ℕ) (d e : Database) (b : Bool) → place < length ds → d ≡ get_or ds place e → b ≡ is_named names d.name → b ≡ false
    → has_names names (names_of ds) ≡ has_names names (names_of (drop place ds)) → false ≡ has_names names (names_of ds)
lacks_one names ds place d e b within is same not so_far =
    sym (so_far ∙ names_at names ds place d e within is ∙ ap (λ (x : Bool). x && has_names names (names_of (drop (place + 1) ds))) (sym same ∙ not))

pub has_one : (names : List (List ℕ)) (ds : List Database) (place : ℕ) (d e : Database) (b : Bool) → place < length ds → d ≡ get_or ds place e → b ≡ is_named names d.name → b ≡ true
    → has_names names (names_of ds) ≡ has_names names (names_of (drop place ds)) → has_names names (names_of ds) ≡ has_names names (names_of (drop (place + 1) ds))
has_one names ds place d e b within is same found so_far =
    so_far ∙ names_at names ds place d e within is ∙ ap (λ (x : Bool). x && has_names names (names_of (drop (place + 1) ds))) (sym same ∙ found)

pub has_all_names : (names : List (List ℕ)) (ds : List Database) (place : ℕ) → length ds ≤ place → has_names names (names_of ds) ≡ has_names names (names_of (drop place ds)) → true ≡ has_names names (names_of ds)
has_all_names names ds place all so_far = sym (so_far ∙ ap (λ (xs : List Database). has_names names (names_of xs)) (drop_all place ds all))
