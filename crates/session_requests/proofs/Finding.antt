-- The database of a name.
use Rattle.std.proofs.Common.{◌≡◌, ℕ, ◌+◌, ◌<◌, ◌≤◌, Bool, true, false, cond, ◌||◌, List, [], ◌∷◌, length, get_or, drop, find, Option, Some, None, refl, sym, ap, ◌∙◌}
use Rattle.std.specs.Option.{is_some, option_map}
use Rattle.std.specs.Prelude.{bytes_eq}
use Rattle.std.proofs.lemmas.List.{at_drop_more, at_drop_all}
use Rattle.std.proofs.lemmas.Bool.{cond-true, cond-false}
use Rattle.database_state.specs.declared.database.Database.{Database}
use Rattle.database_state.specs.Databases.{named}
use Rattle.database_state.specs.Machines.{names_of}
use Rattle.session_spec.specs.Machine.{is_named}

one_named : (b rest : Bool) (d : Database) (o : Option Database) → rest ≡ is_some o → (b || rest) ≡ is_some (cond b (Some d) o)
one_named true rest d o e = refl
one_named false rest d o e = e

-- a name is one of the databases' exactly if a database has it
pub named_there : (name : List ℕ) (databases : List Database) → is_named (names_of databases) name ≡ is_some (named name databases)
named_there name [] = refl
named_there name (d ∷ ds) = one_named (bytes_eq name d.name) (is_named (names_of ds) name) d (named name ds) (named_there name ds)

pub mapped_there : {X Y : Type 0} (f : X → Y) (o : Option X) → is_some (option_map f o) ≡ is_some o
mapped_there f None = refl
mapped_there f (Some x) = refl

-- ---- a loop over the databases

module _ {X : Type 0} (test : X → Bool) (xs : List X) (i : ℕ) (x : X) (whole : Option X) (is : x ≡ get_or xs i x) (so_far : find test (drop i xs) ≡ whole) where
  next : i < length xs → find test (drop i xs) ≡ cond (test x) (Some x) (find test (drop (i + 1) xs))
  next h = at_drop_more (λ (ys : List X). find test ys) xs i x h ∙ ap (λ (y : X). cond (test y) (Some y) (find test (drop (i + 1) xs))) (sym is)

  pub skipped : i < length xs → test x ≡ false → find test (drop (i + 1) xs) ≡ whole
  skipped h miss = sym (next h ∙ cond-false (test x) (Some x) (find test (drop (i + 1) xs)) miss) ∙ so_far

  pub hit : i < length xs → test x ≡ true → whole ≡ Some x
  hit h found = sym so_far ∙ next h ∙ cond-true (test x) (Some x) (find test (drop (i + 1) xs)) found

pub missed : {X : Type 0} (test : X → Bool) (xs : List X) (i : ℕ) (whole : Option X) → find test (drop i xs) ≡ whole → length xs ≤ i → whole ≡ None
missed {X} test xs i whole so_far past = sym so_far ∙ at_drop_all (λ (ys : List X). find test ys) xs i past
