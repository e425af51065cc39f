-- The databases of a node's snapshot, and what entries do to them.
use Rattle.std.proofs.Common.{◌≡◌, ℕ, List, Option, Some, None, refl, sym, ap, ◌∙◌}
use Rattle.std.specs.Option.{option_map}
use Rattle.database_state.specs.Databases.{contents_of}
use Rattle.applied_state.specs.declared.applied.Applied.{Applied}
use Rattle.applied_state.specs.Snapshot.{NodeSnapshot, snapshot_value, snapshot_in}
use Rattle.folder_check.specs.Files.{databases_of}

pub some_restored : (a : Applied) (o : Option Applied) (bytes : List ℕ) → o ≡ Some a → option_map snapshot_value o ≡ snapshot_in bytes → Some (contents_of a.machine) ≡ databases_of bytes
unfolding databases_of
some_restored a o bytes is read = ap (λ (x : Option Applied). option_map contents_of (option_map (λ (b : Applied). b.machine) x)) (sym is) ∙ same o ∙ ap (option_map (λ (s : NodeSnapshot). s.contents)) read
  where
    same : (o : Option Applied) → option_map contents_of (option_map (λ (b : Applied). b.machine) o) ≡ option_map (λ (s : NodeSnapshot). s.contents) (option_map snapshot_value o)
    same None = refl
    same (Some b) = refl

pub none_restored : (o : Option Applied) (bytes : List ℕ) → o ≡ None → option_map snapshot_value o ≡ snapshot_in bytes → None ≡ databases_of bytes
unfolding databases_of
none_restored o bytes is read = ap (λ (x : Option Applied). option_map (λ (s : NodeSnapshot). s.contents) (option_map snapshot_value x)) (sym is) ∙ ap (option_map (λ (s : NodeSnapshot). s.contents)) read
