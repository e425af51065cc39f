-- The wrong scripts are refused.
use Rattle.std.proofs.Common.{◌≡◌, ℕ, zero, suc, ◌≤◌, List, [], ◌∷◌, take, refl, sym, ap, ◌∙◌, arith}
use Rattle.std.specs.Prelude.{bytes_eq, Option, Some, None, if◌then◌else◌}
use Rattle.std.specs.Option.{option_or}
use Rattle.dq_base.specs.declared.images.Image.{Image}
use Rattle.sql_engine.specs.declared.kind.EngineKind.{EngineKind}
use Rattle.sql_engine.specs.Meanings.{Meaning}
use Rattle.headline.specs.Headline.{Change, image_in}
use Rattle.change_safety.specs.Changes.{changes_of, changes_at}
use Rattle.change_safety.proofs.Changes.{changes_grow_holds}
use Rattle.headline_safety.proofs.Refused.{as_changes, named_so}
use Rattle.headline_script_safety.specs.Wrong.{NoOtherFiles, NoLostDatabase}
use Rattle.headline_script_safety.proofs.Showing.{scripts_show_changes_hold}

pub no_other_files : (m : Meaning) (kind : EngineKind) → NoOtherFiles m kind
no_other_files m kind setup turns n k a b is here there same apart =
    apart ((scripts_show_changes_hold m kind setup turns is).alike n k a b here there same)

none_of : (o p : Option Image) → option_or o p ≡ None → (o ≡ None) × (p ≡ None)
none_of None p e = (refl, e)
none_of (Some x) p e = absurd cc

-- a database that is not there after some changes was not there after fewer
none_before : (name : List ℕ) (cs : List Change) (i j : ℕ) → i ≤ j → image_in (take j cs) name ≡ None → image_in (take i cs) name ≡ None
none_before name cs zero j le none = refl
none_before name [] (suc i) j le none = refl
none_before name (c ∷ cs) (suc i) zero le none = absurd (omega (arith, le))
none_before name (c ∷ cs) (suc i) (suc j) le none =
    let own = if bytes_eq c.name name then Some c.after else None in
    let parts = none_of (image_in (take j cs) name) own none in
    ap (λ o. option_or o own) (none_before name cs i j (omega (arith, le)) parts.0) ∙ parts.1

none_some : (x : Image) → None ≡ Some x → ⊥
none_some x e = cc

pub no_lost_database : (m : Meaning) (kind : EngineKind) → NoLostDatabase m kind
no_lost_database m kind setup turns n k a b name image is here there le has lacks =
    let law = scripts_show_changes_hold m kind setup turns is in
    let order = as_changes (changes_of law.chosen) in
    let shows = law.files order (named_so (changes_of law.chosen)) in
    let first = (shows n a here).1 name in
    let second = (shows k b there).1 name in
    let none = none_before name order (changes_at law.chosen a.applied) (changes_at law.chosen b.applied)
    (changes_grow_holds law.chosen a.applied b.applied le) (sym second ∙ lacks) in
    none_some image (sym none ∙ sym first ∙ has)
