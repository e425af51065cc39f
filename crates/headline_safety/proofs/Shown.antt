-- What a node shows is a prefix of the changes.
use Rattle.std.proofs.Common.{◌≡◌, ℕ, ◌≤◌, cond, List, length, map, take, sym, ap, ◌∙◌, subst, arith}
use Rattle.std.specs.Prelude.{Some, None}
use Rattle.std.proofs.lemmas.List.{length-take, take-take}
use Rattle.sql_engine.specs.declared.kind.EngineKind.{EngineKind}
use Rattle.sql_engine.specs.Meanings.{Meaning}
use Rattle.database_state.specs.declared.database.Database.{Database}
use Rattle.database_state.specs.Databases.{contents_of}
use Rattle.session_spec.specs.Entries.{Entry as Line}
use Rattle.session_spec.specs.Machine.{Machine, is_named, machine_of, files}
use Rattle.cluster_safety.specs.Laws.{SameFiles, applied}
use Rattle.headline.specs.Headline.{Change, image_in, shown_image}
use Rattle.change_safety.specs.Changes.{new_image, image_of, changes_of, changes_at}
use Rattle.change_safety.proofs.Changes.{files_are_changes_holds, shown_are_files_holds}
use Rattle.headline_safety.specs.Shown.{FilesAreShown}
use Rattle.headline_safety.proofs.Moments.{one_list}

same_image_of : (a b : Machine) (name : List ℕ) → SameFiles a b → image_of a name ≡ image_of b name
same_image_of a b name same =
    ap (λ names. cond (is_named names name) (Some (a.base name).image) None) same.names ∙ ap (λ i. cond (is_named b.names name) (Some i) None)
    (same.images name)

pub shows_by : (chosen : List Line) (order : List Change) (size k : ℕ) (databases : List Database) → map new_image order ≡ changes_of chosen →
    k ≤ length (take size chosen) → SameFiles (machine_of databases) (files (take k (take size chosen))) → (name : List ℕ) →
    shown_image (contents_of databases) name ≡ image_in (take (changes_at chosen k) order) name
shows_by chosen order size k databases same low files_are name =
    let long = length-take size chosen in
    let front : take k (take size chosen) ≡ take k chosen = take-take k size chosen (omega arith) in
    shown_are_files_holds databases name
    ∙ same_image_of (machine_of databases) (files (take k chosen)) name (subst (λ l. SameFiles (machine_of databases) (files l)) front files_are)
    ∙ sym (files_are_changes_holds chosen order same k name)

pub files_are_shown_hold : (mean : Meaning) (kind : EngineKind) → FilesAreShown mean kind
files_are_shown_hold mean kind vs events h =
    let list = one_list mean kind vs events h in
    record {
      list = list;
      files = λ order same early late e n v up.
          let m = list.moments early late e in
          let f = m.2.files_are n v up in
          let low = f.0 in
          let long = length-take m.0 list.chosen in
          (omega arith, shows_by list.chosen order m.0 (applied v) v.machine same f.0 f.1);
    }
