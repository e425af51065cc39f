-- The lines of a state, by the state machine at its snapshot.
use Rattle.std.proofs.Common.{◌≡◌, ℕ, List, Option, Some, None, sym, ap, ◌∙◌, option_map}
use Rattle.database_state.specs.declared.database.Database.{Database}
use Rattle.database_state.specs.Databases.{contents_of}
use Rattle.store_laws.specs.Store.{Kept}
use Rattle.folder_check.specs.Files.{databases_at}
use Rattle.folder_check.specs.Lines.{text_with, lines_of}

pub no_lines : (k : Kept) (machine : Option (List Database)) → option_map contents_of machine ≡ databases_at k.snap → machine ≡ None → lines_of k ≡ None
no_lines k machine at none = ap (option_map (text_with k)) (sym at ∙ ap (option_map contents_of) none)

pub some_lines : (k : Kept) (machine : Option (List Database)) (m : List Database) (text : List ℕ) → option_map contents_of machine ≡ databases_at k.snap → machine ≡ Some m → text ≡ text_with k (contents_of m) → lines_of k ≡ Some text
some_lines k machine m text at some is = ap (option_map (text_with k)) (sym at ∙ ap (option_map contents_of) some) ∙ ap Some (sym is)
