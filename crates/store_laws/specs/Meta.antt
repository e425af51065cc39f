-- Keeping a term and a vote.
use Rattle.std.specs.Prelude.{ℕ, suc, Bool, cond, ◌==◌, ◌%◌, List, [], ◌∷◌}
use Rattle.store_laws.specs.Names.{Name, First, Second, NodeCall}
use Rattle.store_laws.specs.Store.{Meta, Kept}
use Rattle.disk_model.specs.Calls.{WriteAt, CutTo, Sync}

-- version 1 is the first; a stamp is one more than the version
abbrev pub next_stamp : Meta → ℕ
next_stamp m = cond (m.stamp == 0) 2 (suc m.stamp)

-- odd versions go to the first file
abbrev pub goes_first : ℕ → Bool
goes_first stamp = stamp % 2 == 0

abbrev pub file_of : Bool → Name
file_of first = cond first First Second

abbrev pub with_vote : ℕ → ℕ → Kept → Kept
with_vote term vote k = record { term = term; vote = vote; snap = k.snap; log = k.log }

-- over a longer file: the write, a sync, and only then the cut, so that nothing old comes alive
abbrev pub set_long_calls : Name → List ℕ → List NodeCall
set_long_calls n bytes = WriteAt n 0 bytes ∷ Sync n ∷ CutTo n 40 ∷ Sync n ∷ []
