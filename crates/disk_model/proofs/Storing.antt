-- What the calls make of the contents of a disk over memory.
use Rattle.std.proofs.Common.{◌≡◌, ℕ, true, List, [], ◌∷◌, ◌++◌, sym, ap, ◌∙◌, Result, Ok, Err, OnErr}
use Rattle.std.specs.declared.alloc.AllocError.{AllocError}
use Rattle.std.proofs.lemmas.Bool.{cond-true}
use Rattle.disk_model.specs.Disk.{missing}
use Rattle.disk_model.specs.Trait.{Text}
use Rattle.disk_model.specs.Memory.{Memory, done_to, noted, removed, synced, names_synced, crashed, kept, left_by_file_sync, left_by_names_sync, each_left}
use Rattle.disk_model.specs.Folder.{Tables, tables_of, read_changed, file_put_down, names_put_down, settled, replayed}
use Rattle.disk_model.specs.Stored.{Contents, memory_of}
use Rattle.disk_model.specs.MemFiles.{MemFile}
use Rattle.disk_model.specs.declared.open_calls.UnsyncedEffect.{UnsyncedEffect}
use Rattle.disk_model.specs.declared.open_calls.UnsyncedEffect.TheVariants.{Removal}
use Rattle.disk_model.specs.declared.open_calls.UnsyncedCall.{UnsyncedCall}

-- a fact holds at an answer too
pub held_err : {P : Type 0} (r : Result Unit AllocError) → P → OnErr r P
held_err (Ok x) p = tt
held_err (Err x) p = p

-- the memory that tables and calls make
abbrev made_of : Tables → List UnsyncedCall → Memory
made_of t us = record { read = t.read; base = t.base; uncovered = us }

module _ (now : Contents) (own f : List MemFile) (us u : List UnsyncedCall) (view : record { files = own; uncovered = us } ≡ now) where
  abbrev after : Memory
  after = memory_of (record { files = f; uncovered = u })

  at_view : (op : Memory → Memory) → after ≡ op (memory_of (record { files = own; uncovered = us })) → after ≡ op (memory_of now)
  at_view op e = e ∙ ap (λ (c : Contents). op (memory_of c)) view

  pub same_memory : tables_of f ≡ tables_of own → u ≡ us → after ≡ memory_of now
  same_memory t q = at_view (λ m. m) (λ i. made_of (t i) (q i))

  pub note_done : (n : Text) (own_name : Text) (c : UnsyncedEffect) → own_name ≡ n → tables_of f ≡ read_changed n (done_to c) (tables_of own) → u ≡ us ++ record { name = own_name; effect = c } ∷ [] → after ≡ noted n c (done_to c) (memory_of now)
  note_done n own_name c name t q = at_view (noted n c (done_to c)) ((λ i. made_of (t i) (q i)) ∙ (λ i. made_of (read_changed n (done_to c) (tables_of own)) (us ++ record { name = name i; effect = c } ∷ [])))

  pub remove_done : (n : Text) (own_name : Text) → own_name ≡ n → ((memory_of now).read n).there ≡ true → tables_of f ≡ read_changed n (λ file. missing) (tables_of own) → u ≡ us ++ record { name = own_name; effect = Removal } ∷ [] → after ≡ removed n (memory_of now)
  remove_done n own_name name there t q =
      at_view (noted n Removal (λ file. missing)) ((λ i. made_of (t i) (q i)) ∙ (λ i. made_of (read_changed n (λ file. missing) (tables_of own)) (us ++ record { name = name i; effect = Removal } ∷ [])))
      ∙ sym (cond-true ((memory_of now).read n).there (noted n Removal (λ file. missing) (memory_of now)) (memory_of now) there)

  pub sync_done : (n : Text) → ((memory_of now).read n).there ≡ true → tables_of f ≡ file_put_down n (tables_of own) → u ≡ each_left (left_by_file_sync n) us → after ≡ synced n (memory_of now)
  sync_done n there t q =
      let was : ((memory_of (record { files = own; uncovered = us })).read n).there ≡ true = ap (λ (c : Contents). ((memory_of c).read n).there) view ∙ there in
      at_view (synced n) ((λ i. made_of (t i) (q i)) ∙ sym (cond-true ((memory_of (record { files = own; uncovered = us })).read n).there _ (memory_of (record { files = own; uncovered = us })) was))

  pub names_done : tables_of f ≡ names_put_down (tables_of own) → u ≡ each_left (left_by_names_sync (tables_of own).read) us → after ≡ names_synced (memory_of now)
  names_done t q = at_view names_synced (λ i. made_of (t i) (q i))

  pub crash_done : (pick : ℕ) (calls : List UnsyncedCall) (copy changed : List MemFile) → calls ≡ us → copy ≡ own → tables_of changed ≡ replayed (kept pick calls) (tables_of copy) → tables_of f ≡ settled (tables_of changed) → u ≡ [] → after ≡ crashed pick (memory_of now)
  crash_done pick calls copy changed same_calls copied again last none =
      at_view (crashed pick) ((λ i. made_of (last i) (none i)) ∙ (λ i. made_of (settled (again i)) []) ∙ (λ i. made_of (settled (replayed (kept pick (same_calls i)) (tables_of (copied i)))) []))
