-- The clauses of a disk over memory.
use Rattle.std.proofs.Common.{◌≡◌, ◌≤◌, ℕ, true, List, refl, sym, ap, ◌∙◌, subst, Result, Ok, Err, OnOk, OnErr}
use Rattle.std.specs.declared.alloc.AllocError.{AllocError}
use Rattle.disk_model.specs.Disk.{Disk, Found, Held, LeavesFile, no_files}
use Rattle.disk_model.specs.Calls.{Call, WriteAt, CutTo, Sync, Remove, SyncNames, Does, Fails, Turns, Breaks, MayWrite}
use Rattle.disk_model.specs.Trait.{Text, Known, told, untold, Steps, Looks, Lists, Reads, HasCause, HasWant, Crashes}
use Rattle.disk_model.specs.Memory.{Memory, no_memory, effects_on, wrote, truncated, removed, synced, names_synced, crashed}
use Rattle.disk_model.specs.Folder.{ListsFiles}
use Rattle.disk_model.specs.Stored.{Contents, OverMemory, memory_of, states_of}
use Rattle.disk_model.specs.Holds.{Holds}
use Rattle.disk_model.specs.Armed.{finished, with_end}
use Rattle.disk_model.specs.declared.armed.FaultInjector.{FaultInjector}
use Rattle.disk_model.specs.declared.armed.CallOutcome.{CallOutcome}
use Rattle.disk_model.specs.declared.armed.CallOutcome.TheVariants.{Goes, Stops}
use Rattle.disk_model.specs.declared.faults.DiskFault.{DiskFault}
use Rattle.disk_model.proofs.Counts.{ended_cause, ended_want}
use Rattle.disk_model.proofs.Fitting.{read_left}
use Rattle.disk_model.proofs.Stepping.{holds_none, Writable, writable, write_does, write_fails, cut_does, cut_fails, remove_does, remove_fails, sync_does, names_does, crash_does}

-- a call that may be idle, and that may be done: the answer says which state the disk has come to
steps_of : (call : Call Text) (m k : Memory) (done : Result Unit AllocError) (turn : CallOutcome)
    → ((d : Disk Text) → Holds m d → (e : Disk Text) × (Holds m e × Fails call d e))
    → ((d : Disk Text) → Holds m d → (e : Disk Text) × (Holds k e × Does call d e))
    → ((d : Disk Text) → Holds m d → (e : Disk Text) × (Holds k e × Fails call d e))
    → (was : Memory) → OnOk done (was ≡ k) → OnErr done (was ≡ m) → Steps call (Holds m) (Holds was) (finished turn done)
steps_of call m k (Err x) turn idle does breaks was ok err = record { each = λ d y. let z = idle d y in (z.0, (subst (λ (a : Memory). Holds a z.0) (sym err) z.1.0, (tt, z.1.1))) }
steps_of call m k (Ok x) Goes idle does breaks was ok err = record { each = λ d y. let z = does d y in (z.0, (subst (λ (a : Memory). Holds a z.0) (sym ok) z.1.0, (z.1.1, tt))) }
steps_of call m k (Ok x) Stops idle does breaks was ok err = record { each = λ d y. let z = breaks d y in (z.0, (subst (λ (a : Memory). Holds a z.0) (sym ok) z.1.0, (tt, z.1.1))) }

-- a call that was done may also be said to have failed
broke : (n : Text) (k : Memory) (d e : Disk Text) (h : Held) (f : Found) → Holds k e → Turns n d e h f → Breaks n d e h
broke n k d e h f holds t = record {
  others = t.others;
  held = t.held;
  part = subst (λ (x : Held). LeavesFile x (e.read n)) t.held (subst (LeavesFile (e.held n)) (sym (holds.read n)) (read_left (e.held n) (k.read n) (k.base n) (effects_on n k.uncovered) (holds.file n)));
}

may_write : (n : Text) (at : ℕ) (m : Memory) → Known true (Holds m) (MayWrite n at) → Writable n at m
may_write n at m (told d y p) = writable n at m d y p
may_write n at m (untold e) = absurd cc

pub write_told : (n : Text) (at : ℕ) (bytes : List ℕ) (m was : Memory) (done : Result Unit AllocError) (turn : CallOutcome) → Known true (Holds m) (MayWrite n at) → OnOk done (was ≡ wrote n at bytes m) → OnErr done (was ≡ m)
    → Steps (WriteAt n at bytes) (Holds m) (Holds was) (finished turn done)
write_told n at bytes m was done turn known ok err =
    let may = may_write n at m known in
    steps_of (WriteAt n at bytes) m (wrote n at bytes m) done turn
    (λ d y. write_fails n m d y at bytes may)
    (λ d y. write_does n m d y at bytes may)
    (λ d y. let z = write_does n m d y at bytes may in (z.0, (z.1.0, broke n (wrote n at bytes m) d z.0 _ _ z.1.0 z.1.1)))
    was ok err

pub write_idle : (n : Text) (at : ℕ) (bytes : List ℕ) (m : Memory) (x : DiskFault) → Known true (Holds m) (MayWrite n at) → Steps {T = Unit} (WriteAt n at bytes) (Holds m) (Holds m) (Err x)
write_idle n at bytes m x known = record { each = λ d y. let z = write_fails n m d y at bytes (may_write n at m known) in (z.0, (z.1.0, (tt, z.1.1))) }

pub cut_told : (n : Text) (k : ℕ) (m was : Memory) (done : Result Unit AllocError) (turn : CallOutcome) → OnOk done (was ≡ truncated n k m) → OnErr done (was ≡ m) → Steps (CutTo n k) (Holds m) (Holds was) (finished turn done)
cut_told n k m was done turn ok err =
    steps_of (CutTo n k) m (truncated n k m) done turn (λ d y. cut_fails n m d y k) (λ d y. cut_does n m d y k)
    (λ d y. let z = cut_does n m d y k in (z.0, (z.1.0, broke n (truncated n k m) d z.0 _ _ z.1.0 z.1.1))) was ok err

pub cut_idle : (n : Text) (k : ℕ) (m : Memory) (x : DiskFault) → Steps {T = Unit} (CutTo n k) (Holds m) (Holds m) (Err x)
cut_idle n k m x = record { each = λ d y. let z = cut_fails n m d y k in (z.0, (z.1.0, (tt, z.1.1))) }

pub remove_told : (n : Text) (m was : Memory) (done : Result Unit AllocError) (turn : CallOutcome) → OnOk done (was ≡ removed n m) → OnErr done (was ≡ m) → Steps (Remove n) (Holds m) (Holds was) (finished turn done)
remove_told n m was done turn ok err =
    steps_of (Remove n) m (removed n m) done turn (λ d y. remove_fails n m d y) (λ d y. remove_does n m d y)
    (λ d y. let z = remove_does n m d y in (z.0, (z.1.0, broke n (removed n m) d z.0 _ _ z.1.0 z.1.1))) was ok err

pub remove_idle : (n : Text) (m : Memory) (x : DiskFault) → Steps {T = Unit} (Remove n) (Holds m) (Holds m) (Err x)
remove_idle n m x = record { each = λ d y. let z = remove_fails n m d y in (z.0, (z.1.0, (tt, z.1.1))) }

pub sync_told : (n : Text) (m was : Memory) (x : Unit) → was ≡ synced n m → Steps {T = Unit} (Sync n) (Holds m) (Holds was) (Ok x)
sync_told n m was x is = record { each = λ d y. let z = sync_does n m d y in (z.0, (subst (λ (a : Memory). Holds a z.0) (sym is) z.1.0, (z.1.1, tt))) }

pub sync_idle : (n : Text) (m was : Memory) (x : DiskFault) → was ≡ m → Steps {T = Unit} (Sync n) (Holds m) (Holds was) (Err x)
sync_idle n m was x is = record { each = λ d y. (d, (subst (λ (a : Memory). Holds a d) (sym is) y, (tt, refl))) }

pub names_told : (m was : Memory) (x : Unit) → was ≡ names_synced m → Steps {T = Unit} SyncNames (Holds m) (Holds was) (Ok x)
names_told m was x is = record { each = λ d y. let z = names_does m d y in (z.0, (subst (λ (a : Memory). Holds a z.0) (sym is) z.1.0, (z.1.1, tt))) }

pub names_idle : (m : Memory) (x : DiskFault) → Steps {T = Unit} SyncNames (Holds m) (Holds m) (Err x)
names_idle m x = record { each = λ d y. (d, (y, (tt, refl))) }

pub looks_none : {T : Type 0} (m : Memory) (x : DiskFault) (Shows : Disk Text → T → Type 0) → Looks {T = T} (Holds m) (Holds m) (Err x) Shows
looks_none {T} m x Shows = record { each = λ d y. (y, tt) }

pub list_told : (c : Contents) (names : List Text) → ListsFiles c.files names → Looks {T = List Text} (Holds (memory_of c)) (Holds (memory_of c)) (Ok names) Lists
list_told c names lists = record {
  each = λ d y. (
    y,
    record {
      there = λ n a. ap (λ (f : Found). f.there) (y.read n) ∙ lists.there n a;
      all = λ n t. lists.all n (ap (λ (f : Found). f.there) (sym (y.read n)) ∙ t);
      once = lists.once;
    },
  );
}

pub read_told : (m : Memory) (n : Text) (at : ℕ) (before after : List ℕ) (count : ℕ) → Reads (m.read n).bytes at before after count
    → Looks {T = ℕ} (Holds m) (Holds m) (Ok count) (λ d. Reads (d.read n).bytes at before after)
read_told m n at before after count reads = record { each = λ d y. (y, subst (λ (f : Found). Reads f.bytes at before after count) (sym (y.read n)) reads) }

pub crash_told : (m was : Memory) (pick : ℕ) → was ≡ crashed pick m → Crashes (Holds m) (Holds was)
crash_told m was pick is = record { each = λ d y. let z = crash_does m d y pick in (z.0, (subst (λ (a : Memory). Holds a z.0) (sym is) z.1.0, z.1.1)) }

pub new_told : (m : Memory) → m ≡ no_memory → Holds m no_files
new_told m is = subst (λ (x : Memory). Holds x no_files) (sym is) holds_none

-- the same where the disk is seen as a whole
pub write_idle_at : (now : OverMemory) (s : Contents) (a : FaultInjector) (n : Text) (at : ℕ) (bytes : List ℕ) (x : DiskFault) → record { contents = s; calls = a } ≡ now → Known true (states_of now) (MayWrite n at) → Steps {T = Unit} (WriteAt n at bytes) (states_of now) (Holds (memory_of s)) (Err x)
write_idle_at now s a n at bytes x view =
    subst (λ (z : OverMemory). Known true (states_of z) (MayWrite n at) → Steps {T = Unit} (WriteAt n at bytes) (states_of z) (Holds (memory_of s)) (Err x)) view (λ known. write_idle n at bytes (memory_of s) x known)

pub write_told_at : (now : OverMemory) (s k : Contents) (a : FaultInjector) (n : Text) (at : ℕ) (bytes : List ℕ) (done : Result Unit AllocError) (turn : CallOutcome) (result : Result Unit DiskFault) → record { contents = s; calls = a } ≡ now
    → OnOk done (memory_of k ≡ wrote n at bytes (memory_of s)) → OnErr done (memory_of k ≡ memory_of s) → result ≡ finished turn done → Known true (states_of now) (MayWrite n at) → Steps (WriteAt n at bytes) (states_of now) (Holds (memory_of k)) result
write_told_at now s k a n at bytes done turn result view ok err is =
    subst (λ (z : OverMemory). Known true (states_of z) (MayWrite n at) → Steps (WriteAt n at bytes) (states_of z) (Holds (memory_of k)) result) view
    (λ known. subst (λ (r : Result Unit DiskFault). Steps (WriteAt n at bytes) (Holds (memory_of s)) (Holds (memory_of k)) r) (sym is) (write_told n at bytes (memory_of s) (memory_of k) done turn known ok err))

pub crash_told_at : (now : OverMemory) (s k : Contents) (a : FaultInjector) (pick : ℕ) → record { contents = s; calls = a } ≡ now → memory_of k ≡ crashed pick (memory_of s) → Crashes (states_of now) (Holds (memory_of k))
crash_told_at now s k a pick view is = subst (λ (z : OverMemory). Crashes (states_of z) (Holds (memory_of k))) view (crash_told (memory_of s) (memory_of k) pick is)

pub ended_cause_at : (now : OverMemory) (s : Contents) (a mid new : FaultInjector) (turn : CallOutcome) (done : Result Unit AllocError) (result : Result Unit DiskFault) → record { contents = s; calls = a } ≡ now → HasCause {T = CallOutcome} a.faults mid.faults (Ok turn) → mid.faults ≤ new.faults → new ≡ with_end turn done mid → result ≡ finished turn done
    → HasCause now.calls.faults new.faults result
ended_cause_at now s a mid new turn done result view cause later e is =
    subst (λ (r : Result Unit DiskFault). HasCause now.calls.faults new.faults r) (sym is)
    (ended_cause now.calls.faults mid new turn done (subst (λ (z : OverMemory). z.calls.faults ≤ mid.faults) view cause.never_falls) later e)

pub ended_want_at : (now : OverMemory) (s : Contents) (a mid new : FaultInjector) (turn : CallOutcome) (done : Result Unit AllocError) (result : Result Unit DiskFault) → record { contents = s; calls = a } ≡ now → HasWant {T = CallOutcome} a.wants mid.wants (Ok turn) → mid.wants ≤ new.wants → new ≡ with_end turn done mid → result ≡ finished turn done
    → HasWant now.calls.wants new.wants result
ended_want_at now s a mid new turn done result view want later e is =
    subst (λ (r : Result Unit DiskFault). HasWant now.calls.wants new.wants r) (sym is)
    (ended_want now.calls.wants mid new turn done (subst (λ (z : OverMemory). z.calls.wants ≤ mid.wants) view want.never_falls) later e)
