-- What a call of a disk does to the states that the disk may be said to be in.
use Rattle.std.specs.Prelude.{◌≡◌, ◌≤◌, ℕ, zero, suc, ◌-◌, ◌++◌, min, Bool, true, false, List, [], ◌∷◌, length, take, drop, Result, Err, IfOk, OnOk, OnErr}
use Rattle.dq_base.specs.Faults.{one_more, Rose}
use Rattle.disk_model.specs.Disk.{Disk}
use Rattle.disk_model.specs.Calls.{Call, Done, Until, Does, Fails}
use Rattle.disk_model.specs.Rest.{AfterCrash}
use Rattle.disk_model.specs.SyncAll.{Among}
use Rattle.disk_model.specs.declared.faults.DiskFault.{DiskFault}
use Rattle.disk_model.specs.declared.faults.DiskFault.TheVariants.{Failed, NoMemory}

-- names of files are texts
abbrev pub Text : Type 0
Text = List ℕ

-- Where disks of the kind say what is on them, some state that the disk may be said to be in is such.
pub data Known (tells : Bool) (states : Disk Text → Type 0) (P : Disk Text → Type 0) : Type 0 where
  told : (d : Disk Text) → states d → P d → Known tells states P
  untold : tells ≡ false → Known tells states P

-- One call: from each state that the disk might be said to be in, it has come to one to which the call leads where it
-- was Ok, and may lead where it failed.
pub record Steps {T : Type 0} (call : Call Text) (old new : Disk Text → Type 0) (result : Result T DiskFault) : Type 0 where
  pub each : (d : Disk Text) → old d → (e : Disk Text) × (new e × (OnOk result (Does call d e) × OnErr result (Fails call d e)))

-- a list of calls: all were made where the answer is Ok, else a part of them
pub record Ran {T : Type 0} (calls : List (Call Text)) (old new : Disk Text → Type 0) (result : Result T DiskFault) : Type 0 where
  pub each : (d : Disk Text) → old d → (e : Disk Text) × (new e × (OnOk result (Done calls d e) × OnErr result (Until calls d e)))

-- a call that only looks: the disk stays as it is, and an Ok answer shows this of it
pub record Looks {T : Type 0} (old new : Disk Text → Type 0) (result : Result T DiskFault) (Shows : Disk Text → T → Type 0) : Type 0 where
  pub each : (d : Disk Text) → old d → new d × IfOk result (Shows d)

-- a hint: the disk may be said to be in each state in which it might be before, and its counts are as they were
pub record KeepsDisk (before after : Disk Text → Type 0) (faults faults_after wants wants_after made made_after : ℕ) : Type 0 where
  pub states : (d : Disk Text) → before d → after d
  pub same_faults : faults_after ≡ faults
  pub same_wants : wants_after ≡ wants
  pub same_made : made_after ≡ made

-- a crash: from each state the disk has come to rest with files that it may leave
pub record Crashes (old new : Disk Text → Type 0) : Type 0 where
  pub each : (d : Disk Text) → old d → (e : Disk Text) × (new e × AfterCrash d e)

-- no name occurs twice in a list
abbrev pub Once : List Text → Type 0
Once [] = Unit {0}
Once (n ∷ ns) = (Among n ns → ⊥) × Once ns

-- the names of the files that are there, none of them twice
pub record Lists (d : Disk Text) (names : List Text) : Type 0 where
  pub there : (n : Text) → Among n names → (d.read n).there ≡ true
  pub all : (n : Text) → (d.read n).there ≡ true → Among n names
  pub once : Once names

-- the bytes of a file from a place on, as many as there are and as the buffer takes, are at its front
pub record Reads (bytes : List ℕ) (at : ℕ) (before after : List ℕ) (n : ℕ) : Type 0 where
  pub count : n ≡ min (length before) (length bytes - at)
  pub buffer : after ≡ take n (drop at bytes) ++ drop n before

-- the count did not fall, and a disk that failed has its cause in it: the count rose
pub record HasCause {T : Type 0} (before now : ℕ) (result : Result T DiskFault) : Type 0 where
  pub never_falls : before ≤ now
  pub failed : result ≡ Err Failed → Rose before now

-- the count of wants did not fall, and a disk that answers out of memory has counted it: the count rose
pub record HasWant {T : Type 0} (before now : ℕ) (result : Result T DiskFault) : Type 0 where
  pub never_falls : before ≤ now
  pub wanted : result ≡ Err NoMemory → Rose before now

-- the count after this many calls more
abbrev pub after_calls : ℕ → ℕ → ℕ
after_calls zero before = before
after_calls (suc more) before = after_calls more (one_more before)

-- This many calls were made where the answer is Ok, and no more where it is an Err.
pub record MakesCalls {T E : Type 0} (count before now : ℕ) (result : Result T E) : Type 0 where
  pub made : ℕ
  pub within : made ≤ count
  pub counted : now ≡ after_calls made before
  pub all : OnOk result (made ≡ count)
