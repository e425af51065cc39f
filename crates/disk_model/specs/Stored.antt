-- What a disk over memory holds.
use Rattle.std.specs.Prelude.{ℕ, List}
use Rattle.disk_model.specs.Disk.{Disk}
use Rattle.disk_model.specs.Trait.{Text}
use Rattle.disk_model.specs.Holds.{Holds}
use Rattle.disk_model.specs.Armed.{picked}
use Rattle.disk_model.specs.Memory.{Memory}
use Rattle.disk_model.specs.Folder.{file_of}
use Rattle.disk_model.specs.MemFiles.{MemFile}
use Rattle.disk_model.specs.declared.armed.FaultInjector.{FaultInjector}
use Rattle.disk_model.specs.declared.open_calls.UnsyncedCall.{UnsyncedCall}

-- the files, each as it is read and as it is on stable storage, and the calls that no sync covers yet
pub record Contents : Type 0 where
  pub files : List MemFile
  pub uncovered : List UnsyncedCall

-- the same by names
abbrev pub memory_of : Contents → Memory
memory_of c = record { read = λ n. (file_of c.files n).read; base = λ n. (file_of c.files n).base; uncovered = c.uncovered }

-- a disk over memory: what it holds, and its calls
pub record OverMemory : Type 0 where
  pub contents : Contents
  pub calls : FaultInjector

-- the states that it may be said to be in
abbrev pub states_of : OverMemory → Disk Text → Type 0
states_of m = Holds (memory_of m.contents)

-- the pick of a crash: that of the stop, if one came, else the one that is given
abbrev pub pick_of : FaultInjector → ℕ → ℕ
pick_of calls pick = picked calls.stopped pick
