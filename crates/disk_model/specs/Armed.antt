-- Calls that are counted, of which one is to fail, and one is to stop the disk.
use Rattle.std.specs.Prelude.{◌≡◌, ℕ, Bool, true, false, ◌||◌, ◌==◌, if◌then◌else◌, Option, Some, None, is_some, Result, Ok, Err, cond}
use Rattle.std.specs.declared.alloc.AllocError.{AllocError}
use Rattle.dq_base.specs.Faults.{one_more}
use Rattle.disk_model.specs.declared.faults.DiskFault.{DiskFault}
use Rattle.disk_model.specs.declared.faults.DiskFault.TheVariants.{Failed, NoMemory}
use Rattle.disk_model.specs.declared.armed.Stop.{Stop}
use Rattle.disk_model.specs.declared.armed.FaultInjector.{FaultInjector}
use Rattle.disk_model.specs.declared.armed.CallOutcome.{CallOutcome}
use Rattle.disk_model.specs.Memory.{Memory}
use Rattle.disk_model.specs.declared.armed.CallOutcome.TheVariants.{Goes, Stops}

-- the pick of a stop, if it comes at this call
abbrev pub pick_at : Option Stop → ℕ → Option ℕ
pick_at None call = None
pick_at (Some stop) call = if stop.call == call then Some stop.pick else None

-- whether a number is this one
abbrev pub is_number : Option ℕ → ℕ → Bool
is_number None call = false
is_number (Some number) call = number == call

-- whether the disk is stopped after its next call: it was, or that call is the stop
abbrev pub stopped_next : FaultInjector → Option ℕ
stopped_next a = if is_some a.stopped then a.stopped else pick_at a.stop (one_more a.made)

-- whether the next call does nothing: the disk is stopped, or that call is to fail
abbrev pub is_idle_next : FaultInjector → Bool
is_idle_next a = is_some a.stopped || is_number a.fail (one_more a.made)

-- whether the next call answers Failed: the disk is then stopped, or that call is to fail
abbrev pub fails_next : FaultInjector → Bool
fails_next a = is_some (stopped_next a) || is_number a.fail (one_more a.made)

-- how the next call begins: it fails at once, or continues, and the disk stops in it or not
abbrev pub turn_next : FaultInjector → Result CallOutcome DiskFault
turn_next a = cond (is_idle_next a) (Err Failed) (cond (is_some (stopped_next a)) (Ok Stops) (Ok Goes))

-- the same for a call that is done whole or not at all
abbrev pub whole_next : FaultInjector → Result Unit DiskFault
whole_next a = cond (fails_next a) (Err Failed) (Ok tt)

-- What becomes of the memory by a call that would make this of it: a call that fails does nothing, that of the stop is
-- done, and out of memory leaves all as it was.
abbrev pub after_call : Bool → Result Unit DiskFault → Memory → Memory → Memory
after_call idle (Ok x) was done = done
after_call idle (Err Failed) was done = cond idle was done
after_call idle (Err NoMemory) was done = was

-- and by a call that isn't done where the disk stops in it
abbrev pub after_whole : Result Unit DiskFault → Memory → Memory → Memory
after_whole (Ok x) was done = done
after_whole (Err e) was done = was

-- What a call made of the counts: one more call, maybe a stop, and a fault at most where the call was to answer Failed.
pub record Counted (old new : FaultInjector) : Type 0 where
  pub made : new.made ≡ one_more old.made
  pub stop : new.stop ≡ old.stop
  pub fail : new.fail ≡ old.fail
  pub stopped : new.stopped ≡ stopped_next old
  pub faults : fails_next old ≡ false → new.faults ≡ old.faults

-- how the call continues
abbrev pub IsTurn : Bool → CallOutcome → Type 0
IsTurn fails Goes = fails ≡ false
IsTurn fails Stops = fails ≡ true

-- the answer of a call that went on and did its part: the stop fails
abbrev pub finished : CallOutcome → Result Unit AllocError → Result Unit DiskFault
finished turn (Err e) = Err NoMemory
finished Goes (Ok x) = Ok x
finished Stops (Ok x) = Err Failed

-- the counts after it: the stop is a fault, and out of memory is counted apart
abbrev pub with_end : CallOutcome → Result Unit AllocError → FaultInjector → FaultInjector
with_end turn (Err e) a = record a { wants = one_more a.wants }
with_end Goes (Ok x) a = a
with_end Stops (Ok x) a = record a { faults = one_more a.faults }

-- the calls are counted again, and these are to stop and to fail; a stop that came
-- stands
abbrev pub armed_with : Option Stop → Option ℕ → FaultInjector → FaultInjector
armed_with stop fail a = record { made = 0; faults = a.faults; wants = a.wants; stop = stop; fail = fail; stopped = a.stopped }

-- nothing is to stop or to fail
abbrev pub disarmed : FaultInjector → FaultInjector
disarmed a = record { made = 0; faults = a.faults; wants = a.wants; stop = None; fail = None; stopped = None }

-- before the first call
abbrev pub unarmed : FaultInjector
unarmed = record { made = 0; faults = 0; wants = 0; stop = None; fail = None; stopped = None }

-- its own pick, or else another one
abbrev pub picked : Option ℕ → ℕ → ℕ
picked None pick = pick
picked (Some own) pick = own
