use Rattle.std.proofs.Common.{◌≡◌, ◌-◌, length}
use Rattle.page_store.specs.Log.{first_of}
use Rattle.page_store.proofs.frame_log.FrameLog.truncate.Given as goal

abbrev pub invariant-loop : goal.invariant-loop
invariant-loop l = l.self ≡ first_of (length l.initial.self.pages - l.counter) l.initial.self
