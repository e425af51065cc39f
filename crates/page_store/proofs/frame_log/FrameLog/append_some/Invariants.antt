use Rattle.std.proofs.Common.{◌≡◌, take}
use Rattle.page_store.specs.Log.{extended}
use Rattle.page_store.proofs.frame_log.FrameLog.append_some.Given as goal

abbrev pub invariant-loop-page : goal.invariant-loop-page
invariant-loop-page l = l.self ≡ extended l.initial.self (take l.page-index l.pages) l.lengths
