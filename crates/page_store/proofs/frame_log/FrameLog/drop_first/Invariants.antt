use Rattle.std.proofs.Common.{◌≡◌}
use Rattle.page_store.specs.Log.{without_first}
use Rattle.page_store.proofs.frame_log.FrameLog.drop_first.Given as goal

abbrev pub invariant-loop : goal.invariant-loop
invariant-loop l = l.self ≡ without_first l.counter l.initial.self
