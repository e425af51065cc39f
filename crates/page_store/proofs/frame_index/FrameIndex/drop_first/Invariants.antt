use Rattle.std.proofs.Common.{◌≡◌, drop}
use Rattle.page_store.proofs.frame_index.FrameIndex.drop_first.Given as goal

abbrev pub invariant-loop : goal.invariant-loop
invariant-loop l = l.self ≡ drop l.counter l.initial.self
