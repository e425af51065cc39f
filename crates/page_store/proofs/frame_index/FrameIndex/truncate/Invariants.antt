use Rattle.std.proofs.Common.{◌≡◌, ◌-◌, length, take}
use Rattle.page_store.proofs.frame_index.FrameIndex.truncate.Given as goal

abbrev pub invariant-loop : goal.invariant-loop
invariant-loop l = l.self ≡ take (length l.initial.self - l.counter) l.initial.self
