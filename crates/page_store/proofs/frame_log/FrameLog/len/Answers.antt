use Rattle.std.proofs.Common.{ap, subst}
use Rattle.std.specs.List.{AllByRecursion}
use Rattle.page_store.specs.Log.{Log, IsSized}
use Rattle.page_store.proofs.FramesKept.{sized_pages}
use Rattle.page_store.proofs.frame_log.FrameLog.len.Goals as goal

pub returns-clause-sized : goal.returns-clause-sized
returns-clause-sized c = subst (AllByRecursion IsSized) (ap (λ (l : Log). l.pages) c.self.view_is) (sized_pages c.self.inside.frames.items c.self.invariant.sized)
