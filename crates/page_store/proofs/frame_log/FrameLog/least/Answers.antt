use Rattle.std.proofs.Common.{List, ap, subst}
use Rattle.dq_base.specs.declared.sizes.Lengths.{Lengths}
use Rattle.page_store.specs.Laying.{IsLeast}
use Rattle.page_store.specs.Log.{Log}
use Rattle.page_store.proofs.frame_log.FrameLog.least.Goals as goal

pub returns-clause-main : goal.returns-clause-main
returns-clause-main c =
    subst (λ (ls : List Lengths). IsLeast 0 ls c.args.first c.args.last c.least_of.result.main) (ap (λ (l : Log). l.lengths) c.self.view_is) c.least_of.ensures.main

pub returns-clause-side : goal.returns-clause-side
returns-clause-side c =
    subst (λ (ls : List Lengths). IsLeast 1 ls c.args.first c.args.last c.least_of.result.side) (ap (λ (l : Log). l.lengths) c.self.view_is) c.least_of.ensures.side
