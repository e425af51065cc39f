use Rattle.std.proofs.Common.{◌≡◌, List, ℕ, map, sym, ap, ◌∙◌, subst}
use Rattle.std.specs.Prelude.{MatchOption}
use Rattle.page_store.specs.Frames.{IsLastAt, NoneAt}
use Rattle.dq_base.specs.declared.pages.NumberedPage.{NumberedPage}
use Rattle.page_store.specs.Log.{Log}
use Rattle.page_store.proofs.FramesKept.{numbers_of}
use Rattle.page_store.proofs.frame_log.FrameLog.last_at.Goals as goal

pub returns : goal.returns
returns c =
    let same : c.self.inside.index ≡ map (λ (p : NumberedPage). p.number) c.args.self.now.pages =
    c.self.invariant.indexed ∙ sym (numbers_of c.self.inside.frames.items) ∙ ap (λ (l : Log). map (λ (p : NumberedPage). p.number) l.pages) c.self.view_is in
    subst (λ (xs : List ℕ). MatchOption c.last_at.result (NoneAt xs c.args.number c.args.mark) (λ frame. IsLastAt xs c.args.number c.args.mark frame)) same c.last_at.ensures
