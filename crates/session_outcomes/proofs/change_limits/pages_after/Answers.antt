use Rattle.std.proofs.Common.{ℕ, ◌+◌, is_none, Option, ap, sym, ◌∙◌}
use Rattle.dq_base.specs.Images.{pages_of}
use Rattle.dq_base.specs.declared.page_fault.PageFault.{PageFault}
use Rattle.session_outcomes.proofs.Hinders.{counted}
use Rattle.session_outcomes.proofs.change_limits.pages_after.Goals as goal

pub returns-in-Ok : goal.returns-in-Ok
returns-in-Ok c = (
  ap (λ (fault : Option PageFault). is_none fault) c.in-Ok.ensures.0,
  λ sizes image.
      counted c.args.pages.now c.in-Ok.lengths.main c.in-Ok.lengths.side c.in-Ok.ensures.2 sizes image
      ∙ ap (λ (n : ℕ). 1 + n + pages_of c.in-Ok.lengths.side) (sym c.pages_of-main.ensures.count) ∙ ap (λ (n : ℕ). 1 + c.pages_of-main.result + n) (sym c.pages_of-side.ensures.count),
)
