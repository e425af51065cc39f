use Rattle.std.proofs.Common.{ℕ, ◌+◌, ap, ◌∙◌}
use Rattle.std.specs.Prelude.{min}
use Rattle.folder_tail.proofs.HeadEnds.{contents_first, contents_next}
use Rattle.folder_tail.proofs.heads.contents_end.Goals as goal

pub loop-head-init : goal.loop-head-init
loop-head-init c = contents_first c.args.heads.now c.args.header

pub loop-head-preserved : goal.loop-head-preserved
loop-head-preserved c =
    c.saturating_add-end.ensures ∙ ap (λ (n : ℕ). min (c.loop-head.end + n) 18446744073709551615) c.padded.ensures
    ∙ contents_next c.args.heads.now c.loop-head.head-index c.args.header c.loop-head.end _ c.loop-head-test.true c.loop-head.invariant
