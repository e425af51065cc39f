use Rattle.std.proofs.Common.{ap, ◌∙◌}
use Rattle.dq_base.specs.declared.pages.PageSet.{PageSet}
use Rattle.std.proofs.Math.Logic.{∥∥₁_map}
use Rattle.sqlite_engine.proofs.Answering.{told_is_answer, untold_is_fault}
use Rattle.sqlite_engine.proofs.Standing.{has_some}
use Rattle.sqlite_engine.proofs.running.run_known.Goals as goal

pub looked-requires : goal.looked-requires
looked-requires c = ∥∥₁_map c.requires.known.looks (λ h. h.only)

pub returns-in-Ok-told-clause-answers : goal.returns-in-Ok-told-clause-answers
returns-in-Ok-told-clause-answers c =
    let known = c.requires.known in
    told_is_answer _ _ _ _ known.columns c.args.names c.in-Ok.shows c.in-Ok.after c.in-Ok-told.ran known.told
    (c.in-Ok.ensures.led known.columns (∥∥₁_map known.looks (λ h. h.shows)))
    (λ none. absurd (has_some _ _ known.columns known.looks none)) c.in-Ok-told.ensures.ok

pub returns-in-Ok-told-clause-looks : goal.returns-in-Ok-told-clause-looks
returns-in-Ok-told-clause-looks c some nothing =
    ap (λ (set : PageSet). set.pages) c.in-Ok-told.ensures.ok.after ∙ c.in-Ok.ensures.pages

pub returns-in-Err-told-clause-faults : goal.returns-in-Err-told-clause-faults
returns-in-Err-told-clause-faults c =
    let known = c.requires.known in
    untold_is_fault _ _ _ _ c.args.tx known.columns c.args.names c.in-Ok.shows c.in-Ok.after _ known.told
    (c.in-Ok.ensures.led known.columns (∥∥₁_map known.looks (λ h. h.shows))) c.in-Err-told.ensures.err

pub returns-in-Err-told-clause-left : goal.returns-in-Err-told-clause-left
returns-in-Err-told-clause-left c = c.unanswered.ensures c.args.kept.base c.in-Ok.after c.in-Err-told.fault c.in-Ok.ensures.over

pub returns-in-Err-clause-left : goal.returns-in-Err-clause-left
returns-in-Err-clause-left c = c.stayed.ensures c.args.kept.base c.fault_of.result c.in-Err.ensures.left
