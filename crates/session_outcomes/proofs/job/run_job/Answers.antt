use Rattle.std.proofs.Common.{[], ◌∷◌, ap, ◌∙◌}
use Rattle.std.proofs.lemmas.Result.{IfOk-weaker}
use Rattle.session_spec.specs.Engines.{no_answer, runs}
use Rattle.session_spec.specs.Sessions.{Job}
use Rattle.session_outcomes.proofs.Formed.{well_formed}
use Rattle.session_outcomes.proofs.Jobs.{of_job, shows_answered}
use Rattle.session_outcomes.proofs.job.run_job.Goals as goal

pub read_of-requires : goal.read_of-requires
read_of-requires g c =
    let run = c.run_query-ending.ensures.ran in
    well_formed _ _ 0 c.deref-image.result.now _ run.answers c.run_query-ending.result run.allowed run.ends

pub returns-clause-ran : goal.returns-clause-ran
returns-clause-ran g c =
    let run = of_job c.args.job.now _ _ _ _ c.run_query-ending.result c.deref-image.result.now _ (c.deref-image.ensures ∙ ap (λ (job : Job). job.image) c.job.view_is) (ap (λ (job : Job). job.statement) c.job.view_is) c.run_query-ending.ensures.ran in
    let ended = runs c.args.job.now.image no_answer (c.args.job.now.statement ∷ []) run.answers in
    let answered = shows_answered 0 c.args.job.now.image ended c.run_query-ending.result run.ends in
    IfOk-weaker c.read_of.result _ _ (λ read is. record { answers = run.answers; allowed = run.allowed; told = run.told; exact = run.exact; answered = answered; is = is }) (c.read_of.ensures 0 c.args.job.now ended run.ends)
