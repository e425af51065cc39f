use Rattle.std.proofs.lemmas.Result.{IfOk-weaker}
use Rattle.image_diff.proofs.ComingBack.{back}
use Rattle.session_statements.proofs.Reaching.{came_ran}
use Rattle.session_statements.proofs.running.run_all.Goals as goal

pub returns-in_err-came-clause-kept : goal.returns-in_err-came-clause-kept
returns-in_err-came-clause-kept g c = back _ _ _ _ _ c.put_back_all.ensures c.lead-came.ensures.kept c.new-progress.ensures.undoes

pub returns-clause-kept : goal.returns-clause-kept
returns-clause-kept g c = back _ _ _ _ _ c.put_back_all.ensures c.lead-came.ensures.kept c.new-progress.ensures.undoes

pub returns-clause-ran : goal.returns-clause-ran
returns-clause-ran g c =
    let same = back _ _ _ _ _ c.put_back_all.ensures c.lead-came.ensures.kept c.new-progress.ensures.undoes in
    IfOk-weaker c.ended.result _ _ (λ ending is. came_ran _ _ c.args.options.tx _ _ _ _ _ _ c.in_ok-came.field-0 ending c.in_ok-came.ensures.ran same is) c.ended.ensures
