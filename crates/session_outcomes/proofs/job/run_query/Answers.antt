use Rattle.session_outcomes.proofs.Shown.{ran_of}
use Rattle.session_outcomes.proofs.job.run_query.Goals as goal

pub returns-clause-ran : goal.returns-clause-ran
returns-clause-ran g c = ran_of _ _ 0 c.args.image.now _ _ c.run_unnumbered.result (record { text = c.text.result.now; params = c.params.result.now }) c.args.query.now (λ i. record { text = c.text.ensures i; params = c.params.ensures i }) c.run_unnumbered.ensures.ran
