use Rattle.std.proofs.Common.{ℕ, List, length, ap, arith}
use Rattle.std.proofs.lemmas.Result.{IfOk-weaker}
use Rattle.sqlite_engine.proofs.running.show_rows.Goals as goal

pub returns-in-Some-true-clause-led : goal.returns-in-Some-true-clause-led
returns-in-Some-true-clause-led c = c.looked.ensures.led c.args.statement.now.columns ∣ c.requires.columns ∣₁

pub returns-in-Some-true-clause-bare : goal.returns-in-Some-true-clause-bare
returns-in-Some-true-clause-bare c =
    IfOk-weaker c.looked.result _ _ (λ r pages none.
    absurd (omega (arith, ap (λ (columns : List (List ℕ)). length columns) none, c.requires.some))) c.looked.ensures.pages
