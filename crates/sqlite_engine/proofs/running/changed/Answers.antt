use Rattle.std.proofs.Common.{ℕ, List, length, ap, arith}
use Rattle.sqlite_engine.proofs.Standing.{never_returns}
use Rattle.sqlite_engine.proofs.running.changed.Goals as goal

pub returns-in-Ok-clause-over : goal.returns-in-Ok-clause-over
returns-in-Ok-clause-over c = c.went_on-left.ensures c.args.kept.base c.in-Ok.ensures.over

pub returns-in-Ok-clause-looks : goal.returns-in-Ok-clause-looks
returns-in-Ok-clause-looks c some nothing =
    absurd (never_returns c.args.kept.base c.args.text.now c.args.kept.conn.value c.args.kept.stands nothing
    (c.requires.returns (λ none. omega (arith, ap (λ (columns : List (List ℕ)). length columns) none, some))))
