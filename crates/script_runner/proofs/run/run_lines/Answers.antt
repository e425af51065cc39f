use Rattle.std.proofs.Common.{◌≡◌, ℕ, subst, arith}
use Rattle.std.proofs.lemmas.Result.{err_from_is_err_and}
use Rattle.script_grammar.specs.Lines.{to_come}
use Rattle.script_runner.specs.Scenes.{holds}
use Rattle.script_runner.specs.Ending.{Reached}
use Rattle.script_runner.proofs.run.run_lines.Goals as goal

pub loop-number-preserved : goal.loop-number-preserved
loop-number-preserved g c =
    let invariant = c.loop-number.invariant in
    let next = c.in_ok-run_next.ensures in
    record {
      reached = λ first written r. rw c.if-not-branch.false at (next.goes first written (invariant.reached first written r));
      source_count = omega (arith, invariant.source_count, next.source_count);
      sink_count = omega (arith, invariant.sink_count, next.sink_count);
    }

pub returns-in_err-run_next-clause-goes : goal.returns-in_err-run_next-clause-goes
returns-in_err-run_next-clause-goes g c = λ first written r.
    let p = err_from_is_err_and c.from_residual.result c.from_residual.ensures.1 in
    rw (p.1, p.2) (c.in_err-run_next.ensures.goes first written (c.loop-number.invariant.reached first written r))

pub returns-then-not-branch-clause-goes : goal.returns-then-not-branch-clause-goes
returns-then-not-branch-clause-goes g c = λ first written r.
    rw c.if-not-branch.true at (c.in_ok-run_next.ensures.goes first written (c.loop-number.invariant.reached first written r))

pub returns-clause-goes : goal.returns-clause-goes
returns-clause-goes g c = λ first written r.
    let number : c.loop-number.number ≡ 1000001 = omega arith in
    let now = to_come c.loop-number.lines (g.S.Source.left c.loop-number.source) in
    let printed = g.K.Sink.written c.loop-number.sink in
    let at = holds g.P.NodePlace.shows c.loop-number.scene in
    c.run_past.ensures.goes first written printed at (subst (λ (n : ℕ). Reached g.P.NodePlace.knows first now written printed at n) number (c.loop-number.invariant.reached first written r))
