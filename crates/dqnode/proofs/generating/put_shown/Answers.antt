use Rattle.std.proofs.Common.{List, ℕ, ◌+◌, drop, subst, arith}
use Rattle.std.proofs.lemmas.List.{drop_more}
use Rattle.std.proofs.lemmas.Result.{err_from_is_err_and}
use Rattle.dqnode.specs.Generating.{ShownSoFar}
use Rattle.dqnode.proofs.generating.put_shown.Goals as goal

pub loop-byte-preserved : goal.loop-byte-preserved
loop-byte-preserved g c =
    let a = g.K.Sink.written c.args.output.now in
    let here = subst (λ (r : List ℕ). ShownSoFar a (g.K.Sink.written c.loop-byte.output) c.loop-byte.line.items r c.args.text.now) (drop_more c.args.text.now c.loop-byte.byte-index _ c.loop-byte-test.true) c.loop-byte.invariant.shown in
    record {
      shown = c.in_ok-take_byte.ensures.ok a (drop (c.loop-byte.byte-index + 1) c.args.text.now) c.args.text.now here;
      count = omega (arith, c.loop-byte.invariant.count, c.take_byte.ensures.count);
    }

pub returns-in_err-take_byte-clause-err : goal.returns-in_err-take_byte-clause-err
returns-in_err-take_byte-clause-err g c =
    let p = err_from_is_err_and c.from_residual.result c.from_residual.ensures.1 in
    let a = g.K.Sink.written c.args.output.now in
    let here = subst (λ (r : List ℕ). ShownSoFar a (g.K.Sink.written c.loop-byte.output) c.loop-byte.line.items r c.args.text.now) (drop_more c.args.text.now c.loop-byte.byte-index _ c.loop-byte-test.true) c.loop-byte.invariant.shown in
    rw p.1 (c.in_err-take_byte.ensures.err a (drop (c.loop-byte.byte-index + 1) c.args.text.now) c.args.text.now here)
