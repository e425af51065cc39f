use Rattle.std.proofs.Common.{◌+◌, ℕ, List, ap, subst, ◌∙◌, arith}
use Rattle.std.proofs.lemmas.Result.{err_from_is_err_and}
use Rattle.std.specs.Io.KnownBytes.{Appends}
use Rattle.dq_base.specs.Sink.{AppendsFront}
use Rattle.script_generator.specs.Generated.{number_after, write_lines, text_of}
use Rattle.script_generator.proofs.Written.{no_writes, one_more, more_begun, first_number, next_number, up_to}
use Rattle.script_generator.proofs.generating.generate.Goals as goal

pub returns-in_err-put_opening-clause-broken : goal.returns-in_err-put_opening-clause-broken
returns-in_err-put_opening-clause-broken g c =
    let p = err_from_is_err_and c.from_residual.result c.from_residual.ensures.1 in
    let before = g.K.Sink.written c.args.sink.now in
    let now = g.K.Sink.written c.put_opening.new.sink in
    let front = subst (λ (text : List ℕ). AppendsFront before now text) (no_writes c.args.number) c.in_err-put_opening.ensures.broken in
    rw p.1 (up_to before now c.args.number 0 c.args.count (omega arith) front)

pub loop-done-init : goal.loop-done-init
loop-done-init g c = record {
  written = subst (λ (text : List ℕ). Appends (g.K.Sink.written c.args.sink.now) (g.K.Sink.written c.put_opening.new.sink) text) (no_writes c.args.number) c.in_ok-put_opening.ensures.done;
  last = first_number c.args.number;
  count = c.in_ok-put_opening.ensures.count;
}

pub returns-in_err-put_write-clause-broken : goal.returns-in_err-put_write-clause-broken
returns-in_err-put_write-clause-broken g c =
    let p = err_from_is_err_and c.from_residual-in_err-put_write.result c.from_residual-in_err-put_write.ensures.1 in
    let before = g.K.Sink.written c.args.sink.now in
    let then = g.K.Sink.written c.loop-done.sink in
    let now = g.K.Sink.written c.put_write.new.sink in
    let writes = c.loop-done.done in
    let number = c.number_after-last.ensures ∙ (ap number_after c.loop-done.invariant.last ∙ next_number c.args.number writes) in
    let part = subst (λ (n : ℕ). AppendsFront then now (text_of (write_lines n (writes + 1)))) number c.in_err-put_write.ensures.broken in
    let front = more_begun before then now c.args.number writes c.loop-done.invariant.written part in
    rw p.1 (up_to before now c.args.number (writes + 1) c.args.count (omega (arith, c.loop-done-test.true)) front)

pub loop-done-preserved : goal.loop-done-preserved
loop-done-preserved g c =
    let before = g.K.Sink.written c.args.sink.now in
    let then = g.K.Sink.written c.loop-done.sink in
    let now = g.K.Sink.written c.put_write.new.sink in
    let writes = c.loop-done.done in
    let number = c.number_after-last.ensures ∙ (ap number_after c.loop-done.invariant.last ∙ next_number c.args.number writes) in
    let whole = subst (λ (n : ℕ). Appends then now (text_of (write_lines n (writes + 1)))) number c.in_ok-put_write.ensures.done in
    record {
      written = one_more before then now c.args.number writes c.loop-done.invariant.written whole;
      last = number;
      count = omega (arith, c.loop-done.invariant.count, c.in_ok-put_write.ensures.count);
    }
