use Rattle.std.proofs.Common.{◌∙◌}
use Rattle.std.proofs.lemmas.List.{get_or_default}
use Rattle.std.proofs.lemmas.Result.{err_from_is_err_and}
use Rattle.script_machines.specs.Printed.{printed_line}
use Rattle.script_runner.proofs.Printed.{printed_so_far, printed_in_part}
use Rattle.script_runner.proofs.printing.print_machines.Goals as goal

pub returns-in_err-line-clause-err : goal.returns-in_err-line-clause-err
returns-in_err-line-clause-err g c =
    let p = err_from_is_err_and c.from_residual.result c.from_residual.ensures.1 in
    let written = g.K.Sink.written in
    rw p.1 (printed_so_far printed_line (written c.args.sink.now) (written c.loop-say.sink) c.args.said.now c.loop-say.say-index c.loop-say.invariant.text)

pub returns-in_err-write_all-clause-err : goal.returns-in_err-write_all-clause-err
returns-in_err-write_all-clause-err g c =
    let p = err_from_is_err_and c.from_residual-in_err-write_all.result c.from_residual-in_err-write_all.ensures.1 in
    let written = g.K.Sink.written in
    let bytes = c.as_bytes.ensures.value ∙ c.in_ok-line.ensures in
    let part = rw bytes at c.in_err-write_all.ensures.bytes in
    rw p.1 (printed_in_part printed_line (written c.args.sink.now) (written c.loop-say.sink) (written c.write_all.new.self) c.args.said.now c.loop-say.say-index _ c.loop-say-test.true (get_or_default c.args.said.now c.loop-say.say-index _ _ c.loop-say-test.true) c.loop-say.invariant.text part)
