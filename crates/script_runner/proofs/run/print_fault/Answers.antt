use Rattle.std.proofs.Common.{◌∙◌}
use Rattle.std.proofs.lemmas.Result.{err_from_is_err_and}
use Rattle.dq_base.proofs.ContentLaws.{AppendsFront-nothing}
use Rattle.script_runner.proofs.run.print_fault.Goals as goal

pub returns-in_err-text-in-Script-clause-err : goal.returns-in_err-text-in-Script-clause-err
returns-in_err-text-in-Script-clause-err g c =
    let p = err_from_is_err_and c.from_residual.result c.from_residual.ensures.1 in
    rw p.1 (AppendsFront-nothing (g.K.Sink.written c.args.sink.now) _)

pub returns-in_ok-write_all-in-Script-clause-ok : goal.returns-in_ok-write_all-in-Script-clause-ok
returns-in_ok-write_all-in-Script-clause-ok g c =
    rw c.in-Script.is (rw (c.as_bytes.ensures.value ∙ c.in_ok-text-in-Script.ensures.ok) at c.in_ok-write_all-in-Script.ensures.bytes)
