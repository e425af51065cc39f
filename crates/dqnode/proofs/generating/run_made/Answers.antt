use Rattle.std.proofs.Common.{sym, ◌∙◌}
use Rattle.dqnode.proofs.Made.{run_shown}
use Rattle.dqnode.proofs.generating.run_made.Goals as goal

pub returns-in-Ok-put_shown-clause-ended : goal.returns-in-Ok-put_shown-clause-ended
returns-in-Ok-put_shown-clause-ended g c =
    let told = rw c.bytes.ensures at c.in-Ok-put_shown.ensures.ok in
    rw c.status_for.ensures (run_shown c.args.number c.args.count c.in-Ok.outcome c.run_text.new.journal c.run_text.new.text.bytes (g.K.Sink.written c.args.output.now) (g.K.Sink.written c.put_shown.new.output) (sym c.is_whole.ensures ∙ c.if-not-is_whole.false) c.in-Ok.ensures told)
