use Rattle.std.proofs.Common.{sym, ◌∙◌}
use Rattle.std.proofs.lemmas.Result.{err_from_is_err_and}
use Rattle.dqnode.proofs.Made.{byte_within, byte_ends, byte_cut, shown_short}
use Rattle.dqnode.proofs.generating.take_byte.Goals as goal

pub returns-in_err-put_byte-clause-err : goal.returns-in_err-put_byte-clause-err
returns-in_err-put_byte-clause-err g c =
    let p = err_from_is_err_and c.from_residual.result c.from_residual.ensures.1 in
    rw p.1 (λ written rest text s. shown_short written (g.K.Sink.written c.args.output.now) c.args.line.now.items _ text s)

pub returns-then-not-ends_line-clause-ok : goal.returns-then-not-ends_line-clause-ok
returns-then-not-ends_line-clause-ok g c = λ written rest text s.
    byte_within written (g.K.Sink.written c.args.output.now) c.args.line.now.items text c.args.byte rest s c.put_byte.new.line.items c.in_ok-put_byte.ensures (sym c.ends_line.ensures ∙ c.if-not-ends_line.true)

pub returns-in_err-put_line-clause-err : goal.returns-in_err-put_line-clause-err
returns-in_err-put_line-clause-err g c =
    let p = err_from_is_err_and c.from_residual-in_err-put_line.result c.from_residual-in_err-put_line.ensures.1 in
    let front = rw c.as_slice.ensures.value at c.in_err-put_line.ensures.err in
    rw p.1 (λ written rest text s. byte_cut written (g.K.Sink.written c.args.output.now) c.args.line.now.items text c.args.byte rest s c.put_byte.new.line.items c.in_ok-put_byte.ensures (sym c.ends_line.ensures ∙ c.if-not-ends_line.false) (g.K.Sink.written c.put_line.new.output) front)

pub returns-clause-ok : goal.returns-clause-ok
returns-clause-ok g c = λ written rest text s.
    let told = rw c.as_slice.ensures.value at c.in_ok-put_line.ensures.ok in
    rw c.clear.ensures.items (byte_ends written (g.K.Sink.written c.args.output.now) c.args.line.now.items text c.args.byte rest s c.put_byte.new.line.items c.in_ok-put_byte.ensures (sym c.ends_line.ensures ∙ c.if-not-ends_line.false) (g.K.Sink.written c.put_line.new.output) told)
