use Rattle.std.proofs.Common.{arith}
use Rattle.script_grammar.specs.Lines.{to_come}
use Rattle.script_runner.proofs.Running.{whole_past, settles_past, short_past}
use Rattle.script_runner.proofs.run.run_past.Goals as goal

pub returns-in-Ok-true-clause-goes : goal.returns-in-Ok-true-clause-goes
returns-in-Ok-true-clause-goes g c = λ first written printed at r.
    let now = to_come c.args.lines.now (g.S.Source.left c.args.source.now) in
    settles_past g.P.NodePlace.knows first now written printed at 1000001 r c.fill.new.self (g.S.Source.left c.fill.new.source) c.in-Ok-true.ensures.same (c.in-Ok-true.ensures.some c.in-Ok-true.field-0-test) (omega arith)

pub returns-in-Ok-false-clause-goes : goal.returns-in-Ok-false-clause-goes
returns-in-Ok-false-clause-goes g c = λ first written printed at r.
    let now = to_come c.args.lines.now (g.S.Source.left c.args.source.now) in
    whole_past g.P.NodePlace.knows first now written printed at 1000001 r c.fill.new.self (g.S.Source.left c.fill.new.source) c.in-Ok-false.ensures.same (c.in-Ok-false.ensures.none c.in-Ok-false.field-0-test)

pub returns-in-Err-clause-goes : goal.returns-in-Err-clause-goes
returns-in-Err-clause-goes g c = λ first written printed at r.
    let now = to_come c.args.lines.now (g.S.Source.left c.args.source.now) in
    short_past g.P.NodePlace.knows first now written printed at 1000001 r c.fill.new.self (g.S.Source.left c.fill.new.source) c.in-Err.ensures.same
