use Rattle.std.proofs.Common.{sym, subst, arith, List, ℕ, []}
use Rattle.script_grammar.specs.Lines.{to_come, TakesLine}
use Rattle.script_grammar.proofs.Reading.{line_grows}
use Rattle.script_grammar.proofs.lines.LineReader.next_line.Goals as goal

pub loop-self-preserved : goal.loop-self-preserved
loop-self-preserved g c =
    let left = g.S.Source.left in
    let first = to_come c.args.self.now (left c.args.source.now) in
    let before = to_come c.loop-self.self (left c.loop-self.source) in
    let part = c.in_ok-end.ensures.on c.in_default.is in
    let line = subst (λ (line : List ℕ). TakesLine first before line []) (sym c.in_ok-fill.ensures.line) c.loop-self.invariant.line in
    record {
      line = line_grows first before (left c.fill.new.source) c.fill.new.self c.take_ahead.new.self c.fill.new.self.ahead [] line c.in_ok-fill.ensures.same part.0;
      short = part.1;
      count = let later = c.in_ok-fill.ensures.cause.never_falls in omega arith;
    }
