use Rattle.std.proofs.Common.{suc, [], length, ◌-◌, ◌≤◌}
use Rattle.script_grammar.specs.Lines.{to_come, TakesLine}
use Rattle.script_grammar.specs.ScriptSize.{line_limit}
use Rattle.script_grammar.proofs.lines.LineReader.next_line.Given as goal

abbrev pub invariant-loop-self : goal.invariant-loop-self
invariant-loop-self g l = record {
  line : TakesLine (to_come l.fn.self (g.S.Source.left l.fn.source)) (to_come l.self (g.S.Source.left l.source)) l.self.line [];
  short : length l.self.line ≤ line_limit;
  count : g.S.Source.faults l.fn.source ≤ g.S.Source.faults l.source;
}

abbrev pub decreases-loop-self : goal.decreases-loop-self
decreases-loop-self g l = suc line_limit - length l.self.line
