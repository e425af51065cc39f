use Rattle.std.proofs.Common.{sym, ◌∙◌}
use Rattle.node_core.proofs.OneChange.{plain_all, change_here}
use Rattle.node_core.proofs.changing.are_plain.Goals as goal

pub returns-clause-plain : goal.returns-clause-plain
returns-clause-plain c = λ e. plain_all c.args.entries.now c.loop-entry.entry-index c.loop-entry-test.false c.loop-entry.invariant

pub returns-then-is_change-clause-change : goal.returns-then-is_change-clause-change
returns-then-is_change-clause-change c = λ e. change_here c.args.entries.now c.loop-entry.entry-index c.entry-item.result c.loop-entry-test.true c.entry-item.is (sym c.is_change.ensures ∙ c.if-is_change.true)
