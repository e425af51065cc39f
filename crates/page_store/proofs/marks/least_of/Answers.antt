use Rattle.std.proofs.Common.{sym, ◌∙◌}
use Rattle.std.proofs.lemmas.List.{at_drop_all}
use Rattle.page_store.specs.Marks.{least_from}
use Rattle.page_store.proofs.marks.least_of.Goals as goal

pub returns : goal.returns
returns c = sym (at_drop_all (least_from c.loop-mark.least) c.args.table.now c.loop-mark.mark-index c.loop-mark-test.false) ∙ c.loop-mark.invariant
