use Rattle.std.proofs.Common.{sym, ◌∙◌, arith}
use Rattle.folder_tail.proofs.Searching.{came_more, came_found, came_all}
use Rattle.folder_tail.proofs.search.later_from.Goals as goal

pub words-preserved : goal.words-preserved
words-preserved c = came_more c.args.format c.args.next c.args.at c.args.from c.args.bytes.now c.words.place c.words.invariant (sym c.in_ok-found.ensures ∙ c.if-found.false)

pub returns-then-found : goal.returns-then-found
returns-then-found c = came_found c.args.format c.args.next c.args.at c.args.from c.args.bytes.now c.words.place c.words.invariant (sym c.in_ok-found.ensures ∙ c.if-found.true)

pub returns : goal.returns
returns c = came_all c.args.format c.args.next c.args.at c.args.from c.args.bytes.now c.words.place c.words.invariant (omega (arith, c.words-test.false))
