use Rattle.script_cluster.proofs.Posting.{waits_at, none_left, one_more_at}
use Rattle.script_cluster.proofs.mail.next_waiting.Goals as goal

pub returns-then-not-letters-place-clause-first : goal.returns-then-not-letters-place-clause-first
returns-then-not-letters-place-clause-first c =
    waits_at c.args.letters.now c.args.from c.loop-place.place c.index-letters-place.result c.loop-place-test.true c.if-not-letters-place.true c.loop-place.invariant.1

pub loop-place-preserved : goal.loop-place-preserved
loop-place-preserved c =
    one_more_at c.args.letters.now c.args.from c.loop-place.place c.index-letters-place.result c.loop-place-test.true c.if-not-letters-place.false c.loop-place.invariant.1

pub returns-clause-first : goal.returns-clause-first
returns-clause-first c = none_left c.args.letters.now c.args.from c.loop-place.place c.loop-place.invariant.0 c.loop-place-test.false c.loop-place.invariant.1
