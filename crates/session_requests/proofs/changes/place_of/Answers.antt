use Rattle.std.proofs.Common.{sym, ◌∙◌}
use Rattle.session_requests.proofs.Changing.{stands_here, stands_later, stands_last}
use Rattle.session_requests.proofs.changes.place_of.Goals as goal

pub returns-then-is_in_front : goal.returns-then-is_in_front
returns-then-is_in_front c = stands_here c.args.id c.args.servers.now c.loop-place.place c.index-servers-place.result c.loop-place-test.true c.index-servers-place.is c.loop-place.invariant (sym c.is_in_front.ensures ∙ c.if-is_in_front.true)

pub loop-place-preserved : goal.loop-place-preserved
loop-place-preserved c = stands_later c.args.id c.args.servers.now c.loop-place.place c.index-servers-place.result c.loop-place-test.true c.index-servers-place.is c.loop-place.invariant (sym c.is_in_front.ensures ∙ c.if-is_in_front.false)

pub returns : goal.returns
returns c = stands_last c.args.id c.args.servers.now c.loop-place.place c.loop-place-test.false c.loop-place.invariant
