use Rattle.script_whole_nodes.proofs.Voting.{one_more, opened}
use Rattle.script_whole_nodes.proofs.opening.opening_servers.Goals as goal

pub loop-place-preserved : goal.loop-place-preserved
loop-place-preserved c = one_more c.loop-place.servers.items _ c.in_ok-voter.field-0 c.loop-place.place c.in_ok-push.ensures.items c.in_ok-voter.ensures c.loop-place.invariant

pub returns-clause-configuration : goal.returns-clause-configuration
returns-clause-configuration c =
    opened c.new.result c.loop-place.servers.items c.loop-place.place c.from-count.result c.number.result c.args.voters c.new.ensures c.loop-place.invariant c.loop-place-test.false c.loop-place.auto.place-end c.from-count.ensures
    c.number.ensures.number c.number.ensures.range
