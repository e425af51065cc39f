use Rattle.std.proofs.Common.{◌<◌, ◌≤◌, length, sym, ◌∙◌, arith}
use Rattle.session_table.proofs.Found.{any_skip, any_hit, any_end}
use Rattle.session_requests.specs.Looking.{votes_as}
use Rattle.session_requests.proofs.Voting.{among_voters}
use Rattle.session_requests.proofs.cluster.is_voter.Goals as goal

pub loop-server-preserved : goal.loop-server-preserved
loop-server-preserved c =
    let at : c.loop-server.server-index < length c.args.servers.now = omega arith in
    any_skip (votes_as c.args.id) c.args.servers.now c.loop-server.server-index c.server-item.result _ c.server-item.is c.loop-server.invariant at (sym c.votes_as.ensures ∙ c.if-votes_as.false)

pub returns-then-votes_as : goal.returns-then-votes_as
returns-then-votes_as c =
    let at : c.loop-server.server-index < length c.args.servers.now = omega arith in
    sym (among_voters c.args.servers.now c.args.id
    ∙ any_hit (votes_as c.args.id) c.args.servers.now c.loop-server.server-index c.server-item.result _ c.server-item.is c.loop-server.invariant at (sym c.votes_as.ensures ∙ c.if-votes_as.true))

pub returns : goal.returns
returns c =
    let past : length c.args.servers.now ≤ c.loop-server.server-index = omega arith in
    sym (among_voters c.args.servers.now c.args.id
    ∙ any_end (votes_as c.args.id) c.args.servers.now c.loop-server.server-index _ c.loop-server.invariant past)
