use Rattle.std.proofs.Common.{◌<◌, ◌≤◌, length, sym, ◌∙◌, arith}
use Rattle.session_table.proofs.Found.{any_skip, any_hit, any_end}
use Rattle.session_requests.specs.Looking.{is_changing}
use Rattle.session_requests.proofs.Voting.{all_changing}
use Rattle.session_requests.proofs.cluster.change_in_flight.Goals as goal

pub loop-session-preserved : goal.loop-session-preserved
loop-session-preserved c =
    let at : c.loop-session.session-index < length c.args.sessions.now = omega arith in
    any_skip is_changing c.args.sessions.now c.loop-session.session-index c.session-item.result _ c.session-item.is c.loop-session.invariant at (sym c.is_changing.ensures ∙ c.if-is_changing.false)

pub returns-then-is_changing : goal.returns-then-is_changing
returns-then-is_changing c = λ databases weight.
    let at : c.loop-session.session-index < length c.args.sessions.now = omega arith in
    sym (all_changing databases c.args.sessions.now weight c.requires
    ∙ any_hit is_changing c.args.sessions.now c.loop-session.session-index c.session-item.result _ c.session-item.is c.loop-session.invariant at (sym c.is_changing.ensures ∙ c.if-is_changing.true))

pub returns : goal.returns
returns c = λ databases weight.
    let past : length c.args.sessions.now ≤ c.loop-session.session-index = omega arith in
    sym (all_changing databases c.args.sessions.now weight c.requires
    ∙ any_end is_changing c.args.sessions.now c.loop-session.session-index _ c.loop-session.invariant past)
