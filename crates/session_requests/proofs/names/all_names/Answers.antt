use Rattle.std.proofs.Common.{◌≤◌, length, sym, ◌∙◌, arith}
use Rattle.session_requests.proofs.Proposed.{all_proposed, at_end}
use Rattle.session_requests.proofs.names.all_names.Goals as goal

pub returns : goal.returns
returns c = λ weight.
    let past : length c.args.sessions.now ≤ c.loop-session.session-index = omega arith in
    at_end c.args.sessions.now c.loop-session.session-index c.loop-session.names.items _ past c.loop-session.invariant
    ∙ sym (all_proposed c.args.machine.now c.args.sessions.now weight c.requires)
