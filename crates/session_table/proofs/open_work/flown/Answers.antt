use Rattle.std.proofs.Common.{◌<◌, ◌≤◌, length, sym, ◌∙◌, arith}
use Rattle.session_table.specs.Table.{flown_in}
use Rattle.session_table.proofs.Found.{all_flown, most_next, most_end}
use Rattle.session_table.proofs.open_work.flown.Goals as goal

pub loop-session-preserved : goal.loop-session-preserved
loop-session-preserved c =
    let at : c.loop-session.session-index < length c.args.sessions.now = omega arith in
    rw (c.greater-most.ensures, c.flown.ensures) (most_next (flown_in c.args.name.now) c.args.sessions.now c.loop-session.session-index c.session-item.result c.loop-session.most _ c.session-item.is at c.loop-session.invariant)

pub returns : goal.returns
returns c = λ databases weight.
    let past : length c.args.sessions.now ≤ c.loop-session.session-index = omega arith in
    most_end (flown_in c.args.name.now) c.args.sessions.now c.loop-session.session-index c.loop-session.most _ past c.loop-session.invariant
    ∙ sym (all_flown databases c.args.sessions.now weight c.args.name.now c.requires)
