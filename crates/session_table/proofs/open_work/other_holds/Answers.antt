use Rattle.std.proofs.Common.{◌<◌, ◌≤◌, length, refl, sym, ◌∙◌, arith}
use Rattle.session_table.specs.Table.{holds_beside}
use Rattle.session_table.proofs.Found.{others_hold, any_skip, any_hit, any_end}
use Rattle.session_table.proofs.open_work.other_holds.Goals as goal

pub loop-session-init : goal.loop-session-init
loop-session-init c = λ databases. refl

pub loop-session-preserved : goal.loop-session-preserved
loop-session-preserved c = λ databases.
    let at : c.loop-session.session-index < length c.args.sessions.now = omega arith in
    any_skip (holds_beside databases c.args.conn c.args.name.now) c.args.sessions.now c.loop-session.session-index c.session-item.result _ c.session-item.is (c.loop-session.invariant databases) at (sym (c.holds_beside.ensures databases) ∙ c.if-holds_beside.false)

pub returns-then-holds_beside : goal.returns-then-holds_beside
returns-then-holds_beside c = λ databases weight.
    let at : c.loop-session.session-index < length c.args.sessions.now = omega arith in
    sym (others_hold databases c.args.sessions.now weight c.args.conn c.args.name.now c.requires
    ∙ any_hit (holds_beside databases c.args.conn c.args.name.now) c.args.sessions.now c.loop-session.session-index c.session-item.result _ c.session-item.is (c.loop-session.invariant databases) at (sym (c.holds_beside.ensures databases) ∙ c.if-holds_beside.true))

pub returns : goal.returns
returns c = λ databases weight.
    let past : length c.args.sessions.now ≤ c.loop-session.session-index = omega arith in
    sym (others_hold databases c.args.sessions.now weight c.args.conn c.args.name.now c.requires
    ∙ any_end (holds_beside databases c.args.conn c.args.name.now) c.args.sessions.now c.loop-session.session-index _ (c.loop-session.invariant databases) past)
