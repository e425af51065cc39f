use Rattle.std.proofs.Common.{refl}
use Rattle.session_gateway.specs.Seen.{seen}
use Rattle.client_sessions.proofs.Resuming.{later_opened, resumed_sends, resumed_sound}
use Rattle.client_sessions.proofs.Idle.{resumed_closed}
use Rattle.client_sessions.proofs.answering.resume.Goals as goal

pub on_later-requires-clause-opened : goal.on_later-requires-clause-opened
on_later-requires-clause-opened g c = later_opened ((seen c.args.gateway.now c.args.machine.now).session c.args.conn) c.requires.awaits

pub act_of-requires : goal.act_of-requires
act_of-requires g c =
    resumed_sends _ _ _ _ (seen c.args.gateway.now c.args.machine.now) c.args.conn _ _ _ _ c.in_ok-act.field-0 c.in-Some.act c.in-Some.is refl c.requires.awaits c.in_ok-act.ensures.resumed

pub returns-in_err-act_of-in-Some-clause-sound : goal.returns-in_err-act_of-in-Some-clause-sound
returns-in_err-act_of-in-Some-clause-sound g c =
    resumed_sound _ _ _ _ (seen c.args.gateway.now c.args.machine.now) c.args.conn _ _ _ _ c.in_ok-act.field-0 refl c.on_later.ensures.lists c.in_ok-act.ensures.resumed

pub returns-in_ok-act_of-in-Some-clause-sound : goal.returns-in_ok-act_of-in-Some-clause-sound
returns-in_ok-act_of-in-Some-clause-sound g c =
    resumed_sound _ _ _ _ (seen c.args.gateway.now c.args.machine.now) c.args.conn _ _ _ _ c.in_ok-act.field-0 refl c.on_later.ensures.lists c.in_ok-act.ensures.resumed

pub returns-in_err-act-clause-idle : goal.returns-in_err-act-clause-idle
returns-in_err-act-clause-idle g c = λ idle none. resumed_closed _ _ _ _ _ _ _ _ _ idle none _ c.on_later.result c.on_later.ensures.resumed c.on_later.ensures.failed

pub returns-in_err-act_of-in-Some-clause-idle : goal.returns-in_err-act_of-in-Some-clause-idle
returns-in_err-act_of-in-Some-clause-idle g c = λ idle none. resumed_closed _ _ _ _ _ _ _ _ _ idle none _ c.on_later.result c.on_later.ensures.resumed c.on_later.ensures.failed

pub returns-in_ok-act_of-in-Some-clause-idle : goal.returns-in_ok-act_of-in-Some-clause-idle
returns-in_ok-act_of-in-Some-clause-idle g c = λ idle none. resumed_closed _ _ _ _ _ _ _ _ _ idle none _ c.on_later.result c.on_later.ensures.resumed c.on_later.ensures.failed

pub returns-in-None-clause-idle : goal.returns-in-None-clause-idle
returns-in-None-clause-idle g c = λ idle none. resumed_closed _ _ _ _ _ _ _ _ _ idle none _ c.on_later.result c.on_later.ensures.resumed c.on_later.ensures.failed
