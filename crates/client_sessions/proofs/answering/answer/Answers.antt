use Rattle.client_sessions.proofs.Asking.{turned_sends, turned_sound, failed_sound}
use Rattle.client_sessions.proofs.Idle.{answered_closed}
use Rattle.client_sessions.proofs.answering.answer.Goals as goal

pub act_of-requires : goal.act_of-requires
act_of-requires g c = turned_sends _ _ _ _ _ _ _ _ _ _ _ c.requires.configured c.requires.text c.requires.ready c.in_ok-act.ensures.turned

pub returns-in_err-act-clause-sound : goal.returns-in_err-act-clause-sound
returns-in_err-act-clause-sound g c = failed_sound _ _ c.in_err-act.ensures.failed

pub returns-clause-sound : goal.returns-clause-sound
returns-clause-sound g c = turned_sound _ _ _ _ _ _ _ _ _ _ c.in_ok-act.act c.requires.configured c.requires.text c.requires.ready c.on_request.ensures.lists c.in_ok-act.ensures.turned

pub returns-in_err-act-clause-idle : goal.returns-in_err-act-clause-idle
returns-in_err-act-clause-idle g c = λ idle none. answered_closed _ _ _ _ _ _ _ _ _ idle none c.args.request c.on_request.result c.on_request.ensures.turned c.on_request.ensures.failed

pub returns-clause-idle : goal.returns-clause-idle
returns-clause-idle g c = λ idle none. answered_closed _ _ _ _ _ _ _ _ _ idle none c.args.request c.on_request.result c.on_request.ensures.turned c.on_request.ensures.failed
