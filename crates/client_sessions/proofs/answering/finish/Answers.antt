use Rattle.std.proofs.Common.{[], refl}
use Rattle.session_gateway.specs.Seen.{seen}
use Rattle.client_sessions.proofs.Resuming.{done_sends, done_sound}
use Rattle.session_spec.specs.Sessions.{lent_query}
use Rattle.client_sessions.proofs.Idle.{done_closed}
use Rattle.client_sessions.proofs.Writable.{read_sent}
use Rattle.client_sessions.proofs.answering.finish.Goals as goal

pub act_of-requires : goal.act_of-requires
act_of-requires c = done_sends (seen c.args.gateway.now []) c.args.conn (seen c.on_read_done.new.self []) _ _ c.in_ok-act.field-0 c.in-Some.act c.in-Some.is (read_sent c.args.read) (c.in_ok-act.ensures.done [])

pub returns-in_err-act_of-in-Some-clause-sound : goal.returns-in_err-act_of-in-Some-clause-sound
returns-in_err-act_of-in-Some-clause-sound c = λ databases.
    done_sound (seen c.args.gateway.now databases) c.args.conn (seen c.on_read_done.new.self databases) _ _ c.in_ok-act.field-0 refl (c.in_ok-act.ensures.done databases)

pub returns-in_ok-act_of-in-Some-clause-sound : goal.returns-in_ok-act_of-in-Some-clause-sound
returns-in_ok-act_of-in-Some-clause-sound c = λ databases.
    done_sound (seen c.args.gateway.now databases) c.args.conn (seen c.on_read_done.new.self databases) _ _ c.in_ok-act.field-0 refl (c.in_ok-act.ensures.done databases)

pub returns-in_err-act-clause-idle : goal.returns-in_err-act-clause-idle
returns-in_err-act-clause-idle c =
    done_closed (λ databases. seen c.args.gateway.now databases) (λ databases. seen c.on_read_done.new.self databases) c.args.conn (λ databases. lent_query ((seen c.args.gateway.now databases).session c.args.conn).later) _
    c.on_read_done.result c.on_read_done.ensures.done c.on_read_done.ensures.failed

pub returns-in_err-act_of-in-Some-clause-idle : goal.returns-in_err-act_of-in-Some-clause-idle
returns-in_err-act_of-in-Some-clause-idle c =
    done_closed (λ databases. seen c.args.gateway.now databases) (λ databases. seen c.on_read_done.new.self databases) c.args.conn (λ databases. lent_query ((seen c.args.gateway.now databases).session c.args.conn).later) _
    c.on_read_done.result c.on_read_done.ensures.done c.on_read_done.ensures.failed

pub returns-in_ok-act_of-in-Some-clause-idle : goal.returns-in_ok-act_of-in-Some-clause-idle
returns-in_ok-act_of-in-Some-clause-idle c =
    done_closed (λ databases. seen c.args.gateway.now databases) (λ databases. seen c.on_read_done.new.self databases) c.args.conn (λ databases. lent_query ((seen c.args.gateway.now databases).session c.args.conn).later) _
    c.on_read_done.result c.on_read_done.ensures.done c.on_read_done.ensures.failed

pub returns-in-None-clause-idle : goal.returns-in-None-clause-idle
returns-in-None-clause-idle c =
    done_closed (λ databases. seen c.args.gateway.now databases) (λ databases. seen c.on_read_done.new.self databases) c.args.conn (λ databases. lent_query ((seen c.args.gateway.now databases).session c.args.conn).later) _
    c.on_read_done.result c.on_read_done.ensures.done c.on_read_done.ensures.failed
