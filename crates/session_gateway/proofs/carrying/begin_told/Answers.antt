use Rattle.session_gateway.proofs.Numbering.{begun_agree}
use Rattle.session_gateway.proofs.carrying.begin_told.Goals as goal

pub returns-in_err-begin-clause-agree : goal.returns-in_err-begin-clause-agree
returns-in_err-begin-clause-agree c = begun_agree c.args.sessions.now.items c.begin.new.sessions.items c.args.machine.now c.begin.new.machine c.begin.ensures.numbers c.begin.ensures.works

pub returns-clause-agree : goal.returns-clause-agree
returns-clause-agree c = begun_agree c.args.sessions.now.items c.begin.new.sessions.items c.args.machine.now c.begin.new.machine c.begin.ensures.numbers c.begin.ensures.works
