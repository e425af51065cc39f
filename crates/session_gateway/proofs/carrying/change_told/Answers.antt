use Rattle.std.proofs.Common.{get_or, refl}
use Rattle.session_table.specs.Working.{work_made}
use Rattle.session_gateway.proofs.Numbering.{fewer_agree}
use Rattle.session_gateway.proofs.carrying.change_told.Goals as goal

pub returns-in_err-make_change-clause-agree : goal.returns-in_err-make_change-clause-agree
returns-in_err-make_change-clause-agree c = λ own databases.
    fewer_agree (work_made c.args.change (get_or c.args.sessions.now.items c.args.place own).transaction) c.args.sessions.now.items c.make_change.new.sessions.items databases databases refl (c.make_change.ensures.works own)

pub returns-clause-agree : goal.returns-clause-agree
returns-clause-agree c = λ own databases.
    fewer_agree (work_made c.args.change (get_or c.args.sessions.now.items c.args.place own).transaction) c.args.sessions.now.items c.make_change.new.sessions.items databases databases refl (c.make_change.ensures.works own)
