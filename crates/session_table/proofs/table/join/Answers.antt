use Rattle.std.proofs.Common.{List, subst}
use Rattle.session_table.specs.declared.session.Session.{Session}
use Rattle.session_table.specs.Changing.{StandsAt}
use Rattle.session_table.proofs.Placing.{taken_stays}
use Rattle.session_table.proofs.table.join.Goals as goal

pub returns-in-Some-clause-table : goal.returns-in-Some-clause-table
returns-in-Some-clause-table c = λ databases weight. taken_stays databases c.args.sessions.now.items weight c.args.conn c.in-Some._place c.requires.apart (subst (λ (ss : List Session). StandsAt c.args.conn ss c.in-Some._place) c.as_slice.ensures.value c.in-Some.ensures)
