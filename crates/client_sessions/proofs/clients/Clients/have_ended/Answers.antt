use Rattle.client_sessions.proofs.Moving.{ended_unmarked, ended_agree}
use Rattle.client_sessions.proofs.clients.Clients.have_ended.Goals as goal

pub returns-clause-unmarked : goal.returns-clause-unmarked
returns-clause-unmarked c = λ databases. ended_unmarked c.args.self.now databases c.is_table.ensures

pub returns-clause-agree : goal.returns-clause-agree
returns-clause-agree c = λ old new. ended_agree c.args.self.now old new c.is_table.ensures
