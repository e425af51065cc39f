use Rattle.client_sessions.proofs.Standing.{none_held, none_stand}
use Rattle.client_sessions.proofs.clients.Clients.new.Goals as goal

pub returns-clause-none : goal.returns-clause-none
returns-clause-none c = λ databases. none_held _ databases (c.new.ensures.sessions databases) c.new-2.ensures.empty c.new-3.ensures.items

pub returns-clause-stand : goal.returns-clause-stand
returns-clause-stand c = λ databases none.
    none_stand _ databases c.new.ensures.pins (none_held _ databases (c.new.ensures.sessions databases) c.new-2.ensures.empty c.new-3.ensures.items) none
