use Rattle.client_sessions.proofs.Moving.{clients_same, other_stand}
use Rattle.client_sessions.proofs.laws.clients_change_databases.Goals as goal

pub returns : goal.returns
returns c = record { clients = clients_same; stand = other_stand }
