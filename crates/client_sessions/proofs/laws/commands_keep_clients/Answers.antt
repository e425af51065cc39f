use Rattle.session_gateway.proofs.Numbering.{acted_agree}
use Rattle.client_sessions.proofs.Standing.{clients_stay, still_stand}
use Rattle.client_sessions.proofs.laws.commands_keep_clients.Goals as goal

pub returns : goal.returns
returns c = record { clients = clients_stay; stand = still_stand; agree = λ known held databases command old new a. acted_agree known held.gateway databases command old new a }
