use Rattle.client_sessions.proofs.Standing.{open_held}
use Rattle.client_sessions.proofs.clients.Clients.is_open.Goals as goal

pub returns : goal.returns
returns c = λ databases. open_held c.args.self.now databases c.args.conn c.contains_key.result c.contains_key.ensures
