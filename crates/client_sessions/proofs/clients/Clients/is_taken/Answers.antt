use Rattle.client_sessions.proofs.Connecting.{found_there, busy_there}
use Rattle.client_sessions.proofs.clients.Clients.is_taken.Goals as goal

pub returns-then-contains_key-clause-there : goal.returns-then-contains_key-clause-there
returns-then-contains_key-clause-there c = λ databases stand.
    found_there c.args.self.now databases c.args.conn c.contains_key.result c.contains_key.ensures c.if-contains_key.true stand

pub returns-else-contains_key-clause-there : goal.returns-else-contains_key-clause-there
returns-else-contains_key-clause-there c = λ databases stand.
    busy_there c.args.self.now databases c.args.conn c.contains_key.result c.busy.result c.contains_key.ensures c.if-contains_key.false (c.busy.ensures databases) stand
