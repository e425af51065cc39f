use Rattle.client_sessions.proofs.Serving.{due_held}
use Rattle.client_sessions.proofs.clients.Clients.next_due.Goals as goal

pub returns : goal.returns
returns c = λ databases. due_held c.args.self.now databases c.next_due.result (c.next_due.ensures databases)
