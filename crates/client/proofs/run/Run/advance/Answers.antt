use Rattle.client.proofs.Driven.{advanced}
use Rattle.client.proofs.run.Run.advance.Goals as goal

pub returns-clause-ok : goal.returns-clause-ok
returns-clause-ok g c =
    advanced (g.N.Dialer.net c.args.net.now) (g.N.Dialer.net c.perform.new.net) c.args.self.now c.go_on.new.self c.in_ok-came.came c.perform.new.held c.go_on.result
    c.in_ok-came.ensures c.go_on.ensures
