use Rattle.std.proofs.Common.{ap, ◌∙◌}
use Rattle.std.proofs.lemmas.Result.{IfOk-weaker}
use Rattle.session_spec.specs.Sessions.{Gateway}
use Rattle.session_spec.specs.Events.{connects}
use Rattle.session_gateway.proofs.Holding.{came_ok, seen_now, pins_now}
use Rattle.session_gateway.proofs.sessions.Gateway.connect.Goals as goal

pub returns-clause-connected : goal.returns-clause-connected
returns-clause-connected c = came_ok c.join.result c.self.inside.sessions.items c.join.new.sessions.items c.self.inside.weight c.self.inside.next c.args.conn c.args.self.now c.self.view_is c.join.ensures.table

pub returns-clause-told : goal.returns-clause-told
returns-clause-told c =
    IfOk-weaker c.join.result _ _
    (λ joined is databases. (is databases c.self.inside.weight).told ∙ ap (λ (g : Gateway). connects g c.args.conn) (seen_now c.self.inside.sessions.items c.self.inside.weight c.self.inside.next c.args.self.now databases c.self.view_is)) c.join.ensures.table

pub returns-clause-pins : goal.returns-clause-pins
returns-clause-pins c = pins_now c.self.inside.sessions.items c.join.new.sessions.items c.self.inside.weight c.self.inside.next c.args.self.now c.self.view_is c.join.ensures.pins
