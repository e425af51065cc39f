use Rattle.std.proofs.Common.{◌∙◌}
use Rattle.std.proofs.lemmas.Result.{IfOk-weaker, on_err_weaker}
use Rattle.session_table.specs.Table.{table_of}
use Rattle.session_outcomes.specs.Reading.{read_named}
use Rattle.session_gateway.specs.Seen.{seen}
use Rattle.session_gateway.proofs.Holding.{pins_now, seen_now}
use Rattle.session_gateway.proofs.Laters.{done_so}
use Rattle.session_gateway.proofs.sessions.Gateway.on_read_done.Goals as goal

pub returns-clause-done : goal.returns-clause-done
unfolding seen
returns-clause-done c =
    IfOk-weaker c.read_done.result _ _
    (λ act h databases. done_so (table_of databases c.self.inside.sessions.items c.self.inside.weight) (seen c.args.self.now databases) c.args.conn (read_named c.args.read) _ act (seen_now c.self.inside.sessions.items c.self.inside.weight c.self.inside.next c.args.self.now databases c.self.view_is) (h databases c.self.inside.weight))
    c.read_done.ensures.done

pub returns-clause-pins : goal.returns-clause-pins
returns-clause-pins c = pins_now c.self.inside.sessions.items c.read_done.new.sessions.items c.self.inside.weight c.self.inside.next c.args.self.now c.self.view_is c.read_done.ensures.pins

pub returns-clause-failed : goal.returns-clause-failed
unfolding seen
returns-clause-failed c = on_err_weaker c.read_done.result (λ e databases. e databases c.self.inside.weight ∙ seen_now c.self.inside.sessions.items c.self.inside.weight c.self.inside.next c.args.self.now databases c.self.view_is) c.read_done.ensures.failed
