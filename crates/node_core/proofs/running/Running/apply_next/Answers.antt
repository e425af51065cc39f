use Rattle.node_core.proofs.CoreEntries.{entry_by}
use Rattle.node_core.proofs.ConnStreams.{kept_both}
use Rattle.node_core.proofs.Led.{led_applies}
use Rattle.node_core.proofs.Looping.{on_ok_then, entry_turn}
use Rattle.node_core.proofs.running.Running.apply_next.Goals as goal

pub returns-clause-conns : goal.returns-clause-conns
returns-clause-conns g c =
    on_ok_then c.do_duties.result
    (kept_both c.args.self.now c.run_due.new.self c.do_duties.new.self
    (kept_both c.args.self.now c.apply_one.new.self c.run_due.new.self c.in_ok-effect.ensures.conns c.in_ok-run_due.ensures.conns))
    c.do_duties.ensures.conns

pub run_due-requires-clause-led : goal.run_due-requires-clause-led
run_due-requires-clause-led g c =
    led_applies c.args.self.now c.apply_one.new.self _ c.requires.led c.apply_one.ensures.office c.apply_one.ensures.replica c.in_ok-effect.ensures.applies.applies

pub returns-clause-goes : goal.returns-clause-goes
returns-clause-goes g c = λ setup bytes joins.
    let kind = g.E.Engine.kind c.args.engine.now in
    on_ok_then c.do_duties.result
    (λ duty. entry_turn (g.E.Engine.meaning kind) kind setup bytes joins c.args.self.now c.apply_one.new.self c.run_due.new.self c.do_duties.new.self c.apply_one.ensures.replica c.do_duties.ensures.replica
    c.in_ok-effect.ensures.applies (c.in_ok-run_due.ensures.goes setup bytes joins) duty c.do_duties.ensures.quiet)
    c.do_duties.ensures.duties

pub returns-clause-exact : goal.returns-clause-exact
returns-clause-exact g c =
    let kind = g.E.Engine.kind c.args.engine.now in
    on_ok_then c.do_duties.result
    (λ duty. entry_by (g.E.Engine.meaning kind) kind _ _ c.args.self.now c.apply_one.new.self c.run_due.new.self c.do_duties.new.self c.in_ok-effect.effect c.in_ok-effect.ensures.exact c.in_ok-run_due.ensures.exact duty)
    c.do_duties.ensures.exact
