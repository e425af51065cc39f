use Rattle.node_core.proofs.ConnStreams.{kept_both, lent_kept}
use Rattle.std.proofs.Common.{[], None}
use Rattle.node_core.proofs.Beginning.{begins_unread, begins_given_back, begins_told}
use Rattle.node_core.proofs.Led.{led_lent, led_reads}
use Rattle.node_core.proofs.running.Running.read_done.Goals as goal

pub returns-then-gives_back-clause-conns : goal.returns-then-gives_back-clause-conns
returns-then-gives_back-clause-conns g c =
    kept_both c.args.self.now c.take_back.new.self c.run_later.new.self (lent_kept c.args.self.now c.take_back.new.self _ _ c.take_back.ensures.rest) c.in_ok-run_later.ensures.conns

pub returns-then-not-take_back-clause-conns : goal.returns-then-not-take_back-clause-conns
returns-then-not-take_back-clause-conns g c = lent_kept c.args.self.now c.take_back.new.self _ _ c.take_back.ensures.rest

pub returns-clause-conns : goal.returns-clause-conns
returns-clause-conns g c =
    kept_both c.args.self.now c.take_back.new.self c.tell_read.new.self (lent_kept c.args.self.now c.take_back.new.self _ _ c.take_back.ensures.rest) c.in_ok-tell_read.ensures.conns

pub returns-then-not-take_back-clause-begun : goal.returns-then-not-take_back-clause-begun
returns-then-not-take_back-clause-begun g c = λ setup.
    let kind = g.E.Engine.kind c.args.engine.now in
    begins_unread (g.E.Engine.meaning kind) kind setup c.args.self.now c.take_back.new.self c.args.conn c.args.read c.take_back.ensures.rest

pub returns-then-gives_back-clause-begun : goal.returns-then-gives_back-clause-begun
returns-then-gives_back-clause-begun g c = λ setup.
    let kind = g.E.Engine.kind c.args.engine.now in
    begins_given_back (g.E.Engine.meaning kind) kind setup c.args.self.now c.take_back.new.self c.args.conn c.args.read c.take_back.ensures.rest c.run_later.new.self
    (c.in_ok-run_later.ensures.goes setup [] None) c.in_ok-run_later.ensures.replica

pub returns-clause-begun : goal.returns-clause-begun
returns-clause-begun g c = λ setup.
    let kind = g.E.Engine.kind c.args.engine.now in
    begins_told (g.E.Engine.meaning kind) kind setup c.args.self.now c.take_back.new.self c.args.conn c.args.read c.take_back.ensures.rest c.tell_read.new.self
    c.in_ok-tell_read.ensures.reads c.in_ok-tell_read.ensures.replica

pub returns-then-not-take_back-clause-led : goal.returns-then-not-take_back-clause-led
returns-then-not-take_back-clause-led g c = led_lent c.args.self.now c.take_back.new.self c.requires.led c.take_back.ensures.rest

pub run_later-requires-clause-led : goal.run_later-requires-clause-led
run_later-requires-clause-led g c = led_lent c.args.self.now c.take_back.new.self c.requires.led c.take_back.ensures.rest

pub returns-clause-led : goal.returns-clause-led
returns-clause-led g c =
    led_reads c.take_back.new.self c.tell_read.new.self c.args.conn _ (led_lent c.args.self.now c.take_back.new.self c.requires.led c.take_back.ensures.rest) c.in_ok-tell_read.ensures.office c.in_ok-tell_read.ensures.reads
