use Rattle.node_core.proofs.CoreMoves.{hears_exact, unheard_exact}
use Rattle.node_core.proofs.ConnStreams.{hears_open_begins, hears_link_begins}
use Rattle.std.proofs.Common.{Some, refl}
use Rattle.node_core.specs.declared.running.Running.{Running}
use Rattle.node_core.proofs.ClientMoves.{hears_so, hears_none}
use Rattle.node_core.proofs.running.Running.receive.Goals as goal

pub returns-then-is_open-clause-conns : goal.returns-then-is_open-clause-conns
returns-then-is_open-clause-conns c =
    let new : Running = record c.args.self.now { clients = c.receive.new.self; heard = Some c.args.conn } in
    hears_open_begins c.args.self.now new c.args.conn c.args.bytes.now c.is_open.result (c.is_open.ensures c.args.self.now.applied.machine) c.if-is_open.true
    (c.in_ok-receive.ensures.heard c.args.self.now.applied.machine) refl refl refl refl refl

pub returns-clause-conns : goal.returns-clause-conns
returns-clause-conns c =
    let new : Running = record c.args.self.now { links = c.receive-2.new.self; heard = Some c.args.conn } in
    hears_link_begins c.args.self.now new c.args.conn c.args.bytes.now c.is_open.result (c.is_open.ensures c.args.self.now.applied.machine) c.if-is_open.false refl refl refl c.receive-2.ensures.none
    c.in_ok-receive-2.ensures.heard refl refl

pub returns-then-is_open-clause-goes : goal.returns-then-is_open-clause-goes
returns-then-is_open-clause-goes c =
    let new : Running = record c.args.self.now { clients = c.receive.new.self; heard = Some c.args.conn } in
    hears_so c.args.self.now new c.args.conn c.args.bytes.now (record { replica = refl; index = refl; serving = refl; due = refl; machine = c.databases_stand.ensures; files = refl })
    (c.in_ok-receive.ensures.heard c.args.self.now.applied.machine)

pub returns-clause-goes : goal.returns-clause-goes
returns-clause-goes c =
    let new : Running = record c.args.self.now { links = c.receive-2.new.self; heard = Some c.args.conn } in
    hears_none c.args.self.now new c.args.conn c.args.bytes.now c.is_open.result (c.is_open.ensures c.args.self.now.applied.machine) c.if-is_open.false
    (record { replica = refl; index = refl; serving = refl; due = refl; machine = c.databases_stand.ensures; files = refl }) refl

pub returns-then-is_open-clause-exact : goal.returns-then-is_open-clause-exact
returns-then-is_open-clause-exact c = λ links.
    let new : Running = record c.args.self.now { clients = c.receive.new.self; heard = Some c.args.conn } in
    hears_exact c.args.self.now new c.args.conn c.args.bytes.now (c.in_ok-receive.ensures.heard c.args.self.now.applied.machine) refl

pub returns-clause-exact : goal.returns-clause-exact
returns-clause-exact c =
    let new : Running = record c.args.self.now { links = c.receive-2.new.self; heard = Some c.args.conn } in
    unheard_exact c.args.self.now new c.args.conn c.args.bytes.now c.is_open.result (c.is_open.ensures c.args.self.now.applied.machine) c.if-is_open.false c.receive-2.ensures.none refl
