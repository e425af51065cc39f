use Rattle.node_core.proofs.ConnStreams.{read_kept, none_later}
use Rattle.std.proofs.Common.{refl}
use Rattle.client_sessions.specs.Seen.{clients_of}
use Rattle.session_outcomes.specs.Reading.{read_named}
use Rattle.node_core.specs.declared.running.Running.{Running}
use Rattle.node_core.proofs.ClientTurns.{reads_reply}
use Rattle.node_core.proofs.Going.{clients_moved}
use Rattle.node_core.proofs.Waiting.{finished_turns}
use Rattle.node_core.proofs.running.Running.tell_read.Goals as goal

pub returns-in_ok-perform-in-Some-clause-conns : goal.returns-in_ok-perform-in-Some-clause-conns
returns-in_ok-perform-in-Some-clause-conns c =
    let databases = c.args.self.now.applied.machine in
    let mid : Running = record c.args.self.now { clients = c.on_read_done.new.self } in
    read_kept c.args.self.now mid c.perform.new.self c.args.conn _ _ c.in_ok-act.field-0 c.in-Some.act (c.in_ok-act.ensures.finished databases) (c.in_ok-act.ensures.rest databases) c.in-Some.is refl refl refl refl refl
    c.in_ok-perform-in-Some.ensures.conns

pub returns-in-None-clause-conns : goal.returns-in-None-clause-conns
returns-in-None-clause-conns c =
    let databases = c.args.self.now.applied.machine in
    none_later c.args.self.now (record c.args.self.now { clients = c.on_read_done.new.self }) c.args.conn c.in_ok-act.field-0 (c.in_ok-act.ensures.rest databases) refl refl refl refl refl

pub perform-requires : goal.perform-requires
perform-requires c =
    let databases = c.args.self.now.applied.machine in
    let going = c.requires.going in
    record {
      going = clients_moved c.args.self.now _ going (c.in_ok-act.ensures.stand databases going.holds.clients)
          (finished_turns (clients_of c.args.self.now.clients databases) c.args.conn _ _ (clients_of c.on_read_done.new.self databases) c.in_ok-act.field-0
          (c.in_ok-act.ensures.finished databases) (c.in_ok-act.ensures.rest databases) going.holds.turns) refl;
    }

pub returns-in_ok-perform-in-Some-clause-reads : goal.returns-in_ok-perform-in-Some-clause-reads
returns-in_ok-perform-in-Some-clause-reads c =
    let databases = c.args.self.now.applied.machine in
    let mid : Running = record c.args.self.now { clients = c.on_read_done.new.self } in
    reads_reply c.args.self.now mid c.perform.new.self c.args.conn refl c.databases_stand.ensures (read_named c.args.read) c.in_ok-act.field-0 c.in-Some.act
    (c.in_ok-act.ensures.finished databases) (c.in_ok-act.ensures.rest databases) c.in-Some.is c.in_ok-perform-in-Some.ensures.performed

pub returns-in_err-perform-in-Some-clause-agrees : goal.returns-in_err-perform-in-Some-clause-agrees
returns-in_err-perform-in-Some-clause-agrees c = λ known agree. c.perform.ensures.agrees known (c.on_read_done.ensures.agrees known c.args.self.now.applied.machine agree)

pub returns-in_ok-perform-in-Some-clause-agrees : goal.returns-in_ok-perform-in-Some-clause-agrees
returns-in_ok-perform-in-Some-clause-agrees c = λ known agree. c.perform.ensures.agrees known (c.on_read_done.ensures.agrees known c.args.self.now.applied.machine agree)
