use Rattle.std.proofs.Common.{rules}
use Rattle.std.proofs.lemmas.Result.{err_from_is_err_and}
use Rattle.client.specs.Running.{started}
use Rattle.client.proofs.Driven.{begins_as, goes, stops, ended, stopped, unmoved}
use Rattle.client.proofs.Failing.{none_failed, stops_failed}
use Rattle.client.proofs.run.drive_over.Goals as goal

pub returns-in_err-run-clause-run : goal.returns-in_err-run-clause-run
returns-in_err-run-clause-run g c =
    let p = err_from_is_err_and c.from_residual.result c.from_residual.ensures.1 in
    let start = g.N.Dialer.net c.args.net.now in
    stopped start start (started c.args.core) c.from_residual.result p.0 p.1 (unmoved start (started c.args.core))

pub calls-init : goal.calls-init
calls-init g c = record {
  going = begins_as (g.N.Dialer.net c.args.net.now) c.args.core c.in_ok-run.run' c.requires.begun c.in_ok-run.ensures;
  room = c.requires.room;
}

pub returns-in_err-run-clause-faults : goal.returns-in_err-run-clause-faults
returns-in_err-run-clause-faults g c = none_failed (g.N.Dialer.net c.args.net.now)

pub returns-in_err-advance-clause-run : goal.returns-in_err-advance-clause-run
returns-in_err-advance-clause-run g c =
    let p = err_from_is_err_and c.from_residual-in_err-advance.result c.from_residual-in_err-advance.ensures.1 in
    let net = g.N.Dialer.net in
    stopped (net c.args.net.now) (net c.advance.new.net) (started c.args.core) c.from_residual-in_err-advance.result p.0 p.1
    (stops (net c.args.net.now) (net c.calls.net) (net c.advance.new.net) (started c.args.core) c.calls.run c.calls.invariant.going c.in_err-advance.ensures.err)

pub returns-in_err-advance-clause-faults : goal.returns-in_err-advance-clause-faults
returns-in_err-advance-clause-faults g c =
    let net = g.N.Dialer.net in
    stops_failed (net c.args.net.now) (net c.calls.net) (net c.advance.new.net) c.calls.run c.calls.invariant.going.failed c.in_err-advance.ensures.err

pub calls-preserved : goal.calls-preserved
calls-preserved g c =
    let net = g.N.Dialer.net in
    record {
      going = goes (net c.args.net.now) (net c.calls.net) (net c.advance.new.net) (started c.args.core) c.calls.run c.advance.new.self c.calls.invariant.going c.in_ok-advance.ensures.ok;
      room = search rules;
    }

pub returns-clause-faults : goal.returns-clause-faults
returns-clause-faults g c = c.calls.invariant.going.failed

pub returns-clause-run : goal.returns-clause-run
returns-clause-run g c =
    let net = g.N.Dialer.net in
    ended (net c.args.net.now) (net c.calls.net) (started c.args.core) c.calls.run c.into_end.result c.calls.invariant.going c.into_end.ensures
