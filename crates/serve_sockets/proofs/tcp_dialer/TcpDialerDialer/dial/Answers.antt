use Rattle.std.proofs.Common.{refl}
use Rattle.serve_sockets.proofs.Counted.{linked, missed}
use Rattle.serve_sockets.proofs.tcp_dialer.TcpDialerDialer.dial.Goals as goal

pub returns-then-link_to : goal.returns-then-link_to
returns-then-link_to g c = linked c.args.self.now c.link_to.new.self c.args.address.now (c.if-link_to.ensures.linked refl) c.link_to.ensures.bound

pub returns : goal.returns
returns g c =
    missed c.args.self.now c.link_to.new.self c.miss.new.self c.args.address.now c.miss.result (c.link_to.ensures.unlinked c.if-link_to.false) c.link_to.ensures.bound c.miss.ensures.counts
    c.miss.ensures.never_falls
