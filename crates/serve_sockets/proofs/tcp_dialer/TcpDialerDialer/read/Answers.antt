use Rattle.serve_sockets.proofs.Counted.{moved, unmoved}
use Rattle.serve_sockets.proofs.tcp_dialer.TcpDialerDialer.read.Goals as goal

pub returns-in-Ok : goal.returns-in-Ok
returns-in-Ok g c = moved c.args.self.now c.read_link.new.self c.read_link.new.into c.in-Ok.count c.read_link.ensures.same c.in-Ok.ensures.fits

pub returns-in-Err : goal.returns-in-Err
returns-in-Err g c = unmoved c.args.self.now c.read_link.new.self c.fail.new.self c.read_link.new.into c.fail.result c.read_link.ensures.same c.fail.ensures.count c.fail.ensures.never_falls
