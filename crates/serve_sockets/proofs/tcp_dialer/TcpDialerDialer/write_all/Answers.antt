use Rattle.serve_sockets.proofs.Counted.{written, unwritten}
use Rattle.serve_sockets.proofs.tcp_dialer.TcpDialerDialer.write_all.Goals as goal

pub returns-in-Ok : goal.returns-in-Ok
returns-in-Ok g c = written c.args.self.now c.write.new.self c.args.bytes.now c.write.ensures

pub returns-in-Err : goal.returns-in-Err
returns-in-Err g c = unwritten c.args.self.now c.write.new.self c.fail.new.self c.args.bytes.now c.fail.result c.write.ensures c.fail.ensures.count c.fail.ensures.never_falls
