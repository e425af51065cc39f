use Rattle.raft_log.proofs.PeerTables.{ack_row}
use Rattle.raft_log.proofs.rows.ack_among.Goals as goal

pub returns-in-Some : goal.returns-in-Some
returns-in-Some c = ack_row c.args.rows.now c.in-Some.i c.args.from c.index-rows-i.result c.after_ack.result c.args.good c.args.index c.in-Some.ensures c.index-rows-i.is c.after_ack.ensures.id c.after_ack.ensures.matched c.after_ack.ensures.next
