use Rattle.raft_log.proofs.PeerTables.{row_found, row_new}
use Rattle.raft_log.proofs.rows.row_among.Goals as goal

pub returns-in-Some : goal.returns-in-Some
returns-in-Some c = row_found c.args.rows.now c.in-Some.i c.args.id c.args.next c.index-rows-i.result c.in-Some.ensures c.index-rows-i.is

pub returns-in-None : goal.returns-in-None
returns-in-None c = row_new c.args.rows.now c.args.id c.args.next c.in-None.ensures
