use Rattle.std.proofs.Common.{◌∙◌, ap}
use Rattle.raft_spec.specs.Progress.{PeerProgress}
use Rattle.raft_log.proofs.PeerTables.{next_found, next_unknown}
use Rattle.raft_log.proofs.rows.next_among.Goals as goal

pub returns-in-Some : goal.returns-in-Some
returns-in-Some c = ap (λ (r : PeerProgress). r.next) c.row.view_is ∙ next_found c.args.rows.now c.in-Some.i c.args.id c.index-rows-i.result c.in-Some.ensures c.index-rows-i.is

pub returns-in-None : goal.returns-in-None
returns-in-None c = next_unknown c.args.rows.now c.args.id c.in-None.ensures
