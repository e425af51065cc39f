use Rattle.std.proofs.Common.{◌∙◌, ap}
use Rattle.raft_spec.specs.Progress.{PeerProgress}
use Rattle.raft_log.proofs.PeerTables.{match_found, match_unknown}
use Rattle.raft_log.proofs.rows.match_among.Goals as goal

pub returns-in-Some : goal.returns-in-Some
returns-in-Some c = ap (λ (r : PeerProgress). r.matched) c.row.view_is ∙ match_found c.args.rows.now c.in-Some.i c.args.id c.index-rows-i.result c.in-Some.ensures c.index-rows-i.is

pub returns-in-None : goal.returns-in-None
returns-in-None c = match_unknown c.args.rows.now c.args.id c.in-None.ensures
