use Rattle.std.proofs.Common.{◌≢◌, ◌∙◌, ap, add-one}
use Rattle.raft_spec.specs.Progress.{PeerProgress}
use Rattle.raft_log.proofs.PeerTables.{passes}
use Rattle.raft_log.proofs.rows.place_of.Goals as goal

pub loop-i-preserved : goal.loop-i-preserved
loop-i-preserved c =
    let other : c.index-rows-i.result.id ≢ c.args.id = λ z. c.if-row-id.false (ap (λ (r : PeerProgress). r.id) c.row.view_is ∙ z) in
    rw add-one (passes c.args.rows.now c.loop-i.i c.args.id c.index-rows-i.result c.loop-i-test.true c.index-rows-i.is other c.loop-i.invariant)
