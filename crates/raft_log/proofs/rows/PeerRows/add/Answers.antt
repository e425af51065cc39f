use Rattle.std.proofs.Common.{◌++◌, ◌∙◌, sym, ap, arith, append-nil}
use Rattle.raft_log.proofs.PeerTables.{rows_more, rows_none}
use Rattle.raft_log.proofs.rows.PeerRows.add.Goals as goal

pub loop-id-init : goal.loop-id-init
loop-id-init c = record { rows = sym (ap (λ r. c.args.self.now ++ r) (rows_none c.args.own c.args.next c.args.old.now) ∙ append-nil c.args.self.now); few = omega arith }

pub loop-id-preserved : goal.loop-id-preserved
loop-id-preserved c = record {
  rows = c.add_one.ensures.rows ∙ rows_more c.loop-id.self c.args.self.now c.args.old.now c.args.ids.now c.loop-id.id-index c.args.own c.args.next c.loop-id-test.true c.loop-id.invariant.rows;
  few = let f = c.add_one.ensures.few in let i = c.loop-id.invariant.few in omega arith;
}
