use Rattle.std.proofs.Common.{◌++◌, ◌∙◌, sym, ap}
use Rattle.raft_spec.specs.Node.{others}
use Rattle.raft_spec.specs.Progress.{rows_for}
use Rattle.raft_log.proofs.PeerTables.{rows_both}
use Rattle.raft_log.proofs.rows.rows_of_both.Goals as goal

pub returns : goal.returns
returns c =
    c.add-2.ensures.rows ∙ ap (λ r. r ++ rows_for (others c.args.standbys.now c.args.own) c.args.next c.args.old.now) (c.add.ensures.rows ∙ ap (λ r. r ++ rows_for (others c.args.voters.now c.args.own) c.args.next c.args.old.now) c.new-rows.ensures)
    ∙ sym (rows_both c.args.voters.now c.args.standbys.now c.args.own c.args.next c.args.old.now)
