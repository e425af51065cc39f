use Rattle.std.proofs.Common.{◌∙◌, sym, arith}
use Rattle.raft_spec.specs.Compaction.{whole_log}
use Rattle.raft_log.proofs.progress.Progress.commit_index.Goals as goal
use Rattle.raft_log.proofs.Commits.{at_end, at_found, at_skip}

pub returns-then-is_stored : goal.returns-then-is_stored
returns-then-is_stored c = at_found c.args.self.now (whole_log c.args.log.now) c.args.term c.args.commit c.loop-index.index c.loop-index.invariant.same c.loop-index-test.true (sym c.is_stored.ensures ∙ c.if-is_stored.true)

pub loop-index-preserved : goal.loop-index-preserved
loop-index-preserved c = record { within = omega arith; same = at_skip c.args.self.now (whole_log c.args.log.now) c.args.term c.args.commit c.loop-index.index c.loop-index.invariant.same c.loop-index-test.true (sym c.is_stored.ensures ∙ c.if-is_stored.false) }

pub returns : goal.returns
returns c = at_end c.args.self.now (whole_log c.args.log.now) c.args.term c.args.commit c.loop-index.index c.loop-index.invariant.same c.loop-index-test.false
