use Rattle.std.proofs.Common.{◌≤◌, drop}
use Rattle.raft_log.specs.Agreeing.{agreeing_front}
use Rattle.raft_log.proofs.queue.agreeing.Given as goal

abbrev pub invariant-loop-n : goal.invariant-loop-n
invariant-loop-n l = l.n ≤ agreeing_front (drop l.place l.queue) l.coming
