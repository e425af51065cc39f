use Rattle.std.proofs.Common.{◌≡◌, false, take}
use Rattle.raft_spec.specs.Node.{among}
use Rattle.raft_spec.specs.Progress.{ids_in}
use Rattle.raft_log.proofs.rows.place_of.Given as goal

abbrev pub invariant-loop-i : goal.invariant-loop-i
invariant-loop-i l = among (ids_in (take l.i l.rows)) l.id ≡ false
