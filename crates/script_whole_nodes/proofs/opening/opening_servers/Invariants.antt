use Rattle.std.proofs.Common.{◌≡◌}
use Rattle.script_cluster.specs.Voters.{voters_from}
use Rattle.script_whole_nodes.proofs.opening.opening_servers.Given as goal

abbrev pub invariant-loop-place : goal.invariant-loop-place
invariant-loop-place l = l.servers.items ≡ voters_from l.place 1
