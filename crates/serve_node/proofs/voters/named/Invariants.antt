use Rattle.std.proofs.Common.{◌≡◌}
use Rattle.serve_node.specs.Named.{voters_to}
use Rattle.serve_node.proofs.voters.named.Given as goal

-- the voters so far
abbrev pub invariant-loop-before : goal.invariant-loop-before
invariant-loop-before l = l.servers.items ≡ voters_to l.words l.before
