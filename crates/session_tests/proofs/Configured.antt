-- No servers are a configuration.
use Rattle.std.proofs.Common.{◌≡◌, List, [], sym, subst, arith}
use Rattle.raft_spec.specs.Node.{Server, voters}
use Rattle.raft_messages.specs.Servers.{IsConfiguration}

none : IsConfiguration []
unfolding voters
none = record { ascend = tt; each = tt; few = omega arith; few_voters = omega arith }

pub configured : (servers : List Server) → servers ≡ [] → IsConfiguration servers
configured servers e = subst IsConfiguration (sym e) none
