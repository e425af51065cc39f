use Rattle.std.proofs.Common.{◌≡◌, drop}
use Rattle.serve_node.specs.Named.{address_in}
use Rattle.serve_node.proofs.voters.address_in.Given as goal

-- none of the peers before has the id
abbrev pub invariant-loop-peer : goal.invariant-loop-peer
invariant-loop-peer l = address_in l.id (drop l.peer-index l.peers) ≡ address_in l.id l.peers
