-- The servers of a node that was read from a snapshot are a configuration.
use Rattle.std.proofs.Common.{ℕ, List}
use Rattle.raft_messages.specs.Servers.{IsConfiguration}
use Rattle.applied_state.specs.declared.applied.Applied.{Applied}
use Rattle.applied_state.specs.Snapshot.{IsRestored}

pub is_configured : (index : ℕ) (bytes : List ℕ) (a : Applied) → IsRestored index bytes a → IsConfiguration a.servers
is_configured index bytes a h = h.spelled.servers.is
