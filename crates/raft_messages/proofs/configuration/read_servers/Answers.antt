use Rattle.std.proofs.Common.{arith}
use Rattle.raft_messages.proofs.ServerLaws.{is_found, is_only}
use Rattle.raft_messages.proofs.configuration.read_servers.Goals as goal

pub returns-clause-found : goal.returns-clause-found
returns-clause-found c = is_found c.args.bytes.now c.begun_servers.result (λ i. omega (arith, c.type_inv.bytes i)) c.begun_servers.ensures

pub returns-clause-only : goal.returns-clause-only
returns-clause-only c = is_only c.args.bytes.now c.begun_servers.result c.begun_servers.ensures
