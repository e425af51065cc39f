use Rattle.std.proofs.Common.{subst}
use Rattle.session_table.specs.Table.{IsTable}
use Rattle.session_gateway.specs.Seen.{Held}
use Rattle.session_gateway.proofs.sessions.Gateway.is_table.Goals as goal

pub returns : goal.returns
returns c = subst (λ (h : Held). IsTable h.sessions) c.self.view_is c.self.invariant
