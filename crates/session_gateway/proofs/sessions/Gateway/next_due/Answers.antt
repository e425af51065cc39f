use Rattle.std.proofs.Common.{◌≡◌, ℕ, List, Some, false, subst}
use Rattle.std.specs.Prelude.{MatchOption}
use Rattle.session_spec.specs.Sessions.{Gateway, is_due}
use Rattle.session_table.specs.declared.session.Session.{Session}
use Rattle.session_table.specs.Table.{table_of}
use Rattle.session_gateway.specs.Later.{first_due}
use Rattle.session_gateway.proofs.Holding.{seen_now}
use Rattle.session_gateway.proofs.sessions.Gateway.next_due.Goals as goal

pub returns : goal.returns
returns c = λ databases.
    subst (λ (g : Gateway). MatchOption c.next_due.result ((conn : ℕ) → is_due (g.session conn).later ≡ false) (λ (conn : ℕ). first_due g ≡ Some conn)) (seen_now c.self.inside.sessions.items c.self.inside.weight c.self.inside.next c.args.self.now databases c.self.view_is)
    (subst (λ (ss : List Session). MatchOption c.next_due.result ((conn : ℕ) → is_due ((table_of databases ss c.self.inside.weight).session conn).later ≡ false) (λ (conn : ℕ). first_due (table_of databases ss c.self.inside.weight) ≡ Some conn)) c.as_slice.ensures.value (c.next_due.ensures databases c.self.inside.weight))
