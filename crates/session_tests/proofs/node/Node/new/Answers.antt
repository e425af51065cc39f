use Rattle.std.proofs.Common.{List, [], sym, subst}
use Rattle.database_state.specs.declared.database.Database.{Database}
use Rattle.database_state.proofs.Acting.{no_databases}
use Rattle.client_sessions.specs.Seen.{Agrees}
use Rattle.session_tests.proofs.Standing.{begun}
use Rattle.session_tests.proofs.node.Node.new.Goals as goal

pub returns-clause-stand : goal.returns-clause-stand
returns-clause-stand c = begun c.new.result c.new-2.result c.new-2.ensures c.new.ensures.stand

pub returns-clause-agrees : goal.returns-clause-agrees
returns-clause-agrees c = subst (λ (databases : List Database). Agrees [] c.new.result databases) (sym c.new-2.ensures) (c.new.ensures.agrees [] no_databases)
