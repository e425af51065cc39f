use Rattle.std.proofs.Common.{sym, subst}
use Rattle.database_state.specs.Machines.{IsMachine, AllShort}
use Rattle.database_state.proofs.Acting.{no_databases}
use Rattle.database_state.proofs.machine.Machine.new.Goals as goal

pub invariant_of-result : goal.invariant_of-result
invariant_of-result c = (subst IsMachine (sym c.new.ensures.items) no_databases, subst AllShort (sym c.new.ensures.items) tt)
