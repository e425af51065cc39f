use Rattle.std.proofs.Common.{sym}
use Rattle.database_state.specs.Databases.{StandsAt}
use Rattle.database_state.proofs.Places.{stands_same}
use Rattle.database_state.proofs.machine.open.Goals as goal

pub returns-in-Ok-clause-ok : goal.returns-in-Ok-clause-ok
returns-in-Ok-clause-ok c =
    let stands : StandsAt c.args.name.now c.args.databases.now.items c.in-Ok._place = rw (c.as_slice.ensures.value, c.as_str.ensures.value) at c.in-Ok.ensures in
    sym (stands_same c.args.name.now c.args.databases.now.items c.in-Ok._place stands)
