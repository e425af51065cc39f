use Rattle.std.proofs.Common.{map, arith}
use Rattle.database_state.specs.Databases.{undone}
use Rattle.database_state.proofs.Places.{all_done}
use Rattle.database_state.proofs.machine.undo.Goals as goal

pub returns : goal.returns
returns c =
    let f = undone c.args.tx in
    all_done f c.loop-database.databases (map f c.args.databases.now) c.loop-database.database-index (omega (arith, c.loop-database-test.false, c.loop-database.auto.databases)) c.loop-database.invariant
