use Rattle.std.proofs.Common.{sym}
use Rattle.database_state.specs.Databases.{has_name, moved}
use Rattle.database_state.specs.ByName.{FirstAt}
use Rattle.database_state.proofs.First.{first_set, stays}
use Rattle.database_state.proofs.machine.checkpoint.Goals as goal

pub returns-in-Some : goal.returns-in-Some
returns-in-Some c =
    let first : FirstAt (has_name c.args.name.now) c.args.databases.now c.in-Some.place = rw c.as_str.ensures.value at c.in-Some.ensures in
    first_set (has_name c.args.name.now) (λ d. moved d) c.args.databases.now c.in-Some.place c.index-databases-place.result c.checkpoint.new.self first c.checkpoint.ensures

pub returns-in_default : goal.returns-in_default
returns-in_default c = sym (stays (has_name c.args.name.now) (λ d. moved d) c.args.databases.now (rw c.as_str.ensures.value at c.in_default.ensures))
