use Rattle.std.proofs.Common.{length}
use Rattle.database_state.proofs.Short.{opened_after, undone_short, moved_short, back_short}
use Rattle.database_state.proofs.machine.act_on.Goals as goal

pub returns-in-OpenDb-clause-short : goal.returns-in-OpenDb-clause-short
returns-in-OpenDb-clause-short c = opened_after c.open.result c.in-OpenDb.name c.args.databases.now.items c.open.new.databases.items c.open.ensures.ok

pub returns-in-Undo-clause-short : goal.returns-in-Undo-clause-short
returns-in-Undo-clause-short c all =
    let old = c.args.databases.now.items in
    back_short c.args.databases.now.len (length c.undo.new.databases) c.undo.new.databases old (undone_short c.in-Undo.tx old c.undo.new.databases (rw c.as_mut_slice.ensures.value at c.undo.ensures) all) all

pub returns-in-Checkpoint-clause-short : goal.returns-in-Checkpoint-clause-short
returns-in-Checkpoint-clause-short c all =
    let old = c.args.databases.now.items in
    back_short c.args.databases.now.len (length c.checkpoint.new.databases) c.checkpoint.new.databases old (moved_short c.in-Checkpoint.name old c.checkpoint.new.databases (rw c.as_mut_slice-in-Checkpoint.ensures.value at c.checkpoint.ensures) all) all
