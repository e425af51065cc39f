use Rattle.script_machines.proofs.Tables.{put_back}
use Rattle.script_machines.proofs.list.try_note.Goals as goal

pub returns-then-not-within-2-clause-kept : goal.returns-then-not-within-2-clause-kept
returns-then-not-within-2-clause-kept c = λ refused.
    let s = c.index.result.now in
    let lt = rw c.as_slice.ensures.value at c.in-Some.ensures.0 in
    put_back c.args.table.now.items c.put_length.new.table.items c.put_length-then-not-within-2.new.table.items c.in-Some.place c.max.result s lt c.index.ensures (c.put_length.ensures s) (c.put_length-then-not-within-2.ensures s)
