use Rattle.std.proofs.lemmas.Result.{err_from_is_err_and}
use Rattle.raft_messages.specs.Entries.{contents_at}
use Rattle.raft_messages.proofs.Loops.{contents_more, contents_end, contents_done}
use Rattle.raft_messages.proofs.entries.read_entry_contents.Goals as goal

pub returns-in_err-entry : goal.returns-in_err-entry
returns-in_err-entry c =
    let p = err_from_is_err_and c.from_residual.result c.from_residual.ensures.1 in
    rw (p.1, p.2) (contents_end c.in_err-entry.field-0.0 c.loop-head.entries.items c.args.heads.now c.loop-head.head-index _ c.loop-head.words (contents_at c.args.heads.now c.args.words.now) c.loop-head-test.true c.in_err-entry.ensures c.loop-head.invariant)

pub loop-head-preserved : goal.loop-head-preserved
loop-head-preserved c =
    rw c.in_ok-push.ensures.items (contents_more c.loop-head.entries.items c.args.heads.now c.loop-head.head-index _ c.loop-head.words c.entry.new.words c.in_ok-entry.entry (contents_at c.args.heads.now c.args.words.now) c.loop-head-test.true c.in_ok-entry.ensures c.loop-head.invariant)

pub returns : goal.returns
returns c = contents_done c.loop-head.entries.items c.args.heads.now c.loop-head.head-index c.loop-head.words (contents_at c.args.heads.now c.args.words.now) c.loop-head-test.false c.loop-head.invariant
