use Rattle.std.proofs.lemmas.Result.{err_from_is_err_and}
use Rattle.raft_messages.specs.Entries.{heads_at}
use Rattle.raft_messages.proofs.Loops.{heads_more, heads_end, heads_done}
use Rattle.raft_messages.proofs.entries.read_entry_heads.Goals as goal

pub returns-in_err-head : goal.returns-in_err-head
returns-in_err-head c =
    let p = err_from_is_err_and c.from_residual.result c.from_residual.ensures.1 in
    rw (p.1, p.2) (heads_end c.in_err-head.field-0.0 c.loop.heads.items c.args.count c.loop.counter c.loop.words (heads_at c.args.count c.args.words.now) c.loop-test.true c.in_err-head.ensures c.loop.invariant)

pub loop-preserved : goal.loop-preserved
loop-preserved c =
    rw c.in_ok-push.ensures.items (heads_more c.loop.heads.items c.args.count c.loop.counter c.loop.words c.head.new.words c.in_ok-head.head (heads_at c.args.count c.args.words.now) c.loop-test.true c.in_ok-head.ensures c.loop.invariant)

pub returns : goal.returns
returns c = heads_done c.loop.heads.items c.args.count c.loop.counter c.loop.words (heads_at c.args.count c.args.words.now) c.loop-test.false c.loop.invariant
