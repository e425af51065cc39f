use Rattle.std.proofs.Common.{inl, inr, sym, drop, arith, length-drop}
use Rattle.raft_log.proofs.Agreeing.{front_free, front_conflict}
use Rattle.raft_log.proofs.queue.conflict.Goals as goal

pub returns-then-coming-same-clause-place : goal.returns-then-coming-same-clause-place
returns-then-coming-same-clause-place c = front_free (drop c.args.place c.args.queue.now) c.args.coming.now c.agreeing-same.result c.agreeing-same.ensures.front (inl (sym c.if-coming-same.true))

pub returns-then-place-same-clause-place : goal.returns-then-place-same-clause-place
returns-then-place-same-clause-place c =
    let size = length-drop c.args.place c.args.queue.now in
    let at = c.if-place-same.true in
    front_free (drop c.args.place c.args.queue.now) c.args.coming.now c.agreeing-same.result c.agreeing-same.ensures.front (inr (omega arith))

pub returns-clause-place : goal.returns-clause-place
returns-clause-place c =
    let size = length-drop c.args.place c.args.queue.now in
    let at = c.if-place-same.false in
    let more = c.if-coming-same.false in
    let few = c.agreeing-same.ensures.within in
    let short = c.agreeing-same.ensures.short in
    front_conflict (drop c.args.place c.args.queue.now) c.args.coming.now c.agreeing-same.result c.agreeing-same.ensures.front (omega arith) (omega arith)
