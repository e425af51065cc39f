use Rattle.std.proofs.Common.{◌+◌, drop, ap, ◌∙◌, sym, nat_eq, arith, length-drop}
use Rattle.raft_log.proofs.Agreeing.{has_nth, has_none, has_dropped}
use Rattle.raft_log.proofs.queue.is_of_term.Goals as goal

pub returns-then-queue-place : goal.returns-then-queue-place
returns-then-queue-place c = let d = length-drop c.args.place c.args.queue.now in sym (has_none (drop c.args.place c.args.queue.now) c.args.n c.args.term (omega arith))

pub returns : goal.returns
returns c = ap (λ t. nat_eq t c.args.term) c.term_of.ensures ∙ sym (has_dropped c.args.place c.args.queue.now c.args.n c.args.term ∙ has_nth c.args.queue.now (c.args.place + c.args.n) c.args.term (omega arith))
