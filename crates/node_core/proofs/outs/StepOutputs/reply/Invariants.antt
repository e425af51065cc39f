use Rattle.std.proofs.Common.{◌≡◌, ◌++◌, ℕ, List, map}
use Rattle.node_core.proofs.outs.StepOutputs.reply.Given as goal

abbrev pub invariant-loop-message : goal.invariant-loop-message
invariant-loop-message l =
    (l.self.replies.items ≡ l.initial.self.replies.items ++ map (λ (m : List ℕ). (l.conn, m)) l.yielded) × (l.self ≡ record l.initial.self { replies = l.self.replies })
