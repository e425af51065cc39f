use Rattle.std.proofs.Common.{◌∙◌, ℕ, sym, ap, arith}
use Rattle.std.proofs.lemmas.Bool.{lt-ltb, le-ltb}
use Rattle.raft_spec.specs.NodeValues.{node_of}
use Rattle.raft_spec.specs.Receiving.{in_range, on_message}
use Rattle.raft_messages.specs.Messages.{message_value}
use Rattle.raft_core.specs.Nodes.{told}
use Rattle.raft_core.proofs.VoteRules.{effects_are, if_ok}
use Rattle.raft_core.proofs.EndRules.{ends_of}
use Rattle.raft_core.proofs.MessageRules.{message_ignored, message_older, message_taken, what_fits}
use Rattle.raft_core.proofs.node.RaftNode.on_message.Goals as goal

pub returns-then-not-is_in_range-clause-outcome : goal.returns-then-not-is_in_range-clause-outcome
returns-then-not-is_in_range-clause-outcome c =
    let h = c.args.self.now in
    let m = message_value c.args.message in
    ends_of h h (on_message (told h) h.id (node_of h) m) c.says.result (effects_are h h (on_message (told h) h.id (node_of h) m) c.says.result _ c.says.ensures (message_ignored h m (ap (λ (t : ℕ). in_range t m) (sym c.term-own.ensures) ∙ sym c.is_in_range.ensures ∙ c.if-not-is_in_range.true)))

pub returns-then-message-own-clause-outcome : goal.returns-then-message-own-clause-outcome
returns-then-message-own-clause-outcome c =
    let h = c.args.self.now in
    let m = message_value c.args.message in
    let at = c.term-own.ensures in
    let less = c.if-message-own.true in
    ends_of h h (on_message (told h) h.id (node_of h) m) c.on_older_term.result (message_older h m c.on_older_term.result (ap (λ (t : ℕ). in_range t m) (sym at) ∙ sym c.is_in_range.ensures ∙ c.if-not-is_in_range.false) (lt-ltb m.term h.term (omega arith)) c.on_older_term.ensures)

pub on_own_term-requires : goal.on_own_term-requires
on_own_term-requires c = what_fits c.term-own.result (message_value c.args.message) (sym c.is_in_range.ensures ∙ c.if-not-is_in_range.false)

pub returns-clause-outcome : goal.returns-clause-outcome
returns-clause-outcome c =
    let h = c.args.self.now in
    let m = message_value c.args.message in
    let at = c.term-own.ensures in
    let more = c.if-message-own.false in
    if_ok c.on_own_term.result _ _ c.on_own_term.ensures.outcome (λ e x. message_taken h c.hear_term.new.self c.on_own_term.new.self m e (ap (λ (t : ℕ). in_range t m) (sym at) ∙ sym c.is_in_range.ensures ∙ c.if-not-is_in_range.false) (le-ltb m.term h.term (omega arith)) c.hear_term.ensures x)
