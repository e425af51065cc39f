use Rattle.std.proofs.Common.{◌∙◌, sym, arith}
use Rattle.raft_messages.specs.Messages.{message_value}
use Rattle.raft_core.proofs.MessageRules.{in_range_is, too_far, without_term, without_sender}
use Rattle.raft_core.proofs.receiving.is_in_range.Goals as goal

pub returns-then-not-is_near : goal.returns-then-not-is_near
returns-then-not-is_near c = too_far c.args.own (message_value c.args.message.now) (sym c.is_near.ensures ∙ c.if-not-is_near.true)

pub returns-then-message-eq0 : goal.returns-then-message-eq0
returns-then-message-eq0 c = without_term c.args.own (message_value c.args.message.now) c.if-message-eq0.true

pub returns-then-message-eq0-2 : goal.returns-then-message-eq0-2
returns-then-message-eq0-2 c = without_sender c.args.own (message_value c.args.message.now) c.if-message-eq0-2.true

pub returns : goal.returns
returns c =
    let t = c.if-message-eq0.false in
    let f = c.if-message-eq0-2.false in
    c.numbers_fit.ensures ∙ in_range_is c.args.own (message_value c.args.message.now) (sym c.is_near.ensures ∙ c.if-not-is_near.false) (omega arith)
    (omega arith)
