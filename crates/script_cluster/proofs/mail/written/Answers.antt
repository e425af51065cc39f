use Rattle.script_cluster.proofs.Posting.{held_more, held_whole, written_more}
use Rattle.script_cluster.proofs.mail.written.Goals as goal

pub loop-message-preserved : goal.loop-message-preserved
loop-message-preserved c = (
  written_more c.loop-message.letters.items _ c.in_ok-letter_for.field-0 c.args.messages.now c.loop-message.message-index c.message-item.result c.in_ok-push.ensures.items c.in_ok-letter_for.ensures.letter
      c.message-item.is c.loop-message-test.true c.loop-message.invariant.0,
  held_more c.args.messages.now c.loop-message.message-index c.message-item.result c.message-item.is c.loop-message-test.true c.in_ok-letter_for.ensures.hold c.loop-message.invariant.1,
)

pub returns-clause-hold : goal.returns-clause-hold
returns-clause-hold c = held_whole c.args.messages.now c.loop-message.message-index c.loop-message-test.false c.loop-message.invariant.1
