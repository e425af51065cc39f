use Rattle.std.proofs.Common.{rules}
use Rattle.wire_words.specs.Items.{AreBytes}
use Rattle.raft_messages.proofs.MessageLaws.{is_found, is_only}
use Rattle.raft_messages.proofs.reading.read_message.Goals as goal

pub returns-clause-found : goal.returns-clause-found
returns-clause-found c =
    let bytes : AreBytes c.as_slice-body.result.now = λ i. search rules in
    is_found c.args.to c.args.message.now c.whole_message.result (rw c.as_slice-body.ensures at bytes) (rw c.as_slice-body.ensures at c.whole_message.ensures)

pub returns-clause-only : goal.returns-clause-only
returns-clause-only c = is_only c.args.to c.args.message.now c.whole_message.result (rw c.as_slice-body.ensures at c.whole_message.ensures)
