use Rattle.std.proofs.Common.{rules}
use Rattle.wire_words.specs.Items.{AreBytes}
use Rattle.wire_msgs.specs.Reading.{response_of}
use Rattle.wire_msgs.proofs.ReadBack.{response_is_found, response_is_only}
use Rattle.wire_msgs.proofs.reading.read_response.Goals as goal

pub returns-clause-found : goal.returns-clause-found
unfolding response_of
returns-clause-found c =
    let bytes : AreBytes c.as_slice-body.result.now = λ i. search rules in
    response_is_found c.args.format c.args.message.now c.whole_response.result (rw c.as_slice-body.ensures at bytes) (rw c.as_slice-body.ensures at c.whole_response.ensures.exact)

pub returns-clause-only : goal.returns-clause-only
unfolding response_of
returns-clause-only c = response_is_only c.args.format c.args.message.now c.whole_response.result (rw c.as_slice-body.ensures at c.whole_response.ensures.exact)
