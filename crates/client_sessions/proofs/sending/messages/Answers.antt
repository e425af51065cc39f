use Rattle.std.proofs.Common.{ℕ, List, [], ◌∷◌, ◌++◌, take, ap, ◌∙◌}
use Rattle.wire_msgs.specs.Responses.{IsWritable, response_bytes}
use Rattle.client_sessions.specs.Calls.{bytes_of}
use Rattle.client_sessions.proofs.Telling.{item_of_all, mapped_more}
use Rattle.client_sessions.proofs.sending.messages.Goals as goal

pub write_response-requires : goal.write_response-requires
write_response-requires c = item_of_all IsWritable c.args.responses.now c.loop-response.response-index c.response-item.result c.requires c.loop-response-test.true c.response-item.is

pub loop-response-preserved : goal.loop-response-preserved
loop-response-preserved c =
    c.in_ok-push.ensures.items
    ∙ ap (λ (ms : List (List ℕ)). ms ++ c.in_ok-write_response.field-0 ∷ []) c.loop-response.invariant
    ∙ ap (λ (b : List ℕ). bytes_of (take c.loop-response.response-index c.args.responses.now) ++ b ∷ []) c.in_ok-write_response.ensures.bytes
    ∙ mapped_more response_bytes c.args.responses.now c.loop-response.response-index c.response-item.result c.loop-response-test.true c.response-item.is
