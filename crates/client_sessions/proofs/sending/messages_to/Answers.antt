use Rattle.std.proofs.Common.{ℕ, List, [], ◌∷◌, ◌++◌, take, ap, ◌∙◌}
use Rattle.wire_msgs.specs.declared.response.Response.{Response}
use Rattle.wire_msgs.specs.Responses.{IsWritable}
use Rattle.client_sessions.specs.Calls.{sent, sent_to}
use Rattle.client_sessions.proofs.Telling.{item_of_all, mapped_more}
use Rattle.client_sessions.proofs.sending.messages_to.Goals as goal

pub write_response-requires : goal.write_response-requires
write_response-requires c = item_of_all (λ (t : ℕ × Response). IsWritable t.1) c.args.told.now c.loop-item.item-index c.item-item.result c.requires c.loop-item-test.true c.item-item.is

pub loop-item-preserved : goal.loop-item-preserved
loop-item-preserved c =
    c.in_ok-push.ensures.items
    ∙ ap (λ (ms : List (ℕ × List ℕ)). ms ++ (c.item-item.result.0, c.in_ok-write_response.field-0) ∷ []) c.loop-item.invariant
    ∙ ap (λ (b : List ℕ). sent (take c.loop-item.item-index c.args.told.now) ++ (c.item-item.result.0, b) ∷ []) c.in_ok-write_response.ensures.bytes
    ∙ mapped_more sent_to c.args.told.now c.loop-item.item-index c.item-item.result c.loop-item-test.true c.item-item.is
