use Rattle.std.proofs.Common.{ℕ, List, ◌++◌, map, ap, ◌∙◌}
use Rattle.wire_msgs.specs.declared.response.Response.{Response}
use Rattle.session_spec.specs.Sessions.{responses_of}
use Rattle.session_table.specs.Named.{reply_named}
use Rattle.session_table.specs.Sweeping.{told_in}
use Rattle.session_gateway.specs.declared.act.Act.TheVariants as acts
use Rattle.session_gateway.proofs.Carried.{stripped}
use Rattle.session_gateway.proofs.carrying.answered.Goals as goal

pub returns : goal.returns
returns c =
    ap acts.Reply (c.new.ensures ∙ c.in_ok-responses.ensures
    ∙ ap (map (λ (one : ℕ × Response). one.1)) (c.from_vec.ensures.items ∙ c.tell.ensures.items ∙ ap (λ (said : List (ℕ × Response)). said ++ told_in (0, reply_named c.args.reply)) c.in_ok-said.ensures.items)
    ∙ stripped 0 (responses_of (reply_named c.args.reply)))
