use Rattle.std.proofs.Common.{◌≡◌, ◌≤◌, ◌≢◌, length, eqb, Option, Ok, sym, ap, ◌∙◌, arith}
use Rattle.wire_words.specs.declared.message.Message.{Message}
use Rattle.wire_words.specs.Reading.{unread}
use Rattle.wire_msgs.specs.declared.request.RequestKind.{RequestKind}
use Rattle.wire_msgs.specs.Kinds.{request_top_schema}
use Rattle.wire_msgs.specs.Bodies.{request_at}
use Rattle.wire_msgs.specs.Reading.{request_in, words_in}
use Rattle.wire_msgs.proofs.Messages.{tail_left}
use Rattle.wire_msgs.proofs.reading.whole_request.Goals as goal

pub returns-then-left-ne0-clause-exact : goal.returns-then-left-ne0-clause-exact
returns-then-left-ne0-clause-exact c =
    let m : Message = record { kind = c.args.number; schema = c.args.schema; body = c.args.body.now } in
    let kind = c.in-Some.kind in
    let below : c.args.schema ≤ request_top_schema kind = omega (arith, c.if-schema-top_schema.false, c.top_schema.ensures) in
    let fields : request_at kind (eqb c.args.schema 1) (unread c.args.body.now) ≡ Ok (c.in_ok-request.request, c.request.new.words) = rw (← c.new-words.ensures) c.in_ok-request.ensures.exact in
    let more : length c.request.new.words.bytes ≢ 0 = omega (arith, c.if-left-ne0.true, c.left-left.ensures) in
    let size : c.div_ceil.result ≡ words_in (length c.request.new.words.bytes) = omega (arith, c.div_ceil.ensures, c.left-left.ensures) in
    ap (λ (k : Option RequestKind). request_in k m) (sym c.in-Some.ensures) ∙ tail_left (request_top_schema kind) (request_at kind) m c.in_ok-request.request c.request.new.words c.div_ceil.result below fields more size
