use Rattle.std.proofs.Common.{◌≡◌, ◌++◌}
use Rattle.wire_words.specs.Items.{word}
use Rattle.wire_words.specs.Message.{header}
use Rattle.raft_messages.specs.Messages.{what_number, message_schema, what_fields, fields_bytes}
use Rattle.raft_messages.proofs.InTurn.{four}
use Rattle.raft_messages.proofs.writing.put_message.Goals as goal

pub returns-clause-bytes : goal.returns-clause-bytes
returns-clause-bytes c =
    let m = c.args.message.now in
    let first : c.header.new.self ≡ c.args.out.now ++ header 0 (what_number m.what) (message_schema m) = rw (← c.number.ensures, ← c.schema.ensures) c.in_ok-header.ensures in
    four c.put_what.result c.args.out.now c.header.new.self c.word.new.self c.word-2.new.self c.put_what.new.out
    (header 0 (what_number m.what) (message_schema m)) (word m.from) (word m.term)
    (fields_bytes (what_fields m.what)) first c.in_ok-word.ensures c.in_ok-word-2.ensures c.put_what.ensures.bytes
