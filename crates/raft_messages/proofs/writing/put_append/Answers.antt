use Rattle.std.proofs.Common.{◌++◌}
use Rattle.wire_words.specs.Items.{word}
use Rattle.raft_messages.specs.Messages.{Entries, field_bytes}
use Rattle.raft_messages.proofs.InTurn.{three}
use Rattle.raft_messages.proofs.writing.put_append.Goals as goal

pub returns-clause-bytes : goal.returns-clause-bytes
returns-clause-bytes c =
    let prev = c.args.prev.now in
    three c.put_entries.result c.args.out.now c.put_log_end.new.out c.word.new.self c.put_entries.new.out (word prev.index ++ word prev.term) (word c.args.commit) (field_bytes (Entries c.args.entries.now)) c.in_ok-put_log_end.ensures.bytes c.in_ok-word.ensures c.put_entries.ensures.bytes
