use Rattle.std.proofs.Common.{length}
use Rattle.wire_words.specs.Items.{word}
use Rattle.raft_messages.specs.Entries.{heads_bytes, contents_bytes}
use Rattle.raft_messages.proofs.InTurn.{three}
use Rattle.raft_messages.proofs.writing.put_entries.Goals as goal

pub returns-clause-bytes : goal.returns-clause-bytes
returns-clause-bytes c =
    let es = c.args.entries.now in
    three c.write_entry_contents.result c.args.out.now c.word.new.self c.write_entry_heads.new.out c.write_entry_contents.new.out (word (length es)) (heads_bytes es) (contents_bytes es) c.in_ok-word.ensures c.in_ok-write_entry_heads.ensures.bytes c.write_entry_contents.ensures
