use Rattle.std.proofs.Common.{◌≡◌, ◌++◌}
use Rattle.std.specs.Prelude.{OnOk}
use Rattle.wire_words.specs.Items.{word, blob}
use Rattle.raft_messages.proofs.InTurn.{three}
use Rattle.raft_messages.proofs.writing.put_snapshot.Goals as goal

pub returns-clause-bytes : goal.returns-clause-bytes
returns-clause-bytes c =
    let s = c.args.snapshot.now in
    let last : OnOk c.put_blob.result (c.put_blob.new.out ≡ c.word-2.new.self ++ blob s.bytes) = rw (← c.as_slice.ensures) c.put_blob.ensures.bytes in
    three c.put_blob.result c.args.out.now c.word.new.self c.word-2.new.self c.put_blob.new.out (word s.index) (word s.term) (blob s.bytes) c.in_ok-word.ensures c.in_ok-word-2.ensures last
