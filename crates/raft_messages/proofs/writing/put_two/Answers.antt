use Rattle.wire_words.specs.Items.{word}
use Rattle.raft_messages.proofs.InTurn.{on_ok, two}
use Rattle.raft_messages.proofs.writing.put_two.Goals as goal

pub returns : goal.returns
returns c =
    two c.word-2.result c.args.out.now c.word.new.self c.word-2.new.self (word c.args.first) (word c.args.second) c.in_ok-word.ensures (on_ok c.word-2.result c.word.new.self c.word-2.new.self (word c.args.second) c.word-2.ensures)
