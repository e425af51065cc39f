use Rattle.wire_words.specs.Items.{word, pair}
use Rattle.wire_words.specs.Writing.{AppendsOrKeeps}
use Rattle.raft_messages.specs.Kinds.{kind_code}
use Rattle.raft_messages.proofs.InTurn.{on_ok, two}
use Rattle.raft_messages.proofs.entries.write_head_words.Goals as goal

pub returns : goal.returns
returns c =
    let half = pair (kind_code c.args.kind) c.args.size in
    let last : AppendsOrKeeps c.word.new.self c.pair.new.self half c.pair.result = rw (← c.kind_half.ensures) c.pair.ensures in
    two c.pair.result c.args.out.now c.word.new.self c.pair.new.self (word c.args.term) half c.in_ok-word.ensures (on_ok c.pair.result c.word.new.self c.pair.new.self half last)
