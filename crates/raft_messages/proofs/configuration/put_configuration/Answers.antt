use Rattle.std.proofs.Common.{length}
use Rattle.wire_words.specs.Items.{word}
use Rattle.raft_messages.specs.Servers.{each_bytes}
use Rattle.raft_messages.proofs.InTurn.{two}
use Rattle.raft_messages.proofs.configuration.put_configuration.Goals as goal

pub returns-clause-bytes : goal.returns-clause-bytes
returns-clause-bytes c =
    let ss = c.args.servers.now in
    two c.put_servers.result c.args.out.now c.word.new.self c.put_servers.new.out (word (length ss)) (each_bytes ss) c.in_ok-word.ensures c.put_servers.ensures.bytes
