use Rattle.log_commands.specs.Spelling.{head}
use Rattle.wire_words.specs.Items.{word}
use Rattle.log_commands.proofs.InTurn.{and_then}
use Rattle.log_commands.proofs.writing.put_undo.Goals as goal

pub returns-clause-bytes : goal.returns-clause-bytes
returns-clause-bytes c = and_then c.args.out.now c.raw.new.self (head 3) (word c.args.tx) c.word.new.self c.in_ok-raw.ensures c.in_ok-word.ensures
