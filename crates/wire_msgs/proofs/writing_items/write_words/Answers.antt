use Rattle.wire_words.specs.Items.{word}
use Rattle.wire_msgs.proofs.Listed.{second_written}
use Rattle.wire_msgs.proofs.writing_items.write_words.Goals as goal

pub returns-clause-bytes : goal.returns-clause-bytes
returns-clause-bytes c =
    second_written c.args.out.now c.write_word.new.out c.write_word-2.new.out (word c.args.first) (word c.args.second) c.write_word-2.result c.in_ok-write_word.ensures.bytes c.write_word-2.ensures.bytes
