use Rattle.wire_words.specs.Items.{word, pair}
use Rattle.wire_msgs.proofs.Listed.{second_written}
use Rattle.wire_msgs.proofs.response_fields.pair_word.Goals as goal

pub returns-clause-bytes : goal.returns-clause-bytes
returns-clause-bytes c =
    second_written c.args.out.now c.write_pair.new.out c.write_word.new.out (pair c.args.db c.args.id) (word c.args.params) c.write_word.result c.in_ok-write_pair.ensures.bytes c.write_word.ensures.bytes
