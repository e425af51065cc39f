use Rattle.wire_words.proofs.TupleLaws.{width_1, width_4, tuple_took, tuple_again}
use Rattle.wire_words.proofs.laws.params_read_back.Goals as goal

pub returns : goal.returns
returns c = record {
  spelled = tuple_took 1 width_1;
  read = tuple_again 1 width_1;
  wide_spelled = tuple_took 4 width_4;
  wide_read = tuple_again 4 width_4;
}
