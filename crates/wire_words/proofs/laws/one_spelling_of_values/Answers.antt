use Rattle.wire_words.proofs.SpellingLaws.{tuple_spelled, tuple_only, tuple_accepted, row_spelled, row_only}
use Rattle.wire_words.proofs.laws.one_spelling_of_values.Goals as goal

pub returns : goal.returns
returns c = record {
  params = tuple_spelled 1;
  only_params = tuple_only 1;
  read_params = tuple_accepted 1;
  params_wide = tuple_spelled 4;
  only_params_wide = tuple_only 4;
  read_params_wide = tuple_accepted 4;
  row = row_spelled;
  only_row = row_only;
}
