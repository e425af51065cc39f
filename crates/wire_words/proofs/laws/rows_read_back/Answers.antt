use Rattle.wire_words.proofs.RowLaws.{row_took, row_again}
use Rattle.wire_words.proofs.laws.rows_read_back.Goals as goal

pub returns : goal.returns
returns c = record {
  count = λ count old new vs fits e. (row_took count old new vs fits e).0;
  spelled = λ count old new vs fits e. (row_took count old new vs fits e).1;
  read = row_again;
}
