use Rattle.wire_words.proofs.Padding.{raw_took, raw_again}
use Rattle.wire_words.proofs.laws.raw_reads_back.Goals as goal

pub returns : goal.returns
returns c = record {
  size = λ size old new bytes e. (raw_took size old new bytes e).0;
  spelled = λ size old new bytes e. (raw_took size old new bytes e).1;
  read = raw_again;
}
