use Rattle.wire_words.proofs.ReadBack.{pair_took, pair_again}
use Rattle.wire_words.proofs.laws.pairs_read_back.Goals as goal

pub returns : goal.returns
returns c = record { spelled = pair_took; read = pair_again }
