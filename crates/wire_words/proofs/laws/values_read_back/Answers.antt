use Rattle.wire_words.proofs.ValueLaws.{value_took, value_again}
use Rattle.wire_words.proofs.laws.values_read_back.Goals as goal

pub returns : goal.returns
returns c = record { spelled = value_took; read = value_again }
