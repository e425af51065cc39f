use Rattle.wire_words.proofs.Nul.{text_took, text_again}
use Rattle.wire_words.proofs.laws.texts_read_back.Goals as goal

pub returns : goal.returns
returns c = record { spelled = text_took; read = text_again }
