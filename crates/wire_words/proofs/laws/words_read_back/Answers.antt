use Rattle.wire_words.proofs.ReadBack.{word_took, word_again}
use Rattle.wire_words.proofs.laws.words_read_back.Goals as goal

pub returns : goal.returns
returns c = record { spelled = word_took; read = word_again }
