use Rattle.std.proofs.Common.{refl}
use Rattle.wire_words.proofs.Padding.{raw_is_padded, padded_is_raw}
use Rattle.wire_words.proofs.Nul.{text_is_spelled, spelled_is_text}
use Rattle.wire_words.proofs.laws.one_spelling.Goals as goal

pub returns : goal.returns
returns c = record {
  word = λ n fits. record { fits = fits; parts = refl };
  only_word = λ n bytes spelled. spelled.parts;
  pair = λ first second low high. record { first_fits = low; second_fits = high; parts = refl };
  only_pair = λ first second bytes spelled. spelled.parts;
  text = text_is_spelled;
  only_text = spelled_is_text;
  raw = raw_is_padded;
  only_raw = padded_is_raw;
}
