use Rattle.wire_words.proofs.Prefix.{stand_apart, no_prefix}
use Rattle.wire_words.proofs.laws.messages_stand_apart.Goals as goal

pub returns : goal.returns
returns c = record { same = stand_apart; prefix = no_prefix }
