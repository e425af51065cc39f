use Rattle.sql_scan.proofs.SentenceLaw.{ended, last, none, none_more}
use Rattle.sql_scan.proofs.laws.statements_are_of_their_tokens.Goals as goal

pub returns : goal.returns
returns c = record { ended = ended; last = last; none = none; none_more = none_more }
