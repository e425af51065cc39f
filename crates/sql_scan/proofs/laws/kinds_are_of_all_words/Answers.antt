use Rattle.sql_scan.proofs.KindLaw.{kind_is}
use Rattle.sql_scan.proofs.laws.kinds_are_of_all_words.Goals as goal

pub returns : goal.returns
returns c = kind_is
