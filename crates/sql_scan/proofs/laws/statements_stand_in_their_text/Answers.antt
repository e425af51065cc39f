use Rattle.sql_scan.proofs.Standing.{places, order}
use Rattle.sql_scan.proofs.laws.statements_stand_in_their_text.Goals as goal

pub returns : goal.returns
returns c = record { places = places; order = order }
