use Rattle.sql_scan.proofs.Cutting.{cuts, one_cut}
use Rattle.sql_scan.proofs.laws.texts_are_cut_in_one_way.Goals as goal

pub returns : goal.returns
returns c = record { cut = cuts; only = one_cut }
