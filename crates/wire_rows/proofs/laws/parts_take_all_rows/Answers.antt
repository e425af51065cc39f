use Rattle.wire_rows.proofs.GreedyLaws.{all_rows, all_greedy}
use Rattle.wire_rows.proofs.laws.parts_take_all_rows.Goals as goal

pub returns : goal.returns
returns c = record { all = all_rows; greedy = all_greedy }
