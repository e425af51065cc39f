use Rattle.wire_rows.proofs.ReadBack.{part_again, answer_again}
use Rattle.wire_rows.proofs.laws.parts_read_back.Goals as goal

pub returns : goal.returns
returns c = record { part = part_again; answer = answer_again }
