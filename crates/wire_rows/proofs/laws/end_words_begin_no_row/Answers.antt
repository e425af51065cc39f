use Rattle.wire_rows.proofs.FirstBytes.{not_last, not_follows}
use Rattle.wire_rows.proofs.laws.end_words_begin_no_row.Goals as goal

pub returns : goal.returns
returns c = record { last = not_last; follows = not_follows }
