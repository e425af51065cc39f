use Rattle.std.proofs.Common.{ap, length, ◌∙◌, arith}
use Rattle.wire_words.proofs.RowLaws.{split_length}
use Rattle.wire_words.proofs.values.row_head.Goals as goal

pub types_of_row-requires : goal.types_of_row-requires
types_of_row-requires c =
    omega (arith, ap length (c.deref.ensures.value ∙ c.in_ok-halves.ensures), split_length c.in_ok-head.head.now, c.in_ok-head.ensures.size, c.row_head_len.ensures)
