use Rattle.std.proofs.Common.{◌≡◌, ◌+◌, List, length, get_or, ap, ◌∙◌}
use Rattle.wire_words.specs.declared.value.Value.{Value}
use Rattle.wire_words.specs.Values.{row}
use Rattle.wire_rows.specs.Answering.{held}
use Rattle.wire_rows.proofs.Greedy.{size_with, size_more, first_at}
use Rattle.wire_rows.proofs.columns.Columns.first_count.Goals as goal

pub returns-then-size-gt-MAX_PART_BYTES : goal.returns-then-size-gt-MAX_PART_BYTES
returns-then-size-gt-MAX_PART_BYTES c =
    let names = c.args.self.now.names.now in
    let rows = c.args.rows.now in
    let i = c.loop-count.count in
    let item = c.index-rows-count.result in
    let sized : c.row_size.result ≡ held (length (row (get_or rows i item))) = c.row_size.ensures ∙ ap (λ (v : List Value). held (length (row v))) (c.values.ensures ∙ c.index-rows-count.is) in
    let step = rw (sized, c.loop-count.invariant.0) at c.saturating_add-size-in-loop-count.ensures in
    let added : c.saturating_add-size-in-loop-count.result ≡ held (size_with names rows (i + 1)) = step ∙ size_more names rows i item c.loop-count-test.true in
    c.max.ensures ∙ first_at names rows i c.loop-count.size c.saturating_add-size-in-loop-count.result c.loop-count-test.true c.loop-count.invariant.0 c.loop-count.invariant.1 added c.if-size-gt-MAX_PART_BYTES.true
