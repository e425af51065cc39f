use Rattle.store_format.proofs.Runs.{no_format, format_long, in_log}
use Rattle.store_format.proofs.segment.take_segment.Goals as goal

pub returns-then-format-eq0 : goal.returns-then-format-eq0
returns-then-format-eq0 c = no_format c.args.bytes.now c.args.log.now c.format_in-format.result c.format_in-format.ensures c.if-format-eq0.true

pub take_batches-requires : goal.take_batches-requires
take_batches-requires c = format_long c.args.bytes.now c.format_in-format.result c.format_in-format.ensures c.if-format-eq0.false

pub returns : goal.returns
returns c = in_log c.args.bytes.now c.args.log.now c.take_batches.new.log c.format_in-format.result c.take_batches.result c.format_in-format.ensures c.if-format-eq0.false c.take_batches.ensures
