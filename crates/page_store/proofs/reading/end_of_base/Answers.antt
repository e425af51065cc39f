use Rattle.std.proofs.Common.{◌-◌, length, min, ap, ◌∙◌}
use Rattle.page_store.specs.Laying.{length_of}
use Rattle.page_store.proofs.ReadPages.{least_of_file}
use Rattle.page_store.proofs.reading.end_of_base.Goals as goal

pub returns-clause-least : goal.returns-clause-least
returns-clause-least c some = (
  length_of c.args.parity c.least.result,
  least_of_file c.args.parity c.args.log.now.lengths 0 (c.args.count - 1) c.least.result c.least.ensures.main c.least.ensures.side,
  c.min.ensures ∙ ap (min (length c.args.file.now)) c.length_of.ensures,
)
