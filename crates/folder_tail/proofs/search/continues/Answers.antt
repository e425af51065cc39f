use Rattle.std.proofs.Common.{sym, ◌∙◌}
use Rattle.folder_tail.proofs.HeadReads.{no_head}
use Rattle.folder_tail.proofs.search.continues.Goals as goal

pub returns-in-None : goal.returns-in-None
returns-in-None c = sym (no_head c.args.format c.args.next c.args.lost c.args.bytes.now (sym c.in_ok-head.ensures ∙ c.in-None.is))
