use Rattle.std.proofs.Common.{sym, ◌∙◌}
use Rattle.folder_tail.proofs.Looking.{walked_is}
use Rattle.folder_tail.proofs.judging.walked.Goals as goal

pub returns-in-Some : goal.returns-in-Some
returns-in-Some c = walked_is _ c.new-read.result c.add_segment.new.self c.in-Some.last c.new-read.ensures c.in_ok-add_segment.ensures (sym c.in-Some.is ∙ c.last_segment.ensures.is)
