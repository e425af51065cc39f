use Rattle.folder_tail.proofs.HeadReads.{some_batch}
use Rattle.folder_tail.proofs.search.begins_with_batch.Goals as goal

pub returns : goal.returns
returns c = some_batch c.args.format c.args.bytes.now c.in_ok-found.found _ c.in_ok-found.ensures.found c.in_ok-found.ensures.some c.is_some.ensures
