use Rattle.folder_tail.proofs.Looking.{found_none, found_some}
use Rattle.folder_tail.proofs.judging.found_tail.Goals as goal

pub returns-in-None-clause-told : goal.returns-in-None-clause-told
returns-in-None-clause-told g c = found_none _ c.args.found c.in-None.is

pub returns-in-Some-clause-told : goal.returns-in-Some-clause-told
returns-in-Some-clause-told g c = found_some _ _ c.args.found c.in-Some.last c.as_slice.result.now c.tail_of.result c.in-Some.is c.as_slice.ensures.value c.tail_of.ensures.told
