use Rattle.folder_tail.proofs.Greatest.{takes_other, number_named}
use Rattle.folder_tail.proofs.folder.later.Goals as goal

pub returns-in-None : goal.returns-in-None
returns-in-None c = takes_other c.args.name.now c.as_str.result.now c.segment_number.result c.args.best c.as_str.ensures.value c.in-None.is c.segment_number.ensures

pub later_of-requires : goal.later_of-requires
later_of-requires c = number_named c.args.name.now c.as_str.result.now c.segment_number.result c.in-Some.number c.as_str.ensures.value c.in-Some.is c.segment_number.ensures
