use Rattle.segment_store.proofs.LoadLists.{takes_file, takes_other}
use Rattle.segment_store.proofs.loading.list.take_name.Goals as goal

pub returns-in-Some : goal.returns-in-Some
returns-in-Some c = takes_file c.args.name.now c.in-Some.file c.file_named.result c.args.list.now c.add.new.self c.add.result c.file_named.ensures c.in-Some.is c.add.ensures

pub returns-in-None : goal.returns-in-None
returns-in-None c = takes_other c.args.name.now c.file_named.result c.args.list.now c.file_named.ensures c.in-None.is
