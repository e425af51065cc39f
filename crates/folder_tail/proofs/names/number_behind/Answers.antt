use Rattle.segment_store.proofs.LoadNames.{not_sixteen, number_found}
use Rattle.folder_tail.proofs.names.number_behind.Goals as goal

pub returns-then-digits-eq16 : goal.returns-then-digits-eq16
returns-then-digits-eq16 c = number_found c.args.kind.now c.args.text.now c.in_ok-digits.digits.now c.number_in.result c.in_ok-digits.ensures c.if-digits-eq16.true c.number_in.ensures

pub returns : goal.returns
returns c = λ n small is. not_sixteen c.args.kind.now c.args.text.now c.in_ok-digits.digits.now c.in_ok-digits.ensures c.if-digits-eq16.false n small is
