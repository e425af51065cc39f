use Rattle.sqlite_facts.proofs.SameFrames.{hold_alike}
use Rattle.sqlite_facts.proofs.pages.same_pages.Goals as goal

pub returns : goal.returns
returns c is = hold_alike c.args.main.now c.args.one.now c.args.other.now (c.names_size.ensures (c.if-not-names_size.false)) (c.are_alike.ensures is)
