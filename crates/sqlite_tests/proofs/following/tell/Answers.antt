use Rattle.sqlite_tests.proofs.Told.{may_tell, told_of_newest}
use Rattle.sqlite_tests.proofs.following.tell.Goals as goal

pub ready-requires : goal.ready-requires
ready-requires c = record { number = may_tell c.args.before.now c.args.commits c.args.works c.args.newest.now c.args.engine.now.known c.requires.told }

pub returns : goal.returns
returns c = told_of_newest c.args.before.now c.args.newest.now c.args.commits c.args.works c.args.engine.now.known c.ready.new.self.known c.requires.told c.ready.ensures.known
