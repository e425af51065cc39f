use Rattle.sqlite_tests.proofs.Told.{may_run, told_by_run}
use Rattle.sqlite_tests.proofs.following.run.Goals as goal

pub run-requires : goal.run-requires
run-requires c = record { numbers = may_run c.args.newest.now c.args.commits c.args.works c.args.engine.now.known c.requires }

pub returns : goal.returns
returns c = told_by_run c.args.newest.now c.args.commits c.args.works c.run.result c.args.engine.now.known c.run.new.self.known c.requires c.run.ensures.known
