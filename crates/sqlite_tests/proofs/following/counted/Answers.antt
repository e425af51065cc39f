use Rattle.sqlite_tests.proofs.Told.{still_told}
use Rattle.sqlite_tests.proofs.following.counted.Goals as goal

pub returns-then-not-is_read : goal.returns-then-not-is_read
returns-then-not-is_read c = still_told c.args.newest.now c.args.commits c.args.works c.args.engine.now.known c.requires
