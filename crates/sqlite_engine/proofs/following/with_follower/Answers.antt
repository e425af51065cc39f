use Rattle.sqlite_engine.specs.Keeping.{known_in}
use Rattle.sqlite_engine.proofs.OpenImages.{still_beside}
use Rattle.sqlite_engine.proofs.following.with_follower.Goals as goal

pub returns-in_default-clause-known : goal.returns-in_default-clause-known
returns-in_default-clause-known c = still_beside c.args.image.now c.args.number (known_in c.args.list.now.items)
