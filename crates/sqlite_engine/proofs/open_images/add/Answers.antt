use Rattle.std.proofs.lemmas.Bool.{cases_cond}
use Rattle.sqlite_engine.proofs.OpenImages.{pushed}
use Rattle.sqlite_engine.proofs.open_images.add.Goals as goal

pub returns : goal.returns
returns c = pushed c.args.list.now.items c.make_room.new.list.items c.push.new.self.items c.args.one c.make_room.ensures.keeps (cases_cond _ _ _ _ c.push.ensures.items)
