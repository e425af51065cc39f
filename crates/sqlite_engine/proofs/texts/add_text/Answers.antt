use Rattle.std.proofs.lemmas.Bool.{cases_cond}
use Rattle.sqlite_engine.proofs.OpenImages.{pushed}
use Rattle.sqlite_engine.proofs.texts.add_text.Goals as goal

pub returns : goal.returns
returns c =
    pushed c.args.texts.now.items c.make_room.new.texts.items c.push.new.self.items c.args.own c.make_room.ensures
    (cases_cond _ _ _ _ c.push.ensures.items)
