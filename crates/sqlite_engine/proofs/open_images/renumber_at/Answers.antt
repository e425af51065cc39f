use Rattle.std.proofs.Common.{refl}
use Rattle.sqlite_engine.proofs.OpenImages.{renumbered_knows, renumbered_keeps}
use Rattle.sqlite_engine.proofs.open_images.renumber_at.Goals as goal

pub returns-in-Some-clause-knows : goal.returns-in-Some-clause-knows
returns-in-Some-clause-knows c found =
    renumbered_knows c.args.list.now c.in-Some.at c.args.image.now c.args.number _ c.in-Some.ensures.some.0 refl (c.in-Some.ensures.some.1 c.index-list-at.result)

pub returns-in-Some-clause-keeps : goal.returns-in-Some-clause-keeps
returns-in-Some-clause-keeps c found =
    renumbered_keeps c.args.list.now c.in-Some.at c.args.image.now c.args.number _ c.in-Some.ensures.some.0 refl (c.in-Some.ensures.some.1 c.index-list-at.result)
