use Rattle.std.proofs.Common.{length, ap, arith}
use Rattle.std.proofs.lemmas.List.{length-drop}
use Rattle.std.proofs.lemmas.List.Elements.{All-contains_itself}
use Rattle.sqlite_engine.proofs.OpenImages.{removed_from}
use Rattle.sqlite_engine.proofs.open_images.make_room.Goals as goal

pub loop-init : goal.loop-init
loop-init c = (All-contains_itself c.args.list.now.items, omega (arith, c.len-end.ensures))

pub loop-preserved : goal.loop-preserved
loop-preserved c = (
  removed_from c.args.list.now.items c.loop.list.items c.remove-oldest.new.self.items 0 c.remove-oldest.ensures.items c.loop.invariant.0,
  omega (arith, ap length c.remove-oldest.ensures.items, length-drop 1 c.loop.list.items, c.loop.invariant.1),
)
