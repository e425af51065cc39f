use Rattle.std.proofs.lemmas.List.Elements.{All-contains_itself}
use Rattle.sqlite_engine.proofs.OpenImages.{removed_from}
use Rattle.sqlite_engine.proofs.texts.make_room.Goals as goal

pub returns-then-len-ge-MAX_TEXTS : goal.returns-then-len-ge-MAX_TEXTS
returns-then-len-ge-MAX_TEXTS c =
    removed_from c.args.texts.now.items c.args.texts.now.items c.remove-first.new.self.items 0 c.remove-first.ensures.items
    (All-contains_itself c.args.texts.now.items)

pub returns-else-len-ge-MAX_TEXTS : goal.returns-else-len-ge-MAX_TEXTS
returns-else-len-ge-MAX_TEXTS c = All-contains_itself c.args.texts.now.items
