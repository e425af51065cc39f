use Rattle.std.proofs.lemmas.List.Elements.{All-contains_itself}
use Rattle.sqlite_engine.proofs.OpenImages.{removed_from}
use Rattle.sqlite_engine.proofs.open_images.take_numbered.Goals as goal

pub returns-in-Some : goal.returns-in-Some
returns-in-Some c =
    removed_from c.args.list.now.items c.args.list.now.items c.remove.new.self.items c.in-Some.at c.remove.ensures.items (All-contains_itself c.args.list.now.items)

pub returns-in-None : goal.returns-in-None
returns-in-None c = All-contains_itself c.args.list.now.items
