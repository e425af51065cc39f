use Rattle.std.proofs.Common.{refl, sym, ◌∙◌}
use Rattle.folder_tail.proofs.Greatest.{takes_less, takes_greater}
use Rattle.folder_tail.proofs.folder.later_of.Goals as goal

pub returns-then-not-after : goal.returns-then-not-after
returns-then-not-after c = takes_less c.args.name.now c.args.number c.args.best c.requires (sym c.is_after-after.ensures ∙ c.if-not-after.true)

pub returns : goal.returns
returns c = takes_greater c.args.name.now c.args.number c.args.best _ c.requires refl c.in_ok-name.ensures (sym c.is_after-after.ensures ∙ c.if-not-after.false)
