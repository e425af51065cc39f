use Rattle.image_diff.proofs.ComingBack.{noted}
use Rattle.image_diff.proofs.undoing.apply_noted.Goals as goal

pub returns-clause-kept : goal.returns-clause-kept
returns-clause-kept c =
    noted _ _ _ _ _ _ c.args.lengths c.apply_all.result c.requires.change c.requires.lengths c.in_ok-push.ensures.items c.in_ok-undo.ensures c.apply_all.ensures.done c.apply_all.ensures.kept
