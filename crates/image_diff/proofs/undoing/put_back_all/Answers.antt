use Rattle.std.proofs.Common.{◌≡◌, [], rules}
use Rattle.std.proofs.lemmas.List.{nil_from_length}
use Rattle.image_diff.proofs.ComingBack.{popped, none_left}
use Rattle.image_diff.proofs.undoing.put_back_all.Goals as goal

pub loop-undo-preserved : goal.loop-undo-preserved
loop-undo-preserved c = popped _ _ _ _ _ _ c.in-Some.ensures.items c.put_back.ensures c.loop-undo.invariant

pub returns : goal.returns
returns c =
    let none : c.loop-undo.undoes.items ≡ [] = nil_from_length _ (search rules) in
    none_left _ _ _ none c.loop-undo.invariant
