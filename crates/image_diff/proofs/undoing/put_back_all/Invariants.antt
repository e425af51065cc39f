use Rattle.std.proofs.Common.{◌≡◌, vec_len}
use Rattle.image_diff.specs.Undoing.{all_undone}
use Rattle.image_diff.proofs.undoing.put_back_all.Given as goal

abbrev pub invariant-loop-undo : goal.invariant-loop-undo
invariant-loop-undo l = all_undone l.undoes.items l.image ≡ all_undone l.initial.undoes.items l.initial.image

abbrev pub decreases-loop-undo : goal.decreases-loop-undo
decreases-loop-undo l = vec_len l.undoes
