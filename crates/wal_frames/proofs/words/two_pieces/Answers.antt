use Rattle.std.proofs.Common.{List, ℕ, ◌++◌, replicate, refl, ap₂, ◌∙◌}
use Rattle.wal_frames.proofs.Pairs.{piece_behind}
use Rattle.wal_frames.proofs.words.two_pieces.Goals as goal

pub returns : goal.returns
returns c =
    piece_behind 8 c.copy_from_slice.new.self (replicate 8 0) c.copy_from_slice-2.new.self c.copy_from_slice.ensures.len refl
    ∙ ap₂ (λ (x y : List ℕ). x ++ y) c.copy_from_slice.ensures.after c.copy_from_slice-2.ensures.after
