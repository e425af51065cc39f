use Rattle.std.proofs.Common.{◌≡◌, drop}
use Rattle.std.specs.Prelude.{fold}
use Rattle.wal_frames.specs.Checksum.{after_piece}
use Rattle.wal_frames.proofs.checksums.sums_over.Given as goal

-- what is left of the pieces leads to the sums of all
abbrev pub invariant-loop-piece : goal.invariant-loop-piece
invariant-loop-piece g l =
    let step = after_piece (λ word. g.T.ByteOrder.number_of 4 word) in
    fold step l.sums (drop l.piece-index l.pieces) ≡ fold step l.fn.start l.pieces
