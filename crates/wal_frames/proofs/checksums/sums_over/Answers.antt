use Rattle.std.proofs.Common.{ℕ, ◌+◌, List, [], drop, refl, sym, ap, ◌∙◌}
use Rattle.std.specs.Prelude.{fold}
use Rattle.std.proofs.lemmas.List.{at_drop_more, at_drop_all}
use Rattle.wal_frames.specs.Checksum.{after_piece, sums_over}
use Rattle.wal_frames.proofs.checksums.sums_over.Goals as goal

pub loop-piece-init : goal.loop-piece-init
loop-piece-init g c = refl

pub loop-piece-preserved : goal.loop-piece-preserved
loop-piece-preserved g c =
    let step = after_piece (λ (word : List ℕ). g.T.ByteOrder.number_of 4 word) in
    let pieces = c.as_chunks.result.0.now in
    let i = c.loop-piece.piece-index in
    let next = at_drop_more (fold step c.loop-piece.sums) pieces i [] c.loop-piece-test.true in
    ap (λ (s : ℕ × ℕ). fold step s (drop (i + 1) pieces)) c.after_piece-sums.ensures ∙ sym next ∙ c.loop-piece.invariant

pub returns : goal.returns
unfolding sums_over
returns g c =
    let step = after_piece (λ (word : List ℕ). g.T.ByteOrder.number_of 4 word) in
    let pieces = c.as_chunks.result.0.now in
    sym (at_drop_all (fold step c.loop-piece.sums) pieces c.loop-piece.piece-index c.loop-piece-test.false)
    ∙ c.loop-piece.invariant ∙ ap (fold step c.args.start) c.as_chunks.ensures.front
