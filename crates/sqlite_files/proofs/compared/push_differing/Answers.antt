use Rattle.std.proofs.Common.{ℕ, List, sym, ap, ◌∙◌}
use Rattle.sqlite_files.specs.Pairs.{both, piece_of}
use Rattle.sqlite_files.proofs.TakenPages.{changed_none}
use Rattle.sqlite_files.proofs.ComparedPages.{two_more_compared}
use Rattle.sqlite_files.proofs.compared.push_differing.Goals as goal

pub loop-index-init : goal.loop-index-init
loop-index-init c = c.requires ∙ sym (changed_none c.args.before.now (both c.args.main.now c.args.side.now) 2)

pub loop-index-preserved : goal.loop-index-preserved
loop-index-preserved c =
    let index : ℕ = c.loop-index.index in
    two_more_compared c.args.before.now (both c.args.main.now c.args.side.now) index _ _ _ _ _ _ _
    (c.piece.ensures.bytes ∙ ap (λ (file : List ℕ). piece_of file index) c.as_slice-main_before.ensures)
    c.piece-in-loop-index.ensures.bytes
    (c.piece-in-loop-index-2.ensures.bytes ∙ ap (λ (file : List ℕ). piece_of file index) c.as_slice-side_before.ensures)
    c.piece-in-loop-index-3.ensures.bytes
    c.loop-index.invariant c.in_ok-push_piece.ensures c.in_ok-push_piece-2.ensures
