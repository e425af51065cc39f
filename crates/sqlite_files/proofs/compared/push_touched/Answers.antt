use Rattle.std.proofs.Common.{ℕ, ◌+◌, ◌-◌, List, refl, sym, ap, ◌∙◌, arith}
use Rattle.dq_base.specs.declared.images.Image.{Image}
use Rattle.sqlite_files.specs.Pairs.{both, piece_of, page_of}
use Rattle.sqlite_files.proofs.TakenPages.{changed_none}
use Rattle.sqlite_files.proofs.ComparedPages.{two_more_compared}
use Rattle.sqlite_files.proofs.StampedPages.{main_piece_same, side_piece_same, skipped}
use Rattle.sqlite_files.proofs.compared.push_touched.Goals as goal

pub loop-index-init : goal.loop-index-init
loop-index-init c =
    let after : Image = both c.args.main.now.bytes.now c.args.side.now.bytes.now in
    let next = c.next_of_both-index in
    record {
      within = next.ensures.end;
      pages = c.requires.empty ∙ sym (changed_none c.args.before.now after 2)
          ∙ sym (skipped c.args.before.now after _ _ c.requires.main c.requires.side 0 next.result next.result
          (omega arith) next.ensures.main next.ensures.side);
    }

pub push_since-requires-clause-same : goal.push_since-requires-clause-same
push_since-requires-clause-same c clean =
    let index : ℕ = c.loop-index.index in
    ap (λ (file : List ℕ). page_of (piece_of file index)) c.as_slice-main_before.ensures
    ∙ main_piece_same c.args.before.now (both c.args.main.now.bytes.now c.args.side.now.bytes.now) index _ c.requires.main clean

pub push_since-requires-in-loop-index-clause-same : goal.push_since-requires-in-loop-index-clause-same
push_since-requires-in-loop-index-clause-same c clean =
    let index : ℕ = c.loop-index.index in
    ap (λ (file : List ℕ). page_of (piece_of file index)) c.as_slice-side_before.ensures
    ∙ side_piece_same c.args.before.now (both c.args.main.now.bytes.now c.args.side.now.bytes.now) index _ c.requires.side clean

pub loop-index-preserved : goal.loop-index-preserved
loop-index-preserved c =
    let index : ℕ = c.loop-index.index in
    let after : Image = both c.args.main.now.bytes.now c.args.side.now.bytes.now in
    let next = c.next_of_both-index-in-loop-index in
    let pushed = two_more_compared c.args.before.now after index _ _ _ _ _ _ _
    (ap (λ (file : List ℕ). piece_of file index) c.as_slice-main_before.ensures) refl
    (ap (λ (file : List ℕ). piece_of file index) c.as_slice-side_before.ensures) refl
    c.loop-index.invariant.pages c.in_ok-push_since.ensures c.in_ok-push_since-2.ensures in
    record {
      within = next.ensures.end;
      pages = pushed ∙ sym (skipped c.args.before.now after _ _ c.requires.main c.requires.side (index + 1) (next.result - (index + 1)) next.result
          (omega (arith, next.ensures.from)) next.ensures.main next.ensures.side);
    }
