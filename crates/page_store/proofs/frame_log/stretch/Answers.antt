use Rattle.std.proofs.Common.{◌≡◌, ℕ, ◌+◌, ◌-◌, ◌<◌, ◌≤◌, List, length, ap, subst, refl, arith}
use Rattle.std.specs.Prelude.{slice_index_or}
use Rattle.page_store.specs.declared.frame_log.Frame.{Frame}
use Rattle.page_store.specs.Laying.{length_of, length_at}
use Rattle.page_store.specs.Log.{lengths_of, LooksBack, AllLookBack}
use Rattle.page_store.proofs.LeastLengths.{Least, least_at, least_one}
use Rattle.page_store.proofs.FramesKept.{frame_lengths}
use Rattle.page_store.proofs.frame_log.stretch.Goals as goal

frame_looks : (frames : List Frame) (f : Frame) (first end : ℕ) → AllLookBack frames → first < end → end ≤ length frames → f ≡ slice_index_or frames (end - 1) f → LooksBack (lengths_of frames) (end - 1) f.back f.least
frame_looks frames f first end looks order within is = looks (end - 1) f (omega arith) is

pub returns-then-frame-end-clause-from_one : goal.returns-then-frame-end-clause-from_one
returns-then-frame-end-clause-from_one c =
    (frame_looks c.args.frames.now.items c.index-frame.result.now c.args.first c.args.end c.requires.look_back c.requires.order c.requires.within c.index-frame.ensures).from_one

pub returns-then-frame-end-clause-main : goal.returns-then-frame-end-clause-main
returns-then-frame-end-clause-main c =
    let f = c.index-frame.result.now in
    let end = c.args.end in
    let looks = frame_looks c.args.frames.now.items f c.args.first end c.requires.look_back c.requires.order c.requires.within c.index-frame.ensures in
    least_at (length_at 0 (lengths_of c.args.frames.now.items)) (end - 1 + 1 - f.back) (end - 1) (end - f.back) (end - 1) f.least.main (omega (arith, c.requires.order)) refl (looks.main (omega (arith, c.if-frame-end.true, c.requires.order)))

pub returns-then-frame-end-clause-side : goal.returns-then-frame-end-clause-side
returns-then-frame-end-clause-side c =
    let f = c.index-frame.result.now in
    let end = c.args.end in
    let looks = frame_looks c.args.frames.now.items f c.args.first end c.requires.look_back c.requires.order c.requires.within c.index-frame.ensures in
    least_at (length_at 1 (lengths_of c.args.frames.now.items)) (end - 1 + 1 - f.back) (end - 1) (end - f.back) (end - 1) f.least.side (omega (arith, c.requires.order)) refl (looks.side (omega (arith, c.if-frame-end.true, c.requires.order)))

alone : (frames : List Frame) (f : Frame) (parity first end : ℕ) → first < end → end ≤ length frames → f ≡ slice_index_or frames (end - 1) f → Least (length_at parity (lengths_of frames)) (end - 1) (end - 1) (length_of parity f.lengths)
alone frames f parity first end order within is =
    subst (Least (length_at parity (lengths_of frames)) (end - 1) (end - 1)) (ap (length_of parity) (frame_lengths frames (end - 1) f (omega arith) is)) (least_one (length_at parity (lengths_of frames)) (end - 1))

pub returns-else-frame-end-clause-main : goal.returns-else-frame-end-clause-main
returns-else-frame-end-clause-main c = alone c.args.frames.now.items c.index-frame.result.now 0 c.args.first c.args.end c.requires.order c.requires.within c.index-frame.ensures

pub returns-else-frame-end-clause-side : goal.returns-else-frame-end-clause-side
returns-else-frame-end-clause-side c = alone c.args.frames.now.items c.index-frame.result.now 1 c.args.first c.args.end c.requires.order c.requires.within c.index-frame.ensures
