use Rattle.std.proofs.Common.{◌≡◌, ℕ, ◌+◌, List, [], ◌∷◌, ◌++◌, take, sym, ap, subst, ◌∙◌}
use Rattle.std.proofs.lemmas.List.{take_all, take_more}
use Rattle.wal_frames.specs.declared.frame.Frame.{Frame}
use Rattle.wal_frames.specs.Text.{wal}
use Rattle.wal_frames.specs.Writing.{Wrote}
use Rattle.wal_frames.proofs.writer.write_wal.Goals as goal

pub loop-frame-init : goal.loop-frame-init
loop-frame-init c =
    let P : List ℕ → Type 0 = λ start. Wrote start c.args.sequence [] c.begin.new.out.items c.in_ok-writer.writer in
    subst P c.in_ok-out.ensures.items c.in_ok-writer.ensures.ok

pub loop-frame-preserved : goal.loop-frame-preserved
loop-frame-preserved c =
    let frames = c.args.frames.now in
    let i = c.loop-frame.frame-index in
    let item = c.frame-item.result in
    let P : List Frame → Type 0 = λ fs. Wrote [] c.args.sequence fs c.frame.new.out.items c.frame.new.self in
    let more : take i frames ++ item ∷ [] ≡ take (i + 1) frames = ap (λ (f : Frame). take i frames ++ f ∷ []) c.frame-item.is ∙ sym (take_more frames i item c.loop-frame-test.true) in
    subst P more (c.in_ok-frame.ensures.ok [] c.args.sequence (take i frames) c.loop-frame.invariant)

pub returns : goal.returns
returns c =
    let frames = c.args.frames.now in
    c.new.ensures ∙ c.loop-frame.invariant.text ∙ ap (wal c.args.sequence) (take_all c.loop-frame.frame-index frames c.loop-frame-test.false)
