use Rattle.std.proofs.Common.{List, [], ◌∷◌, ◌++◌, sym, ap, subst, ◌∙◌}
use Rattle.wal_frames.specs.declared.frame.Frame.{Frame}
use Rattle.wal_frames.specs.Valid.{Reading, TookAll}
use Rattle.wal_frames.proofs.FrameLaws.{Took-shorter}
use Rattle.wal_frames.proofs.LogLaws.{TookAll-none, TookAll-more}
use Rattle.wal_frames.proofs.reading.all_frames.Goals as goal

pub frames-init : goal.frames-init
frames-init c =
    let P : List Frame → Type 0 = λ fs. TookAll c.args.reader.now fs c.args.reader.now in
    subst P (sym c.in_ok-frames.ensures.items) (TookAll-none c.args.reader.now)

pub frames-smaller : goal.frames-smaller
frames-smaller c = Took-shorter _ _ _ c.in-Some.ensures.found

pub frames-preserved : goal.frames-preserved
frames-preserved c =
    let now = c.next_frame.new.self in
    let P : List Frame → Type 0 = λ fs. TookAll c.args.reader.now fs now in
    let more = TookAll-more _ _ _ _ _ c.frames.invariant c.in-Some.ensures.found in
    let grown = c.in_ok-push.ensures.items ∙ ap (λ (f : Frame). c.frames.frames.items ++ f ∷ []) c.to_frame.ensures in
    subst P (sym grown) more

pub returns-clause-took : goal.returns-clause-took
returns-clause-took c =
    let P : Reading → Type 0 = λ r. TookAll c.args.reader.now c.frames.frames.items r in
    subst P (sym c.in_default.ensures.kept) c.frames.invariant
