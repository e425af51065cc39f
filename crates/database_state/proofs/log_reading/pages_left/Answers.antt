use Rattle.std.proofs.Common.{◌≡◌, ℕ, List, [], ◌∷◌, ◌++◌, sym, ap, subst, ◌∙◌}
use Rattle.dq_base.specs.declared.pages.NumberedPage.{NumberedPage}
use Rattle.wal_frames.specs.declared.frame.Frame.{Frame}
use Rattle.wal_frames.specs.Lent.{owned}
use Rattle.wal_frames.specs.Valid.{Reading}
use Rattle.wal_frames.proofs.FrameLaws.{Took-shorter}
use Rattle.wal_frames.proofs.LogLaws.{TookAll-none, TookAll-more}
use Rattle.database_state.specs.Restoring.{pages_of, TookPages}
use Rattle.database_state.proofs.WalTexts.{pages_both}
use Rattle.database_state.proofs.log_reading.pages_left.Goals as goal

pub frames-init : goal.frames-init
frames-init c = ([], TookAll-none c.args.reader.now, c.new-pages.ensures.items)

pub frames-smaller : goal.frames-smaller
frames-smaller c = Took-shorter _ _ _ c.in-Some.ensures.found

pub frames-preserved : goal.frames-preserved
frames-preserved c =
    let before = c.frames.invariant in
    let frame : Frame = owned c.in-Some.frame in
    let page : Frame → NumberedPage = λ f. record { number = f.number; page = f.page } in
    let number : c.from.result ≡ c.to_frame-frame.result.number = cc in
    let pages : c.push.new.self.items ≡ pages_of (before.0 ++ frame ∷ []) =
    c.in_ok-push.ensures.items
    ∙ ap (λ (n : ℕ). c.frames.pages.items ++ record { number = n; page = c.to_frame-frame.result.page } ∷ []) number
    ∙ ap (λ (f : Frame). c.frames.pages.items ++ page f ∷ []) c.to_frame-frame.ensures
    ∙ ap (λ (ps : List NumberedPage). ps ++ page frame ∷ []) before.2
    ∙ sym (pages_both before.0 (frame ∷ [])) in
    (before.0 ++ frame ∷ [], TookAll-more _ _ _ _ _ before.1 c.in-Some.ensures.found, pages)

pub returns-clause-took : goal.returns-clause-took
returns-clause-took c = subst (λ (r : Reading). TookPages c.args.reader.now c.frames.pages.items r) (sym c.in_default.ensures.kept) c.frames.invariant
