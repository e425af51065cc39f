use Rattle.std.proofs.Common.{sym, ◌∙◌, refl}
use Rattle.log_commands.proofs.Ranges.{frames_fit-push}
use Rattle.log_commands.proofs.numbers.frames_fit.Goals as goal

pub returns-then-ends_with : goal.returns-then-ends_with
returns-then-ends_with c =
    let is = frames_fit-push c.args.truncate c.args.commit c.args.pages.now c.in-Some.front.now c.in-Some.last.now c.in-Some.ensures.cases.0 c.if-pages-gt-MAX_FRAME_PAGES.false in
    c.ascend.ensures ∙ sym (is ∙ rw (c.if-commit.true, sym c.ends_with.ensures ∙ c.if-ends_with.true) refl)

pub returns-else-ends_with : goal.returns-else-ends_with
returns-else-ends_with c =
    let is = frames_fit-push c.args.truncate c.args.commit c.args.pages.now c.in-Some.front.now c.in-Some.last.now c.in-Some.ensures.cases.0 c.if-pages-gt-MAX_FRAME_PAGES.false in
    c.if-ends_with.false ∙ sym (is ∙ rw (c.if-commit.true, sym c.ends_with.ensures ∙ c.if-ends_with.false) refl)
