use Rattle.std.proofs.Common.{List, ℕ, length, Some, sym, ap, ◌∙◌, arith}
use Rattle.dq_base.specs.Images.{page_from, file_of}
use Rattle.dq_base.proofs.ChangedPages.{page_at_inside, page_at_past, page_at-one, page_at-zero}
use Rattle.dq_base.proofs.images.page_at.Goals as goal

pub returns-then-number-eq1 : goal.returns-then-number-eq1
returns-then-number-eq1 c = ap (λ (x : List ℕ). Some x) (rw c.lengths_of.ensures.lengths at c.sizes_page.ensures) ∙ sym (page_at-one c.args.image.now c.args.number c.if-number-eq1.true)

pub returns-then-number-eq0 : goal.returns-then-number-eq0
returns-then-number-eq0 c = sym (page_at-zero c.args.image.now c.args.number c.if-number-eq0.true)

pub returns-in-Some : goal.returns-in-Some
returns-in-Some c =
    let not_one = c.if-number-eq1.false in
    let not_zero = c.if-number-eq0.false in
    let file_is = c.file_of-file.ensures in
    let start = c.in-Some.ensures in
    let len = ap (λ (x : List ℕ). length x) file_is in
    ap (λ (x : List ℕ). Some x) (c.page_from.ensures ∙ ap (λ (x : List ℕ). page_from x c.in-Some.start) file_is ∙ ap (page_from (file_of c.args.image.now c.args.number)) start.0)
    ∙ sym (page_at_inside c.args.image.now c.args.number (omega arith) (omega arith))

pub returns-in-None : goal.returns-in-None
returns-in-None c =
    let not_one = c.if-number-eq1.false in
    let not_zero = c.if-number-eq0.false in
    let file_is = c.file_of-file.ensures in
    let past = c.in-None.ensures in
    let len = ap (λ (x : List ℕ). length x) file_is in
    sym (page_at_past c.args.image.now c.args.number (omega arith) (omega arith))
