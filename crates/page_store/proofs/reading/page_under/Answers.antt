use Rattle.std.proofs.Common.{◌≡◌, ◌%◌, ◌<◌, List, ℕ, length, Some, sym, ap, ◌∙◌, arith}
use Rattle.dq_base.specs.Images.{sizes_page, page_from, page_start, file_of}
use Rattle.dq_base.proofs.ChangedPages.{page_at_inside, page_at_past, page_at-one, page_at-zero}
use Rattle.page_store.specs.Laying.{length_of}
use Rattle.page_store.specs.Log.{laid_image}
use Rattle.page_store.proofs.ReadPages.{file_length}
use Rattle.page_store.proofs.reading.page_under.Goals as goal

pub returns-then-number-eq1 : goal.returns-then-number-eq1
returns-then-number-eq1 c =
    let image = laid_image c.args.log.now c.args.count c.args.main.now c.args.side.now in
    let l = c.lengths_under-lengths.ensures in
    ap (λ (x : List ℕ). Some x) (c.sizes_page.ensures ∙ (λ i. sizes_page (l.main i) (l.side i))) ∙ sym (page_at-one image c.args.number c.if-number-eq1.true)

pub returns-then-number-eq0 : goal.returns-then-number-eq0
returns-then-number-eq0 c = sym (page_at-zero (laid_image c.args.log.now c.args.count c.args.main.now c.args.side.now) c.args.number c.if-number-eq0.true)

pub returns-in-Some : goal.returns-in-Some
returns-in-Some c =
    let image = laid_image c.args.log.now c.args.count c.args.main.now c.args.side.now in
    let number = c.args.number in
    let lengths = c.lengths_under-lengths.result in
    let l = c.lengths_under-lengths.ensures in
    let start = c.in-Some.ensures in
    let whole : length_of (number % 2) lengths ≡ length (file_of image number) = file_length image number lengths l.main l.side in
    let inside : page_start number < length (file_of image number) = omega (arith, start.0, start.1, c.length_of.ensures, whole) in
    ap (λ (x : List ℕ). Some x) (c.page_from_start.ensures ∙ ap (page_from (file_of image number)) start.0)
    ∙ sym (page_at_inside image number (omega (arith, c.if-number-eq1.false, c.if-number-eq0.false)) inside)

pub returns-in-None : goal.returns-in-None
returns-in-None c =
    let image = laid_image c.args.log.now c.args.count c.args.main.now c.args.side.now in
    let number = c.args.number in
    let lengths = c.lengths_under-lengths.result in
    let l = c.lengths_under-lengths.ensures in
    let whole : length_of (number % 2) lengths ≡ length (file_of image number) = file_length image number lengths l.main l.side in
    sym (page_at_past image number (omega (arith, c.if-number-eq1.false, c.if-number-eq0.false)) (omega (arith, c.in-None.ensures, c.length_of.ensures, whole)))
