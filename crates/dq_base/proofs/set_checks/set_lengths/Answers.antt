use Rattle.std.proofs.Common.{◌≡◌, ◌∙◌, ℕ, List, [], ◌∷◌, ◌++◌, Some, None, refl, sym, ap}
use Rattle.std.proofs.lemmas.Result.{err_from_is_err_and}
use Rattle.dq_base.specs.declared.pages.NumberedPage.{NumberedPage}
use Rattle.dq_base.specs.declared.sizes.Lengths.{Lengths}
use Rattle.dq_base.specs.Applying.{page_fault, order_fault, length_fault, stated_main, stated_side, last_page, lengths_stated, lengths_in, StateLengths}
use Rattle.dq_base.proofs.PageFaults.{page_fault-push, last_page-push, StateLengths-push, no_pages, no_sizes, later_fault, earlier_some, earlier_none}
use Rattle.dq_base.proofs.set_checks.set_lengths.Goals as goal

pub returns-in_default : goal.returns-in_default
returns-in_default c = no_pages c.args.pages.now c.in_default.ensures.cases

pub returns-in_default-stated_lengths : goal.returns-in_default-stated_lengths
returns-in_default-stated_lengths c =
    page_fault-push c.args.pages.now c.in-Some.front.now c.in-Some.last.now c.in-Some.ensures.cases.0 ∙ no_sizes c.in-Some.last.now c.in-Some.front.now c.in_default-stated_lengths.ensures

pub returns-in_err-check_order : goal.returns-in_err-check_order
returns-in_err-check_order c =
    let p = err_from_is_err_and c.from_residual.result c.from_residual.ensures.1 in
    let last = c.in-Some.last.now in
    let front = c.in-Some.front.now in
    let order = order_fault 1 front in
    let lengths = length_fault (stated_main last.page) (stated_side last.page) front in
    let found : page_fault c.args.pages.now ≡ Some c.in_err-check_order.field-0.0 =
    page_fault-push c.args.pages.now front last c.in-Some.ensures.cases.0 ∙ later_fault last front c.in-Some-stated_lengths.ensures.0
    ∙ earlier_some order lengths c.in_err-check_order.field-0.0 c.in_err-check_order.ensures in
    rw (p.1, p.2) found

-- the lengths that were checked are those that the last page states
same_lengths : (last : NumberedPage) (front : List NumberedPage) (main side : ℕ) → main ≡ stated_main last.page → side ≡ stated_side last.page
    → length_fault (stated_main last.page) (stated_side last.page) front ≡ length_fault main side front
same_lengths last front main side m s = rw (m, s) refl

pub returns-in_err-check_lengths : goal.returns-in_err-check_lengths
returns-in_err-check_lengths c =
    let p = err_from_is_err_and c.from_residual-in_err-check_lengths.result c.from_residual-in_err-check_lengths.ensures.1 in
    let last = c.in-Some.last.now in
    let front = c.in-Some.front.now in
    let stated = c.in-Some-stated_lengths.ensures in
    let order = order_fault 1 front in
    let lengths = length_fault (stated_main last.page) (stated_side last.page) front in
    let found : page_fault c.args.pages.now ≡ Some c.in_err-check_lengths.field-0.0 =
    page_fault-push c.args.pages.now front last c.in-Some.ensures.cases.0 ∙ later_fault last front stated.0 ∙ earlier_none order lengths c.in_ok-check_order.ensures
    ∙ same_lengths last front c.in-Some-stated_lengths.lengths.main c.in-Some-stated_lengths.lengths.side stated.1 stated.2 ∙ c.in_err-check_lengths.ensures in
    rw (p.1, p.2) found

lengths_are : (pages front : List NumberedPage) (last : NumberedPage) (lengths : Lengths) → pages ≡ front ++ last ∷ [] → lengths.main ≡ stated_main last.page → lengths.side ≡ stated_side last.page → lengths ≡ lengths_in pages
lengths_are pages front last lengths e main side =
    let stated : lengths ≡ lengths_stated (Some last) = λ i. record { main = main i; side = side i } in
    stated ∙ ap lengths_stated (sym (ap last_page e ∙ last_page-push front last))

pub returns : goal.returns
returns c =
    let last = c.in-Some.last.now in
    let front = c.in-Some.front.now in
    let stated = c.in-Some-stated_lengths.ensures in
    let main = c.in-Some-stated_lengths.lengths.main in
    let side = c.in-Some-stated_lengths.lengths.side in
    let order = order_fault 1 front in
    let lengths = length_fault (stated_main last.page) (stated_side last.page) front in
    let none : page_fault c.args.pages.now ≡ None =
    page_fault-push c.args.pages.now front last c.in-Some.ensures.cases.0 ∙ later_fault last front stated.0 ∙ earlier_none order lengths c.in_ok-check_order.ensures
    ∙ same_lengths last front main side stated.1 stated.2 ∙ c.in_ok-check_lengths.ensures in
    let states : StateLengths c.args.pages.now main side = rw (stated.1, stated.2) (StateLengths-push c.args.pages.now front last c.in-Some.ensures.cases.0) in
    (none, lengths_are c.args.pages.now front last c.in-Some-stated_lengths.lengths c.in-Some.ensures.cases.0 stated.1 stated.2, states)
