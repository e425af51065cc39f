use Rattle.std.proofs.Common.{◌≡◌, ◌++◌, ℕ, List, true, Option, Some, option_map, refl, sym, ap, subst, ◌∙◌}
use Rattle.session_spec.specs.Touched.{numbers_of}
use Rattle.session_table.specs.declared.session.Transaction.{Transaction}
use Rattle.session_table.specs.Table.{image_pinned, transaction_of}
use Rattle.session_table.specs.Changing.{worked_on}
use Rattle.session_table.proofs.change.work.Goals as goal

pub returns-in_ok-note_numbers-clause-ok : goal.returns-in_ok-note_numbers-clause-ok
returns-in_ok-note_numbers-clause-ok c = λ databases.
    let x : Transaction = c.in-Some.transaction in
    let pages = c.args.pages.now in
    let touched : c.note_numbers.new.touched.items ≡ x.touched.items ++ numbers_of pages = c.in_ok-note_numbers.ensures.noted ∙ ap (λ (ns : List ℕ). ns ++ numbers_of pages) c.reserve.ensures.items in
    (λ i. Some (record { name = x.name; mark = x.mark; pinned = image_pinned databases x.pin; working = c.in_ok-apply_all.ensures.ok i; turn = true; touched = touched i }))
    ∙ sym (ap (λ (tx : Option Transaction). worked_on c.args.pages.now (option_map (transaction_of databases) tx)) c.in-Some.is)

pub returns-in_default-clause-ok : goal.returns-in_default-clause-ok
returns-in_default-clause-ok c = λ databases. subst (λ (tx : Option Transaction). option_map (transaction_of databases) tx ≡ worked_on c.args.pages.now (option_map (transaction_of databases) tx)) (sym c.in_default.is) refl
