use Rattle.std.proofs.Common.{◌≡◌, IsTrue, [], ◌∙◌, sym, rules}
use Rattle.sqlite_files.proofs.TakenPages.{changed_nothing, changed_something}
use Rattle.sqlite_files.proofs.taking.change.Goals as goal

pub returns-then-nothing_differs-clause-pages : goal.returns-then-nothing_differs-clause-pages
returns-then-nothing_differs-clause-pages g c =
    let yes : IsTrue c.nothing_differs.result = search rules in
    let same = c.nothing_differs.ensures.same yes in
    let none : c.push_changed.new.pages.items ≡ [] = sym c.as_slice.ensures.value ∙ same.0 in
    c.new.ensures ∙ changed_nothing c.args.before.now c.args.after.now c.push_changed.new.pages.items c.in_ok-push_changed.ensures.pages none same.1 same.2

pub returns-clause-pages : goal.returns-clause-pages
returns-clause-pages g c =
    let pages_is = c.in_ok-push_changed.ensures.pages in
    c.new-2.ensures ∙ c.in_ok-push_sizes.ensures
    ∙ changed_something c.args.before.now c.args.after.now c.push_changed.new.pages.items pages_is
    (λ none. c.nothing_differs.ensures.other c.if-nothing_differs.false (c.as_slice.ensures.value ∙ none))
