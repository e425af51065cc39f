use Rattle.std.proofs.Common.{◌≡◌, IsTrue, [], ◌∙◌, sym, rules}
use Rattle.dq_base.specs.declared.images.Image.{Image}
use Rattle.dq_base.specs.Changes.{changed}
use Rattle.sqlite_files.specs.Pairs.{both}
use Rattle.sqlite_files.proofs.TakenPages.{changed_nothing, changed_something}
use Rattle.sqlite_files.proofs.compared.changes_since.Goals as goal

pub returns-then-nothing_differs : goal.returns-then-nothing_differs
returns-then-nothing_differs c =
    let after : Image = both c.args.main.now.bytes.now c.args.side.now.bytes.now in
    let yes : IsTrue c.nothing_differs.result = search rules in
    let same = c.nothing_differs.ensures.same yes in
    let none : c.push_touched.new.pages.items ≡ [] = sym c.as_slice.ensures.value ∙ same.0 in
    let is : c.new.result ≡ changed c.args.before.now after = c.new.ensures
    ∙ changed_nothing c.args.before.now after c.push_touched.new.pages.items c.in_ok-push_touched.ensures none same.1 same.2 in
    λ i. record { tx = c.args.tx; pages = is i }

pub returns : goal.returns
returns c =
    let after : Image = both c.args.main.now.bytes.now c.args.side.now.bytes.now in
    let is : c.new-2.result ≡ changed c.args.before.now after = c.new-2.ensures ∙ c.in_ok-push_lengths.ensures
    ∙ changed_something c.args.before.now after c.push_touched.new.pages.items c.in_ok-push_touched.ensures
    (λ none. c.nothing_differs.ensures.other c.if-nothing_differs.false (c.as_slice.ensures.value ∙ none)) in
    λ i. record { tx = c.args.tx; pages = is i }
