use Rattle.std.proofs.Common.{◌≡◌, List, ℕ, ◌∷◌, [], ◌++◌, length, ap, ◌∙◌}
use Rattle.dq_base.specs.Images.{sizes_page}
use Rattle.dq_base.specs.declared.pages.NumberedPage.{NumberedPage}
use Rattle.sqlite_files.proofs.TakenPages.{sizes_listed, sizes_are_there}
use Rattle.sqlite_files.proofs.taking.push_sizes.Goals as goal

pub returns-in_ok-push : goal.returns-in_ok-push
returns-in_ok-push c =
    let is : c.in-Some.page ≡ sizes_page (length c.args.after.now.main) (length c.args.after.now.side) = sizes_listed c.args.after.now c.in-Some.page c.in-Some.ensures in
    c.in_ok-push.ensures.items ∙ ap (λ (page : List ℕ). let p : NumberedPage = record { number = 1; page = page } in c.args.pages.now.items ++ p ∷ []) is

pub returns-in_default : goal.returns-in_default
returns-in_default c = absurd (sizes_are_there c.args.after.now c.in_default.ensures)
