-- What a sizes page states of both files fits in 64 bits.
use Rattle.std.proofs.Common.{◌≡◌, ◌≤◌, true}
use Rattle.std.proofs.lemmas.Bool.{and_parts, leb-true}
use Rattle.dq_base.specs.declared.pages.NumberedPage.{NumberedPage}
use Rattle.dq_base.specs.Applying.{is_sizes, stated_main, stated_side, longest_file}

pub small_files : (page : NumberedPage) → is_sizes page ≡ true → (stated_main page.page ≤ 67108864) × (stated_side page.page ≤ 67108864)
unfolding is_sizes
small_files page e =
    let side = and_parts _ _ e in
    let main = and_parts _ _ side.0 in
    (leb-true (stated_main page.page) longest_file main.1, leb-true (stated_side page.page) longest_file side.1)
