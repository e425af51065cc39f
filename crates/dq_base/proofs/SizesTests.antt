-- When a page is a sizes page.
use Rattle.std.proofs.Common.{◌≡◌, ℕ, ◌<◌, ◌≤◌, Bool, true, false, ◌&&◌, eqb, leb, List, drop}
use Rattle.std.specs.Prelude.{◌==◌}
use Rattle.std.specs.List.{list_all}
use Rattle.std.proofs.lemmas.Bool.{and_from, and_left, and_right, ne_eqb, eq-eqb, le-leb, lt-leb}
use Rattle.dq_base.specs.declared.pages.NumberedPage.{NumberedPage}
use Rattle.dq_base.specs.Applying.{stated_main, stated_side, is_sizes, longest_file}

-- the bytes past the two lengths are zeros
abbrev pub zeros_past_lengths : List ℕ → Bool
zeros_past_lengths page = list_all (λ b. b == 0) (drop 16 page)

pub is_sizes-true : (p : NumberedPage) → p.number ≡ 1 → zeros_past_lengths p.page ≡ true → stated_main p.page ≤ longest_file → stated_side p.page ≤ longest_file → is_sizes p ≡ true
unfolding is_sizes
is_sizes-true p number zeros main side =
    and_from _ _ (and_from _ _ (and_from _ _ (eq-eqb p.number 1 number) zeros) (le-leb (stated_main p.page) longest_file main)) (le-leb (stated_side p.page) longest_file side)

pub is_sizes-other_number : (p : NumberedPage) → (p.number ≡ 1 → ⊥) → is_sizes p ≡ false
unfolding is_sizes
is_sizes-other_number p other = and_left _ _ (and_left _ _ (and_left _ _ (ne_eqb p.number 1 other)))

pub is_sizes-other_bytes : (p : NumberedPage) → zeros_past_lengths p.page ≡ false → is_sizes p ≡ false
unfolding is_sizes
is_sizes-other_bytes p other = and_left _ _ (and_left _ _ (and_right (eqb p.number 1) _ other))

pub is_sizes-long_main : (p : NumberedPage) → longest_file < stated_main p.page → is_sizes p ≡ false
unfolding is_sizes
is_sizes-long_main p long = and_left _ _ (and_right ((eqb p.number 1) && zeros_past_lengths p.page) _ (lt-leb (stated_main p.page) longest_file long))

pub is_sizes-long_side : (p : NumberedPage) → longest_file < stated_side p.page → is_sizes p ≡ false
unfolding is_sizes
is_sizes-long_side p long = and_right ((eqb p.number 1) && zeros_past_lengths p.page && leb (stated_main p.page) longest_file) _ (lt-leb (stated_side p.page) longest_file long)

pub ruleset sizes_tests = (is_sizes-true, is_sizes-other_number, is_sizes-other_bytes, is_sizes-long_main, is_sizes-long_side)
