-- When the numbers of a Frames command are in range.
use Rattle.std.proofs.Common.{◌≡◌, ℕ, ◌-◌, ◌≤◌, Bool, true, false, cond, ◌&&◌, eqb, leb, List, [], ◌∷◌, ◌++◌, length, Some, refl, sym, ap, ◌∙◌, arith}
use Rattle.std.proofs.lemmas.Bool.{leb-true, le-leb}
use Rattle.std.proofs.lemmas.List.{take_at, length_push}
use Rattle.dq_base.specs.declared.pages.NumberedPage.{NumberedPage}
use Rattle.dq_base.specs.Applying.{last_page}
use Rattle.dq_base.proofs.PageFaults.{last_page-push}
use Rattle.log_commands.specs.declared.command.Command.{Command}
use Rattle.log_commands.specs.declared.command.Command.TheVariants.{Frames}
use Rattle.log_commands.specs.Numbers.{numbers_ascend, pages_before_last, ends_with, frames_fit, numbers_fit, most_pages}

-- the part of the test that looks at the numbers, for pages that end in a last one
abbrev pub parts_fit : ℕ → Bool → List NumberedPage → NumberedPage → List NumberedPage → Bool
parts_fit truncate commit front last pages =
    cond commit (ends_with truncate (Some last) && numbers_ascend 0 front) (eqb truncate 0 && numbers_ascend 0 pages)

before_last-push : (front : List NumberedPage) (last : NumberedPage) → pages_before_last (front ++ last ∷ []) ≡ front
before_last-push front last = take_at front (last ∷ []) (length (front ++ last ∷ []) - 1) (omega (arith, length_push front last))

pub frames_fit-push : (truncate : ℕ) (commit : Bool) (pages front : List NumberedPage) (last : NumberedPage) → pages ≡ front ++ last ∷ [] → length pages ≤ 64
    → frames_fit truncate commit pages ≡ parts_fit truncate commit front last pages
unfolding frames_fit
frames_fit-push truncate commit pages front last e few =
    let some : 1 ≤ length pages = omega (arith, ap length e, length_push front last) in
    let before : pages_before_last pages ≡ front = ap pages_before_last e ∙ before_last-push front last in
    let end : last_page pages ≡ Some last = ap last_page e ∙ last_page-push front last in
    rw (le-leb 1 (length pages) some, le-leb (length pages) most_pages few, before, end) refl

both_true : (a b : Bool) → (a && b) ≡ true → (a ≡ true) × (b ≡ true)
both_true true b e = (refl, e)
both_true false b e = absurd cc

pub few_pages : (truncate : ℕ) (commit : Bool) (pages : List NumberedPage) → frames_fit truncate commit pages ≡ true → length pages ≤ 64
unfolding frames_fit
few_pages truncate commit pages fits =
    let both = both_true (leb 1 (length pages) && leb (length pages) most_pages) _ fits in
    leb-true (length pages) most_pages (both_true (leb 1 (length pages)) (leb (length pages) most_pages) both.0).1

pub few_of_frames : (command : Command) (name : List ℕ) (tx truncate : ℕ) (commit : Bool) (pages : List NumberedPage) → command ≡ Frames name tx truncate commit pages → numbers_fit command ≡ true → length pages ≤ 64
few_of_frames command name tx truncate commit pages e fits = few_pages truncate commit pages (ap numbers_fit (sym e) ∙ fits)
