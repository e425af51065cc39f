-- How many bytes parts have together.
use Rattle.std.proofs.Common.{◌≡◌, ◌+◌, ◌<◌, ℕ, List, length, take, get_or, sym, ap, ◌∙◌, arith}
use Rattle.std.proofs.lemmas.List.Sums.{sum_by_more}
use Rattle.wire_rows.specs.Answering.{held}
use Rattle.wire_rows.specs.Cut.{total_size}

-- one part more
pub part_more : (parts : List (List ℕ)) (i size : ℕ) (part : List ℕ) → i < length parts → part ≡ get_or parts i part → size ≡ held (total_size (take i parts))
    → held (size + length part) ≡ held (total_size (take (i + 1) parts))
part_more parts i size part lt is so_far =
    let more : total_size (take (i + 1) parts) ≡ total_size (take i parts) + length part =
    sum_by_more length parts i part lt ∙ ap (λ (p : List ℕ). total_size (take i parts) + length p) (sym is) in
    omega (arith, more, so_far)
