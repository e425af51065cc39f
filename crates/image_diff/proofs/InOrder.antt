-- The step of the loop that puts numbers in order.
use Rattle.std.proofs.Common.{◌≡◌, ℕ, ◌+◌, ◌<◌, ◌≤◌, List, length, get_or, drop, sym, ap, ◌∙◌}
use Rattle.std.specs.Ordering.{nat_cmp}
use Rattle.std.specs.BTreeSet.{insert_key}
use Rattle.std.proofs.lemmas.List.{at_drop_more, at_drop_all}
use Rattle.image_diff.specs.Touched.{put_in_order}

pub put_one : (i : ℕ) (ns keys next total : List ℕ) → i < length ns → next ≡ insert_key nat_cmp keys (get_or ns i 0) → put_in_order keys (drop i ns) ≡ total → put_in_order next (drop (i + 1) ns) ≡ total
put_one i ns keys next total lt step so_far =
    ap (λ (ks : List ℕ). put_in_order ks (drop (i + 1) ns)) step ∙ sym (at_drop_more (put_in_order keys) ns i 0 lt) ∙ so_far

pub put_all : (i : ℕ) (ns keys total : List ℕ) → length ns ≤ i → put_in_order keys (drop i ns) ≡ total → keys ≡ total
put_all i ns keys total le so_far = sym (at_drop_all (put_in_order keys) ns i le) ∙ so_far
