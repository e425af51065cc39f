use Rattle.std.proofs.Common.{◌≡◌, ℕ, ◌+◌, ◌-◌, ◌<◌, ◌≤◌, List, [], ◌∷◌, ◌++◌, length, get_or, min, sym, ap, ◌∙◌, subst, arith}
use Rattle.std.specs.Prelude.{slice_index_or}
use Rattle.std.proofs.lemmas.List.{length-map, get_or_push}
use Rattle.dq_base.specs.declared.sizes.Lengths.{Lengths}
use Rattle.page_store.specs.declared.frame_log.Frame.{Frame}
use Rattle.page_store.specs.Laying.{length_of, length_at, no_lengths}
use Rattle.page_store.specs.Log.{lengths_of, LooksBack}
use Rattle.page_store.proofs.LeastLengths.{Least, least_three, looks_longer}
use Rattle.page_store.proofs.frame_log.next_stretch.Goals as goal

-- a frame that looks back over the two stretches before it
both_looks : (lengths : List Lengths) (n b b' : ℕ) (last before low all here : Lengths) → 1 ≤ b → 1 ≤ b' → b < n → LooksBack lengths (n - 1) b last → LooksBack lengths (n - 1 - b) b' before
    → low.main ≡ min before.main last.main → low.side ≡ min before.side last.side → all.main ≡ min low.main here.main → all.side ≡ min low.side here.side → here.main ≡ length_at 0 lengths n → here.side ≡ length_at 1 lengths n
    → LooksBack lengths n (1 + b + b') all
both_looks lengths n b b' last before low all here from from' inside looks looks' lm ls am as' hm hs = record {
  from_one = omega arith;
  main = λ fits.
      subst (Least (length_at 0 lengths) (n + 1 - (1 + b + b')) n) (sym (am ∙ (λ i. min (lm i) (hm i)))) (least_three (length_at 0 lengths) n b b' last.main before.main from from' inside looks.main looks'.main fits);
  side = λ fits.
      subst (Least (length_at 1 lengths) (n + 1 - (1 + b + b')) n) (sym (as' ∙ (λ i. min (ls i) (hs i)))) (least_three (length_at 1 lengths) n b b' last.side before.side from from' inside looks.side looks'.side fits);
}

pub returns : goal.returns
returns c =
    let frames : List Frame = c.args.frames.now.items in
    let n : ℕ = length frames in
    let len : c.len-len.result ≡ n = c.len-len.ensures ∙ c.args.frames.now.ok.0 in
    let last : Frame = c.index-last.result.now in
    let before : Frame = c.index-before.result.now in
    let all : List Lengths = lengths_of frames ++ c.args.lengths ∷ [] in
    let inside : last.back < n = omega (arith, c.if-last-len.false, len) in
    let map_len : length (lengths_of frames) ≡ n = length-map frames (λ (f : Frame). f.lengths) in
    let last_place : c.len-len.result - 1 ≡ n - 1 = omega (arith, len) in
    let before_place : c.len-len.result - 1 - last.back ≡ n - 1 - last.back = omega (arith, len) in
    let old_last = c.requires (n - 1) last (omega arith) (c.index-last.ensures ∙ ap (λ (k : ℕ). slice_index_or frames k last) last_place) in
    let old_before = c.requires (n - 1 - last.back) before (omega arith) (c.index-before.ensures ∙ ap (λ (k : ℕ). slice_index_or frames k before) before_place) in
    let looks = looks_longer (lengths_of frames) (c.args.lengths ∷ []) (n - 1) last.back last.least (omega arith) old_last in
    let looks' = looks_longer (lengths_of frames) (c.args.lengths ∷ []) (n - 1 - last.back) before.back before.least (omega arith) old_before in
    let here : get_or all n no_lengths ≡ c.args.lengths = get_or_push (lengths_of frames) c.args.lengths no_lengths n map_len in
    both_looks all n last.back before.back last.least before.least c.lesser.result c.lesser-least.result c.args.lengths old_last.from_one old_before.from_one inside looks looks'
    c.lesser.ensures.main c.lesser.ensures.side c.lesser-least.ensures.main c.lesser-least.ensures.side (sym (ap (length_of 0) here)) (sym (ap (length_of 1) here))
