-- Marks that count pages, seen as marks that count sets.
use Rattle.std.proofs.Common.{◌≡◌, ℕ, zero, suc, ◌+◌, ◌-◌, ◌≤◌, min, List, [], ◌∷◌, ◌++◌, length, map, take, drop, get_or, Option, Some, None, refl, sym, ap, ◌∙◌, arith, inl, inr}
use Rattle.std.specs.Prelude.{is_some, cond}
use Rattle.std.proofs.Math.ListN.{get_or-map}
use Rattle.std.proofs.lemmas.Bool.{cases_lt}
use Rattle.std.proofs.lemmas.List.Sums.{sum_by-cons}
use Rattle.std.proofs.lemmas.List.{take-append-le}
use Rattle.dq_base.specs.declared.pages.NumberedPage.{NumberedPage}
use Rattle.page_store.specs.Marks.{mark_at, lesser, least_from, least_mark, lowered_mark, lowered, live_count}
use Rattle.page_store.specs.Sets.{sets_of, seen}
use Rattle.page_store.specs.Holding.{IsEnd}
use Rattle.page_store.proofs.SetLists.{fewer_sets, sets_between}

pub mark_at-seen : (pages : List NumberedPage) (marks : List (Option ℕ)) (id : ℕ) → mark_at (map (seen pages) marks) id ≡ seen pages (mark_at marks id)
mark_at-seen pages marks id = get_or-map (seen pages) marks id None

-- two maps that agree at each place
pub map_same : (f g : Option ℕ → Option ℕ) (xs : List (Option ℕ)) → ((i : ℕ) → f (get_or xs i None) ≡ g (get_or xs i None)) → map f xs ≡ map g xs
map_same f g [] same = refl
map_same f g (x ∷ xs) same = λ j. same zero j ∷ map_same f g xs (λ i. same (suc i)) j

pub map_after : (f g h : Option ℕ → Option ℕ) (xs : List (Option ℕ)) → ((i : ℕ) → f (g (get_or xs i None)) ≡ h (get_or xs i None)) → map f (map g xs) ≡ map h xs
map_after f g h [] same = refl
map_after f g h (x ∷ xs) same = λ j. same zero j ∷ map_after f g h xs (λ i. same (suc i)) j

-- ---- how many marks are live

is_some-seen : (pages : List NumberedPage) (mark : Option ℕ) → is_some (seen pages mark) ≡ is_some mark
is_some-seen pages None = refl
is_some-seen pages (Some count) = refl

pub live_count-seen : (pages : List NumberedPage) (marks : List (Option ℕ)) → live_count (map (seen pages) marks) ≡ live_count marks
live_count-seen pages [] = refl
live_count-seen pages (mark ∷ marks) =
    sum_by-cons (λ (x : Option ℕ). cond (is_some x) 1 0) (seen pages mark) (map (seen pages) marks)
    ∙ (λ i. cond (is_some-seen pages mark i) 1 0 + live_count-seen pages marks i)
    ∙ sym (sum_by-cons (λ (x : Option ℕ). cond (is_some x) 1 0) mark marks)

-- ---- the least mark

seen_lesser : (pages : List NumberedPage) (a b : Option ℕ) → lesser (seen pages a) (seen pages b) ≡ seen pages (lesser a b)
seen_lesser pages None b = refl
seen_lesser pages (Some a) None = refl
seen_lesser pages (Some a) (Some b) = elim (cases_lt a b) [
  | inl lt ↦
      let le : length (sets_of (take a pages)) ≤ length (sets_of (take b pages)) = fewer_sets pages a b (omega arith) in
      let low : min a b ≡ a = omega arith in
      let least : min (length (sets_of (take a pages))) (length (sets_of (take b pages))) ≡ length (sets_of (take a pages)) = omega arith in
      ap (λ (n : ℕ). Some n) (least ∙ ap (λ (n : ℕ). length (sets_of (take n pages))) (sym low))
  | inr ge ↦
      let le : length (sets_of (take b pages)) ≤ length (sets_of (take a pages)) = fewer_sets pages b a ge in
      let low : min a b ≡ b = omega arith in
      let least : min (length (sets_of (take a pages))) (length (sets_of (take b pages))) ≡ length (sets_of (take b pages)) = omega arith in
      ap (λ (n : ℕ). Some n) (least ∙ ap (λ (n : ℕ). length (sets_of (take n pages))) (sym low))
]

seen_least : (pages : List NumberedPage) (first : Option ℕ) (marks : List (Option ℕ)) → least_from (seen pages first) (map (seen pages) marks) ≡ seen pages (least_from first marks)
seen_least pages first [] = refl
seen_least pages first (mark ∷ marks) = ap (λ (o : Option ℕ). least_from o (map (seen pages) marks)) (seen_lesser pages first mark) ∙ seen_least pages (lesser first mark) marks

pub least_mark-seen : (pages : List NumberedPage) (marks : List (Option ℕ)) → least_mark (map (seen pages) marks) ≡ seen pages (least_mark marks)
least_mark-seen pages marks = seen_least pages None marks

-- ---- more pages, and fewer

-- marks see what they saw when pages are added after
pub seen_longer : (pages more : List NumberedPage) (marks : List (Option ℕ)) → ((id count : ℕ) → mark_at marks id ≡ Some count → IsEnd pages count) → map (seen (pages ++ more)) marks ≡ map (seen pages) marks
seen_longer pages more marks ends = map_same (seen (pages ++ more)) (seen pages) marks (λ i. each (get_or marks i None) (ends i))
  where
    each : (mark : Option ℕ) → ((count : ℕ) → mark ≡ Some count → IsEnd pages count) → seen (pages ++ more) mark ≡ seen pages mark
    each None end = refl
    each (Some count) end = ap (λ (ps : List NumberedPage). Some (length (sets_of ps))) (take-append-le count pages more (end count refl).within)

-- marks that are lowered by the pages that went see as many sets fewer
pub seen_shorter : (pages : List NumberedPage) (count : ℕ) (marks : List (Option ℕ)) → IsEnd pages count → ((id later : ℕ) → mark_at marks id ≡ Some later → count ≤ later)
    → map (seen (drop count pages)) (lowered count marks) ≡ lowered (length (sets_of (take count pages))) (map (seen pages) marks)
unfolding lowered
seen_shorter pages count marks end above =
    map_after (seen (drop count pages)) (lowered_mark count) (λ m. lowered_mark (length (sets_of (take count pages))) (seen pages m)) marks (λ i. each (get_or marks i None) (above i))
    ∙ sym (map_after (lowered_mark (length (sets_of (take count pages)))) (seen pages) (λ m. lowered_mark (length (sets_of (take count pages))) (seen pages m)) marks (λ i. refl))
  where
    each : (mark : Option ℕ) → ((later : ℕ) → mark ≡ Some later → count ≤ later) → seen (drop count pages) (lowered_mark count mark) ≡ lowered_mark (length (sets_of (take count pages))) (seen pages mark)
    each None le = refl
    each (Some later) le =
        let both = sets_between pages count later end (le later refl) in
        let fewer : length (sets_of (take (later - count) (drop count pages))) ≡ length (sets_of (take later pages)) - length (sets_of (take count pages)) = omega (arith, both) in
        ap (λ (k : ℕ). Some k) fewer
