-- The place of a name among names that ascend.
use Rattle.std.proofs.Common.{◌≡◌, ℕ, ◌+◌, ◌<◌, ◌≤◌, List, [], ◌∷◌, ◌++◌, length, get_or, take, drop, sym, ap, ◌∙◌, append_assoc, arith, refl}
use Rattle.std.specs.Ordering.{nat_cmp}
use Rattle.std.specs.declared.cmp.Ordering.TheVariants.{Less, Equal, Greater}
use Rattle.std.specs.Cmp.Lexicographic.{slice_cmp}
use Rattle.std.proofs.lemmas.List.{drop_more, drop_all, take_more, take_all, take-append-drop}
use Rattle.database_state.specs.ByName.{at_name}
use Rattle.session_spec.specs.Machine.{with_name}
use Rattle.session_requests.specs.Looking.{BelongsAt}

-- what was found so far: the name isn't among the first names, and it belongs after them
abbrev pub SoFar : List ℕ → List (List ℕ) → ℕ → Type 0
SoFar name names i = with_name name names ≡ take i names ++ with_name name (drop i names)

module _ (name : List ℕ) (names : List (List ℕ)) (i : ℕ) (x : List ℕ) (lt : i < length names) (is : x ≡ get_or names i x) (so_far : SoFar name names i) where
  rest : drop i names ≡ x ∷ drop (i + 1) names
  rest = drop_more names i x lt ∙ ap (λ (n : List ℕ). n ∷ drop (i + 1) names) (sym is)

  from_here : with_name name names ≡ take i names ++ with_name name (x ∷ drop (i + 1) names)
  from_here = so_far ∙ ap (λ (ns : List (List ℕ)). take i names ++ with_name name ns) rest

  pub belongs_here : slice_cmp nat_cmp name x ≡ Less → BelongsAt name names i
  unfolding at_name
  belongs_here less = record { within = omega arith; joined = from_here ∙ rw less (ap (λ (ns : List (List ℕ)). take i names ++ name ∷ ns) (sym rest)) }

  pub stands_here : slice_cmp nat_cmp name x ≡ Equal → with_name name names ≡ names
  unfolding at_name
  stands_here equal = from_here ∙ rw equal (ap (λ (ns : List (List ℕ)). take i names ++ ns) (sym rest) ∙ take-append-drop i names)

  pub later : slice_cmp nat_cmp name x ≡ Greater → SoFar name names (i + 1)
  unfolding at_name
  later greater =
      let front : take (i + 1) names ≡ take i names ++ x ∷ [] = take_more names i x lt ∙ ap (λ (n : List ℕ). take i names ++ n ∷ []) (sym is) in
      from_here ∙ rw greater (rw front (sym (append_assoc (take i names) (x ∷ []) (with_name name (drop (i + 1) names)))))

pub belongs_last : (name : List ℕ) (names : List (List ℕ)) (i : ℕ) → length names ≤ i → SoFar name names i → BelongsAt name names (length names)
unfolding at_name
belongs_last name names i past so_far = record {
  within = omega arith;
  joined = so_far ∙ rw (drop_all i names past, take_all i names past) (rw (take_all (length names) names (omega arith), drop_all (length names) names (omega arith)) refl);
}
