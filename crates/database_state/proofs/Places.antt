-- The place of a database among others, by the bytes of their names.
use Rattle.std.proofs.Common.{◌≡◌, ℕ, ◌+◌, ◌<◌, ◌≤◌, List, [], ◌∷◌, ◌++◌, length, get_or, take, drop, map, refl, sym, ap, ◌∙◌, append_assoc, append-nil, add-one, arith}
use Rattle.std.specs.Ordering.{nat_cmp}
use Rattle.std.specs.declared.cmp.Ordering.TheVariants.{Less, Equal, Greater}
use Rattle.std.specs.Cmp.Lexicographic.{slice_cmp}
use Rattle.std.proofs.lemmas.List.{drop_more, drop_all, take_more, take_all, set_split, get_or_read, set-get_or}
use Rattle.database_state.specs.declared.database.Database.{Database}
use Rattle.database_state.specs.ByName.{at_name}
use Rattle.database_state.specs.Databases.{opened, changed, StandsAt, BelongsAt}

-- what is done to the database of a name
abbrev pub at : Database → List ℕ → (Database → Database) → List Database → List Database
at new name f ds = at_name (λ database. database.name) new name f ds

-- what was found so far: none of the first databases has the name, and it follows them
abbrev pub SoFar : List ℕ → List Database → ℕ → Type 0
SoFar name ds i = (new : Database) (f : Database → Database) → at new name f ds ≡ take i ds ++ at new name f (drop i ds)

module _ (name : List ℕ) (ds : List Database) (i : ℕ) (x : Database) (lt : i < length ds) (is : x ≡ get_or ds i x) (so_far : SoFar name ds i) where
  rest : drop i ds ≡ x ∷ drop (i + 1) ds
  rest = drop_more ds i x lt ∙ ap (λ (d : Database). d ∷ drop (i + 1) ds) (sym is)

  from_here : (new : Database) (f : Database → Database) → at new name f ds ≡ take i ds ++ at new name f (x ∷ drop (i + 1) ds)
  from_here new f = so_far new f ∙ ap (λ (d : List Database). take i ds ++ at new name f d) rest

  pub belongs_here : slice_cmp nat_cmp name x.name ≡ Less → BelongsAt name ds i
  unfolding at_name
  belongs_here less = (omega arith, λ new f. from_here new f ∙ rw less (ap (λ (d : List Database). take i ds ++ f new ∷ d) (sym rest)))

  pub stands_here : slice_cmp nat_cmp name x.name ≡ Equal → StandsAt name ds i
  unfolding at_name
  stands_here equal = (
    lt,
    λ new d f.
        let same : x ≡ get_or ds i d = get_or_read ds i x lt is d in
        from_here new f ∙ rw equal (sym (set_split ds i (f (get_or ds i d)) lt ∙ rw (← same, ← add-one) refl)),
  )

  pub later : slice_cmp nat_cmp name x.name ≡ Greater → SoFar name ds (i + 1)
  unfolding at_name
  later greater new f =
      let front : take (i + 1) ds ≡ take i ds ++ x ∷ [] = take_more ds i x lt ∙ ap (λ (d : Database). take i ds ++ d ∷ []) (sym is) in
      from_here new f ∙ rw greater (rw front (sym (append_assoc (take i ds) (x ∷ []) (at new name f (drop (i + 1) ds)))))

pub belongs_last : (name : List ℕ) (ds : List Database) (i : ℕ) → length ds ≤ i → SoFar name ds i → BelongsAt name ds (length ds)
unfolding at_name
belongs_last name ds i past so_far = (
  omega arith,
  λ new f.
      so_far new f ∙ rw (drop_all i ds past, take_all i ds past) (rw (take_all (length ds) ds (omega arith), drop_all (length ds) ds (omega arith)) refl),
)

-- doing nothing to a database that is there changes nothing
pub stands_same : (name : List ℕ) (ds : List Database) (i : ℕ) → StandsAt name ds i → changed name (λ database. database) ds ≡ ds
stands_same name ds i s = s.1 (opened (length ds) name) (opened (length ds) name) (λ database. database) ∙ set-get_or ds i (opened (length ds) name)

-- after the last database nothing is left to be done
pub all_done : (f : Database → Database) (ds total : List Database) (i : ℕ) → length ds ≤ i → take i ds ++ map f (drop i ds) ≡ total → ds ≡ total
all_done f ds total i past so_far = sym (rw (take_all i ds past, drop_all i ds past) (append-nil ds)) ∙ so_far
