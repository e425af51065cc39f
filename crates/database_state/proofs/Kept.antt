-- What stays true of a state machine's databases, and what live pins show, after each change of one of them or of each.
use Rattle.std.proofs.Common.{◌≡◌, ◌≢◌, ℕ, suc, ◌<◌, Bool, true, false, cond, inl, inr, ◌⊎◌, List, [], ◌∷◌, length, map, refl, sym, ap, subst, ◌∙◌, arith, Ordering, Less, Equal, Greater}
use Rattle.std.specs.List.{AllByRecursion}
use Rattle.std.specs.Ordering.{match_ordering}
use Rattle.page_store.specs.Store.{MarksWithin}
use Rattle.database_state.specs.declared.database.Database.{Database}
use Rattle.database_state.specs.ByName.{at_name, change_first, Ascend}
use Rattle.database_state.specs.Machines.{names_of, AreApart, AreBelow, AllWithin, IsPendingLow, IsMachine}
use Rattle.database_state.proofs.Named.{compare}
use Rattle.database_state.proofs.Ordered.{order_kept, same_names}

-- a change of a database that keeps what a state machine needs
pub record Keeps (f : Database → Database) : Type 0 where
  pub name : (d : Database) → (f d).name ≡ d.name
  pub place : (d : Database) → (f d).place ≡ d.place
  pub marks : (d : Database) → MarksWithin d.store → MarksWithin (f d).store
  pub numbers : (d : Database) → IsPendingLow d.pending → IsPendingLow (f d).pending

-- ---- names in order

same_names_first : (test : Database → Bool) (f : Database → Database) → ((d : Database) → (f d).name ≡ d.name) → (ds : List Database) → names_of (change_first test f ds) ≡ names_of ds
unfolding change_first
same_names_first test f keeps [] = refl
same_names_first test f keeps (d ∷ ds) =
    let Q : Bool → Type 0 = λ b. names_of (cond b (f d ∷ ds) (d ∷ change_first test f ds)) ≡ d.name ∷ names_of ds in
    elim (test d) as Q [
      | true ↦ ap (λ (n : List ℕ). n ∷ names_of ds) (keeps d)
      | false ↦ ap (λ (ns : List (List ℕ)). d.name ∷ ns) (same_names_first test f keeps ds)
    ]

-- ---- places and marks

-- all are apart from a place that none of them has
new_apart : (n : ℕ) (ds : List Database) → AreBelow n ds → AllByRecursion (λ e. n ≢ e.place) ds
new_apart n [] below = tt
new_apart n (d ∷ ds) below = (λ e. absurd (omega (arith, e, below.0)), new_apart n ds below.1)

apart_from : (n m : ℕ) (ds : List Database) → n ≡ m → AllByRecursion (λ e. n ≢ e.place) ds → AllByRecursion (λ e. m ≢ e.place) ds
apart_from n m ds e all = subst (λ (k : ℕ). AllByRecursion (λ d. k ≢ d.place) ds) e all

module _ (f : Database → Database) (keeps : Keeps f) (new : Database) (name : List ℕ) where
  all_at : (P : Database → Type 0) → P (f new) → ((d : Database) → P d → P (f d)) → (ds : List Database) → AllByRecursion P ds → AllByRecursion P (at_name (λ (d : Database). d.name) new name f ds)
  unfolding at_name
  all_at P first each [] all = (first, tt)
  all_at P first each (d ∷ ds) all =
      let Q : Ordering → Type 0 = λ o. AllByRecursion P (match_ordering o (f new ∷ d ∷ ds) (f d ∷ ds) (d ∷ at_name (λ (d : Database). d.name) new name f ds)) in
      elim (compare name d.name) as Q [
        | Less ↦ (first, all)
        | Equal ↦ (each d all.0, all.1)
        | Greater ↦ (all.0, all_at P first each ds all.1)
      ]

  below_f : (n : ℕ) (d : Database) → d.place < n → (f d).place < n
  below_f n d lt = subst (λ (k : ℕ). k < n) (sym (keeps.place d)) lt

  apart_f : (n : ℕ) (d : Database) → n ≢ d.place → n ≢ (f d).place
  apart_f n d apart = λ e. apart (e ∙ keeps.place d)

  -- there is one more, or as many, whose places are as low
  grown_or_same : (n : ℕ) (ds : List Database) → AreBelow n ds
      → (length (at_name (λ (d : Database). d.name) new name f ds) ≡ suc (length ds)) ⊎ ((length (at_name (λ (d : Database). d.name) new name f ds) ≡ length ds) × AreBelow n (at_name (λ (d : Database). d.name) new name f ds))
  unfolding at_name
  grown_or_same n [] below = inl refl
  grown_or_same n (d ∷ ds) below =
      let rest : List Database = at_name (λ (d : Database). d.name) new name f ds in
      let Q : Ordering → Type 0 = λ o. (length (match_ordering o (f new ∷ d ∷ ds) (f d ∷ ds) (d ∷ rest)) ≡ suc (suc (length ds))) ⊎ ((length (match_ordering o (f new ∷ d ∷ ds) (f d ∷ ds) (d ∷ rest)) ≡ suc (length ds)) × AreBelow n (match_ordering o (f new ∷ d ∷ ds) (f d ∷ ds) (d ∷ rest))) in
      elim (compare name d.name) as Q [
        | Less ↦ inl refl
        | Equal ↦ inr (refl, (below_f n d below.0, below.1))
        | Greater ↦ elim (grown_or_same n ds below.1) [
          | inl e ↦ inl (ap (λ (k : ℕ). suc k) e)
          | inr e ↦ inr (ap (λ (k : ℕ). suc k) e.0, (below.0, e.1))
        ]
      ]

  below_next : (n : ℕ) (ds : List Database) → AreBelow n ds → AreBelow (suc n) ds
  below_next n [] below = tt
  below_next n (d ∷ ds) below = (omega (arith, below.0), below_next n ds below.1)

  pub below_kept : (ds : List Database) → new.place ≡ length ds → AreBelow (length ds) ds → AreBelow (length (at_name (λ (d : Database). d.name) new name f ds)) (at_name (λ (d : Database). d.name) new name f ds)
  below_kept ds is below =
      let first : (f new).place < suc (length ds) = omega (arith, keeps.place new, is) in
      elim (grown_or_same (length ds) ds below) [
        | inl e ↦ subst (λ (k : ℕ). AreBelow k (at_name (λ (d : Database). d.name) new name f ds)) (sym e) (all_at (λ d. d.place < suc (length ds)) first (λ d lt. below_f (suc (length ds)) d lt) ds (below_next (length ds) ds below))
        | inr e ↦ subst (λ (k : ℕ). AreBelow k (at_name (λ (d : Database). d.name) new name f ds)) (sym e.0) e.1
      ]

  pub apart_kept : (n : ℕ) (ds : List Database) → new.place ≡ n → AreBelow n ds → AreApart ds → AreApart (at_name (λ (d : Database). d.name) new name f ds)
  unfolding at_name
  apart_kept n [] is below apart = (tt, tt)
  apart_kept n (d ∷ ds) is below apart =
      let rest : List Database = at_name (λ (d : Database). d.name) new name f ds in
      let place : (f new).place ≡ n = keeps.place new ∙ is in
      let Q : Ordering → Type 0 = λ o. AreApart (match_ordering o (f new ∷ d ∷ ds) (f d ∷ ds) (d ∷ rest)) in
      elim (compare name d.name) as Q [
        | Less ↦ (apart_from n (f new).place (d ∷ ds) (sym place) (new_apart n (d ∷ ds) below), apart)
        | Equal ↦ (apart_from d.place (f d).place ds (sym (keeps.place d)) apart.0, apart.1)
        | Greater ↦ (
          all_at (λ e. d.place ≢ e.place) (λ e. absurd (omega (arith, e, place, below.0))) (λ e h. apart_f d.place e h) ds apart.0,
          apart_kept n ds is below.1 apart.1,
        )
      ]

  pub marks_kept : MarksWithin new.store → (ds : List Database) → AllWithin ds → AllWithin (at_name (λ (d : Database). d.name) new name f ds)
  marks_kept fresh ds marks = all_at (λ d. MarksWithin d.store) (keeps.marks new fresh) (λ d h. keeps.marks d h) ds marks

  pub machine_at : (ds : List Database) → new.name ≡ name → new.place ≡ length ds → MarksWithin new.store → IsPendingLow new.pending → IsMachine ds → IsMachine (at_name (λ (d : Database). d.name) new name f ds)
  machine_at ds is place fresh low m = record {
    in_order = order_kept (λ (d : Database). d.name) new name is f keeps.name ds m.in_order;
    below = below_kept ds place m.below;
    apart = apart_kept (length ds) ds place m.below m.apart;
    marks = marks_kept fresh ds m.marks;
    numbers = all_at (λ d. IsPendingLow d.pending) (keeps.numbers new low) (λ d h. keeps.numbers d h) ds m.numbers;
  }

-- ---- the same where the first that passes a test is changed, and if each is

module _ (f : Database → Database) (keeps : Keeps f) where
  all_first : (P : Database → Type 0) → ((d : Database) → P d → P (f d)) → (test : Database → Bool) (ds : List Database) → AllByRecursion P ds → AllByRecursion P (change_first test f ds)
  unfolding change_first
  all_first P each test [] all = tt
  all_first P each test (d ∷ ds) all =
      let Q : Bool → Type 0 = λ b. AllByRecursion P (cond b (f d ∷ ds) (d ∷ change_first test f ds)) in
      elim (test d) as Q [
        | true ↦ (each d all.0, all.1)
        | false ↦ (all.0, all_first P each test ds all.1)
      ]

  all_each : (P : Database → Type 0) → ((d : Database) → P d → P (f d)) → (ds : List Database) → AllByRecursion P ds → AllByRecursion P (map f ds)
  all_each P each [] all = tt
  all_each P each (d ∷ ds) all = (each d all.0, all_each P each ds all.1)

  as_many_first : (test : Database → Bool) (ds : List Database) → length (change_first test f ds) ≡ length ds
  unfolding change_first
  as_many_first test [] = refl
  as_many_first test (d ∷ ds) =
      let Q : Bool → Type 0 = λ b. length (cond b (f d ∷ ds) (d ∷ change_first test f ds)) ≡ suc (length ds) in
      elim (test d) as Q [
        | true ↦ refl
        | false ↦ ap (λ (k : ℕ). suc k) (as_many_first test ds)
      ]

  as_many_each : (ds : List Database) → length (map f ds) ≡ length ds
  as_many_each [] = refl
  as_many_each (d ∷ ds) = ap (λ (k : ℕ). suc k) (as_many_each ds)

  lower : (n : ℕ) (d : Database) → d.place < n → (f d).place < n
  lower n d lt = subst (λ (k : ℕ). k < n) (sym (keeps.place d)) lt

  still_apart : (n : ℕ) (d : Database) → n ≢ d.place → n ≢ (f d).place
  still_apart n d apart = λ e. apart (e ∙ keeps.place d)

  apart_first : (test : Database → Bool) (ds : List Database) → AreApart ds → AreApart (change_first test f ds)
  unfolding change_first
  apart_first test [] apart = tt
  apart_first test (d ∷ ds) apart =
      let Q : Bool → Type 0 = λ b. AreApart (cond b (f d ∷ ds) (d ∷ change_first test f ds)) in
      elim (test d) as Q [
        | true ↦ (apart_from d.place (f d).place ds (sym (keeps.place d)) apart.0, apart.1)
        | false ↦ (all_first (λ e. d.place ≢ e.place) (λ e h. still_apart d.place e h) test ds apart.0, apart_first test ds apart.1)
      ]

  apart_each : (ds : List Database) → AreApart ds → AreApart (map f ds)
  apart_each [] apart = tt
  apart_each (d ∷ ds) apart =
      (apart_from d.place (f d).place (map f ds) (sym (keeps.place d)) (all_each (λ e. d.place ≢ e.place) (λ e h. still_apart d.place e h) ds apart.0), apart_each ds apart.1)

  pub machine_first : (test : Database → Bool) (ds : List Database) → IsMachine ds → IsMachine (change_first test f ds)
  machine_first test ds m = record {
    in_order = subst Ascend (sym (same_names_first test f keeps.name ds)) m.in_order;
    below = subst (λ (k : ℕ). AreBelow k (change_first test f ds)) (sym (as_many_first test ds)) (all_first (λ d. d.place < length ds) (lower (length ds)) test ds m.below);
    apart = apart_first test ds m.apart;
    marks = all_first (λ d. MarksWithin d.store) keeps.marks test ds m.marks;
    numbers = all_first (λ d. IsPendingLow d.pending) keeps.numbers test ds m.numbers;
  }

  pub machine_each : (ds : List Database) → IsMachine ds → IsMachine (map f ds)
  machine_each ds m = record {
    in_order = subst Ascend (sym (same_names (λ (d : Database). d.name) f keeps.name ds)) m.in_order;
    below = subst (λ (k : ℕ). AreBelow k (map f ds)) (sym (as_many_each ds)) (all_each (λ d. d.place < length ds) (lower (length ds)) ds m.below);
    apart = apart_each ds m.apart;
    marks = all_each (λ d. MarksWithin d.store) keeps.marks ds m.marks;
    numbers = all_each (λ d. IsPendingLow d.pending) keeps.numbers ds m.numbers;
  }
