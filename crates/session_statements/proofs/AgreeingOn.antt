-- No number represents two images after a command either.
use Rattle.std.proofs.Common.{◌≡◌, ℕ, zero, suc, ◌<◌, ◌≤◌, Bool, false, cond, List, [], ◌∷◌, length, map, get_or, Contains, Option, Some, None, IfSome, refl, sym, ap, subst, ◌∙◌, arith, inl, inr}
use Rattle.std.specs.Prelude.{◌==◌}
use Rattle.std.specs.List.{AllByRecursion}
use Rattle.std.proofs.lemmas.Bool.{cases_Bool, cond-true, cond-false, eq-eqb, eqb-true}
use Rattle.std.proofs.lemmas.List.{length-map}
use Rattle.dq_base.specs.declared.images.Image.{Image}
use Rattle.dq_base.specs.declared.image_number.ImageNumber.{ImageNumber}
use Rattle.dq_base.specs.declared.image_number.ImageNumber.TheVariants.{Newest, Working}
use Rattle.page_store.specs.Store.{newest, newest_image}
use Rattle.sql_engine.specs.Known.{Known}
use Rattle.sql_engine.proofs.Knowing.{all_contained, of_contained}
use Rattle.database_state.specs.declared.database.Database.{Database}
use Rattle.database_state.specs.ImageNumbers.{Numbered, numbered, Follows, ComesFrom, NumbersGoOn}
use Rattle.database_state.specs.Machines.{IsMachine, AreApart}
use Rattle.database_state.proofs.ImageNumbers.{one_at_place, place_below}
use Rattle.session_statements.specs.Agreeing.{image_by, base_at, IsReached, IsGiven, IsNamed, Agree}

-- ---- databases by their places

later_on : {X : Type 0} (x y : X) (xs : List X) → Contains xs y → Contains (x ∷ xs) y
later_on x y xs c = (suc c.0, omega (arith, c.1), c.2)

later_in : (x d : Database) (xs : List Database) (k : ℕ) → suc k < length (x ∷ xs) → get_or xs k d ≡ d → Contains xs d
later_in x d xs k lt is = (k, omega (arith, lt), is)

pub base_of : (ds : List Database) (d : Database) → AreApart ds → Contains ds d → base_at d.place (map numbered ds) ≡ Some (numbered d)
base_of [] d apart c = absurd (omega (arith, c.1))
base_of (x ∷ xs) d apart (zero, lt, is) = cond-true (x.place == d.place) (Some (numbered x)) (base_at d.place (map numbered xs)) (eq-eqb x.place d.place (ap (λ (y : Database). y.place) is)) ∙ ap (λ (y : Database). Some (numbered y)) is
base_of (x ∷ xs) d apart (suc k, lt, is) =
    let there : Contains xs d = (k, omega (arith, lt), is) in
    let rest : base_at d.place (map numbered xs) ≡ Some (numbered d) = base_of xs d apart.1 there in
    elim (cases_Bool (x.place == d.place)) [
      | inl same ↦ cond-true (x.place == d.place) (Some (numbered x)) (base_at d.place (map numbered xs)) same
          ∙ ap (λ (y : Database). Some (numbered y)) (one_at_place (x ∷ xs) x d apart (0, omega arith, refl) (later_on x d xs there) (eqb-true x.place d.place same))
      | inr other ↦ cond-false (x.place == d.place) (Some (numbered x)) (base_at d.place (map numbered xs)) other ∙ rest
    ]

-- the database that is at a place
pub record FoundAt (place : ℕ) (ds : List Database) (base : Numbered) : Type 0 where
  pub database : Database
  pub among : Contains ds database
  pub is : numbered database ≡ base
  pub at : database.place ≡ place

some_base : (a b : Numbered) → Some a ≡ Some b → a ≡ b
some_base a b e = cc

further_at : (place : ℕ) (x : Database) (xs : List Database) (base : Numbered) → FoundAt place xs base → FoundAt place (x ∷ xs) base
further_at place x xs base found = record { database = found.database; among = later_on x found.database xs found.among; is = found.is; at = found.at }

pub found_base : (place : ℕ) (ds : List Database) (base : Numbered) → base_at place (map numbered ds) ≡ Some base → FoundAt place ds base
found_base place [] base e = absurd cc
found_base place (x ∷ xs) base e =
    elim (cases_Bool (x.place == place)) [
      | inl same ↦ record {
        database = x;
        among = (0, omega arith, refl);
        is = some_base (numbered x) base (sym (cond-true (x.place == place) (Some (numbered x)) (base_at place (map numbered xs)) same) ∙ e);
        at = eqb-true x.place place same;
      }
      | inr other ↦ further_at place x xs base (found_base place xs base (sym (cond-false (x.place == place) (Some (numbered x)) (base_at place (map numbered xs)) other) ∙ e))
    ]

pub numbered_in : (ds : List Database) (d : Database) → Contains ds d → Contains (map numbered ds) (numbered d)
numbered_in [] d c = absurd (omega (arith, c.1))
numbered_in (x ∷ xs) d (zero, lt, is) = (0, omega arith, ap numbered is)
numbered_in (x ∷ xs) d (suc k, lt, is) = later_on (numbered x) (numbered d) (map numbered xs) (numbered_in xs d (k, omega (arith, lt), is))

record FoundIn (ds : List Database) (base : Numbered) : Type 0 where
  pub database : Database
  pub among : Contains ds database
  pub is : numbered database ≡ base

in_numbered : (ds : List Database) (base : Numbered) → Contains (map numbered ds) base → FoundIn ds base
in_numbered [] base c = absurd (omega (arith, c.1))
in_numbered (x ∷ xs) base (zero, lt, is) = record { database = x; among = (0, omega arith, refl); is = is }
in_numbered (x ∷ xs) base (suc k, lt, is) =
    let found = in_numbered xs base (k, omega (arith, lt), is) in
    record { database = found.database; among = later_on x found.database xs found.among; is = found.is }

each_of : (P : Database → Type 0) (ds : List Database) (d : Database) → AllByRecursion P ds → Contains ds d → P d
each_of P [] d all c = absurd (omega (arith, c.1))
each_of P (x ∷ xs) d all (zero, lt, is) = subst P is all.0
each_of P (x ∷ xs) d all (suc k, lt, is) = each_of P xs d all.1 (k, omega (arith, lt), is)

-- ---- the newest images after a command

abbrev has_commits : ℕ → ImageNumber → Bool
has_commits commits (Newest place others) = others == commits
has_commits commits (Working number) = false

abbrev chosen : Option Numbered → ℕ → Image → Image
chosen None commits old = old
chosen (Some base) commits old = cond (has_commits commits base.number) base.image old

abbrev IsReachedIn : Option Numbered → ℕ → Type 0
IsReachedIn found commits = IfSome found (λ base. IsReached commits base.number)

module _ (known works : List Known) (next : ℕ) (before after : List Database) (a : Agree known works next (map numbered before)) (goes : NumbersGoOn before after) (old : IsMachine before) (new : IsMachine after) where
  now : ℕ → ℕ → Image
  now place commits = chosen (base_at place (map numbered after)) commits (a.newest place commits)

  -- what a database's number represented
  stood : (d : Database) → Contains before d → newest_image d.store ≡ a.newest d.place (newest d.store)
  stood d c = (of_contained (λ (b : Numbered). IsNamed a.working a.newest next (map numbered before) b.number b.image) (map numbered before) (numbered d) a.stands_so (numbered_in before d c)).is

  -- the place of a number that was given is that of a database of before, with as many commits or more
  record Older (place commits : ℕ) (d : Database) : Type 0 where
    pub database : Database
    pub among : Contains before database
    pub at : database.place ≡ place
    pub follows : Follows database d
    pub reached : commits ≤ newest database.store

  older : (place commits : ℕ) (d : Database) → Contains after d → d.place ≡ place → IsGiven next (map numbered before) (Newest place commits) → Older place commits d
  older place commits d c at given =
      elim (each_of (ComesFrom before) after d goes.each c) [
        | inl from ↦ record {
          database = from.0;
          among = from.1;
          at = sym from.2.place ∙ at;
          follows = from.2;
          reached = subst (λ (o : Option Numbered). IsReachedIn o commits) (subst (λ (p : ℕ). base_at p (map numbered before) ≡ Some (numbered from.0)) (sym from.2.place ∙ at) (base_of before from.0 old.apart from.1)) given.1;
        }
        | inr past ↦ absurd (omega (arith, past, at, given.0, length-map before numbered))
      ]

  same_chosen : (place commits : ℕ) (o : Option Numbered) → base_at place (map numbered after) ≡ o → IsGiven next (map numbered before) (Newest place commits) → chosen o commits (a.newest place commits) ≡ a.newest place commits
  same_chosen place commits None e given = refl
  same_chosen place commits (Some base) e given =
      let found = found_base place after base e in
      let from = older place commits found.database found.among found.at given in
      elim (cases_Bool (has_commits commits base.number)) [
        | inl as_many ↦ cond-true (has_commits commits base.number) base.image (a.newest place commits) as_many
            ∙ (let many : newest found.database.store ≡ commits = eqb-true (newest found.database.store) commits (ap (λ (b : Numbered). has_commits commits b.number) found.is ∙ as_many) in
            let up : newest from.database.store ≤ newest found.database.store = from.follows.commits in
            let most : commits ≤ newest from.database.store = from.reached in
            let even : newest found.database.store ≡ newest from.database.store = omega arith in
            sym (ap (λ (b : Numbered). b.image) found.is) ∙ from.follows.image even ∙ stood from.database from.among
            ∙ ap (λ (p : ℕ). a.newest p (newest from.database.store)) from.at ∙ ap (a.newest place) (sym even ∙ many))
        | inr fewer ↦ cond-false (has_commits commits base.number) base.image (a.newest place commits) fewer
      ]

  same_image : (number : ImageNumber) → IsGiven next (map numbered before) number → image_by a.working now number ≡ image_by a.working a.newest number
  unfolding now
  same_image (Working number) given = refl
  same_image (Newest place commits) given = same_chosen place commits (base_at place (map numbered after)) refl given

  still_reached : (place commits : ℕ) (o : Option Numbered) → base_at place (map numbered after) ≡ o → IsGiven next (map numbered before) (Newest place commits) → IsReachedIn o commits
  still_reached place commits None e given = tt
  still_reached place commits (Some base) e given =
      let found = found_base place after base e in
      let from = older place commits found.database found.among found.at given in
      let up : newest from.database.store ≤ newest found.database.store = from.follows.commits in
      let most : commits ≤ newest from.database.store = from.reached in
      let more : commits ≤ newest found.database.store = omega arith in
      subst (λ (b : Numbered). IsReached commits b.number) found.is more

  still_given : (number : ImageNumber) → IsGiven next (map numbered before) number → IsGiven next (map numbered after) number
  still_given (Working number) given = given
  still_given (Newest place commits) given =
      let count : length before ≤ length after = goes.count in
      (omega (arith, count, given.0, length-map before numbered, length-map after numbered), still_reached place commits (base_at place (map numbered after)) refl given)

  still_named : (number : ImageNumber) (image : Image) → IsNamed a.working a.newest next (map numbered before) number image → IsNamed a.working now next (map numbered after) number image
  still_named number image h = record { is = h.is ∙ sym (same_image number h.given); given = still_given number h.given }

  new_named : (d : Database) → Contains after d → IsNamed a.working now next (map numbered after) (numbered d).number (numbered d).image
  unfolding now
  new_named d c =
      let here : base_at d.place (map numbered after) ≡ Some (numbered d) = base_of after d new.apart c in
      record {
        is = sym (ap (λ (o : Option Numbered). chosen o (newest d.store) (a.newest d.place (newest d.store))) here
            ∙ cond-true (newest d.store == newest d.store) (newest_image d.store) (a.newest d.place (newest d.store)) (eq-eqb (newest d.store) (newest d.store) refl));
        given = (omega (arith, place_below (length after) after d new.below c, length-map after numbered), subst (λ (o : Option Numbered). IsReachedIn o (newest d.store)) (sym here) (omega arith));
      }

  one_new : (base : Numbered) → Contains (map numbered after) base → IsNamed a.working now next (map numbered after) base.number base.image
  one_new base c =
      let found = in_numbered after base c in
      subst (λ (b : Numbered). IsNamed a.working now next (map numbered after) b.number b.image) found.is (new_named found.database found.among)

  -- all agree still
  pub went_on : Agree known works next (map numbered after)
  went_on = record {
    working = a.working;
    newest = now;
    knows = λ k d lt. still_named (get_or known k d).number (get_or known k d).image (a.knows k d lt);
    works_so = λ k d lt. still_named (get_or works k d).number (get_or works k d).image (a.works_so k d lt);
    stands_so = λ k d lt. one_new (get_or (map numbered after) k d) (all_contained (map numbered after) k d lt);
  }
