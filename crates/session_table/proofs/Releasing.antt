-- Marks that are released one after another, and lists of marks.
use Rattle.std.proofs.Common.{◌≡◌, ◌≢◌, List, [], ◌∷◌, ◌++◌, refl, sym, ap, subst, ◌∙◌}
use Rattle.std.specs.List.{AllByRecursion}
use Rattle.database_state.specs.declared.database.Database.{Database}
use Rattle.database_state.specs.ImageNumbers.{NumbersStay}
use Rattle.database_state.specs.Pins.{Pinning, IsPinned, StillPinned, without_pin}
use Rattle.database_state.proofs.ImageNumbers.{release_stays}
use Rattle.session_spec.specs.Machine.{machine_of}
use Rattle.session_table.specs.Marks.{IsNoneOf, AreDifferent, Released}
use Rattle.session_table.proofs.Marked.{released_stays, spent_marks}

-- ---- lists

module _ {X : Type 0} (P : X → Type 0) where
  pub all_front : (xs ys : List X) → AllByRecursion P (xs ++ ys) → AllByRecursion P xs
  all_front [] ys all = tt
  all_front (x ∷ xs) ys all = (all.0, all_front xs ys all.1)

  pub all_back : (xs ys : List X) → AllByRecursion P (xs ++ ys) → AllByRecursion P ys
  all_back [] ys all = all
  all_back (x ∷ xs) ys all = all_back xs ys all.1

  pub all_both : (xs ys : List X) → AllByRecursion P xs → AllByRecursion P ys → AllByRecursion P (xs ++ ys)
  all_both [] ys front back = back
  all_both (x ∷ xs) ys front back = (front.0, all_both xs ys front.1 back)

pub all_also : {X : Type 0} (P Q : X → Type 0) (xs : List X) → ((x : X) → P x → Q x) → AllByRecursion P xs → AllByRecursion Q xs
all_also P Q [] so all = tt
all_also P Q (x ∷ xs) so all = (so x all.0, all_also P Q xs so all.1)

pub any_of : {X : Type 0} (P : X → Type 0) (xs : List X) → ((x : X) → P x) → AllByRecursion P xs
any_of P [] so = tt
any_of P (x ∷ xs) so = (so x, any_of P xs so)

-- ---- marks

-- no mark of the second list is one of the first
abbrev pub AreBeside : List Pinning → List Pinning → Type 0
AreBeside others pins = AllByRecursion (IsNoneOf others) pins

pub beside_nothing : (pins : List Pinning) → AreBeside [] pins
beside_nothing pins = any_of (IsNoneOf []) pins (λ pin. tt)

beside_one : (p : Pinning) (others pins : List Pinning) → IsNoneOf pins p → AreBeside others pins → AreBeside (p ∷ others) pins
beside_one p others [] none beside = tt
beside_one p others (q ∷ pins) none beside = ((λ (e : q ≡ p). none.0 (sym e), beside.0), beside_one p others pins none.1 beside.1)

pub beside_turned : (others pins : List Pinning) → AreBeside others pins → AreBeside pins others
beside_turned others [] beside = beside_nothing others
beside_turned others (p ∷ pins) beside = beside_one p pins others beside.0 (beside_turned others pins beside.1)

pub beside_more : (xs ys pins : List Pinning) → AreBeside xs pins → AreBeside ys pins → AreBeside (xs ++ ys) pins
beside_more xs ys [] bx by = tt
beside_more xs ys (p ∷ pins) bx by = (all_both (λ (other : Pinning). p ≢ other) xs ys bx.0 by.0, beside_more xs ys pins bx.1 by.1)

pub different_front : (xs ys : List Pinning) → AreDifferent (xs ++ ys) → AreDifferent xs
different_front [] ys d = tt
different_front (x ∷ xs) ys d = (all_front (λ (other : Pinning). x ≢ other) xs ys d.0, different_front xs ys d.1)

pub different_back : (xs ys : List Pinning) → AreDifferent (xs ++ ys) → AreDifferent ys
different_back [] ys d = d
different_back (x ∷ xs) ys d = different_back xs ys d.1

pub different_beside : (xs ys : List Pinning) → AreDifferent (xs ++ ys) → AreBeside ys xs
different_beside [] ys d = tt
different_beside (x ∷ xs) ys d = (all_back (λ (other : Pinning). x ≢ other) xs ys d.0, different_beside xs ys d.1)

pub different_both : (xs ys : List Pinning) → AreDifferent xs → AreDifferent ys → AreBeside ys xs → AreDifferent (xs ++ ys)
different_both [] ys dx dy beside = dy
different_both (x ∷ xs) ys dx dy beside = (all_both (λ (other : Pinning). x ≢ other) xs ys dx.0 beside.0, different_both xs ys dx.1 dy beside.1)

-- ---- releases

pub still_further : (old mid new : List Database) (pin : Pinning) → StillPinned old mid pin → StillPinned mid new pin → StillPinned old new pin
still_further old mid new pin first later = record {
  live = λ live. later.live (first.live live);
  same_image = λ live. later.same_image (first.live live) ∙ first.same_image live;
}

pub released_none : (databases : List Database) → Released [] databases databases
released_none databases = record {
  bases = refl;
  numbers = refl;
  still = λ pin none. record { live = λ live. live; same_image = λ live. refl };
  spent = λ pin live. (live, tt);
}

pub released_one : (pin : Pinning) (old new : List Database) → new ≡ without_pin pin old → ((other : Pinning) → other ≢ pin → StillPinned old new other) → Released (pin ∷ []) old new
released_one pin old new is shown = record {
  bases = ap machine_of is ∙ released_stays pin old;
  numbers = subst (NumbersStay old) (sym is) (release_stays old pin);
  still = λ other none. shown other none.0;
  spent = λ other live.
      let before = spent_marks pin other old (subst (λ (ds : List Database). IsPinned ds other) is live) in
      (before.0, (before.1, tt));
}

pub released_both : (xs ys : List Pinning) (old mid new : List Database) → Released xs old mid → Released ys mid new → Released (xs ++ ys) old new
released_both xs ys old mid new first later = record {
  bases = later.bases ∙ first.bases;
  numbers = later.numbers ∙ first.numbers;
  still = λ pin none.
      still_further old mid new pin
      (first.still pin (all_front (λ (other : Pinning). pin ≢ other) xs ys none))
      (later.still pin (all_back (λ (other : Pinning). pin ≢ other) xs ys none));
  spent = λ pin live.
      let late = later.spent pin live in
      let early = first.spent pin late.0 in
      (early.0, all_both (λ (other : Pinning). pin ≢ other) xs ys early.1 late.1);
}

-- marks that are live and are not among those that are released stay live
pub stay_live : (gone pins : List Pinning) (old new : List Database) → Released gone old new → AreBeside gone pins → AllByRecursion (IsPinned old) pins → AllByRecursion (IsPinned new) pins
stay_live gone [] old new released beside live = tt
stay_live gone (p ∷ pins) old new released beside live = ((released.still p beside.0).live live.0, stay_live gone pins old new released beside.1 live.1)
