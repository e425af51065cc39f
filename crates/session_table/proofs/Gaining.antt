-- A mark that is pinned, and what it leaves of the others.
use Rattle.std.proofs.Common.{◌≡◌, ℕ, zero, suc, ◌<◌, Bool, true, false, cond, List, [], ◌∷◌, ◌++◌, length, set, get_or, remove, find, Option, Some, None, ◌⊎◌, inl, inr, refl, sym, ap, subst, ◌∙◌, arith}
use Rattle.std.specs.Prelude.{◌==◌, IsSome}
use Rattle.std.specs.List.{AllByRecursion, Contains}
use Rattle.std.proofs.lemmas.Bool.{cases_Bool, cond-true, cond-false, eqb-true}
use Rattle.std.proofs.lemmas.List.{append_assoc}
use Rattle.std.proofs.lemmas.List.Elements.{Contains-append_cases, Contains-append_left, Contains-append_right}
use Rattle.dq_base.specs.declared.images.Image.{Image}
use Rattle.page_store.specs.Marks.{mark_at, with_mark}
use Rattle.page_store.specs.Store.{IsLive, pinned}
use Rattle.database_state.specs.declared.database.Database.{Database}
use Rattle.database_state.specs.ByName.{change_first}
use Rattle.database_state.specs.Databases.{has_name, with_store}
use Rattle.database_state.specs.Machines.{IsMachine}
use Rattle.database_state.specs.ImageNumbers.{NumbersStay}
use Rattle.database_state.specs.Pins.{Pinning, has_place, at_place, is_live_in, IsPinned, IsPin, ShowsNewest, StillPinned}
use Rattle.database_state.proofs.Acting.{own_place}
use Rattle.database_state.proofs.ImageNumbers.{pin_stays}
use Rattle.session_spec.specs.Machine.{machine_of}
use Rattle.session_table.specs.declared.session.Session.{Session}
use Rattle.session_table.specs.declared.session.Transaction.{Transaction}
use Rattle.session_table.specs.Table.{image_pinned, mark_of, pin_of, pins_of}
use Rattle.session_table.specs.Marks.{IsNoneOf, AreMarks, Gained}
use Rattle.session_table.proofs.Following.{IsSame}
use Rattle.session_table.proofs.Marked.{pinned_stays}
use Rattle.session_table.proofs.Releasing.{all_front, all_back, all_both, AreBeside, beside_turned, beside_more, different_front, different_back, different_beside, different_both}

-- ---- one mark more in a table

mark_where : (table : List (Option ℕ)) (id other mark : ℕ) → IsSome (mark_at (with_mark table id mark) other) → IsSome (mark_at table other) ⊎ (other ≡ id)
mark_where [] id other mark live = inl live
mark_where (m ∷ ms) zero zero mark live = inr refl
mark_where (m ∷ ms) zero (suc other) mark live = inl live
mark_where (m ∷ ms) (suc id) zero mark live = inl live
mark_where (m ∷ ms) (suc id) (suc other) mark live = elim (mark_where ms id other mark live) [
  | inl before ↦ inl before
  | inr same ↦ inr (ap (λ (n : ℕ). suc n) same)
]

-- ---- one mark more in a state machine

pub some_same : (a b : Database) → Some a ≡ Some b → a ≡ b
some_same a b e = cc

pub none_found : (d : Database) → None ≡ Some d → ⊥
none_found d e = cc

module _ (t : Database → Bool) (mark place : ℕ) (q : Pinning) where
  abbrev gains : Database → Database
  gains d = with_store (pinned d.store mark) d

  abbrev Before : List Database → Type 0
  Before ds = is_live_in (find (has_place q.place) ds) q.mark ⊎ ((q.place ≡ place) × (q.mark ≡ mark))

  in_it : (d : Database) → IsLive (pinned d.store mark) q.mark → IsLive d.store q.mark ⊎ (q.mark ≡ mark)
  in_it d live = mark_where d.store.marks mark q.mark (length d.store.sets) live

  was_live : (ds : List Database) → ((d : Database) → find t ds ≡ Some d → d.place ≡ place) → is_live_in (find (has_place q.place) (change_first t gains ds)) q.mark → Before ds
  unfolding change_first
  was_live [] at live = absurd live
  was_live (d ∷ ds) at live = elim (cases_Bool (t d)) [
    | inl here ↦
        let changed : change_first t gains (d ∷ ds) ≡ gains d ∷ ds = cond-true (t d) (gains d ∷ ds) (d ∷ change_first t gains ds) here in
        let there : is_live_in (cond (d.place == q.place) (Some (gains d)) (find (has_place q.place) ds)) q.mark = subst (λ (xs : List Database). is_live_in (find (has_place q.place) xs) q.mark) changed live in
        elim (cases_Bool (d.place == q.place)) [
          | inl own ↦
              let l : IsLive (pinned d.store mark) q.mark = subst (λ (b : Bool). is_live_in (cond b (Some (gains d)) (find (has_place q.place) ds)) q.mark) own there in
              elim (in_it d l) [
                | inl before ↦ inl (subst (λ (b : Bool). is_live_in (cond b (Some d) (find (has_place q.place) ds)) q.mark) (sym own) before)
                | inr same ↦ inr (sym (eqb-true d.place q.place own) ∙ at d (cond-true (t d) (Some d) (find t ds) here), same)
              ]
          | inr other ↦
              let l : is_live_in (find (has_place q.place) ds) q.mark = subst (λ (b : Bool). is_live_in (cond b (Some (gains d)) (find (has_place q.place) ds)) q.mark) other there in
              inl (subst (λ (b : Bool). is_live_in (cond b (Some d) (find (has_place q.place) ds)) q.mark) (sym other) l)
        ]
    | inr elsewhere ↦
        let changed : change_first t gains (d ∷ ds) ≡ d ∷ change_first t gains ds = cond-false (t d) (gains d ∷ ds) (d ∷ change_first t gains ds) elsewhere in
        let there : is_live_in (cond (d.place == q.place) (Some d) (find (has_place q.place) (change_first t gains ds))) q.mark = subst (λ (xs : List Database). is_live_in (find (has_place q.place) xs) q.mark) changed live in
        elim (cases_Bool (d.place == q.place)) [
          | inl own ↦
              let l : IsLive d.store q.mark = subst (λ (b : Bool). is_live_in (cond b (Some d) (find (has_place q.place) (change_first t gains ds))) q.mark) own there in
              inl (subst (λ (b : Bool). is_live_in (cond b (Some d) (find (has_place q.place) ds)) q.mark) (sym own) l)
          | inr other ↦
              let l : is_live_in (find (has_place q.place) (change_first t gains ds)) q.mark = subst (λ (b : Bool). is_live_in (cond b (Some d) (find (has_place q.place) (change_first t gains ds))) q.mark) other there in
              let before : Before ds = was_live ds (λ (e : Database) found. at e (cond-false (t d) (Some d) (find t ds) elsewhere ∙ found)) l in
              elim before [
                | inl was ↦ inl (subst (λ (b : Bool). is_live_in (cond b (Some d) (find (has_place q.place) ds)) q.mark) (sym other) was)
                | inr own ↦ inr own
              ]
        ]
  ]

pinned_one : (name : List ℕ) (old new : List Database) (pin : Pinning) → IsPin name old new pin → IsMachine old → ShowsNewest name old new pin → ((other : Pinning) → StillPinned old new other) → Gained (pin ∷ []) old new
pinned_one name old new pin is m shows still = record {
  bases = ap machine_of is.now ∙ pinned_stays name pin.mark old;
  numbers = subst (NumbersStay old) (sym is.now) (pin_stays old name pin.mark);
  still = still;
  fresh = (
    (λ (live : IsPinned old pin).
        let here : at_place pin.place old ≡ Some is.database = ap (λ (p : ℕ). at_place p old) is.place ∙ own_place (has_name name) old is.database m.apart is.is in
        let marked : IsLive is.database.store pin.mark = subst (λ (o : Option Database). is_live_in o pin.mark) here live in
        let none : false ≡ true = subst (λ (o : Option ℕ). IsSome o) is.was_free marked in
        absurd cc),
    tt,
  );
  live = (shows.live, tt);
  apart = (tt, tt);
  only = λ q live.
      let there : is_live_in (find (has_place q.place) (change_first (has_name name) (λ (d : Database). with_store (pinned d.store pin.mark) d) old)) q.mark = subst (λ (ds : List Database). IsPinned ds q) is.now live in
      elim (was_live (has_name name) pin.mark pin.place q old (λ d found. ap (λ (y : Database). y.place) (some_same d is.database (sym found ∙ is.is)) ∙ sym is.place) there) [
        | inl before ↦ inl before
        | inr own ↦ inr (zero, omega arith, λ i. record { place = sym own.0 i; mark = sym own.1 i })
      ];
}

pub gained_none : (databases : List Database) → Gained [] databases databases
gained_none databases = record {
  bases = refl;
  numbers = refl;
  still = λ pin. record { live = λ live. live; same_image = λ live. refl };
  fresh = tt;
  live = tt;
  apart = tt;
  only = λ pin live. inl live;
}

pub gained_one : (name : List ℕ) (old new : List Database) (pin : Pinning) → IsPin name old new pin → IsMachine old → ShowsNewest name old new pin → ((other : Pinning) → StillPinned old new other) → Gained (mark_of (Some pin)) old new
gained_one name old new pin is m shows still = pinned_one name old new pin is m shows still

-- ---- the images that transactions have pinned

still_image : (old new : List Database) (pin : Option Pinning) → ((pin : Pinning) → StillPinned old new pin) → AllByRecursion (IsPinned old) (mark_of pin) → image_pinned new pin ≡ image_pinned old pin
still_image old new None still live = refl
still_image old new (Some pin) still live = (still pin).same_image live.0

still_pin : (old new : List Database) (tx : Option Transaction) → ((pin : Pinning) → StillPinned old new pin) → AllByRecursion (IsPinned old) (pin_of tx) → IsSame old new tx
still_pin old new None still live = refl
still_pin old new (Some x) still live =
    ap (λ (image : Image). Some (record { name = x.name; mark = x.mark; pinned = image; working = x.working; turn = x.turn; touched = x.touched.items })) (still_image old new x.pin still live)

-- if all marks still show what they showed, all transactions have pinned the same images
pub still_pins : (old new : List Database) (ss : List Session) → ((pin : Pinning) → StillPinned old new pin) → AllByRecursion (IsPinned old) (pins_of ss) → AllByRecursion (λ (s : Session). IsSame old new s.transaction) ss
still_pins old new [] still live = tt
still_pins old new (s ∷ ss) still live =
    (still_pin old new s.transaction still (all_front (IsPinned old) (pin_of s.transaction) (pins_of ss) live), still_pins old new ss still (all_back (IsPinned old) (pin_of s.transaction) (pins_of ss) live))

pub still_live : (old new : List Database) (pins : List Pinning) → ((pin : Pinning) → StillPinned old new pin) → AllByRecursion (IsPinned old) pins → AllByRecursion (IsPinned new) pins
still_live old new [] still live = tt
still_live old new (pin ∷ pins) still live = ((still pin).live live.0, still_live old new pins still live.1)

-- ---- the marks of sessions of which one has more

none_of : (old : List Database) (q : Pinning) (pins : List Pinning) → (IsPinned old q → ⊥) → AllByRecursion (IsPinned old) pins → IsNoneOf pins q
none_of old q [] fresh live = tt
none_of old q (p ∷ pins) fresh live = ((λ (e : q ≡ p). fresh (subst (IsPinned old) (sym e) live.0)), none_of old q pins fresh live.1)

beside_fresh : (old : List Database) (gained pins : List Pinning) → AllByRecursion (λ (pin : Pinning). IsPinned old pin → ⊥) gained → AllByRecursion (IsPinned old) pins → AreBeside pins gained
beside_fresh old [] pins fresh live = tt
beside_fresh old (q ∷ gained) pins fresh live = (none_of old q pins fresh.0 live, beside_fresh old gained pins fresh.1 live)

contains_more : (front back gained : List Pinning) (q : Pinning) → Contains (front ++ back) q → Contains (front ++ (gained ++ back)) q
contains_more front back gained q is = elim (Contains-append_cases front back q is) [
  | inl before ↦ Contains-append_left front (gained ++ back) q before
  | inr behind ↦ Contains-append_right front (gained ++ back) q (Contains-append_right gained back q behind)
]

marks_more : (front back gained : List Pinning) (old new : List Database) → AreMarks (front ++ back) old → Gained gained old new → AreMarks (front ++ (gained ++ back)) new
marks_more front back gained old new marks g =
    let live_front = all_front (IsPinned old) front back marks.live in
    let live_back = all_back (IsPinned old) front back marks.live in
    record {
      live = all_both (IsPinned new) front (gained ++ back) (still_live old new front g.still live_front) (all_both (IsPinned new) gained back g.live (still_live old new back g.still live_back));
      apart =
          different_both front (gained ++ back) (different_front front back marks.apart)
          (different_both gained back g.apart (different_back front back marks.apart) (beside_fresh old gained back g.fresh live_back))
          (beside_more gained back front (beside_turned front gained (beside_fresh old gained front g.fresh live_front)) (different_beside front back marks.apart));
      only = λ q live. elim (g.only q live) [
        | inl before ↦ contains_more front back gained q (marks.only q before)
        | inr own ↦ Contains-append_right front (gained ++ back) q (Contains-append_left gained back q own)
      ];
    }

-- the marks before and after a session that has none, and with those that it got
record Around (ss : List Session) (place : ℕ) (to : Session) : Type 0 where
  front : List Pinning
  back : List Pinning
  before : pins_of ss ≡ front ++ back
  after : pins_of (set ss place to) ≡ front ++ (pin_of to.transaction ++ back)

around : (ss : List Session) (place : ℕ) (to d : Session) → place < length ss → pin_of (get_or ss place d).transaction ≡ [] → Around ss place to
around [] place to d within none = absurd (omega (arith, within))
around (s ∷ ss) zero to d within none = record { front = []; back = pins_of ss; before = ap (λ (pins : List Pinning). pins ++ pins_of ss) none; after = refl }
around (s ∷ ss) (suc place) to d within none =
    let h : place < length ss = omega (arith, within) in
    let a = around ss place to d h none in
    record {
      front = pin_of s.transaction ++ a.front;
      back = a.back;
      before = ap (λ (pins : List Pinning). pin_of s.transaction ++ pins) a.before ∙ sym (append_assoc (pin_of s.transaction) a.front a.back);
      after = ap (λ (pins : List Pinning). pin_of s.transaction ++ pins) a.after ∙ sym (append_assoc (pin_of s.transaction) a.front (pin_of to.transaction ++ a.back));
    }

-- a session that had no mark got one
pub marks_after : (ss : List Session) (place : ℕ) (to d : Session) (old new : List Database) → place < length ss → pin_of (get_or ss place d).transaction ≡ [] → AreMarks (pins_of ss) old → Gained (pin_of to.transaction) old new → AreMarks (pins_of (set ss place to)) new
marks_after ss place to d old new within none marks gained =
    let a = around ss place to d within none in
    subst (λ (pins : List Pinning). AreMarks pins new) (sym a.after)
    (marks_more a.front a.back (pin_of to.transaction) old new (subst (λ (pins : List Pinning). AreMarks pins old) a.before marks) gained)

pub all_removed : {X : Type 0} (P : X → Type 0) (xs : List X) (place : ℕ) → AllByRecursion P xs → AllByRecursion P (remove xs place)
all_removed P [] zero all = tt
all_removed P [] (suc place) all = tt
all_removed P (x ∷ xs) zero all = all.1
all_removed P (x ∷ xs) (suc place) all = (all.0, all_removed P xs place all.1)
