-- Read marks come and go, and no database changes.
use Rattle.std.proofs.Common.{◌≡◌, ◌≢◌, ℕ, zero, suc, Bool, true, false, cond, true≢false, List, [], ◌∷◌, length, find, Option, Some, inl, inr, refl, sym, ap, subst, ◌∙◌}
use Rattle.std.specs.Prelude.{◌==◌, is_some, IsSome}
use Rattle.std.proofs.lemmas.Bool.{cases_Bool, cond-true, cond-false, eqb-true, eqb-false, both_ways}
use Rattle.page_store.specs.Marks.{mark_at, with_mark, without_mark}
use Rattle.page_store.specs.Store.{Store, IsLive, released}
use Rattle.database_state.specs.declared.database.Database.{Database}
use Rattle.database_state.specs.ByName.{change_first}
use Rattle.database_state.specs.Databases.{named, has_name, with_store}
use Rattle.database_state.specs.Machines.{names_of}
use Rattle.database_state.specs.Pins.{Pinning, has_place, is_live_in, IsPinned, with_pin, without_pin}
use Rattle.session_spec.specs.Machine.{base_of, machine_of}

-- a database with other marks
abbrev remarked : (Store → List (Option ℕ)) → Database → Database
remarked marks d = with_store (record d.store { marks = marks d.store }) d

module _ (t : Database → Bool) (marks : Store → List (Option ℕ)) where
  names_stay : (ds : List Database) → names_of (change_first t (remarked marks) ds) ≡ names_of ds
  unfolding change_first
  names_stay [] = refl
  names_stay (d ∷ ds) = elim (t d) as (λ (b : Bool). names_of (cond b (remarked marks d ∷ ds) (d ∷ change_first t (remarked marks) ds)) ≡ names_of (d ∷ ds)) [
    | true ↦ refl
    | false ↦ ap (λ (names : List (List ℕ)). d.name ∷ names) (names_stay ds)
  ]

  base_stays : (name : List ℕ) (ds : List Database) → base_of (named name (change_first t (remarked marks) ds)) ≡ base_of (named name ds)
  unfolding change_first
  base_stays name [] = refl
  base_stays name (d ∷ ds) = elim (t d) as (λ (b : Bool). base_of (named name (cond b (remarked marks d ∷ ds) (d ∷ change_first t (remarked marks) ds))) ≡ base_of (named name (d ∷ ds))) [
    | true ↦ elim (has_name name d) as (λ (b : Bool). base_of (cond b (Some (remarked marks d)) (named name ds)) ≡ base_of (cond b (Some d) (named name ds))) [ true ↦ refl | false ↦ refl ]
    | false ↦ elim (has_name name d) as (λ (b : Bool). base_of (cond b (Some d) (named name (change_first t (remarked marks) ds))) ≡ base_of (cond b (Some d) (named name ds))) [ true ↦ refl | false ↦ base_stays name ds ]
  ]

  stays : (ds : List Database) → machine_of (change_first t (remarked marks) ds) ≡ machine_of ds
  stays ds = λ i. record { names = names_stay ds i; base = λ name. base_stays name ds i }

pub released_stays : (pin : Pinning) (ds : List Database) → machine_of (without_pin pin ds) ≡ machine_of ds
released_stays pin ds = stays (has_place pin.place) (λ (store : Store). without_mark store.marks pin.mark) ds

pub pinned_stays : (name : List ℕ) (mark : ℕ) (ds : List Database) → machine_of (with_pin name mark ds) ≡ machine_of ds
pinned_stays name mark ds = stays (has_name name) (λ (store : Store). with_mark store.marks mark (length store.sets)) ds

-- a table without a mark at a place has none there, and no new one elsewhere
gone : (table : List (Option ℕ)) (id : ℕ) → is_some (mark_at (without_mark table id) id) ≡ false
gone [] id = refl
gone (m ∷ ms) zero = refl
gone (m ∷ ms) (suc id) = gone ms id

was_there : (table : List (Option ℕ)) (id other : ℕ) → IsSome (mark_at (without_mark table id) other) → IsSome (mark_at table other)
was_there [] id other live = live
was_there (m ∷ ms) zero zero live = absurd (true≢false (sym live))
was_there (m ∷ ms) zero (suc other) live = live
was_there (m ∷ ms) (suc id) zero live = live
was_there (m ∷ ms) (suc id) (suc other) live = was_there ms id other live

module _ (pin q : Pinning) where
  abbrev Before : List Database → Type 0
  Before ds = is_live_in (find (has_place q.place) ds) q.mark × (q.place ≡ pin.place → q.mark ≢ pin.mark)

  abbrev spent : Database → Database
  spent d = with_store (released d.store pin.mark) d

  -- in the database of the pin
  in_it : (d : Database) → d.place ≡ pin.place → IsLive (released d.store pin.mark) q.mark → (IsLive d.store q.mark) × (q.mark ≢ pin.mark)
  in_it d here live = (was_there d.store.marks pin.mark q.mark live, λ e. both_ways (is_some (mark_at (without_mark d.store.marks pin.mark) q.mark)) (ap (λ (m : ℕ). is_some (mark_at (without_mark d.store.marks pin.mark) m)) e ∙ gone d.store.marks pin.mark) live)

  were_live : (ds : List Database) → is_live_in (find (has_place q.place) (change_first (has_place pin.place) spent ds)) q.mark → Before ds
  unfolding change_first
  were_live [] live = absurd live
  were_live (d ∷ ds) live = elim (cases_Bool (d.place == pin.place)) [
    | inl here ↦
        let changed : change_first (has_place pin.place) spent (d ∷ ds) ≡ spent d ∷ ds = cond-true (d.place == pin.place) (spent d ∷ ds) (d ∷ change_first (has_place pin.place) spent ds) here in
        let there : is_live_in (cond (d.place == q.place) (Some (spent d)) (find (has_place q.place) ds)) q.mark = subst (λ (xs : List Database). is_live_in (find (has_place q.place) xs) q.mark) changed live in
        elim (cases_Bool (d.place == q.place)) [
          | inl own ↦
              let l : IsLive (released d.store pin.mark) q.mark = subst (λ (b : Bool). is_live_in (cond b (Some (spent d)) (find (has_place q.place) ds)) q.mark) own there in
              let both : (IsLive d.store q.mark) × (q.mark ≢ pin.mark) = in_it d (eqb-true d.place pin.place here) l in
              (subst (λ (b : Bool). is_live_in (cond b (Some d) (find (has_place q.place) ds)) q.mark) (sym own) both.0, λ e. both.1)
          | inr other ↦
              let l : is_live_in (find (has_place q.place) ds) q.mark = subst (λ (b : Bool). is_live_in (cond b (Some (spent d)) (find (has_place q.place) ds)) q.mark) other there in
              (subst (λ (b : Bool). is_live_in (cond b (Some d) (find (has_place q.place) ds)) q.mark) (sym other) l, λ e. absurd (eqb-false d.place q.place other (eqb-true d.place pin.place here ∙ sym e)))
        ]
    | inr elsewhere ↦
        let changed : change_first (has_place pin.place) spent (d ∷ ds) ≡ d ∷ change_first (has_place pin.place) spent ds = cond-false (d.place == pin.place) (spent d ∷ ds) (d ∷ change_first (has_place pin.place) spent ds) elsewhere in
        let there : is_live_in (cond (d.place == q.place) (Some d) (find (has_place q.place) (change_first (has_place pin.place) spent ds))) q.mark = subst (λ (xs : List Database). is_live_in (find (has_place q.place) xs) q.mark) changed live in
        elim (cases_Bool (d.place == q.place)) [
          | inl own ↦
              let l : IsLive d.store q.mark = subst (λ (b : Bool). is_live_in (cond b (Some d) (find (has_place q.place) (change_first (has_place pin.place) spent ds))) q.mark) own there in
              (subst (λ (b : Bool). is_live_in (cond b (Some d) (find (has_place q.place) ds)) q.mark) (sym own) l, λ e. absurd (eqb-false d.place pin.place elsewhere (eqb-true d.place q.place own ∙ e)))
          | inr other ↦
              let before : Before ds = were_live ds (subst (λ (b : Bool). is_live_in (cond b (Some d) (find (has_place q.place) (change_first (has_place pin.place) spent ds))) q.mark) other there) in
              (subst (λ (b : Bool). is_live_in (cond b (Some d) (find (has_place q.place) ds)) q.mark) (sym other) before.0, before.1)
        ]
  ]

pub spent_marks : (pin other : Pinning) (ds : List Database) → IsPinned (without_pin pin ds) other → IsPinned ds other × (other ≢ pin)
spent_marks pin other ds live =
    let before = were_live pin other ds live in
    (before.0, λ e. before.1 (ap (λ (p : Pinning). p.place) e) (ap (λ (p : Pinning). p.mark) e))
