-- A database has room for one more mark where some session has none.
use Rattle.std.proofs.Common.{◌≡◌, ◌≢◌, ℕ, zero, suc, ◌+◌, ◌<◌, ◌≤◌, List, [], ◌∷◌, ◌++◌, length, get_or, Option, Some, None, ◌⊎◌, inl, inr, refl, sym, ap, subst, ◌∙◌, arith, length-append}
use Rattle.std.specs.Prelude.{IsSome, slice_index_or}
use Rattle.std.proofs.lemmas.List.Sums.{sum_by-cons}
use Rattle.page_store.specs.Marks.{mark_at, live_count}
use Rattle.database_state.specs.declared.database.Database.{Database}
use Rattle.database_state.specs.declared.pin.PinFault.{PinFault}
use Rattle.database_state.specs.Databases.{named, has_name}
use Rattle.database_state.specs.Files.{empty_image}
use Rattle.database_state.specs.Machines.{IsMachine}
use Rattle.database_state.specs.Pins.{Pinning, at_place, is_live_in, IsPinned, IsRefused}
use Rattle.session_spec.specs.Machine.{base_of, machine_of}
use Rattle.session_table.specs.declared.session.Session.{Session}
use Rattle.session_table.specs.declared.session.Transaction.{Transaction}
use Rattle.session_table.specs.Table.{mark_of, pin_of, pins_of, IsTable}
use Rattle.session_table.specs.Marks.{AreMarks, HasRoom}
use Rattle.database_state.proofs.Acting.{own_place}

-- ---- as many marks as there are in a list

abbrev IsIn : Pinning → List Pinning → Type 0
IsIn q [] = ⊥
IsIn q (p ∷ ps) = (q ≡ p) ⊎ IsIn q ps

contains_in : (ps : List Pinning) (q : Pinning) (k : ℕ) → k < length ps → slice_index_or ps k q ≡ q → IsIn q ps
contains_in [] q k lt is = absurd (omega (arith, lt))
contains_in (p ∷ ps) q zero lt is = inl (sym is)
contains_in (p ∷ ps) q (suc k) lt is = inr (contains_in ps q k (omega (arith, lt)) is)

-- a list without one of its marks
record Without (ps : List Pinning) (q : Pinning) : Type 0 where
  rest : List Pinning
  size : suc (length rest) ≡ length ps
  keeps : (r : Pinning) → r ≢ q → IsIn r ps → IsIn r rest

without_one : (ps : List Pinning) (q : Pinning) → IsIn q ps → Without ps q
without_one [] q is = absurd is
without_one (p ∷ ps) q (inl e) = record { rest = ps; size = refl; keeps = λ r other is. kept r other is } where
  kept : (r : Pinning) → r ≢ q → IsIn r (p ∷ ps) → IsIn r ps
  kept r other (inl f) = absurd (other (f ∙ sym e))
  kept r other (inr is) = is
without_one (p ∷ ps) q (inr is) = further (without_one ps q is) where
  further : Without ps q → Without (p ∷ ps) q
  further d = record { rest = p ∷ d.rest; size = ap (λ (n : ℕ). suc n) d.size; keeps = λ r other is. kept r other is } where
    kept : (r : Pinning) → r ≢ q → IsIn r (p ∷ ps) → IsIn r (p ∷ d.rest)
    kept r other (inl f) = inl f
    kept r other (inr is) = inr (d.keeps r other is)

abbrev at_mark : ℕ → ℕ → Pinning
at_mark place mark = record { place = place; mark = mark }

-- a table has no more live marks than a list that has each of them
live_few : (table : List (Option ℕ)) (place : ℕ) (number : ℕ → ℕ) (ps : List Pinning) → ((i j : ℕ) → number i ≡ number j → i ≡ j) → ((i : ℕ) → IsSome (mark_at table i) → IsIn (at_mark place (number i)) ps) → live_count table ≤ length ps
live_few [] place number ps apart all = omega arith
live_few (None ∷ table) place number ps apart all =
    let rest : live_count table ≤ length ps =
    live_few table place (λ i. number (suc i)) ps (λ i j e. pred_same i j (apart (suc i) (suc j) e)) (λ i live. all (suc i) live) in
    let step : live_count (None ∷ table) ≡ 0 + live_count table = sum_by-cons _ None table in
    omega (arith, rest, step) where
      pred_same : (i j : ℕ) → suc i ≡ suc j → i ≡ j
      pred_same i j e = omega (arith, e)
live_few (Some m ∷ table) place number ps apart all =
    let d = without_one ps (at_mark place (number 0)) (all 0 refl) in
    let rest : live_count table ≤ length d.rest =
    live_few table place (λ i. number (suc i)) d.rest (λ i j e. pred_same i j (apart (suc i) (suc j) e))
    (λ i live. d.keeps (at_mark place (number (suc i))) (λ e. later i (apart (suc i) 0 (ap (λ (p : Pinning). p.mark) e))) (all (suc i) live)) in
    let step : live_count (Some m ∷ table) ≡ 1 + live_count table = sum_by-cons _ (Some m) table in
    let size : suc (length d.rest) ≡ length ps = d.size in
    omega (arith, rest, step, size) where
      pred_same : (i j : ℕ) → suc i ≡ suc j → i ≡ j
      pred_same i j e = omega (arith, e)

      later : (i : ℕ) → suc i ≡ 0 → ⊥
      later i e = absurd (omega (arith, e))

-- ---- room

-- a database of a state machine with room has fewer live marks than it can have
not_full : (name : List ℕ) (databases : List Database) (d : Database) → IsMachine databases → HasRoom databases → named name databases ≡ Some d → live_count d.store.marks < 64
not_full name databases d m room found =
    let here : at_place d.place databases ≡ Some d = own_place (has_name name) databases d m.apart found in
    let few : live_count d.store.marks ≤ length room.0 =
    live_few d.store.marks d.place (λ i. i) room.0 (λ i j e. e)
    (λ i live.
    let at : IsPinned databases (at_mark d.place i) = subst (λ (o : Option Database). is_live_in o i) (sym here) live in
    let c = room.1.only (at_mark d.place i) at in
    contains_in room.0 (at_mark d.place i) c.0 c.1 c.2) in
    let less : length room.0 < 64 = room.2 in
    omega (arith, few, less)

-- if a mark is refused the database is missing
refused_where : (o : Option Database) (fault : PinFault) → ((d : Database) → o ≡ Some d → live_count d.store.marks < 64) → IsRefused o fault → o ≡ None
refused_where None fault room refused = refl
refused_where (Some d) fault room refused =
    let less : live_count d.store.marks < 64 = room d refl in
    let all : live_count d.store.marks ≡ 64 = refused.1 in
    absurd (omega (arith, less, all))

pub refused_none : (name : List ℕ) (databases : List Database) (fault : PinFault) → IsMachine databases → HasRoom databases → IsRefused (named name databases) fault → named name databases ≡ None
refused_none name databases fault m room refused = refused_where (named name databases) fault (λ d found. not_full name databases d m room found) refused

pub refused_blank : (name : List ℕ) (databases : List Database) (fault : PinFault) → IsMachine databases → HasRoom databases → IsRefused (named name databases) fault → empty_image ≡ ((machine_of databases).base name).image
refused_blank name databases fault m room refused = sym (ap (λ (o : Option Database). (base_of o).image) (refused_none name databases fault m room refused))

-- ---- how many marks sessions have

one_mark : (pin : Option Pinning) → length (mark_of pin) ≤ 1
one_mark None = omega arith
one_mark (Some pin) = omega arith

one_each : (tx : Option Transaction) → length (pin_of tx) ≤ 1
one_each None = omega arith
one_each (Some x) = one_mark x.pin

marks_few : (ss : List Session) → length (pins_of ss) ≤ length ss
marks_few [] = omega arith
marks_few (s ∷ ss) =
    let one : length (pin_of s.transaction) ≤ 1 = one_each s.transaction in
    let rest : length (pins_of ss) ≤ length ss = marks_few ss in
    let all : length (pin_of s.transaction ++ pins_of ss) ≡ length (pin_of s.transaction) + length (pins_of ss) = length-append (pin_of s.transaction) (pins_of ss) in
    omega (arith, one, rest, all)

-- fewer than sessions, if one of these has none
marks_fewer : (ss : List Session) (place : ℕ) (d : Session) → place < length ss → pin_of (get_or ss place d).transaction ≡ [] → length (pins_of ss) < length ss
marks_fewer [] place d within none = absurd (omega (arith, within))
marks_fewer (s ∷ ss) zero d within none =
    let rest : length (pins_of ss) ≤ length ss = marks_few ss in
    let all : length (pin_of s.transaction ++ pins_of ss) ≡ length (pins_of ss) = ap (λ (pins : List Pinning). length (pins ++ pins_of ss)) none in
    omega (arith, rest, all)
marks_fewer (s ∷ ss) (suc place) d within none =
    let h : place < length ss = omega (arith, within) in
    let one : length (pin_of s.transaction) ≤ 1 = one_each s.transaction in
    let rest : length (pins_of ss) < length ss = marks_fewer ss place d h none in
    let all : length (pin_of s.transaction ++ pins_of ss) ≡ length (pin_of s.transaction) + length (pins_of ss) = length-append (pin_of s.transaction) (pins_of ss) in
    omega (arith, one, rest, all)

pub has_room : (ss : List Session) (place : ℕ) (d : Session) (databases : List Database) → IsTable ss → place < length ss → (get_or ss place d).transaction ≡ None → AreMarks (pins_of ss) databases → HasRoom databases
has_room ss place d databases table within idle marks =
    let fewer : length (pins_of ss) < length ss = marks_fewer ss place d within (ap (λ (t : Option Transaction). pin_of t) idle) in
    let few : length ss ≤ 64 = table.few in
    (pins_of ss, marks, omega (arith, fewer, few))
