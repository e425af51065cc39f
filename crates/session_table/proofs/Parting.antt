-- The marks of what is left of sessions, and those that are let go.
use Rattle.std.proofs.Common.{◌≡◌, ◌≢◌, ℕ, zero, suc, ◌<◌, Bool, true, false, cond, List, [], ◌∷◌, ◌++◌, length, get_or, Option, Some, None, ◌⊎◌, inl, inr, refl, sym, ap, subst, ◌∙◌, arith}
use Rattle.std.specs.Prelude.{◌==◌}
use Rattle.std.specs.List.{AllByRecursion, Contains}
use Rattle.std.proofs.lemmas.List.{append_assoc, append-nil}
use Rattle.std.proofs.lemmas.List.Elements.{Contains-append_cases, Contains-append_left, Contains-append_right}
use Rattle.database_state.specs.declared.database.Database.{Database}
use Rattle.database_state.specs.Pins.{Pinning, IsPinned}
use Rattle.session_spec.specs.Sessions.{Kind, Opening, Configuring, Writing, Committing, Querying, Flight}
use Rattle.session_table.specs.declared.session.Session.{Session}
use Rattle.session_table.specs.declared.sweep.Event.{Event}
use Rattle.session_table.specs.declared.sweep.Event.TheVariants.{Applied, Lost, Left, Ended}
use Rattle.session_table.specs.Table.{pin_of, pins_of}
use Rattle.session_table.specs.Marks.{IsNoneOf, AreDifferent, AreMarks, Released}
use Rattle.session_table.specs.Sweeping.{lost, stopped, done, kept_applied, kept_left, kept, all_kept, freed_done, freed_applied, freed_left, freed, all_freed}
use Rattle.session_table.proofs.Releasing.{all_front, all_back, all_both, all_also, AreBeside, beside_nothing, beside_turned, beside_more, different_front, different_back, different_beside, different_both, stay_live}

-- the marks of a session are kept, or let go
abbrev pub Parts : List Pinning → List Pinning → List Pinning → Type 0
Parts all kept gone = ((kept ≡ all) × (gone ≡ [])) ⊎ ((kept ≡ []) × (gone ≡ all))

parts_done : (s : Session) (name : List ℕ) (kind : Kind) → Parts (pin_of s.transaction) (pins_of (done s name kind ∷ [])) (freed_done s kind)
parts_done s name Opening = inl (append-nil (pin_of s.transaction), refl)
parts_done s name (Configuring short) = inl (append-nil (pin_of s.transaction), refl)
parts_done s name (Writing reply) = inl (append-nil (pin_of s.transaction), refl)
parts_done s name Committing = inr (refl, refl)
parts_done s name (Querying statement) = inl (append-nil (pin_of s.transaction), refl)

parts_applied : (index : ℕ) (s : Session) (flight : Option Flight) → Parts (pin_of s.transaction) (pins_of (kept_applied index s flight)) (freed_applied index s flight)
parts_applied index s None = inl (append-nil (pin_of s.transaction), refl)
parts_applied index s (Some f) = elim (f.last == index) as (λ (b : Bool). Parts (pin_of s.transaction) (pins_of (cond b (cond s.hung [] (done s f.name f.kind ∷ [])) (s ∷ []))) (cond b (cond s.hung (pin_of s.transaction) (freed_done s f.kind)) [])) [
  | true ↦ elim s.hung as (λ (h : Bool). Parts (pin_of s.transaction) (pins_of (cond h [] (done s f.name f.kind ∷ []))) (cond h (pin_of s.transaction) (freed_done s f.kind))) [
    | true ↦ inr (refl, refl)
    | false ↦ parts_done s f.name f.kind
  ]
  | false ↦ inl (append-nil (pin_of s.transaction), refl)
]

parts_left : (s : Session) (flight : Option Flight) → Parts (pin_of s.transaction) (pins_of (kept_left s flight)) (freed_left s flight)
parts_left s None = inr (refl, refl)
parts_left s (Some f) = inl (append-nil (pin_of s.transaction), refl)

pub parts : (event : Event) (s : Session) → Parts (pin_of s.transaction) (pins_of (kept event s)) (freed event s)
parts (Applied index) s = parts_applied index s s.flight
parts Lost s = elim s.hung as (λ (h : Bool). Parts (pin_of s.transaction) (pins_of (cond h [] (lost s ∷ []))) (pin_of s.transaction)) [
  | true ↦ inr (refl, refl)
  | false ↦ inr (refl, refl)
]
parts (Left conn) s = elim (s.conn == conn) as (λ (b : Bool). Parts (pin_of s.transaction) (pins_of (cond b (kept_left s s.flight) (s ∷ []))) (cond b (freed_left s s.flight) [])) [
  | true ↦ parts_left s s.flight
  | false ↦ inl (append-nil (pin_of s.transaction), refl)
]
parts (Ended conn) s = elim (s.conn == conn) as (λ (b : Bool). Parts (pin_of s.transaction) (pins_of (cond b (stopped s ∷ []) (s ∷ []))) (cond b (pin_of s.transaction) [])) [
  | true ↦ inr (refl, refl)
  | false ↦ inl (append-nil (pin_of s.transaction), refl)
]

pub pins_append : (xs ys : List Session) → pins_of (xs ++ ys) ≡ pins_of xs ++ pins_of ys
pins_append [] ys = refl
pins_append (x ∷ xs) ys = ap (λ (pins : List Pinning). pin_of x.transaction ++ pins) (pins_append xs ys) ∙ sym (append_assoc (pin_of x.transaction) (pins_of xs) (pins_of ys))

-- of any property of all marks
module _ (P : Pinning → Type 0) where
  part_kept : (all kept gone : List Pinning) → Parts all kept gone → AllByRecursion P all → AllByRecursion P kept
  part_kept all kept gone (inl (e, f)) so = subst (AllByRecursion P) (sym e) so
  part_kept all kept gone (inr (e, f)) so = subst (AllByRecursion P) (sym e) tt

  part_gone : (all kept gone : List Pinning) → Parts all kept gone → AllByRecursion P all → AllByRecursion P gone
  part_gone all kept gone (inl (e, f)) so = subst (AllByRecursion P) (sym f) tt
  part_gone all kept gone (inr (e, f)) so = subst (AllByRecursion P) (sym f) so

  pub of_kept : (event : Event) (ss : List Session) → AllByRecursion P (pins_of ss) → AllByRecursion P (pins_of (all_kept event ss))
  of_kept event [] so = tt
  of_kept event (s ∷ ss) so = subst (AllByRecursion P) (sym (pins_append (kept event s) (all_kept event ss)))
      (all_both P (pins_of (kept event s)) (pins_of (all_kept event ss))
      (part_kept (pin_of s.transaction) (pins_of (kept event s)) (freed event s) (parts event s) (all_front P (pin_of s.transaction) (pins_of ss) so))
      (of_kept event ss (all_back P (pin_of s.transaction) (pins_of ss) so)))

  pub of_freed : (event : Event) (ss : List Session) → AllByRecursion P (pins_of ss) → AllByRecursion P (all_freed event ss)
  of_freed event [] so = tt
  of_freed event (s ∷ ss) so =
      all_both P (freed event s) (all_freed event ss)
      (part_gone (pin_of s.transaction) (pins_of (kept event s)) (freed event s) (parts event s) (all_front P (pin_of s.transaction) (pins_of ss) so))
      (of_freed event ss (all_back P (pin_of s.transaction) (pins_of ss) so))

  -- those of one session
  pub of_freed_one : (event : Event) (s : Session) → AllByRecursion P (pin_of s.transaction) → AllByRecursion P (freed event s)
  of_freed_one event s so = part_gone (pin_of s.transaction) (pins_of (kept event s)) (freed event s) (parts event s) so

part_different : (all kept gone : List Pinning) → Parts all kept gone → AreDifferent all → AreDifferent kept
part_different all kept gone (inl (e, f)) d = subst AreDifferent (sym e) d
part_different all kept gone (inr (e, f)) d = subst AreDifferent (sym e) tt

part_beside : (all kept gone : List Pinning) → Parts all kept gone → AreBeside gone kept
part_beside all kept gone (inl (e, f)) = subst (λ (pins : List Pinning). AreBeside pins kept) (sym f) (beside_nothing kept)
part_beside all kept gone (inr (e, f)) = subst (AreBeside gone) (sym e) tt

-- what is left of marks that are apart is apart, and beside those that are let go
pub kept_different : (event : Event) (ss : List Session) → AreDifferent (pins_of ss) → AreDifferent (pins_of (all_kept event ss))
kept_different event [] d = tt
kept_different event (s ∷ ss) d =
    let own : List Pinning = pin_of s.transaction in
    let others : List Pinning = pins_of (all_kept event ss) in
    let beside : AreBeside (pins_of ss) own = different_beside own (pins_of ss) d in
    let others_beside : AreBeside others own = all_also (IsNoneOf (pins_of ss)) (IsNoneOf others) own (λ pin none. of_kept (λ (other : Pinning). pin ≢ other) event ss none) beside in
    subst AreDifferent (sym (pins_append (kept event s) (all_kept event ss)))
    (different_both (pins_of (kept event s)) others
    (part_different own (pins_of (kept event s)) (freed event s) (parts event s) (different_front own (pins_of ss) d))
    (kept_different event ss (different_back own (pins_of ss) d))
    (part_kept (IsNoneOf others) own (pins_of (kept event s)) (freed event s) (parts event s) others_beside))

pub kept_beside : (event : Event) (ss : List Session) → AreDifferent (pins_of ss) → AreBeside (all_freed event ss) (pins_of (all_kept event ss))
kept_beside event [] d = tt
kept_beside event (s ∷ ss) d =
    let own : List Pinning = pin_of s.transaction in
    let mine : List Pinning = pins_of (kept event s) in
    let others : List Pinning = pins_of (all_kept event ss) in
    let gone : List Pinning = freed event s in
    let more : List Pinning = all_freed event ss in
    let beside : AreBeside (pins_of ss) own = different_beside own (pins_of ss) d in
    let mine_more : AreBeside more mine = part_kept (IsNoneOf more) own mine gone (parts event s) (all_also (IsNoneOf (pins_of ss)) (IsNoneOf more) own (λ pin none. of_freed (λ (other : Pinning). pin ≢ other) event ss none) beside) in
    let gone_others : AreBeside others gone = part_gone (IsNoneOf others) own mine gone (parts event s) (all_also (IsNoneOf (pins_of ss)) (IsNoneOf others) own (λ pin none. of_kept (λ (other : Pinning). pin ≢ other) event ss none) beside) in
    subst (AreBeside (gone ++ more)) (sym (pins_append (kept event s) (all_kept event ss)))
    (all_both (IsNoneOf (gone ++ more)) mine others
    (beside_more gone more mine (part_beside own mine gone (parts event s)) mine_more)
    (beside_more gone more others (beside_turned others gone gone_others) (kept_beside event ss (different_back own (pins_of ss) d))))

-- a mark of the sessions is kept or let go
part_contains : (all kept gone : List Pinning) (pin : Pinning) → Parts all kept gone → Contains all pin → Contains kept pin ⊎ Contains gone pin
part_contains all kept gone pin (inl (e, f)) in_all = inl (subst (λ (pins : List Pinning). Contains pins pin) (sym e) in_all)
part_contains all kept gone pin (inr (e, f)) in_all = inr (subst (λ (pins : List Pinning). Contains pins pin) (sym f) in_all)

pub kept_or_freed : (event : Event) (ss : List Session) (pin : Pinning) → Contains (pins_of ss) pin → Contains (pins_of (all_kept event ss)) pin ⊎ Contains (all_freed event ss) pin
kept_or_freed event [] pin in_all = let within : in_all.0 < 0 = in_all.1 in absurd (omega arith)
kept_or_freed event (s ∷ ss) pin in_all =
    let whole : pins_of (kept event s ++ all_kept event ss) ≡ pins_of (kept event s) ++ pins_of (all_kept event ss) = pins_append (kept event s) (all_kept event ss) in
    let to_kept : Contains (pins_of (kept event s) ++ pins_of (all_kept event ss)) pin → Contains (pins_of (kept event s ++ all_kept event ss)) pin = subst (λ (pins : List Pinning). Contains pins pin) (sym whole) in
    elim (Contains-append_cases (pin_of s.transaction) (pins_of ss) pin in_all) [
      | inl own ↦ elim (part_contains (pin_of s.transaction) (pins_of (kept event s)) (freed event s) pin (parts event s) own) [
        | inl k ↦ inl (to_kept (Contains-append_left (pins_of (kept event s)) (pins_of (all_kept event ss)) pin k))
        | inr g ↦ inr (Contains-append_left (freed event s) (all_freed event ss) pin g)
      ]
      | inr other ↦ elim (kept_or_freed event ss pin other) [
        | inl k ↦ inl (to_kept (Contains-append_right (pins_of (kept event s)) (pins_of (all_kept event ss)) pin k))
        | inr g ↦ inr (Contains-append_right (freed event s) (all_freed event ss) pin g)
      ]
    ]

stands_not : (pins : List Pinning) (pin : Pinning) (k : ℕ) → k < length pins → get_or pins k pin ≡ pin → IsNoneOf pins pin → ⊥
stands_not [] pin k within is none = absurd (omega arith)
stands_not (p ∷ pins) pin zero within is none = none.0 (sym is)
stands_not (p ∷ pins) pin (suc k) within is none = let shorter : k < length pins = omega arith in stands_not pins pin k shorter is none.1

pub not_none : (pins : List Pinning) (pin : Pinning) → Contains pins pin → IsNoneOf pins pin → ⊥
not_none pins pin there none = stands_not pins pin there.0 there.1 there.2 none

-- the live marks stay those of the sessions
pub marks_left : (event : Event) (ss : List Session) (old new : List Database) → AreMarks (pins_of ss) old → Released (all_freed event ss) old new → AreMarks (pins_of (all_kept event ss)) new
marks_left event ss old new marks released = record {
  live = stay_live (all_freed event ss) (pins_of (all_kept event ss)) old new released (kept_beside event ss marks.apart) (of_kept (IsPinned old) event ss marks.live);
  apart = kept_different event ss marks.apart;
  only = λ pin live.
      let before = released.spent pin live in
      elim (kept_or_freed event ss pin (marks.only pin before.0)) [
        | inl k ↦ k
        | inr g ↦ absurd (not_none (all_freed event ss) pin g before.1)
      ];
}
