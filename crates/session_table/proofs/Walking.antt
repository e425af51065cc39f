-- A walk over all sessions, of which some go.
use Rattle.std.proofs.Common.{◌≡◌, ◌≢◌, ℕ, ◌+◌, ◌<◌, ◌≤◌, Bool, true, false, List, [], ◌∷◌, ◌++◌, length, get_or, take, drop, set, refl, sym, ap, subst, ◌∙◌, arith}
use Rattle.std.specs.List.{AllByRecursion}
use Rattle.std.proofs.lemmas.List.{append_assoc, append-nil, drop_more, take_more_set, take-set, take_at, drop_at, drop-set-lt, drop_all, take_all, length-take-le, length-append}
use Rattle.wire_msgs.specs.declared.response.Response.{Response}
use Rattle.database_state.specs.declared.database.Database.{Database}
use Rattle.database_state.specs.Pins.{Pinning, IsPinned}
use Rattle.session_table.specs.declared.session.Session.{Session}
use Rattle.session_table.specs.declared.sweep.Event.{Event}
use Rattle.session_table.specs.Table.{pin_of, pins_of}
use Rattle.session_table.specs.Marks.{IsNoneOf, AreDifferent, Released}
use Rattle.session_table.specs.Sweeping.{kept, all_kept, freed, all_freed, said, all_said, SweptOne}
use Rattle.session_table.proofs.Releasing.{all_front, all_back, all_also, AreBeside, beside_turned, different_back, different_beside, released_none, released_both, stay_live}
use Rattle.session_table.proofs.Parting.{of_freed_one}

-- So far the sessions before a place were walked over: these are left of them, and those from there on are as they were.
pub record Walked (event : Event) (all now : List Session) (place : ℕ) (old new : List Database) (told_before told_now : List (ℕ × Response)) : Type 0 where
  pub left : all_kept event all ≡ take place now ++ all_kept event (drop place now)
  pub gone : List Pinning
  pub released : Released gone old new
  pub freed_so : all_freed event all ≡ gone ++ all_freed event (drop place now)
  pub said_so : told_before ++ all_said event all ≡ told_now ++ all_said event (drop place now)
  pub live : AllByRecursion (IsPinned new) (pins_of (drop place now))
  pub apart : AreDifferent (pins_of (drop place now))

pub walk_begins : (event : Event) (all : List Session) (databases : List Database) (told : List (ℕ × Response)) → AllByRecursion (IsPinned databases) (pins_of all) → AreDifferent (pins_of all) → Walked event all all 0 databases databases told told
walk_begins event all databases told live apart = record {
  left = refl;
  gone = [];
  released = released_none databases;
  freed_so = refl;
  said_so = refl;
  live = live;
  apart = apart;
}

module _ (event : Event) (all now : List Session) (place : ℕ) (old mid new : List Database) (told_before told told_now : List (ℕ × Response)) (s to : Session)
    (within : place < length now) (is : s ≡ get_or now place s) (walked : Walked event all now place old mid told_before told) where
  abbrev rest : List Session
  rest = drop (place + 1) now

  front : drop place now ≡ s ∷ rest
  front = drop_more now place s within ∙ ap (λ (x : Session). x ∷ drop (place + 1) now) (sym is)

  own_live : AllByRecursion (IsPinned mid) (pin_of s.transaction ++ pins_of rest)
  own_live = subst (λ (xs : List Session). AllByRecursion (IsPinned mid) (pins_of xs)) front walked.live

  own_apart : AreDifferent (pin_of s.transaction ++ pins_of rest)
  own_apart = subst (λ (xs : List Session). AreDifferent (pins_of xs)) front walked.apart

  pub next_live : AllByRecursion (IsPinned mid) (pin_of s.transaction)
  next_live = all_front (IsPinned mid) (pin_of s.transaction) (pins_of rest) own_live

  pub next_said : all_said event (drop place now) ≡ said event s ++ all_said event (drop (place + 1) now)
  next_said = ap (all_said event) front

  rest_live : Released (freed event s) mid new → AllByRecursion (IsPinned new) (pins_of rest)
  rest_live released =
      let beside : AreBeside (pin_of s.transaction) (pins_of rest) = beside_turned (pins_of rest) (pin_of s.transaction) (different_beside (pin_of s.transaction) (pins_of rest) own_apart) in
      stay_live (freed event s) (pins_of rest) mid new released
      (all_also (IsNoneOf (pin_of s.transaction)) (IsNoneOf (freed event s)) (pins_of rest) (λ pin none. of_freed_one (λ (other : Pinning). pin ≢ other) event s none) beside)
      (all_back (IsPinned mid) (pin_of s.transaction) (pins_of rest) own_live)

  further : (later : List Session) (at : ℕ) (stays : Bool) → SweptOne event s to stays mid new told told_now → take at later ≡ take place now ++ kept event s → drop at later ≡ rest
      → Walked event all later at old new told_before told_now
  further later at stays swept before behind = record {
    left =
        walked.left ∙ ap (λ (xs : List Session). take place now ++ all_kept event xs) front
        ∙ sym (append_assoc (take place now) (kept event s) (all_kept event rest))
        ∙ ap (λ (xs : List Session). xs ++ all_kept event rest) (sym before)
        ∙ ap (λ (xs : List Session). take at later ++ all_kept event xs) (sym behind);
    gone = walked.gone ++ freed event s;
    released = released_both walked.gone (freed event s) old mid new walked.released swept.freed;
    freed_so =
        walked.freed_so ∙ ap (λ (xs : List Session). walked.gone ++ all_freed event xs) front
        ∙ sym (append_assoc walked.gone (freed event s) (all_freed event rest))
        ∙ ap (λ (xs : List Session). (walked.gone ++ freed event s) ++ all_freed event xs) (sym behind);
    said_so =
        walked.said_so ∙ ap (λ (xs : List Session). told ++ all_said event xs) front
        ∙ sym (append_assoc told (said event s) (all_said event rest))
        ∙ ap (λ (xs : List (ℕ × Response)). xs ++ all_said event rest) (sym swept.said)
        ∙ ap (λ (xs : List Session). told_now ++ all_said event xs) (sym behind);
    live = subst (λ (xs : List Session). AllByRecursion (IsPinned new) (pins_of xs)) (sym behind) (rest_live swept.freed);
    apart = subst (λ (xs : List Session). AreDifferent (pins_of xs)) (sym behind) (different_back (pin_of s.transaction) (pins_of rest) own_apart);
  }

  pub next_room : (len cap len_after cap_after : ℕ) (behind : List Session) → behind ≡ rest → len + length (all_said event (drop place now)) ≤ cap → len_after ≡ len + length (said event s) → cap ≤ cap_after
      → len_after + length (all_said event behind) ≤ cap_after
  next_room len cap len_after cap_after behind same room more grown =
      let sizes : length (all_said event (drop place now)) ≡ length (said event s) + length (all_said event rest) = ap length next_said ∙ length-append (said event s) (all_said event rest) in
      let size : length (all_said event behind) ≡ length (all_said event rest) = ap (λ (xs : List Session). length (all_said event xs)) same in
      omega arith

  -- one that stays
  pub behind_on : drop (place + 1) (set now place to) ≡ rest
  behind_on =
      let later : place < place + 1 = omega arith in
      drop-set-lt (place + 1) now place to later

  pub walk_on : SweptOne event s to true mid new told told_now → Walked event all (set now place to) (place + 1) old new told_before told_now
  walk_on swept =
      let before : take (place + 1) (set now place to) ≡ take place now ++ kept event s
      = take_more_set now place to within ∙ ap (λ (xs : List Session). take place now ++ xs) (sym swept.kept) in
      further (set now place to) (place + 1) true swept before behind_on

  -- one that goes
  module _ (left : List Session) (parts : left ≡ take place (set now place to) ++ drop (place + 1) (set now place to)) where
    same : left ≡ take place now ++ rest
    same = parts ∙ ap (λ (xs : List Session). xs ++ drop (place + 1) (set now place to)) (take-set now place to) ∙ ap (λ (xs : List Session). take place now ++ xs) behind_on

    size : length (take place now) ≡ place
    size = let short : place ≤ length now = omega arith in length-take-le place now short

    pub behind_off : drop place left ≡ rest
    behind_off = ap (drop place) same ∙ drop_at (take place now) rest place size

    pub walk_off : SweptOne event s to false mid new told told_now → Walked event all left place old new told_before told_now
    walk_off swept =
        let before : take place left ≡ take place now ++ kept event s
        = ap (take place) same ∙ take_at (take place now) rest place size ∙ sym (append-nil (take place now)) ∙ ap (λ (xs : List Session). take place now ++ xs) (sym swept.kept) in
        further left place false swept before behind_off

-- at the end
module _ (event : Event) (all now : List Session) (place : ℕ) (old new : List Database) (told_before told : List (ℕ × Response)) (past : length now ≤ place) (walked : Walked event all now place old new told_before told) where
  nothing : drop place now ≡ []
  nothing = drop_all place now past

  pub all_left : now ≡ all_kept event all
  all_left = sym (walked.left ∙ ap (λ (xs : List Session). take place now ++ all_kept event xs) nothing ∙ append-nil (take place now) ∙ take_all place now past)

  pub all_released : Released (all_freed event all) old new
  all_released = subst (λ (pins : List Pinning). Released pins old new) (sym (walked.freed_so ∙ ap (λ (xs : List Session). walked.gone ++ all_freed event xs) nothing ∙ append-nil walked.gone)) walked.released

  pub all_told : told ≡ told_before ++ all_said event all
  all_told = sym (walked.said_so ∙ ap (λ (xs : List Session). told ++ all_said event xs) nothing ∙ append-nil told)
