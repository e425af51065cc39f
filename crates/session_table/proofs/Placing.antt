-- One session in place of another of its connection, and one more session.
use Rattle.std.proofs.Common.{◌≡◌, ◌≢◌, ℕ, zero, suc, ◌+◌, ◌<◌, ◌≤◌, Bool, true, false, cond, not, ◌&&◌, List, [], ◌∷◌, ◌++◌, length, map, set, get_or, remove, Result, Ok, Err, OnOk, OnErr, inl, inr, refl, sym, ap, subst, ◌∙◌, arith}
use Rattle.std.specs.Prelude.{◌==◌, nat_lt}
use Rattle.std.specs.List.{AllByRecursion}
use Rattle.std.proofs.lemmas.Bool.{cases_Bool, eqb-true, eqb-false, ne_eqb, lt-ltb, le-ltb}
use Rattle.std.proofs.lemmas.List.{append-nil, length-set, length-append, map-append, length-map, get_or_default}
use Rattle.database_state.specs.declared.database.Database.{Database}
use Rattle.database_state.specs.Pins.{Pinning}
use Rattle.session_spec.specs.Sessions.{Session as RuleSession, Gateway, absent, fresh}
use Rattle.session_spec.specs.Requests.{with_session}
use Rattle.session_spec.specs.Events.{connects, connected}
use Rattle.session_table.specs.declared.session.Session.{Session}
use Rattle.session_table.specs.Table.{session_of, session_at, table_of, AreApart, IsTable, pin_of, pins_of}
use Rattle.session_table.specs.Changing.{IsAbsent, StandsAt, FreshFor, Joined, changed_by}
use Rattle.session_table.specs.declared.change.Change.{Change}
use Rattle.session_table.proofs.Found.{here, elsewhere}
use Rattle.session_table.proofs.Swept.{none_there, its_session}
use Rattle.session_table.proofs.Releasing.{all_both}
use Rattle.session_table.proofs.Parting.{pins_append}
use Rattle.session_table.proofs.Following.{IsSame, same_session}

-- ---- at a place

-- what holds of all sessions holds of the one at a place
pub at_place : {X : Type 0} (P : X → Type 0) (xs : List X) (place : ℕ) (d : X) → place < length xs → AllByRecursion P xs → P (get_or xs place d)
at_place P [] place d within all = absurd (omega arith)
at_place P (x ∷ xs) zero d within all = all.0
at_place P (x ∷ xs) (suc place) d within all = let h : place < length xs = omega arith in at_place P xs place d h all.1

-- the session that is at a place is that of its connection
pub stands : (databases : List Database) (ss : List Session) (place : ℕ) (d : Session) → AreApart ss → place < length ss → session_at databases ss (get_or ss place d).conn ≡ session_of databases (get_or ss place d)
stands databases [] place d apart within = absurd (omega arith)
stands databases (s ∷ ss) zero d apart within = here databases s ss
stands databases (s ∷ ss) (suc place) d apart within =
    let h : place < length ss = omega arith in
    elsewhere databases s ss (get_or ss place d).conn (at_place (λ (t : Session). s.conn ≢ t.conn) ss place d h apart.0) ∙ stands databases ss place d apart.1 h

module _ (old new : List Database) where
  abbrev AllSame : List Session → Type 0
  AllSame ss = AllByRecursion (λ (s : Session). IsSame old new s.transaction) ss

  same_at : (ss : List Session) (conn : ℕ) → AllSame ss → session_at new ss conn ≡ session_at old ss conn
  unfolding session_at
  same_at [] conn same = refl
  same_at (s ∷ ss) conn same = elim (cases_Bool (s.conn == conn)) [
    | inl own ↦ its_session new s ss conn (eqb-true s.conn conn own) ∙ same_session old new s same.0 ∙ sym (its_session old s ss conn (eqb-true s.conn conn own))
    | inr other ↦ elsewhere new s ss conn (eqb-false s.conn conn other) ∙ same_at ss conn same.1 ∙ sym (elsewhere old s ss conn (eqb-false s.conn conn other))
  ]

  -- the session of a connection after another one took the place of one of them
  set_session : (ss : List Session) (place conn : ℕ) (to : Session) (now : RuleSession) → AreApart ss → place < length ss → (get_or ss place to).conn ≡ to.conn → session_of new to ≡ now → AllSame (remove ss place)
      → session_at new (set ss place to) conn ≡ cond (conn == to.conn) now (session_at old ss conn)
  set_session [] place conn to now apart within own is same = absurd (omega arith)
  set_session (s ∷ ss) zero conn to now apart within own is same = elim (cases_Bool (conn == to.conn)) [
    | inl mine ↦
        let e : to.conn ≡ conn = sym (eqb-true conn to.conn mine) in
        its_session new to ss conn e ∙ is ∙ sym (ap (λ (b : Bool). cond b now (session_at old (s ∷ ss) conn)) mine)
    | inr other ↦
        let differs : to.conn ≢ conn = λ e. eqb-false conn to.conn other (sym e) in
        let differs_from : s.conn ≢ conn = λ e. differs (sym own ∙ e) in
        elsewhere new to ss conn differs ∙ same_at ss conn same ∙ sym (elsewhere old s ss conn differs_from) ∙ sym (ap (λ (b : Bool). cond b now (session_at old (s ∷ ss) conn)) other)
  ]
  set_session (s ∷ ss) (suc place) conn to now apart within own is same =
      let h : place < length ss = omega arith in
      let beside : s.conn ≢ to.conn = λ e. at_place (λ (t : Session). s.conn ≢ t.conn) ss place to h apart.0 (e ∙ sym own) in
      elim (cases_Bool (s.conn == conn)) [
        | inl mine ↦
            let e : s.conn ≡ conn = eqb-true s.conn conn mine in
            let other : (conn == to.conn) ≡ false = ne_eqb conn to.conn (λ f. beside (e ∙ f)) in
            its_session new s (set ss place to) conn e ∙ same_session old new s same.0 ∙ sym (its_session old s ss conn e) ∙ sym (ap (λ (b : Bool). cond b now (session_at old (s ∷ ss) conn)) other)
        | inr other ↦
            let differs : s.conn ≢ conn = eqb-false s.conn conn other in
            elsewhere new s (set ss place to) conn differs ∙ set_session ss place conn to now apart.1 h own is same.1
            ∙ ap (λ (r : RuleSession). cond (conn == to.conn) now r) (sym (elsewhere old s ss conn differs))
      ]

set_conns : (ss : List Session) (place : ℕ) (to : Session) → (get_or ss place to).conn ≡ to.conn → map (λ (s : Session). s.conn) (set ss place to) ≡ map (λ (s : Session). s.conn) ss
set_conns [] place to own = refl
set_conns (s ∷ ss) zero to own = ap (λ (n : ℕ). n ∷ map (λ (t : Session). t.conn) ss) (sym own)
set_conns (s ∷ ss) (suc place) to own = ap (λ (ns : List ℕ). s.conn ∷ ns) (set_conns ss place to own)

-- the table after another session took the place of one
pub set_table : (old new : List Database) (ss : List Session) (place weight conn : ℕ) (to : Session) (now : RuleSession) → AreApart ss → place < length ss → (get_or ss place to).conn ≡ conn → to.conn ≡ conn → session_of new to ≡ now
    → AllByRecursion (λ (s : Session). IsSame old new s.transaction) (remove ss place)
    → table_of new (set ss place to) weight ≡ with_session (table_of old ss weight) conn now
unfolding table_of with_session
set_table old new ss place weight conn to now apart within was own is same = λ i. record {
  conns = set_conns ss place to (was ∙ sym own) i;
  session = λ (other : ℕ). (set_session old new ss place other to now apart within (was ∙ sym own) is same ∙ ap (λ (n : ℕ). cond (other == n) now (session_at old ss other)) own) i;
  weight = weight;
}

pub all_the_same : (databases : List Database) (ss : List Session) → AllByRecursion (λ (s : Session). IsSame databases databases s.transaction) ss
all_the_same databases [] = tt
all_the_same databases (s ∷ ss) = (refl, all_the_same databases ss)

set_beside : (own : ℕ) (ss : List Session) (place : ℕ) (to : Session) → (get_or ss place to).conn ≡ to.conn → AllByRecursion (λ (t : Session). own ≢ t.conn) ss → AllByRecursion (λ (t : Session). own ≢ t.conn) (set ss place to)
set_beside own [] place to same beside = beside
set_beside own (s ∷ ss) zero to same beside = ((λ (e : own ≡ to.conn). beside.0 (e ∙ sym same)), beside.1)
set_beside own (s ∷ ss) (suc place) to same beside = (beside.0, set_beside own ss place to same beside.1)

pub set_apart : (ss : List Session) (place : ℕ) (to : Session) → (get_or ss place to).conn ≡ to.conn → AreApart ss → AreApart (set ss place to)
set_apart [] place to same apart = apart
set_apart (s ∷ ss) zero to same apart = (subst (λ (n : ℕ). AllByRecursion (λ (t : Session). n ≢ t.conn) ss) same apart.0, apart.1)
set_apart (s ∷ ss) (suc place) to same apart = (set_beside s.conn ss place to same apart.0, set_apart ss place to same apart.1)

pub set_is_table : (ss : List Session) (place : ℕ) (to : Session) → (get_or ss place to).conn ≡ to.conn → IsTable ss → IsTable (set ss place to)
set_is_table ss place to same table =
    let size : length (set ss place to) ≡ length ss = length-set ss place to in
    let few : length ss ≤ 64 = table.few in
    record { apart = set_apart ss place to same table.apart; few = omega arith }

pub set_pins : (ss : List Session) (place : ℕ) (to : Session) → pin_of (get_or ss place to).transaction ≡ pin_of to.transaction → pins_of (set ss place to) ≡ pins_of ss
set_pins [] place to same = refl
set_pins (s ∷ ss) zero to same = ap (λ (pins : List Pinning). pins ++ pins_of ss) (sym same)
set_pins (s ∷ ss) (suc place) to same = ap (λ (pins : List Pinning). pin_of s.transaction ++ pins) (set_pins ss place to same)

-- ---- one more session

more_session : (databases : List Database) (ss : List Session) (new : Session) (conn : ℕ) → IsAbsent new.conn ss → session_of databases new ≡ fresh
    → session_at databases (ss ++ new ∷ []) conn ≡ cond (conn == new.conn) fresh (session_at databases ss conn)
unfolding session_at
more_session databases [] new conn none is = elim (cases_Bool (conn == new.conn)) [
  | inl mine ↦ its_session databases new [] conn (sym (eqb-true conn new.conn mine)) ∙ is ∙ sym (ap (λ (b : Bool). cond b fresh absent) mine)
  | inr other ↦ elsewhere databases new [] conn (λ e. eqb-false conn new.conn other (sym e)) ∙ sym (ap (λ (b : Bool). cond b fresh absent) other)
]
more_session databases (s ∷ ss) new conn none is = elim (cases_Bool (s.conn == conn)) [
  | inl mine ↦
      let e : s.conn ≡ conn = eqb-true s.conn conn mine in
      let other : (conn == new.conn) ≡ false = ne_eqb conn new.conn (λ f. none.0 (sym f ∙ sym e)) in
      its_session databases s (ss ++ new ∷ []) conn e ∙ sym (its_session databases s ss conn e) ∙ sym (ap (λ (b : Bool). cond b fresh (session_at databases (s ∷ ss) conn)) other)
  | inr other ↦
      let differs : s.conn ≢ conn = eqb-false s.conn conn other in
      elsewhere databases s (ss ++ new ∷ []) conn differs ∙ more_session databases ss new conn none.1 is
      ∙ ap (λ (r : RuleSession). cond (conn == new.conn) fresh r) (sym (elsewhere databases s ss conn differs))
]

pub more_table : (databases : List Database) (ss : List Session) (weight conn : ℕ) (new : Session) → IsAbsent conn ss → FreshFor conn new → table_of databases (ss ++ new ∷ []) weight ≡ connected (table_of databases ss weight) conn
unfolding table_of connected
more_table databases ss weight conn new none is = λ i. record {
  conns = (map-append (λ (s : Session). s.conn) ss (new ∷ []) ∙ ap (λ (n : ℕ). map (λ (s : Session). s.conn) ss ++ n ∷ []) is.own) i;
  session = λ (other : ℕ). (more_session databases ss new other (subst (λ (n : ℕ). IsAbsent n ss) (sym is.own) none) (is.fresh_so databases) ∙ ap (λ (n : ℕ). cond (other == n) fresh (session_at databases ss other)) is.own) i;
  weight = weight;
}

more_apart : (ss : List Session) (new : Session) → IsAbsent new.conn ss → AreApart ss → AreApart (ss ++ new ∷ [])
more_apart [] new none apart = (tt, tt)
more_apart (s ∷ ss) new none apart = (all_both (λ (t : Session). s.conn ≢ t.conn) ss (new ∷ []) apart.0 ((λ (e : s.conn ≡ new.conn). none.0 (sym e)), tt), more_apart ss new none.1 apart.1)

pub more_is_table : (ss : List Session) (new : Session) (conn : ℕ) → IsAbsent conn ss → FreshFor conn new → length ss < 64 → IsTable ss → IsTable (ss ++ new ∷ [])
more_is_table ss new conn none is few table =
    let size : length (ss ++ new ∷ []) ≡ length ss + 1 = length-append ss (new ∷ []) in
    record { apart = more_apart ss new (subst (λ (n : ℕ). IsAbsent n ss) (sym is.own) none) table.apart; few = omega arith }

pub more_pins : (ss : List Session) (new : Session) (conn : ℕ) → FreshFor conn new → pins_of (ss ++ new ∷ []) ≡ pins_of ss
more_pins ss new conn is = pins_append ss (new ∷ []) ∙ ap (λ (pins : List Pinning). pins_of ss ++ (pins ++ [])) is.unmarked ∙ append-nil (pins_of ss)

-- ---- whether a connection gets a session

joined_so : (g : Gateway) (conn : ℕ) (new : Bool) (now : Gateway) → connects g conn ≡ new → now ≡ cond new (connected g conn) g → Joined g conn new now
joined_so g conn new now told is = record { told = sym told; table = is ∙ ap (λ (b : Bool). cond b (connected g conn) g) (sym told) }

may_join : (databases : List Database) (ss : List Session) (weight conn : ℕ) → IsAbsent conn ss → length ss < 64 → connects (table_of databases ss weight) conn ≡ true
unfolding connects table_of
may_join databases ss weight conn none few =
    ap (λ (r : RuleSession). not r.there && nat_lt (length (map (λ (s : Session). s.conn) ss)) 64) (none_there databases ss conn none)
    ∙ ap (λ (n : ℕ). nat_lt n 64) (length-map ss (λ (s : Session). s.conn)) ∙ lt-ltb (length ss) 64 few

is_full : (databases : List Database) (ss : List Session) (weight conn : ℕ) → 64 ≤ length ss → connects (table_of databases ss weight) conn ≡ false
unfolding connects table_of
is_full databases ss weight conn full =
    ap (λ (n : ℕ). not (session_at databases ss conn).there && nat_lt n 64) (length-map ss (λ (s : Session). s.conn))
    ∙ ap (λ (b : Bool). not (session_at databases ss conn).there && b) (le-ltb (length ss) 64 full)
    ∙ elim (session_at databases ss conn).there as (λ (b : Bool). not b && false ≡ false) [ true ↦ refl | false ↦ refl ]

is_taken : (databases : List Database) (ss : List Session) (weight conn place : ℕ) (d : Session) → AreApart ss → StandsAt conn ss place → connects (table_of databases ss weight) conn ≡ false
unfolding connects table_of
is_taken databases ss weight conn place d apart at =
    ap (λ (n : ℕ). not (session_at databases ss n).there && nat_lt (length (map (λ (s : Session). s.conn) ss)) 64) (sym (at.own d))
    ∙ ap (λ (r : RuleSession). not r.there && nat_lt (length (map (λ (s : Session). s.conn) ss)) 64) (stands databases ss place d apart at.within)

pub joins : (databases : List Database) (ss : List Session) (weight conn : ℕ) (new : Session) → IsAbsent conn ss → length ss < 64 → FreshFor conn new → Joined (table_of databases ss weight) conn true (table_of databases (ss ++ new ∷ []) weight)
joins databases ss weight conn new none few is = joined_so (table_of databases ss weight) conn true (table_of databases (ss ++ new ∷ []) weight) (may_join databases ss weight conn none few) (more_table databases ss weight conn new none is)

pub full_stays : (databases : List Database) (ss : List Session) (weight conn : ℕ) → 64 ≤ length ss → Joined (table_of databases ss weight) conn false (table_of databases ss weight)
full_stays databases ss weight conn full = joined_so (table_of databases ss weight) conn false (table_of databases ss weight) (is_full databases ss weight conn full) refl

pub taken_stays : (databases : List Database) (ss : List Session) (weight conn place : ℕ) → AreApart ss → StandsAt conn ss place → Joined (table_of databases ss weight) conn false (table_of databases ss weight)
taken_stays databases [] weight conn place apart at = let within : place < 0 = at.within in absurd (omega arith)
taken_stays databases (s ∷ ss) weight conn place apart at = joined_so (table_of databases (s ∷ ss) weight) conn false (table_of databases (s ∷ ss) weight) (is_taken databases (s ∷ ss) weight conn place s apart at) refl

-- ---- a session that was changed

-- a session in its own place changes nothing
same_place : (g : Gateway) (conn : ℕ) → with_session g conn (g.session conn) ≡ g
unfolding with_session
same_place g conn = λ i. record {
  conns = g.conns;
  session = λ (other : ℕ). (elim (cases_Bool (other == conn)) as (λ (_ : _). cond (other == conn) (g.session conn) (g.session other) ≡ g.session other) [
    | inl mine ↦ ap (λ (b : Bool). cond b (g.session conn) (g.session other)) mine ∙ ap g.session (sym (eqb-true other conn mine))
    | inr apart ↦ ap (λ (b : Bool). cond b (g.session conn) (g.session other)) apart
  ]) i;
  weight = g.weight;
}

pub session_there : (databases : List Database) (ss : List Session) (weight conn place : ℕ) (d : Session) → AreApart ss → StandsAt conn ss place → (table_of databases ss weight).session conn ≡ session_of databases (get_or ss place d)
unfolding table_of
session_there databases ss weight conn place d apart at = ap (session_at databases ss) (sym (at.own d)) ∙ stands databases ss place d apart at.within

module _ (ss : List Session) (place conn : ℕ) (apart : AreApart ss) (at : StandsAt conn ss place) (s to : Session) (is : s ≡ get_or ss place s) (same_conn : to.conn ≡ s.conn) where
  pub its_own : get_or ss place to ≡ s
  its_own = get_or_default ss place to s at.within ∙ sym is

  pub was_own : (get_or ss place to).conn ≡ to.conn
  was_own = ap (λ (t : Session). t.conn) its_own ∙ sym same_conn

  there : (databases : List Database) (weight : ℕ) → (table_of databases ss weight).session conn ≡ session_of databases s
  there databases weight = session_there databases ss weight conn place s apart at ∙ ap (session_of databases) (sym is)

  -- with another session in its place
  pub put_table : (databases : List Database) (weight : ℕ) (now : RuleSession) → session_of databases to ≡ now → table_of databases (set ss place to) weight ≡ with_session (table_of databases ss weight) conn now
  put_table databases weight now so = set_table databases databases ss place weight conn to now apart at.within (at.own to) (sym was_own ∙ at.own to) so (all_the_same databases (remove ss place))

  pub change_table : (databases : List Database) (weight : ℕ) (change : Change) → session_of databases to ≡ changed_by (session_of databases s) change
      → table_of databases (set ss place to) weight ≡ with_session (table_of databases ss weight) conn (changed_by ((table_of databases ss weight).session conn) change)
  change_table databases weight change so =
      put_table databases weight (changed_by (session_of databases s) change) so
      ∙ ap (λ (r : RuleSession). with_session (table_of databases ss weight) conn (changed_by r change)) (sym (there databases weight))

  pub keep_table : (databases : List Database) (weight : ℕ) → session_of databases to ≡ session_of databases s → table_of databases (set ss place to) weight ≡ table_of databases ss weight
  keep_table databases weight so =
      put_table databases weight (session_of databases s) so
      ∙ ap (λ (r : RuleSession). with_session (table_of databases ss weight) conn r) (sym (there databases weight))
      ∙ same_place (table_of databases ss weight) conn

  pub keep_pins : pin_of to.transaction ≡ pin_of s.transaction → pins_of (set ss place to) ≡ pins_of ss
  keep_pins same = set_pins ss place to (ap (λ (t : Session). pin_of t.transaction) its_own ∙ sym same)

pub ok_also : {X E : Type 0} (r : Result X E) (P Q : Type 0) → (P → Q) → OnOk r P → OnOk r Q
ok_also (Ok x) P Q so p = so p
ok_also (Err e) P Q so p = tt

pub err_also : {X E : Type 0} (r : Result X E) (P Q : Type 0) → (P → Q) → OnErr r P → OnErr r Q
err_also (Ok x) P Q so p = tt
err_also (Err e) P Q so p = so p
