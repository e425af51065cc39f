-- Clients that wait, in the order in which they are told that leadership is lost.
use Rattle.std.proofs.Common.{◌≡◌, ℕ, suc, ◌≤◌, Bool, true, false, cond, List, [], ◌∷◌, ◌++◌, length, map, insert, Option, Some, None, refl, sym, ap, ◌∙◌, arith}
use Rattle.std.specs.Prelude.{nat_le, ◌==◌, ◌&&◌, ◌||◌, not, is_none}
use Rattle.std.specs.Option.{option_map}
use Rattle.std.specs.List.{AllByRecursion, filter, flat_map}
use Rattle.std.proofs.lemmas.List.{append-nil, append_assoc}
use Rattle.wire_msgs.specs.declared.response.Response.{Response}
use Rattle.database_state.specs.declared.database.Database.{Database}
use Rattle.session_spec.specs.Causes.{LeadershipLost, failure}
use Rattle.session_spec.specs.Sessions.{Reply, Refusal, Flight, Session as RuleSession}
use Rattle.session_spec.specs.Events.{placed, ordered, last_of, told_by, told_applied, told_lost}
use Rattle.session_spec.specs.Events as events
use Rattle.session_spec.specs.Sessions as rules
use Rattle.session_table.specs.Named.{later_named}
use Rattle.session_table.specs.declared.session.WaitingQuery.{WaitingQuery}
use Rattle.session_table.specs.declared.session.WaitingQuery.TheVariants as laters
use Rattle.session_table.specs.declared.session.Session.{Session}
use Rattle.session_table.specs.declared.sweep.Event.TheVariants.{Applied}
use Rattle.session_table.specs.Table.{session_of, session_at, table_of, AreApart}
use Rattle.session_table.specs.Sweeping.{told_in, all_told, told_landed, said_applied, all_said}
use Rattle.session_table.specs.Waiting.{is_due, waits, place_for, placed_in, waiting_in, told_lost_to}
use Rattle.session_table.proofs.Found.{IsFound, all_found}

pub place_within : (last : ℕ) (ws : List (ℕ × ℕ)) → place_for last ws ≤ length ws
place_within last [] = omega arith
place_within last (w ∷ ws) = elim (nat_le last w.0) as (λ (b : Bool). cond b 0 (suc (place_for last ws)) ≤ suc (length ws)) [
  | true ↦ omega arith
  | false ↦ let h : place_for last ws ≤ length ws = place_within last ws in omega arith
]

pub put_in_place : (new : ℕ × ℕ) (ws : List (ℕ × ℕ)) → insert ws (place_for new.0 ws) new ≡ placed_in new ws
put_in_place new [] = refl
put_in_place new (w ∷ ws) = elim (nat_le new.0 w.0) as (λ (b : Bool). insert (w ∷ ws) (cond b 0 (suc (place_for new.0 ws))) new ≡ cond b (new ∷ w ∷ ws) (w ∷ placed_in new ws)) [
  | true ↦ refl
  | false ↦ ap (λ (vs : List (ℕ × ℕ)). w ∷ vs) (put_in_place new ws)
]

-- ---- in the order of the rules

module _ (key : ℕ → ℕ) where
  -- each is there with the key of its connection
  abbrev HasKey : ℕ × ℕ → Type 0
  HasKey w = w.0 ≡ key w.1

  placed_keys : (new : ℕ × ℕ) (ws : List (ℕ × ℕ)) → HasKey new → AllByRecursion HasKey ws → AllByRecursion HasKey (placed_in new ws)
  placed_keys new [] own all = (own, tt)
  placed_keys new (w ∷ ws) own all = elim (nat_le new.0 w.0) as (λ (b : Bool). AllByRecursion HasKey (cond b (new ∷ w ∷ ws) (w ∷ placed_in new ws))) [
    | true ↦ (own, all)
    | false ↦ (all.0, placed_keys new ws own all.1)
  ]

  abbrev conns_of : List (ℕ × ℕ) → List ℕ
  conns_of ws = map (λ (w : ℕ × ℕ). w.1) ws

  placed_conns : (new : ℕ × ℕ) (ws : List (ℕ × ℕ)) → HasKey new → AllByRecursion HasKey ws → conns_of (placed_in new ws) ≡ placed key new.1 (conns_of ws)
  placed_conns new [] own all = refl
  placed_conns new (w ∷ ws) own all =
      (elim (nat_le new.0 w.0) as (λ (b : Bool). conns_of (cond b (new ∷ w ∷ ws) (w ∷ placed_in new ws)) ≡ cond b (new.1 ∷ w.1 ∷ conns_of ws) (w.1 ∷ placed key new.1 (conns_of ws))) [
        | true ↦ refl
        | false ↦ ap (λ (ns : List ℕ). w.1 ∷ ns) (placed_conns new ws own all.1)
      ])
      ∙ ap (λ (b : Bool). cond b (new.1 ∷ w.1 ∷ conns_of ws) (w.1 ∷ placed key new.1 (conns_of ws))) (ap (λ (n : ℕ). nat_le n w.0) own ∙ ap (λ (n : ℕ). nat_le (key new.1) n) all.0)

module _ (databases : List Database) (all : List Session) where
  abbrev key : ℕ → ℕ
  key conn = last_of (session_at databases all conn).flight

  abbrev waits_there : ℕ → Bool
  waits_there conn = events.waits (session_at databases all conn)

  -- the rules see it wait too
  waits_same : (s : Session) → events.waits (session_of databases s) ≡ waits s
  waits_same s = ap (λ (b : Bool). not s.hung && (not (is_none s.flight) || b)) (same_due s.later)
    where
      same_due : (l : Option WaitingQuery) → rules.is_due (option_map later_named l) ≡ is_due l
      same_due None = refl
      same_due (Some (laters.Due query)) = refl
      same_due (Some (laters.Lent query)) = refl

  waiting_keys : (ss : List Session) → AllByRecursion (IsFound databases all) ss → AllByRecursion (HasKey key) (waiting_in ss)
  waiting_keys [] found = tt
  waiting_keys (s ∷ ss) found = elim (waits s) as (λ (b : Bool). AllByRecursion (HasKey key) (cond b (placed_in (last_of s.flight, s.conn) (waiting_in ss)) (waiting_in ss))) [
    | true ↦ placed_keys key (last_of s.flight, s.conn) (waiting_in ss) (sym (ap (λ (r : RuleSession). last_of r.flight) found.0)) (waiting_keys ss found.1)
    | false ↦ waiting_keys ss found.1
  ]

  waiting_conns : (ss : List Session) → AllByRecursion (IsFound databases all) ss → conns_of key (waiting_in ss) ≡ ordered key (filter waits_there (map (λ (s : Session). s.conn) ss))
  waiting_conns [] found = refl
  waiting_conns (s ∷ ss) found =
      let others : List ℕ = filter waits_there (map (λ (t : Session). t.conn) ss) in
      (elim (waits s) as (λ (b : Bool). conns_of key (cond b (placed_in (last_of s.flight, s.conn) (waiting_in ss)) (waiting_in ss)) ≡ ordered key (cond b (s.conn ∷ others) others)) [
        | true ↦ placed_conns key (last_of s.flight, s.conn) (waiting_in ss) (sym (ap (λ (r : RuleSession). last_of r.flight) found.0)) (waiting_keys ss found.1) ∙ ap (placed key s.conn) (waiting_conns ss found.1)
        | false ↦ waiting_conns ss found.1
      ])
      ∙ ap (λ (b : Bool). ordered key (cond b (s.conn ∷ others) others)) (sym (waits_same s))
      ∙ sym (ap (λ (r : RuleSession). ordered key (cond (events.waits r) (s.conn ∷ others) others)) found.0)

lost_told : (ws : List (ℕ × ℕ)) → told_lost_to ws ≡ all_told (map (λ (conn : ℕ). (conn, Refusal LeadershipLost)) (map (λ (w : ℕ × ℕ). w.1) ws))
lost_told [] = refl
lost_told (w ∷ ws) = ap (λ (told : List (ℕ × Response)). (w.1, failure LeadershipLost) ∷ told) (lost_told ws)

-- who is told that leadership is lost
pub told_so : (databases : List Database) (ss : List Session) (weight : ℕ) → AreApart ss → told_lost_to (waiting_in ss) ≡ all_told (told_lost (table_of databases ss weight))
unfolding told_lost table_of
told_so databases ss weight apart =
    lost_told (waiting_in ss)
    ∙ ap (λ (conns : List ℕ). all_told (map (λ (conn : ℕ). (conn, Refusal LeadershipLost)) conns)) (waiting_conns databases ss ss (all_found databases ss apart))

-- ---- an entry is applied

flat_both : (xs ys : List (ℕ × Reply)) → all_told (xs ++ ys) ≡ all_told xs ++ all_told ys
flat_both [] ys = refl
flat_both (x ∷ xs) ys = ap (λ (told : List (ℕ × Response)). told_in x ++ told) (flat_both xs ys) ∙ sym (append_assoc (told_in x) (all_told xs) (all_told ys))

one_told : (conn : ℕ) (reply : Option Reply) → all_told (events.told_to conn reply) ≡ told_landed conn reply
one_told conn None = refl
one_told conn (Some reply) = append-nil (told_in (conn, reply))

said_one : (index : ℕ) (databases : List Database) (s : Session) (flight : Option Flight) → all_told (told_by index s.conn (session_of databases s) flight) ≡ said_applied index s flight
said_one index databases s None = refl
said_one index databases s (Some f) = elim (f.last == index) as (λ (b : Bool). all_told (cond b (cond s.hung [] (events.told_to s.conn (events.landed_reply f.kind))) []) ≡ cond b (cond s.hung [] (told_landed s.conn (events.landed_reply f.kind))) []) [
  | true ↦ elim s.hung as (λ (h : Bool). all_told (cond h [] (events.told_to s.conn (events.landed_reply f.kind))) ≡ cond h [] (told_landed s.conn (events.landed_reply f.kind))) [
    | true ↦ refl
    | false ↦ one_told s.conn (events.landed_reply f.kind)
  ]
  | false ↦ refl
]

said_all : (index : ℕ) (databases : List Database) (all ss : List Session) → AllByRecursion (IsFound databases all) ss
    → all_told (flat_map (λ (conn : ℕ). told_by index conn (session_at databases all conn) (session_at databases all conn).flight) (map (λ (s : Session). s.conn) ss)) ≡ all_said (Applied index) ss
said_all index databases all [] found = refl
said_all index databases all (s ∷ ss) found =
    let others : List (ℕ × Reply) = flat_map (λ (conn : ℕ). told_by index conn (session_at databases all conn) (session_at databases all conn).flight) (map (λ (t : Session). t.conn) ss) in
    flat_both (told_by index s.conn (session_at databases all s.conn) (session_at databases all s.conn).flight) others
    ∙ ap (λ (r : RuleSession). all_told (told_by index s.conn r r.flight) ++ all_told others) found.0
    ∙ ap (λ (told : List (ℕ × Response)). told ++ all_told others) (said_one index databases s s.flight)
    ∙ ap (λ (told : List (ℕ × Response)). said_applied index s s.flight ++ told) (said_all index databases all ss found.1)

-- who is told what where an entry is applied
pub said_so : (index : ℕ) (databases : List Database) (ss : List Session) (weight : ℕ) → AreApart ss → all_said (Applied index) ss ≡ all_told (told_applied index (table_of databases ss weight))
unfolding told_applied table_of
said_so index databases ss weight apart = sym (said_all index databases ss ss (all_found databases ss apart))
