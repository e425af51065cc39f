-- What is left of the sessions is what the rules leave of the table.
use Rattle.std.proofs.Common.{◌≡◌, ℕ, Bool, true, false, cond, List, [], ◌∷◌, map, Option, Some, None, option_map, inl, inr, refl, sym, ap, subst, ◌∙◌}
use Rattle.std.specs.Prelude.{◌==◌, ◌&&◌, ◌||◌, not, is_none}
use Rattle.std.specs.List.{AllByRecursion, filter}
use Rattle.std.proofs.lemmas.Bool.{cases_Bool, eqb-true}
use Rattle.database_state.specs.declared.database.Database.{Database}
use Rattle.database_state.specs.Pins.{Pinning, IsPinned}
use Rattle.session_spec.specs.Sessions.{Kind, Opening, Configuring, Writing, Committing, Querying, Flight, Transaction as RuleTransaction, Session as RuleSession, Gateway, absent}
use Rattle.session_spec.specs.Requests.{with_tx, with_session}
use Rattle.session_spec.specs.Events as events
use Rattle.session_spec.specs.Events.{tidy, on_applied, on_lost, on_hangup}
use Rattle.session_spec.specs.Sessions.{Due, Later as RuleLater}
use Rattle.session_table.specs.Named.{later_named}
use Rattle.session_table.specs.declared.session.WaitingQuery.{WaitingQuery}
use Rattle.session_table.specs.declared.session.WaitingQuery.TheVariants as laters
use Rattle.session_table.specs.declared.session.Session.{Session}
use Rattle.session_table.specs.declared.session.Transaction.{Transaction}
use Rattle.session_table.specs.declared.sweep.Event.{Event}
use Rattle.session_table.specs.declared.sweep.Event.TheVariants.{Applied, Lost, Left, Ended}
use Rattle.session_table.specs.Table.{database_of, image_pinned, transaction_of, session_of, session_at, table_of, AreApart, mark_of, pin_of, pins_of}
use Rattle.session_table.specs.Marks.{IsNoneOf, AreMarks, Released}
use Rattle.session_table.specs.Sweeping.{still_lent, loses, lost, stopped, done, kept_applied, kept_left, kept, all_kept, all_freed, after}
use Rattle.session_table.proofs.Releasing.{all_front, all_back, AreBeside}
use Rattle.session_table.proofs.Parting.{of_kept, kept_beside}
use Rattle.session_table.proofs.Found.{IsFound, all_found}
use Rattle.session_table.proofs.Swept.{Fits, Sweeps, swept_table}

-- ---- the images that transactions have pinned

-- a transaction has pinned the same image
abbrev pub IsSame : List Database → List Database → Option Transaction → Type 0
IsSame old new tx = option_map (transaction_of new) tx ≡ option_map (transaction_of old) tx

same_image : (gone : List Pinning) (old new : List Database) (pin : Option Pinning) → Released gone old new → AreBeside gone (mark_of pin) → AllByRecursion (IsPinned old) (mark_of pin) → image_pinned new pin ≡ image_pinned old pin
same_image gone old new None released beside live = refl
same_image gone old new (Some pin) released beside live = (released.still pin beside.0).same_image live.0

pub same_pin : (gone : List Pinning) (old new : List Database) (tx : Option Transaction) → Released gone old new → AreBeside gone (pin_of tx) → AllByRecursion (IsPinned old) (pin_of tx) → IsSame old new tx
same_pin gone old new None released beside live = refl
same_pin gone old new (Some x) released beside live =
    ap (λ (image : _). Some (record { name = x.name; mark = x.mark; pinned = image; working = x.working; turn = x.turn; touched = x.touched.items })) (same_image gone old new x.pin released beside live)

-- this holds for all sessions whose marks stay
pub same_pins : (gone : List Pinning) (old new : List Database) (ss : List Session) → Released gone old new → AreBeside gone (pins_of ss) → AllByRecursion (IsPinned old) (pins_of ss) → AllByRecursion (λ (s : Session). IsSame old new s.transaction) ss
same_pins gone old new [] released beside live = tt
same_pins gone old new (s ∷ ss) released beside live = (
  same_pin gone old new s.transaction released (all_front (IsNoneOf gone) (pin_of s.transaction) (pins_of ss) beside) (all_front (IsPinned old) (pin_of s.transaction) (pins_of ss) live),
  same_pins gone old new ss released (all_back (IsNoneOf gone) (pin_of s.transaction) (pins_of ss) beside) (all_back (IsPinned old) (pin_of s.transaction) (pins_of ss) live),
)

pub same_session : (old new : List Database) (s : Session) → IsSame old new s.transaction → session_of new s ≡ session_of old s
same_session old new s same = ap (λ (tx : Option RuleTransaction). record { there = true; hung = s.hung; database = database_of s.database; barriers = s.barriers; later = option_map later_named s.later; statements = s.statements.items; tx = tx; lost = s.lost; flight = s.flight }) same

-- ---- one session

module _ (old new : List Database) where
  abbrev AreSame : List Session → Type 0
  AreSame ss = AllByRecursion (λ (s : Session). IsSame old new s.transaction) ss

  done_fits : (s : Session) (f : Flight) (kind : Kind) → AreSame (done s f.name kind ∷ []) → Fits new s.conn (events.landed (session_of old s) f kind) (done s f.name kind ∷ [])
  done_fits s f Opening same = (refl, ap (λ (tx : Option RuleTransaction). record { there = true; hung = s.hung; database = f.name; barriers = s.barriers; later = option_map later_named s.later; statements = s.statements.items; tx = tx; lost = s.lost; flight = None }) same.0)
  done_fits s f (Configuring short) same = (refl, ap (λ (tx : Option RuleTransaction). record { there = true; hung = s.hung; database = database_of s.database; barriers = s.barriers; later = option_map later_named s.later; statements = s.statements.items; tx = tx; lost = s.lost; flight = None }) same.0)
  done_fits s f (Writing reply) same = (refl, ap (λ (tx : Option RuleTransaction). record { there = true; hung = s.hung; database = database_of s.database; barriers = s.barriers; later = option_map later_named s.later; statements = s.statements.items; tx = tx; lost = s.lost; flight = None }) same.0)
  done_fits s f Committing same = (refl, refl)
  done_fits s f (Querying statement) same = (refl, ap (λ (tx : Option RuleTransaction). record { there = true; hung = s.hung; database = database_of s.database; barriers = s.barriers; later = Some (Due statement); statements = s.statements.items; tx = tx; lost = s.lost; flight = None }) same.0)

  applied_fits : (index : ℕ) (s : Session) (flight : Option Flight) → AreSame (kept_applied index s flight) → Fits new s.conn (events.settled_by index (session_of old s) flight) (kept_applied index s flight)
  applied_fits index s None same = (refl, same_session old new s same.0)
  applied_fits index s (Some f) same = (elim (f.last == index) as (λ (b : Bool). AreSame (cond b (cond s.hung [] (done s f.name f.kind ∷ [])) (s ∷ [])) → Fits new s.conn (cond b (cond s.hung absent (events.landed (session_of old s) f f.kind)) (session_of old s)) (cond b (cond s.hung [] (done s f.name f.kind ∷ [])) (s ∷ []))) [
    | true ↦ elim s.hung as (λ (h : Bool). AreSame (cond h [] (done s f.name f.kind ∷ [])) → Fits new s.conn (cond h absent (events.landed (session_of old s) f f.kind)) (cond h [] (done s f.name f.kind ∷ []))) [
      | true ↦ λ none. refl
      | false ↦ done_fits s f f.kind
    ]
    | false ↦ λ own. (refl, same_session old new s own.0)
  ]) same

  lost_fits : (s : Session) → Fits new s.conn (events.lost (session_of old s)) (kept Lost s)
  lost_fits s = elim s.hung as (λ (h : Bool). Fits new s.conn (cond h absent (lost_session (events.still_lent (option_map later_named s.later)) (events.loses (session_of old s)))) (cond h [] (lost s ∷ []))) [
    | true ↦ refl
    | false ↦ (refl, ap (λ (l : Option RuleLater). lost_session l (loses s)) (same_lent s.later) ∙ ap (lost_session (events.still_lent (option_map later_named s.later))) (same_loses s.transaction))
  ]
    where
      same_loses : (o : Option Transaction) → (s.lost || (not (is_none o) && not (events.is_committing s.flight))) ≡ (s.lost || (not (is_none (option_map (transaction_of old) o)) && not (events.is_committing s.flight)))
      same_loses None = refl
      same_loses (Some x) = refl

      lost_session : Option RuleLater → Bool → RuleSession
      lost_session later gone = record { there = true; hung = s.hung; database = database_of s.database; barriers = s.barriers; later = later; statements = s.statements.items; tx = None; lost = gone; flight = None }

      same_lent : (l : Option WaitingQuery) → option_map later_named (still_lent l) ≡ events.still_lent (option_map later_named l)
      same_lent None = refl
      same_lent (Some (laters.Due query)) = refl
      same_lent (Some (laters.Lent query)) = refl

  gone_fits : (s : Session) (flight : Option Flight) → s.flight ≡ flight → AreSame (kept_left s flight) → Fits new s.conn (events.left (session_of old s) flight) (kept_left s flight)
  gone_fits s None is same = refl
  gone_fits s (Some f) is same = (refl, ap (λ (tx : Option RuleTransaction). record { there = true; hung = true; database = database_of s.database; barriers = s.barriers; later = option_map later_named s.later; statements = s.statements.items; tx = tx; lost = s.lost; flight = s.flight }) same.0)

  -- what becomes of the session of a connection whose client goes
  abbrev pub leaves : ℕ → ℕ → RuleSession → RuleSession
  leaves conn other r = cond (other == conn) (events.left r r.flight) r

  left_fits : (conn : ℕ) (s : Session) → AreSame (kept (Left conn) s) → Fits new s.conn (leaves conn s.conn (session_of old s)) (kept (Left conn) s)
  left_fits conn s same = (elim (s.conn == conn) as (λ (b : Bool). AreSame (cond b (kept_left s s.flight) (s ∷ [])) → Fits new s.conn (cond b (events.left (session_of old s) s.flight) (session_of old s)) (cond b (kept_left s s.flight) (s ∷ []))) [
    | true ↦ gone_fits s s.flight refl
    | false ↦ λ own. (refl, same_session old new s own.0)
  ]) same

  -- what becomes of the session of a connection whose transaction ends
  abbrev pub stops : ℕ → ℕ → RuleSession → RuleSession
  stops conn other r = cond (other == conn) (with_tx r None) r

  ended_fits : (conn : ℕ) (s : Session) → AreSame (kept (Ended conn) s) → Fits new s.conn (stops conn s.conn (session_of old s)) (kept (Ended conn) s)
  ended_fits conn s same = (elim (s.conn == conn) as (λ (b : Bool). AreSame (cond b (stopped s ∷ []) (s ∷ [])) → Fits new s.conn (cond b (with_tx (session_of old s) None) (session_of old s)) (cond b (stopped s ∷ []) (s ∷ []))) [
    | true ↦ λ none. (refl, refl)
    | false ↦ λ own. (refl, same_session old new s own.0)
  ]) same

  -- ---- all sessions

  abbrev rule_of : Event → ℕ → RuleSession → RuleSession
  rule_of (Applied index) conn r = events.settled_by index r r.flight
  rule_of Lost conn r = events.lost r
  rule_of (Left gone) conn r = leaves gone conn r
  rule_of (Ended own) conn r = stops own conn r

  fits : (event : Event) (s : Session) → AreSame (kept event s) → Fits new s.conn (rule_of event s.conn (session_of old s)) (kept event s)
  fits (Applied index) s same = applied_fits index s s.flight same
  fits Lost s same = lost_fits s
  fits (Left conn) s same = left_fits conn s same
  fits (Ended conn) s same = ended_fits conn s same

  all_fit : (event : Event) (ss : List Session) → AreSame (all_kept event ss) → AllByRecursion (Sweeps old new (rule_of event) (kept event)) ss
  all_fit event [] same = tt
  all_fit event (s ∷ ss) same = (
    fits event s (all_front (λ (t : Session). IsSame old new t.transaction) (kept event s) (all_kept event ss) same),
    all_fit event ss (all_back (λ (t : Session). IsSame old new t.transaction) (kept event s) (all_kept event ss) same),
  )

  left_absent : (gone conn : ℕ) → leaves gone conn absent ≡ absent
  left_absent gone conn = elim (conn == gone) as (λ (b : Bool). cond b absent absent ≡ absent) [ true ↦ refl | false ↦ refl ]

  stopped_absent : (own conn : ℕ) → stops own conn absent ≡ absent
  stopped_absent own conn = elim (conn == own) as (λ (b : Bool). cond b absent absent ≡ absent) [ true ↦ refl | false ↦ refl ]

  none : (event : Event) (conn : ℕ) → rule_of event conn absent ≡ absent
  none (Applied index) conn = refl
  none Lost conn = refl
  none (Left gone) conn = left_absent gone conn
  none (Ended own) conn = stopped_absent own conn

  -- the rules' way of saying who leaves
  left_by : (gone conn : ℕ) (g : Gateway) → leaves gone conn (g.session conn) ≡ cond (conn == gone) (events.left (g.session gone) (g.session gone).flight) (g.session conn)
  left_by gone conn g = elim (cases_Bool (conn == gone)) [
    | inl own ↦ ap (λ (n : ℕ). cond (conn == gone) (events.left (g.session n) (g.session n).flight) (g.session conn)) (eqb-true conn gone own)
    | inr other ↦
        subst (λ (b : Bool). cond b (events.left (g.session conn) (g.session conn).flight) (g.session conn) ≡ cond b (events.left (g.session gone) (g.session gone).flight) (g.session conn)) (sym other) refl
  ]

  -- the rules' way of saying whose transaction ends
  stopped_by : (own conn : ℕ) (g : Gateway) → stops own conn (g.session conn) ≡ cond (conn == own) (with_tx (g.session own) None) (g.session conn)
  stopped_by own conn g = elim (cases_Bool (conn == own)) [
    | inl same ↦ ap (λ (n : ℕ). cond (conn == own) (with_tx (g.session n) None) (g.session conn)) (eqb-true conn own same)
    | inr other ↦
        subst (λ (b : Bool). cond b (with_tx (g.session conn) None) (g.session conn) ≡ cond b (with_tx (g.session own) None) (g.session conn)) (sym other) refl
  ]

  -- all are there
  all_there : (own : ℕ) (all ss : List Session) → AllByRecursion (IsFound old all) ss
      → filter (λ (conn : ℕ). (stops own conn (session_at old all conn)).there) (map (λ (s : Session). s.conn) ss) ≡ map (λ (s : Session). s.conn) ss
  all_there own all [] found = refl
  all_there own all (s ∷ ss) found =
      let others : List ℕ = filter (λ (conn : ℕ). (stops own conn (session_at old all conn)).there) (map (λ (t : Session). t.conn) ss) in
      ap (λ (r : RuleSession). cond (stops own s.conn r).there (s.conn ∷ others) others) found.0
      ∙ (elim (s.conn == own) as (λ (b : Bool). cond (cond b (with_tx (session_of old s) None) (session_of old s)).there (s.conn ∷ others) others ≡ s.conn ∷ others) [ true ↦ refl | false ↦ refl ])
      ∙ ap (λ (ns : List ℕ). s.conn ∷ ns) (all_there own all ss found.1)

  swept : (event : Event) (ss : List Session) (weight : ℕ) → AreApart ss → tidy (table_of old ss weight) (λ (conn : ℕ). rule_of event conn (session_at old ss conn)) ≡ after event (table_of old ss weight)
  unfolding on_applied on_lost on_hangup table_of with_session tidy
  swept (Applied index) ss weight apart = refl
  swept Lost ss weight apart = refl
  swept (Left gone) ss weight apart = ap (tidy (table_of old ss weight)) (λ i. λ (conn : ℕ). left_by gone conn (table_of old ss weight) i)
  swept (Ended own) ss weight apart = λ i. record {
    conns = all_there own ss ss (all_found old ss apart) i;
    session = λ (conn : ℕ). stopped_by own conn (table_of old ss weight) i;
    weight = weight;
  }

-- What is left of the sessions is what the rules leave of the table, if the marks that are let go are released.
pub follows : (event : Event) (ss : List Session) (weight : ℕ) (old new : List Database) → AreApart ss → AreMarks (pins_of ss) old → Released (all_freed event ss) old new
    → table_of new (all_kept event ss) weight ≡ after event (table_of old ss weight)
follows event ss weight old new apart marks released =
    let same : AllByRecursion (λ (s : Session). IsSame old new s.transaction) (all_kept event ss)
    = same_pins (all_freed event ss) old new (all_kept event ss) released (kept_beside event ss marks.apart) (of_kept (IsPinned old) event ss marks.live) in
    swept_table old new (rule_of old new event) (kept event) (none old new event) ss weight apart (all_fit old new event ss same)
    ∙ swept old new event ss weight apart
