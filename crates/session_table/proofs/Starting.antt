-- A session that begins a transaction, in its table.
use Rattle.std.proofs.Common.{◌≡◌, ℕ, Bool, List, set, get_or, Option, Some, None, refl, sym, ap, subst, ◌∙◌}
use Rattle.std.specs.Prelude.{IsSome}
use Rattle.database_state.specs.declared.database.Database.{Database}
use Rattle.session_spec.specs.Machine.{Machine, machine_of}
use Rattle.session_spec.specs.Sessions.{Transaction as RuleTransaction, Session as RuleSession}
use Rattle.session_spec.specs.Requests.{with_session, with_tx, begun_over, begun}
use Rattle.session_table.specs.declared.session.Session.{Session}
use Rattle.session_table.specs.declared.session.Transaction.{Transaction}
use Rattle.session_table.specs.Table.{database_of, transaction_of, session_of, session_at, table_of, pin_of, pins_of, IsTable}
use Rattle.session_table.specs.Marks.{AreMarks, Gained}
use Rattle.session_table.specs.Changing.{StandsAt, with_transaction}
use Rattle.session_table.proofs.Following.{IsSame}
use Rattle.session_table.proofs.Gaining.{still_pins, all_removed, marks_after}
use Rattle.session_table.proofs.Placing.{stands, set_table, set_is_table}

begun_at : (m : Machine) (turn : Bool) (x : RuleTransaction) (database : Option (List ℕ)) → IsSome database → ((name : List ℕ) → database ≡ Some name → x ≡ begun_over name (m.base name) turn)
    → x ≡ begun_over (database_of database) (m.base (database_of database)) turn
begun_at m turn x None some is = absurd cc
begun_at m turn x (Some name) some is = is name refl

-- the session of the connection
found_at : (old : List Database) (ss : List Session) (place weight conn : ℕ) (d : Session) → IsTable ss → StandsAt conn ss place → (table_of old ss weight).session conn ≡ session_of old (get_or ss place d)
unfolding table_of
found_at old ss place weight conn d table at =
    subst (λ (n : ℕ). session_at old ss n ≡ session_of old (get_or ss place d)) (at.own d) (stands old ss place d table.apart at.within)

pub begun_table : (old new : List Database) (ss after : List Session) (place weight conn : ℕ) (x : Transaction) (s : Session) (turn : Bool) → IsTable ss → StandsAt conn ss place → AreMarks (pins_of ss) old
    → s ≡ get_or ss place s → IsSome s.database → Gained (pin_of (Some x)) old new → ((name : List ℕ) → s.database ≡ Some name → transaction_of new x ≡ begun_over name ((machine_of old).base name) turn)
    → after ≡ set ss place (with_transaction (get_or ss place s) x)
    → table_of new after weight ≡ with_session (table_of old ss weight) conn (begun (machine_of old) ((table_of old ss weight).session conn) turn)
begun_table old new ss after place weight conn x s turn table at marks is some gained over put =
    let to = with_transaction (get_or ss place s) x in
    let m = machine_of old in
    let tx : transaction_of new x ≡ begun_over (database_of s.database) (m.base (database_of s.database)) turn = begun_at m turn (transaction_of new x) s.database some over in
    let own : session_of new (with_transaction s x) ≡ begun m (session_of old s) turn = ap (λ (t : RuleTransaction). with_tx (session_of old s) (Some t)) tx in
    let here : session_of new to ≡ begun m (session_of old (get_or ss place s)) turn =
    subst (λ (t : Session). session_of new (with_transaction t x) ≡ begun m (session_of old t) turn) is own in
    ap (λ (all : List Session). table_of new all weight) put
    ∙ set_table old new ss place weight conn to (begun m ((table_of old ss weight).session conn) turn) table.apart at.within (at.own to) (at.own s)
    (here ∙ ap (λ (r : RuleSession). begun m r turn) (sym (found_at old ss place weight conn s table at)))
    (all_removed (λ (t : Session). IsSame old new t.transaction) ss place (still_pins old new ss gained.still marks.live))

pub begun_marks : (old new : List Database) (ss after : List Session) (place conn : ℕ) (x : Transaction) (s : Session) → StandsAt conn ss place → AreMarks (pins_of ss) old → (get_or ss place s).transaction ≡ None
    → Gained (pin_of (Some x)) old new → after ≡ set ss place (with_transaction (get_or ss place s) x) → AreMarks (pins_of after) new
begun_marks old new ss after place conn x s at marks idle gained put =
    subst (λ (all : List Session). AreMarks (pins_of all) new) (sym put)
    (marks_after ss place (with_transaction (get_or ss place s) x) s old new at.within (ap (λ (t : Option Transaction). pin_of t) idle) marks gained)

pub begun_fits : (ss after : List Session) (place conn : ℕ) (x : Transaction) (s : Session) → IsTable ss → StandsAt conn ss place → after ≡ set ss place (with_transaction (get_or ss place s) x) → IsTable after
begun_fits ss after place conn x s table at put =
    let to = with_transaction (get_or ss place s) x in
    subst IsTable (sym put) (set_is_table ss place to (at.own to ∙ sym (at.own s)) table)
