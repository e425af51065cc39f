-- The sessions that code holds.
use Rattle.std.proofs.Common.{◌≡◌, ℕ, Bool, false, cond, List, [], length, get_or, Result, Ok, Err, IfOk, OnOk, sym, ap, subst, ◌∙◌}
use Rattle.std.proofs.lemmas.List.{length-map}
use Rattle.std.specs.declared.alloc.AllocError.{AllocError}
use Rattle.database_state.specs.declared.database.Database.{Database}
use Rattle.session_spec.specs.Sessions.{Gateway, no_sessions, is_busy}
use Rattle.session_spec.specs.Events.{connects, connected}
use Rattle.session_table.specs.declared.session.Session.{Session}
use Rattle.session_table.specs.Table as tables
use Rattle.session_table.specs.Table.{session_at, session_of, table_of, IsTable}
use Rattle.session_table.specs.Marks.{AreMarks}
use Rattle.session_table.specs.Changing.{IsAbsent, StandsAt, Joined}
use Rattle.session_table.proofs.Placing.{stands}
use Rattle.session_table.proofs.Swept.{none_there}
use Rattle.session_gateway.specs.Seen.{Held, seen, pins_of, PinsOf}

-- ---- none

pub none_seen : (held : Held) (databases : List Database) → held.sessions ≡ [] → held.weight ≡ 0 → seen held databases ≡ no_sessions
unfolding seen table_of session_at
none_seen held databases none weightless =
    ap (λ (ss : List Session). table_of databases ss held.weight) none ∙ ap (λ (weight : ℕ). table_of databases [] weight) weightless

pub none_pinned : (held : Held) → held.sessions ≡ [] → pins_of held ≡ []
unfolding pins_of
none_pinned held none = ap (λ (ss : List Session). tables.pins_of ss) none

-- ---- how many there are

pub sessions_counted : (held : Held) (databases : List Database) (count : ℕ) → count ≡ length held.sessions → count ≡ length (seen held databases).conns
unfolding seen table_of
sessions_counted held databases count is = is ∙ sym (length-map held.sessions (λ (s : Session). s.conn))

-- ---- the session of a connection

-- a session that is at a place is that of its connection
pub seen_at : (held : Held) (databases : List Database) (conn place : ℕ) (d : Session) → IsTable held.sessions → StandsAt conn held.sessions place → (seen held databases).session conn ≡ session_of databases (get_or held.sessions place d)
unfolding seen table_of
seen_at held databases conn place d table at =
    subst (λ (n : ℕ). session_at databases held.sessions n ≡ session_of databases (get_or held.sessions place d)) (at.own d) (stands databases held.sessions place d table.apart at.within)

pub busy_at : (held : Held) (databases : List Database) (conn place : ℕ) (s : Session) (busy : Bool) → IsTable held.sessions → StandsAt conn held.sessions place → s ≡ get_or held.sessions place s → busy ≡ is_busy (session_of databases s)
    → busy ≡ is_busy ((seen held databases).session conn)
busy_at held databases conn place s busy table at is has =
    has ∙ ap (λ (t : Session). is_busy (session_of databases t)) is ∙ sym (ap is_busy (seen_at held databases conn place s table at))

pub busy_nowhere : (held : Held) (databases : List Database) (conn : ℕ) → IsAbsent conn held.sessions → false ≡ is_busy ((seen held databases).session conn)
unfolding seen table_of
busy_nowhere held databases conn none = sym (ap is_busy (none_there databases held.sessions conn none))

-- ---- over what code holds

-- what code holds, as the rules see it
abbrev pub held : List Session → ℕ → ℕ → Held
held sessions weight next = record { sessions = sessions; weight = weight; next = next }

pub seen_now : (sessions : List Session) (weight next : ℕ) (now : Held) (databases : List Database) → held sessions weight next ≡ now → table_of databases sessions weight ≡ seen now databases
unfolding seen
seen_now sessions weight next now databases e = ap (λ (h : Held). table_of databases h.sessions h.weight) e

pub marks_of : (sessions : List Session) (weight next : ℕ) (now : Held) (databases : List Database) → held sessions weight next ≡ now → PinsOf now databases → AreMarks (tables.pins_of sessions) databases
unfolding pins_of
marks_of sessions weight next now databases e marks = subst (λ (h : Held). AreMarks (tables.pins_of h.sessions) databases) (sym e) marks

pub marks_held : (sessions : List Session) (weight next : ℕ) (databases : List Database) → AreMarks (tables.pins_of sessions) databases → PinsOf (held sessions weight next) databases
unfolding pins_of
marks_held sessions weight next databases marks = marks

pub pins_now : (sessions after : List Session) (weight next : ℕ) (now : Held) → held sessions weight next ≡ now → tables.pins_of after ≡ tables.pins_of sessions → pins_of (held after weight next) ≡ pins_of now
unfolding pins_of
pins_now sessions after weight next now e same = same ∙ ap (λ (h : Held). tables.pins_of h.sessions) e

pub unmarked_held : {A E : Type 0} (r : Result A E) (sessions : List Session) (weight next : ℕ) → OnOk r (tables.pins_of sessions ≡ []) → OnOk r (pins_of (held sessions weight next) ≡ [])
unfolding pins_of
unmarked_held r sessions weight next none = none

-- something happened to all sessions
pub happened : (old new : List Session) (weight next : ℕ) (now : Held) (before after : List Database) (rule : Gateway → Gateway) → held old weight next ≡ now
    → ((w : ℕ) → table_of after new w ≡ rule (table_of before old w)) → seen (held new weight next) after ≡ rule (seen now before)
unfolding seen
happened old new weight next now before after rule e is = is weight ∙ ap (λ (h : Held). rule (table_of before h.sessions h.weight)) e

pub happened_ok : {A E : Type 0} (r : Result A E) (old new : List Session) (weight next : ℕ) (now : Held) (before after : List Database) (rule : Gateway → Gateway) → held old weight next ≡ now
    → OnOk r ((w : ℕ) → table_of after new w ≡ rule (table_of before old w)) → OnOk r (seen (held new weight next) after ≡ rule (seen now before))
happened_ok (Ok x) old new weight next now before after rule e is = happened old new weight next now before after rule e is
happened_ok (Err x) old new weight next now before after rule e is = tt

-- a connection came
pub came_ok : (r : Result Bool AllocError) (old new : List Session) (weight next conn : ℕ) (now : Held) → held old weight next ≡ now
    → IfOk r (λ joined. (databases : List Database) (w : ℕ) → Joined (table_of databases old w) conn joined (table_of databases new w))
    → OnOk r ((databases : List Database) → seen (held new weight next) databases ≡ cond (connects (seen now databases) conn) (connected (seen now databases) conn) (seen now databases))
unfolding seen
came_ok (Ok b) old new weight next conn now e is = λ databases.
    (is databases weight).table ∙ ap (λ (h : Held). let g = table_of databases h.sessions h.weight in cond (connects g conn) (connected g conn) g) e
came_ok (Err x) old new weight next conn now e is = tt

pub busy_now : (sessions : List Session) (weight next : ℕ) (now : Held) (databases : List Database) (conn : ℕ) (busy : Bool) → held sessions weight next ≡ now
    → busy ≡ is_busy ((seen (held sessions weight next) databases).session conn) → busy ≡ is_busy ((seen now databases).session conn)
busy_now sessions weight next now databases conn busy e is = subst (λ (h : Held). busy ≡ is_busy ((seen h databases).session conn)) e is
