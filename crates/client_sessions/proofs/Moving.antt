-- Clients over other databases: of none of which an image is pinned.
use Rattle.std.proofs.Common.{◌≡◌, ◌<◌, ℕ, Bool, true, false, cond, List, [], ◌∷◌, ◌++◌, map, find, Option, Some, None, option_map, refl, sym, ap, subst, ◌∙◌, arith}
use Rattle.std.specs.List.{AllByRecursion}
use Rattle.dq_base.specs.declared.images.Image.{Image}
use Rattle.dq_base.specs.declared.image_number.ImageNumber.{ImageNumber}
use Rattle.dq_base.specs.declared.image_number.ImageNumber.TheVariants.{Newest, Working}
use Rattle.database_state.specs.declared.database.Database.{Database}
use Rattle.database_state.specs.ImageNumbers.{Numbered, numbered}
use Rattle.database_state.specs.Machines.{IsMachine}
use Rattle.database_state.specs.Pins.{Pinning, IsPinned}
use Rattle.sql_engine.specs.Known.{Known}
use Rattle.session_statements.specs.Agreeing.{Agree, IsGiven}
use Rattle.session_spec.specs.Events.{tidy, on_lost}
use Rattle.session_spec.specs.Sessions.{Session as RuleSession, absent}
use Rattle.session_table.specs.declared.session.Session.{Session}
use Rattle.session_table.specs.declared.session.Transaction.{Transaction}
use Rattle.session_table.specs.Marks.{AreMarks}
use Rattle.session_table.specs.Table as tables
use Rattle.session_table.specs.Table.{IsTable, image_pinned, transaction_of, session_found, session_at, has_conn, table_of, mark_of, pin_of}
use Rattle.session_table.specs.Working.{work_of, works_of}
use Rattle.session_table.proofs.Following.{IsSame, same_session}
use Rattle.session_table.proofs.Found.{IsFound, all_found}
use Rattle.session_table.proofs.Releasing.{all_front, all_back}
use Rattle.session_gateway.specs.Seen.{seen, pins_of}
use Rattle.session_gateway.proofs.Numbering.{started_agree}
use Rattle.client_sessions.specs.declared.clients.Clients.{Clients as Held}
use Rattle.client_sessions.specs.Clients.{Clients, freed, HasNoTransactions, Sound}
use Rattle.client_sessions.specs.Seen.{clients_of, Agrees, AreValidOver, HasNoMarks}
use Rattle.client_sessions.proofs.Landing.{unmarked}
use Rattle.client_sessions.proofs.Standing.{held_alike}

-- ---- the same over other databases

module _ (old new : List Database) (none : HasNoMarks old) where
  same_image : (pin : Option Pinning) → AllByRecursion (IsPinned old) (mark_of pin) → image_pinned new pin ≡ image_pinned old pin
  same_image None live = refl
  same_image (Some pin) live = absurd (none pin live.0)

  same_pin : (tx : Option Transaction) → AllByRecursion (IsPinned old) (pin_of tx) → IsSame old new tx
  same_pin None live = refl
  same_pin (Some x) live =
      ap (λ (image : Image). Some (record { name = x.name; mark = x.mark; pinned = image; working = x.working; turn = x.turn; touched = x.touched.items })) (same_image x.pin live)

  found_here : (s : Session) (rest : Option Session) (b : Bool) → IsSame old new s.transaction → session_found new rest ≡ session_found old rest
      → session_found new (cond b (Some s) rest) ≡ session_found old (cond b (Some s) rest)
  found_here s rest true same later = same_session old new s same
  found_here s rest false same later = later

  found_same : (conn : ℕ) (ss : List Session) → AllByRecursion (IsPinned old) (tables.pins_of ss) → session_found new (find (has_conn conn) ss) ≡ session_found old (find (has_conn conn) ss)
  found_same conn [] live = refl
  found_same conn (s ∷ ss) live =
      found_here s (find (has_conn conn) ss) (has_conn conn s) (same_pin s.transaction (all_front (IsPinned old) (pin_of s.transaction) (tables.pins_of ss) live))
      (found_same conn ss (all_back (IsPinned old) (pin_of s.transaction) (tables.pins_of ss) live))

  table_same : (ss : List Session) (weight : ℕ) → AllByRecursion (IsPinned old) (tables.pins_of ss) → table_of new ss weight ≡ table_of old ss weight
  unfolding table_of session_at
  table_same ss weight live =
      ap (λ (session : ℕ → RuleSession). record { conns = map (λ (s : Session). s.conn) ss; session = session; weight = weight }) (λ i conn. found_same conn ss live i)

pub clients_same : (held : Held) (old new : List Database) → HasNoMarks old → AreValidOver held old → clients_of held new ≡ clients_of held old
unfolding seen pins_of
clients_same held old new none stand = held_alike held held old new (table_same old new none held.gateway.sessions held.gateway.weight stand.pins.live) (λ q. refl) refl

none_pinned : (old new : List Database) (pins : List Pinning) → HasNoMarks old → AllByRecursion (IsPinned old) pins → pins ≡ []
none_pinned old new [] none live = refl
none_pinned old new (pin ∷ pins) none live = absurd (none pin live.0)

pub other_stand : (held : Held) (old new : List Database) → HasNoMarks old → HasNoMarks new → AreValidOver held old → AreValidOver held new
other_stand held old new none_old none_new stand = record {
  pins = subst (λ (ps : List Pinning). AreMarks ps new) (sym (none_pinned old new (pins_of held.gateway) none_old stand.pins.live)) (record { live = tt; apart = tt; only = λ pin live. absurd (none_new pin live) });
  sound = subst Sound (sym (clients_same held old new none_old stand)) stand.sound;
}

-- ---- where no transaction is open

not_open : (databases : List Database) (tx : Option Transaction) → option_map (transaction_of databases) tx ≡ None → tx ≡ None
not_open databases None e = refl
not_open databases (Some x) e = absurd cc

abbrev AreEnded : List Session → Type 0
AreEnded ss = AllByRecursion (λ (s : Session). s.transaction ≡ None) ss

all_ended : (databases : List Database) (all ss : List Session) → AllByRecursion (IsFound databases all) ss → ((conn : ℕ) → (session_at databases all conn).tx ≡ None) → AreEnded ss
all_ended databases all [] found none = tt
all_ended databases all (s ∷ ss) found none =
    (not_open databases s.transaction (ap (λ (r : RuleSession). r.tx) (sym found.0) ∙ none s.conn), all_ended databases all ss found.1 none)

ended : (held : Held) (databases : List Database) → IsTable held.gateway.sessions → HasNoTransactions (clients_of held databases) → AreEnded held.gateway.sessions
unfolding clients_of seen table_of
ended held databases table none = all_ended databases held.gateway.sessions held.gateway.sessions (all_found databases held.gateway.sessions table.apart) none

no_pins : (ss : List Session) → AreEnded ss → tables.pins_of ss ≡ []
no_pins [] ended = refl
no_pins (s ∷ ss) ended = ap (λ (tx : Option Transaction). pin_of tx ++ tables.pins_of ss) ended.0 ∙ no_pins ss ended.1

no_works : (ss : List Session) → AreEnded ss → works_of ss ≡ []
no_works [] ended = refl
no_works (s ∷ ss) ended = ap (λ (tx : Option Transaction). work_of tx ++ works_of ss) ended.0 ∙ no_works ss ended.1

pub ended_unmarked : (held : Held) (databases : List Database) → IsTable held.gateway.sessions → HasNoTransactions (clients_of held databases) → AreValidOver held databases → HasNoMarks databases
unfolding pins_of
ended_unmarked held databases table none stand = unmarked (pins_of held.gateway) databases (no_pins held.gateway.sessions (ended held databases table none)) stand.pins

-- no number is below the first one
given_later : (next : ℕ) (bases : List Numbered) (number : ImageNumber) → IsGiven 0 bases number → IsGiven next bases number
given_later next bases (Working number) given = let below : number < 0 = given in absurd (omega (arith, below))
given_later next bases (Newest place commits) given = given

later_agree : (next : ℕ) (bases : List Numbered) → Agree [] [] 0 bases → Agree [] [] next bases
later_agree next bases a = record {
  working = a.working;
  newest = a.newest;
  knows = λ i d lt. absurd (omega (arith, lt));
  works_so = λ i d lt. absurd (omega (arith, lt));
  stands_so = λ i d lt. let named = a.stands_so i d lt in record { is = named.is; given = given_later next bases _ named.given };
}

pub ended_agree : (held : Held) (old new : List Database) → IsTable held.gateway.sessions → HasNoTransactions (clients_of held old) → IsMachine new → Agrees [] held new
ended_agree held old new table none machine =
    subst (λ (works : List Known). Agree [] works held.gateway.next (map numbered new)) (sym (no_works held.gateway.sessions (ended held old table none)))
    (later_agree held.gateway.next (map numbered new) (started_agree new machine))

-- ---- leadership that was lost

ended_where : (b : Bool) (s : RuleSession) → s.tx ≡ None → (cond b absent s).tx ≡ None
ended_where true s none = refl
ended_where false s none = none

pub lost_ended : (k now : Clients) (conns : List ℕ) → now ≡ freed k (on_lost k.sessions) conns → HasNoTransactions now
unfolding on_lost tidy
lost_ended k now conns is = subst HasNoTransactions (sym is) (λ conn. ended_where (k.sessions.session conn).hung _ refl)
