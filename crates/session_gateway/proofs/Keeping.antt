-- Commands keep the sessions and their marks.
use Rattle.std.proofs.Common.{◌≡◌, ℕ, Bool, true, false, cond, List, [], ◌∷◌, map, find, Option, Some, refl, ap}
use Rattle.std.specs.List.{AllByRecursion}
use Rattle.log_commands.specs.declared.command.Command.{Command}
use Rattle.database_state.specs.declared.database.Database.{Database}
use Rattle.database_state.specs.Databases.{act}
use Rattle.database_state.specs.Pins.{Pinning, IsPinned, StillPinned}
use Rattle.session_spec.specs.Sessions.{Session as RuleSession}
use Rattle.session_table.specs.declared.session.Session.{Session}
use Rattle.session_table.specs.Table.{session_found, session_at, has_conn, table_of}
use Rattle.session_table.proofs.Following.{IsSame, same_session}
use Rattle.session_table.proofs.Gaining.{still_pins}
use Rattle.session_table.proofs.Unmarked.{none_made}
use Rattle.session_gateway.specs.Seen.{Held, seen, pins_of, PinsOf}

still_live : (old new : List Database) (pins : List Pinning) → ((pin : Pinning) → StillPinned old new pin) → AllByRecursion (IsPinned old) pins → AllByRecursion (IsPinned new) pins
still_live old new [] still live = tt
still_live old new (pin ∷ pins) still live = ((still pin).live live.0, still_live old new pins still live.1)

pub marks_stay : (held : Held) (databases : List Database) (command : Command) → ((pin : Pinning) → StillPinned databases (act databases command) pin) → PinsOf held databases → PinsOf held (act databases command)
marks_stay held databases command still marks = record {
  live = still_live databases (act databases command) (pins_of held) still marks.live;
  apart = marks.apart;
  only = λ pin live. marks.only pin (none_made databases command pin live);
}

-- ---- the sessions over the databases after a command

found_here : (old new : List Database) (s : Session) (rest : Option Session) (b : Bool) → IsSame old new s.transaction → session_found new rest ≡ session_found old rest
    → session_found new (cond b (Some s) rest) ≡ session_found old (cond b (Some s) rest)
found_here old new s rest true same later = same_session old new s same
found_here old new s rest false same later = later

found_same : (old new : List Database) (conn : ℕ) (ss : List Session) → AllByRecursion (λ (s : Session). IsSame old new s.transaction) ss → session_found new (find (has_conn conn) ss) ≡ session_found old (find (has_conn conn) ss)
found_same old new conn [] same = refl
found_same old new conn (s ∷ ss) same = found_here old new s (find (has_conn conn) ss) (has_conn conn s) same.0 (found_same old new conn ss same.1)

table_same : (old new : List Database) (ss : List Session) (weight : ℕ) → AllByRecursion (λ (s : Session). IsSame old new s.transaction) ss → table_of new ss weight ≡ table_of old ss weight
unfolding table_of session_at
table_same old new ss weight same =
    ap (λ (session : ℕ → RuleSession). record { conns = map (λ (s : Session). s.conn) ss; session = session; weight = weight }) (λ i conn. found_same old new conn ss same i)

pub sessions_stay : (held : Held) (databases : List Database) (command : Command) → ((pin : Pinning) → StillPinned databases (act databases command) pin) → PinsOf held databases → seen held (act databases command) ≡ seen held databases
unfolding seen pins_of
sessions_stay held databases command still marks = table_same databases (act databases command) held.sessions held.weight (still_pins databases (act databases command) held.sessions still marks.live)
