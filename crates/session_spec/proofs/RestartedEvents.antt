-- Events and commands, wherever the counts of commits begin.
use Rattle.std.proofs.Common.{◌≡◌, ℕ, suc, ◌+◌, Bool, true, false, cond, List, [], ◌∷◌, ◌++◌, length, refl, ap, ◌∙◌, arith}
use Rattle.std.specs.Prelude.{◌==◌, ◌&&◌, ◌||◌, not, bytes_eq, is_none, Option, Some, None}
use Rattle.std.specs.Option.{option_map}
use Rattle.std.specs.List.{filter}
use Rattle.dq_base.specs.declared.pages.NumberedPage.{NumberedPage}
use Rattle.dq_base.specs.Applying.{page_fault}
use Rattle.log_commands.specs.declared.command.Command.TheVariants.{OpenDb, Frames, Undo, Checkpoint}
use Rattle.database_state.specs.Files.{image_after, pending_of}
use Rattle.database_state.specs.Databases.{grown}
use Rattle.session_spec.specs.Events.{tidy, landed, settled_by, on_applied, told_applied, still_lent, is_committing, loses, lost, on_lost, told_lost, left, on_hangup, connects, connected}
use Rattle.session_spec.specs.Machine.{Base, with_name, with_commit, framed, checked, act}
use Rattle.session_spec.specs.Requests.{with_tx, with_flight, with_later, with_lost, with_session}
use Rattle.session_spec.specs.Sessions.{Session, Gateway, Transaction, Kind, Opening, Configuring, Writing, Committing, Querying, Flight, absent, fresh}
use Rattle.session_spec.specs.Restarts.{shifted_tx, shifted_session, shifted, EventsSame, EventsShift, CommandsRestart}

module _ (lacks : List ℕ → ℕ) where
  if_session : (b : Bool) (x y : Session) → cond b (shifted_session lacks x) (shifted_session lacks y) ≡ shifted_session lacks (cond b x y)
  if_session true x y = refl
  if_session false x y = refl

  landed_same : (s : Session) (f : Flight) (k : Kind) → landed (shifted_session lacks s) f k ≡ shifted_session lacks (landed s f k)
  landed_same s f Opening = refl
  landed_same s f (Configuring short) = refl
  landed_same s f (Writing reply) = refl
  landed_same s f Committing = refl
  landed_same s f (Querying statement) = refl

  settled_same : (index : ℕ) (s : Session) (o : Option Flight) → settled_by index (shifted_session lacks s) o ≡ shifted_session lacks (settled_by index s o)
  settled_same index s None = refl
  settled_same index s (Some f) =
      ap (λ x. cond (f.last == index) (cond s.hung (shifted_session lacks absent) x) (shifted_session lacks s)) (landed_same s f f.kind)
      ∙ ap (λ x. cond (f.last == index) x (shifted_session lacks s)) (if_session s.hung absent (landed s f f.kind))
      ∙ if_session (f.last == index) (cond s.hung absent (landed s f f.kind)) s

  loses_same : (s : Session) → loses (shifted_session lacks s) ≡ loses s
  loses_same s = ap (λ (b : Bool). s.lost || (not b && not (is_committing s.flight))) (none_too s.tx)
    where
      none_too : (o : Option Transaction) → is_none (option_map (shifted_tx lacks) o) ≡ is_none o
      none_too None = refl
      none_too (Some x) = refl

  lost_same : (s : Session) → lost (shifted_session lacks s) ≡ shifted_session lacks (lost s)
  lost_same s =
      ap (λ b. cond s.hung (shifted_session lacks absent) (shifted_session lacks (with_lost (with_later (with_flight (with_tx s None) None) (still_lent s.later)) b))) (loses_same s)
      ∙ if_session s.hung absent _

  left_same : (s : Session) (o : Option Flight) → left (shifted_session lacks s) o ≡ shifted_session lacks (left s o)
  left_same s None = refl
  left_same s (Some f) = refl

  -- sessions that are the same, tidied
  tidy_same : (g : Gateway) (f h : ℕ → Session) → ((conn : ℕ) → f conn ≡ shifted_session lacks (h conn)) → tidy (shifted lacks g) f ≡ shifted lacks (tidy g h)
  unfolding tidy
  tidy_same g f h p = λ i. record { conns = filter (λ (conn : ℕ). (p conn i).there) g.conns; session = λ conn. p conn i; weight = g.weight }

  events_same : (g : Gateway) → EventsSame lacks g
  unfolding on_applied told_applied on_lost told_lost on_hangup connects connected with_session
  events_same g = record {
    applied = λ index. tidy_same g _ _ (λ conn. settled_same index (g.session conn) (g.session conn).flight);
    told_applied = λ index. refl;
    lost = tidy_same g _ _ (λ conn. lost_same (g.session conn));
    told_lost = refl;
    hangup = λ conn. tidy_same g _ _ (λ other. ap (λ x. cond (other == conn) x (shifted_session lacks (g.session other))) (left_same (g.session conn) (g.session conn).flight) ∙ if_session (other == conn) (left (g.session conn) (g.session conn).flight) (g.session other));
    connects = λ conn. refl;
    connected = λ conn. λ i. record { conns = g.conns ++ conn ∷ []; session = λ other. if_session (other == conn) fresh (g.session other) i; weight = g.weight };
    later = λ conn. λ i. record { conns = g.conns; session = λ other. if_session (other == conn) (with_later (g.session conn) None) (g.session other) i; weight = g.weight };
    session = λ conn s. λ i. record { conns = g.conns; session = λ other. if_session (other == conn) s (g.session other) i; weight = g.weight };
  }

pub events_shift_hold : EventsShift
events_shift_hold lacks g = events_same lacks g

-- ---- commands

-- a database whose count lacks so much
abbrev again : ℕ → ℕ → Base → Base
again lack since b = record { image = b.image; pending = b.pending; newest = lack + b.newest; since = since }

base_is : (b c : Base) → b.image ≡ c.image → b.pending ≡ c.pending → b.newest ≡ c.newest → b.since ≡ c.since → b ≡ c
base_is b c i p n s = λ j. record { image = i j; pending = p j; newest = n j; since = s j }

abbrev committed_by : List NumberedPage → Base → Base
committed_by pages b = record { image = image_after b.image pages; pending = b.pending; newest = suc b.newest; since = grown b.since (length pages) }

commit_if : (c : Bool) (pages : List NumberedPage) (lack since : ℕ) (b : Base) → cond c (committed_by pages (again lack since b)) (again lack since b) ≡ again lack (cond c (committed_by pages (again lack since b)) (again lack since b)).since (cond c (committed_by pages b) b)
commit_if true pages lack since b = let more : suc (lack + b.newest) ≡ lack + suc b.newest = omega arith in base_is _ _ refl refl more refl
commit_if false pages lack since b = refl

commit_again : (pages : List NumberedPage) (lack since : ℕ) (b : Base) → with_commit pages (again lack since b) ≡ again lack (with_commit pages (again lack since b)).since (with_commit pages b)
unfolding with_commit
commit_again pages lack since b = commit_if (is_none (page_fault pages)) pages lack since b

framed_again : (tx : ℕ) (commit : Bool) (pages : List NumberedPage) (lack since : ℕ) (b : Base) → framed tx commit pages (again lack since b) ≡ again lack (framed tx commit pages (again lack since b)).since (framed tx commit pages b)
unfolding framed
framed_again tx true pages lack since b =
    let e = commit_again (pending_of tx b.pending ++ pages) lack since b in
    base_is _ _ (ap (λ (c : Base). c.image) e) refl (ap (λ (c : Base). c.newest) e) refl
framed_again tx false pages lack since b = refl

pub commands_restart_hold : CommandsRestart
unfolding act
commands_restart_hold lacks since m (OpenDb name) = (since, refl)
commands_restart_hold lacks since m (Frames name tx truncate commit pages) =
    let new = λ (other : List ℕ). cond (bytes_eq other name) (framed tx commit pages (again (lacks other) (since other) (m.base other))) (again (lacks other) (since other) (m.base other)) in
    ((λ other. (new other).since), (λ i. record { names = with_name name m.names; base = λ other. changed other (bytes_eq other name) i }))
  where
    changed : (other : List ℕ) (b : Bool) → cond b (framed tx commit pages (again (lacks other) (since other) (m.base other))) (again (lacks other) (since other) (m.base other)) ≡ again (lacks other) (cond b (framed tx commit pages (again (lacks other) (since other) (m.base other))) (again (lacks other) (since other) (m.base other))).since (cond b (framed tx commit pages (m.base other)) (m.base other))
    changed other true = framed_again tx commit pages (lacks other) (since other) (m.base other)
    changed other false = refl
commands_restart_hold lacks since m (Undo tx) = (since, refl)
commands_restart_hold lacks since m (Checkpoint name) = ((λ other. cond (bytes_eq other name) 0 (since other)), (λ i. record { names = m.names; base = λ other. checked_at other (bytes_eq other name) i }))
  where
    checked_at : (other : List ℕ) (b : Bool) → cond b (checked (again (lacks other) (since other) (m.base other))) (again (lacks other) (since other) (m.base other)) ≡ again (lacks other) (cond b 0 (since other)) (cond b (checked (m.base other)) (m.base other))
    checked_at other true = refl
    checked_at other false = refl
