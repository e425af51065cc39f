-- Who waits for proposals that are lost, in the order in which they are told.
use Rattle.std.specs.Prelude.{ℕ, suc, Bool, true, false, not, ◌&&◌, ◌||◌, nat_le, List, [], ◌∷◌, map, is_none, Option, Some, None, if◌then◌else◌}
use Rattle.wire_msgs.specs.declared.response.Response.{Response}
use Rattle.session_spec.specs.Causes.{LeadershipLost, failure}
use Rattle.session_spec.specs.Events.{last_of}
use Rattle.session_table.specs.declared.session.Session.{Session}
use Rattle.session_table.specs.declared.session.WaitingQuery.{WaitingQuery}
use Rattle.session_table.specs.declared.session.WaitingQuery.TheVariants.{Due, Lent}

-- a query is run next
abbrev pub is_due : Option WaitingQuery → Bool
is_due None = false
is_due (Some (Due query)) = true
is_due (Some (Lent query)) = false

-- a client that waits for a proposal, or for a query that is run next
abbrev pub waits : Session → Bool
waits s = not s.hung && (not (is_none s.flight) || is_due s.later)

-- the place of one whose proposal ends at an index: before the first that ends there or later
abbrev pub place_for : ℕ → List (ℕ × ℕ) → ℕ
place_for last [] = 0
place_for last (w ∷ ws) = if nat_le last w.0 then 0 else suc (place_for last ws)

-- one more, at its place
abbrev pub placed_in : ℕ × ℕ → List (ℕ × ℕ) → List (ℕ × ℕ)
placed_in new [] = new ∷ []
placed_in new (w ∷ ws) = if nat_le new.0 w.0 then new ∷ w ∷ ws else w ∷ placed_in new ws

-- with the client of a session, if it waits
abbrev pub with_waiting : Session → List (ℕ × ℕ) → List (ℕ × ℕ)
with_waiting s waiting = if waits s then placed_in (last_of s.flight, s.conn) waiting else waiting

-- those of sessions, in order
abbrev pub waiting_in : List Session → List (ℕ × ℕ)
waiting_in [] = []
waiting_in (s ∷ ss) = with_waiting s (waiting_in ss)

-- what they are told
abbrev pub told_lost_to : List (ℕ × ℕ) → List (ℕ × Response)
told_lost_to waiting = map (λ (w : ℕ × ℕ). (w.1, failure LeadershipLost)) waiting
