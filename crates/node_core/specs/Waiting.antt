-- Whose message waits has a turn.
use Rattle.std.specs.Prelude.{◌≡◌, ℕ, ◌==◌, Bool, true, false, List, [], None}
use Rattle.std.specs.List.{list_any}
use Rattle.session_spec.specs.Sessions.{Gateway, is_due}
use Rattle.client_sessions.specs.Clients.{Clients, offered}

-- a connection is among these
abbrev pub is_among : ℕ → List ℕ → Bool
is_among conn conns = list_any (λ (other : ℕ). other == conn) conns

-- A connection that has no turn has nothing that could be taken: it isn't open, or its session is busy, or no message waits on it.
abbrev pub HasTurns : Clients → Type 0
HasTurns k = (conn : ℕ) → is_among conn k.turns ≡ false → offered k conn [] ≡ None

-- whoever has a session is among the connections that are searched
abbrev pub IsSought : Gateway → Type 0
IsSought g = (conn : ℕ) → (g.session conn).there ≡ true → is_among conn g.conns ≡ true

-- no query waits to be run whose barrier is applied
abbrev pub NoneIsDue : Clients → Type 0
NoneIsDue k = (conn : ℕ) → is_due (k.sessions.session conn).later ≡ false
