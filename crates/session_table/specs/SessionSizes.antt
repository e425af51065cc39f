-- How many bytes sessions keep of what their clients have said, and of what they are to be sent.
use Rattle.std.specs.Prelude.{◌+◌, ◌==◌, ℕ, cond, List, [], ◌∷◌, length, Option, Some, None}
use Rattle.wire_rows.specs.Answering.{held}
use Rattle.wire_rows.specs.Cut.{cut, bodies, total_size}
use Rattle.session_spec.specs.Sessions.{Prepared, Reply, Refusal, Single, Rows, Flight, Kind, Opening, Configuring, Writing, Committing, Querying}
use Rattle.session_table.specs.declared.session.Session.{Session}
use Rattle.session_table.specs.declared.session.WaitingQuery.{WaitingQuery}
use Rattle.session_table.specs.declared.session.WaitingQuery.TheVariants.{Due, Lent}
use Rattle.session_table.specs.StatementSizes.{statement_size}

-- a prepared statement counts 128 bytes, and besides those of its text
abbrev pub prepared_size : Option Prepared → ℕ
prepared_size None = 0
prepared_size (Some prepared) = length prepared.text + 128

abbrev pub all_prepared_size : List (Option Prepared) → ℕ
all_prepared_size [] = 0
all_prepared_size (s ∷ ss) = prepared_size s + all_prepared_size ss

-- the parts in which rows are reported
abbrev pub reply_size : Reply → ℕ
reply_size (Refusal cause) = 0
reply_size (Single response) = 0
reply_size (Rows answer) = total_size (bodies answer.columns (cut answer.columns answer.rows))

-- the reply that waits for its entry, or the query after a barrier
abbrev pub kind_size : Kind → ℕ
kind_size Opening = 0
kind_size (Configuring short) = 0
kind_size (Writing reply) = reply_size reply
kind_size Committing = 0
kind_size (Querying statement) = statement_size statement

abbrev pub flight_size : Option Flight → ℕ
flight_size None = 0
flight_size (Some flight) = kind_size flight.kind

-- the query that waits for its answer
abbrev pub later_size : Option WaitingQuery → ℕ
later_size None = 0
later_size (Some (Due query)) = statement_size query
later_size (Some (Lent query)) = statement_size query

-- its prepared statements, its pending proposal, and the query that it has yet to answer
abbrev pub session_size : Session → ℕ
session_size s = all_prepared_size s.statements.items + flight_size s.flight + later_size s.later

abbrev pub sessions_size : List Session → ℕ
sessions_size [] = 0
sessions_size (s ∷ ss) = session_size s + sessions_size ss

-- the same as a number of 64 bits
abbrev pub kept_size : List Session → ℕ
kept_size sessions = held (sessions_size sessions)

-- that of the first session of a connection
abbrev pub size_at : ℕ → List Session → ℕ
size_at conn [] = 0
size_at conn (s ∷ ss) = cond (s.conn == conn) (session_size s) (size_at conn ss)

abbrev pub kept_size_at : ℕ → List Session → ℕ
kept_size_at conn sessions = held (size_at conn sessions)
