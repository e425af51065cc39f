-- Sessions without the numbers of transactions in the replies that wait: an engine's answer has one, which no client is sent.
use Rattle.std.specs.Prelude.{Option, Some, None}
use Rattle.sql_engine.specs.declared.answer.StatementResult.{StatementResult}
use Rattle.session_spec.specs.Sessions.{Reply, Refusal, Single, Rows, Kind, Opening, Configuring, Writing, Committing, Querying, Flight, Session, Gateway}

abbrev pub plain_ran : StatementResult → StatementResult
plain_ran ran = record { after = record { tx = 0; pages = ran.after.pages }; affected = ran.affected; columns = ran.columns; rows = ran.rows }

abbrev pub plain_reply : Reply → Reply
plain_reply (Refusal cause) = Refusal cause
plain_reply (Single response) = Single response
plain_reply (Rows answer) = Rows (plain_ran answer)

abbrev pub plain_kind : Kind → Kind
plain_kind Opening = Opening
plain_kind (Configuring short) = Configuring short
plain_kind (Writing reply) = Writing (plain_reply reply)
plain_kind Committing = Committing
plain_kind (Querying statement) = Querying statement

abbrev pub plain_flight : Option Flight → Option Flight
plain_flight None = None
plain_flight (Some f) = Some (record { name = f.name; first = f.first; last = f.last; term = f.term; pages = f.pages; kind = plain_kind f.kind })

abbrev pub plain_session : Session → Session
plain_session s = record {
  there = s.there;
  hung = s.hung;
  database = s.database;
  barriers = s.barriers;
  later = s.later;
  statements = s.statements;
  tx = s.tx;
  lost = s.lost;
  flight = plain_flight s.flight;
}

abbrev pub plain_gate : Gateway → Gateway
plain_gate g = record { conns = g.conns; session = λ conn. plain_session (g.session conn); weight = g.weight }
