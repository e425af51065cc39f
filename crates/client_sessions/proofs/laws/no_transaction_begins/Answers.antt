use Rattle.std.proofs.Common.{refl}
use Rattle.client_sessions.specs.Calls.{lost_all}
use Rattle.client_sessions.proofs.Idle.{joined_closed, heard_closed, hung_closed, closed_closed, applied_closed}
use Rattle.client_sessions.proofs.Moving.{lost_ended}
use Rattle.client_sessions.proofs.laws.no_transaction_begins.Goals as goal

pub returns : goal.returns
returns c = record {
  started = λ conn. refl;
  joined = joined_closed;
  heard = heard_closed;
  left = hung_closed;
  closed = closed_closed;
  applied = λ k index none. applied_closed index k.sessions none;
  lost = λ k. lost_ended k (lost_all k) _ refl;
}
