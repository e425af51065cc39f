use Rattle.std.proofs.Common.{◌≡◌, drop}
use Rattle.session_table.specs.SessionSizes.{size_at}
use Rattle.session_table.proofs.sizes.kept_size_at.Given as goal

abbrev pub invariant-loop-session : goal.invariant-loop-session
invariant-loop-session l = size_at l.conn (drop l.session-index l.sessions) ≡ size_at l.conn l.sessions
