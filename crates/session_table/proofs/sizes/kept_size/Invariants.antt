use Rattle.std.proofs.Common.{◌≡◌, ◌+◌, ◌<◌, ◌^◌, drop}
use Rattle.wire_rows.specs.Answering.{held}
use Rattle.session_table.specs.SessionSizes.{sessions_size}
use Rattle.session_table.proofs.sizes.kept_size.Given as goal

abbrev pub invariant-loop-session : goal.invariant-loop-session
invariant-loop-session l = (held (l.size + sessions_size (drop l.session-index l.sessions)) ≡ held (sessions_size l.sessions)) × (l.size < 2 ^ 64)
