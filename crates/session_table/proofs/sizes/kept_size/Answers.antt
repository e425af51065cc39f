use Rattle.std.proofs.Common.{refl}
use Rattle.wire_rows.proofs.Lengths.{sum_done}
use Rattle.session_table.specs.SessionSizes.{sessions_size, kept_size}
use Rattle.session_table.proofs.sizes.kept_size.Goals as goal

pub returns : goal.returns
returns c = sum_done sessions_size c.args.sessions.now c.loop-session.session-index c.loop-session.size (kept_size c.args.sessions.now) refl c.loop-session-test.false c.loop-session.invariant.1 c.loop-session.invariant.0
