use Rattle.std.proofs.Common.{◌≡◌, max, map, drop}
use Rattle.session_spec.specs.Limits.{most}
use Rattle.session_table.specs.Table.{flown_in}
use Rattle.session_table.proofs.open_work.flown.Given as goal

abbrev pub invariant-loop-session : goal.invariant-loop-session
invariant-loop-session l = max l.most (most (map (flown_in l.name) (drop l.session-index l.sessions))) ≡ most (map (flown_in l.name) l.sessions)
