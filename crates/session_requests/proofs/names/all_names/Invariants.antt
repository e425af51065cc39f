use Rattle.std.proofs.Common.{◌≡◌, drop}
use Rattle.std.specs.List.{flat_map}
use Rattle.database_state.specs.Machines.{names_of}
use Rattle.session_spec.specs.Limits.{with_names}
use Rattle.session_requests.specs.Looking.{proposed_by}
use Rattle.session_requests.proofs.names.all_names.Given as goal

abbrev pub invariant-loop-session : goal.invariant-loop-session
invariant-loop-session l = with_names l.names.items (flat_map proposed_by (drop l.session-index l.sessions)) ≡ with_names (names_of l.machine) (flat_map proposed_by l.sessions)
