-- A node that has kept nothing.
use Rattle.std.proofs.Common.{[], refl, arith}
use Rattle.std.specs.List.Sorted.{IsStrictlySortedBy}
use Rattle.session_spec.specs.Machine.{files}
use Rattle.raft_spec.specs.Node.{voters, others, peers}
use Rattle.node_spec.specs.Nodes.{FirstStands}

pub first_stands_holds : FirstStands
unfolding files voters others peers IsStrictlySortedBy
first_stands_holds setup id = record {
  twin = record { log = []; node = refl; same = record { len = refl; rest = refl; snapshot = refl } };
  raft = record { low = omega arith; applied = omega arith; within = omega arith; rows = refl };
  up = refl;
  coherent = record { log = refl; applied = refl; term = refl; leads = refl };
  serving = refl;
  machine = record { in_order = tt; below = tt; apart = tt; marks = tt; numbers = tt };
  lacks = λ name. 0;
  since = λ name. 0;
  files = refl;
  sessions = refl;
  kept = record { term = refl; vote = refl; log = refl; index = refl; snap_term = refl; bytes = λ h. absurd (omega (arith, h)) };
}
