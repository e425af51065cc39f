use Rattle.std.proofs.Common.{◌≡◌, ◌-◌, None}
use Rattle.database_state.specs.Databases.{contents_of}
use Rattle.database_state.specs.Restoring.{contents_at, last_name, restored}
use Rattle.database_state.proofs.RestoringSteps.{contents_front}
use Rattle.database_state.proofs.restoring.databases.Given as goal

abbrev pub invariant-loop : goal.invariant-loop
invariant-loop l = record {
  read : contents_front (contents_of l.databases.items) (contents_at (l.count - l.counter) (last_name l.databases.items) l.words) ≡ contents_at l.count None l.initial.words;
  fresh : l.databases.items ≡ restored (contents_of l.databases.items);
}
