-- Runs that continue.
use Rattle.std.proofs.Common.{◌≡◌, List, [], ◌∷◌, ◌++◌}
use Rattle.sql_engine.specs.declared.kind.EngineKind.{EngineKind}
use Rattle.sql_engine.specs.Meanings.{Meaning}
use Rattle.raft_safety.specs.Members.{Setup}
use Rattle.cluster_safety.specs.Runs.{Run, Event, happens, first_run, run_from, run, AllHold}
use Rattle.cluster_safety.proofs.Lasts.{run_join}

-- the run of events after others
pub run_more : (past more : List Event) → run (past ++ more) ≡ run_from (run past) more
unfolding run
run_more past more = run_join first_run past more

module _ (m : Meaning) (kind : EngineKind) (setup : Setup) where
  hold_join : (xs ys : List Event) (r : Run) → AllHold m kind setup r xs → AllHold m kind setup (run_from r xs) ys → AllHold m kind setup r (xs ++ ys)
  hold_join [] ys r a b = b
  hold_join (x ∷ xs) ys r a b = (a.0, hold_join xs ys (happens r x) a.1 b)

  -- their clauses hold
  pub hold_more : (past more : List Event) → AllHold m kind setup first_run past → AllHold m kind setup (run past) more →
      AllHold m kind setup first_run (past ++ more)
  unfolding run
  hold_more past more a b = hold_join past more first_run a b
