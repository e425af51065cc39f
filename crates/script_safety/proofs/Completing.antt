-- Each request of a script is answered.
use Rattle.std.proofs.Common.{List, [], ◌∷◌, ◌++◌, subst}
use Rattle.sql_engine.specs.declared.kind.EngineKind.{EngineKind}
use Rattle.sql_engine.specs.Meanings.{Meaning}
use Rattle.raft_safety.specs.Members.{Setup}
use Rattle.cluster_safety.specs.Runs.{Run, Event, Goes, AllHold, happens, first_run}
use Rattle.cluster_safety.proofs.Completes.{runs_complete_hold}
use Rattle.script_safety.specs.Complete.{ScriptsAreComplete}

module _ (m : Meaning) (kind : EngineKind) where
  -- so do those of a front
  front_holds : (setup : Setup) (events rest : List Event) (r : Run) → AllHold m kind setup r (events ++ rest) → AllHold m kind setup r events
  front_holds setup [] rest r h = tt
  front_holds setup (e ∷ events) rest r h = (h.0, front_holds setup events rest (happens r e) h.1)

  pub scripts_are_complete_hold : ScriptsAreComplete m kind
  scripts_are_complete_hold setup turns safe events rest n came added new letters replies jobs conn parts open_now other =
      let front = events ++ Goes n came added new letters replies jobs ∷ [] in
      runs_complete_hold m kind setup events n came added new letters replies jobs conn
      (front_holds setup front rest first_run (subst (AllHold m kind setup first_run) parts safe.holds)) open_now other
