-- The steps of a served node are events of a run, whatever other nodes do before each.
use Rattle.std.proofs.Common.{◌≡◌, [], ◌∷◌, ◌++◌, sym, ap, ◌∙◌}
use Rattle.sql_engine.specs.declared.kind.EngineKind.{EngineKind}
use Rattle.sql_engine.specs.Meanings.{Meaning}
use Rattle.node_core.specs.declared.running.Running.{Running}
use Rattle.node_core.specs.Values.{seen}
use Rattle.cluster_safety.specs.Runs.{Up, Run, run}
use Rattle.node_meets_spec.proofs.Stepping.{steps_run_hold}
use Rattle.serve_safety.specs.Beside.{PathsAreRuns}
use Rattle.serve_safety.proofs.Onward.{run_more, hold_more}

module _ (m : Meaning) (kind : EngineKind) where
  pub paths_are_runs_hold : PathsAreRuns m kind
  paths_are_runs_hold setup past n old new before after [] [] hold up id path = up ∙ ap (λ (v : Running). Up (seen v)) (sym path.0)
  paths_are_runs_hold setup past n old new before after [] (o ∷ more) hold up id path = tt
  paths_are_runs_hold setup past n old new before after (event ∷ events) [] hold up id path = tt
  paths_are_runs_hold setup past n old new before after (event ∷ events) (o ∷ more) hold up id path =
      λ others held alone arrive.
      let there = past ++ others in
      let holds = hold_more m kind setup past others hold held in
      let here : (run there).places n ≡ Up (seen old) = ap (λ (r : Run). r.places n) (run_more past others) ∙ alone.hold_place ∙ up in
      let one = steps_run_hold m kind setup there n old path.0 event o before path.1 holds here id path.2 arrive in
      let then = hold_more m kind setup there one.leads.events holds one.leads.hold in (
        one,
        then,
        paths_are_runs_hold setup (there ++ one.leads.events) n path.0 new path.1 after events more then (ap (λ (r : Run). r.places n) (run_more there one.leads.events) ∙ one.leads.here) one.id path.3,
      )
