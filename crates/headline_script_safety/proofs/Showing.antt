-- How nodes are shown after the first turns of a script.
use Rattle.std.proofs.Common.{◌≡◌, ℕ, ◌≤◌, List, [], ◌∷◌, ◌++◌, length, take, refl, sym, ap, ◌∙◌, subst, arith, append_assoc}
use Rattle.std.specs.Prelude.{None}
use Rattle.std.proofs.lemmas.List.{length-take, take-take}
use Rattle.sql_engine.specs.declared.kind.EngineKind.{EngineKind}
use Rattle.sql_engine.specs.Meanings.{Meaning}
use Rattle.database_state.specs.declared.database.Database.{Database}
use Rattle.database_state.specs.ByName.{Ascend}
use Rattle.database_state.specs.Databases.{contents_of}
use Rattle.database_state.specs.Files.{Content}
use Rattle.database_state.specs.Machines.{names_of}
use Rattle.session_spec.specs.Entries.{Entry as Line}
use Rattle.session_spec.specs.Machine.{Machine, machine_of, files}
use Rattle.raft_safety.specs.Laws.{node_at}
use Rattle.raft_safety.specs.Members.{Setup}
use Rattle.cluster_model.specs.Clusters.{cluster}
use Rattle.cluster_safety.specs.Acts.{PlaceIs}
use Rattle.cluster_safety.specs.Laws.{SameFiles}
use Rattle.cluster_safety.specs.Runs.{Up, Run, Event, first_run, run, run_from}
use Rattle.script_cluster.specs.Outcomes.{Standing, Turn}
use Rattle.script_safety.specs.Showing.{stands}
use Rattle.script_safety.specs.Turns.{AreRun, events_of}
use Rattle.script_safety.proofs.Contents.{same_contents}
use Rattle.script_safety.proofs.Running.{runs_hold_hold}
use Rattle.script_safety.proofs.Showing.{all_shown, known}
use Rattle.headline.specs.Headline.{shown_image}
use Rattle.headline_safety.proofs.Moments.{Moments, moments_of}
use Rattle.headline_safety.proofs.Shown.{shows_by}
use Rattle.headline_script_safety.specs.Showing.{IsShownAt, ScriptsShowChanges}

same_files : (a b c : Machine) → SameFiles a c → SameFiles b c → SameFiles a b
same_files a b c x y = record {
  names = x.names ∙ sym y.names;
  images = λ name. x.images name ∙ sym (y.images name);
  pending = λ name. x.pending name ∙ sym (y.pending name);
}

module _ (m : Meaning) (kind : EngineKind) (setup : Setup) where
  -- the first turns are a run too, whose events are the first ones
  record RunFront (r : Run) (turns : List Turn) (are : AreRun m kind setup r turns) (early : List Turn) : Type 0 where
    one : AreRun m kind setup r early
    rest : List Event
    split : events_of m kind setup r turns are ≡ events_of m kind setup r early one ++ rest

  front_of : (r : Run) (turns early late : List Turn) → turns ≡ early ++ late → (are : AreRun m kind setup r turns) → RunFront r turns are early
  front_of r turns [] late e are = record { one = tt; rest = events_of m kind setup r turns are; split = refl }
  front_of r [] (x ∷ early) late e are = absurd cc
  front_of r (t ∷ turns) (x ∷ early) late e are =
      let head : t ≡ x = cc in
      let tail : turns ≡ early ++ late = cc in
      let p = front_of (run_from r are.0.leads.events) turns early late tail are.1 in
      subst (λ z. RunFront r (t ∷ turns) are (z ∷ early)) head (record {
        one = (are.0, p.one);
        rest = p.rest;
        split = ap (λ l. are.0.leads.events ++ l) p.split
            ∙ sym (append_assoc are.0.leads.events (events_of m kind setup (run_from r are.0.leads.events) early p.one) p.rest);
      })

  -- what is shown of a node at a moment
  record Seen (chosen : List Line) (a : Standing) : Type 0 where
    size : ℕ
    machine : List Database
    databases : a.databases ≡ contents_of machine
    ascends : Ascend (names_of machine)
    low : a.applied ≤ length (take size chosen)
    are : SameFiles (machine_of machine) (files (take a.applied (take size chosen)))

  seen_at : (turns : List Turn) (are : AreRun m kind setup first_run turns) (x : Moments m kind setup (events_of m kind setup first_run turns are)) (n : ℕ)
      (a : Standing) →
      IsShownAt turns n a → Seen x.chosen a
  unfolding run
  seen_at turns are x n a at =
      let f = front_of first_run turns at.early at.late at.split are in
      let events = events_of m kind setup first_run at.early f.one in
      let now = x.at events f.rest f.split in
      let s = known m kind setup ((run_from first_run events).places n) (stands n at.early) a at.shown
      (all_shown m kind setup at.early first_run f.one n None tt) in
      let c = cluster setup now.acts in
      let place : PlaceIs setup (Up s.node) ((run_from first_run events).jobs n) (node_at setup c.raft n) (c.lives n) =
      subst (λ p. PlaceIs setup p ((run_from first_run events).jobs n) (node_at setup c.raft n) (c.lives n)) s.up (now.is.places n) in
      let shows = now.safe.files_are n s.node s.up in
      record {
        size = now.size;
        machine = s.node.machine;
        databases = s.so.databases;
        ascends = place.0.machine.in_order;
        low = subst (λ k. k ≤ length (take now.size x.chosen)) (sym s.so.applied) shows.0;
        are = subst (λ k. SameFiles (machine_of s.node.machine) (files (take k (take now.size x.chosen)))) (sym s.so.applied) shows.1;
      }

  -- by the whole list
  by_list : (chosen : List Line) (a : Standing) (s : Seen chosen a) → SameFiles (machine_of s.machine) (files (take a.applied chosen))
  by_list chosen a s =
      let long = length-take s.size chosen in
      let low = s.low in
      subst (λ l. SameFiles (machine_of s.machine) (files l)) (take-take a.applied s.size chosen (omega arith)) s.are

  alike_by : (chosen : List Line) (a b : Standing) → Seen chosen a → Seen chosen b → a.applied ≡ b.applied → a.databases ≡ b.databases
  alike_by chosen a b s t same =
      let u : SameFiles (machine_of t.machine) (files (take a.applied chosen)) =
      subst (λ k. SameFiles (machine_of t.machine) (files (take k chosen))) (sym same) (by_list chosen b t) in
      s.databases ∙ same_contents s.machine t.machine s.ascends t.ascends (same_files (machine_of s.machine) (machine_of t.machine)
      (files (take a.applied chosen)) (by_list chosen a s) u)
      ∙ sym t.databases

pub scripts_show_changes_hold : (m : Meaning) (kind : EngineKind) → ScriptsShowChanges m kind
scripts_show_changes_hold m kind setup turns are =
    let x = moments_of m kind setup (events_of m kind setup first_run turns are) (runs_hold_hold m kind setup turns are) in
    record {
      chosen = x.chosen;
      files = λ order same n a at.
          let s = seen_at m kind setup turns are x n a at in
          let long = length-take s.size x.chosen in
          let low = s.low in (
            omega arith,
            λ name. ap (λ (cs : List Content). shown_image cs name) s.databases
                ∙ shows_by x.chosen order s.size a.applied s.machine same s.low s.are name,
          );
      alike = λ n k a b at_n at_k same. alike_by m kind setup x.chosen a b (seen_at m kind setup turns are x n a at_n)
          (seen_at m kind setup turns are x k b at_k) same;
    }
