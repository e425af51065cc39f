-- How nodes are shown is how those of the run stand.
use Rattle.std.proofs.Common.{◌≡◌, ℕ, Bool, true, false, List, [], ◌∷◌, refl, sym, ap, ◌∙◌, subst}
use Rattle.std.specs.Prelude.{cond, ◌==◌, Option, Some, None}
use Rattle.std.proofs.lemmas.Bool.{eqb-true, eqb-false}
use Rattle.sql_engine.specs.declared.kind.EngineKind.{EngineKind}
use Rattle.sql_engine.specs.Meanings.{Meaning}
use Rattle.session_spec.specs.Engines.{Answer}
use Rattle.session_spec.specs.Sessions.{Reply}
use Rattle.raft_safety.specs.Laws.{node_at}
use Rattle.raft_safety.specs.Members.{Setup}
use Rattle.cluster_model.specs.Clusters.{cluster}
use Rattle.node_spec.specs.Nodes.{Node}
use Rattle.node_spec.specs.Steps.{Letter}
use Rattle.cluster_safety.specs.Acts.{PlaceIs}
use Rattle.cluster_safety.specs.Runs.{Place, Up, Run, first_run, run, run_from}
use Rattle.cluster_safety.proofs.Runs.{runs_make_acts_hold}
use Rattle.cluster_safety.proofs.Safes.{runs_are_safe_hold}
use Rattle.script_cluster.specs.Outcomes.{Standing, Ending, Steps, Starts, Stops, Fails, Unreadable, Turn, Does, Crashes}
use Rattle.script_safety.specs.Slots.{SlotShowsNode}
use Rattle.script_safety.specs.Showing.{standing_by, standing_in, stands_from, stands, ShownAlike}
use Rattle.script_safety.specs.Turns.{actor, EndShows, TurnShows, TurnRuns, AreRun, events_of}
use Rattle.script_safety.proofs.Contents.{same_contents}
use Rattle.script_safety.proofs.Running.{run_on, runs_hold_hold}

-- a place where a node is so
pub record Stood (place : Place) (a : Standing) : Type 0 where
  pub node : Node
  pub up : place ≡ Up node
  pub so : SlotShowsNode node a

-- it does, if a standing is known
abbrev pub IsShown : Place → Option Standing → Type 0
IsShown place None = Unit {0}
IsShown place (Some a) = Stood place a

end_shown : (answers : List Answer) (ending : Ending) (place : Place) (letters : List Letter) (replies : List (ℕ × Reply)) (used : List Answer) → EndShows answers ending place letters replies used → IsShown place (standing_by ending)
end_shown answers (Steps outs standing) place letters replies used h = record { node = h.node; up = h.up; so = h.stands }
end_shown answers (Starts kept standing) place letters replies used h = record { node = h.node; up = h.up; so = h.stands }
end_shown answers (Stops keeps) place letters replies used h = tt
end_shown answers (Fails keeps) place letters replies used h = tt
end_shown answers Unreadable place letters replies used h = absurd h

turn_shown : (turn : Turn) (place : Place) (letters : List Letter) (replies : List (ℕ × Reply)) (used : List Answer) → TurnShows turn place letters replies used → IsShown place (standing_in turn)
turn_shown (Does n doing aim outcome) place letters replies used h = end_shown outcome.answers outcome.ending place letters replies used h
turn_shown (Crashes n pick) place letters replies used h = tt

module _ (m : Meaning) (kind : EngineKind) (setup : Setup) where
  one_shown : (r : Run) (turn : Turn) (one : TurnRuns m kind setup r turn) (n : ℕ) (o : Option Standing) → IsShown (r.places n) o → (b : Bool) → (actor turn == n) ≡ b →
      IsShown ((run_from r one.leads.events).places n) (cond b (standing_in turn) o)
  one_shown r turn one n o h true e =
      let same : actor turn ≡ n = eqb-true (actor turn) n e in
      subst (λ p. IsShown p (standing_in turn)) (sym (ap (run_from r one.leads.events).places (sym same) ∙ one.leads.here)) (turn_shown turn one.place one.letters one.replies _ one.shows)
  one_shown r turn one n o h false e = subst (λ p. IsShown p o) (sym (one.leads.others n (λ z. eqb-false (actor turn) n e (sym z))).0) h

  pub all_shown : (turns : List Turn) (r : Run) (is : AreRun m kind setup r turns) (n : ℕ) (o : Option Standing) → IsShown (r.places n) o → IsShown ((run_from r (events_of m kind setup r turns is)).places n) (stands_from n o turns)
  all_shown [] r is n o h = h
  all_shown (turn ∷ turns) r is n o h =
      let q = run_from r is.0.leads.events in
      let rest = events_of m kind setup q turns is.1 in
      subst (λ (z : Run). IsShown (z.places n) (stands_from n (cond (actor turn == n) (standing_in turn) o) turns)) (sym (run_on m kind setup is.0.leads.events rest r)) (all_shown turns q is.1 n (cond (actor turn == n) (standing_in turn) o) (one_shown r turn is.0 n o h (actor turn == n) refl))

  pub known : (place : Place) (o : Option Standing) (a : Standing) → o ≡ Some a → IsShown place o → Stood place a
  known place o a e h = subst (IsShown place) e h

module _ (m : Meaning) (kind : EngineKind) where
  pub shown_alike_holds : ShownAlike m kind
  unfolding run
  shown_alike_holds setup turns n k a b is at_n at_k same =
      let events = events_of m kind setup first_run turns is in
      let holds = runs_hold_hold m kind setup turns is in
      let acts = runs_make_acts_hold m kind setup events holds in
      let safe = runs_are_safe_hold m kind setup events holds in
      let x = known m kind setup ((run events).places n) (stands n turns) a at_n (all_shown m kind setup turns first_run is n None tt) in
      let y = known m kind setup ((run events).places k) (stands k turns) b at_k (all_shown m kind setup turns first_run is k None tt) in
      let c = cluster setup acts.0 in
      let left : PlaceIs setup (Up x.node) ((run events).jobs n) (node_at setup c.raft n) (c.lives n) = subst (λ p. PlaceIs setup p ((run events).jobs n) (node_at setup c.raft n) (c.lives n)) x.up (acts.1.places n) in
      let right : PlaceIs setup (Up y.node) ((run events).jobs k) (node_at setup c.raft k) (c.lives k) = subst (λ p. PlaceIs setup p ((run events).jobs k) (node_at setup c.raft k) (c.lives k)) y.up (acts.1.places k) in
      let files = safe.2.alike n k x.node y.node x.up y.up (sym x.so.applied ∙ same ∙ y.so.applied) in
      x.so.databases ∙ same_contents x.node.machine y.node.machine left.0.machine.in_order right.0.machine.in_order files ∙ sym y.so.databases
