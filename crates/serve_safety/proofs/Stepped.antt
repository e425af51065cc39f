-- The loop of a served node as steps by the rules.
use Rattle.std.proofs.Common.{◌≡◌, ℕ, List, [], ◌∷◌, refl, sym, ap, ◌∙◌, subst}
use Rattle.std.specs.Prelude.{Bool, map, Option}
use Rattle.disk_model.specs.Disk.{Disk}
use Rattle.disk_model.specs.Trait.{Text}
use Rattle.sql_engine.specs.declared.kind.EngineKind.{EngineKind}
use Rattle.sql_engine.specs.Meanings.{Meaning, Told}
use Rattle.raft_spec.specs.Node.{Server}
use Rattle.raft_membership.specs.Members.{read_setup}
use Rattle.session_outcomes.specs.declared.job.Read.{Read}
use Rattle.serve_traits.specs.declared.event.Event.{Event}
use Rattle.serve_traits.specs.declared.looping.LoopEnd.{LoopEnd}
use Rattle.serve_traits.specs.declared.looping.LoopEnd.TheVariants.{Closed, DiskFault, Spent, NoMemory, Unfit}
use Rattle.serve_traits.specs.Looping.{Taken, Broke, Ends}
use Rattle.serve_traits.specs.Stepping.{Steps}
use Rattle.raft_on_disk.specs.Replicas.{IsKept}
use Rattle.node_core.specs.Account.{AccountsForStep, AccountsForStop}
use Rattle.node_core.specs.Finding.{Finds}
use Rattle.node_core.specs.Values.{replica_of}
use Rattle.serve_loop.specs.declared.step_report.StepReport.{StepReport}
use Rattle.serve_loop.specs.Bridge.{event_of}
use Rattle.serve_loop.specs.Serving.{Seat, MakesByRules, BreaksByRules}
use Rattle.serve_safety.specs.Paths.{PathSo, outs_of, EndsSo, ServesByRules}

module _ {D E : Type 0} (tells : Bool) (states : D → Disk Text → Type 0) (faults : D → ℕ) (meaning : EngineKind → Meaning) (kind : E → EngineKind) (told : E → Option Told) (refused : E → ℕ) (opening : List Server) (k : EngineKind) where
  -- the steps are those of the rules, and the engine stays of its kind
  path_of : (was : Seat D E) (events : List (Event Read)) (outs : List StepReport) (now : Seat D E) → kind was.engine ≡ k →
      Steps (MakesByRules tells states faults meaning kind told refused) was events outs now →
      PathSo (meaning k) k (read_setup opening) was.node.running (told was.engine) (map event_of events) (map outs_of outs) now.node.running (told now.engine)
  unfolding Steps
  path_of was [] [] now is steps = (ap (λ (s : Seat D E). s.node.running) steps, ap (λ (s : Seat D E). told s.engine) steps)
  path_of was [] (o ∷ os) now is steps = absurd steps
  path_of was (e ∷ es) [] now is steps = absurd steps
  path_of was (e ∷ es) (o ∷ os) now is steps =
      let next = steps.0 in (
        next.node.running,
        told next.engine,
        subst (λ (z : EngineKind). AccountsForStep (meaning z) z (read_setup opening) was.node.running next.node.running (event_of e) o.outs (told was.engine) (told next.engine)) is (steps.1.2.acts opening),
        path_of next es os now (steps.1.1.kind ∙ is) steps.2,
      )

  kind_of : (was : Seat D E) (events : List (Event Read)) (outs : List StepReport) (now : Seat D E) → kind was.engine ≡ k →
      Steps (MakesByRules tells states faults meaning kind told refused) was events outs now → kind now.engine ≡ k
  unfolding Steps
  kind_of was [] [] now is steps = ap (λ (s : Seat D E). kind s.engine) steps ∙ is
  kind_of was [] (o ∷ os) now is steps = absurd steps
  kind_of was (e ∷ es) [] now is steps = absurd steps
  kind_of was (e ∷ es) (o ∷ os) now is steps = kind_of steps.0 es os now (steps.1.1.kind ∙ is) steps.2

  -- the disk keeps what Raft is
  kept_of : (was : Seat D E) (events : List (Event Read)) (outs : List StepReport) (now : Seat D E) → IsKept tells (states was.disk) (replica_of was.node) →
      Steps (MakesByRules tells states faults meaning kind told refused) was events outs now → IsKept tells (states now.disk) (replica_of now.node)
  unfolding Steps
  kept_of was [] [] now keeps steps = subst (λ (s : Seat D E). IsKept tells (states s.disk) (replica_of s.node)) (sym steps) keeps
  kept_of was [] (o ∷ os) now keeps steps = absurd steps
  kept_of was (e ∷ es) [] now keeps steps = absurd steps
  kept_of was (e ∷ es) (o ∷ os) now keeps steps = kept_of steps.0 es os now (steps.1.2.well.stored keeps) steps.2

  broke_so : (last now : Seat D E) (before after : Taken Read) (events : List (Event Read)) → kind last.engine ≡ k →
      IsKept tells (states last.disk) (replica_of last.node) →
      (b : Broke (BreaksByRules tells states faults meaning kind refused) last now before after events) →
      Finds tells (states now.disk) (AccountsForStop (meaning k) k (read_setup opening) last.node.running (event_of b.event))
  broke_so last now before after events is keeps b =
      subst (λ (z : EngineKind). Finds tells (states now.disk) (AccountsForStop (meaning z) z (read_setup opening) last.node.running (event_of b.event))) is (b.broken.2.stops opening keeps)

  ends_of : (last now : Seat D E) (before after : Taken Read) (events : List (Event Read)) (budget : ℕ) (end : LoopEnd) → kind last.engine ≡ k →
      IsKept tells (states last.disk) (replica_of last.node) →
      Ends (BreaksByRules tells states faults meaning kind refused) last now before after events budget end → EndsSo (meaning k) k (read_setup opening) tells (states now.disk) last.node before after events end
  ends_of last now before after events budget Closed is keeps e = (e.0, subst (λ (s : Seat D E). IsKept tells (states s.disk) (replica_of last.node)) (sym e.1) keeps)
  ends_of last now before after events budget (Spent count) is keeps e = (e.0, subst (λ (s : Seat D E). IsKept tells (states s.disk) (replica_of last.node)) (sym e.1) keeps)
  ends_of last now before after events budget DiskFault is keeps e = record { event = e.event; took = e.took; finds = broke_so last now before after events is keeps e }
  ends_of last now before after events budget NoMemory is keeps e = record { event = e.event; took = e.took; finds = broke_so last now before after events is keeps e }
  ends_of last now before after events budget Unfit is keeps e = record { event = e.event; took = e.took; finds = broke_so last now before after events is keeps e }

module _ {D E : Type 0} (tells : Bool) (states : D → Disk Text → Type 0) (faults : D → ℕ) (meaning : EngineKind → Meaning) (kind : E → EngineKind) (told : E → Option Told) (refused : E → ℕ) where
  pub serves_by_rules_hold : ServesByRules tells states faults meaning kind told refused
  serves_by_rules_hold opening node disk disk_after engine engine_after before after said said_after budget end runs keeps =
      let l = runs.loops in
      let start : Seat D E = record { node = node; disk = disk; engine = engine } in
      let now : Seat D E = record { node = runs.last; disk = disk_after; engine = engine_after } in
      record {
        events = l.events;
        outs = l.outs;
        last = l.last.node;
        told_last = told l.last.engine;
        path = path_of tells states faults meaning kind told refused opening (kind engine) start l.events l.outs l.last refl l.steps;
        puts = l.puts;
        ends = ends_of tells states faults meaning kind told refused opening (kind engine) l.last now before after l.events budget end
            (kind_of tells states faults meaning kind told refused opening (kind engine) start l.events l.outs l.last refl l.steps)
            (kept_of tells states faults meaning kind told refused opening (kind engine) start l.events l.outs l.last keeps l.steps) l.ends;
      }
