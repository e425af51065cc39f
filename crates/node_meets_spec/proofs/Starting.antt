-- Starts and crashes are events of a run; and what a disk represents between them.
use Rattle.std.proofs.Common.{◌≡◌, ◌⊎◌, inl, inr, ℕ, [], ◌∷◌, refl, sym, ap, ◌∙◌, subst, arith}
use Rattle.std.specs.Prelude.{Ok, Err, min}
use Rattle.sql_engine.specs.declared.kind.EngineKind.{EngineKind}
use Rattle.sql_engine.specs.Meanings.{Meaning}
use Rattle.disk_model.specs.Disk.{Disk}
use Rattle.disk_model.specs.Rest.{AfterCrash}
use Rattle.disk_model.specs.Trait.{Text}
use Rattle.disk_model.proofs.Rests.{rest_left}
use Rattle.raft_spec.specs.Account.{Stored, older}
use Rattle.raft_safety.specs.Members.{Setup}
use Rattle.store_laws.specs.Names.{NodeFiles}
use Rattle.store_laws.specs.Chance.{NoChance}
use Rattle.store_laws.specs.Store.{Kept, Outcome, Loaded}
use Rattle.store_laws.proofs.Seen.{seen_holds}
use Rattle.store_format.specs.NodeFormat.{node_format}
use Rattle.segment_store.specs.declared.load_fault.LoadFault.TheVariants as fault
use Rattle.segment_store.specs.FileNames.{file_name}
use Rattle.segment_store.specs.Keeps.{folder, HasNew}
use Rattle.segment_store.specs.Loading.{kept_in, IsSeen}
use Rattle.segment_store.specs.Open.{Open}
use Rattle.segment_store.specs.Restarts.{StandsFor, Begins, MayHave}
use Rattle.segment_store.proofs.Restarting.{only_read, left_by, reads, stays}
use Rattle.node_spec.specs.Nodes.{KeptIs}
use Rattle.node_core.specs.declared.fault.StartFault.{StartFault}
use Rattle.node_core.specs.declared.fault.StartFault.TheVariants as start
use Rattle.node_core.specs.declared.node.Node.{Node}
use Rattle.node_core.specs.Values.{kept_by, replica_of}
use Rattle.node_core.specs.Starting.{StaysKept, StartLeaves}
use Rattle.cluster_safety.specs.Runs.{Place, Up, Down, Run, Event, Starts, StartFails, Crashes, with_place, kept_at, happens, run, Holds}
use Rattle.cluster_safety.proofs.Runs.{other_place, here_place}
use Rattle.session_safety.specs.Lending.{no_jobs}
use Rattle.node_meets_spec.specs.Steps.{Leads}
use Rattle.node_meets_spec.proofs.Stepping.{other_jobs}
use Rattle.node_meets_spec.specs.Starts.{StartsRun, StartStopsRun, StartsKeep, CrashesRun, OpenKeeps, CrashKeeps, CrashLeavesKept, StartFinds, StartLeavesKept}

-- ---- events of a run

module _ (m : Meaning) (kind : EngineKind) (setup : Setup) (r : Run) (n : ℕ) (place : Place) (e : Event) where
  -- an event after which the place is so, and that says nothing
  abbrev pub leads_by : Holds m kind setup r e → happens r e ≡ with_place r n place no_jobs [] [] → Leads m kind setup r n place [] []
  leads_by h is = record {
    events = e ∷ [];
    hold = (h, tt);
    here = ap (λ (q : Run). q.places n) is ∙ here_place m kind r n place no_jobs [] [];
    others = λ k z. (
      ap (λ (q : Run). q.places k) is ∙ other_place m kind r k n place no_jobs [] [] z,
      ap (λ (q : Run). q.jobs k) is ∙ other_jobs r k n place no_jobs [] [] z,
    );
    letters_are = ap (λ (q : Run). q.letters) is;
    said_is = ap (λ (q : Run). q.said) is;
  }

module _ (m : Meaning) (kind : EngineKind) where
  pub starts_run_hold : StartsRun m kind
  starts_run_hold setup past n kept new servers down so = leads_by m kind setup (run past) n (Up new) (Starts n servers new) (kept, down, so) refl

  pub start_stops_run_hold : StartStopsRun m kind
  start_stops_run_hold setup past n kept left down so = leads_by m kind setup (run past) n (Down left) (StartFails n left) (kept, down, so) refl

  pub crashes_run_hold : CrashesRun m kind
  crashes_run_hold setup past n = leads_by m kind setup (run past) n (Down (kept_at ((run past).places n))) (Crashes n) tt refl

same_base : (x : Stored) → older x.base x ≡ x
same_base x = let e : min x.base x.base ≡ x.base = omega arith in ap (λ b. record x { base = b }) e

pub starts_keep_hold : StartsKeep
starts_keep_hold setup kept x k = (x.base, subst (KeptIs setup kept) (sym (same_base x)) k)

-- ---- the disk

rest_seen : (d e : Disk Text) → AfterCrash d e → IsSeen (folder e)
rest_seen d e crashed = record { each = λ n. rest_left (e.held (file_name n)) (e.read (file_name n)) (crashed.rest (file_name n)) }

open_seen : (store : Open) (kept : Kept) (d : Disk Text) → HasNew store kept (folder d) → IsSeen (folder d)
open_seen store kept d has = (seen_holds node_format store.next (folder d) has.is_open.settled).metadata [] (folder d) (inl refl)

module _ (P : Outcome → Type 0) where
  opened : (store : Open) (kept : Kept) (d : Disk Text) → P (Loaded kept) → HasNew store kept (folder d) → StandsFor P (folder d)
  opened store kept d h has = record { crash = λ g left fair. subst P (sym (has.crash g left)) h; seen = open_seen store kept d has }

  stays_kept : (d e f : Disk Text) → StandsFor P (folder d) → Begins d e → StaysKept e f → StandsFor P (folder f)
  stays_kept d e f stands begins (inl s) = stays P d e (folder f) stands begins s
  stays_kept d e f stands begins (inr (s, (k, loaded))) = opened s k f (subst P loaded.reads (reads P d e stands begins)) loaded.has

  -- a load that found the files to be none of a node's changed nothing
  unmoved : (d e f : Disk Text) → StandsFor P (folder d) → Begins d e → f ≡ e → StandsFor P (folder f)
  unmoved d e f stands begins same = subst (λ (x : Disk Text). StandsFor P (folder x)) (sym same) (which begins.came)
    where
      which : (e ≡ d) ⊎ AfterCrash d e → StandsFor P (folder e)
      which (inl is) = subst (λ (x : Disk Text). StandsFor P (folder x)) (sym is) stands
      which (inr crashed) = record { crash = λ g left fair. subst (λ (x : NodeFiles). P (kept_in x)) (sym (only_read d e crashed g left)) (stands.crash (folder e).read (left_by d e crashed) begins.fair); seen = rest_seen d e crashed }

  pub fails : (d e f : Disk Text) (why : StartFault) → StandsFor P (folder d) → Begins d e → StartLeaves (Err why) e f → StandsFor P (folder f)
  fails d e f (start.Damaged fault.NoMeta) stands begins leaves = unmoved d e f stands begins leaves.0
  fails d e f (start.Damaged (fault.Damaged segment at)) stands begins leaves = unmoved d e f stands begins leaves.0.0
  fails d e f (start.Damaged (fault.Gap first last)) stands begins leaves = unmoved d e f stands begins leaves.0
  fails d e f (start.Damaged fault.DiskFault) stands begins leaves = absurd leaves
  fails d e f (start.Damaged fault.NoMemory) stands begins leaves = absurd leaves
  fails d e f (start.Snapshot index) stands begins leaves = stays_kept d e f stands begins leaves.1
  fails d e f start.DiskFault stands begins leaves = stays_kept d e f stands begins leaves
  fails d e f start.NoMemory stands begins leaves = stays_kept d e f stands begins leaves

  pub finds : (d e f : Disk Text) (node : Node) → StandsFor P (folder d) → Begins d e → StartLeaves (Ok node) e f → P (Loaded (kept_by node)) × HasNew (replica_of node).store (kept_by node) (folder f)
  finds d e f node stands begins leaves = (subst P leaves.reads (reads P d e stands begins), leaves.has)

  pub crashes : (d e : Disk Text) → StandsFor P (folder d) → AfterCrash d e → NoChance node_format (folder d) (folder e).read → StandsFor P (folder e)
  crashes d e stands crashed fair = record {
    crash = λ g left good. subst (λ (x : NodeFiles). P (kept_in x)) (sym (only_read d e crashed g left)) (stands.crash (folder e).read (left_by d e crashed) fair);
    seen = rest_seen d e crashed;
  }

-- it represents what it might have left
may_have : (d : Disk Text) → IsSeen (folder d) → StandsFor (MayHave (folder d)) (folder d)
may_have d seen = record { crash = λ g left fair. record { files = g; left = left; fair = fair; is = refl }; seen = seen }

pub open_keeps_hold : OpenKeeps
open_keeps_hold store kept d has = opened (λ o. o ≡ Loaded kept) store kept d refl has

pub crash_leaves_kept_hold : CrashLeavesKept
crash_leaves_kept_hold store kept d e has crashed = record {
  crash = λ g left fair. ap kept_in (only_read d e crashed g left) ∙ has.crash (folder e).read (left_by d e crashed);
  seen = rest_seen d e crashed;
}

pub crash_keeps_hold : CrashKeeps
crash_keeps_hold d e seen crashed fair = crashes (MayHave (folder d)) d e (may_have d seen) crashed fair

pub start_finds_hold : StartFinds
start_finds_hold d e f node seen begins leaves = finds (MayHave (folder d)) d e f node (may_have d seen) begins leaves

pub start_leaves_kept_hold : StartLeavesKept
start_leaves_kept_hold d e f why seen begins leaves = fails (MayHave (folder d)) d e f why (may_have d seen) begins leaves
