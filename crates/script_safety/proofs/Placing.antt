-- Each call at a place leads its turns on.
use Rattle.std.proofs.Common.{◌≡◌, ◌<◌, inl, ℕ, List, [], ◌∷◌, ◌++◌, None, Err, refl, sym, subst}
use Rattle.sql_engine.specs.declared.kind.EngineKind.{EngineKind}
use Rattle.sql_engine.specs.Meanings.{Meaning}
use Rattle.session_spec.specs.Engines.{Answer}
use Rattle.disk_model.specs.Disk.{Disk}
use Rattle.disk_model.specs.Trait.{Text}
use Rattle.raft_safety.specs.Members.{Setup}
use Rattle.store_laws.specs.Names.{NodeDisk}
use Rattle.store_laws.specs.Store.{Kept, Outcome as Found, Loaded, Damaged, NoMeta, Gap}
use Rattle.segment_store.specs.declared.load_fault.LoadFault.TheVariants as fault
use Rattle.segment_store.specs.Keeps.{folder}
use Rattle.segment_store.specs.Loading.{kept_in}
use Rattle.segment_store.specs.Restarts.{StandsFor, Begins}
use Rattle.raft_on_disk.specs.Replicas.{kept_of}
use Rattle.node_spec.specs.Steps.{StopsInStart}
use Rattle.node_core.specs.declared.fault.StartFault.{StartFault}
use Rattle.node_core.specs.declared.fault.StartFault.TheVariants as start
use Rattle.node_core.specs.Starting.{SnapshotUnread, StartLeaves}
use Rattle.node_meets_spec.proofs.FirstDisk.{first_disk_holds}
use Rattle.node_meets_spec.proofs.Starting.{starts_keep_hold, fails, finds, crashes, crash_leaves_kept_hold}
use Rattle.script_grammar.specs.declared.grammar.FaultTarget.{FaultTarget}
use Rattle.script_cluster.specs.Outcomes.{Ending, Steps, Starts, Stops, Fails, Unreadable, Doing, Start, Turn}
use Rattle.script_safety.specs.Slots.{Seat, Runs, Rests, AsksStart, SlotEnds, IsUnreadable, StopDone, SlotTurn, SlotPath, setup_of}
use Rattle.script_safety.specs.Places.{Led, IsLeft, IsFair, IsPlaced, does, PlacesBegin, StepsOn, FallsOn, IsFall, CrashesOn, DisksCrashOn, StartsOn, LoadsNothing, IsNoStart, StartsFail, FindsOn}

-- what is found has the weaker property too
weaker : (P Q : Kept → Type 0) → ((kept : Kept) → P kept → Q kept) → (o : Found) → IsLeft P o → IsLeft Q o
weaker P Q f (Loaded kept) h = f kept h
weaker P Q f Damaged h = absurd h
weaker P Q f NoMeta h = absurd h
weaker P Q f (Gap first last) h = absurd h

stands_weaker : (P Q : Kept → Type 0) (d : NodeDisk) → ((kept : Kept) → P kept → Q kept) → StandsFor (IsLeft P) d → StandsFor (IsLeft Q) d
stands_weaker P Q d f s = record { crash = λ g left fair. weaker P Q f _ (s.crash g left fair); seen = s.seen }

module _ (m : Meaning) (kind : EngineKind) (setup : Setup) (n : ℕ) where
  -- a path continues by one turn
  path_on : (old mid new : Seat) (turns : List Turn) (turn : Turn) → SlotPath m kind setup n old turns mid → SlotTurn m kind setup n mid turn new → SlotPath m kind setup n old (turns ++ turn ∷ []) new
  path_on old mid new [] turn p t = (new, subst (λ z. SlotTurn m kind setup n z turn new) (sym p) t, refl)
  path_on old mid new (first ∷ turns) turn p t = (p.0, p.1, path_on p.0 mid new turns turn p.2 t)

  falls : (ending : Ending) → IsFall ending → (old : _) (doing : Doing) (answers : _) (kept : Kept) → StopDone m kind setup old doing kept → SlotEnds m kind setup n (Runs old) doing answers ending (Rests kept)
  falls (Stops keeps) is old doing answers kept h = h
  falls (Fails keeps) is old doing answers kept h = h
  falls (Steps outs standing) is old doing answers kept h = absurd is
  falls (Starts loaded standing) is old doing answers kept h = absurd is
  falls Unreadable is old doing answers kept h = absurd is

-- a start that failed or was stopped by a disk's fault
abbrev no_start : (setup : Setup) (voters : ℕ) → setup ≡ setup_of voters → (kept : Kept) → AsksStart setup (Start voters) × StopsInStart setup kept kept
no_start setup voters opens kept = (record { voters = voters; is = refl; opens = opens }, starts_keep_hold setup kept)

as_it_is : (d : Disk Text) → IsFair d → Begins d d
as_it_is d fair = record { came = inl refl; fair = fair }

module _ (m : Meaning) (kind : EngineKind) where
  pub places_begin_hold : PlacesBegin m kind
  places_begin_hold setup n = record { crash = λ g left fair. subst (IsLeft _) (sym (first_disk_holds.crash g left fair)) refl; seen = first_disk_holds.seen }

  pub steps_on_hold : StepsOn m kind
  steps_on_hold setup n turns d e old new doing aim answers outs standing p done keeps = (path_on m kind setup n _ (Runs old) (Runs new) turns _ p.0 done, keeps)

  pub falls_on_hold : FallsOn m kind
  falls_on_hold setup n turns d e old doing aim answers ending p is stands =
      stands_weaker _ _ (folder e) (λ kept h. path_on m kind setup n _ (Runs old) (Rests kept) turns _ p.0 (falls m kind setup n ending is old doing answers kept h)) stands

  pub crashes_on_hold : CrashesOn m kind
  crashes_on_hold setup n pick turns d e old p crashed =
      let s = crash_leaves_kept_hold old.replica.store (kept_of old.replica) d e p.1 crashed in
      record {
        crash = λ g left fair. subst (IsLeft _) (sym (s.crash g left fair)) (path_on m kind setup n _ (Runs old) (Rests (kept_of old.replica)) turns _ p.0 refl);
        seen = s.seen;
      }

  pub disks_crash_on_hold : DisksCrashOn m kind
  disks_crash_on_hold setup n turns d e p crashed fair = crashes (IsLeft _) d e p crashed fair

  pub starts_on_hold : StartsOn m kind
  starts_on_hold voters n turns d e node aim answers standing p fair leaves done =
      let f = finds (IsLeft _) d d e node p (as_it_is d fair) leaves in
      (path_on m kind (setup_of voters) n _ (Rests _) (Runs node.running) turns _ f.0 (record { voters = voters; is = refl; opens = refl }, done), f.1)

  -- ---- a start after which no node runs

  module _ (voters n : ℕ) (turns : List Turn) (d e : Disk Text) (aim : FaultTarget) (answers : List Answer) (p : IsPlaced m kind (setup_of voters) n turns d None) (fair : IsFair d) where
    -- what it reads
    read_so : (found : Found) → kept_in (folder d).read ≡ found → IsLeft (λ kept. Led m kind (setup_of voters) n turns (Rests kept)) found
    read_so found is = subst (IsLeft _) is (p.crash (folder d).read p.seen fair)

    -- whatever it may have left was led to before
    left_so : (why : StartFault) → StartLeaves (Err why) d e → StandsFor (IsLeft (λ kept. Led m kind (setup_of voters) n turns (Rests kept))) (folder e)
    left_so why leaves = fails (IsLeft _) d d e why p (as_it_is d fair) leaves

    abbrev Goes : Ending → Type 0
    Goes ending = IsPlaced m kind (setup_of voters) n (turns ++ does n (Start voters) aim answers ending ∷ []) e None

    -- by a disk's fault
    falls_short : (ending : Ending) → ((kept : Kept) → SlotEnds m kind (setup_of voters) n (Rests kept) (Start voters) answers ending (Rests kept)) → StartLeaves (Err start.DiskFault) d e → Goes ending
    falls_short ending ends leaves =
        stands_weaker _ _ (folder e) (λ kept h. path_on m kind (setup_of voters) n _ (Rests kept) (Rests kept) turns _ h (ends kept)) (left_so start.DiskFault leaves)

    -- over a snapshot that isn't a node's
    reads_none : (index : ℕ) → StartLeaves (Err (start.Snapshot index)) d e → Goes Unreadable
    reads_none index leaves =
        let u : SnapshotUnread index d = leaves.0 in
        let bad : IsUnreadable u.kept = record { some = subst (λ (i : ℕ). 0 < i) (sym u.at_is) u.some; unread = u.unread } in
        stands_weaker _ _ (folder e)
        (λ kept h. path_on m kind (setup_of voters) n _ (Rests u.kept) (Rests kept) turns _ (read_so (Loaded u.kept) u.reads) (record { voters = voters; is = refl; opens = refl }, bad))
        (left_so (start.Snapshot index) leaves)

    -- files with a fault are none that the turns have led to
    unread : (why : StartFault) → StartLeaves (Err why) d e → LoadsNothing why → Goes Unreadable
    unread (start.Damaged fault.NoMeta) leaves is = absurd (read_so NoMeta leaves.1)
    unread (start.Damaged (fault.Damaged segment at)) leaves is = absurd (read_so Damaged leaves.0.1)
    unread (start.Damaged (fault.Gap first last)) leaves is = absurd (read_so (Gap first last) leaves.1)
    unread (start.Damaged fault.DiskFault) leaves is = absurd leaves
    unread (start.Damaged fault.NoMemory) leaves is = absurd leaves
    unread (start.Snapshot index) leaves is = reads_none index leaves
    unread start.DiskFault leaves is = absurd is
    unread start.NoMemory leaves is = absurd is

    none_starts : (why : StartFault) (ending : Ending) → StartLeaves (Err why) d e → IsNoStart why ending → Goes ending
    none_starts why (Stops keeps) leaves is =
        falls_short (Stops keeps) (λ kept. no_start (setup_of voters) voters refl kept) (subst (λ (w : StartFault). StartLeaves (Err w) d e) is leaves)
    none_starts why (Fails keeps) leaves is =
        falls_short (Fails keeps) (λ kept. no_start (setup_of voters) voters refl kept) (subst (λ (w : StartFault). StartLeaves (Err w) d e) is leaves)
    none_starts why Unreadable leaves is = unread why leaves is
    none_starts why (Steps outs standing) leaves is = absurd is
    none_starts why (Starts loaded standing) leaves is = absurd is

  pub starts_fail_hold : StartsFail m kind
  starts_fail_hold voters n turns d e why aim answers ending p fair leaves is = none_starts voters n turns d e aim answers p fair why ending leaves is

  pub finds_on_hold : FindsOn m kind
  finds_on_hold setup n turns d e old doing event aim answers ending p fall is finds =
      falls_on_hold setup n turns d e old doing aim answers ending p fall (record {
        crash = λ g left fair.
            let l = finds.crash g left fair in
            subst (IsLeft (StopDone m kind setup old doing)) (sym l.is) (record { event = event; is = is; stops = l.holds });
        seen = finds.seen;
      })
