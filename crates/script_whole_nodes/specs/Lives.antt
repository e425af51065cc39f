-- What the turns of a node have led to at its place, while no checksum matches by chance in what a start finds on its disk.
use Rattle.std.specs.Prelude.{◌≡◌, ◌≤◌, ℕ, zero, suc, List, [], ◌∷◌, ◌++◌, length, Option, Some, None}
use Rattle.sql_engine.specs.declared.kind.EngineKind.{EngineKind}
use Rattle.sql_engine.specs.Meanings.{Meaning}
use Rattle.disk_model.specs.Disk.{Disk}
use Rattle.disk_model.specs.Rest.{AfterCrash}
use Rattle.disk_model.specs.Trait.{Text}
use Rattle.raft_safety.specs.Members.{Setup}
use Rattle.store_laws.specs.Chance.{NoChance}
use Rattle.store_format.specs.NodeFormat.{node_format}
use Rattle.segment_store.specs.Keeps.{folder}
use Rattle.node_core.specs.declared.running.Running.{Running}
use Rattle.script_cluster.specs.Outcomes.{Ending, Steps, Starts, Stops, Fails, Unreadable, Turn, Does, Crashes}
use Rattle.script_safety.specs.Slots.{Seat}
use Rattle.script_safety.specs.Places.{Led, IsFair, IsPlaced}

-- A turn by which a node fell, or by which none started: those before it, its disk as it was then, and as the next start finds it.
pub record Find : Type 0 where
  pub earlier : List Turn
  pub turn : Turn
  pub before : Disk Text
  pub found : Disk Text

abbrev pub turns_to : Find → List Turn
turns_to find = find.earlier ++ find.turn ∷ []

-- a disk that stopped is found after a crash, and any other one as it was
abbrev pub FoundBy : Ending → Disk Text → Disk Text → Type 0
FoundBy (Stops keeps) before found = AfterCrash before found
FoundBy (Fails keeps) before found = found ≡ before
FoundBy Unreadable before found = found ≡ before
FoundBy (Steps outs standing) before found = ⊥
FoundBy (Starts kept standing) before found = ⊥

-- so by a turn that ended so; after a crash no node fell
abbrev pub IsFoundAfter : Turn → Disk Text → Disk Text → Type 0
IsFoundAfter (Does n doing aim outcome) before found = FoundBy outcome.ending before found
IsFoundAfter (Crashes n pick) before found = ⊥

-- no checksum matches by chance in what is found
abbrev pub IsFairFind : Find → Type 0
IsFairFind find = NoChance node_format (folder find.before) (folder find.found).read

-- the one list begins the other
abbrev pub Begins : List Turn → List Turn → Type 0
Begins front turns = (rest : List Turn) × (turns ≡ front ++ rest)

-- Whole nodes reach a find of this kind: by the turns before, which are of these, and this one the disk represents what the node left; and it is
-- found as the turn has it.
pub record ReachesSlot (m : Meaning) (kind : EngineKind) (setup : Setup) (n : ℕ) (turns : List Turn) (find : Find) : Type 0 where
  pub begins : Begins (turns_to find) turns
  pub seat : Seat
  pub led : Led m kind setup n find.earlier seat
  pub left : IsPlaced m kind setup n (turns_to find) find.before None
  pub came : IsFoundAfter find.turn find.before find.found

-- what a place has come to with a node that runs, or with none, over a disk that may be started over
abbrev pub Stands : Meaning → EngineKind → Setup → ℕ → List Turn → Disk Text → Option Running → Type 0
Stands m kind setup n turns d (Some node) = IsPlaced m kind setup n turns d (Some node)
Stands m kind setup n turns d None = IsPlaced m kind setup n turns d None × IsFair d

-- What a fall leaves by this turn, after these: the disk as it was then, and as it is found, which it may be said to be.
pub record LeavesFound (m : Meaning) (kind : EngineKind) (setup : Setup) (n : ℕ) (states : Disk Text → Type 0) (turns : List Turn)
    (turn : Turn) : Type 0 where
  pub before : Disk Text
  pub found : Disk Text
  pub told : states found
  pub left : IsPlaced m kind setup n (turns ++ turn ∷ []) before None
  pub came : IsFoundAfter turn before found

-- The life of a node at a place, after this many finds: one after another, each where no checksum matches by chance in the one before. After
-- the last one some state of these, in which the disk may be said to be, is what the turns have led to.
abbrev pub Lives : Meaning → EngineKind → Setup → ℕ → ℕ → (Disk Text → Type 0) → List Turn → Option Running → Type 0
Lives m kind setup n zero states turns node = (d : Disk Text) × states d × Stands m kind setup n turns d node
Lives m kind setup n (suc finds) states turns node =
    (find : Find) × ReachesSlot m kind setup n turns find × (IsFairFind find → Lives m kind setup n finds states turns node)

-- no checksum matches by chance in what was found within this many turns of it
abbrev pub IsFairWithin : (m : Meaning) (kind : EngineKind) (setup : Setup) (n finds : ℕ) (states : Disk Text → Type 0) (turns : List Turn)
    (node : Option Running) → ℕ → Lives m kind setup n finds states turns node → Type 0
IsFairWithin m kind setup n zero states turns _ count life = Unit {0}
IsFairWithin m kind setup n (suc finds) states turns node count life =
    length (turns_to life.0) ≤ count → (fair : IsFairFind life.0) × IsFairWithin m kind setup n finds states turns node count (life.2 fair)
