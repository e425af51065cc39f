-- Each message that arrives in a script was sent.
use Rattle.std.specs.Prelude.{◌≡◌, ℕ, List, [], ◌∷◌, ◌++◌, Option, Some, None}
use Rattle.sql_engine.specs.declared.kind.EngineKind.{EngineKind}
use Rattle.sql_engine.specs.Meanings.{Meaning}
use Rattle.raft_safety.specs.Members.{Setup}
use Rattle.cluster_safety.specs.Runs.{nothing_kept}
use Rattle.script_cluster.specs.Outcomes.{Outcome, Turn}
use Rattle.script_cluster.specs.Run.{run}
use Rattle.script_cluster.specs.Knowing.{with_over}
pub use Rattle.script_cluster.specs.Knowing.{CanHold, AllCanHold}
use Rattle.script_safety.specs.Laws.{IsSafe}
use Rattle.script_safety.specs.Slots.{Seat, Rests, SlotPath}
use Rattle.script_safety.specs.Turns.{actor, turns_at, AllSentTo, AllLoad}

-- In a script, whatever came of its events, a node receives only messages that were sent to it; up to any moment, if the wire could
-- hold what was sent until then.
abbrev pub MailIsSent : Type 0
MailIsSent =
    (script : List ℕ) (outcomes : List Outcome) (front rest : List Turn) → (run script outcomes).turns ≡ front ++ rest → AllCanHold front →
    AllSentTo [] front

-- What came of a script's events is what whole nodes do, each at its place.
pub record ByNodes (m : Meaning) (kind : EngineKind) (setup : Setup) (turns : List Turn) : Type 0 where
  pub ends : ℕ → Seat
  pub paths : (n : ℕ) → SlotPath m kind setup n (Rests nothing_kept) (turns_at n turns) (ends n)
  pub hold : AllCanHold turns

-- And what a node did after them, which isn't among them.
abbrev pub OverByNode : Meaning → EngineKind → Setup → List Turn → Option Turn → Type 0
OverByNode m kind setup turns None = Unit {0}
OverByNode m kind setup turns (Some turn) =
    (seat : Seat) × SlotPath m kind setup (actor turn) (Rests nothing_kept) (turns_at (actor turn) turns ++ turn ∷ []) seat

-- So each script is safe, up to any moment until which its nodes did so.
abbrev pub ScriptsAreSafe : Meaning → EngineKind → Type 0
ScriptsAreSafe m kind =
    (setup : Setup) (script : List ℕ) (outcomes : List Outcome) (front rest : List Turn) → (run script outcomes).turns ≡ front ++ rest →
    ByNodes m kind setup front → IsSafe m kind setup front

-- And no load fails in it until then, nor in what a node did after that: no start finds `Damaged`, `Gap`, `NoMeta` or `Snapshot`.
abbrev pub LoadsNeverFail : Meaning → EngineKind → Type 0
LoadsNeverFail m kind =
    (setup : Setup) (script : List ℕ) (outcomes : List Outcome) (front rest : List Turn) (over : Option Turn) →
    (run script outcomes).turns ≡ front ++ rest → ByNodes m kind setup front → OverByNode m kind setup front over → AllLoad (with_over front over)
