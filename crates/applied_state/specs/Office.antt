-- What a leader owes before it serves and while it does, and which events of its life that is.
use Rattle.std.specs.Prelude.{◌≡◌, ℕ, ◌+◌, ◌==◌, nat_le, Bool, true, false, not, ◌&&◌, cond, bytes_eq, List, [], ◌∷◌, ◌++◌, length, Option, Some, None}
use Rattle.std.specs.List.{list_any}
use Rattle.log_commands.specs.declared.command.Command.{Command}
use Rattle.log_commands.specs.declared.command.Command.TheVariants.{OpenDb, Frames, Undo, Checkpoint}
use Rattle.session_spec.specs.Entries.{Content, Does, Configures, Other, Entry, entries_of}
use Rattle.session_spec.specs.Machine.{Machine, files}
use Rattle.session_safety.specs.Logs.{undos}
use Rattle.session_safety.specs.Nodes.{Node as Life}
use Rattle.session_safety.specs.Life.{Event, Serve, Append}
use Rattle.applied_state.specs.declared.effect.AppliedEffect.{AppliedEffect}
use Rattle.applied_state.specs.declared.effect.AppliedEffect.TheVariants as effect
use Rattle.applied_state.specs.declared.leadership.Leadership.{Leadership}
use Rattle.applied_state.specs.declared.leadership.LeadershipPhase.{LeadershipPhase}
use Rattle.applied_state.specs.declared.leadership.LeadershipPhase.TheVariants.{Barrier, Undos, Serving}

-- ---- checkpoints

abbrev pub is_checkpoint_command : List ℕ → Command → Bool
is_checkpoint_command name (OpenDb other) = false
is_checkpoint_command name (Frames other tx truncate commit pages) = false
is_checkpoint_command name (Undo tx) = false
is_checkpoint_command name (Checkpoint other) = bytes_eq name other

-- the entry is a Checkpoint of the database of this name
abbrev pub is_checkpoint : List ℕ → Content → Bool
is_checkpoint name (Does command) = is_checkpoint_command name command
is_checkpoint name (Configures servers) = false
is_checkpoint name Other = false

abbrev pub awaits_checkpoint : List ℕ → List Entry → Bool
awaits_checkpoint name waiting = list_any (λ (e : Entry). is_checkpoint name e.content) waiting

-- A Checkpoint of a database of which 1,000 pages or more were committed since its last one, unless one waits.
abbrev pub checkpoint_due : Machine → List ℕ → List Entry → List Content
checkpoint_due m name waiting = cond (nat_le 1000 (m.base name).since && not (awaits_checkpoint name waiting)) (Does (Checkpoint name) ∷ []) []

-- the Undo of a transaction, if there is one
abbrev pub undo_of : Option ℕ → List Content
undo_of None = []
undo_of (Some tx) = Does (Undo tx) ∷ []

-- it is looked at where a commit was applied
abbrev pub checkpoint_behind : Machine → AppliedEffect → List Entry → List Content
checkpoint_behind m (effect.Committed name) waiting = checkpoint_due m name waiting
checkpoint_behind m effect.Configured waiting = []
checkpoint_behind m effect.Other waiting = []

-- ---- what a leader owes when it has applied the entry of an index

-- it appends its Undos once its barrier is applied, and checkpoints while it serves
abbrev pub owed : LeadershipPhase → ℕ → Machine → AppliedEffect → List Entry → List Content
owed (Barrier barrier) index m what waiting = cond (index == barrier) (undos m) []
owed (Undos last) index m what waiting = []
owed Serving index m what waiting = checkpoint_behind m what waiting

-- after the barrier: it serves where nothing is pending, else its last Undo has to be applied first
abbrev pub past_barrier : ℕ → List Content → LeadershipPhase
past_barrier index [] = Serving
past_barrier index (u ∷ us) = Undos (index + length (u ∷ us))

abbrev pub phase_after : LeadershipPhase → ℕ → Machine → LeadershipPhase
phase_after (Barrier barrier) index m = cond (index == barrier) (past_barrier index (undos m)) (Barrier barrier)
phase_after (Undos last) index m = cond (index == last) Serving (Undos last)
phase_after Serving index m = Serving

abbrev pub office_after : Leadership → ℕ → Machine → Leadership
office_after office index m = record { term = office.term; phase = phase_after office.phase index m }

-- ---- as events of the node's life

abbrev pub serves : LeadershipPhase → Bool
serves (Barrier barrier) = false
serves (Undos last) = false
serves Serving = true

abbrev pub appends : List Content → List Event
appends [] = []
appends (c ∷ cs) = Append (c ∷ cs) ∷ []

-- it begins to serve, if it didn't
abbrev pub begins : LeadershipPhase → LeadershipPhase → List Event
begins old new = cond (not (serves old) && serves new) (Serve ∷ []) []

-- what happens to the life when the leader has applied the entry of an index
abbrev pub duties : LeadershipPhase → ℕ → Machine → AppliedEffect → List Entry → List Event
duties phase index m what waiting = appends (owed phase index m what waiting) ++ begins phase (phase_after phase index m)

-- ---- the leadership that a life is in

-- The log ends with the Undos for all that was pending when its front was applied.
pub record EndsWithUndos (log : List Entry) (term : ℕ) : Type 0 where
  pub front : List Entry
  pub is : log ≡ front ++ entries_of term (undos (files front))

-- how far a leader is that serves or doesn't, with this log of its term
abbrev pub IsPhase : LeadershipPhase → Bool → List Entry → ℕ → Type 0
IsPhase (Barrier barrier) serving log term = (serving ≡ false) × (length log ≡ barrier)
IsPhase (Undos last) serving log term = (serving ≡ false) × (length log ≡ last) × EndsWithUndos log term
IsPhase Serving serving log term = serving ≡ true

-- the life is that of a leader in this leadership
abbrev pub InOffice : Leadership → Life → Type 0
InOffice office w = (w.leads ≡ true) × (w.term ≡ office.term) × IsPhase office.phase w.serving w.log w.term
