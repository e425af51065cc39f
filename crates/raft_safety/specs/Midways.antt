-- One leader a term, at the moments between two steps of an event too; and how great a leader's term is.
use Rattle.std.specs.Prelude.{◌≡◌, ℕ, ◌≤◌, true, List, ◌∷◌, ◌++◌, length, take}
use Rattle.raft_spec.specs.Node.{Leader}
use Rattle.raft_spec.specs.Account.{account}
use Rattle.raft_safety.specs.Members.{Setup, member_step}
use Rattle.raft_safety.specs.World.{World, Event, Acts, Stops, Crash, Start, inputs, run}
use Rattle.raft_safety.specs.Laws.{Leads}
use Rattle.raft_safety.specs.Chosen.{actor}
use Rattle.raft_safety.specs.Sources.{midway}

-- The first k steps of the event are made and kept: all of them where it ends well; if it is stopped, those whose acts all stand.
abbrev pub Made : Setup → World → Event → ℕ → Type 0
Made setup w (Acts n causes places) k = Unit {0}
Made setup w (Stops n causes acts applied base) k = length (account (member_step setup n) (w.nodes n) (take k (inputs n w.messages causes))) ≤ acts
Made setup w (Crash n) k = Unit {0}
Made setup w (Start n servers) k = Unit {0}

-- After these events, in the next one, its node leads the term t when it has made k steps of it. At 0 that is the moment between both events.
pub record LeadsAfter (setup : Setup) (events : List Event) (e : Event) (k t : ℕ) : Type 0 where
  pub runs : ((run setup events).nodes (actor e)).up ≡ true
  pub role : (midway setup (run setup events) e k).role ≡ Leader
  pub term : (midway setup (run setup events) e k).term ≡ t

-- Who leads a term after an event leads it after each step of later ones.
abbrev pub OneLeaderThen : Type 0
OneLeaderThen =
    (setup : Setup) (events more : List Event) (f : Event) (n j t : ℕ) → Leads setup events n t → LeadsAfter setup (events ++ more) f j t → n ≡ actor f

-- And who leads it between two steps of an event, which are kept, leads it after each step of later ones.
abbrev pub OneLeaderMidway : Type 0
OneLeaderMidway =
    (setup : Setup) (events : List Event) (e : Event) (more : List Event) (f : Event) (k j t : ℕ) → LeadsAfter setup events e k t →
    Made setup (run setup events) e k → LeadsAfter setup (events ++ e ∷ more) f j t → actor e ≡ actor f

-- A leader's term is at most 4,294,967,295.
abbrev pub LeadersShort : Type 0
LeadersShort = (setup : Setup) (events : List Event) (n t : ℕ) → Leads setup events n t → t ≤ 4294967295

-- This holds between two steps.
abbrev pub LeadersShortMidway : Type 0
LeadersShortMidway = (setup : Setup) (events : List Event) (e : Event) (k t : ℕ) → LeadsAfter setup events e k t → t ≤ 4294967295
