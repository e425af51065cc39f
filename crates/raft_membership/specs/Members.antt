-- The configurations of a whole log, as a node keeps them: that at the index up to which the log is applied, and those of the changes after it.
use Rattle.std.specs.Prelude.{◌≡◌, ℕ, suc, ◌+◌, ◌<◌, ◌≤◌, Bool, true, false, cond, nat_lt, nat_le, Option, Some, None, List, [], ◌∷◌, ◌++◌, length, take, drop}
use Rattle.raft_spec.specs.Log.{Entry}
use Rattle.raft_spec.specs.Node.{Server}
use Rattle.raft_messages.specs.Servers.{IsConfiguration, configuration_of}
use Rattle.raft_safety.specs.Members.{Setup, is_change, servers_read, changes, any_change, configuration}
use Rattle.raft_membership.specs.declared.members.Change.{Change}

-- The configurations: the index up to which the log is applied, the servers there, and the changes after it in their order.
pub record Configurations : Type 0 where
  pub at : ℕ
  pub servers : List Server
  pub later : List Change

-- ---- what the calls make of them

-- those of a log that ends at this index
abbrev pub first_of : List Server → ℕ → Configurations
first_of servers at = record { at = at; servers = servers; later = [] }

-- the index of the last change, or this one without a change
abbrev pub last_from : ℕ → List Change → ℕ
last_from at [] = at
last_from at (c ∷ cs) = last_from c.index cs

abbrev pub last_index : Configurations → ℕ
last_index m = last_from m.at m.later

-- the servers of the last change, or these without a change
abbrev pub servers_from : List Server → List Change → List Server
servers_from servers [] = servers
servers_from servers (c ∷ cs) = servers_from c.servers cs

abbrev pub last_servers : Configurations → List Server
last_servers m = servers_from m.servers m.later

-- a change joins
abbrev pub with_change : Configurations → ℕ → List Server → Configurations
with_change m index servers = record m { later = m.later ++ record { index = index; servers = servers } ∷ [] }

-- the configuration that an entry changes to, if any: all of its bytes are one
abbrev pub configuration_in : Entry → Option (List Server)
configuration_in e = cond (is_change e.kind) (configuration_of e.bytes) None

abbrev pub with_read : Configurations → ℕ → Option (List Server) → Configurations
with_read m index None = m
with_read m index (Some servers) = with_change m index servers

-- an entry joins
abbrev pub changed : Configurations → ℕ → Entry → Configurations
changed m index e = with_read m index (configuration_in e)

-- entries join, of which the first has this index
abbrev pub all_changed : Configurations → ℕ → List Entry → Configurations
all_changed m index [] = m
all_changed m index (e ∷ es) = all_changed (changed m index e) (suc index) es

-- the changes below an index, before one that isn't
abbrev pub below : ℕ → List Change → List Change
below index [] = []
below index (c ∷ cs) = cond (nat_lt c.index index) (c ∷ below index cs) []

-- entries from this index on are gone
abbrev pub cut_at : Configurations → ℕ → Configurations
cut_at m index = record m { later = below index m.later }

-- the servers of the last change at or below an index, or these without a change
abbrev pub settled_servers : ℕ → List Server → List Change → List Server
settled_servers applied servers [] = servers
settled_servers applied servers (c ∷ cs) = cond (nat_le c.index applied) (settled_servers applied c.servers cs) servers

-- the changes past an index
abbrev pub past : ℕ → List Change → List Change
past applied [] = []
past applied (c ∷ cs) = cond (nat_le c.index applied) (past applied cs) (c ∷ cs)

-- the log is applied up to this index
abbrev pub settled : Configurations → ℕ → Configurations
settled m applied = record { at = applied; servers = settled_servers applied m.servers m.later; later = past applied m.later }

-- One change went where the first one is at or below the index, and what they settle to stays; else nothing is to go.
abbrev pub SettlesOne : ℕ → Configurations → Configurations → Bool → Type 0
SettlesOne applied old new false = (new ≡ old) × (settled old applied ≡ record old { at = applied })
SettlesOne applied old new true = (settled new applied ≡ settled old applied) × (length new.later < length old.later)

-- ---- which may stand

-- the servers of each change may stand together
abbrev pub EachStands : List Change → Type 0
EachStands [] = Unit {0}
EachStands (c ∷ cs) = IsConfiguration c.servers × EachStands cs

-- so do those of every configuration
abbrev pub AllStand : Configurations → Type 0
AllStand m = IsConfiguration m.servers × EachStands m.later

-- ---- those of a whole log, by the configurations that the log gives

-- a change reads where all of its bytes are a configuration
abbrev pub read_setup : List Server → Setup
read_setup opening = record { read = configuration_of; opening = opening }

-- the changes that read among these entries, of which the first has this index
abbrev pub changes_from : Setup → ℕ → List Entry → List Change
changes_from setup index [] = []
changes_from setup index (e ∷ es) =
    cond (changes setup e) (record { index = index; servers = servers_read (setup.read e.bytes) } ∷ changes_from setup (suc index) es) (changes_from setup (suc index) es)

-- They are those of the whole log: the configuration of its front up to the index, and the changes that read after it.
pub record IsOf (setup : Setup) (log : List Entry) (m : Configurations) : Type 0 where
  pub within : m.at ≤ length log
  pub servers : m.servers ≡ configuration setup (take m.at log)
  pub later : m.later ≡ changes_from setup (suc m.at) (drop m.at log)

-- These entries, of which the first has this index, have joined the log: the configurations are those of the log with them, and are
-- told as others exactly if one of the entries is a change that reads. Each may stand, if each did.
pub record Joined (old new : Configurations) (first : ℕ) (entries : List Entry) (told : Bool) : Type 0 where
  pub is : (opening : List Server) (log : List Entry) → IsOf (read_setup opening) log old → first ≡ suc (length log) → IsOf (read_setup opening) (log ++ entries) new
  pub exact : new ≡ all_changed old first entries
  pub at : new.at ≡ old.at
  pub low : last_index new < first + length entries
  pub told_so : told ≡ any_change (read_setup []) entries
  pub stays : told ≡ false → new ≡ old
  pub stand : AllStand old → AllStand new

-- an entry that isn't a change that reads leaves them
abbrev pub OthersStay : Type 0
OthersStay = (setup : Setup) (log : List Entry) (m : Configurations) (e : Entry) → IsOf setup log m → changes setup e ≡ false → IsOf setup (log ++ e ∷ []) m

-- no change is past the log's end
abbrev pub ChangesAreWithin : Type 0
ChangesAreWithin = (setup : Setup) (log : List Entry) (m : Configurations) → IsOf setup log m → last_index m ≤ length log
