-- The next entry is applied.
use Rattle.std.proofs.Common.{◌≡◌, ◌≤◌, ◌<◌, ◌+◌, ℕ, suc, List, length, refl, sym, ap, subst, ◌∙◌, arith}
use Rattle.std.specs.Prelude.{◌≢◌, Result, Ok, Err, OnOk, OnErr, IfOk}
use Rattle.std.proofs.lemmas.List.{length-append, length-replicate}
use Rattle.sql_engine.specs.Known.{Known}
use Rattle.database_state.specs.declared.database.Database.{Database}
use Rattle.database_state.specs.Machines.{IsMachine}
use Rattle.database_state.specs.Pins.{Pinning, StillPinned}
use Rattle.raft_spec.specs.Log as raft
use Rattle.raft_spec.specs.Compaction.{compacted}
use Rattle.raft_spec.specs.NodeValues.{NodeValue, IsCoherent, node_of}
use Rattle.raft_messages.specs.Servers.{IsConfiguration}
use Rattle.raft_membership.specs.Members.{Configurations, AllStand}
use Rattle.session_spec.specs.Entries.{Content, Does, Configures, Other}
use Rattle.session_spec.specs.Seen.{entry_seen}
use Rattle.session_gateway.proofs.Numbering.{acted_agree}
use Rattle.client_sessions.specs.Seen.{clients_of, Agrees, AreValidOver}
use Rattle.client_sessions.specs.declared.clients.Clients.{Clients as Held}
use Rattle.client_sessions.proofs.Standing.{clients_stay, still_stand}
use Rattle.applied_state.specs.declared.applied.Applied.{Applied}
use Rattle.applied_state.specs.declared.effect.AppliedEffect.{AppliedEffect}
use Rattle.applied_state.specs.declared.effect.AppliedEffect.TheVariants as effects
use Rattle.applied_state.specs.Applied.{databases_after, servers_after, with_entry}
use Rattle.applied_state.specs.Content.{effect_of}
use Rattle.node_core.specs.declared.running.Running.{Running}
use Rattle.node_core.specs.Waiting.{HasTurns}
use Rattle.node_core.specs.Whole.{Holds, IsGoing}

-- ---- the entry is there

pub in_log : (h : NodeValue) (applied index : ℕ) → IsCoherent h → h.snapshot.index ≤ applied → applied < h.commit → index ≡ suc applied → (h.base < index) × (index ≤ length (node_of h).log)
in_log h applied index w low more is =
    let base : h.base ≤ h.snapshot.index = w.low in
    let within : h.commit ≤ h.base + length h.entries = w.within in
    let len : length (node_of h).log ≡ length (compacted h.snapshot h.base) + length h.entries = length-append (compacted h.snapshot h.base) h.entries in
    let cut : length (compacted h.snapshot h.base) ≡ h.base = length-replicate h.base _ in
    (omega (arith, base, low, more, is), omega (arith, within, len, cut, more, is))

-- ---- databases

stands_after : (held : Held) (databases : List Database) (c : Content) → ((pin : Pinning) → StillPinned databases (databases_after databases c) pin) → AreValidOver held databases → AreValidOver held (databases_after databases c)
stands_after held databases (Does command) still s = still_stand held databases command still s
stands_after held databases (Configures servers) still s = s
stands_after held databases Other still s = s

clients_after : (held : Held) (databases : List Database) (c : Content) → ((pin : Pinning) → StillPinned databases (databases_after databases c) pin) → AreValidOver held databases
    → clients_of held (databases_after databases c) ≡ clients_of held databases
clients_after held databases (Does command) still s = clients_stay held databases command still s
clients_after held databases (Configures servers) still s = refl
clients_after held databases Other still s = refl

agrees_after : (known : List Known) (held : Held) (databases : List Database) (c : Content) → IsMachine databases → IsMachine (databases_after databases c) → Agrees known held databases → Agrees known held (databases_after databases c)
agrees_after known held databases (Does command) before after a = acted_agree known held.gateway databases command before after a
agrees_after known held databases (Configures servers) before after a = a
agrees_after known held databases Other before after a = a

pub stands_applied : {F : Type 0} (result : Result AppliedEffect F) (held : Held) (old new : Applied) (e : raft.Entry) → OnOk result (new ≡ with_entry old e) → OnErr result (new ≡ old) → ((pin : Pinning) → StillPinned old.machine new.machine pin) → AreValidOver held old.machine → AreValidOver held new.machine
stands_applied (Ok effect) held old new e ok err still s =
    subst (λ (a : Applied). AreValidOver held a.machine) (sym ok) (stands_after held old.machine (entry_seen e).content (λ pin. subst (λ (a : Applied). StillPinned old.machine a.machine pin) ok (still pin)) s)
stands_applied (Err fault) held old new e ok err still s = subst (λ (a : Applied). AreValidOver held a.machine) (sym err) s

-- the clients are the same over what is applied then
pub clients_applied : {F : Type 0} (result : Result AppliedEffect F) (held : Held) (old new : Applied) (e : raft.Entry) → OnOk result (new ≡ with_entry old e) → OnErr result (new ≡ old) → ((pin : Pinning) → StillPinned old.machine new.machine pin)
    → AreValidOver held old.machine → clients_of held new.machine ≡ clients_of held old.machine
clients_applied (Ok effect) held old new e ok err still s =
    ap (λ (a : Applied). clients_of held a.machine) ok ∙ clients_after held old.machine (entry_seen e).content (λ pin. subst (λ (a : Applied). StillPinned old.machine a.machine pin) ok (still pin)) s
clients_applied (Err fault) held old new e ok err still s = ap (λ (a : Applied). clients_of held a.machine) err

pub agrees_applied : {F : Type 0} (result : Result AppliedEffect F) (known : List Known) (held : Held) (old new : Applied) (e : raft.Entry) → OnOk result (new ≡ with_entry old e) → OnErr result (new ≡ old) → IsMachine old.machine → IsMachine new.machine → Agrees known held old.machine → Agrees known held new.machine
agrees_applied (Ok effect) known held old new e ok err before after a =
    subst (λ (x : Applied). Agrees known held x.machine) (sym ok) (agrees_after known held old.machine (entry_seen e).content before (subst (λ (x : Applied). IsMachine x.machine) ok after) a)
agrees_applied (Err fault) known held old new e ok err before after a = subst (λ (x : Applied). Agrees known held x.machine) (sym err) a

-- ---- servers

stay_unless : (c : Content) (servers : List _) → effect_of c ≢ effects.Configured → servers_after servers c ≡ servers
stay_unless (Does command) servers other = refl
stay_unless (Configures others) servers other = absurd (other refl)
stay_unless Other servers other = refl

pub servers_stay : {F : Type 0} (result : Result AppliedEffect F) (old new : Applied) (e : raft.Entry) → OnOk result (new ≡ with_entry old e) → IfOk result (λ effect. effect ≡ effect_of (entry_seen e).content) → IfOk result (λ effect. effect ≢ effects.Configured → new.servers ≡ old.servers)
servers_stay (Ok effect) old new e ok told = λ other. ap (λ (a : Applied). a.servers) ok ∙ stay_unless (entry_seen e).content old.servers (λ q. other (told ∙ q))
servers_stay (Err fault) old new e ok told = tt

pub index_rises : {F : Type 0} (result : Result AppliedEffect F) (old new : Applied) (e : raft.Entry) → OnOk result (new ≡ with_entry old e) → OnOk result (new.index ≡ suc old.index)
index_rises (Ok effect) old new e ok = ap (λ (a : Applied). a.index) ok
index_rises (Err fault) old new e ok = tt

-- ---- all that holds

pub holds_applied : (old : Running) (a : Applied) (m : Configurations) → IsGoing old → a.index ≡ suc old.applied.index → old.applied.index < old.replica.raft.commit → IsConfiguration a.servers → AreValidOver old.clients a.machine → HasTurns (clients_of old.clients a.machine) → AllStand m → m.at ≡ a.index → Holds (record old { applied = a; members = m })
holds_applied old a m g is more servers stand turns members at =
    let low : old.replica.raft.snapshot.index ≤ old.applied.index = g.holds.low in
    record {
      replica = g.holds.replica;
      short = g.holds.short;
      clients = stand;
      turns = turns;
      servers = servers;
      members = members;
      at = at;
      low = omega (arith, low, is);
      high = omega (arith, is, more);
      due = g.holds.due;
    }
