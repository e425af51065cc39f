-- Configurations of which each may stand, as changes join, are truncated and are applied.
use Rattle.std.proofs.Common.{ℕ, Bool, true, false, cond, nat_lt, nat_le, List, [], ◌∷◌, ◌++◌}
use Rattle.raft_spec.specs.Node.{Server}
use Rattle.raft_messages.specs.Servers.{IsConfiguration}
use Rattle.raft_membership.specs.declared.members.Change.{Change}
use Rattle.raft_membership.specs.Members.{Configurations, servers_from, with_change, below, cut_at, settled_servers, past, settled, EachStands, AllStand}

each_more : (cs : List Change) (c : Change) → EachStands cs → IsConfiguration c.servers → EachStands (cs ++ c ∷ [])
each_more [] c h s = (s, tt)
each_more (x ∷ cs) c h s = (h.0, each_more cs c h.1 s)

pub pushed_stand : (m : Configurations) (index : ℕ) (servers : List Server) → AllStand m → IsConfiguration servers → AllStand (with_change m index servers)
pushed_stand m index servers h s = (h.0, each_more m.later (record { index = index; servers = servers }) h.1 s)

either_each : (b : Bool) (xs ys : List Change) → EachStands xs → EachStands ys → EachStands (cond b xs ys)
either_each true xs ys h g = h
either_each false xs ys h g = g

either : (b : Bool) (xs ys : List Server) → IsConfiguration xs → IsConfiguration ys → IsConfiguration (cond b xs ys)
either true xs ys h g = h
either false xs ys h g = g

below_stand : (index : ℕ) (cs : List Change) → EachStands cs → EachStands (below index cs)
below_stand index [] h = tt
below_stand index (c ∷ cs) h = either_each (nat_lt c.index index) (c ∷ below index cs) [] (h.0, below_stand index cs h.1) tt

pub cut_stand : (m : Configurations) (index : ℕ) → AllStand m → AllStand (cut_at m index)
cut_stand m index h = (h.0, below_stand index m.later h.1)

past_stand : (applied : ℕ) (cs : List Change) → EachStands cs → EachStands (past applied cs)
past_stand applied [] h = tt
past_stand applied (c ∷ cs) h = either_each (nat_le c.index applied) (past applied cs) (c ∷ cs) (past_stand applied cs h.1) h

servers_stand : (applied : ℕ) (servers : List Server) (cs : List Change) → IsConfiguration servers → EachStands cs → IsConfiguration (settled_servers applied servers cs)
servers_stand applied servers [] h g = h
servers_stand applied servers (c ∷ cs) h g = either (nat_le c.index applied) (settled_servers applied c.servers cs) servers (servers_stand applied c.servers cs g.0 g.1) h

pub settled_stand : (m : Configurations) (applied : ℕ) → AllStand m → AllStand (settled m applied)
settled_stand m applied h = (servers_stand applied m.servers m.later h.0 h.1, past_stand applied m.later h.1)

pub last_stands : (servers : List Server) (cs : List Change) → IsConfiguration servers → EachStands cs → IsConfiguration (servers_from servers cs)
last_stands servers [] h g = h
last_stands servers (c ∷ cs) h g = last_stands c.servers cs g.0 g.1
