-- One change of servers: the servers after it may stand together where those before it did, and the voters differ in one at most.
use Rattle.std.specs.Prelude.{◌≡◌, ℕ, Bool, true, ◌||◌, List, [], ◌∷◌, Some}
use Rattle.raft_spec.specs.Log.{Entry, term_at}
use Rattle.raft_spec.specs.Node.{Node, Server, voters, Local, Propose}
use Rattle.raft_messages.specs.Servers.{IsConfiguration, configuration_of}
use Rattle.raft_safety.specs.Members.{same_ids, one_more, may_take}
use Rattle.raft_membership.specs.Members.{Configurations, read_setup, IsOf}
use Rattle.wire_words.specs.Items.{HasNoNul}
use Rattle.session_spec.specs.Sessions.{View}
use Rattle.session_spec.specs.Allowed.{IsJoin, IsRole, IsLeave, IsOneChange}

-- a server joins, whose address holds no NUL
abbrev pub JoinsStand : Type 0
JoinsStand = (old new : List Server) (join : IsJoin old new) → HasNoNul join.server.address → IsConfiguration old → IsConfiguration new

abbrev pub RolesStand : Type 0
RolesStand = (v : View) (old new : List Server) → IsRole v old new → IsConfiguration old → IsConfiguration new

abbrev pub LeavesStand : Type 0
LeavesStand = (v : View) (old new : List Server) → IsLeave v old new → IsConfiguration old → IsConfiguration new

-- two lists of voters that are the same, or of which one has one id more: so a change may be proposed
abbrev pub are_near : List ℕ → List ℕ → Bool
are_near ids others = same_ids ids others || one_more ids others || one_more others ids

abbrev pub VotersAreNear : Type 0
VotersAreNear = (v : View) (old new : List Server) → IsOneChange v old new → IsConfiguration old → are_near (voters old) (voters new) ≡ true

-- A leader whose node has applied the barrier of its term, and every change in its log, may propose a change that was let pass over the
-- applied configuration.
abbrev pub ChangesAreProposed : Type 0
ChangesAreProposed =
    (opening : List Server) (s : Node) (e : Entry) (m : Configurations) (v : View) (new : List Server) → IsOf (read_setup opening) s.log m → m.at ≡ s.commit → m.later ≡ [] →
    term_at s.log s.commit ≡ s.term → configuration_of e.bytes ≡ Some new → IsOneChange v m.servers new → IsConfiguration m.servers →
    may_take (read_setup opening) s (Local (Propose (e ∷ []))) ≡ true
