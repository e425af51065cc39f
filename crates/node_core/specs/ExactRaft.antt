-- What the parts of a turn in which an event of Raft happens lead to, exactly.
use Rattle.std.specs.Prelude.{◌≡◌, ℕ, true, false, Option, Some, None}
use Rattle.session_spec.specs.Machine.{machine_of}
use Rattle.database_state.specs.Restoring.{restored}
use Rattle.raft_core.specs.Events.{offered}
use Rattle.raft_core.specs.declared.event.RaftEvent.{RaftEvent}
use Rattle.applied_state.specs.Snapshot.{NodeSnapshot}
use Rattle.applied_state.specs.declared.applied.Applied.{Applied}
use Rattle.node_core.specs.declared.raft_turn.Offer.{Offer}
use Rattle.node_core.specs.declared.raft_turn.Offer.TheVariants as offers
use Rattle.node_core.specs.Core.{Core, are_others, ended, followed}
use Rattle.node_core.specs.Exact.{ExactStep, ExactTold, brings, index_of, puts, told_behind}

-- A step of an event was made, and then a leadership that was lost by it has ended.
pub record ExactLeadershipEnd (event : RaftEvent) (batch : Option ℕ) (w v : Core) : Type 0 where
  pub mid : Core
  pub steps : ExactStep event batch w mid
  pub is : v ≡ ended mid

-- The configurations have followed the log, and if they may be others a node that follows has told them to Raft.
abbrev pub ExactMembersFollow : Option ℕ → Core → Core → Type 0
ExactMembersFollow batch w v = ExactTold (told_behind (are_others batch w) (followed batch w)) (followed batch w) v

-- This is of the servers and the databases of a node's snapshot.
pub record IsFrom (s : NodeSnapshot) (a : Applied) : Type 0 where
  pub servers : a.servers ≡ s.servers
  pub files : machine_of a.machine ≡ machine_of (restored s.contents)

-- A snapshot is put in the place of entries by the event, can be taken, and brings this.
pub record ExactSnapshot (event : RaftEvent) (w : Core) (a : Applied) : Type 0 where
  pub state : NodeSnapshot
  pub put : puts event w ≡ true
  pub found : brings w (offered event) ≡ Some state
  pub index : a.index ≡ index_of (offered event)
  pub from : IsFrom state a

-- what comes together with an event of Raft
abbrev pub ExactOffers : RaftEvent → Core → Offer → Type 0
ExactOffers event w offers.Nothing = puts event w ≡ false
ExactOffers event w (offers.Snapshot a) = ExactSnapshot event w a
ExactOffers event w offers.Lost = (puts event w ≡ true) × (brings w (offered event) ≡ None)
