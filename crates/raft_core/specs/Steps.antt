-- Steps of the code's node.
use Rattle.std.specs.Prelude.{◌≡◌, ℕ, ◌-◌, nat_le, true, false, max, map, drop}
use Rattle.raft_spec.specs.Log.{LogEnd, term_at, matches}
use Rattle.raft_spec.specs.Node.{Node, Outcome}
use Rattle.raft_spec.specs.Steps.{finish}
use Rattle.raft_spec.specs.Compaction.{compact, compact_message}
use Rattle.raft_spec.specs.NodeValues.{NodeValue, node_of}
use Rattle.raft_log.specs.declared.compaction.InstallPlan.{InstallPlan}
use Rattle.raft_log.specs.declared.compaction.InstallPlan.TheVariants as plans
use Rattle.raft_core.specs.declared.effects.Effects.{Effects}
use Rattle.raft_core.specs.Effects.{outcome_of}
use Rattle.raft_core.specs.Nodes.{told}

-- an outcome without what is compacted
abbrev pub compact_outcome : Outcome → Outcome
compact_outcome d = record { node = compact d.node; out = map compact_message d.out; recipients = d.recipients }

-- a rule at a node has this outcome, and the step that it makes ends as that of this node of the code, with these effects
pub record Ends (h : NodeValue) (d : Outcome) (now : NodeValue) (e : Effects) : Type 0 where
  pub id : now.id ≡ h.id
  pub servers : now.servers ≡ h.servers
  pub same : compact_outcome (finish (told h) h.id d) ≡ compact_outcome (finish (told h) h.id (outcome_of now e))

-- the node with a snapshot at an index, and its log cut off after it
abbrev pub compacted_at : NodeValue → ℕ → NodeValue
compacted_at h i = record h { snapshot = record { index = i; term = term_at (node_of h).log i }; base = max h.base (i - 16); entries = drop (i - 16 - h.base) h.entries }

-- what is to become of the log when a snapshot comes that ends there
abbrev pub PlansFor : Node → LogEnd → InstallPlan → Type 0
PlansFor s last plans.Old = nat_le last.index s.commit ≡ true
PlansFor s last plans.KeepRest = (nat_le last.index s.commit ≡ false) × (matches s.log last ≡ true)
PlansFor s last plans.Replace = (nat_le last.index s.commit ≡ false) × (matches s.log last ≡ false)
