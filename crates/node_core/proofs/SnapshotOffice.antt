-- An own snapshot leaves term and role.
use Rattle.std.proofs.Common.{◌≡◌, ℕ, Bool, refl, sym, ap, ◌∙◌, List}
use Rattle.std.specs.Prelude.{◌&&◌, nat_lt, nat_le, Option, Some, None}
use Rattle.std.proofs.lemmas.Bool.{cond_both}
use Rattle.raft_spec.specs.Compaction.{compacted_step}
use Rattle.raft_spec.specs.Log.{Entry}
use Rattle.raft_spec.specs.Node.{Node, Outcome, Local, Snapped, is_leader, voters}
use Rattle.raft_spec.specs.NodeValues.{NodeValue}
use Rattle.raft_spec.specs.Snapshots.{on_snapped}
use Rattle.raft_spec.specs.Steps.{finish, raft_step}
use Rattle.applied_state.specs.declared.leadership.Leadership.{Leadership}
use Rattle.node_core.specs.Whole.{InOffice}

abbrev Keeps : Node → Outcome → Type 0
Keeps s d = (d.node.term ≡ s.term) × (d.node.role ≡ s.role)

ruled : (s : Node) (i : ℕ) → Keeps s (on_snapped s i)
unfolding on_snapped
ruled s i = cond_both (nat_lt s.snapshot.index i && nat_le i s.commit) _ _ (Keeps s) (λ e. (refl, refl)) (λ e. (refl, refl))

ended : (voters_of : List Entry → List ℕ) (me : ℕ) (s : Node) (d : Outcome) → Keeps s d → Keeps s (finish voters_of me d)
unfolding finish
ended voters_of me s d k = cond_both (is_leader d.node.role) _ _ (Keeps s) (λ e. k) (λ e. k)

pub snapped_office : (me : ℕ) (s : Node) (i : ℕ) → ((compacted_step me s (Local (Snapped i))).node.term ≡ s.term) × ((compacted_step me s (Local (Snapped i))).node.role ≡ s.role)
unfolding compacted_step raft_step
snapped_office me s i = ended (λ log. voters s.servers) me s (on_snapped s i) (ruled s i)

pub office_kept : (o : Option Leadership) (serving : Bool) (h i : NodeValue) → InOffice o serving h → i.term ≡ h.term → i.role ≡ h.role → InOffice o serving i
office_kept None serving h i g term role = g
office_kept (Some o) serving h i g term role = (ap is_leader role ∙ g.0, g.1 ∙ sym term)
