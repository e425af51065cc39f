-- What the node gives Raft itself leaves term and role.
use Rattle.std.proofs.Common.{◌≡◌, ℕ, List, refl}
use Rattle.std.specs.Prelude.{◌&&◌, not, ◌==◌}
use Rattle.std.proofs.lemmas.Bool.{cond_both}
use Rattle.raft_spec.specs.Compaction.{compacted_step}
use Rattle.raft_spec.specs.Log.{Entry}
use Rattle.raft_spec.specs.Membership.{on_servers}
use Rattle.raft_spec.specs.Node.{Node, Server, Outcome, Timeout, Beat, Yield, Propose, Transfer, Snapped, UseServers, Input, Local, Receive, is_leader, voters}
use Rattle.raft_spec.specs.Replication.{on_propose, on_transfer}
use Rattle.raft_spec.specs.Steps.{finish, serve, raft_step}
use Rattle.node_core.specs.Account.{IsOwn}

abbrev Keeps : Node → Outcome → Type 0
Keeps s d = (d.node.term ≡ s.term) × (d.node.role ≡ s.role)

ended : (voters_of : List Entry → List ℕ) (me : ℕ) (s : Node) (d : Outcome) → Keeps s d → Keeps s (finish voters_of me d)
unfolding finish
ended voters_of me s d k = cond_both (is_leader d.node.role) _ _ (Keeps s) (λ e. k) (λ e. k)

served : (me : ℕ) (s : Node) (d : Outcome) → Keeps s d → Keeps s (serve me d)
unfolding serve
served me s d k = cond_both (is_leader d.node.role) _ _ (Keeps s) (λ e. k) (λ e. k)

proposed : (s : Node) (es : List Entry) → Keeps s (on_propose s es)
unfolding on_propose
proposed s es = cond_both (is_leader s.role) _ _ (Keeps s) (λ e. (refl, refl)) (λ e. (refl, refl))

handed : (me : ℕ) (s : Node) (to : ℕ) → Keeps s (on_transfer me s to)
unfolding on_transfer
handed me s to = cond_both (is_leader s.role && not (to == me)) _ _ (Keeps s) (λ e. (refl, refl)) (λ e. (refl, refl))

told : (me : ℕ) (s : Node) (servers : List Server) → Keeps s (on_servers me s servers)
unfolding on_servers
told me s servers = cond_both (is_leader s.role) _ _ (Keeps s) (λ e. (refl, refl)) (λ e. (refl, refl))

pub own_office : (me : ℕ) (s : Node) (i : Input) → IsOwn i → ((compacted_step me s i).node.term ≡ s.term) × ((compacted_step me s i).node.role ≡ s.role)
unfolding compacted_step raft_step
own_office me s (Local (Propose es)) own = ended (λ log. voters s.servers) me s (on_propose s es) (proposed s es)
own_office me s (Local (Transfer to)) own = ended (λ log. voters s.servers) me s (on_transfer me s to) (handed me s to)
own_office me s (Local (UseServers servers)) own = served me s (on_servers me s servers) (told me s servers)
own_office me s (Local (Snapped index)) own = absurd own
own_office me s (Local Timeout) own = absurd own
own_office me s (Local Beat) own = absurd own
own_office me s (Local Yield) own = absurd own
own_office me s (Receive m) own = absurd own
