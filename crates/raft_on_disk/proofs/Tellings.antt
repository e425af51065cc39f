-- A node that doesn't lead is given other servers.
use Rattle.std.proofs.Common.{◌≡◌, ⊎_elim, ℕ, suc, ◌<◌, ◌≤◌, Bool, true, false, List, [], length, map, refl, sym, ap, ◌∙◌, arith, Option, Some, None}
use Rattle.std.specs.Prelude.{◌≢◌, ◌&&◌, ◌==◌}
use Rattle.std.proofs.lemmas.Bool.{cond-true, cond-false, eq-eqb}
use Rattle.raft_spec.specs.Log.{Entry, term_at}
use Rattle.raft_spec.specs.Node.{Node, Server, Outcome, voters, is_leader, Local, UseServers}
use Rattle.raft_spec.specs.Outcomes.{quiet}
use Rattle.raft_spec.specs.Membership.{with_servers, on_servers}
use Rattle.raft_spec.specs.Steps.{sends, serve, raft_step}
use Rattle.raft_spec.specs.Compaction.{compact, compact_message, with_whole_log, compacted_step}
use Rattle.raft_spec.specs.NodeValues.{NodeValue, node_of}
use Rattle.raft_spec.proofs.NodeValues.{compact_kept}
use Rattle.raft_on_disk.specs.Replicas.{HasMoved}
use Rattle.raft_on_disk.specs.Stops.{votes_between}
use Rattle.raft_on_disk.specs.Telling.{ServersAlone}

ruled : (voters_of : List Entry → List ℕ) (me : ℕ) (s : Node) (servers : List Server) → is_leader s.role ≡ false → raft_step voters_of me s (Local (UseServers servers)) ≡ quiet (with_servers me s servers)
unfolding raft_step serve on_servers
ruled voters_of me s servers f =
    ap (serve me) (cond-false (is_leader s.role) _ (quiet (with_servers me s servers)) f)
    ∙ cond-false (is_leader s.role) (sends me (quiet (with_servers me s servers))) (quiet (with_servers me s servers)) f

module _ (h : NodeValue) (servers : List Server) (f : is_leader h.role ≡ false) where
  s : Node
  s = node_of h

  ends : compact (with_servers h.id (node_of h) servers) ≡ with_servers h.id (node_of h) servers
  ends = ap (λ (l : List Entry). with_whole_log (with_servers h.id (node_of h) servers) l) (compact_kept h.snapshot h.base h.entries)

  pub only_node : (compacted_step h.id (node_of h) (Local (UseServers servers))).node ≡ with_servers h.id (node_of h) servers
  unfolding compacted_step
  only_node = ap (λ (d : Outcome). compact d.node) (ruled (λ log. voters h.servers) h.id (node_of h) servers f) ∙ ends

  pub only_says : (compacted_step h.id (node_of h) (Local (UseServers servers))).out ≡ []
  unfolding compacted_step
  only_says = ap (λ (d : Outcome). map compact_message d.out) (ruled (λ log. voters h.servers) h.id (node_of h) servers f)

same_votes : (s t : Node) → t.term ≡ s.term → t.vote ≡ s.vote → votes_between s t ≡ 0
same_votes s t e v = cond-true ((t.term == s.term) && (t.vote == s.vote)) 0 1 (both _ _ (eq-eqb _ _ e) (eq-eqb _ _ v))
  where
    both : (a b : Bool) → a ≡ true → b ≡ true → (a && b) ≡ true
    both true b p q = q
    both false b p q = absurd cc

-- the same log has no batch, and the same snapshot did not come past the commit index
none_moved : (s t : Node) → s.snapshot.index ≤ s.commit → t.snapshot ≡ s.snapshot → t.log ≡ s.log → (batch : Option ℕ) (installed : Bool) → HasMoved s t batch installed → (batch ≡ None) × (installed ≡ false)
none_moved s t low e l batch true h = let lt : s.commit < t.snapshot.index = h.0 in let i : t.snapshot.index ≡ s.snapshot.index = ap (λ x. x.index) e in absurd (omega arith)
none_moved s t low e l None false h = (refl, refl)
none_moved s t low e l (Some first) false h =
    let b = h.1 in
    let within : first ≤ length t.log = b.within in
    let size : length t.log ≡ length s.log = ap length l in
    ⊎_elim (λ (q : first ≡ suc (length s.log)). absurd (omega arith)) (λ (q : term_at s.log first ≢ term_at t.log first). absurd (q (ap (λ (x : List Entry). term_at x first) (sym l)))) b.differs

pub servers_alone_holds : ServersAlone
servers_alone_holds r servers w f =
    let t = (compacted_step r.raft.id (node_of r.raft) (Local (UseServers servers))).node in
    let node = only_node r.raft servers f in
    record {
      node = node;
      says = only_says r.raft servers f;
      votes = same_votes (node_of r.raft) t (ap (λ (n : Node). n.term) node) (ap (λ (n : Node). n.vote) node);
      log = none_moved (node_of r.raft) t w.coherent.applied (ap (λ (n : Node). n.snapshot) node) (ap (λ (n : Node). n.log) node);
    }
