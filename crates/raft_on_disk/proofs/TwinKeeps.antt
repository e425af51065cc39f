-- What twins keep.
use Rattle.std.proofs.Common.{◌≡◌, ◌≤◌, ◌+◌, suc, sym, ap, subst, ◌∙◌}
use Rattle.raft_spec.specs.Node.{Node}
use Rattle.raft_spec.specs.Compaction.{with_whole_log}
use Rattle.raft_safety.specs.Cuts.{Twin}
use Rattle.store_laws.specs.Store.{Kept, Loaded}
use Rattle.store_laws.specs.Meta.{with_vote}
use Rattle.store_laws.specs.Snapshots.{IsLonger}
use Rattle.store_format.specs.NodeFormat.{node_format}
use Rattle.raft_on_disk.specs.Keeping.{kept_at}
use Rattle.raft_on_disk.specs.Stops.{before, between, after, votes_between}
use Rattle.raft_on_disk.specs.Twins.{TwinsKeep, TwinsStop}

pub twins_keep : TwinsKeep
twins_keep s v bytes w = ap (λ (n : Node). kept_at n bytes) w.node ∙ rest
  where
    rest : kept_at (with_whole_log s w.log) bytes ≡ kept_at s bytes
    rest = λ k. record { term = s.term; vote = s.vote; snap = record { index = s.snapshot.index; term = s.snapshot.term; bytes = bytes }; log = record { first = suc s.base; entries = sym w.same.rest k } }

-- what is said of nodes by term and vote alone
same_votes : (s v t u : Node) → Twin s v → Twin t u → votes_between v u ≡ votes_between s t
same_votes s v t u a b = ap (λ (n : Node). votes_between n u) a.node ∙ ap (λ (n : Node). votes_between (with_whole_log s a.log) n) b.node

pub twins_stop : TwinsStop
twins_stop s v t u was now count total g a b (before e k) = before e (k ∙ ap Loaded (twins_keep s v was a))
twins_stop s v t u was now count total g a b (between l k) =
    between (subst (λ n. total ≤ count + n) (same_votes s v t u a b) l)
    (k ∙ ap (λ (n : Node). Loaded (with_vote n.term n.vote (kept_at v was))) b.node ∙ ap (λ (x : Kept). Loaded (with_vote t.term t.vote x)) (twins_keep s v was a))
twins_stop s v t u was now count total g a b (after l k) =
    after (subst (λ n. count + n ≤ total) (same_votes s v t u a b) l)
    (subst (λ (x : Kept). IsLonger node_format 10000000000000000 g t.term t.vote (kept_at t now).snap x.log (kept_at t now).log) (twins_keep s v was a)
    (subst (λ (x : Kept). IsLonger node_format 10000000000000000 g x.term x.vote x.snap (kept_at v was).log x.log) (twins_keep t u now b) k))
