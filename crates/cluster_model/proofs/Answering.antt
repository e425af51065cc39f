-- The replies to a connection are those to its requests.
use Rattle.std.proofs.Common.{ℕ, List, [], ◌∷◌, ◌++◌, subst}
use Rattle.sql_engine.specs.declared.kind.EngineKind.{EngineKind}
use Rattle.sql_engine.specs.Meanings.{Meaning}
use Rattle.session_safety.specs.Answering.{IsOpen}
use Rattle.session_safety.specs.Nodes.{Node as Life}
use Rattle.session_safety.specs.Life.{Event as Doing, AllFit, happens as goes_on, run_from as lives_on}
use Rattle.session_safety.proofs.Replying.{fit_ok, replies_to}
use Rattle.raft_safety.specs.Members.{Setup}
use Rattle.cluster_model.specs.Clusters.{Cluster, Act, doings, all_doings, acted, first_cluster, cluster_from, cluster, ActsFit}
use Rattle.cluster_model.specs.Laws.{NoneStarts, ClustersAnswer}
use Rattle.cluster_model.proofs.Clusters.{ClusterOk, fit_parts, act_ok, cluster_ok}
use Rattle.cluster_model.proofs.Seeing.{head_starts, life_after, life_later, act_fit}

module _ (mean : Meaning) (kind : EngineKind) where
  fit_join : (w : Life) (xs ys : List Doing) → AllFit mean kind w xs → AllFit mean kind (lives_on w xs) ys → AllFit mean kind w (xs ++ ys)
  fit_join w [] ys a b = b
  fit_join w (x ∷ xs) ys a b = (a.0, fit_join (goes_on w x) xs ys a.1 b)

  -- all that happens in the life of a node that isn't started fits
  pub all_fit : (vs : Setup) (more : List Act) (c : Cluster) (n : ℕ) → ClusterOk mean vs c → ActsFit mean kind vs c more → NoneStarts n more → AllFit mean kind (c.lives n) (all_doings n more)
  all_fit vs [] c n old h s = tt
  all_fit vs (a ∷ more) c n old h s =
      let p = head_starts n a more s in
      fit_join (c.lives n) (doings n a) (all_doings n more) (act_fit mean kind vs c a n old h.0)
      (subst (λ w. AllFit mean kind w (all_doings n more)) (life_after vs c a n p.0) (all_fit vs more (acted vs c a) n (act_ok mean kind vs c a old h.0) h.1 p.1))

  pub clusters_answer_hold : ClustersAnswer mean kind
  unfolding cluster
  clusters_answer_hold vs acts more n conn h starts comes free is_open =
      let p = fit_parts mean kind vs acts more first_cluster h in
      let c = cluster_from vs first_cluster acts in
      let ok = cluster_ok mean kind vs acts p.0 in
      let same = life_later vs acts more n starts in (
        same,
        replies_to mean conn (c.lives n) (all_doings n more) (fit_ok mean kind (c.lives n) (all_doings n more) (all_fit vs more c n ok p.1 starts) (ok.lives n)) comes (subst (λ (w : Life). IsOpen (w.gate.session conn)) same is_open) free,
      )
