-- The order of proposals at three moments of a run.
use Rattle.std.proofs.Common.{◌≡◌, ℕ, ◌<◌, List, [], ◌++◌, length, take, sym, ap, ◌∙◌, subst, append_assoc}
use Rattle.sql_engine.specs.declared.kind.EngineKind.{EngineKind}
use Rattle.sql_engine.specs.Meanings.{Meaning}
use Rattle.session_spec.specs.Sessions.{Gateway}
use Rattle.raft_spec.specs.Node as raft
use Rattle.raft_safety.specs.Laws.{node_at}
use Rattle.raft_safety.specs.Members.{Setup}
use Rattle.cluster_model.specs.Clusters.{Act, cluster}
use Rattle.cluster_model.specs.Laws.{AllBelow, chosen_seen}
use Rattle.cluster_model.proofs.Clusters.{replies_stay_hold}
use Rattle.order_safety.specs.Order.{MayAppend}
use Rattle.order_safety.proofs.Order.{chosen_grows, pending_comes_first_holds, answered_comes_first_holds}
use Rattle.cluster_safety.specs.Acts.{RunIs}
use Rattle.cluster_safety.specs.Laws.{SafeRun}
use Rattle.cluster_safety.specs.Runs.{Run, Event, first_run, run_from, run}
use Rattle.cluster_safety.proofs.Lasts.{run_join, hold_parts}
use Rattle.cluster_safety.proofs.Runs.{first_run_is, runs_go_on_hold}
use Rattle.cluster_safety.proofs.Safes.{log_is, up_at, run_is_safe}
use Rattle.headline_safety.specs.Order.{MayPropose, KeepsOrder, ProposalsKeepOrder}

module _ (mean : Meaning) (kind : EngineKind) where
  -- a leader of the run is one of the cluster
  may_append : (vs : Setup) (r : Run) (acts : List Act) (k term index : ℕ) → RunIs mean kind vs r acts → MayPropose r k term index →
      MayAppend vs (cluster vs acts) k term index
  may_append vs r acts k term index is may =
      let st = up_at mean kind vs r acts k may.value may.up is in
      record {
        leads = (
          sym (ap (λ (z : raft.Node). z.role) st.twin.node) ∙ may.leads,
          sym (ap (λ (z : raft.Node). z.term) st.twin.node) ∙ may.in_term,
        );
        ends = subst (λ n. n < index) (sym (log_is (node_at vs (cluster vs acts).raft k) may.value.raft st.twin).size) may.ends;
      }

  ordered : (vs : Setup) (early middle late : List Event) (acts more rest : List Act) → RunIs mean kind vs (run_from first_run early) acts →
      RunIs mean kind vs (run_from first_run (early ++ middle)) (acts ++ more) →
      RunIs mean kind vs (run_from first_run (early ++ (middle ++ late))) (acts ++ (more ++ rest)) → KeepsOrder mean vs early middle late
  unfolding run
  ordered vs early middle late acts more rest one two three =
      let c = cluster vs acts in
      let e = cluster vs (acts ++ (more ++ rest)) in
      record {
        chosen = chosen_seen vs e;
        said = e.said;
        safe = run_is_safe mean kind vs (run_from first_run (early ++ (middle ++ late))) (acts ++ (more ++ rest)) three;
        size = length (chosen_seen vs c);
        count = length c.said;
        before = subst (λ l. SafeRun mean vs (run_from first_run early) l (take (length c.said) e.said)) (sym (chosen_grows vs acts (more ++ rest)))
            (subst (SafeRun mean vs (run_from first_run early) (chosen_seen vs c)) (sym (replies_stay_hold vs acts (more ++ rest)))
            (run_is_safe mean kind vs (run_from first_run early) acts one));
        pending = λ n conn k term index f pending may pos has_index has_f.
            let st = up_at mean kind vs (run_from first_run early) acts n pending.value pending.up one in
            pending_comes_first_holds mean kind vs acts more rest n conn k term index f one.fit st.up
            (ap (λ (g : Gateway). (g.session conn).flight) st.sessions ∙ pending.flight)
            (may_append vs (run_from first_run (early ++ middle)) (acts ++ more) k term index two may) pos has_index has_f;
        answered = λ k term index may pos has_index.
            subst (AllBelow index) (sym (replies_stay_hold vs acts (more ++ rest)))
            (answered_comes_first_holds mean kind vs acts more rest k term index one.fit
            (may_append vs (run_from first_run (early ++ middle)) (acts ++ more) k term index two may) pos has_index);
      }

  pub proposals_keep_order_hold : ProposalsKeepOrder mean kind
  proposals_keep_order_hold vs early middle late h =
      let p = hold_parts mean kind vs first_run early (middle ++ late) h in
      let r = run_from first_run early in
      let q = hold_parts mean kind vs r middle late p.1 in
      let x = runs_go_on_hold mean kind vs first_run [] early (first_run_is mean kind vs) p.0 in
      let y = runs_go_on_hold mean kind vs r x.later middle x.is q.0 in
      let z = runs_go_on_hold mean kind vs (run_from r middle) (x.later ++ y.later) late y.is q.1 in
      let two : run_from first_run (early ++ middle) ≡ run_from r middle = run_join first_run early middle in
      let three : run_from first_run (early ++ (middle ++ late)) ≡ run_from (run_from r middle) late =
      run_join first_run early (middle ++ late) ∙ run_join r middle late in
      ordered vs early middle late x.later y.later z.later x.is
      (subst (λ s. RunIs mean kind vs s (x.later ++ y.later)) (sym two) y.is)
      (subst (RunIs mean kind vs (run_from first_run (early ++ (middle ++ late)))) (append_assoc x.later y.later z.later)
      (subst (λ s. RunIs mean kind vs s ((x.later ++ y.later) ++ z.later)) (sym three) z.is))
