-- That a leader serves is a stretch of an event.
use Rattle.std.proofs.Common.{◌≡◌, ◌≤◌, true, false, [], ◌∷◌, length, refl, sym, ap, ◌∙◌, subst, append-nil}
use Rattle.sql_engine.specs.declared.kind.EngineKind.{EngineKind}
use Rattle.sql_engine.specs.Meanings.{Meaning}
use Rattle.session_spec.specs.Machine.{Machine}
use Rattle.session_spec.specs.Restarts.{restarted, shifted}
use Rattle.session_spec.specs.Seen.{log_seen}
use Rattle.session_safety.specs.Life.{Serve, happens}
use Rattle.raft_spec.specs.Node.{Node, is_leader}
use Rattle.raft_spec.specs.NodeValues.{NodeValue, IsCoherent, node_of}
use Rattle.raft_spec.specs.Account.{stored_of}
use Rattle.raft_safety.specs.Cuts.{Twin}
use Rattle.store_laws.specs.Store.{Kept}
use Rattle.cluster_model.proofs.Lines.{size_of}
use Rattle.node_spec.specs.Nodes.{KeptIs}
use Rattle.node_spec.specs.Accounts.{with_due}
use Rattle.node_spec.specs.ClientTurns.{ServingGoes}
use Rattle.node_spec.proofs.Moving.{quiet_goes, due_stays, part_same, all_same}

pub serving_goes_holds : (m : Meaning) (kind : EngineKind) → ServingGoes m kind
unfolding happens
serving_goes_holds m kind vs n bytes joins a b x = quiet_goes m kind vs n bytes joins a b (λ conn. []) [] [] false x.raft (λ s w st long.
    let due = due_stays vs a b s w st x.same.due in
    let role : is_leader s.role ≡ true = sym (ap (λ (z : Node). is_leader z.role) st.twin.node) ∙ x.leads in
    let log : w.log ≡ log_seen s.log = subst (λ l. w.log ≡ log_seen (with_due s.term s.log l)) x.idle st.log in
    let last : length w.log ≡ length (node_of a.node.raft).log = ap length log ∙ size_of s.log ∙ st.twin.same.len ∙ sym (ap (λ (z : Node). length z.log) st.twin.node) in
    record {
      life = Serve ∷ [];
      said = [];
      weaves = tt;
      fits = ((st.leads ∙ role, st.applied ∙ x.all ∙ sym last, (λ name. ap (λ (z : Machine). (z.base name).pending) st.files ∙ x.calm name)), tt);
      stands = record {
        twin = subst (λ (h : NodeValue). Twin s (node_of h)) (sym x.raft) st.twin;
        raft = subst (λ (h : NodeValue). IsCoherent h) (sym x.raft) st.raft;
        up = st.up;
        log = due.0;
        weaves = due.1;
        applied = st.applied ∙ sym x.applied;
        within = subst (λ k. k ≤ s.commit) (sym x.applied) st.within;
        term = st.term;
        leads = st.leads;
        serving = sym x.serving;
        machine = x.machine;
        lacks = st.lacks;
        since = st.since;
        files = st.files ∙ ap (restarted st.lacks st.since) (sym x.files);
        sessions = st.sessions ∙ ap (shifted st.lacks) (sym x.sessions);
        kept = subst (λ (h : Kept). KeptIs vs h (stored_of s)) (sym x.kept) st.kept;
      };
      says = sym (append-nil w.said);
      replies = refl;
      lends = refl;
      uses = refl;
      terms = λ f. tt;
      early = λ z. tt;
      joined = λ conn z. ((λ q. cc), tt);
      handles = λ conn. part_same (b.node.waiting conn) (a.node.waiting conn) (x.same.waiting conn);
      completes = λ conn o z. record { all = all_same (b.node.waiting conn) (a.node.waiting conn) (x.same.waiting conn); handled = refl };
    })
