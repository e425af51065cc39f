-- What a leader owes is a stretch of an event.
use Rattle.std.proofs.Common.{◌≡◌, inl, ℕ, ◌≤◌, true, List, [], ◌∷◌, ◌++◌, length, refl, sym, ap, ◌∙◌, subst, arith, append-nil, length-append}
use Rattle.std.proofs.lemmas.List.{take-append-le}
use Rattle.sql_engine.specs.declared.kind.EngineKind.{EngineKind}
use Rattle.sql_engine.specs.Meanings.{Meaning}
use Rattle.session_spec.specs.Entries.{entries_of, written}
use Rattle.session_spec.specs.Machine.{files}
use Rattle.session_spec.specs.Restarts.{restarted, shifted}
use Rattle.session_spec.specs.Seen.{log_seen}
use Rattle.session_safety.specs.Nodes.{Node as Life}
use Rattle.session_safety.specs.Life.{Append, ArePlain, happens}
use Rattle.raft_spec.specs.Log.{Entry}
use Rattle.raft_spec.specs.Node.{Node, Input, is_leader}
use Rattle.raft_spec.specs.NodeValues.{NodeValue, IsCoherent, node_of}
use Rattle.raft_spec.specs.Outcomes.{with_term}
use Rattle.raft_spec.specs.Account.{stored_of}
use Rattle.raft_safety.specs.Cuts.{Twin, AlikeInputs}
use Rattle.store_laws.specs.Store.{Kept}
use Rattle.cluster_model.specs.Weaving.{IsWoven}
use Rattle.cluster_model.proofs.Lines.{size_of}
use Rattle.cluster_model.proofs.Proposals.{proposals_seen_hold, proposals_weave_hold}
use Rattle.node_spec.specs.Nodes.{KeptIs}
use Rattle.node_spec.specs.Steps.{ArePartOf}
use Rattle.node_spec.specs.Accounts.{with_due, DueWeaves, StandsAt, no_piece, Lives}
use Rattle.node_spec.specs.Turns.{OwingGoes}
use Rattle.node_spec.proofs.Stretches.{part_self}

due_end : (term : ℕ) (log : List Entry) (due : List (List Entry)) (es : List Entry) → with_due term log (due ++ es ∷ []) ≡ with_due term log due ++ with_term term es
due_end term log [] es = refl
due_end term log (x ∷ due) es = due_end term (log ++ with_term term x) due es

weaves_end : (term : ℕ) (log : List Entry) (due : List (List Entry)) (es : List Entry) → DueWeaves term log due → (IsWoven (with_due term log due) → IsWoven (with_due term log due ++ with_term term es)) → DueWeaves term log (due ++ es ∷ [])
weaves_end term log [] es h f = (f, tt)
weaves_end term log (x ∷ due) es h f = (h.0, weaves_end term (log ++ with_term term x) due es h.1 f)

pub due_longer : (term : ℕ) (log : List Entry) (due : List (List Entry)) → length log ≤ length (with_due term log due)
due_longer term log [] = omega arith
due_longer term log (x ∷ due) =
    let r = due_longer term (log ++ with_term term x) due in
    let e = length-append log (with_term term x) in
    omega (arith, r, e)

pub owing_goes_holds : (m : Meaning) (kind : EngineKind) → OwingGoes m kind
unfolding happens
owing_goes_holds m kind vs n bytes joins a b contents o = record {
  made = ap node_of o.rest.raft;
  letters = refl;
  lives = λ s w is x takes told. subst (Lives m kind vs n joins a b no_piece s w) (sym (none is takes.alike)) (alone s w x (takes.kept 0).1.0);
}
  where
    none : (is : List Input) → AlikeInputs is [] → is ≡ []
    none [] e = refl
    none (i ∷ is) e = absurd cc

    alone : (s : Node) (w : Life) → StandsAt vs a s w → s.commit ≤ length s.log → Lives m kind vs n joins a b no_piece s w []
    alone s w x long =
        let any = a.node.raft.term in
        let whole = with_due s.term s.log a.due in
        let role : is_leader s.role ≡ true = sym (ap (λ (z : Node). is_leader z.role) x.twin.node) ∙ o.leads in
        let at : Node = record s { log = whole } in
        let weave : IsWoven whole → IsWoven (whole ++ with_term s.term (written any contents)) = proposals_weave_hold at any contents a.node.serving o.spelled (inl o.plain) role in
        let log : w.log ++ entries_of w.term contents ≡ log_seen (with_due s.term s.log b.due) =
        ap (λ l. l ++ entries_of w.term contents) x.log ∙ ap (λ k. log_seen whole ++ entries_of k contents) x.term ∙ sym (proposals_seen_hold whole any s.term contents o.spelled) ∙ ap log_seen (sym (due_end s.term s.log a.due (written any contents))) ∙ ap (λ l. log_seen (with_due s.term s.log l)) (sym o.due) in
        let short : w.applied ≤ length w.log =
        let low = x.within in
        let index = x.applied in
        let size : length w.log ≡ length whole = ap length x.log ∙ size_of whole in
        let longer = due_longer s.term s.log a.due in
        omega (arith, low, index, size, longer, long) in
        record {
          life = Append contents ∷ [];
          said = [];
          weaves = tt;
          fits = ((x.leads ∙ role, subst (λ serving. ArePlain serving contents) (sym x.serving) o.plain), tt);
          stands = record {
            twin = subst (λ (h : NodeValue). Twin s (node_of h)) (sym o.rest.raft) x.twin;
            raft = subst (λ (h : NodeValue). IsCoherent h) (sym o.rest.raft) x.raft;
            up = x.up;
            log = log;
            weaves = subst (DueWeaves s.term s.log) (sym o.due) (weaves_end s.term s.log a.due (written any contents) x.weaves weave);
            applied = x.applied ∙ sym o.rest.applied;
            within = subst (λ k. k ≤ s.commit) (sym o.rest.applied) x.within;
            term = x.term;
            leads = x.leads;
            serving = x.serving ∙ sym o.rest.serving;
            machine = o.rest.machine;
            lacks = x.lacks;
            since = x.since;
            files = ap files (take-append-le w.applied w.log (entries_of w.term contents) short) ∙ x.files ∙ ap (restarted x.lacks x.since) (sym o.rest.files);
            sessions = x.sessions ∙ ap (shifted x.lacks) (sym o.sessions);
            kept = subst (λ (h : Kept). KeptIs vs h (stored_of s)) (sym o.rest.kept) x.kept;
          };
          says = sym (append-nil w.said);
          replies = refl;
          lends = refl;
          uses = refl;
          terms = λ f. tt;
          early = λ z. tt;
          joined = λ conn other. ((λ q. cc), tt);
          handles = λ conn. subst (ArePartOf (b.node.waiting conn)) (o.waiting conn ∙ sym (append-nil (a.node.waiting conn))) (part_self (b.node.waiting conn));
          completes = λ conn open_at other. record { all = o.waiting conn ∙ sym (append-nil (a.node.waiting conn)); handled = refl };
        }
