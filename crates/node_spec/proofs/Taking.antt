-- What is due at Raft and is taken is a stretch of an event.
use Rattle.std.proofs.Common.{◌≡◌, ℕ, suc, ◌<◌, ◌≤◌, true, List, [], ◌∷◌, ◌++◌, length, take, drop, refl, sym, ap, ◌∙◌, subst, arith, append-nil}
use Rattle.std.proofs.lemmas.Bool.{cond-true}
use Rattle.std.proofs.lemmas.List.{take-append-le, drop_at, length-replicate}
use Rattle.sql_engine.specs.declared.kind.EngineKind.{EngineKind}
use Rattle.sql_engine.specs.Meanings.{Meaning}
use Rattle.session_spec.specs.Restarts.{restarted, shifted}
use Rattle.session_spec.specs.Seen.{log_seen}
use Rattle.session_safety.specs.Nodes.{Node as Life}
use Rattle.raft_spec.specs.Log.{Entry}
use Rattle.raft_spec.specs.Node.{Node, Outcome, Input, Local, Receive, Propose, is_leader}
use Rattle.raft_spec.specs.NodeValues.{NodeValue, node_of}
use Rattle.raft_spec.specs.Outcomes.{with_term, with_log}
use Rattle.raft_spec.specs.Account.{stored_of}
use Rattle.raft_spec.specs.Compaction.{compacted}
use Rattle.raft_spec.specs.Replication.{on_propose}
use Rattle.raft_spec.specs.Steps.{finish, raft_step}
use Rattle.raft_safety.specs.Members.{Setup, voters_after, may_take, member_step}
use Rattle.raft_safety.specs.Cuts.{Twin, AlikeInput, AlikeInputs, Told}
use Rattle.store_laws.specs.Store.{Kept}
use Rattle.node_spec.specs.Nodes.{SnapshotOf, KeptIs}
use Rattle.node_spec.specs.Steps.{TakesIn, ArePartOf}
use Rattle.node_spec.specs.Accounts.{with_due, DueWeaves, StandsAt, no_piece, taken_by, Lives}
use Rattle.node_spec.specs.Turns.{KeepsAll, ProposalGoes}
use Rattle.node_spec.proofs.Stretches.{tail_is, part_self}

-- what is kept of a node that is this one except for what is compacted
pub kept_stands : (vs : Setup) (k : Kept) (h : NodeValue) (t : Node) → Twin t (node_of h) → KeepsAll k h → (0 < t.snapshot.index → SnapshotOf vs (take t.snapshot.index t.log) k.snap.bytes) → KeptIs vs k (stored_of t)
kept_stands vs k h t twin all bytes =
    let term : h.term ≡ t.term = ap (λ (z : Node). z.term) twin.node in
    let vote : h.vote ≡ t.vote = ap (λ (z : Node). z.vote) twin.node in
    let base : h.base ≡ t.base = ap (λ (z : Node). z.base) twin.node in
    let log : compacted h.snapshot h.base ++ h.entries ≡ twin.log = ap (λ (z : Node). z.log) twin.node in
    let snapshot : h.snapshot ≡ t.snapshot = ap (λ (z : Node). z.snapshot) twin.node in
    let rest : h.entries ≡ drop t.base t.log = sym (drop_at (compacted h.snapshot h.base) h.entries h.base (length-replicate h.base _)) ∙ ap (drop h.base) log ∙ ap (λ b. drop b twin.log) base ∙ sym twin.same.rest in
    record {
      term = all.term ∙ term;
      vote = all.vote ∙ vote;
      log = all.log ∙ ap (λ b. record { first = suc b; entries = h.entries }) base ∙ ap (λ es. record { first = suc t.base; entries = es }) rest;
      index = all.index ∙ ap (λ z. z.index) snapshot;
      snap_term = all.snap_term ∙ ap (λ z. z.term) snapshot;
      bytes = bytes;
    }

-- a leader that proposes appends all of it in its term, and changes no more than its commit index beside
propose_step : (vs : Setup) (me : ℕ) (s : Node) (es : List Entry) → may_take vs s (Local (Propose es)) ≡ true → is_leader s.role ≡ true → (commit : ℕ) × ((member_step vs me s (Local (Propose es))).node ≡ with_log s (s.log ++ with_term s.term es) commit)
unfolding member_step raft_step on_propose finish
propose_step vs me s es may leads = (_, ap (λ (d : Outcome). d.node) (cond-true (may_take vs s (Local (Propose es))) _ _ may ∙ ap (finish (voters_after vs) me) (cond-true (is_leader s.role) _ _ leads) ∙ cond-true (is_leader s.role) _ _ leads))

-- an input that is alike to a local one is that one
local_is : (i : Input) (es : List Entry) → AlikeInput i (Local (Propose es)) → i ≡ Local (Propose es)
local_is (Local local) es a = sym a
local_is (Receive m) es a = absurd (wrong _ _ a.1)
  where
    wrong : (local : _) (m : _) → Local local ≡ Receive m → ⊥
    wrong local m e = cc

one_is : (is : List Input) (es : List Entry) → AlikeInputs is (Local (Propose es) ∷ []) → is ≡ Local (Propose es) ∷ []
one_is [] es a = absurd cc
one_is (i ∷ is) es a = ap (λ j. j ∷ is) (local_is i es (subst (AlikeInput i) (head a.0 a.1 a.2) a.3)) ∙ ap (λ l. Local (Propose es) ∷ l) (none is (subst (AlikeInputs is) (sym (tail_is _ a.0 [] a.1 a.2)) a.4))
  where
    head : (j : Input) (rest : List Input) → Local (Propose es) ∷ [] ≡ j ∷ rest → j ≡ Local (Propose es)
    head j rest e = cc

    none : (l : List Input) → AlikeInputs l [] → l ≡ []
    none [] e = refl
    none (x ∷ l) e = absurd cc

pub proposal_goes_holds : (m : Meaning) (kind : EngineKind) → ProposalGoes m kind
proposal_goes_holds m kind vs me bytes joins a b es letters p = record {
  made = p.made;
  letters = p.says;
  lives = λ s w is x takes told.
      let e = one_is is es takes.alike in
      subst (Lives m kind vs me joins a b (record no_piece { inputs = Local (Propose es) ∷ []; letters = letters }) s w) (sym e) (alone s w x (subst (λ l. TakesIn vs me a.node s l (taken_by bytes joins (record no_piece { inputs = Local (Propose es) ∷ []; letters = letters }))) e takes) (subst (Told vs me s) e told));
}
  where
    alone : (s : Node) (w : Life) → StandsAt vs a s w → TakesIn vs me a.node s (Local (Propose es) ∷ []) (taken_by bytes joins (record no_piece { inputs = Local (Propose es) ∷ []; letters = letters })) → Told vs me s (Local (Propose es) ∷ []) → Lives m kind vs me joins a b (record no_piece { inputs = Local (Propose es) ∷ []; letters = letters }) s w (Local (Propose es) ∷ [])
    alone s w x takes told =
        let t = (member_step vs me s (Local (Propose es))).node in
        let role : is_leader s.role ≡ true = sym (ap (λ (z : Node). is_leader z.role) x.twin.node) ∙ p.leads in
        let r = propose_step vs me s es told.0 role in
        let twin : Twin t (node_of b.node.raft) = subst (Twin t) (sym p.made) (takes.twins 1 (told.0, told.1, tt)) in
        let log : t.log ≡ s.log ++ with_term s.term es = ap (λ (z : Node). z.log) r.1 in
        let term : t.term ≡ s.term = ap (λ (z : Node). z.term) r.1 in
        let rise : s.commit ≤ t.commit = (takes.kept 0).0 in
        let long : s.commit ≤ length s.log = (takes.kept 0).1.0 in
        let snap : t.snapshot ≡ s.snapshot = ap (λ (z : Node). z.snapshot) r.1 in
        let snap_in : a.node.raft.snapshot.index ≡ s.snapshot.index = ap (λ (z : Node). z.snapshot.index) x.twin.node in
        let commit : a.node.raft.commit ≡ s.commit = ap (λ (z : Node). z.commit) x.twin.node in
        let low : s.snapshot.index ≤ length s.log = (let f = p.front in omega (arith, f, snap_in, commit, long)) in
        let front : take t.snapshot.index t.log ≡ take s.snapshot.index s.log = ap (λ z. take z.index t.log) snap ∙ ap (take s.snapshot.index) log ∙ take-append-le s.snapshot.index s.log (with_term s.term es) low in
        let bytes_is : 0 < t.snapshot.index → SnapshotOf vs (take t.snapshot.index t.log) b.node.kept.snap.bytes = λ some. subst (λ k. SnapshotOf vs (take t.snapshot.index t.log) k.bytes) (sym p.snap) (subst (λ l. SnapshotOf vs l a.node.kept.snap.bytes) (sym front) (x.kept.bytes (subst (λ z. 0 < z.index) snap some))) in
        let due_log : with_due s.term s.log a.due ≡ with_due t.term t.log b.due = ap (with_due s.term s.log) p.due ∙ ap (λ l. with_due s.term l b.due) (sym log) ∙ ap (λ n. with_due n t.log b.due) (sym term) in
        let weaves : DueWeaves s.term s.log (es ∷ b.due) = subst (DueWeaves s.term s.log) p.due x.weaves in
        record {
          life = [];
          said = [];
          weaves = ((λ leads. weaves.0), tt);
          fits = tt;
          stands = record {
            twin = twin;
            raft = p.coherent;
            up = ap (λ (z : Node). z.up) r.1 ∙ x.up;
            log = x.log ∙ ap log_seen due_log;
            weaves = subst (λ n. DueWeaves n t.log b.due) (sym term) (subst (λ l. DueWeaves s.term l b.due) (sym log) weaves.1);
            applied = x.applied ∙ sym p.rest.applied;
            within = (let in_s = x.within in let at = p.rest.applied in omega (arith, in_s, at, rise));
            term = x.term ∙ sym term;
            leads = x.leads ∙ sym (ap (λ (z : Node). is_leader z.role) r.1);
            serving = x.serving ∙ sym p.rest.serving;
            machine = p.rest.machine;
            lacks = x.lacks;
            since = x.since;
            files = x.files ∙ ap (restarted x.lacks x.since) (sym p.rest.files);
            sessions = x.sessions ∙ ap (shifted x.lacks) (sym p.rest.sessions);
            kept = kept_stands vs b.node.kept b.node.raft t twin p.kept bytes_is;
          };
          says = sym (append-nil w.said);
          replies = refl;
          lends = refl;
          uses = refl;
          terms = λ f. tt;
          early = λ z. tt;
          joined = λ conn other. tt;
          handles = λ conn. subst (ArePartOf (b.node.waiting conn)) (p.rest.waiting conn ∙ sym (append-nil (a.node.waiting conn))) (part_self (b.node.waiting conn));
          completes = λ conn o other. record { all = p.rest.waiting conn ∙ sym (append-nil (a.node.waiting conn)); handled = refl };
        }
