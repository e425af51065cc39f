-- The term at a leader's commit index.
use Rattle.std.proofs.Common.{◌≡◌, ◌⊎◌, inl, inr, ⊎_elim, ℕ, ◌+◌, ◌<◌, ◌≤◌, true, List, [], ◌∷◌, ◌++◌, length, drop, refl, sym, ap, ◌∙◌, subst, arith, length-append, length-drop}
use Rattle.std.proofs.lemmas.Bool.{and_parts, eqb-true}
use Rattle.std.proofs.lemmas.List.{drop_at, length-replicate}
use Rattle.raft_spec.specs.Log.{Entry, term_at}
use Rattle.raft_spec.specs.Node.{Node, Input, Outcome, is_leader, voters}
use Rattle.raft_spec.specs.NodeValues.{node_of}
use Rattle.raft_spec.specs.Commitment.{is_stored_by_majority, majority_stores}
use Rattle.raft_spec.specs.Compaction.{compacted, compact, compacted_step}
use Rattle.raft_spec.specs.Outcomes.{barrier, with_term}
use Rattle.raft_spec.specs.Steps.{raft_step}
use Rattle.raft_safety.specs.Commits.{Exact}
use Rattle.raft_safety.specs.Cuts.{Same}
use Rattle.raft_safety.specs.Members.{fixed}
use Rattle.raft_safety.specs.Sources.{Adds, nothing_new, a_barrier, proposed}
use Rattle.raft_safety.proofs.Alikes.{same_term}
use Rattle.raft_safety.proofs.CommitSteps.{leader_commit_holds}
use Rattle.raft_safety.proofs.Logs.{term_at-append}
use Rattle.raft_safety.proofs.Origins.{leaders_add_hold}
use Rattle.node_spec.specs.Voting.{LeadersOwn}
use Rattle.node_spec.proofs.VoterSteps.{as_fixed}

-- what a node has compacted leaves the terms past the cut
compact_term : (t : Node) (k : ℕ) → t.base ≤ length t.log → t.base < k → term_at (compact t).log k ≡ term_at t.log k
unfolding term_at
compact_term t k low past =
    let gone = compacted t.snapshot t.base in
    let n : length gone ≡ t.base = length-replicate t.base _ in
    let rest = length-drop t.base t.log in
    let sum = length-append gone (drop t.base t.log) in
    let same : Same t.base 0 (gone ++ drop t.base t.log) t.log = record { len = sum ∙ (omega (arith, n, rest, low)); rest = drop_at gone (drop t.base t.log) t.base n; snapshot = refl } in
    same_term {b = t.base} {i = 0} {xs = gone ++ drop t.base t.log} {ys = t.log} k past same

-- a leader's step leaves the entries that it had
record Extends (s d : Node) : Type 0 where
  longer : length s.log ≤ length d.log
  terms : (k : ℕ) → k ≤ length s.log → term_at d.log k ≡ term_at s.log k

extends_by : (s d : Node) (more : List Entry) → d.log ≡ s.log ++ more → Extends s d
extends_by s d more e =
    let size : length d.log ≡ length s.log + length more = ap length e ∙ length-append s.log more in
    record { longer = omega (arith, size); terms = λ k low. ap (λ l. term_at l k) e ∙ term_at-append s.log more k low }

extends : (s : Node) (i : Input) (d : Node) → Adds s i d → Extends s d
extends s i d (nothing_new e) = record { longer = (let size : length d.log ≡ length s.log = ap length e in omega (arith, size)); terms = λ k low. ap (λ l. term_at l k) e }
extends s i d (a_barrier e) = extends_by s d (barrier d.term ∷ []) e
extends s i d (proposed new is leads term e) = extends_by s d (with_term d.term new) e

-- the commit index stays, or moves to an entry of the leader's term
commit_or_own : (me : ℕ) (v : Node) (i : Input) → is_leader (raft_step (λ log. voters v.servers) me v i).node.role ≡ true →
    let t = (raft_step (λ log. voters v.servers) me v i).node in (t.commit ≡ v.commit) ⊎ ((t.commit ≤ length t.log) × (term_at t.log t.commit ≡ t.term))
unfolding majority_stores is_stored_by_majority
commit_or_own me v i leads =
    ⊎_elim (λ (e : Exact (λ log. voters v.servers) me v.commit (raft_step (λ log. voters v.servers) me v i).node). ⊎_elim (λ same. inl same) (λ x. inr (x.1, eqb-true _ _ (and_parts _ _ x.2).0)) e.is)
    (λ x. inl x.1)
    (leader_commit_holds (λ log. voters v.servers) me v i leads)

pub leaders_own : LeadersOwn
unfolding compacted_step
leaders_own me a b i made co leads term past before =
    let v = node_of a in
    let t = (raft_step (λ log. voters v.servers) me v i).node in
    let role : is_leader t.role ≡ true = sym (ap (λ (z : Node). is_leader z.role) made) ∙ leads in
    let commit : b.commit ≡ t.commit = ap (λ (z : Node). z.commit) made in
    let base : b.base ≡ t.base = ap (λ (z : Node). z.base) made in
    let own_term : b.term ≡ t.term = ap (λ (z : Node). z.term) made in
    let log : (node_of b).log ≡ (compact t).log = ap (λ (z : Node). z.log) made in
    let past_t : t.base < t.commit = omega (arith, past, commit, base) in
    let within : a.commit ≤ a.base + length a.entries = co.within in
    let applied : a.snapshot.index ≤ a.commit = co.applied in
    let size : length v.log ≡ a.base + length a.entries = length-append (compacted a.snapshot a.base) a.entries ∙ ap (λ n. n + length a.entries) (length-replicate a.base _) in
    let low : a.snapshot.index ≤ length v.log = omega (arith, within, applied, size) in
    let adds : Adds v i t = subst (λ (d : Outcome). Adds v i d.node) (as_fixed me v i) (leaders_add_hold (fixed v.servers) me v i low (ap (λ (d : Outcome). is_leader d.node.role) (as_fixed me v i) ∙ role)) in
    let more = extends v i t adds in
    let here : term_at (node_of b).log b.commit ≡ term_at (compact t).log t.commit = (λ k. term_at (log k) (commit k)) in
    ⊎_elim
    (λ (same : t.commit ≡ a.commit).
    let long = more.longer in
    let high : a.commit ≤ length v.log = omega (arith, within, size) in
    let cut : t.base ≤ length t.log = omega (arith, past_t, same, high, long) in
    here ∙ compact_term t t.commit cut past_t ∙ ap (term_at t.log) same ∙ more.terms a.commit high ∙ before (commit ∙ same) ∙ sym term)
    (λ (x : (t.commit ≤ length t.log) × (term_at t.log t.commit ≡ t.term)).
    let within_t = x.0 in
    let cut : t.base ≤ length t.log = omega (arith, past_t, within_t) in
    here ∙ compact_term t t.commit cut past_t ∙ x.1 ∙ sym own_term)
    (commit_or_own me v i role)
