-- A leader proposes other voters.
use Rattle.std.proofs.Common.{◌≡◌, ◌≢◌, ℕ, zero, suc, ◌-◌, ◌<◌, ◌≤◌, true, false, List, [], ◌∷◌, ◌++◌, length, take, drop, refl, sym, ap, ◌∙◌, subst, ⊎_elim, arith, length-append, true≢false}
use Rattle.std.specs.Prelude.{◌||◌, not}
use Rattle.std.proofs.lemmas.Bool.{cases_Bool, and_parts, or_cases, or_parts, eqb-true, not-true}
use Rattle.raft_spec.specs.Log.{Entry, term_at}
use Rattle.raft_spec.specs.Node.{Node}
use Rattle.raft_spec.specs.Outcomes.{with_term}
use Rattle.raft_safety.specs.Members.{changes, voters_read, may_propose, Setup, any_change, change_at, voters_after, may_change, nth_change, one_more, same_ids}
use Rattle.raft_safety.proofs.Logs.{Agree, agree_term, agree_down, term_at-zero}
use Rattle.raft_safety.proofs.Confs.{Near, equal, more, fewer, same_ids_is, conf_same, conf_whole, conf_new, agree_change, change_at-drop, change_at-within}
use Rattle.raft_safety.proofs.History.{Hist, Decided, ChangeOk, Committed, nothing, decided, HistOk, LeaderOk, NodeOk}
use Rattle.raft_safety.proofs.Growth.{Later, decided_later, decided_within}
use Rattle.raft_safety.proofs.Extends.{longer, longer_here, longer_grows}
use Rattle.raft_safety.proofs.Votes.{no_fresh}

near_of : (vs ws : List ℕ) → (same_ids vs ws || one_more vs ws || one_more ws vs) ≡ true → Near vs ws
near_of vs ws e =
    ⊎_elim (λ (x : (same_ids vs ws || one_more vs ws) ≡ true). ⊎_elim (λ (y : same_ids vs ws ≡ true). equal (same_ids_is vs ws y)) (λ (y : one_more vs ws ≡ true). more y) (or_cases _ _ x))
    (λ (x : one_more ws vs ≡ true). fewer x)
    (or_cases _ _ e)

any_at : (vs : Setup) (es : List Entry) (k : ℕ) → any_change vs es ≡ false → nth_change vs es k ≡ false
any_at vs [] k n = refl
any_at vs (e ∷ es) zero n = (or_parts _ _ n).0
any_at vs (e ∷ es) (suc k) n = any_at vs es k (or_parts _ _ n).1

-- a leader's commit index with an entry of its term is decided in its term
record Own (vs : Setup) (h : Hist) (u k : ℕ) : Type 0 where
  at : ℕ
  low : k ≤ at
  settled : Decided vs h u at

own : {vs : Setup} {h : Hist} (xs : List Entry) (u k : ℕ) → HistOk vs h → u ≢ 0 → term_at xs k ≡ u → Committed vs h xs u k → Own vs h u k
own xs u k ok nz e (nothing z) = absurd (nz (sym e ∙ ap (term_at xs) z ∙ term_at-zero xs))
own {vs} {h} xs u k ok nz e (decided t i b d le a) =
    let there = agree_term k (omega arith) a in
    let low = ok.below t k in
    let same : t ≡ u = omega arith in
    record { at = i; low = le; settled = subst (λ t. Decided vs h t i) same d }

fresh_change : {vs : Setup} {h : Hist} (n : ℕ) (s : Node) (entry : Entry) → HistOk vs h → LeaderOk h n s → NodeOk vs h n s → term_at s.log s.commit ≡ s.term → any_change vs (drop s.commit s.log) ≡ false → Near (voters_after vs s.log) (voters_read (vs.read entry.bytes)) → changes vs entry ≡ true → (j : ℕ) → length (h.log_of s.term) < j → change_at vs ((longer h s.term (entry ∷ [])).log_of s.term) j ≡ true → ChangeOk vs (longer h s.term (entry ∷ [])) s.term j
unfolding decided_later
fresh_change {vs} {h} n s entry ok l a e none near is_one j lt c =
    let u = s.term in
    let es = entry ∷ [] in
    let g = longer h u es in
    let later : Later h g = (longer_grows h n u es l.id l.who).later in
    let nz : u ≢ 0 = λ z. l.id (sym l.who ∙ ap h.who z ∙ ok.zero_term) in
    let o = own s.log u s.commit ok nz e a.commit in
    let log : g.log_of u ≡ h.log_of u ++ with_term u es = longer_here h u es in
    let within = change_at-within vs (g.log_of u) j c in
    let len = ap length log in
    let long = length-append (h.log_of u) (with_term u es) in
    let is : j ≡ suc (length (h.log_of u)) = omega arith in
    let mine = ap length l.log in
    let low = o.low in
    let in_log = decided_within vs o.settled in
    let end = o.settled.in_log in
    let quiet : (k : ℕ) → o.at < k → k ≤ length (h.log_of u) → change_at vs (h.log_of u) k ≡ false = λ k p q. ap (λ xs. change_at vs xs k) l.log ∙ sym (change_at-drop vs s.commit s.log k (omega arith)) ∙ any_at vs (drop s.commit s.log) (k - suc s.commit) none in
    let one : voters_after vs (take o.at (g.log_of u)) ≡ voters_after vs s.log =
    ap (voters_after vs) (sym (agree_here o.at in_log (later.logs u))) ∙ sym (conf_same vs (h.log_of u) o.at (length (h.log_of u)) in_log quiet) ∙ conf_whole vs (h.log_of u) (length (h.log_of u)) (omega arith) ∙ ap (voters_after vs) l.log in
    let two : voters_after vs (take j (g.log_of u)) ≡ voters_read (vs.read entry.bytes) = conf_whole vs (g.log_of u) j (omega arith) ∙ ap (voters_after vs) log ∙ conf_new vs (h.log_of u) (record { term = u; kind = entry.kind; bytes = entry.bytes }) is_one in
    record {
      at = o.at;
      settled = decided_later vs later o.settled;
      early = omega arith;
      prior = λ k p q. sym (agree_change vs k (omega arith) (later.logs u)) ∙ quiet k p (omega arith);
      near = subst (λ v. Near v (voters_after vs (take j (g.log_of u)))) (sym one) (subst (Near (voters_after vs s.log)) (sym two) near);
    }
  where
    agree_here : {xs ys : List Entry} (i : ℕ) → i ≤ length xs → Agree (length xs) xs ys → take i xs ≡ take i ys
    agree_here i le b = (agree_down i le b).same

-- what may be proposed is fit to be in the leader's log
pub fresh_fine : {vs : Setup} {h : Hist} (n : ℕ) (s : Node) (es : List Entry) → HistOk vs h → LeaderOk h n s → NodeOk vs h n s → may_propose vs s es ≡ true → (j : ℕ) → length (h.log_of s.term) < j → change_at vs ((longer h s.term es).log_of s.term) j ≡ true → ChangeOk vs (longer h s.term es) s.term j
unfolding may_change
fresh_fine {vs} {h} n s [] ok l a m = no_fresh h s.term [] refl
fresh_fine {vs} {h} n s (e ∷ []) ok l a m =
    ⊎_elim
    (λ (x : changes vs e ≡ true).
    ⊎_elim (λ (y : not (changes vs e) ≡ true). absurd (true≢false (sym x ∙ not-true _ y)))
    (λ (y : may_change vs s e ≡ true).
    let p = and_parts _ _ y in
    let q = and_parts _ _ p.0 in
    fresh_change n s e ok l a (eqb-true _ _ q.0) (not-true _ q.1) (near_of _ _ p.1) x)
    (or_cases _ _ m))
    (λ (x : changes vs e ≡ false). no_fresh h s.term (e ∷ []) (ap (λ b. b || false) x))
    (cases_Bool (changes vs e))
fresh_fine {vs} {h} n s (e ∷ f ∷ es) ok l a m = no_fresh h s.term (e ∷ f ∷ es) (not-true _ m)
