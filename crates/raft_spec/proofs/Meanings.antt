-- What the rules of logs and of the commit index mean.
use Rattle.std.proofs.Common.{◌≡◌, ◌≢◌, inl, inr, ℕ, zero, suc, ◌+◌, ◌-◌, ◌<◌, ◌≤◌, true, List, [], ◌∷◌, ◌++◌, length, take, drop, refl, sym, ap, ◌∙◌, ⊎_elim, arith}
use Rattle.std.specs.Prelude.{◌==◌, nat_lt}
use Rattle.std.proofs.lemmas.Bool.{cond_both, cond-false, cases_lt, eqb-true, eqb-false, ne_eqb, ltb-true, ltb-false}
use Rattle.std.proofs.lemmas.List.{take-append-drop, length-take-le, length-drop, length-append}
use Rattle.std.proofs.Math.Seq.{take-length, take-append_seam, take-append-add}
use Rattle.raft_spec.specs.Log.{Entry, nth_term, term_at, merged, accept}
use Rattle.raft_spec.specs.Commitment.{is_stored_by_majority, commit_up_to}
use Rattle.raft_spec.specs.Laws.{AcceptTakes, CommitIsGreatest, IsGreatest}
use Rattle.raft_spec.proofs.NodeValues.{nth_past}
use Rattle.raft_spec.proofs.AcceptPlaces.{nth_dropped}

-- each new entry is there, by its term
merged_stand : (rest es : List Entry) (k : ℕ) → k < length es → nth_term (merged rest es) k ≡ nth_term es k
unfolding merged
merged_stand rest [] k l = absurd (omega arith)
merged_stand [] (e ∷ es) k l = refl
merged_stand (r ∷ rs) (e ∷ es) zero l = cond_both (r.term == e.term) (r ∷ merged rs es) (e ∷ es) (λ (x : List Entry). nth_term x 0 ≡ e.term) (λ t. eqb-true _ _ t) (λ f. refl)
merged_stand (r ∷ rs) (e ∷ es) (suc k) l = cond_both (r.term == e.term) (r ∷ merged rs es) (e ∷ es) (λ (x : List Entry). nth_term x (suc k) ≡ nth_term es k) (λ t. merged_stand rs es k (omega arith)) (λ f. refl)

-- without a conflict the rest stays
merged_keeps : (rest es : List Entry) → ((k : ℕ) → k < length es → k < length rest → nth_term rest k ≡ nth_term es k) → take (length rest) (merged rest es) ≡ rest
unfolding merged
merged_keeps rest [] h = take-length rest
merged_keeps [] (e ∷ es) h = refl
merged_keeps (r ∷ rs) (e ∷ es) h = cond_both (r.term == e.term) (r ∷ merged rs es) (e ∷ es) (λ (x : List Entry). take (suc (length rs)) x ≡ r ∷ rs)
    (λ t. ap (λ l. r ∷ l) (merged_keeps rs es (λ k a b. h (suc k) (omega arith) (omega arith))))
    (λ f. absurd (eqb-false _ _ f (h 0 (omega arith) (omega arith))))

-- with one, nothing follows the new entries
merged_ends : (rest es : List Entry) (k : ℕ) → k < length es → k < length rest → nth_term rest k ≢ nth_term es k → length (merged rest es) ≡ length es
unfolding merged
merged_ends rest [] k a b d = absurd (omega arith)
merged_ends [] (e ∷ es) k a b d = absurd (omega arith)
merged_ends (r ∷ rs) (e ∷ es) zero a b d = ap length (cond-false (r.term == e.term) (r ∷ merged rs es) (e ∷ es) (ne_eqb _ _ d))
merged_ends (r ∷ rs) (e ∷ es) (suc k) a b d = cond_both (r.term == e.term) (r ∷ merged rs es) (e ∷ es) (λ (x : List Entry). length x ≡ suc (length es)) (λ t. ap suc (merged_ends rs es k (omega arith) (omega arith) d)) (λ f. refl)

pub accept_takes_holds : AcceptTakes
unfolding accept term_at
accept_takes_holds log es prev le =
    let size : length (take prev log) ≡ prev = length-take-le prev log le in
    let rest : length (drop prev log) ≡ length log - prev = length-drop prev log in
    let all : length log ≡ length (take prev log) + length (drop prev log) = omega arith in
    let at : (k : ℕ) → prev + k ≡ length (take prev log) + k = λ k. omega arith in
    record {
      front = ap (λ k. take k (take prev log ++ merged (drop prev log) es)) (sym size) ∙ take-append_seam (take prev log) (merged (drop prev log) es);
      stand = λ k l. ap (nth_term (take prev log ++ merged (drop prev log) es)) (at k) ∙ nth_past (take prev log) (merged (drop prev log) es) k ∙ merged_stand (drop prev log) es k l;
      stays = λ h. ap (λ k. take k (take prev log ++ merged (drop prev log) es)) all ∙ take-append-add (take prev log) (merged (drop prev log) es) (length (drop prev log))
          ∙ ap (λ l. take prev log ++ l) (merged_keeps (drop prev log) es (λ k a b. nth_dropped prev log k ∙ h k a (omega arith))) ∙ take-append-drop prev log;
      ends = λ k a b d. length-append (take prev log) (merged (drop prev log) es) ∙ ap (λ n. n + length (merged (drop prev log) es)) size
          ∙ ap (λ n. prev + n) (merged_ends (drop prev log) es k a (omega arith) (λ z. d (sym (nth_dropped prev log k) ∙ z)));
    }

pub commit_is_greatest_holds : CommitIsGreatest
unfolding commit_up_to
commit_is_greatest_holds log term ids has commit zero = record { is = inl refl; greatest = λ k a b c. absurd (omega arith) }
commit_is_greatest_holds log term ids has commit (suc n) =
    let ih = commit_is_greatest_holds log term ids has commit n in
    let c = commit_up_to log term ids has commit n in
    let P : ℕ → Type 0 = λ m. IsGreatest log term ids has commit (suc n) m in
    cond_both (nat_lt commit (suc n)) _ _ P
    (λ t. cond_both (is_stored_by_majority log term ids has (suc n)) _ _ P
    (λ u. let lt : commit < suc n = ltb-true _ _ t in record { is = inr (lt, omega arith, u); greatest = λ k a b e. absurd (omega arith) })
    (λ u. record {
      is = ⊎_elim (λ (x : c ≡ commit). inl x) (λ (x : (commit < c) × (c ≤ n) × (is_stored_by_majority log term ids has c ≡ true)). inr (x.0, omega (arith, x.1), x.2)) ih.is;
      greatest = λ k a b e. ⊎_elim (λ (y : k < suc n). ih.greatest k a b (omega arith)) (λ (y : suc n ≤ k). let q : k ≡ suc n = omega arith in ap (is_stored_by_majority log term ids has) q ∙ u) (cases_lt k (suc n));
    }))
    (λ t. record { is = inl refl; greatest = λ k a b e. absurd (let ge = ltb-false _ _ t in omega arith) })
