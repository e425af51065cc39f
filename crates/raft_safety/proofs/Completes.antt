-- A log with which one is elected has all that was decided in earlier terms, while the voters change.
use Rattle.std.proofs.Common.{◌≡◌, ◌≢◌, ◌⊎◌, inl, inr, ℕ, zero, suc, ◌<◌, ◌≤◌, Bool, true, List, length, take, sym, ap, ◌∙◌, subst, ⊎_elim, arith}
use Rattle.std.specs.Prelude.{nat_le}
use Rattle.std.proofs.lemmas.Bool.{cases_lt, leb-true}
use Rattle.raft_spec.specs.Log.{Entry, is_up_to_date, log_end, term_at}
use Rattle.raft_spec.specs.Node.{majority}
use Rattle.raft_safety.specs.Members.{Setup, change_at, voters_after}
use Rattle.raft_safety.proofs.Logs.{Agree, agree_term, term_at-past, term_at-nil}
use Rattle.raft_safety.proofs.Confs.{Near, equal, near_meet, find_change, conf_same, conf_whole}
use Rattle.raft_safety.proofs.History.{Hist, elected, Sound, Kept, holds, betrayed, Decided, HistOk}
use Rattle.raft_safety.proofs.Growth.{ne_along}
use Rattle.raft_safety.proofs.Complete.{Complete, sorted, past_front, ends, ended}
use Rattle.raft_safety.proofs.Nears.{near_logs}

-- a voter's log at its ballot for a log xs in the term u
pub record VoterOk (h : Hist) (u bound x : ℕ) (xs : List Entry) : Type 0 where
  pub new : is_up_to_date (log_end xs) (log_end (h.had x u)) ≡ true
  pub sound : Sound h (h.had x u)
  pub kept : (t i : ℕ) → t < u → t ≢ 0 → i ≤ h.acked x t → term_at (h.log_of t) i ≡ t → Kept h t i (h.had x u) bound

-- a decision by the voters of the log with which its leader was elected
record Early (vs : Setup) (h : Hist) (t : ℕ) : Type 0 where
  at : ℕ
  settled : Decided vs h t at
  voters : voters_after vs (take settled.upto (h.log_of t)) ≡ voters_after vs (elected h t)

early : (vs : Setup) (h : Hist) (t : ℕ) → HistOk vs h → h.who t ≢ 0 → (k i : ℕ) → (d : Decided vs h t i) → d.upto < k → Early vs h t
early vs h t ok leads zero i d low = absurd (omega arith)
early vs h t ok leads (suc k) i d low =
    let x = find_change vs (h.log_of t) d.upto in
    let front = ok.front t leads in
    let past = past_front vs t i ok leads d.entry in
    let cov = d.covers in
    let within = x.within in
    ⊎_elim
    (λ (l : length (elected h t) < x.at).
    let is : change_at vs (h.log_of t) x.at ≡ true = ⊎_elim (λ (z : x.at ≡ 0). absurd (omega arith)) (λ (z : change_at vs (h.log_of t) x.at ≡ true). z) x.is in
    let c = ok.changes t x.at leads l is in
    let e = c.early in
    early vs h t ok leads k c.at c.settled (omega arith))
    (λ (l : x.at ≤ length (elected h t)). record {
      at = i;
      settled = d;
      voters = conf_same vs (h.log_of t) (length (elected h t)) d.upto (omega arith) (λ k a b. x.quiet k (omega arith) b) ∙ ap (voters_after vs) (sym front.same) ∙ conf_whole vs (elected h t) (length (elected h t)) (omega arith);
    })
    (cases_lt (length (elected h t)) x.at)

module _ (vs : Setup) (h : Hist) (ok : HistOk vs h) (u bound : ℕ) (xs : List Entry) (test : ℕ → Bool) (sound : Sound h xs) (older : (i : ℕ) → term_at xs i < u) (reach : u ≤ bound) (quorum : majority (voters_after vs xs) test ≡ true) (voter : (x : ℕ) → test x ≡ true → VoterOk h u bound x xs) (before : (v t i : ℕ) → v < bound → t < v → Decided vs h t i → h.who v ≢ 0 → term_at (elected h v) i ≡ t) where
  last : ℕ
  last = term_at xs (length xs)

  -- voters next to each other share one who acked and voted
  reaches : (t i : ℕ) → t < u → (d : Decided vs h t i) → Near (voters_after vs xs) (voters_after vs (take d.upto (h.log_of t))) → (t < term_at xs (length xs)) ⊎ ((term_at xs (length xs) ≡ t) × (i ≤ length xs))
  reaches t i lt d near =
      let m = near_meet (voters_after vs xs) (voters_after vs (take d.upto (h.log_of t))) test (λ n. nat_le i (h.acked n t)) near quorum d.quorum in
      let v = voter m.0 m.1 in
      by_kept m.0 v (v.kept t i lt d.term (leb-true _ _ m.2) d.entry)
    where
      by_kept : (x : ℕ) → VoterOk h u bound x xs → Kept h t i (h.had x u) bound → (t < term_at xs (length xs)) ⊎ ((term_at xs (length xs) ≡ t) × (i ≤ length xs))
      by_kept x v (holds e) = ends vs xs (h.had x u) t i ok v.sound v.new d.term e
      by_kept x v (betrayed b) = absurd (b.lacks (before b.voters_of t i b.before b.after d b.leads))

  -- the log doesn't end in a term before t
  not_before : (t i : ℕ) → t < u → Complete vs h xs t → Decided vs h t i → h.who t ≢ 0 → t ≤ term_at xs (length xs)
  not_before t i lt c d leads =
      ⊎_elim
      (λ (low : term_at xs (length xs) < t).
      let e = early vs h t ok leads (suc d.upto) i d (omega arith) in
      let own : h.ballot (h.who t) t ≢ 0 = ne_along _ _ (ok.own t leads) leads in
      let ce : Complete vs h (elected h t) t = record { at = λ w j l b. before t w j (omega arith) l b leads } in
      let near = near_logs t ok sound (ok.had_sound (h.who t) t own) c ce (under t low) (λ j. ok.older t j leads) in
      ⊎_elim (λ (y : t < term_at xs (length xs)). absurd (omega arith)) (λ (y : (term_at xs (length xs) ≡ t) × (e.at ≤ length xs)). absurd (let z = y.0 in omega arith))
      (reaches t e.at lt e.settled (subst (Near (voters_after vs xs)) (sym e.voters) near)))
      (λ (up : t ≤ term_at xs (length xs)). up)
      (cases_lt (term_at xs (length xs)) t)
    where
      under : (t : ℕ) → term_at xs (length xs) < t → (j : ℕ) → term_at xs j < t
      under t low j = ⊎_elim (λ (a : length xs < j). let z = term_at-past xs j a in omega arith) (λ (a : j ≤ length xs). let z = sorted vs j (length xs) ok sound a (omega arith) in omega arith) (cases_lt (length xs) j)

  -- if the log ends in the term t it has the place
  same_term : (t : ℕ) → t < u → h.who t ≢ 0 → term_at xs (length xs) ≡ t → (k i : ℕ) → (d : Decided vs h t i) → d.upto < k → i ≤ length xs
  same_term t lt leads is zero i d low = absurd (omega arith)
  same_term t lt leads is (suc k) i d low =
      let log = h.log_of t in
      let x = find_change vs log d.upto in
      let a : Agree (length xs) xs log = subst (λ t. Agree (length xs) xs (h.log_of t)) is (sound.at (length xs) (omega arith)) in
      let own : voters_after vs xs ≡ voters_after vs (take (length xs) log) = sym (conf_whole vs xs (length xs) (omega arith)) ∙ ap (voters_after vs) a.same in
      let past = past_front vs t (length xs) ok leads (sym (agree_term (length xs) (omega arith) a) ∙ is) in
      let cov = d.covers in
      let within = x.within in
      ⊎_elim
      (λ (short : length xs < i).
      ⊎_elim
      (λ (l : length xs < x.at).
      let there : change_at vs log x.at ≡ true = ⊎_elim (λ (z : x.at ≡ 0). absurd (omega arith)) (λ (z : change_at vs log x.at ≡ true). z) x.is in
      let c = ok.changes t x.at leads (omega arith) there in
      let e = c.early in
      let had = same_term t lt leads is k c.at c.settled (omega arith) in
      let one : voters_after vs xs ≡ voters_after vs (take c.at log) = own ∙ conf_same vs log c.at (length xs) had (λ k p q. c.prior k p (omega arith)) in
      let two : voters_after vs (take d.upto log) ≡ voters_after vs (take x.at log) = conf_same vs log x.at d.upto x.within x.quiet in
      done i (reaches t i lt d (subst (λ v. Near v (voters_after vs (take d.upto log))) (sym one) (subst (Near (voters_after vs (take c.at log))) (sym two) c.near))))
      (λ (l : x.at ≤ length xs).
      let two : voters_after vs (take d.upto log) ≡ voters_after vs (take (length xs) log) = conf_same vs log (length xs) d.upto (omega arith) (λ k p q. x.quiet k (omega arith) q) in
      done i (reaches t i lt d (equal (own ∙ sym two))))
      (cases_lt (length xs) x.at))
      (λ (long : i ≤ length xs). long)
      (cases_lt (length xs) i)
    where
      done : (i : ℕ) → (t < term_at xs (length xs)) ⊎ ((term_at xs (length xs) ≡ t) × (i ≤ length xs)) → i ≤ length xs
      done i y = ⊎_elim (λ (z : t < term_at xs (length xs)). absurd (omega arith)) (λ (z : (term_at xs (length xs) ≡ t) × (i ≤ length xs)). z.1) y

  complete_to : (k t i : ℕ) → t < k → t < u → Decided vs h t i → term_at xs i ≡ t
  complete_to zero t i low lt d = absurd (omega arith)
  complete_to (suc k) t i low lt d =
      let leads : h.who t ≢ 0 = λ z. d.term (sym d.entry ∙ ap (λ ys. term_at ys i) (ok.none t z) ∙ term_at-nil i) in
      let c : Complete vs h xs t = record { at = λ w j l b. complete_to k w j (omega arith) (omega arith) b } in
      let up = not_before t i lt c d leads in
      let under = older (length xs) in
      ended vs xs t i ok sound d.term d.entry (λ l e. before (term_at xs (length xs)) t i (omega arith) l d e)
      (⊎_elim (λ (l : t < term_at xs (length xs)). inl l)
      (λ (l : term_at xs (length xs) ≤ t). let is : term_at xs (length xs) ≡ t = omega arith in inr (is, same_term t lt leads is (suc d.upto) i d (omega arith)))
      (cases_lt t (term_at xs (length xs))))

  pub complete_log : Complete vs h xs u
  complete_log = record { at = λ t i lt d. complete_to (suc t) t i (omega arith) lt d }

complete_below : (vs : Setup) (h : Hist) → HistOk vs h → (k u t i : ℕ) → u < k → t < u → Decided vs h t i → h.who u ≢ 0 → term_at (elected h u) i ≡ t
complete_below vs h ok zero u t i low after d leads = absurd (omega arith)
complete_below vs h ok (suc k) u t i low after d leads =
    let own : h.ballot (h.who u) u ≢ 0 = ne_along _ _ (ok.own u leads) leads in
    (complete_log vs h ok u u (elected h u) (h.won u) (ok.had_sound (h.who u) u own) (λ j. ok.older u j leads) (omega arith) (ok.quorum u leads)
    (λ x w.
    let voted = ok.won_ballot u x leads w in
    let some : h.ballot x u ≢ 0 = ne_along _ _ voted leads in record {
      new = subst (λ c. is_up_to_date (log_end (h.had c u)) (log_end (h.had x u)) ≡ true) voted (ok.newer x u some);
      sound = ok.had_sound x u some;
      kept = λ s j lt nz le e. ok.strict x u s j leads w lt nz le e;
    })
    (λ v s j lt l b e. complete_below vs h ok k v s j (omega arith) l b e)).at t i after d

pub complete : (vs : Setup) (h : Hist) (t i u : ℕ) → HistOk vs h → Decided vs h t i → t < u → h.who u ≢ 0 → term_at (elected h u) i ≡ t
complete vs h t i u ok d after leads = complete_below vs h ok (suc u) u t i (omega arith) after d leads

-- a candidate with a majority is the first leader of its term
pub first_leader : (vs : Setup) (h : Hist) (n u : ℕ) (xs : List Entry) (test : ℕ → Bool) → HistOk vs h → n ≢ 0 → h.had n u ≡ xs → Sound h xs → ((i : ℕ) → term_at xs i < u) → ((k : ℕ) → test k ≡ true → h.ballot k u ≡ n) → majority (voters_after vs xs) test ≡ true → h.who u ≢ 0 → h.who u ≡ n
first_leader vs h n u xs test ok id had sound older counts quorum leads =
    let own : h.ballot (h.who u) u ≢ 0 = ne_along _ _ (ok.own u leads) leads in
    let mine = complete_log vs h ok u (suc u) xs test sound older (omega arith) quorum
    (λ x w.
    let voted = counts x w in
    let some : h.ballot x u ≢ 0 = ne_along _ _ voted id in record {
      new = subst (λ ys. is_up_to_date (log_end ys) (log_end (h.had x u)) ≡ true) had (subst (λ c. is_up_to_date (log_end (h.had c u)) (log_end (h.had x u)) ≡ true) voted (ok.newer x u some));
      sound = ok.had_sound x u some;
      kept = λ s j lt nz le e. ok.weak x u s j some lt nz le e;
    })
    (λ v s j lt l b e. complete vs h s j v ok b l e) in
    let his : Complete vs h (elected h u) u = record { at = λ t i lt d. complete vs h t i u ok d lt leads } in
    let near = near_logs u ok sound (ok.had_sound (h.who u) u own) mine his older (λ j. ok.older u j leads) in
    let m = near_meet (voters_after vs xs) (voters_after vs (elected h u)) test (h.won u) near quorum (ok.quorum u leads) in
    sym (ok.won_ballot u m.0 leads m.2) ∙ counts m.0 m.1
