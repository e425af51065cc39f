-- The history with an election more.
use Rattle.std.proofs.Common.{◌≡◌, ◌≢◌, inl, inr, ℕ, suc, ◌<◌, ◌≤◌, Bool, true, List, length, refl, sym, ap, ◌∙◌, subst, ⊎_elim, arith}
use Rattle.std.proofs.lemmas.Bool.{cases_eq}
use Rattle.raft_spec.specs.Log.{Entry, term_at}
use Rattle.raft_spec.specs.Node.{majority}
use Rattle.raft_safety.specs.Members.{Setup, change_at, voters_after}
use Rattle.raft_safety.proofs.Logs.{Agree, agree_refl, term_at-zero}
use Rattle.raft_safety.proofs.Confs.{change_at-within}
use Rattle.raft_safety.proofs.History.{Hist, elected, Sound, Kept, holds, betrayed, HistOk}
use Rattle.raft_safety.proofs.Growth.{Later, Grows, ne_along, sound_later, term_later, kept_later, elected_later}
use Rattle.raft_safety.proofs.Others.{had_sound_later, weak_later, strict_later, front_later, older_later, won_ballot_later, own_later, changes_later}
use Rattle.raft_safety.proofs.Extends.{set1, set1_here, set1_else}

unfoldable pub elect : Hist → ℕ → ℕ → (ℕ → Bool) → List Entry → Hist
elect h n u test xs = record { ballot = h.ballot; had = h.had; who = set1 h.who u n; won = set1 h.won u test; log_of = set1 h.log_of u xs; acked = h.acked }

-- what an election wants
pub record ElectOk (vs : Setup) (h : Hist) (n u : ℕ) (test : ℕ → Bool) (xs : List Entry) : Type 0 where
  pub free : h.who u ≡ 0
  pub id : n ≢ 0
  pub self : h.ballot n u ≡ n
  pub had : h.had n u ≡ xs
  pub older : (i : ℕ) → term_at xs i < u
  pub quorum : majority (voters_after vs xs) test ≡ true
  pub counts : (k : ℕ) → test k ≡ true → h.ballot k u ≡ n

pub elect_who : (h : Hist) (n u : ℕ) (test : ℕ → Bool) (xs : List Entry) → (elect h n u test xs).who u ≡ n
unfolding elect
elect_who h n u test xs = set1_here h.who u n

pub elect_log : (h : Hist) (n u : ℕ) (test : ℕ → Bool) (xs : List Entry) → (elect h n u test xs).log_of u ≡ xs
unfolding elect
elect_log h n u test xs = set1_here h.log_of u xs

apart : (h : Hist) (u w : ℕ) → h.who u ≡ 0 → h.who w ≢ 0 → w ≢ u
apart h u w z nz e = nz (ap h.who e ∙ z)

elect_logs : (vs : Setup) (h : Hist) (u w : ℕ) (xs : List Entry) → HistOk vs h → h.who u ≡ 0 → Agree (length (h.log_of w)) (h.log_of w) (set1 h.log_of u xs w)
elect_logs vs h u w xs ok z =
    ⊎_elim
    (λ (e : w ≡ u).
    let nil = ap h.log_of e ∙ ok.none u z in
    subst (λ ys. Agree (length ys) ys (set1 h.log_of u xs w)) (sym nil) (record { in_left = omega arith; in_right = omega arith; same = refl }))
    (λ (e : w ≢ u). subst (λ ys. Agree (length (h.log_of w)) (h.log_of w) ys) (sym (set1_else h.log_of u xs w e)) (agree_refl _ _ (omega arith)))
    (cases_eq w u)

pub elect_grows : (vs : Setup) (h : Hist) (n u : ℕ) (test : ℕ → Bool) (xs : List Entry) → HistOk vs h → ElectOk vs h n u test xs → Grows n h (elect h n u test xs)
unfolding elect
elect_grows vs h n u test xs ok a = record {
  later = record {
    ballot = λ k w e. refl;
    had = λ k w e. refl;
    who = λ w e. set1_else h.who u n w (apart h u w a.free e);
    won = λ w k e. ap (λ f. f k) (set1_else h.won u test w (apart h u w a.free e));
    logs = λ w. elect_logs vs h u w xs ok a.free;
    acks = λ k w. omega arith;
  };
  ballots = λ k w e. refl;
  leader = λ w. ⊎_elim (λ (e : w ≡ u). inr (ap (set1 h.who u n) e ∙ set1_here h.who u n)) (λ (e : w ≢ u). inl (set1_else h.who u n w e)) (cases_eq w u);
  led = λ w. ⊎_elim (λ (e : w ≡ u). inr (a.id, ap (set1 h.who u n) e ∙ set1_here h.who u n)) (λ (e : w ≢ u). inl (set1_else h.log_of u xs w e)) (cases_eq w u);
  acked = λ k w e. refl;
}

-- no leader of u yet: what is kept through u was kept before
tighter : {h : Hist} {t i u : ℕ} (xs : List Entry) → h.who u ≡ 0 → Kept h t i xs (suc u) → Kept h t i xs u
tighter xs z (holds x) = holds x
tighter {h} {t} {i} {u} xs z (betrayed b) =
    let ne : b.voters_of ≢ u = λ e. b.leads (ap h.who e ∙ z) in
    let lt = b.before in
    betrayed (record { voters_of = b.voters_of; after = b.after; before = omega arith; leads = b.leads; lacks = b.lacks })

pub elect_ok : (vs : Setup) (h : Hist) (n u : ℕ) (test : ℕ → Bool) (xs : List Entry) → HistOk vs h → ElectOk vs h n u test xs → HistOk vs (elect h n u test xs)
unfolding elect
elect_ok vs h n u test xs ok a =
    let g = elect h n u test xs in
    let l : Later h g = (elect_grows vs h n u test xs ok a).later in
    let who = set1_here h.who u n in
    let log = set1_here h.log_of u xs in
    let won = set1_here h.won u test in
    let some : h.ballot n u ≢ 0 = ne_along _ _ a.self a.id in
    let was : elected g u ≡ xs = ap (λ k. h.had k u) who ∙ a.had in
    record {
      zero_term = set1_else h.who u n 0 (λ e. let b = a.older 0 in let c = term_at-zero xs in omega arith) ∙ ok.zero_term;
      none = λ w z. ⊎_elim (λ (e : w ≡ u). absurd (a.id (sym who ∙ ap (set1 h.who u n) (sym e) ∙ z)))
          (λ (e : w ≢ u). set1_else h.log_of u xs w e ∙ ok.none w (sym (set1_else h.who u n w e) ∙ z))
          (cases_eq w u);
      sound = λ w. ⊎_elim
          (λ (e : w ≡ u). subst (Sound g) (sym (ap g.log_of e ∙ log)) (sound_later l (subst (Sound h) a.had (ok.had_sound n u some))))
          (λ (e : w ≢ u). subst (Sound g) (sym (set1_else h.log_of u xs w e)) (sound_later l (ok.sound w)))
          (cases_eq w u);
      below = λ w i. ⊎_elim
          (λ (e : w ≡ u). subst (λ w. term_at (g.log_of w) i ≤ w) (sym e) (subst (λ ys. term_at ys i ≤ u) (sym log) (let b = a.older i in omega arith)))
          (λ (e : w ≢ u). subst (λ ys. term_at ys i ≤ w) (sym (set1_else h.log_of u xs w e)) (ok.below w i))
          (cases_eq w u);
      front = λ w nz. ⊎_elim
          (λ (e : w ≡ u). subst (λ w. Agree (length (elected g w)) (elected g w) (g.log_of w)) (sym e) (subst (λ ys. Agree (length (elected g u)) (elected g u) ys) (was ∙ sym log) (agree_refl _ _ (omega arith))))
          (λ (e : w ≢ u). front_later vs w ok l (old w e nz))
          (cases_eq w u);
      older = λ w i nz. ⊎_elim
          (λ (e : w ≡ u). subst (λ w. term_at (elected g w) i < w) (sym e) (subst (λ ys. term_at ys i < u) (sym was) (a.older i)))
          (λ (e : w ≢ u). older_later vs w i ok l (old w e nz))
          (cases_eq w u);
      quorum = λ w nz. ⊎_elim
          (λ (e : w ≡ u). subst (λ w. majority (voters_after vs (elected g w)) (g.won w) ≡ true) (sym e) (ap (majority (voters_after vs (elected g u))) won ∙ ap (λ xs. majority (voters_after vs xs) test) was ∙ a.quorum))
          (λ (e : w ≢ u). ap (majority (voters_after vs (elected g w))) (set1_else h.won u test w e) ∙ ap (λ xs. majority (voters_after vs xs) (h.won w)) (elected_later vs w ok l (old w e nz)) ∙ ok.quorum w (old w e nz))
          (cases_eq w u);
      changes = λ w j nz lt c. ⊎_elim
          (λ (e : w ≡ u).
          let log' = ap g.log_of e ∙ log in
          let elect' : elected g w ≡ xs = ap (elected g) e ∙ was in
          let within = change_at-within vs xs j (ap (λ ys. change_at vs ys j) (sym log') ∙ c) in
          let far : length xs < j = subst (λ ys. length ys < j) elect' lt in
          absurd (omega arith))
          (λ (e : w ≢ u).
          let same = set1_else h.log_of u xs w e in
          changes_later vs w j ok l (old w e nz) lt (change_at-within vs (h.log_of w) j (ap (λ ys. change_at vs ys j) (sym same) ∙ c)) c)
          (cases_eq w u);
      won_ballot = λ w k nz win. ⊎_elim
          (λ (e : w ≡ u). ap (h.ballot k) e ∙ a.counts k (sym (ap (λ f. f k) (ap g.won e ∙ won)) ∙ win) ∙ sym (ap g.who e ∙ who))
          (λ (e : w ≢ u). won_ballot_later vs w k ok l (old w e nz) win)
          (cases_eq w u);
      own = λ w nz. ⊎_elim
          (λ (e : w ≡ u). subst (λ w. g.ballot (g.who w) w ≡ g.who w) (sym e) (ap (λ k. h.ballot k u) who ∙ a.self ∙ sym who))
          (λ (e : w ≢ u). own_later vs w ok l (old w e nz))
          (cases_eq w u);
      stood = ok.stood;
      newer = ok.newer;
      had_sound = λ k w e. had_sound_later vs k w ok l e;
      acks_within = λ k w. let b = ok.acks_within k w in let c = (l.logs w).in_right in omega arith;
      weak = λ k w v i e b nz le x. weak_later vs k w v i ok l e b nz le x;
      strict = λ k w v i nz win b vz le x. ⊎_elim
          (λ (e : w ≡ u).
          let mine : h.ballot k u ≡ n = a.counts k (sym (ap (λ f. f k) (ap g.won e ∙ won)) ∙ win) in
          let in_log = ok.acks_within k v in
          let low : i ≤ length (h.log_of v) = omega arith in
          let lt : v < u = omega arith in
          let before = ok.weak k u v i (ne_along _ _ mine a.id) lt vz le (sym (term_later v i l low) ∙ x) in
          subst (λ w. Kept g v i (h.had k w) w) (sym e) (kept_later vs ok l (tighter (h.had k u) a.free before)))
          (λ (e : w ≢ u). strict_later vs k w v i ok l (old w e nz) win b vz le x)
          (cases_eq w u);
    }
  where
    old : (w : ℕ) → w ≢ u → set1 h.who u n w ≢ 0 → h.who w ≢ 0
    old w e nz = ne_along _ _ (sym (set1_else h.who u n w e)) nz
