-- The history with an ack more, or with a longer log of a leader.
use Rattle.std.proofs.Common.{◌≡◌, ◌≢◌, ◌⊎◌, inl, inr, ℕ, ◌<◌, ◌≤◌, true, cond, List, ◌++◌, length, refl, sym, ap, ◌∙◌, subst, ⊎_elim, arith}
use Rattle.std.specs.Prelude.{◌==◌}
use Rattle.std.proofs.lemmas.Bool.{cases_eq, cases_lt, eq-eqb, ne_eqb, cond-true, cond-false}
use Rattle.raft_spec.specs.Log.{Entry, term_at}
use Rattle.raft_spec.specs.Outcomes.{with_term}
use Rattle.raft_safety.specs.Members.{Setup, change_at}
use Rattle.raft_safety.proofs.Logs.{Agree, agree_trans, agree_sym, agree_refl, agree_append, term_at-append, term_at-new, term_at-past}
use Rattle.raft_safety.proofs.Confs.{change_at-within}
use Rattle.raft_safety.proofs.History.{Hist, Sound, ChangeOk, HistOk}
use Rattle.raft_safety.proofs.Growth.{Later, Grows, ne_along, sound_later}
use Rattle.raft_safety.proofs.Others.{had_sound_later, weak_later, strict_later, front_later, changes_later}
use Rattle.raft_safety.proofs.Casts.{set2, set2_here, set2_node, set2_term, Place, here, node, term, place}

unfoldable pub acked_to : Hist → ℕ → ℕ → ℕ → Hist
acked_to h n t j = record { ballot = h.ballot; had = h.had; who = h.who; won = h.won; log_of = h.log_of; acked = set2 h.acked n t j }

-- what a new ack wants
pub record AckOk (h : Hist) (n t j : ℕ) : Type 0 where
  pub more : h.acked n t ≤ j
  pub within : j ≤ length (h.log_of t)
  pub now : (u : ℕ) → t < u → h.ballot n u ≡ 0

pub acked_here : (h : Hist) (n t j : ℕ) → (acked_to h n t j).acked n t ≡ j
unfolding acked_to
acked_here h n t j = set2_here h.acked n t j

pub acked_cases : (h : Hist) (n t j k w i : ℕ) → i ≤ set2 h.acked n t j k w → (i ≤ h.acked k w) ⊎ ((k ≡ n) × (w ≡ t))
acked_cases h n t j k w i le = go (place n t k w)
  where
    go : Place n t k w → (i ≤ h.acked k w) ⊎ ((k ≡ n) × (w ≡ t))
    go (here e f) = inr (e, f)
    go (node e) = inl (omega (arith, set2_node h.acked n t j k w e))
    go (term e) = inl (omega (arith, set2_term h.acked n t j k w e))

acked_more : (h : Hist) (n t j k w : ℕ) → h.acked n t ≤ j → h.acked k w ≤ set2 h.acked n t j k w
acked_more h n t j k w le = go (place n t k w)
  where
    go : Place n t k w → h.acked k w ≤ set2 h.acked n t j k w
    go (here e f) =
        let P : ℕ → ℕ → Type 0 = λ k w. h.acked k w ≤ set2 h.acked n t j k w in
        subst (λ w. P k w) (sym f) (subst (λ k. P k t) (sym e) (omega (arith, set2_here h.acked n t j)))
    go (node e) = omega (arith, set2_node h.acked n t j k w e)
    go (term e) = omega (arith, set2_term h.acked n t j k w e)

pub acked_grows : (h : Hist) (n t j : ℕ) → AckOk h n t j → Grows n h (acked_to h n t j)
unfolding acked_to
acked_grows h n t j a = record {
  later = record {
    ballot = λ k w e. refl;
    had = λ k w e. refl;
    who = λ w e. refl;
    won = λ w k e. refl;
    logs = λ w. agree_refl _ _ (omega arith);
    acks = λ k w. acked_more h n t j k w a.more;
  };
  ballots = λ k w e. refl;
  leader = λ w. inl refl;
  led = λ w. inl refl;
  acked = λ k w e. set2_node h.acked n t j k w e;
}

pub acked_ok : (vs : Setup) (h : Hist) (n t j : ℕ) → HistOk vs h → AckOk h n t j → HistOk vs (acked_to h n t j)
unfolding acked_to
acked_ok vs h n t j ok a =
    let g = acked_to h n t j in
    let l : Later h g = (acked_grows h n t j a).later in
    record {
      zero_term = ok.zero_term;
      none = ok.none;
      sound = λ w. sound_later l (ok.sound w);
      below = ok.below;
      front = ok.front;
      older = ok.older;
      quorum = ok.quorum;
      changes = λ t j e lt c. changes_later vs t j ok l e lt (change_at-within vs (h.log_of t) j c) c;
      won_ballot = ok.won_ballot;
      own = ok.own;
      stood = ok.stood;
      newer = ok.newer;
      had_sound = λ k w e. had_sound_later vs k w ok l e;
      acks_within = λ k w. within k w (place n t k w);
      weak = λ k w v i e b nz le x. ⊎_elim (λ (o : i ≤ h.acked k v). weak_later vs k w v i ok l e b nz o x)
          (λ (p : (k ≡ n) × (v ≡ t)). absurd (e (past k w v p b)))
          (acked_cases h n t j k v i le);
      strict = λ k w v i e win b nz le x. ⊎_elim (λ (o : i ≤ h.acked k v). strict_later vs k w v i ok l e win b nz o x)
          (λ (p : (k ≡ n) × (v ≡ t)). absurd (ne_along _ _ (ok.won_ballot w k e win) e (past k w v p b)))
          (acked_cases h n t j k v i le);
    }
  where
    within : (k w : ℕ) → Place n t k w → set2 h.acked n t j k w ≤ length (h.log_of w)
    within k w (here e f) =
        let P : ℕ → ℕ → Type 0 = λ k w. set2 h.acked n t j k w ≤ length (h.log_of w) in
        subst (λ w. P k w) (sym f) (subst (λ k. P k t) (sym e) (let b = a.within in omega (arith, set2_here h.acked n t j)))
    within k w (node e) = let b = ok.acks_within k w in omega (arith, set2_node h.acked n t j k w e)
    within k w (term e) = let b = ok.acks_within k w in omega (arith, set2_term h.acked n t j k w e)

    past : (k w v : ℕ) → (k ≡ n) × (v ≡ t) → v < w → h.ballot k w ≡ 0
    past k w v p b = ap (λ x. h.ballot x w) p.0 ∙ a.now w (let q = p.1 in omega arith)

pub set1 : {A : Type 0} → (ℕ → A) → ℕ → A → ℕ → A
set1 f u v w = cond (w == u) v (f w)

pub set1_here : {A : Type 0} (f : ℕ → A) (u : ℕ) (v : A) → set1 f u v u ≡ v
unfolding set1
set1_here f u v = cond-true _ _ _ (eq-eqb u u refl)

pub set1_else : {A : Type 0} (f : ℕ → A) (u : ℕ) (v : A) (w : ℕ) → w ≢ u → set1 f u v w ≡ f w
unfolding set1
set1_else f u v w e = cond-false _ _ _ (ne_eqb w u e)

unfoldable pub longer : Hist → ℕ → List Entry → Hist
longer h u es = record { ballot = h.ballot; had = h.had; who = h.who; won = h.won; log_of = set1 h.log_of u (h.log_of u ++ with_term u es); acked = h.acked }

pub longer_here : (h : Hist) (u : ℕ) (es : List Entry) → (longer h u es).log_of u ≡ h.log_of u ++ with_term u es
unfolding longer
longer_here h u es = set1_here h.log_of u (h.log_of u ++ with_term u es)

longer_logs : (h : Hist) (u : ℕ) (es : List Entry) (w : ℕ) → Agree (length (h.log_of w)) (h.log_of w) (set1 h.log_of u (h.log_of u ++ with_term u es) w)
longer_logs h u es w =
    ⊎_elim
    (λ (e : w ≡ u).
    let P : ℕ → Type 0 = λ w. Agree (length (h.log_of w)) (h.log_of w) (set1 h.log_of u (h.log_of u ++ with_term u es) w) in
    subst P (sym e) (subst (λ ys. Agree (length (h.log_of u)) (h.log_of u) ys) (sym (set1_here h.log_of u (h.log_of u ++ with_term u es))) (agree_append _ _ _ (omega arith))))
    (λ (e : w ≢ u). subst (λ ys. Agree (length (h.log_of w)) (h.log_of w) ys) (sym (set1_else h.log_of u (h.log_of u ++ with_term u es) w e)) (agree_refl _ _ (omega arith)))
    (cases_eq w u)

pub longer_grows : (h : Hist) (n u : ℕ) (es : List Entry) → n ≢ 0 → h.who u ≡ n → Grows n h (longer h u es)
unfolding longer
longer_grows h n u es id leads = record {
  later = record {
    ballot = λ k w e. refl;
    had = λ k w e. refl;
    who = λ w e. refl;
    won = λ w k e. refl;
    logs = λ w. longer_logs h u es w;
    acks = λ k w. omega arith;
  };
  ballots = λ k w e. refl;
  leader = λ w. inl refl;
  led = λ w. ⊎_elim (λ (e : w ≡ u). inr (id, ap h.who e ∙ leads)) (λ (e : w ≢ u). inl (set1_else h.log_of u _ w e)) (cases_eq w u);
  acked = λ k w e. refl;
}

sound_grown : {h g : Hist} (u : ℕ) (xs es : List Entry) → Later h g → Sound h xs → g.log_of u ≡ xs ++ with_term u es → Sound g (xs ++ with_term u es)
sound_grown {h} {g} u xs es l s e =
    let ys = xs ++ with_term u es in
    record {
      at = λ i le. ⊎_elim
          (λ (b : length xs < i). subst (λ zs. Agree i ys zs) (sym (ap g.log_of (term_at-new u xs es i b le) ∙ e)) (agree_refl i ys le))
          (λ (b : i ≤ length xs). subst (λ t. Agree i ys (g.log_of t)) (sym (term_at-append xs (with_term u es) i b)) (agree_trans (agree_sym (agree_append i xs (with_term u es) b)) ((sound_later l s).at i b)))
          (cases_lt (length xs) i);
    }

below_grown : (u : ℕ) (xs es : List Entry) (i : ℕ) → ((i : ℕ) → term_at xs i ≤ u) → term_at (xs ++ with_term u es) i ≤ u
below_grown u xs es i old =
    ⊎_elim
    (λ (b : length xs < i). ⊎_elim
    (λ (c : length (xs ++ with_term u es) < i). omega (arith, term_at-past (xs ++ with_term u es) i c))
    (λ (c : i ≤ length (xs ++ with_term u es)). omega (arith, term_at-new u xs es i b c))
    (cases_lt (length (xs ++ with_term u es)) i))
    (λ (b : i ≤ length xs). omega (arith, term_at-append xs (with_term u es) i b, old i))
    (cases_lt (length xs) i)

pub longer_ok : (vs : Setup) (h : Hist) (n u : ℕ) (es : List Entry) → HistOk vs h → n ≢ 0 → h.who u ≡ n → ((j : ℕ) → length (h.log_of u) < j → change_at vs ((longer h u es).log_of u) j ≡ true → ChangeOk vs (longer h u es) u j) → HistOk vs (longer h u es)
unfolding longer
longer_ok vs h n u es ok id leads fresh =
    let g = longer h u es in
    let l : Later h g = (longer_grows h n u es id leads).later in
    let here = set1_here h.log_of u (h.log_of u ++ with_term u es) in
    record {
      zero_term = ok.zero_term;
      none = λ w z. set1_else h.log_of u _ w (λ e. id (sym leads ∙ ap h.who (sym e) ∙ z)) ∙ ok.none w z;
      sound = λ w. ⊎_elim
          (λ (e : w ≡ u). subst (λ w. Sound g (g.log_of w)) (sym e) (subst (Sound g) (sym here) (sound_grown u (h.log_of u) es l (ok.sound u) here)))
          (λ (e : w ≢ u). subst (Sound g) (sym (set1_else h.log_of u _ w e)) (sound_later l (ok.sound w)))
          (cases_eq w u);
      below = λ w i. ⊎_elim
          (λ (e : w ≡ u). subst (λ w. term_at (g.log_of w) i ≤ w) (sym e) (subst (λ xs. term_at xs i ≤ u) (sym here) (below_grown u (h.log_of u) es i (ok.below u))))
          (λ (e : w ≢ u). subst (λ xs. term_at xs i ≤ w) (sym (set1_else h.log_of u _ w e)) (ok.below w i))
          (cases_eq w u);
      front = λ w e. front_later vs w ok l e;
      older = ok.older;
      quorum = ok.quorum;
      changes = λ t j e lt c. ⊎_elim
          (λ (x : length (h.log_of t) < j). ⊎_elim
          (λ (y : t ≡ u). subst (λ t. ChangeOk vs g t j) (sym y) (fresh j (subst (λ t. length (h.log_of t) < j) y x) (subst (λ t. change_at vs (g.log_of t) j ≡ true) y c)))
          (λ (y : t ≢ u).
          let within = change_at-within vs (h.log_of t) j (ap (λ xs. change_at vs xs j) (sym (set1_else h.log_of u (h.log_of u ++ with_term u es) t y)) ∙ c) in
          absurd (omega arith))
          (cases_eq t u))
          (λ (x : j ≤ length (h.log_of t)). changes_later vs t j ok l e lt x c)
          (cases_lt (length (h.log_of t)) j);
      won_ballot = ok.won_ballot;
      own = ok.own;
      stood = ok.stood;
      newer = ok.newer;
      had_sound = λ k w e. had_sound_later vs k w ok l e;
      acks_within = λ k w. let a = ok.acks_within k w in let b = (l.logs w).in_right in omega arith;
      weak = λ k w v i e b nz le x. weak_later vs k w v i ok l e b nz le x;
      strict = λ k w v i e win b nz le x. strict_later vs k w v i ok l e win b nz le x;
    }
