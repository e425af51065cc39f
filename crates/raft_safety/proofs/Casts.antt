-- The history with a ballot more.
use Rattle.std.proofs.Common.{◌≡◌, ◌≢◌, ◌⊎◌, inl, inr, ℕ, suc, ◌<◌, ◌≤◌, true, cond, List, refl, sym, ap, ◌∙◌, subst, ⊎_elim, arith}
use Rattle.std.specs.Prelude.{◌==◌, ◌&&◌}
use Rattle.std.proofs.lemmas.Bool.{cases_eq, eq-eqb, ne_eqb, cond-true, cond-false, and_from, and_left, and_right, or_right, le-leb}
use Rattle.raft_spec.specs.Log.{Entry, LogEnd, is_up_to_date, log_end, term_at}
use Rattle.raft_spec.specs.Node.{majority}
use Rattle.raft_safety.specs.Members.{Setup, voters_after}
use Rattle.raft_safety.proofs.Logs.{agree_refl}
use Rattle.raft_safety.proofs.Confs.{change_at-within}
use Rattle.raft_safety.proofs.History.{Hist, Sound, Kept, HistOk}
use Rattle.raft_safety.proofs.Growth.{Later, Grows, ne_along, sound_later, elected_later, kept_later}
use Rattle.raft_safety.proofs.Others.{newer_later, stood_later, had_sound_later, weak_later, strict_later, front_later, older_later, won_ballot_later, own_later, changes_later}

-- a table with one place changed
pub set2 : {A : Type 0} → (ℕ → ℕ → A) → ℕ → ℕ → A → ℕ → ℕ → A
set2 f n u v k w = cond ((k == n) && (w == u)) v (f k w)

pub set2_here : {A : Type 0} (f : ℕ → ℕ → A) (n u : ℕ) (v : A) → set2 f n u v n u ≡ v
unfolding set2
set2_here f n u v = cond-true _ _ _ (and_from _ _ (eq-eqb n n refl) (eq-eqb u u refl))

pub set2_node : {A : Type 0} (f : ℕ → ℕ → A) (n u : ℕ) (v : A) (k w : ℕ) → k ≢ n → set2 f n u v k w ≡ f k w
unfolding set2
set2_node f n u v k w e = cond-false _ _ _ (and_left _ _ (ne_eqb k n e))

pub set2_term : {A : Type 0} (f : ℕ → ℕ → A) (n u : ℕ) (v : A) (k w : ℕ) → w ≢ u → set2 f n u v k w ≡ f k w
unfolding set2
set2_term f n u v k w e = cond-false _ _ _ (and_right _ _ (ne_eqb w u e))

-- the place, or another
pub data Place (n u k w : ℕ) : Type 0 where
  here : k ≡ n → w ≡ u → Place n u k w
  node : k ≢ n → Place n u k w
  term : w ≢ u → Place n u k w

pub place : (n u k w : ℕ) → Place n u k w
place n u k w =
    ⊎_elim (λ (e : k ≡ n). ⊎_elim (λ (f : w ≡ u). here e f) (λ (f : w ≢ u). term f) (cases_eq w u))
    (λ (e : k ≢ n). node e)
    (cases_eq k n)

unfoldable pub cast : Hist → ℕ → ℕ → ℕ → List Entry → Hist
cast h n u c xs = record { ballot = set2 h.ballot n u c; had = set2 h.had n u xs; who = h.who; won = h.won; log_of = h.log_of; acked = h.acked }

-- what a new ballot wants
pub record CastOk (h : Hist) (n u c : ℕ) (xs : List Entry) : Type 0 where
  pub free : h.ballot n u ≡ 0
  pub some : c ≢ 0
  pub stood : (c ≡ n) ⊎ ((h.ballot c u ≡ c) × (is_up_to_date (log_end (h.had c u)) (log_end xs) ≡ true))
  pub sound : Sound h xs
  pub weak : (t i : ℕ) → t < u → t ≢ 0 → i ≤ h.acked n t → term_at (h.log_of t) i ≡ t → Kept h t i xs (suc u)

pub cast_else : {A : Type 0} (h : Hist) (f : ℕ → ℕ → A) (n u : ℕ) (v : A) (k w : ℕ) → h.ballot n u ≡ 0 → h.ballot k w ≢ 0 → set2 f n u v k w ≡ f k w
cast_else h f n u v k w free some = go (place n u k w)
  where
    go : Place n u k w → set2 f n u v k w ≡ f k w
    go (here e g) = absurd (some (ap (λ x. h.ballot x w) e ∙ ap (h.ballot n) g ∙ free))
    go (node e) = set2_node f n u v k w e
    go (term e) = set2_term f n u v k w e

pub cast_grows : (h : Hist) (n u c : ℕ) (xs : List Entry) → CastOk h n u c xs → Grows n h (cast h n u c xs)
unfolding cast
cast_grows h n u c xs a = record {
  later = record {
    ballot = λ k w e. cast_else h h.ballot n u c k w a.free e;
    had = λ k w e. cast_else h h.had n u xs k w a.free e;
    who = λ w e. refl;
    won = λ w k e. refl;
    logs = λ w. agree_refl _ _ (omega arith);
    acks = λ k t. omega arith;
  };
  ballots = λ k w e. set2_node h.ballot n u c k w e;
  leader = λ w. inl refl;
  led = λ w. inl refl;
  acked = λ k t e. refl;
}

as_new_self : (e : LogEnd) → is_up_to_date e e ≡ true
unfolding is_up_to_date
as_new_self e = or_right _ _ (and_from _ _ (eq-eqb e.term e.term refl) (le-leb e.index e.index (omega arith)))

cast_cases : (h : Hist) (n u c : ℕ) (xs : List Entry) (k w : ℕ) → (cast h n u c xs).ballot k w ≢ 0 → (h.ballot k w ≢ 0) ⊎ ((k ≡ n) × (w ≡ u))
unfolding cast
cast_cases h n u c xs k w some = go (place n u k w)
  where
    go : Place n u k w → (h.ballot k w ≢ 0) ⊎ ((k ≡ n) × (w ≡ u))
    go (here e f) = inr (e, f)
    go (node e) = inl (ne_along _ _ (sym (set2_node h.ballot n u c k w e)) some)
    go (term e) = inl (ne_along _ _ (sym (set2_term h.ballot n u c k w e)) some)

-- the candidate of the new ballot, and its log
cast_stood : (h : Hist) (n u c : ℕ) (xs : List Entry) → CastOk h n u c xs → (set2 h.ballot n u c c u ≡ c) × (is_up_to_date (log_end (set2 h.had n u xs c u)) (log_end xs) ≡ true)
cast_stood h n u c xs a =
    ⊎_elim
    (λ (e : c ≡ n). (ap (λ k. set2 h.ballot n u c k u) e ∙ set2_here h.ballot n u c, ap (λ ys. is_up_to_date (log_end ys) (log_end xs)) (ap (λ k. set2 h.had n u xs k u) e ∙ set2_here h.had n u xs) ∙ as_new_self (log_end xs)))
    (λ (e : (h.ballot c u ≡ c) × (is_up_to_date (log_end (h.had c u)) (log_end xs) ≡ true)).
    let some : h.ballot c u ≢ 0 = ne_along _ _ e.0 a.some in
    (cast_else h h.ballot n u c c u a.free some ∙ e.0, ap (λ ys. is_up_to_date (log_end ys) (log_end xs)) (cast_else h h.had n u xs c u a.free some) ∙ e.1))
    a.stood

at_place : (P : ℕ → ℕ → Type 0) (n u k w : ℕ) → (k ≡ n) × (w ≡ u) → P n u → P k w
at_place P n u k w e p = subst (λ x. P k x) (sym e.1) (subst (λ x. P x u) (sym e.0) p)

pub cast_ok : (vs : Setup) (h : Hist) (n u c : ℕ) (xs : List Entry) → HistOk vs h → CastOk h n u c xs → HistOk vs (cast h n u c xs)
unfolding cast
cast_ok vs h n u c xs ok a =
    let g = cast h n u c xs in
    let l : Later h g = (cast_grows h n u c xs a).later in
    let mine = set2_here h.ballot n u c in
    let log = set2_here h.had n u xs in
    let his = cast_stood h n u c xs a in
    record {
      zero_term = ok.zero_term;
      none = ok.none;
      sound = λ w. sound_later l (ok.sound w);
      below = ok.below;
      front = λ w e. front_later vs w ok l e;
      older = λ w i e. older_later vs w i ok l e;
      quorum = λ w e. ap (λ ys. majority (voters_after vs ys) (h.won w)) (elected_later vs w ok l e) ∙ ok.quorum w e;
      changes = λ t j e lt c. changes_later vs t j ok l e lt (change_at-within vs (h.log_of t) j c) c;
      won_ballot = λ w k e win. won_ballot_later vs w k ok l e win;
      own = λ w e. own_later vs w ok l e;
      stood = λ k w e. ⊎_elim (λ (o : h.ballot k w ≢ 0). stood_later vs k w ok l o)
          (λ (p : (k ≡ n) × (w ≡ u)). at_place (λ k w. g.ballot (g.ballot k w) w ≡ g.ballot k w) n u k w p (ap (λ k. g.ballot k u) mine ∙ his.0 ∙ sym mine))
          (cast_cases h n u c xs k w e);
      newer = λ k w e. ⊎_elim (λ (o : h.ballot k w ≢ 0). newer_later vs k w ok l o)
          (λ (p : (k ≡ n) × (w ≡ u)). at_place (λ k w. is_up_to_date (log_end (g.had (g.ballot k w) w)) (log_end (g.had k w)) ≡ true) n u k w p
          (ap (λ k. is_up_to_date (log_end (g.had k u)) (log_end (g.had n u))) mine ∙ ap (λ ys. is_up_to_date (log_end (g.had c u)) (log_end ys)) log ∙ his.1))
          (cast_cases h n u c xs k w e);
      had_sound = λ k w e. ⊎_elim (λ (o : h.ballot k w ≢ 0). had_sound_later vs k w ok l o)
          (λ (p : (k ≡ n) × (w ≡ u)). at_place (λ k w. Sound g (g.had k w)) n u k w p (subst (Sound g) (sym log) (sound_later l a.sound)))
          (cast_cases h n u c xs k w e);
      acks_within = ok.acks_within;
      weak = λ k w t i e b nz le x. ⊎_elim (λ (o : h.ballot k w ≢ 0). weak_later vs k w t i ok l o b nz le x)
          (λ (p : (k ≡ n) × (w ≡ u)).
          let le' : i ≤ h.acked n t = subst (λ k. i ≤ h.acked k t) p.0 le in
          let b' : t < u = subst (λ w. t < w) p.1 b in
          at_place (λ k w. Kept g t i (g.had k w) (suc w)) n u k w p (subst (λ ys. Kept g t i ys (suc u)) (sym log) (kept_later vs ok l (a.weak t i b' nz le' x))))
          (cast_cases h n u c xs k w e);
      strict = λ k w t i e win b nz le x. strict_later vs k w t i ok l e win b nz le x;
    }

pub cast_had : (h : Hist) (n u c : ℕ) (xs : List Entry) → (cast h n u c xs).had n u ≡ xs
unfolding cast
cast_had h n u c xs = set2_here h.had n u xs
