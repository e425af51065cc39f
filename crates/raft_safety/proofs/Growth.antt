-- What stays when the history grows.
use Rattle.std.proofs.Common.{◌≡◌, ◌≢◌, ◌⊎◌, inl, inr, ℕ, ◌≤◌, true, false, List, length, take, refl, sym, ap, ◌∙◌, subst, ⊎_elim, arith}
use Rattle.std.specs.Prelude.{nat_le}
use Rattle.std.proofs.lemmas.Bool.{leb-true, le-leb}
use Rattle.raft_spec.specs.Log.{Entry, LogEnd, log_end, term_at}
use Rattle.raft_spec.specs.Node.{Ack, Append, AskVote, Install, TimeoutNow, Vote, What, majority}
use Rattle.raft_safety.specs.Members.{Setup, voters_after}
use Rattle.raft_safety.proofs.Logs.{Agree, agree_trans, agree_sym, agree_down, agree_term, agree_refl, take_drops, term_at-within}
use Rattle.raft_safety.proofs.Confs.{Near, agree_change}
use Rattle.raft_safety.proofs.Majorities.{majority_mono}
use Rattle.raft_safety.proofs.History.{Hist, elected, Sound, Betrayed, Kept, holds, betrayed, Decided, Committed, nothing, decided, HistOk, AppendOk, InstallOk, WhatOk, ChangeOk}

-- the history of a later moment
pub record Later (h g : Hist) : Type 0 where
  pub ballot : (n u : ℕ) → h.ballot n u ≢ 0 → g.ballot n u ≡ h.ballot n u
  pub had : (n u : ℕ) → h.ballot n u ≢ 0 → g.had n u ≡ h.had n u
  pub who : (u : ℕ) → h.who u ≢ 0 → g.who u ≡ h.who u
  pub won : (u n : ℕ) → h.who u ≢ 0 → g.won u n ≡ h.won u n
  pub logs : (u : ℕ) → Agree (length (h.log_of u)) (h.log_of u) (g.log_of u)
  pub acks : (n t : ℕ) → h.acked n t ≤ g.acked n t

-- after steps of the node n alone
pub record Grows (n : ℕ) (h g : Hist) : Type 0 where
  pub later : Later h g
  pub ballots : (k u : ℕ) → k ≢ n → g.ballot k u ≡ h.ballot k u
  pub leader : (u : ℕ) → (g.who u ≡ h.who u) ⊎ (g.who u ≡ n)
  pub led : (u : ℕ) → (g.log_of u ≡ h.log_of u) ⊎ ((n ≢ 0) × (g.who u ≡ n))
  pub acked : (k t : ℕ) → k ≢ n → g.acked k t ≡ h.acked k t

pub later_refl : (h : Hist) → Later h h
later_refl h = record { ballot = λ n u e. refl; had = λ n u e. refl; who = λ u e. refl; won = λ u n e. refl; logs = λ u. agree_refl _ _ (omega arith); acks = λ n t. omega arith }

pub ne_along : (a b : ℕ) → b ≡ a → a ≢ 0 → b ≢ 0
ne_along a b e n z = n (sym e ∙ z)

pub later_trans : (h g k : Hist) → Later h g → Later g k → Later h k
later_trans h g k a b = record {
  ballot = λ n u e. b.ballot n u (ne_along _ _ (a.ballot n u e) e) ∙ a.ballot n u e;
  had = λ n u e. b.had n u (ne_along _ _ (a.ballot n u e) e) ∙ a.had n u e;
  who = λ u e. b.who u (ne_along _ _ (a.who u e) e) ∙ a.who u e;
  won = λ u n e. b.won u n (ne_along _ _ (a.who u e) e) ∙ a.won u n e;
  logs = λ u. agree_trans (a.logs u) (agree_down _ (a.logs u).in_right (b.logs u));
  acks = λ n t. let x = a.acks n t in let y = b.acks n t in omega arith;
}

pub grows_refl : (n : ℕ) (h : Hist) → Grows n h h
grows_refl n h = record { later = later_refl h; ballots = λ k u e. refl; leader = λ u. inl refl; led = λ u. inl refl; acked = λ k t e. refl }

pub grows_trans : (n : ℕ) (h g k : Hist) → Grows n h g → Grows n g k → Grows n h k
grows_trans n h g k a b = record {
  later = later_trans h g k a.later b.later;
  ballots = λ j u e. b.ballots j u e ∙ a.ballots j u e;
  leader = λ u. ⊎_elim (λ (x : k.who u ≡ g.who u). ⊎_elim (λ (y : g.who u ≡ h.who u). inl (x ∙ y)) (λ (y : g.who u ≡ n). inr (x ∙ y)) (a.leader u)) (λ (x : k.who u ≡ n). inr x) (b.leader u);
  led = λ u. ⊎_elim
      (λ (x : k.log_of u ≡ g.log_of u).
      ⊎_elim (λ (y : g.log_of u ≡ h.log_of u). inl (x ∙ y)) (λ (y : (n ≢ 0) × (g.who u ≡ n)). inr (y.0, b.later.who u (ne_along _ _ y.1 y.0) ∙ y.1)) (a.led u))
      (λ (x : (n ≢ 0) × (k.who u ≡ n)). inr x)
      (b.led u);
  acked = λ j t e. b.acked j t e ∙ a.acked j t e;
}

pub sound_later : {h g : Hist} {xs : List Entry} → Later h g → Sound h xs → Sound g xs
sound_later {h} {g} {xs} l s = record { at = λ i b. let a = s.at i b in agree_trans a (agree_down i a.in_right (l.logs (term_at xs i))) }

-- a term that was in a leader's log is there
pub term_later : {h g : Hist} (t i : ℕ) → Later h g → i ≤ length (h.log_of t) → term_at (g.log_of t) i ≡ term_at (h.log_of t) i
term_later t i l b = sym (agree_term i b (l.logs t))

pub elected_later : {h g : Hist} (vs : Setup) (u : ℕ) → HistOk vs h → Later h g → h.who u ≢ 0 → elected g u ≡ elected h u
elected_later {h} {g} vs u ok l e =
    ap (λ c. g.had c u) (l.who u e) ∙ l.had (h.who u) u (λ z. e (sym (ok.own u e) ∙ z))

pub betrayed_later : {h g : Hist} {t i b : ℕ} (vs : Setup) → HistOk vs h → Later h g → Betrayed h t i b → Betrayed g t i b
betrayed_later {h} {g} {t} {i} {b} vs ok l x = record {
  voters_of = x.voters_of;
  after = x.after;
  before = x.before;
  leads = ne_along _ _ (l.who x.voters_of x.leads) x.leads;
  lacks = λ e. x.lacks (ap (λ xs. term_at xs i) (sym (elected_later vs x.voters_of ok l x.leads)) ∙ e);
}

pub betrayed_more : {h : Hist} {t i b : ℕ} (c : ℕ) → b ≤ c → Betrayed h t i b → Betrayed h t i c
betrayed_more c le x = record { voters_of = x.voters_of; after = x.after; before = let y = x.before in omega arith; leads = x.leads; lacks = x.lacks }

pub kept_later : {h g : Hist} {t i b : ℕ} {xs : List Entry} (vs : Setup) → HistOk vs h → Later h g → Kept h t i xs b → Kept g t i xs b
kept_later vs ok l (holds x) = holds x
kept_later vs ok l (betrayed x) = betrayed (betrayed_later vs ok l x)

pub decided_within : {h : Hist} {t i : ℕ} (vs : Setup) → Decided vs h t i → i ≤ length (h.log_of t)
decided_within {h} {t} {i} vs d = term_at-within (h.log_of t) i t d.entry d.term

pub conf_later : {h g : Hist} (vs : Setup) (t n : ℕ) → Later h g → n ≤ length (h.log_of t) → voters_after vs (take n (h.log_of t)) ≡ voters_after vs (take n (g.log_of t))
conf_later vs t n l le = ap (voters_after vs) (agree_down n le (l.logs t)).same

unfoldable pub decided_later : {h g : Hist} {t i : ℕ} (vs : Setup) → Later h g → Decided vs h t i → Decided vs g t i
decided_later {h} {g} {t} {i} vs l d = record {
  term = d.term;
  entry = term_later t i l (decided_within vs d) ∙ d.entry;
  upto = d.upto;
  covers = d.covers;
  in_log = let x = d.in_log in let y = (l.logs t).in_right in omega arith;
  quorum = subst (λ c. majority c (λ n. nat_le i (g.acked n t)) ≡ true) (conf_later vs t d.upto l d.in_log)
      (majority_mono (voters_after vs (take d.upto (h.log_of t))) (λ n. nat_le i (h.acked n t)) (λ n. nat_le i (g.acked n t)) (λ n e. le-leb _ _ (let x = leb-true _ _ e in let y = l.acks n t in omega arith)) d.quorum);
}

pub change_later : {h g : Hist} {t j : ℕ} (vs : Setup) → Later h g → j ≤ length (h.log_of t) → ChangeOk vs h t j → ChangeOk vs g t j
unfolding decided_later
change_later {h} {g} {t} {j} vs l le c =
    let within = decided_within vs c.settled in record {
      at = c.at;
      settled = decided_later vs l c.settled;
      early = c.early;
      prior = λ k a b. sym (agree_change vs k (omega arith) (l.logs t)) ∙ c.prior k a b;
      near = subst (λ v. Near v (voters_after vs (take j (g.log_of t)))) (conf_later vs t c.at l within) (subst (λ v. Near (voters_after vs (take c.at (h.log_of t))) v) (conf_later vs t j l le) c.near);
    }

pub committed_later : {h g : Hist} {xs : List Entry} {u k : ℕ} (vs : Setup) → Later h g → Committed vs h xs u k → Committed vs g xs u k
committed_later vs l (nothing e) = nothing e
committed_later vs l (decided t i b d le a) = decided t i b (decided_later vs l d) le (agree_trans a (agree_down _ a.in_right (l.logs t)))

-- the same index of a log that agrees up to it, in a term no smaller
pub committed_along : {h : Hist} {xs ys : List Entry} {u k : ℕ} (vs : Setup) (v j : ℕ) → u ≤ v → j ≤ k → Agree j xs ys → Committed vs h xs u k → Committed vs h ys v j
committed_along vs v j b le a (nothing e) = nothing (omega arith)
committed_along {k = k} vs v j b le a (decided t i x d y z) = decided t i (omega arith) d (omega arith) (agree_trans (agree_sym a) (agree_down j le z))

settled_later : {h g : Hist} {u k : ℕ} (vs : Setup) → Later h g → Committed vs h (h.log_of u) u k → Committed vs g (g.log_of u) u k
settled_later vs l (nothing e) = nothing e
settled_later {h} {g} {u} {k} vs l (decided t i x d y z) =
    let b = l.logs t in
    decided t i x (decided_later vs l d) y (agree_trans (agree_sym (agree_down k z.in_left (l.logs u))) (agree_trans z (agree_down k z.in_right b)))

append_later : {h g : Hist} {u commit : ℕ} {prev : LogEnd} {es : List Entry} (vs : Setup) → Later h g → AppendOk vs h u prev commit es → AppendOk vs g u prev commit es
append_later {h} {g} {u} {commit} {prev} {es} vs l a =
    let b = l.logs u in
    let within = a.piece.within in record {
      leads = ne_along _ _ (l.who u a.leads) a.leads;
      piece = record {
        within = let x = b.in_right in omega (arith, x, within);
        same = sym (take_drops prev.index (length es) (h.log_of u) (g.log_of u) (agree_down _ within b)) ∙ a.piece.same;
      };
      follows = sym (agree_term prev.index (omega (arith, within)) b) ∙ a.follows;
      settled = settled_later vs l a.settled;
    }

install_later : {h g : Hist} {u : ℕ} {last : LogEnd} {front : List Entry} (vs : Setup) → Later h g → InstallOk vs h u last front → InstallOk vs g u last front
install_later {h} {g} {u} {last} {front} vs l a =
    let b = agree_down last.index a.within (l.logs u) in record {
      leads = ne_along _ _ (l.who u a.leads) a.leads;
      within = b.in_right;
      same = a.same ∙ b.same;
      term = sym (agree_term last.index (omega arith) b) ∙ a.term;
      settled = settled_later vs l a.settled;
    }

pub what_later : {h g : Hist} (vs : Setup) (from to u : ℕ) (w : What) → Later h g → WhatOk vs h from to u w → WhatOk vs g from to u w
what_later {h} {g} vs from to u (AskVote last transfer) l a =
    (a.0, l.ballot from u (ne_along _ _ a.1 a.0) ∙ a.1, ap log_end (l.had from u (ne_along _ _ a.1 a.0)) ∙ a.2)
what_later vs from to u (Vote true) l a = (a.0, l.ballot from u (ne_along _ _ a.1 a.0) ∙ a.1)
what_later vs from to u (Vote false) l a = tt
what_later {h} {g} vs from to u (Append prev commit es) l a = (λ e. a.0 (sym (l.who u a.1.leads) ∙ e), append_later vs l a.1)
what_later {h} {g} vs from to u (Ack true index) l a = let x = l.acks from u in omega (arith, a)
what_later vs from to u (Ack false index) l a = tt
what_later {h} {g} vs from to u (Install last front) l a = (λ e. a.0 (sym (l.who u a.1.leads) ∙ e), install_later vs l a.1)
what_later vs from to u TimeoutNow l a = tt
