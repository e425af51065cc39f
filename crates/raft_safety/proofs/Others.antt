-- A node keeps its invariant through the steps of others. What was in the history keeps its facts.
use Rattle.std.proofs.Common.{◌≡◌, ◌≢◌, ℕ, suc, ◌<◌, ◌≤◌, true, length, sym, ap, ◌∙◌, subst, ⊎_elim, arith}
use Rattle.raft_spec.specs.Log.{is_up_to_date, log_end, term_at}
use Rattle.raft_spec.specs.Node.{Node}
use Rattle.raft_safety.specs.Members.{Setup, change_at}
use Rattle.raft_safety.proofs.Logs.{Agree, agree_trans, agree_down}
use Rattle.raft_safety.proofs.Confs.{agree_change}
use Rattle.raft_safety.proofs.History.{Hist, elected, Sound, Kept, ChangeOk, HistOk, NodeOk}
use Rattle.raft_safety.proofs.Growth.{Later, Grows, ne_along, sound_later, term_later, elected_later, kept_later, committed_later, change_later}

pub node_later : {h g : Hist} (vs : Setup) (n k : ℕ) (s : Node) → k ≢ n → HistOk vs h → Grows n h g → NodeOk vs h k s → NodeOk vs g k s
node_later {h} {g} vs n k s apart ok grows node =
    let l = grows.later in record {
      sound = sound_later l node.sound;
      below = node.below;
      vote = grows.ballots k s.term apart ∙ node.vote;
      later = λ u b. grows.ballots k u apart ∙ node.later u b;
      standing = λ c.
          let x = node.standing c in
          let mine : h.ballot k s.term ≢ 0 = λ z. x.id (sym x.self ∙ sym node.vote ∙ z) in record {
            id = x.id;
            self = x.self;
            had = l.had k s.term mine ∙ x.had;
            not_yet = λ e. ⊎_elim (λ (y : g.who s.term ≡ h.who s.term). x.not_yet (sym y ∙ e)) (λ (y : g.who s.term ≡ n). apart (sym e ∙ y)) (grows.leader s.term);
            older = x.older;
            grants = λ v a. l.ballot v s.term (ne_along _ _ (x.grants v a) x.id) ∙ x.grants v a;
          };
      leading = λ c.
          let x = node.leading c in
          let who : g.who s.term ≡ k = l.who s.term (ne_along _ _ x.who x.id) ∙ x.who in record {
            id = x.id;
            who = who;
            log = ⊎_elim (λ (y : g.log_of s.term ≡ h.log_of s.term). y ∙ x.log) (λ (y : (n ≢ 0) × (g.who s.term ≡ n)). absurd (apart (sym who ∙ y.1))) (grows.led s.term);
            own = grows.acked k s.term apart ∙ x.own;
            matched = λ p. let a = x.matched p in let b = l.acks p s.term in omega arith;
            next = x.next;
          };
      acks_later = λ t b. grows.acked k t apart ∙ node.acks_later t b;
      acks = λ t i nz b e.
          let same = grows.acked k t apart in
          let within = ok.acks_within k t in
          let le : i ≤ length (h.log_of t) = omega arith in
          kept_later vs ok l (node.acks t i nz (omega arith) (sym (term_later t i l le) ∙ e));
      commit = committed_later vs l node.commit;
      snaps = node.snaps;
    }

-- the facts on what the history had, at a later moment
pub newer_later : {h g : Hist} (vs : Setup) (n u : ℕ) → HistOk vs h → Later h g → h.ballot n u ≢ 0 → is_up_to_date (log_end (g.had (g.ballot n u) u)) (log_end (g.had n u)) ≡ true
newer_later {h} {g} vs n u ok l e =
    let c = ok.stood n u e in
    let same = l.ballot n u e in
    let his : g.had (g.ballot n u) u ≡ h.had (h.ballot n u) u = ap (λ k. g.had k u) same ∙ l.had (h.ballot n u) u (ne_along _ _ c e) in
    ap (λ xs. is_up_to_date (log_end xs) (log_end (g.had n u))) his ∙ ap (λ xs. is_up_to_date (log_end (h.had (h.ballot n u) u)) (log_end xs)) (l.had n u e) ∙ ok.newer n u e

pub stood_later : {h g : Hist} (vs : Setup) (n u : ℕ) → HistOk vs h → Later h g → h.ballot n u ≢ 0 → g.ballot (g.ballot n u) u ≡ g.ballot n u
stood_later {h} {g} vs n u ok l e =
    let c = ok.stood n u e in
    let same = l.ballot n u e in
    ap (λ k. g.ballot k u) same ∙ l.ballot (h.ballot n u) u (ne_along _ _ c e) ∙ c ∙ sym same

pub had_sound_later : {h g : Hist} (vs : Setup) (n u : ℕ) → HistOk vs h → Later h g → h.ballot n u ≢ 0 → Sound g (g.had n u)
had_sound_later {h} {g} vs n u ok l e = subst (Sound g) (sym (l.had n u e)) (sound_later l (ok.had_sound n u e))

pub weak_later : {h g : Hist} (vs : Setup) (n u t i : ℕ) → HistOk vs h → Later h g → h.ballot n u ≢ 0 → t < u → t ≢ 0 → i ≤ h.acked n t → term_at (g.log_of t) i ≡ t → Kept g t i (g.had n u) (suc u)
weak_later {h} {g} vs n u t i ok l e b nz le x =
    let within = ok.acks_within n t in
    let w : i ≤ length (h.log_of t) = omega arith in
    subst (λ xs. Kept g t i xs (suc u)) (sym (l.had n u e)) (kept_later vs ok l (ok.weak n u t i e b nz le (sym (term_later t i l w) ∙ x)))

pub won_later : {h g : Hist} (vs : Setup) (n u : ℕ) → HistOk vs h → Later h g → h.who u ≢ 0 → g.won u n ≡ true → h.ballot n u ≡ h.who u
won_later vs n u ok l e w = ok.won_ballot u n e (sym (l.won u n e) ∙ w)

pub strict_later : {h g : Hist} (vs : Setup) (n u t i : ℕ) → HistOk vs h → Later h g → h.who u ≢ 0 → g.won u n ≡ true → t < u → t ≢ 0 → i ≤ h.acked n t → term_at (g.log_of t) i ≡ t → Kept g t i (g.had n u) u
strict_later {h} {g} vs n u t i ok l e win b nz le x =
    let within = ok.acks_within n t in
    let w : i ≤ length (h.log_of t) = omega arith in
    let some : h.ballot n u ≢ 0 = ne_along _ _ (won_later vs n u ok l e win) e in
    subst (λ xs. Kept g t i xs u) (sym (l.had n u some)) (kept_later vs ok l (ok.strict n u t i e (sym (l.won u n e) ∙ win) b nz le (sym (term_later t i l w) ∙ x)))

pub front_later : {h g : Hist} (vs : Setup) (u : ℕ) → HistOk vs h → Later h g → h.who u ≢ 0 → Agree (length (elected g u)) (elected g u) (g.log_of u)
front_later {h} {g} vs u ok l e =
    let a = ok.front u e in
    subst (λ xs. Agree (length xs) xs (g.log_of u)) (sym (elected_later vs u ok l e)) (agree_trans a (agree_down _ a.in_right (l.logs u)))

pub older_later : {h g : Hist} (vs : Setup) (u i : ℕ) → HistOk vs h → Later h g → h.who u ≢ 0 → term_at (elected g u) i < u
older_later {h} {g} vs u i ok l e = subst (λ xs. term_at xs i < u) (sym (elected_later vs u ok l e)) (ok.older u i e)

pub won_ballot_later : {h g : Hist} (vs : Setup) (u n : ℕ) → HistOk vs h → Later h g → h.who u ≢ 0 → g.won u n ≡ true → g.ballot n u ≡ g.who u
won_ballot_later {h} {g} vs u n ok l e w =
    let b = won_later vs n u ok l e w in
    l.ballot n u (ne_along _ _ b e) ∙ b ∙ sym (l.who u e)

pub own_later : {h g : Hist} (vs : Setup) (u : ℕ) → HistOk vs h → Later h g → h.who u ≢ 0 → g.ballot (g.who u) u ≡ g.who u
own_later {h} {g} vs u ok l e =
    let o = ok.own u e in
    ap (λ k. g.ballot k u) (l.who u e) ∙ l.ballot (h.who u) u (ne_along _ _ o e) ∙ o ∙ sym (l.who u e)

pub changes_later : {h g : Hist} (vs : Setup) (t j : ℕ) → HistOk vs h → Later h g → h.who t ≢ 0 → length (elected g t) < j → j ≤ length (h.log_of t) → change_at vs (g.log_of t) j ≡ true → ChangeOk vs g t j
changes_later {h} {g} vs t j ok l e lt le c =
    let lt' : length (elected h t) < j = subst (λ xs. length xs < j) (elected_later vs t ok l e) lt in
    change_later vs l le (ok.changes t j e lt' (agree_change vs j le (l.logs t) ∙ c))
