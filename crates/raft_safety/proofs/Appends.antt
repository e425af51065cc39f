-- An Append at its receiver.
use Rattle.std.proofs.Common.{◌≡◌, ◌⊎◌, inl, inr, ℕ, ◌+◌, ◌-◌, ◌<◌, ◌≤◌, min, max, true, List, [], length, take, drop, refl, sym, ap, ◌∙◌, subst, ⊎_elim, arith, length-drop}
use Rattle.std.specs.Prelude.{nat_le}
use Rattle.std.proofs.lemmas.List.{drop-drop, drop-take, drop_all}
use Rattle.std.proofs.lemmas.Bool.{cases_lt, cond_both, and_parts, or_cases, eqb-true, leb-true}
use Rattle.raft_spec.specs.Log.{Entry, LogEnd, accept, accept_above, matches, term_at}
use Rattle.raft_spec.specs.Node.{Ack, Node, is_candidate, is_leader}
use Rattle.raft_spec.specs.Outcomes.{answer, as_follower, says, with_log}
use Rattle.raft_spec.specs.Replication.{replaces_committed, agrees, on_append, take_entries}
use Rattle.raft_safety.specs.Members.{Setup}
use Rattle.raft_safety.proofs.Logs.{Agree, Piece, Accepted, accept_cases, agree_sym, agree_trans, agree_term, agree_down}
use Rattle.raft_safety.proofs.History.{Hist, HistOk, SnapOk, NodeOk, AppendOk, Committed}
use Rattle.raft_safety.proofs.Growth.{committed_along}
use Rattle.raft_safety.proofs.Complete.{meet, terms}
use Rattle.raft_safety.proofs.Extends.{acked_to, AckOk, acked_grows, acked_ok, acked_here}
use Rattle.raft_safety.proofs.Bases.{BaseOk, base, with_base, base_ack, base_commit, committed_max}
use Rattle.raft_safety.proofs.Accepts.{accept_agree, accept_base, committed_in}
use Rattle.raft_safety.proofs.Reaches.{still, off, follower_ok}
use Rattle.raft_safety.proofs.Votes.{Fine}

pub matches_parts : (log : List Entry) (prev : LogEnd) → matches log prev ≡ true → (prev.index ≤ length log) × (term_at log prev.index ≡ prev.term)
unfolding matches
matches_parts log prev e = let p = and_parts _ _ e in (leb-true _ _ p.0, eqb-true _ _ p.1)

-- a good ack of what the log agrees with
pub acking : {vs : Setup} {h : Hist} (me : ℕ) (f : Node) (from j : ℕ) → HistOk vs h → (is_candidate f.role ≡ true → ⊥) → (is_leader f.role ≡ true → ⊥) → BaseOk vs h me f.term f.vote f.log f.commit → SnapOk f → Agree j f.log (h.log_of f.term) → Fine vs h me (says f (answer me f from (Ack true j)))
acking {vs} {h} me f from j ok nc nl b sn whole =
    ⊎_elim
    (λ (x : j < h.acked me f.term). still f _ ok (with_base f b sn (λ e. absurd (nc e)) (λ e. absurd (nl e))) (omega arith, tt))
    (λ (x : h.acked me f.term ≤ j).
    let ack : AckOk h me f.term j = record { more = x; within = whole.in_right; now = b.later } in
    record {
      to = acked_to h me f.term j;
      grows = acked_grows h me f.term j ack;
      hist = acked_ok vs h me f.term j ok ack;
      node = with_base f (base_ack j ok ack whole b) sn (λ e. absurd (nc e)) (λ e. absurd (nl e));
      sent = (omega (arith, acked_here h me f.term j), tt);
    })
    (cases_lt j (h.acked me f.term))

-- what is left of the entries past a floor up to which the logs agree
pub floor_piece : (p floor : ℕ) (es ys : List Entry) → Piece p es ys → floor ≤ length ys → Piece (max p floor) (drop (max p floor - p) es) ys
floor_piece p floor es ys a low =
    let d = max p floor - p in
    let le : p ≤ max p floor = omega arith in
    ⊎_elim
    (λ (x : d ≤ length es).
    let m = length es - d in
    let len : length (drop d es) ≡ m = length-drop d es in
    let split : d + m ≡ length es = omega arith in
    let at : p + d ≡ max p floor = omega arith in
    record {
      within = let w = a.within in omega arith;
      same = ap (λ n. take n (drop (max p floor) ys)) len ∙ ap (λ n. take m (drop n ys)) (sym at) ∙ ap (take m) (sym (drop-drop d p ys)) ∙ sym (drop-take d m (drop p ys)) ∙ ap (λ n. drop d (take n (drop p ys))) split ∙ ap (drop d) a.same;
    })
    (λ (x : length es < d).
    let nil : drop d es ≡ [] = drop_all d es (omega arith) in
    subst (λ zs. Piece (max p floor) zs ys) (sym nil) (record { within = let w = a.within in omega arith; same = refl }))
    (cases_le d (length es))
  where
    cases_le : (m n : ℕ) → (m ≤ n) ⊎ (n < m)
    cases_le m n = ⊎_elim (λ (x : n < m). inr x) (λ (x : m ≤ n). inl x) (cases_lt n m)

-- up to the place from which entries count, the log agrees with the leader's
pub agrees_there : {vs : Setup} {h : Hist} {me : ℕ} (s : Node) (prev : LogEnd) (commit : ℕ) (es : List Entry) → HistOk vs h → NodeOk vs h me s → AppendOk vs h s.term prev commit es → agrees s prev ≡ true → Agree (max prev.index s.snapshot.index) s.log (h.log_of s.term)
unfolding agrees
agrees_there {vs} {h} {me} s prev commit es ok a m e =
    let front = committed_in ok m.leads a.commit in
    ⊎_elim
    (λ (x : prev.index ≤ s.snapshot.index). agree_down (max prev.index s.snapshot.index) (let y = a.snaps.applied in omega arith) front)
    (λ (x : s.snapshot.index < prev.index).
    let is : prev.index ≡ max prev.index s.snapshot.index = omega arith in
    let p = matches_parts s.log prev (by_match x (or_cases _ _ e)) in
    let w = m.piece.within in
    subst (λ k. Agree k s.log (h.log_of s.term)) is ((meet a.sound (ok.sound s.term)).at prev.index p.0 (omega arith) (p.1 ∙ sym m.follows)))
    (cases prev.index s.snapshot.index)
  where
    cases : (m n : ℕ) → (m ≤ n) ⊎ (n < m)
    cases m n = ⊎_elim (λ (x : n < m). inr x) (λ (x : m ≤ n). inl x) (cases_lt n m)

    by_match : s.snapshot.index < prev.index → (nat_le prev.index s.snapshot.index ≡ true) ⊎ (matches s.log prev ≡ true) → matches s.log prev ≡ true
    by_match x y = ⊎_elim (λ (z : nat_le prev.index s.snapshot.index ≡ true). absurd (let q = leb-true _ _ z in omega arith)) (λ (z : matches s.log prev ≡ true). z) y

takes_fine : {vs : Setup} {h : Hist} (me : ℕ) (s : Node) (from : ℕ) (prev : LogEnd) (commit : ℕ) (es : List Entry) → HistOk vs h → NodeOk vs h me s → AppendOk vs h s.term prev commit es → agrees s prev ≡ true → Fine vs h me (take_entries me (as_follower s from) from prev commit es)
unfolding take_entries accept_above
takes_fine {vs} {h} me s from prev commit es ok a m e =
    let u = s.term in
    let floor = s.snapshot.index in
    let j = prev.index + length es in
    let p = max prev.index floor in
    let rest = drop (p - prev.index) es in
    let there = agrees_there s prev commit es ok a m e in
    let piece = floor_piece prev.index floor es (h.log_of u) m.piece (let x = there.in_right in omega arith) in
    let new = accept s.log p rest in
    let acc : Accepted p (length rest) s.log (h.log_of u) new = accept_cases p s.log rest (h.log_of u) there piece (meet a.sound (ok.sound u)) (terms vs ok (ok.sound u)) in
    let all : Agree (p + length rest) new (h.log_of u) = accept_agree piece.within acc in
    let whole : Agree j new (h.log_of u) = agree_down j (omega (arith, length-drop (p - prev.index) es)) all in
    let b1 : BaseOk vs h me u s.vote new s.commit = accept_base ok m.leads piece.within acc (base s a) in
    let k = min commit j in
    let c : Committed vs h new u (max s.commit k) = committed_max s.commit k b1.settled (committed_along vs u k (omega arith) (omega arith) (agree_sym (agree_down k (omega arith) whole)) m.settled) in
    let b2 : BaseOk vs h me u s.vote new (max s.commit k) = base_commit (max s.commit k) c b1 in
    let front = agree_trans (committed_in ok m.leads b1.settled) (agree_sym (committed_in ok m.leads a.commit)) in
    let low = a.snaps.applied in
    acking me (with_log (as_follower s from) new (max s.commit k)) from j ok (λ x. off x) (λ x. off x) b2
    (record { base = a.snaps.base; applied = omega arith; term = agree_term s.snapshot.index low front ∙ a.snaps.term })
    whole

pub on_append_fine : {vs : Setup} {h : Hist} (me : ℕ) (s : Node) (from : ℕ) (prev : LogEnd) (commit : ℕ) (es : List Entry) → HistOk vs h → NodeOk vs h me s → AppendOk vs h s.term prev commit es → Fine vs h me (on_append me s from prev commit es)
unfolding on_append
on_append_fine {vs} {h} me s from prev commit es ok a m =
    cond_both (is_leader s.role) _ _ (Fine vs h me) (λ e. still s [] ok a tt)
    (λ e. cond_both (agrees s prev) _ _ (Fine vs h me)
    (λ x. cond_both (replaces_committed s prev es) _ _ (Fine vs h me) (λ y. still s [] ok a tt)
    (λ y. takes_fine me s from prev commit es ok a m x))
    (λ x. still (as_follower s from) _ ok (follower_ok s from a) (tt, tt)))
