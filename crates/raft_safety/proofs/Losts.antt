-- No run has a message that a rule calls lost.
use Rattle.std.proofs.Common.{◌≡◌, ◌≢◌, ◌⊎◌, inl, inr, ℕ, suc, ◌+◌, ◌-◌, ◌<◌, ◌≤◌, max, true, false, cond, List, [], ◌∷◌, length, drop, refl, sym, ap, ◌∙◌, subst, ⊎_elim, arith}
use Rattle.std.specs.Prelude.{◌==◌, nat_lt}
use Rattle.std.proofs.lemmas.Bool.{cases_Bool, cond_both, cond-true, cond-false, eqb-false, eq-eqb, ne_eqb, ltb-true, ltb-false, leb-true, and_parts}
use Rattle.raft_spec.specs.Log.{Entry, LogEnd, nth_term, term_at, conflict_place, first_replaced, first_replaced_above}
use Rattle.raft_spec.specs.Node.{What, AskVote, Vote, Append, Ack, Install, TimeoutNow, Node, is_leader}
use Rattle.raft_spec.specs.Outcomes.{in_newer_term}
use Rattle.raft_spec.specs.Replication.{agrees, replaces_committed}
use Rattle.raft_safety.specs.Members.{Setup}
use Rattle.raft_safety.specs.World.{run}
use Rattle.raft_safety.specs.Lost.{IsNotLost, NoneLost}
use Rattle.raft_safety.proofs.Logs.{Piece, agree_term, nth_at, piece_nth}
use Rattle.raft_safety.proofs.History.{Hist, HistOk, NodeOk, WhatOk, AppendOk}
use Rattle.raft_safety.proofs.Accepts.{committed_in}
use Rattle.raft_safety.proofs.Appends.{floor_piece, agrees_there}
use Rattle.raft_safety.proofs.Reaches.{in_term_ok}
use Rattle.raft_safety.proofs.Worlds.{moments, at_number}

-- if two lists of entries first clash their terms differ
record Clash (rest es : List Entry) (c : ℕ) : Type 0 where
  at : ℕ
  is : c ≡ suc at
  within : at < length es
  differ : nth_term rest at ≢ nth_term es at

conflict_at : (rest es : List Entry) → (conflict_place rest es ≡ 0) ⊎ Clash rest es (conflict_place rest es)
unfolding conflict_place
conflict_at [] [] = inl refl
conflict_at (r ∷ rs) [] = inl refl
conflict_at [] (e ∷ es) = inl refl
conflict_at (r ∷ rs) (e ∷ es) =
    let C : ℕ → Type 0 = λ c. (c ≡ 0) ⊎ Clash (r ∷ rs) (e ∷ es) c in
    cond_both (r.term == e.term) _ _ C
    (λ t. cond_both (conflict_place rs es == 0) _ _ C (λ z. inl refl)
    (λ z. ⊎_elim (λ (x : conflict_place rs es ≡ 0). absurd (eqb-false _ _ z x))
    (λ (x : Clash rs es (conflict_place rs es)). inr (record { at = suc x.at; is = ap suc x.is; within = let w = x.within in omega arith; differ = x.differ }))
    (conflict_at rs es)))
    (λ f. inr (record { at = 0; is = refl; within = omega arith; differ = eqb-false _ _ f }))

cut_differs : (p : ℕ) (xs es ys : List Entry) → Piece p es ys → 0 < first_replaced xs p es → term_at xs (first_replaced xs p es) ≢ term_at ys (first_replaced xs p es)
unfolding first_replaced
cut_differs p xs es ys piece pos =
    ⊎_elim
    (λ (z : conflict_place (drop p xs) es ≡ 0). absurd (let e = cond-true (conflict_place (drop p xs) es == 0) 0 (p + conflict_place (drop p xs) es) (eq z) in omega arith))
    (λ (c : Clash (drop p xs) es (conflict_place (drop p xs) es)).
    let same = c.is in
    let e = cond-false (conflict_place (drop p xs) es == 0) 0 (p + conflict_place (drop p xs) es) (ne_eqb _ _ (λ z. let q = sym c.is ∙ z in omega arith)) in
    let at : cond (conflict_place (drop p xs) es == 0) 0 (p + conflict_place (drop p xs) es) ≡ suc (p + c.at) = omega arith in
    λ q. c.differ (nth_at p c.at xs ∙ ap (term_at xs) (sym at) ∙ q ∙ ap (term_at ys) at ∙ sym (piece_nth p c.at es ys piece c.within)))
    (conflict_at (drop p xs) es)
  where
    eq : conflict_place (drop p xs) es ≡ 0 → (conflict_place (drop p xs) es == 0) ≡ true
    eq z = eq-eqb _ _ z

-- a leader of the term isn't the node that the leader's message is for
not_leader : {vs : Setup} {h : Hist} (n to : ℕ) (s : Node) → n ≡ to → NodeOk vs h n s → h.who s.term ≢ to → is_leader s.role ≡ false
not_leader n to s is a far = ⊎_elim (λ (e : is_leader s.role ≡ true). absurd (far ((a.leading e).who ∙ is))) (λ (e : is_leader s.role ≡ false). e) (cases_Bool (is_leader s.role))

cuts_none : {vs : Setup} {h : Hist} (n : ℕ) (s : Node) (prev : LogEnd) (commit : ℕ) (es : List Entry) → HistOk vs h → NodeOk vs h n s → AppendOk vs h s.term prev commit es → agrees s prev ≡ true → replaces_committed s prev es ≡ false
unfolding replaces_committed first_replaced_above
cuts_none {vs} {h} n s prev commit es ok a m match =
    let floor = s.snapshot.index in
    let p = max prev.index floor in
    let rest = drop (p - prev.index) es in
    let there = agrees_there s prev commit es ok a m match in
    let piece = floor_piece prev.index floor es (h.log_of s.term) m.piece (let x = there.in_right in omega arith) in
    let front = committed_in ok m.leads a.commit in
    ⊎_elim
    (λ (e : replaces_committed s prev es ≡ true).
    let q = and_parts _ _ e in
    let pos : 0 < first_replaced s.log p rest = ltb-true 0 (first_replaced s.log p rest) q.0 in
    let low : first_replaced s.log p rest ≤ s.commit = leb-true (first_replaced s.log p rest) s.commit q.1 in
    absurd (cut_differs p s.log rest (h.log_of s.term) piece pos (agree_term (first_replaced s.log p rest) low front)))
    (λ (e : replaces_committed s prev es ≡ false). e)
    (cases_Bool (replaces_committed s prev es))

not_lost : {vs : Setup} {h : Hist} (n : ℕ) (s : Node) (from to : ℕ) (w : What) → n ≡ to → HistOk vs h → NodeOk vs h n s → WhatOk vs h from to s.term w → IsNotLost s w
not_lost n s from to (Append prev commit es) is ok a m = (not_leader n to s is a m.0, cuts_none n s prev commit es ok a m.1)
not_lost n s from to (Install last front) is ok a m = not_leader n to s is a m.0
not_lost n s from to (Ack true index) is ok a m = λ lead. let l = a.leading lead in let b = ok.acks_within from s.term in omega (arith, m, ap length l.log)
not_lost n s from to (Ack false index) is ok a m = tt
not_lost n s from to (AskVote last transfer) is ok a m = tt
not_lost n s from to (Vote granted) is ok a m = tt
not_lost n s from to TimeoutNow is ok a m = tt

pub none_lost_holds : NoneLost
none_lost_holds vs es k m e le =
    let x = moments vs es [] in
    let s = (run vs es).nodes m.to in
    let a = x.world.nodes m.to in
    let ok = at_number vs x.first (run vs es).messages k m x.world.messages e in
    cond_both (nat_lt s.term m.term) (in_newer_term s m.term) s (λ z. IsNotLost z m.what)
    (λ t. not_lost m.to (in_newer_term s m.term) m.from m.to m.what refl x.world.hist (in_term_ok s m.term (ltb-true _ _ t) a) ok)
    (λ t.
    let ge = ltb-false _ _ t in
    let same : m.term ≡ s.term = omega arith in
    not_lost m.to s m.from m.to m.what refl x.world.hist a (subst (λ u. WhatOk vs x.first m.from m.to u m.what) same ok))
