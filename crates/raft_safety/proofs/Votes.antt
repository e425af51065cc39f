-- Standing, asking and answering for votes.
use Rattle.std.proofs.Common.{◌≡◌, ◌≢◌, ◌⊎◌, inl, inr, ℕ, suc, ◌≤◌, Bool, true, false, List, [], ◌∷◌, ◌++◌, length, refl, sym, ap, ◌∙◌, subst, ⊎_elim, arith, length-append, zero, ◌-◌, ◌<◌}
use Rattle.std.specs.Prelude.{◌==◌, ◌&&◌, not, map}
use Rattle.std.proofs.lemmas.Bool.{cases_eq, cond_both, and_parts, or_cases, or_left, or_right, eqb-true, or_parts}
use Rattle.raft_spec.specs.Log.{Entry, LogEnd, is_up_to_date, log_end, term_at}
use Rattle.raft_spec.specs.Node.{others, peers, AskVote, Candidate, Outcome, Follower, Leader, Message, Node, Role, Vote, among, is_candidate, is_leader, majority}
use Rattle.raft_spec.specs.Outcomes.{quiet, answer, barrier, with_term, says, with_grants, with_log, with_vote}
use Rattle.raft_spec.specs.Elections.{grants_vote, grants_with, ask_vote, as_candidate, on_grants, as_leader, may_start_election, on_ask_vote, on_vote, start_election, may_grant}
use Rattle.raft_safety.specs.Members.{Setup, any_change, change_at, voters_after, nth_change}
use Rattle.raft_safety.proofs.Logs.{Agree, agree_refl, agree_append, term_at-append}
use Rattle.raft_safety.proofs.History.{Hist, Sound, HistOk, CandidateOk, NodeOk, WhatOk, ChangeOk}
use Rattle.raft_safety.proofs.Confs.{change_at-new}
use Rattle.raft_safety.proofs.Completes.{first_leader}
use Rattle.raft_safety.proofs.Growth.{grows_trans, ne_along}
use Rattle.raft_safety.proofs.Casts.{cast, CastOk, cast_grows, cast_ok, cast_had}
use Rattle.raft_safety.proofs.Extends.{acked_to, AckOk, acked_grows, acked_ok, acked_here, longer, longer_here, longer_grows, longer_ok}
use Rattle.raft_safety.proofs.Elects.{elect, ElectOk, elect_who, elect_log, elect_grows, elect_ok}
use Rattle.raft_safety.proofs.Bases.{BaseOk, base, with_base, base_term, base_later, base_cast, base_ack, base_longer, committed_within}
use Rattle.raft_safety.proofs.Shapes.{stands_id}
use Rattle.raft_safety.proofs.Reaches.{AllOk, all_map, Reach, still, before, saying, off}

abbrev pub Fine : Setup → Hist → ℕ → Outcome → Type 0
Fine vs h n d = Reach vs h n d.node d.out

-- the first ballot in the own term
first_ballot : {vs : Setup} {h : Hist} {n : ℕ} (s : Node) (c : ℕ) → s.vote ≡ 0 → c ≢ 0 → ((c ≡ n) ⊎ ((h.ballot c s.term ≡ c) × (is_up_to_date (log_end (h.had c s.term)) (log_end s.log) ≡ true))) → NodeOk vs h n s → CastOk h n s.term c s.log
first_ballot s c z nz stood a = record {
  free = a.vote ∙ z;
  some = nz;
  stood = stood;
  sound = a.sound;
  weak = λ t i lt tz le x. a.acks t i tz le x;
}

-- a node without a vote is no candidate and no leader
no_candidate : {vs : Setup} {h : Hist} {n : ℕ} (s : Node) → s.vote ≡ 0 → NodeOk vs h n s → is_candidate s.role ≡ true → ⊥
no_candidate s z a e = let c = a.standing e in c.id (sym c.self ∙ z)

no_leader : {vs : Setup} {h : Hist} {n : ℕ} (s : Node) → s.vote ≡ 0 → HistOk vs h → NodeOk vs h n s → is_leader s.role ≡ true → ⊥
no_leader {vs} {h} {n} s z ok a e =
    let l = a.leading e in
    let leads : h.who s.term ≢ 0 = ne_along _ _ l.who l.id in
    let mine = ok.own s.term leads in
    l.id (sym l.who ∙ sym mine ∙ ap (λ k. h.ballot k s.term) l.who ∙ a.vote ∙ z)

pub on_ask_fine : (transfer : Bool) {vs : Setup} {h : Hist} (me : ℕ) (s : Node) (from : ℕ) (last : LogEnd) → HistOk vs h → NodeOk vs h me s
    → WhatOk vs h from me s.term (AskVote last transfer) → Fine vs h me (on_ask_vote me s from last)
unfolding on_ask_vote may_grant
on_ask_fine transfer {vs} {h} me s from last ok a w =
    cond_both (grants_vote s from last) _ _ (Fine vs h me)
    (λ e. let p = and_parts _ _ e in ⊎_elim (λ (x : (s.vote == 0) ≡ true). new (eqb-true _ _ x) p.1) (λ (x : (s.vote == from) ≡ true). again (eqb-true _ _ x)) (or_cases _ _ p.0))
    (λ e. still s _ ok a (tt, tt))
  where
    again : s.vote ≡ from → Fine vs h me (says (with_vote s from) (answer me s from (Vote true)))
    again e = still (with_vote s from) _ ok (subst (λ v. NodeOk vs h me (with_vote s v)) e a) ((w.0, a.vote ∙ e), tt)

    new : s.vote ≡ 0 → is_up_to_date last (log_end s.log) ≡ true → Fine vs h me (says (with_vote s from) (answer me s from (Vote true)))
    new z n =
        let c = first_ballot s from z w.0 (inr (w.1, ap (λ x. is_up_to_date x (log_end s.log)) w.2 ∙ n)) a in
        let b = base_cast from ok c (subst (λ v. BaseOk vs h me s.term v s.log s.commit) z (base s a)) in
        record {
          to = cast h me s.term from s.log;
          grows = cast_grows h me s.term from s.log c;
          hist = cast_ok vs h me s.term from s.log ok c;
          node = with_base (with_vote s from) b (record { base = a.snaps.base; applied = a.snaps.applied; term = a.snaps.term }) (λ e. absurd (no_candidate s z a e)) (λ e. absurd (no_leader s z ok a e));
          sent = ((w.0, b.voted), tt);
        }

pub not_both : (r : Role) → is_leader r ≡ true → is_candidate r ≡ true → ⊥
not_both Leader a b = off b
not_both Candidate a b = off a
not_both Follower a b = off a

-- a leader appends entries of its term
pub appends : {vs : Setup} {h : Hist} (n : ℕ) (s : Node) (es : List Entry) → HistOk vs h → is_leader s.role ≡ true → NodeOk vs h n s → ((j : ℕ) → length (h.log_of s.term) < j → change_at vs ((longer h s.term es).log_of s.term) j ≡ true → ChangeOk vs (longer h s.term es) s.term j) → Reach vs h n (with_log s (s.log ++ with_term s.term es) s.commit) []
unfolding longer acked_to
appends {vs} {h} n s es ok lead a fresh =
    let l = a.leading lead in
    let g = longer h s.term es in
    let grow = longer_grows h n s.term es l.id l.who in
    let hist = longer_ok vs h n s.term es ok l.id l.who fresh in
    let new = s.log ++ with_term s.term es in
    let log : g.log_of s.term ≡ new = longer_here h s.term es ∙ ap (λ xs. xs ++ with_term s.term es) l.log in
    let len : length s.log ≤ length new = omega (arith, length-append s.log (with_term s.term es)) in
    let whole : Agree (length new) new (g.log_of s.term) = subst (λ xs. Agree (length new) new xs) (sym log) (agree_refl (length new) new (omega arith)) in
    let ack : AckOk g n s.term (length new) = record { more = omega (arith, l.own); within = whole.in_right; now = a.later } in
    let b1 : BaseOk vs g n s.term s.vote s.log s.commit = base_later ok grow.later (λ u. refl) (λ t. refl) (base s a) in
    let b2 : BaseOk vs g n s.term s.vote new s.commit = base_longer new (agree_append (length s.log) s.log (with_term s.term es) (omega arith)) (subst (Sound g) log (hist.sound s.term)) (λ i. subst (λ xs. term_at xs i ≤ s.term) log (hist.below s.term i)) b1 in
    let more = acked_grows g n s.term (length new) ack in
    let all = grows_trans n h g (acked_to g n s.term (length new)) grow more in
    record {
      to = acked_to g n s.term (length new);
      grows = all;
      hist = acked_ok vs g n s.term (length new) hist ack;
      node = with_base (with_log s new s.commit) (base_ack (length new) hist ack whole b2) (record { base = a.snaps.base; applied = a.snaps.applied; term = term_at-append s.log (with_term s.term es) s.snapshot.index (let x = committed_within a.commit in let y = a.snaps.applied in omega arith) ∙ a.snaps.term }) (λ e. absurd (not_both s.role lead e))
          (λ e. record {
            id = l.id;
            who = l.who;
            log = log;
            own = acked_here g n s.term (length new);
            matched = λ p. let x = l.matched p in let y = all.later.acks p s.term in omega arith;
            next = λ p. let x = l.next p in omega arith;
          });
      sent = tt;
    }

-- entries of which none changes the voters
pub no_fresh : {vs : Setup} (h : Hist) (u : ℕ) (es : List Entry) → any_change vs es ≡ false → (j : ℕ) → length (h.log_of u) < j → change_at vs ((longer h u es).log_of u) j ≡ true → ChangeOk vs (longer h u es) u j
no_fresh {vs} h u es none j lt c =
    off (sym (ap (λ xs. change_at vs xs j) (longer_here h u es) ∙ change_at-new vs (h.log_of u) (with_term u es) j lt ∙ quiet es none (j - suc (length (h.log_of u)))) ∙ c)
  where
    quiet : (es : List Entry) → any_change vs es ≡ false → (k : ℕ) → nth_change vs (with_term u es) k ≡ false
    quiet [] n k = refl
    quiet (e ∷ es) n zero = (or_parts _ _ n).0
    quiet (e ∷ es) n (suc k) = quiet es (or_parts _ _ n).1 k

-- a candidate with a majority is the first leader of its term
free_term : {vs : Setup} {h : Hist} (n : ℕ) (s : Node) → HistOk vs h → CandidateOk h n s → NodeOk vs h n s → majority (voters_after vs s.log) (among s.grants) ≡ true → h.who s.term ≡ 0
free_term {vs} {h} n s ok c a m =
    ⊎_elim (λ (e : h.who s.term ≡ 0). e)
    (λ (e : h.who s.term ≢ 0). absurd (c.not_yet (first_leader vs h n s.term s.log (among s.grants) ok c.id c.had a.sound c.older c.grants m e)))
    (cases_eq (h.who s.term) 0)

crown : {vs : Setup} {h : Hist} (n : ℕ) (s : Node) → HistOk vs h → CandidateOk h n s → NodeOk vs h n s → majority (voters_after vs s.log) (among s.grants) ≡ true → Reach vs h n (as_leader n s) []
unfolding elect acked_to
crown {vs} {h} n s ok c a m =
    let free = free_term n s ok c a m in
    let e : ElectOk vs h n s.term (among s.grants) s.log = record { free = free; id = c.id; self = a.vote ∙ c.self; had = c.had; older = c.older; quorum = m; counts = c.grants } in
    let g = elect h n s.term (among s.grants) s.log in
    let grow = elect_grows vs h n s.term (among s.grants) s.log ok e in
    let hist = elect_ok vs h n s.term (among s.grants) s.log ok e in
    let log : g.log_of s.term ≡ s.log = elect_log h n s.term (among s.grants) s.log in
    let whole : Agree (length s.log) s.log (g.log_of s.term) = subst (λ xs. Agree (length s.log) s.log xs) (sym log) (agree_refl (length s.log) s.log (omega arith)) in
    let nil = ap length (ok.none s.term free) in
    let none = ok.acks_within n s.term in
    let ack : AckOk g n s.term (length s.log) = record { more = omega arith; within = whole.in_right; now = a.later } in
    let b1 : BaseOk vs g n s.term s.vote s.log s.commit = base_later ok grow.later (λ u. refl) (λ t. refl) (base s a) in
    let more = acked_grows g n s.term (length s.log) ack in
    record {
      to = acked_to g n s.term (length s.log);
      grows = grows_trans n h g (acked_to g n s.term (length s.log)) grow more;
      hist = acked_ok vs g n s.term (length s.log) hist ack;
      node = with_base (as_leader n s) (base_ack (length s.log) hist ack whole b1) (record { base = a.snaps.base; applied = a.snaps.applied; term = a.snaps.term }) (λ x. off x)
          (λ x. record {
            id = c.id;
            who = elect_who h n s.term (among s.grants) s.log;
            log = log;
            own = acked_here g n s.term (length s.log);
            matched = λ p. omega arith;
            next = λ p. cond_both (among (peers s.servers n) p) (suc (length s.log)) 1 (λ k. k ≤ suc (length s.log)) (λ y. omega arith) (λ y. omega arith);
          });
      sent = tt;
    }

pub counted_fine : {vs : Setup} {h : Hist} (n : ℕ) (s : Node) (out : List Message) → HistOk vs h → CandidateOk h n s → NodeOk vs h n s → AllOk vs h out → Fine vs h n (on_grants (voters_after vs) n s out)
unfolding on_grants
counted_fine {vs} {h} n s out ok c a fit =
    cond_both (majority (voters_after vs s.log) (among s.grants)) _ _ (Fine vs h n)
    (λ m. let r = crown n s ok c a m in saying out fit (before r.grows (appends n (as_leader n s) (barrier 0 ∷ []) r.hist refl r.node (no_fresh r.to s.term (barrier 0 ∷ []) refl))))
    (λ m. still s out ok a fit)

among_append : (xs : List ℕ) (y g : ℕ) → among (xs ++ y ∷ []) g ≡ true → (y ≡ g) ⊎ (among xs g ≡ true)
among_append [] y g e = ⊎_elim (λ (x : (y == g) ≡ true). inl (eqb-true _ _ x)) (λ (x : false ≡ true). off x) (or_cases _ _ e)
among_append (x ∷ xs) y g e =
    ⊎_elim (λ (q : (x == g) ≡ true). inr (or_left _ _ q))
    (λ (q : among (xs ++ y ∷ []) g ≡ true). ⊎_elim (λ (r : y ≡ g). inl r) (λ (r : among xs g ≡ true). inr (or_right _ _ r)) (among_append xs y g q))
    (or_cases _ _ e)

granted_one : (vs grants : List ℕ) (from g : ℕ) → among (grants_with vs grants from) g ≡ true → (from ≡ g) ⊎ (among grants g ≡ true)
unfolding grants_with
granted_one vs grants from g e =
    cond_both (among vs from && not (among grants from)) (grants ++ from ∷ []) grants (λ l. among l g ≡ true → (from ≡ g) ⊎ (among grants g ≡ true))
    (λ c x. among_append grants from g x)
    (λ c x. inr x)
    e

pub on_vote_fine : {vs : Setup} {h : Hist} (me : ℕ) (s : Node) (from : ℕ) (granted : Bool) → HistOk vs h → NodeOk vs h me s → WhatOk vs h from me s.term (Vote granted) → Fine vs h me (on_vote (voters_after vs) me s from granted)
unfolding on_vote
on_vote_fine {vs} {h} me s from false ok a w = still s [] ok a tt
on_vote_fine {vs} {h} me s from true ok a w =
    cond_both (is_candidate s.role) (on_grants (voters_after vs) me (with_grants s (grants_with (voters_after vs s.log) s.grants from)) []) (quiet s) (Fine vs h me)
    (λ e.
    let c = a.standing e in
    let t = with_grants s (grants_with (voters_after vs s.log) s.grants from) in
    let d : CandidateOk h me t = record {
      id = c.id;
      self = c.self;
      had = c.had;
      not_yet = c.not_yet;
      older = c.older;
      grants = λ g x. ⊎_elim (λ (y : from ≡ g). ap (λ k. h.ballot k s.term) (sym y) ∙ w.1) (λ (y : among s.grants g ≡ true). c.grants g y) (granted_one (voters_after vs s.log) s.grants from g x);
    } in
    counted_fine me t [] ok d (with_base t (base s a) (record { base = a.snaps.base; applied = a.snaps.applied; term = a.snaps.term }) (λ x. d) (λ l. absurd (not_both s.role l e))) tt)
    (λ e. still s [] ok a tt)

may_stand_voter : (vs : Setup) (me : ℕ) (s : Node) → may_start_election (voters_after vs) me s ≡ true → me ≢ 0
may_stand_voter vs me s e = let l : 0 < me = stands_id (voters_after vs) me s e in omega arith

pub stand_fine : (transfer : Bool) {vs : Setup} {h : Hist} (me : ℕ) (s : Node) → HistOk vs h → NodeOk vs h me s
    → Fine vs h me (start_election (voters_after vs) me s transfer)
unfolding start_election cast
stand_fine transfer {vs} {h} me s ok a =
    cond_both (may_start_election (voters_after vs) me s) _ _ (Fine vs h me) (λ e. up (may_stand_voter vs me s e)) (λ e. still s [] ok a tt)
  where
    up : me ≢ 0
        → Fine vs h me (on_grants (voters_after vs) me (as_candidate me s) (map (ask_vote me (as_candidate me s) transfer) (others (voters_after vs s.log) me)))
    up id =
        let t = suc s.term in
        let b0 : BaseOk vs h me t 0 s.log s.commit = base_term t (omega arith) (base s a) in
        let cast_in : CastOk h me t me s.log = record { free = b0.voted; some = id; stood = inl refl; sound = a.sound; weak = λ v i lt nz le x. b0.acks v i nz le x } in
        let g = cast h me t me s.log in
        let b = base_cast me ok cast_in b0 in
        let mine : g.ballot me t ≡ me = b.voted in
        let log : g.had me t ≡ s.log = cast_had h me t me s.log in
        let c : CandidateOk g me (as_candidate me s) = record {
          id = id;
          self = refl;
          had = log;
          not_yet = λ w. id (sym w ∙ sym (ok.own t (ne_along _ _ w id)) ∙ ap (λ k. h.ballot k t) w ∙ a.later t (omega arith));
          older = λ i. let x = a.below i in omega arith;
          grants = λ v x. ⊎_elim (λ (y : (me == v) ≡ true). ap (λ k. g.ballot k t) (sym (eqb-true _ _ y)) ∙ mine) (λ (y : false ≡ true). off y) (or_cases _ _ x);
        } in
        before (cast_grows h me t me s.log cast_in) (counted_fine me (as_candidate me s) _ (cast_ok vs h me t me s.log ok cast_in) c (with_base (as_candidate me s) b (record { base = a.snaps.base; applied = a.snaps.applied; term = a.snaps.term }) (λ x. c) (λ x. off x))
        (all_map vs g (ask_vote me (as_candidate me s) transfer) _ (λ v. (id, mine, ap log_end log))))
