-- A leader: acks, requests, its commit index, what it sends.
use Rattle.std.proofs.Common.{◌≡◌, ◌≢◌, ℕ, zero, suc, ◌-◌, ◌≤◌, min, max, Bool, true, false, cond, List, [], length, take, drop, sym, ap, ◌∙◌, subst, arith, length-drop}
use Rattle.std.specs.Prelude.{◌==◌, ◌&&◌, not, nat_lt, nat_le}
use Rattle.std.proofs.lemmas.List.{length-take, take_min, take_all}
use Rattle.std.proofs.lemmas.Bool.{cond_both, and_parts, eqb-true, leb-true, le-leb}
use Rattle.raft_spec.specs.Log.{Entry, term_at}
use Rattle.raft_spec.specs.Node.{Recipients, Only, Nobody, Everyone, Ack, Outcome, Node, Server, among, is_leader, majority, peers}
use Rattle.raft_spec.specs.Outcomes.{updated, with_log, with_progress, in_newer_term}
use Rattle.raft_spec.specs.Elections.{on_yield}
use Rattle.raft_spec.specs.Replication.{on_ack, on_beat, on_propose, on_transfer}
use Rattle.raft_spec.specs.Snapshots.{needs_snapshot}
use Rattle.raft_spec.specs.Membership.{on_servers, with_servers}
use Rattle.raft_spec.specs.Commitment.{commit_below, commit_index, has, majority_stores, is_stored_by_majority, commit_up_to}
use Rattle.raft_spec.specs.Steps.{serve, sends, advance_commit, message_to, finish, receivers}
use Rattle.raft_safety.specs.Members.{may_propose, Setup, voters_after}
use Rattle.raft_safety.proofs.Logs.{Agree, agree_refl}
use Rattle.raft_safety.proofs.Majorities.{majority_mono}
use Rattle.raft_safety.proofs.History.{Hist, HistOk, LeaderOk, NodeOk, AppendOk, InstallOk, WhatOk, MessageOk, Decided, Committed, decided}
use Rattle.raft_safety.proofs.Growth.{ne_along}
use Rattle.raft_safety.proofs.Bases.{base, with_base, base_commit, committed_within, committed_down}
use Rattle.raft_safety.proofs.Reaches.{all_among, off, all_append, still, in_term_ok}
use Rattle.raft_safety.proofs.Shapes.{Far, peers_far, index_up}
use Rattle.raft_safety.proofs.Changes.{fresh_fine}
use Rattle.raft_safety.proofs.Votes.{Fine, not_both, appends}

-- other progress at a leader
with_progress_ok : {vs : Setup} {h : Hist} {n : ℕ} (s : Node) (next match : ℕ → ℕ) → NodeOk vs h n s → is_leader s.role ≡ true → ((p : ℕ) → match p ≤ h.acked p s.term) → ((p : ℕ) → next p ≤ suc (length s.log)) → NodeOk vs h n (with_progress s next match)
with_progress_ok s next match a lead fits low =
    with_base (with_progress s next match) (base s a) (record { base = a.snaps.base; applied = a.snaps.applied; term = a.snaps.term }) (λ e. absurd (not_both s.role lead e))
    (λ e. let l = a.leading lead in record { id = l.id; who = l.who; log = l.log; own = l.own; matched = fits; next = low })

changed_le : (f : ℕ → ℕ) (p v q : ℕ) (bound : ℕ → ℕ) → v ≤ bound p → f q ≤ bound q → updated f p v q ≤ bound q
changed_le f p v q bound a b =
    cond_both (q == p) v (f q) (λ x. x ≤ bound q) (λ e. subst (λ k. v ≤ bound k) (sym (eqb-true _ _ e)) a) (λ e. b)

pub on_ack_fine : {vs : Setup} {h : Hist} (me : ℕ) (s : Node) (from : ℕ) (good : Bool) (index : ℕ) → HistOk vs h → NodeOk vs h me s → WhatOk vs h from me s.term (Ack good index) → Fine vs h me (on_ack me s from good index)
unfolding on_ack
on_ack_fine {vs} {h} me s from true index ok a w =
    cond_both (is_leader s.role && among (peers s.servers me) from && nat_le index (length s.log)) _ _ (Fine vs h me)
    (λ e.
    let p = and_parts _ _ e in
    let lead = (and_parts _ _ p.0).0 in
    let l = a.leading lead in
    let low : index ≤ length s.log = leb-true _ _ p.1 in
    let m = l.matched from in
    let b = ok.acks_within from s.term in
    let len = ap length l.log in
    still _ [] ok
    (with_progress_ok s (updated s.next_of from (suc (max (s.match_of from) index))) (updated s.match_of from (max (s.match_of from) index)) a lead
    (λ q. changed_le s.match_of from (max (s.match_of from) index) q (λ q. h.acked q s.term) (omega (arith, w)) (l.matched q))
    (λ q. changed_le s.next_of from (suc (max (s.match_of from) index)) q (λ q. suc (length s.log)) (omega arith) (l.next q)))
    tt)
    (λ e. still s [] ok a tt)
on_ack_fine {vs} {h} me s from false index ok a w =
    cond_both (is_leader s.role && among (peers s.servers me) from) _ _ (Fine vs h me)
    (λ e.
    let lead = (and_parts _ _ e).0 in
    let l = a.leading lead in
    let m = l.matched from in
    let b = ok.acks_within from s.term in
    let len = ap length l.log in
    let x = l.next from in
    still _ [] ok
    (with_progress_ok s (updated s.next_of from (max (suc (s.match_of from)) (min (s.next_of from - 1) (suc index)))) s.match_of a lead l.matched
    (λ q. changed_le s.next_of from (max (suc (s.match_of from)) (min (s.next_of from - 1) (suc index))) q (λ q. suc (length s.log)) (omega arith) (l.next q)))
    tt)
    (λ e. still s [] ok a tt)

-- what is proposed changes nothing, or what the world allows
pub on_propose_fine : {vs : Setup} {h : Hist} (me : ℕ) (s : Node) (es : List Entry) → HistOk vs h → NodeOk vs h me s → may_propose vs s es ≡ true → Fine vs h me (on_propose s es)
unfolding on_propose
on_propose_fine {vs} {h} me s es ok a m =
    cond_both (is_leader s.role) _ _ (Fine vs h me) (λ e. appends me s es ok e a (fresh_fine me s es ok (a.leading e) a m)) (λ e. still s [] ok a tt)

pub on_beat_fine : {vs : Setup} {h : Hist} (me : ℕ) (s : Node) → HistOk vs h → NodeOk vs h me s → Fine vs h me (on_beat s)
unfolding on_beat
on_beat_fine {vs} {h} me s ok a = cond_both (is_leader s.role) _ _ (Fine vs h me) (λ e. still s [] ok a tt) (λ e. still s [] ok a tt)

pub on_yield_fine : {vs : Setup} {h : Hist} (me : ℕ) (s : Node) → HistOk vs h → NodeOk vs h me s → Fine vs h me (on_yield s)
unfolding on_yield
on_yield_fine {vs} {h} me s ok a = cond_both (is_leader s.role && nat_lt s.term 4294967295) _ _ (Fine vs h me)
    (λ e. still (in_newer_term s (suc s.term)) [] ok (in_term_ok s (suc s.term) (omega arith) a) tt)
    (λ e. still s [] ok a tt)

pub on_transfer_fine : {vs : Setup} {h : Hist} (me : ℕ) (s : Node) (to : ℕ) → HistOk vs h → NodeOk vs h me s → Fine vs h me (on_transfer me s to)
unfolding on_transfer
on_transfer_fine {vs} {h} me s to ok a = cond_both (is_leader s.role && not (to == me)) _ _ (Fine vs h me) (λ e. still s _ ok a (tt, tt)) (λ e. still s [] ok a tt)

-- a majority has the entry
stored_decided : {vs : Setup} {h : Hist} (me : ℕ) (s : Node) (k : ℕ) → HistOk vs h → LeaderOk h me s → k ≤ length s.log → majority_stores (voters_after vs) me s k ≡ true → Decided vs h s.term k
unfolding majority_stores is_stored_by_majority
stored_decided {vs} {h} me s k ok l within e =
    let p = and_parts _ _ e in record {
      term = λ z. l.id (sym l.who ∙ ap h.who z ∙ ok.zero_term);
      entry = ap (λ xs. term_at xs k) l.log ∙ eqb-true _ _ p.0;
      upto = length s.log;
      covers = within;
      in_log = omega (arith, ap length l.log);
      quorum = subst (λ c. majority c (λ q. nat_le k (h.acked q s.term)) ≡ true) (ap (voters_after vs) (sym (take_all (length s.log) (h.log_of s.term) (omega (arith, ap length l.log)) ∙ l.log))) (majority_mono (voters_after vs s.log) (λ q. nat_le k (has me s q)) (λ q. nat_le k (h.acked q s.term))
          (λ q x. le-leb _ _ (let y = leb-true _ _ x in let z = has_le q in omega arith))
          p.1);
    }
  where
    has_le : (q : ℕ) → has me s q ≤ h.acked q s.term
    has_le q = cond_both (q == me) (length s.log) (s.match_of q) (λ x. x ≤ h.acked q s.term)
        (λ y. subst (λ k. length s.log ≤ h.acked k s.term) (sym (eqb-true _ _ y)) (omega (arith, l.own)))
        (λ y. l.matched q)

below_fine : {vs : Setup} {h : Hist} (me : ℕ) (s : Node) (k : ℕ) → HistOk vs h → NodeOk vs h me s → LeaderOk h me s → k ≤ length s.log → Committed vs h s.log s.term (commit_below (voters_after vs) me s k)
unfolding commit_below commit_up_to majority_stores
below_fine me s zero ok a l le = a.commit
below_fine {vs} {h} me s (suc k) ok a l le =
    let C = Committed vs h s.log s.term in
    cond_both (nat_lt s.commit (suc k)) _ _ C
    (λ e. cond_both (majority_stores (voters_after vs) me s (suc k)) _ _ C
    (λ x. decided s.term (suc k) (omega arith) (stored_decided me s (suc k) ok l le x) (omega arith) (subst (Agree (suc k) s.log) (sym l.log) (agree_refl (suc k) s.log le)))
    (λ x. below_fine me s k ok a l (omega arith)))
    (λ e. a.commit)

index_fine : {vs : Setup} {h : Hist} (me : ℕ) (s : Node) → HistOk vs h → NodeOk vs h me s → LeaderOk h me s → Committed vs h s.log s.term (commit_index (voters_after vs) me s)
unfolding commit_index
index_fine me s ok a l = below_fine me s (length s.log) ok a l (omega arith)

install_fine : {vs : Setup} {h : Hist} (me : ℕ) (s : Node) → NodeOk vs h me s → LeaderOk h me s → InstallOk vs h s.term s.snapshot (take s.snapshot.index s.log)
install_fine {vs} {h} me s a l = record {
  leads = ne_along _ _ l.who l.id;
  within = let x = committed_within a.commit in let y = a.snaps.applied in omega (arith, ap length l.log);
  same = ap (take s.snapshot.index) (sym l.log);
  term = ap (λ xs. term_at xs s.snapshot.index) l.log ∙ a.snaps.term;
  settled = subst (λ xs. Committed vs h xs s.term s.snapshot.index) (sym l.log) (committed_down s.snapshot.index a.snaps.applied a.commit);
}

append_fine : {vs : Setup} {h : Hist} (me : ℕ) (s : Node) (at : ℕ) → at ≤ length s.log → NodeOk vs h me s → LeaderOk h me s → AppendOk vs h s.term (record { index = at; term = term_at s.log at }) s.commit (take 16 (drop at s.log))
append_fine {vs} {h} me s at low a l =
    let es = take 16 (drop at s.log) in
    let len : length es ≤ length (drop at s.log) = omega (arith, length-take 16 (drop at s.log)) in
    record {
      leads = ne_along _ _ l.who l.id;
      piece = record {
        within = omega (arith, len, length-drop at s.log, ap length l.log);
        same = ap (λ xs. take (length es) (drop at xs)) l.log ∙ ap (λ n. take n (drop at s.log)) (length-take 16 (drop at s.log)) ∙ take_min 16 (drop at s.log);
      };
      follows = ap (λ xs. term_at xs at) l.log;
      settled = subst (λ xs. Committed vs h xs s.term s.commit) (sym l.log) a.commit;
    }

append_to_fine : {vs : Setup} {h : Hist} (me : ℕ) (s : Node) (p : ℕ) → p ≢ me → NodeOk vs h me s → LeaderOk h me s → MessageOk vs h (message_to me s p)
unfolding message_to
append_to_fine {vs} {h} me s p far a l =
    let n = l.next p in
    let other : h.who s.term ≢ p = λ e. far (sym e ∙ l.who) in
    cond_both (needs_snapshot s (s.next_of p)) _ _ (WhatOk vs h me p s.term) (λ e. (other, install_fine me s a l)) (λ e. (other, append_fine me s (s.next_of p - 1) (omega arith) a l))

-- a leader's receivers are others
receivers_far : (me : ℕ) (s : Node) (sp : Recipients) → Far me sp → (p : ℕ) → among (receivers me s sp) p ≡ true → p ≢ me
receivers_far me s Nobody f p e = off e
receivers_far me s Everyone f p e = peers_far s.servers me p e
receivers_far me s (Only ps) f p e = f p e

pub sends_fine : {vs : Setup} {h : Hist} (me : ℕ) (d : Outcome) → Far me d.recipients → is_leader d.node.role ≡ true → Fine vs h me d → Fine vs h me (sends me d)
sends_fine {vs} {h} me d far e r =
    let l = r.node.leading e in record {
      to = r.to;
      grows = r.grows;
      hist = r.hist;
      node = r.node;
      sent = all_append vs r.to d.out _ r.sent (all_among vs r.to (message_to me d.node) (receivers me d.node d.recipients) (λ p x. append_to_fine me d.node p (receivers_far me d.node d.recipients far p x) r.node l));
    }

commits_fine : {vs : Setup} {h : Hist} (me : ℕ) (d : Outcome) → is_leader d.node.role ≡ true → Fine vs h me d → Fine vs h me (advance_commit (voters_after vs) me d)
commits_fine {vs} {h} me d e r =
    let l = r.node.leading e in
    let c = commit_index (voters_after vs) me d.node in
    let s = with_log d.node d.node.log c in
    record {
      to = r.to;
      grows = r.grows;
      hist = r.hist;
      node = with_base s (base_commit c (index_fine me d.node r.hist r.node l) (base d.node r.node)) (record { base = r.node.snaps.base; applied = let x = index_up (voters_after vs) me d.node in let y = r.node.snaps.applied in omega arith; term = r.node.snaps.term }) (λ x. absurd (not_both d.node.role e x))
          (λ x. record { id = l.id; who = l.who; log = l.log; own = l.own; matched = l.matched; next = l.next });
      sent = r.sent;
    }

pub finish_fine : {vs : Setup} {h : Hist} (me : ℕ) (d : Outcome) → Far me d.recipients → Fine vs h me d → Fine vs h me (finish (voters_after vs) me d)
unfolding finish
finish_fine {vs} {h} me d far r =
    cond_both (is_leader d.node.role) _ _ (Fine vs h me) (λ e. sends_fine me (advance_commit (voters_after vs) me d) (cond_both (nat_lt d.node.commit (commit_index (voters_after vs) me d.node)) Everyone d.recipients (Far me) (λ x. tt) (λ x. far)) e (commits_fine me d e r)) (λ e. r)

pub serve_fine : {vs : Setup} {h : Hist} (me : ℕ) (d : Outcome) → Far me d.recipients → Fine vs h me d → Fine vs h me (serve me d)
unfolding serve
serve_fine {vs} {h} me d far r = cond_both (is_leader d.node.role) _ _ (Fine vs h me) (λ e. sends_fine me d far e r) (λ e. r)

pub on_servers_fine : {vs : Setup} {h : Hist} (me : ℕ) (s : Node) (servers : List Server) → HistOk vs h → NodeOk vs h me s → Fine vs h me (on_servers me s servers)
unfolding on_servers
on_servers_fine {vs} {h} me s servers ok a =
    let fit : NodeOk vs h me (with_servers me s servers) =
    with_base (with_servers me s servers) (base s a) (record { base = a.snaps.base; applied = a.snaps.applied; term = a.snaps.term })
    (λ x. let c = a.standing x in record { id = c.id; self = c.self; had = c.had; not_yet = c.not_yet; older = c.older; grants = c.grants })
    (λ x. let l = a.leading x in record {
      id = l.id;
      who = l.who;
      log = l.log;
      own = l.own;
      matched = λ p. cond_both (among (peers servers me) p && among (peers s.servers me) p) (s.match_of p) 0 (λ k. k ≤ h.acked p s.term) (λ y. l.matched p) (λ y. omega arith);
      next = λ p. cond_both (among (peers servers me) p) (cond (among (peers s.servers me) p) (s.next_of p) (suc (length s.log))) 1 (λ k. k ≤ suc (length s.log))
          (λ y. cond_both (among (peers s.servers me) p) (s.next_of p) (suc (length s.log)) (λ k. k ≤ suc (length s.log)) (λ z. l.next p) (λ z. omega arith))
          (λ y. omega arith);
    }) in
    cond_both (is_leader s.role) _ _ (Fine vs h me) (λ e. still (with_servers me s servers) [] ok fit tt) (λ e. still (with_servers me s servers) [] ok fit tt)
