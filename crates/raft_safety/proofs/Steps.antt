-- One step of a node, and the acts of its account: whatever front of them stands is fit.
use Rattle.std.proofs.Common.{append_assoc, ◌≡◌, ℕ, zero, suc, ◌+◌, ◌-◌, ◌<◌, ◌≤◌, true, List, [], ◌∷◌, ◌++◌, length, length-append, take, refl, sym, ap, ◌∙◌, subst, ⊎_elim, inl, arith}
use Rattle.std.specs.Prelude.{false, nat_lt}
use Rattle.std.proofs.lemmas.Bool.{cond_both, cases_lt, ltb-true, ltb-false}
use Rattle.std.proofs.lemmas.List.{take-append-le}
use Rattle.raft_spec.specs.Node.{Outcome, What, AskVote, Vote, Append, Ack, Install, TimeoutNow, Message, Node, Timeout, Beat, Yield, Propose, Transfer, Snapped, UseServers, Input, Local, Receive}
use Rattle.raft_spec.specs.Outcomes.{in_newer_term}
use Rattle.raft_spec.specs.Receiving.{on_own_term, on_older_term, in_range, on_message}
use Rattle.raft_spec.specs.Steps.{raft_step}
use Rattle.raft_spec.specs.Account.{Stored, stored_of, Act, Restore, enact, enacted, applies, applying, step_acts, steps, said, account}
use Rattle.raft_safety.specs.Members.{Setup, voters_after, may_take, member_step}
use Rattle.raft_safety.specs.Stages.{past, between, WholeAccount, StopsBefore, StopsAtMeta, StopsAtLog}
use Rattle.raft_safety.proofs.History.{Hist, HistOk, NodeOk, WhatOk, MessageOk}
use Rattle.raft_safety.proofs.Growth.{Later, later_refl, Grows, grows_refl, grows_trans, what_later}
use Rattle.raft_safety.proofs.Casts.{cast, CastOk, cast_grows, cast_ok}
use Rattle.raft_safety.proofs.Bases.{BaseOk, base, base_term, base_cast, base_commit, committed_down}
use Rattle.raft_safety.proofs.Reaches.{all_append, all_later, Reach, still, in_term_ok, StoredOk, stored_ok}
use Rattle.raft_safety.proofs.Shapes.{Apart, logs, metas, took, stood, Plain, quiet_plain, rule_of, rule_plain, step_plain}
use Rattle.raft_safety.proofs.Votes.{Fine, on_ask_fine, on_vote_fine, stand_fine}
use Rattle.raft_safety.proofs.Appends.{on_append_fine}
use Rattle.raft_safety.proofs.Snaps.{on_install_fine, on_snap_fine}
use Rattle.raft_safety.proofs.Leads.{on_ack_fine, on_propose_fine, on_beat_fine, on_yield_fine, on_transfer_fine, on_servers_fine, finish_fine, serve_fine}

in_turn_fine : {vs : Setup} {h : Hist} (me : ℕ) (s : Node) (from : ℕ) (w : What) → HistOk vs h → NodeOk vs h me s → WhatOk vs h from me s.term w → Fine vs h me (on_own_term (voters_after vs) me s from w)
in_turn_fine me s from (AskVote last transfer) ok a w = on_ask_fine transfer me s from last ok a w
in_turn_fine me s from (Vote granted) ok a w = on_vote_fine me s from granted ok a w
in_turn_fine me s from (Append prev commit es) ok a w = on_append_fine me s from prev commit es ok a w.1
in_turn_fine me s from (Ack good index) ok a w = on_ack_fine me s from good index ok a w
in_turn_fine me s from (Install last front) ok a w = on_install_fine me s from last front ok a w.1
in_turn_fine me s from TimeoutNow ok a w = stand_fine true me s ok a

stale_fine : {vs : Setup} {h : Hist} (me : ℕ) (s : Node) (from : ℕ) (w : What) → HistOk vs h → NodeOk vs h me s → Fine vs h me (on_older_term me s from w)
stale_fine me s from (AskVote last transfer) ok a = still s _ ok a (tt, tt)
stale_fine me s from (Vote granted) ok a = still s [] ok a tt
stale_fine me s from (Append prev commit es) ok a = still s _ ok a (tt, tt)
stale_fine me s from (Install last front) ok a = still s _ ok a (tt, tt)
stale_fine me s from (Ack good index) ok a = still s [] ok a tt
stale_fine me s from TimeoutNow ok a = still s [] ok a tt

on_message_fine : {vs : Setup} {h : Hist} (s : Node) (m : Message) → HistOk vs h → NodeOk vs h m.to s → MessageOk vs h m → Fine vs h m.to (on_message (voters_after vs) m.to s m)
unfolding on_message
on_message_fine {vs} {h} s m ok a w =
    let F = Fine vs h m.to in
    cond_both (in_range s.term m) _ _ F
    (λ e. cond_both (nat_lt m.term s.term) _ _ F (λ x. stale_fine m.to s m.from m.what ok a)
    (λ x. cond_both (nat_lt s.term m.term) _ _ F
    (λ y. in_turn_fine m.to (in_newer_term s m.term) m.from m.what ok (in_term_ok s m.term (ltb-true _ _ y) a) w)
    (λ y.
    let p = ltb-false _ _ x in
    let q = ltb-false _ _ y in
    let same : m.term ≡ s.term = omega arith in
    in_turn_fine m.to s m.from m.what ok a (subst (λ t. WhatOk vs h m.from m.to t m.what) same w))))
    (λ e. still s [] ok a tt)

-- what is to be known of what a node takes in
abbrev pub InputOk : Setup → Hist → ℕ → Input → Type 0
InputOk vs h n (Local local) = Unit {0}
InputOk vs h n (Receive m) = (m.to ≡ n) × MessageOk vs h m

abbrev pub InputsOk : Setup → Hist → ℕ → List Input → Type 0
InputsOk vs h n [] = Unit {0}
InputsOk vs h n (i ∷ is) = InputOk vs h n i × InputsOk vs h n is

input_later : {h g : Hist} (vs : Setup) (n : ℕ) (i : Input) → Later h g → InputOk vs h n i → InputOk vs g n i
input_later vs n (Local local) l w = tt
input_later vs n (Receive m) l w = (w.0, what_later vs m.from m.to m.term m.what l w.1)

pub inputs_later : {h g : Hist} (vs : Setup) (n : ℕ) (is : List Input) → Later h g → InputsOk vs h n is → InputsOk vs g n is
inputs_later vs n [] l w = tt
inputs_later vs n (i ∷ is) l w = (input_later vs n i l w.0, inputs_later vs n is l w.1)

pub rule_fine : {vs : Setup} {h : Hist} (n : ℕ) (s : Node) (i : Input) → HistOk vs h → NodeOk vs h n s → InputOk vs h n i → may_take vs s i ≡ true → Fine vs h n (rule_of (voters_after vs) n s i)
rule_fine n s (Local Timeout) ok a w m = stand_fine false n s ok a
rule_fine n s (Local Beat) ok a w m = on_beat_fine n s ok a
rule_fine n s (Local Yield) ok a w m = on_yield_fine n s ok a
rule_fine n s (Local (Propose es)) ok a w m = on_propose_fine n s es ok a m
rule_fine n s (Local (Transfer to)) ok a w m = on_transfer_fine n s to ok a
rule_fine n s (Local (Snapped i)) ok a w m = on_snap_fine n s i ok a
rule_fine n s (Local (UseServers servers)) ok a w m = on_servers_fine n s servers ok a
rule_fine {vs} {h} n s (Receive m) ok a w x =
    subst (λ k. Fine vs h k (on_message (voters_after vs) k s m)) w.0 (on_message_fine s m ok (subst (λ k. NodeOk vs h k s) (sym w.0) a) w.1)

pub raft_fine : {vs : Setup} {h : Hist} (n : ℕ) (s : Node) (i : Input) → HistOk vs h → NodeOk vs h n s → InputOk vs h n i → may_take vs s i ≡ true → Fine vs h n (raft_step (voters_after vs) n s i)
unfolding raft_step
raft_fine {vs} n s (Local Timeout) ok a w m = finish_fine n _ (rule_plain (voters_after vs) n s (Local Timeout)).far (rule_fine n s (Local Timeout) ok a w m)
raft_fine {vs} n s (Local Beat) ok a w m = finish_fine n _ (rule_plain (voters_after vs) n s (Local Beat)).far (rule_fine n s (Local Beat) ok a w m)
raft_fine {vs} n s (Local Yield) ok a w m = finish_fine n _ (rule_plain (voters_after vs) n s (Local Yield)).far (rule_fine n s (Local Yield) ok a w m)
raft_fine {vs} n s (Local (Propose es)) ok a w m = finish_fine n _ (rule_plain (voters_after vs) n s (Local (Propose es))).far (rule_fine n s (Local (Propose es)) ok a w m)
raft_fine {vs} n s (Local (Transfer to)) ok a w m = finish_fine n _ (rule_plain (voters_after vs) n s (Local (Transfer to))).far (rule_fine n s (Local (Transfer to)) ok a w m)
raft_fine {vs} n s (Local (Snapped i)) ok a w m = finish_fine n _ (rule_plain (voters_after vs) n s (Local (Snapped i))).far (rule_fine n s (Local (Snapped i)) ok a w m)
raft_fine {vs} n s (Local (UseServers servers)) ok a w m = serve_fine n _ (rule_plain (voters_after vs) n s (Local (UseServers servers))).far (rule_fine n s (Local (UseServers servers)) ok a w m)
raft_fine {vs} n s (Receive g) ok a w m = finish_fine n _ (rule_plain (voters_after vs) n s (Receive g)).far (rule_fine n s (Receive g) ok a w m)

pub step_fine : {vs : Setup} {h : Hist} (n : ℕ) (s : Node) (i : Input) → HistOk vs h → NodeOk vs h n s → InputOk vs h n i → Fine vs h n (member_step vs n s i)
unfolding member_step
step_fine {vs} {h} n s i ok a w = cond_both (may_take vs s i) _ _ (Fine vs h n) (λ e. raft_fine n s i ok a w e) (λ e. still s [] ok a tt)

pub member_plain : (vs : Setup) (n : ℕ) (s : Node) (i : Input) → Plain n s (member_step vs n s i)
unfolding member_step
member_plain vs n s i = cond_both (may_take vs s i) _ _ (Plain n s) (λ e. step_plain (voters_after vs) n s i) (λ e. quiet_plain n s)

-- what the node has stored stands, with some later history
pub record Stands (vs : Setup) (h : Hist) (n : ℕ) (x : Stored) : Type 0 where
  pub to : Hist
  pub grows : Grows n h to
  pub hist : HistOk vs to
  pub fit : StoredOk vs to n x

pub stands_still : {vs : Setup} {h : Hist} {n : ℕ} (s : Node) → HistOk vs h → NodeOk vs h n s → Stands vs h n (stored_of s)
stands_still {vs} {h} {n} s ok a = record { to = h; grows = grows_refl n h; hist = ok; fit = stored_ok s a }

-- the whole step, with less applied
stands_whole : {vs : Setup} {h : Hist} {n : ℕ} (t : Node) (k : ℕ) → k ≤ t.commit → Reach vs h n t [] → Stands vs h n (record (stored_of t) { applied = k })
stands_whole t k le r =
    let f = stored_ok t r.node in record {
      to = r.to;
      grows = r.grows;
      hist = r.hist;
      fit = record { base = base_commit k (committed_down k le r.node.commit) f.base; settled = f.settled; low = f.low; term = f.term };
    }

-- the metadata alone
stands_meta : {vs : Setup} {h : Hist} {n : ℕ} (s t : Node) → HistOk vs h → NodeOk vs h n s → Reach vs h n t [] → s.commit ≤ t.commit → Apart n s t → Stands vs h n (record (stored_of s) { term = t.term; vote = t.vote })
unfolding cast
stands_meta {vs} {h} {n} s t ok a r up kind = go kind
  where
    f : StoredOk vs h n (stored_of s)
    f = stored_ok s a

    goal : Stored
    goal = record (stored_of s) { term = t.term; vote = t.vote }

    at : (term vote : ℕ) (g : Hist) → Grows n h g → HistOk vs g → BaseOk vs g n term vote s.log s.commit → t.term ≡ term → t.vote ≡ vote → Stands vs h n (record (stored_of s) { term = t.term; vote = t.vote })
    at term vote g grows hist b e1 e2 =
        let P : ℕ → ℕ → Type 0 = λ x y. Stands vs h n (record (stored_of s) { term = x; vote = y }) in
        subst (λ x. P x t.vote) (sym e1) (subst (P term) (sym e2) (record {
          to = g;
          grows = grows;
          hist = hist;
          fit = record { base = b; settled = committed_down s.snapshot.index a.snaps.applied b.settled; low = f.low; term = f.term };
        }))

    go : Apart n s t → Stands vs h n (record (stored_of s) { term = t.term; vote = t.vote })
    go (logs e1 e2 e3) =
        let w = stands_whole t s.commit up r in
        let b = subst (λ l. BaseOk vs w.to n t.term t.vote l s.commit) e1 w.fit.base in record {
          to = w.to;
          grows = w.grows;
          hist = w.hist;
          fit = record { base = b; settled = committed_down s.snapshot.index a.snaps.applied b.settled; low = f.low; term = f.term };
        }
    go (metas e1 e2) = at s.term s.vote h (grows_refl n h) ok (base s a) e1 e2
    go (took lt e) = at t.term 0 h (grows_refl n h) ok (base_term t.term lt (base s a)) refl e
    go (stood lt id e) =
        let b0 : BaseOk vs h n t.term 0 s.log s.commit = base_term t.term lt (base s a) in
        let c : CastOk h n t.term n s.log = record { free = b0.voted; some = id; stood = inl refl; sound = b0.sound; weak = λ v i l nz le x. b0.acks v i nz le x } in
        at t.term n (cast h n t.term n s.log) (cast_grows h n t.term n s.log c) (cast_ok vs h n t.term n s.log ok c) (base_cast n ok c b0) refl e

-- what is applied after some of these acts
record Prefix (x : Stored) (c n : ℕ) (y : Stored) : Type 0 where
  at : ℕ
  low : c ≤ at
  high : at ≤ c + n
  is : y ≡ record x { applied = at }

prefix_none : (x : Stored) (c n : ℕ) → x.applied ≡ c → Prefix x c n x
prefix_none x c n e = record { at = c; low = omega arith; high = omega arith; is = ap (λ a. record x { applied = a }) e }

applies_prefix : (n j c : ℕ) (x : Stored) → x.applied ≡ c → Prefix x c n (enacted x (take j (applies c n)))
applies_prefix zero zero c x e = prefix_none x c 0 e
applies_prefix zero (suc j) c x e = prefix_none x c 0 e
applies_prefix (suc n) zero c x e = prefix_none x c (suc n) e
applies_prefix (suc n) (suc j) c x e =
    let p = applies_prefix n j (suc c) (record x { applied = suc c }) refl in
    let l = p.low in
    let u = p.high in
    record { at = p.at; low = omega arith; high = omega arith; is = p.is }

applies_all : (n c : ℕ) (x : Stored) → x.applied ≡ c → enacted x (applies c n) ≡ record x { applied = c + n }
applies_all zero c x e = let z : c ≡ c + 0 = omega arith in ap (λ a. record x { applied = a }) (e ∙ z)
applies_all (suc n) c x e =
    let z : suc c + n ≡ c + suc n = omega arith in
    applies_all n (suc c) (record x { applied = suc c }) refl ∙ ap (λ a. record x { applied = a }) z

applying_prefix : (s t : Node) (j : ℕ) (x : Stored) → s.commit ≤ t.commit → x.applied ≡ s.commit → Prefix x s.commit (t.commit - s.commit) (enacted x (take j (applying s t)))
applying_prefix s t j x up e =
    cond_both (nat_lt s.commit t.snapshot.index) _ (applies s.commit (t.commit - s.commit)) (λ (l : List Act). Prefix x s.commit (t.commit - s.commit) (enacted x (take j l)))
    (λ y. one j)
    (λ y. applies_prefix (t.commit - s.commit) j s.commit x e)
  where
    one : (j : ℕ) → Prefix x s.commit (t.commit - s.commit) (enacted x (take j (Restore t.commit ∷ [])))
    one zero = prefix_none x s.commit (t.commit - s.commit) e
    one (suc zero) = record { at = t.commit; low = up; high = omega arith; is = refl }
    one (suc (suc j)) = record { at = t.commit; low = up; high = omega arith; is = refl }

applying_all : (s t : Node) (x : Stored) → s.commit ≤ t.commit → x.applied ≡ s.commit → enacted x (applying s t) ≡ record x { applied = t.commit }
applying_all s t x up e =
    cond_both (nat_lt s.commit t.snapshot.index) _ (applies s.commit (t.commit - s.commit)) (λ (l : List Act). enacted x l ≡ record x { applied = t.commit })
    (λ y. refl)
    (λ y. let z : s.commit + (t.commit - s.commit) ≡ t.commit = omega arith in applies_all (t.commit - s.commit) s.commit x e ∙ ap (λ a. record x { applied = a }) z)

-- all acts of a step lead to what the node after it has stored
step_all : (s t : Node) → s.commit ≤ t.commit → enacted (stored_of s) (step_acts s t) ≡ stored_of t
unfolding step_acts
step_all s t up = applying_all s t (record (stored_of t) { applied = s.commit }) up refl

quieter : {vs : Setup} {h : Hist} {n : ℕ} {s : Node} {out : List Message} → Reach vs h n s out → Reach vs h n s []
quieter r = record { to = r.to; grows = r.grows; hist = r.hist; node = r.node; sent = tt }

-- any front of the acts of one step
step_front : {vs : Setup} {h : Hist} {n : ℕ} (s : Node) (d : Outcome) (k : ℕ) → HistOk vs h → NodeOk vs h n s → Fine vs h n d → Plain n s d → Stands vs h n (enacted (stored_of s) (take k (step_acts s d.node)))
unfolding step_acts
step_front s d zero ok a f p = stands_still s ok a
step_front s d (suc zero) ok a f p = stands_meta s d.node ok a (quieter f) p.up p.kind
step_front {vs} {h} {n} s d (suc (suc j)) ok a f p =
    let up = p.up in
    let q = applying_prefix s d.node j (record (stored_of d.node) { applied = s.commit }) up refl in
    let u = q.high in
    subst (Stands vs h n) (sym q.is) (stands_whole d.node q.at (omega arith) (quieter f))

enacted-append : (xs ys : List Act) (x : Stored) → enacted x (xs ++ ys) ≡ enacted (enacted x xs) ys
enacted-append [] ys x = refl
enacted-append (a ∷ xs) ys x = enacted-append xs ys (enact x a)

take_past : (xs ys : List Act) (k : ℕ) → length xs ≤ k → take k (xs ++ ys) ≡ xs ++ take (k - length xs) ys
take_past [] ys k le = let e : k ≡ k - 0 = omega arith in ap (λ n. take n ys) e
take_past (a ∷ xs) ys zero le = absurd (omega arith)
take_past (a ∷ xs) ys (suc k) le = let e : k - length xs ≡ suc k - suc (length xs) = omega arith in ap (λ l. a ∷ l) (take_past xs ys k (omega arith) ∙ ap (λ n. xs ++ take n ys) e)

-- any front of the account of several steps
pub account_front : {vs : Setup} (n : ℕ) (is : List Input) (h : Hist) (s : Node) (k : ℕ) → HistOk vs h → NodeOk vs h n s → InputsOk vs h n is → Stands vs h n (enacted (stored_of s) (take k (account (member_step vs n) s is)))
account_front n [] h s zero ok a w = stands_still s ok a
account_front n [] h s (suc k) ok a w = stands_still s ok a
account_front {vs} n (i ∷ is) h s k ok a w =
    let d = member_step vs n s i in
    let f = step_fine n s i ok a w.0 in
    let p = member_plain vs n s i in
    let acts = step_acts s d.node in
    let rest = account (member_step vs n) d.node is in
    ⊎_elim
    (λ (l : k < length acts). subst (λ l. Stands vs h n (enacted (stored_of s) l)) (sym (take-append-le k acts rest (omega arith))) (step_front s d k ok a f p))
    (λ (l : length acts ≤ k).
    let later = account_front n is f.to d.node (k - length acts) f.hist f.node (inputs_later vs n is f.grows.later w.1) in
    let e : enacted (stored_of s) (take k (acts ++ rest)) ≡ enacted (stored_of d.node) (take (k - length acts) rest) =
    ap (enacted (stored_of s)) (take_past acts rest k l) ∙ enacted-append acts (take (k - length acts) rest) (stored_of s) ∙ ap (λ x. enacted x (take (k - length acts) rest)) (step_all s d.node p.up) in
    subst (Stands vs h n) (sym e) (record { to = later.to; grows = grows_trans n h f.to later.to f.grows later.grows; hist = later.hist; fit = later.fit }))
    (cases_lt k (length acts))

-- several steps, whole
pub steps_fine : {vs : Setup} (n : ℕ) (is : List Input) (h : Hist) (s : Node) → HistOk vs h → NodeOk vs h n s → InputsOk vs h n is → Reach vs h n (steps (member_step vs n) s is) (said (member_step vs n) s is)
steps_fine n [] h s ok a w = still s [] ok a tt
steps_fine {vs} n (i ∷ is) h s ok a w =
    let d = member_step vs n s i in
    let f = step_fine n s i ok a w.0 in
    let rest = steps_fine n is f.to d.node f.hist f.node (inputs_later vs n is f.grows.later w.1) in
    record {
      to = rest.to;
      grows = grows_trans n h f.to rest.to f.grows rest.grows;
      hist = rest.hist;
      node = rest.node;
      sent = all_append vs rest.to d.out _ (all_later vs d.out rest.grows.later f.sent) rest.sent;
    }

-- several steps, with the history between the first k and the rest
pub record Split (vs : Setup) (h : Hist) (n : ℕ) (s : Node) (is : List Input) (k : ℕ) : Type 0 where
  pub mid : Reach vs h n (steps (member_step vs n) s (take k is)) []
  pub whole : Reach vs h n (steps (member_step vs n) s is) (said (member_step vs n) s is)
  pub later : Later mid.to whole.to

pub split_fine : {vs : Setup} (n : ℕ) (is : List Input) (k : ℕ) (h : Hist) (s : Node) → HistOk vs h → NodeOk vs h n s → InputsOk vs h n is → Split vs h n s is k
split_fine n is zero h s ok a w =
    let r = steps_fine n is h s ok a w in
    record { mid = record { to = h; grows = grows_refl n h; hist = ok; node = a; sent = tt }; whole = r; later = r.grows.later }
split_fine n [] (suc k) h s ok a w = record {
  mid = record { to = h; grows = grows_refl n h; hist = ok; node = a; sent = tt };
  whole = record { to = h; grows = grows_refl n h; hist = ok; node = a; sent = tt };
  later = later_refl h;
}
split_fine {vs} n (i ∷ is) (suc k) h s ok a w =
    let d = member_step vs n s i in
    let f = step_fine n s i ok a w.0 in
    let x = split_fine n is k f.to d.node f.hist f.node (inputs_later vs n is f.grows.later w.1) in
    record {
      mid = record { to = x.mid.to; grows = grows_trans n h f.to x.mid.to f.grows x.mid.grows; hist = x.mid.hist; node = x.mid.node; sent = tt };
      whole = record {
        to = x.whole.to;
        grows = grows_trans n h f.to x.whole.to f.grows x.whole.grows;
        hist = x.whole.hist;
        node = x.whole.node;
        sent = all_append vs x.whole.to d.out _ (all_later vs d.out x.whole.grows.later f.sent) x.whole.sent;
      };
      later = x.later;
    }

-- so of a front of their account that has all acts of the first k
pub record StopSplit (vs : Setup) (h : Hist) (n : ℕ) (s : Node) (is : List Input) (k acts : ℕ) : Type 0 where
  pub mid : Reach vs h n (steps (member_step vs n) s (take k is)) []
  pub stands : Stands vs h n (enacted (stored_of s) (take acts (account (member_step vs n) s is)))
  pub later : Later mid.to stands.to

pub stop_split : {vs : Setup} (n : ℕ) (is : List Input) (k acts : ℕ) (h : Hist) (s : Node) → length (account (member_step vs n) s (take k is)) ≤ acts → HistOk vs h → NodeOk vs h n s → InputsOk vs h n is → StopSplit vs h n s is k acts
stop_split n is zero acts h s le ok a w =
    let x = account_front n is h s acts ok a w in
    record { mid = record { to = h; grows = grows_refl n h; hist = ok; node = a; sent = tt }; stands = x; later = x.grows.later }
stop_split n [] (suc k) acts h s le ok a w =
    let x = account_front n [] h s acts ok a w in
    record { mid = record { to = h; grows = grows_refl n h; hist = ok; node = a; sent = tt }; stands = x; later = x.grows.later }
stop_split {vs} n (i ∷ is) (suc k) all h s le ok a w =
    let d = member_step vs n s i in
    let f = step_fine n s i ok a w.0 in
    let acts = step_acts s d.node in
    let rest = account (member_step vs n) d.node is in
    let first = account (member_step vs n) d.node (take k is) in
    let size = length-append acts first in
    let x = stop_split n is k (all - length acts) f.to d.node (omega arith) f.hist f.node (inputs_later vs n is f.grows.later w.1) in
    let e : enacted (stored_of s) (take all (acts ++ rest)) ≡ enacted (stored_of d.node) (take (all - length acts) rest) =
    ap (enacted (stored_of s)) (take_past acts rest all (omega arith)) ∙ enacted-append acts (take (all - length acts) rest) (stored_of s) ∙ ap (λ x. enacted x (take (all - length acts) rest)) (step_all s d.node (member_plain vs n s i).up) in
    record {
      mid = record { to = x.mid.to; grows = grows_trans n h f.to x.mid.to f.grows x.mid.grows; hist = x.mid.hist; node = x.mid.node; sent = tt };
      stands = record { to = x.stands.to; grows = grows_trans n h f.to x.stands.to f.grows x.stands.grows; hist = x.stands.hist; fit = subst (StoredOk vs x.stands.to n) (sym e) x.stands.fit };
      later = x.later;
    }

pub whole_account_holds : WholeAccount
whole_account_holds vs n s [] = refl
whole_account_holds vs n s (i ∷ is) =
    let d = member_step vs n s i in
    enacted-append (step_acts s d.node) (account (member_step vs n) d.node is) (stored_of s) ∙ ap (λ x. enacted x (account (member_step vs n) d.node is)) (step_all s d.node (member_plain vs n s i).up) ∙ whole_account_holds vs n d.node is

account-append : (vs : Setup) (n : ℕ) (s : Node) (xs ys : List Input) → account (member_step vs n) s (xs ++ ys) ≡ account (member_step vs n) s xs ++ account (member_step vs n) (steps (member_step vs n) s xs) ys
account-append vs n s [] ys = refl
account-append vs n s (i ∷ xs) ys =
    let d = member_step vs n s i in
    ap (λ l. step_acts s d.node ++ l) (account-append vs n d.node xs ys) ∙ sym (append_assoc (step_acts s d.node) (account (member_step vs n) d.node xs) (account (member_step vs n) (steps (member_step vs n) d.node xs) ys))

past_is : (vs : Setup) (n : ℕ) (s : Node) (first rest : List Input) (acts : ℕ) → past vs n s first rest acts ≡ enacted (stored_of (between vs n s first)) (take acts (account (member_step vs n) (between vs n s first) rest))
past_is vs n s first rest acts =
    let a = account (member_step vs n) s first in
    let b = account (member_step vs n) (between vs n s first) rest in
    let e : length a + acts - length a ≡ acts = omega arith in
    ap (λ l. enacted (stored_of s) (take (length a + acts) l)) (account-append vs n s first rest) ∙ ap (enacted (stored_of s)) (take_past a b (length a + acts) (omega arith)) ∙ enacted-append a (take (length a + acts - length a) b) (stored_of s) ∙ ap (λ x. enacted x (take (length a + acts - length a) b)) (whole_account_holds vs n s first) ∙ ap (λ k. enacted (stored_of (between vs n s first)) (take k b)) e

pub stops_before_holds : StopsBefore
stops_before_holds vs n s first rest = past_is vs n s first rest 0

pub stops_at_meta_holds : StopsAtMeta
unfolding step_acts
stops_at_meta_holds vs n s first i rest = past_is vs n s first (i ∷ rest) 1

pub stops_at_log_holds : StopsAtLog
unfolding step_acts
stops_at_log_holds vs n s first i rest = past_is vs n s first (i ∷ rest) 2
