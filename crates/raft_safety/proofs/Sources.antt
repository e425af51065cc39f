-- A property that each leader's own entries have is had by the entries of all logs, stopped steps too.
use Rattle.std.proofs.Common.{◌≡◌, ◌≢◌, ◌⊎◌, ℕ, zero, suc, ◌+◌, ◌-◌, ◌<◌, ◌≤◌, Bool, true, false, Option, Some, None, List, [], ◌∷◌, ◌++◌, length, take, refl, sym, ap, ◌∙◌, subst, ⊎_elim, arith}
use Rattle.std.specs.Prelude.{◌==◌, nat_lt, slice_get}
use Rattle.std.proofs.lemmas.List.{take-append-le, take-take, length-take-le, take_all}
use Rattle.std.proofs.lemmas.Bool.{cond_both, cases_lt, eqb-true, eqb-false}
use Rattle.raft_spec.specs.Log.{Entry, term_at}
use Rattle.raft_spec.specs.Node.{What, AskVote, Vote, Append, Ack, Install, TimeoutNow, Message, Node, Server, is_leader, Input, Local, Receive}
use Rattle.raft_spec.specs.Outcomes.{with_term, barrier}
use Rattle.raft_spec.specs.Account.{Stored, stored_of, Act, StoreMetadata, StoreLog, Apply, Restore, Send, enacted, applies, step_acts, steps, said, account, loaded, older}
use Rattle.raft_safety.specs.Members.{Setup, member_step}
use Rattle.raft_safety.specs.World.{World, Cause, Does, Takes, Event, Acts, Stops, Crash, Start, taken, inputs, one_of, picked, put, after, outs, stopped, happens, start, run_from}
use Rattle.raft_safety.specs.Chosen.{actor}
use Rattle.raft_safety.specs.Sources.{causes_of, intake, midway, Adds, nothing_new, a_barrier, proposed}
use Rattle.raft_safety.proofs.Logs.{agree_down, term_at-take, term_at-within, term_at-suc, piece_nth}
use Rattle.raft_safety.proofs.History.{Hist, Sound, HistOk, NodeOk, WhatOk}
use Rattle.raft_safety.proofs.Growth.{Later, later_refl, later_trans, Grows, grows_refl, grows_trans, sound_later}
use Rattle.raft_safety.proofs.Complete.{meet, terms}
use Rattle.raft_safety.proofs.Bases.{committed_within}
use Rattle.raft_safety.proofs.Others.{node_later}
use Rattle.raft_safety.proofs.Reaches.{AllOk, all_later, all_append}
use Rattle.raft_safety.proofs.Steps.{InputOk, InputsOk, inputs_later, step_fine}
use Rattle.raft_safety.proofs.Worlds.{WorldOk, happens_fine, all_picked, inputs_fine, blank, start_fine}
use Rattle.raft_safety.proofs.Origins.{InWhat, Carries, Bare, Step, same, own, taken as took, AllSentBy, stepped}

pub snap_within : {vs : Setup} {h : Hist} {n : ℕ} (s : Node) → NodeOk vs h n s → s.snapshot.index ≤ length s.log
snap_within s a =
    let x = a.snaps.applied in
    let y = committed_within a.commit in
    omega arith

-- the log after a step after which the node leads begins with the log before
pub adds_front : (s : Node) (i : Input) (d : Node) → Adds s i d → take (length s.log) d.log ≡ s.log
adds_front s i d (nothing_new e) = ap (take (length s.log)) e ∙ take_all (length s.log) s.log (omega arith)
adds_front s i d (a_barrier e) = ap (take (length s.log)) e ∙ take-append-le (length s.log) s.log (barrier d.term ∷ []) (omega arith) ∙ take_all (length s.log) s.log (omega arith)
adds_front s i d (proposed new e r t l) = ap (take (length s.log)) l ∙ take-append-le (length s.log) s.log (with_term d.term new) (omega arith) ∙ take_all (length s.log) s.log (omega arith)

-- every front of the log, but the empty one
abbrev pub Fronts : (List Entry → Type 0) → List Entry → Type 0
Fronts Q log = (i : ℕ) → 0 < i → i ≤ length log → Q (take i log)

-- a leader's own entries, that its step adds
abbrev pub OwnFit : (List Entry → Type 0) → Node → Input → Node → Type 0
OwnFit Q s i d = is_leader d.role ≡ true → Adds s i d → Fronts Q s.log → (j : ℕ) → length s.log < j → j ≤ length d.log → Q (take j d.log)

abbrev pub AllOwnFit : (List Entry → Type 0) → Setup → ℕ → Node → List Input → Type 0
AllOwnFit Q vs n s [] = Unit {0}
AllOwnFit Q vs n s (i ∷ is) = OwnFit Q s i (member_step vs n s i).node × AllOwnFit Q vs n (member_step vs n s i).node is

abbrev pub EventFit : (List Entry → Type 0) → Setup → World → Event → Type 0
EventFit Q vs w e = (w.nodes (actor e)).up ≡ true → AllOwnFit Q vs (actor e) (w.nodes (actor e)) (intake w e)

abbrev pub RunFit : (List Entry → Type 0) → Setup → World → List Event → Type 0
RunFit Q vs w [] = Unit {0}
RunFit Q vs w (e ∷ es) = EventFit Q vs w e × RunFit Q vs (happens vs w e) es

-- the front of its term's leader's log that a message represents
abbrev pub WhatFit : (List Entry → Type 0) → Hist → ℕ → What → Type 0
WhatFit Q h u (AskVote last transfer) = Unit {0}
WhatFit Q h u (Vote granted) = Unit {0}
WhatFit Q h u (Append prev commit es) = (i : ℕ) → 0 < i → i ≤ prev.index + length es → Q (take i (h.log_of u))
WhatFit Q h u (Ack good index) = Unit {0}
WhatFit Q h u (Install last front) = (i : ℕ) → 0 < i → i ≤ last.index → Q (take i (h.log_of u))
WhatFit Q h u TimeoutNow = Unit {0}

abbrev pub AllWhatFit : (List Entry → Type 0) → Hist → List Message → Type 0
AllWhatFit Q h [] = Unit {0}
AllWhatFit Q h (m ∷ ms) = WhatFit Q h m.term m.what × AllWhatFit Q h ms

abbrev pub InputFit : (List Entry → Type 0) → Hist → Input → Type 0
InputFit Q h (Local local) = Unit {0}
InputFit Q h (Receive m) = WhatFit Q h m.term m.what

abbrev pub InputsFit : (List Entry → Type 0) → Hist → List Input → Type 0
InputsFit Q h [] = Unit {0}
InputsFit Q h (i ∷ is) = InputFit Q h i × InputsFit Q h is

-- the logs that an account keeps
abbrev pub KeepsFit : (List Entry → Type 0) → List Act → Type 0
KeepsFit Q [] = Unit {0}
KeepsFit Q (StoreLog log snapshot base ∷ acts) = Fronts Q log × KeepsFit Q acts
KeepsFit Q (StoreMetadata term vote ∷ acts) = KeepsFit Q acts
KeepsFit Q (Apply index ∷ acts) = KeepsFit Q acts
KeepsFit Q (Restore index ∷ acts) = KeepsFit Q acts
KeepsFit Q (Send m ∷ acts) = KeepsFit Q acts

module _ (Q : List Entry → Type 0) where
  what_fit_later : {h g : Hist} (vs : Setup) (from to u : ℕ) (w : What) → Later h g → WhatOk vs h from to u w → WhatFit Q h u w → WhatFit Q g u w
  what_fit_later vs from to u (AskVote last transfer) l ok a = tt
  what_fit_later vs from to u (Vote granted) l ok a = tt
  what_fit_later vs from to u (Append prev commit es) l ok a = λ i pos le. let x = ok.1.piece.within in subst Q (agree_down i (omega arith) (l.logs u)).same (a i pos le)
  what_fit_later vs from to u (Ack good index) l ok a = tt
  what_fit_later vs from to u (Install last front) l ok a = λ i pos le. let x = ok.1.within in subst Q (agree_down i (omega arith) (l.logs u)).same (a i pos le)
  what_fit_later vs from to u TimeoutNow l ok a = tt

  all_fit_later : {h g : Hist} (vs : Setup) (ms : List Message) → Later h g → AllOk vs h ms → AllWhatFit Q h ms → AllWhatFit Q g ms
  all_fit_later vs [] l ok a = tt
  all_fit_later vs (m ∷ ms) l ok a = (what_fit_later vs m.from m.to m.term m.what l ok.0 a.0, all_fit_later vs ms l ok.1 a.1)

  all_fit_append : (h : Hist) (xs ys : List Message) → AllWhatFit Q h xs → AllWhatFit Q h ys → AllWhatFit Q h (xs ++ ys)
  all_fit_append h [] ys a b = b
  all_fit_append h (x ∷ xs) ys a b = (a.0, all_fit_append h xs ys a.1 b)

  pub fit_at : (h : Hist) (ms : List Message) (k : ℕ) (m : Message) → AllWhatFit Q h ms → slice_get ms k ≡ Some m → WhatFit Q h m.term m.what
  fit_at h [] k m a e = absurd cc
  fit_at h (x ∷ ms) zero m a e = subst (λ (z : Message). WhatFit Q h z.term z.what) (some_is x m e) a.0
    where
      some_is : (x y : Message) → slice_get (x ∷ ms) 0 ≡ Some y → x ≡ y
      some_is x y e = cc
  fit_at h (x ∷ ms) (suc k) m a e = fit_at h ms k m a.1 e

  fit_picked : (h : Hist) (ms : List Message) (ks : List ℕ) → AllWhatFit Q h ms → AllWhatFit Q h (picked ms ks)
  fit_picked h ms [] a = tt
  fit_picked h ms (k ∷ ks) a = all_fit_append h (one_of (slice_get ms k)) (picked ms ks) (one (slice_get ms k) refl) (fit_picked h ms ks a)
    where
      one : (o : Option Message) → slice_get ms k ≡ o → AllWhatFit Q h (one_of o)
      one None e = tt
      one (Some m) e = (fit_at h ms k m a e, tt)

  inputs_fit : (h : Hist) (n : ℕ) (ms : List Message) (cs : List Cause) → AllWhatFit Q h ms → InputsFit Q h (inputs n ms cs)
  inputs_fit h n ms [] a = tt
  inputs_fit h n ms (Does local ∷ cs) a = (tt, inputs_fit h n ms cs a)
  inputs_fit h n ms (Takes k ∷ cs) a = got (slice_get ms k) refl (inputs_fit h n ms cs a)
    where
      got : (o : Option Message) → slice_get ms k ≡ o → InputsFit Q h (inputs n ms cs) → InputsFit Q h (taken n o ++ inputs n ms cs)
      got None e r = r
      got (Some m) e r = cond_both (m.to == n) (Receive m ∷ []) [] (λ (l : List Input). InputsFit Q h (l ++ inputs n ms cs)) (λ t. (fit_at h ms k m a e, r)) (λ t. r)

  inputs_fit_later : {h g : Hist} (vs : Setup) (n : ℕ) (is : List Input) → Later h g → InputsOk vs h n is → InputsFit Q h is → InputsFit Q g is
  inputs_fit_later vs n [] l ok a = tt
  inputs_fit_later vs n (Local local ∷ is) l ok a = (tt, inputs_fit_later vs n is l ok.1 a.1)
  inputs_fit_later vs n (Receive m ∷ is) l ok a = (what_fit_later vs m.from m.to m.term m.what l ok.0.1 a.0, inputs_fit_later vs n is l ok.1 a.1)

  -- an entry that a message brought
  brought : {vs : Setup} {h g : Hist} (n : ℕ) (i : Input) (log : List Entry) (j t : ℕ) → HistOk vs h → Later h g → Sound g log → InputOk vs h n i → InputFit Q h i → 0 < j → j ≤ length log → term_at log j ≡ t → t ≢ 0 → Carries i j t → Q (take j log)
  brought n (Local local) log j t ok l snd w a pos le is nz c = absurd c
  brought {vs} {h} {g} n (Receive m) log j t ok l snd w a pos le is nz c = go m.what w.1 a c
    where
      -- the leader's log has the term there
      found : (j ≤ length (h.log_of m.term)) → term_at (h.log_of m.term) j ≡ t → Q (take j (h.log_of m.term)) → Q (take j log)
      found inside e q = subst Q ((meet (sound_later l (ok.sound m.term)) snd).at j inside le (e ∙ sym is)).same q

      go : (what : What) → WhatOk vs h m.from m.to m.term what → WhatFit Q h m.term what → InWhat what j t → Q (take j log)
      go (AskVote last transfer) w a c = absurd c
      go (Vote granted) w a c = absurd c
      go (Ack good index) w a c = absurd c
      go TimeoutNow w a c = absurd c
      go (Append prev commit es) w a c =
          let p = w.1.piece in
          let low : suc c.0 ≤ length es = term_at-within es (suc c.0) t (term_at-suc es c.0 ∙ c.2) nz in
          let place : j ≡ suc (prev.index + c.0) = c.1 in
          let e : term_at (h.log_of m.term) j ≡ t = ap (term_at (h.log_of m.term)) c.1 ∙ sym (piece_nth prev.index c.0 es (h.log_of m.term) p low) ∙ c.2 in
          found (term_at-within (h.log_of m.term) j t e nz) e (a j pos (omega arith))
      go (Install last front) w a c =
          let f = w.1.same in
          let inside : j ≤ length front = term_at-within front j t c nz in
          let size = ap length f in
          let most = w.1.within in
          let long = length-take-le last.index (h.log_of m.term) most in
          let low : j ≤ last.index = omega arith in
          let e : term_at (h.log_of m.term) j ≡ t = sym (term_at-take last.index (h.log_of m.term) j low) ∙ ap (λ x. term_at x j) (sym f) ∙ c in
          found (omega arith) e (a j pos low)

  -- one step
  log_fit : {vs : Setup} {h g : Hist} {n : ℕ} (s : Node) (i : Input) (d : Node) → HistOk vs h → NodeOk vs h n s → InputOk vs h n i → InputFit Q h i → Later h g → HistOk vs g → NodeOk vs g n d → Step s i d → OwnFit Q s i d → Fronts Q s.log → Fronts Q d.log
  log_fit s i d ok a w f l ok' b (same e) fit q = subst (Fronts Q) (sym e) q
  log_fit s i d ok a w f l ok' b (own r o) fit q = λ j pos le. ⊎_elim
      (λ (x : length s.log < j). fit r o q j x le)
      (λ (x : j ≤ length s.log). subst Q (ap (take j) (sym (adds_front s i d o)) ∙ take-take j (length s.log) d.log x) (q j pos x))
      (cases_lt (length s.log) j)
  log_fit {vs} {h} {g} {n} s i d ok a w f l ok' b (took r c) fit q = λ j pos le.
      let t = term_at d.log j in
      let nz : t ≢ 0 = (terms vs ok' b.sound).at j pos le in
      ⊎_elim
      (λ (x : term_at s.log j ≡ t).
      let inside = term_at-within s.log j t x nz in
      subst Q ((meet (sound_later l a.sound) b.sound).at j inside le x).same (q j pos inside))
      (λ (x : Carries i j t). brought n i d.log j t ok l b.sound w f pos le refl nz x)
      (c j t refl nz)

  -- what is sent
  sent_fit : {vs : Setup} {h : Hist} {n : ℕ} (d : Node) (ms : List Message) → NodeOk vs h n d → AllOk vs h ms → AllSentBy d ms → Fronts Q d.log → AllWhatFit Q h ms
  sent_fit d [] b ok s q = tt
  sent_fit {vs} {h} {n} d (m ∷ ms) b ok s q = (go m.what ok.0 s.0, sent_fit d ms b ok.1 s.1 q)
    where
      led : (is_leader d.role ≡ true) × (m.term ≡ d.term) → (i : ℕ) → 0 < i → i ≤ length (h.log_of m.term) → Q (take i (h.log_of m.term))
      led x i pos le =
          let e : h.log_of m.term ≡ d.log = ap h.log_of x.1 ∙ (b.leading x.0).log in
          let size = ap length e in
          subst Q (ap (take i) (sym e)) (q i pos (omega arith))

      go : (what : What) → WhatOk vs h m.from m.to m.term what → Bare what ⊎ ((is_leader d.role ≡ true) × (m.term ≡ d.term)) → WhatFit Q h m.term what
      go (AskVote last transfer) w x = tt
      go (Vote granted) w x = tt
      go (Ack good index) w x = tt
      go TimeoutNow w x = tt
      go (Append prev commit es) w x = λ i pos le. ⊎_elim (λ (y : ⊥). absurd y) (λ (y : (is_leader d.role ≡ true) × (m.term ≡ d.term)). let z = w.1.piece.within in led y i pos (omega arith)) x
      go (Install last front) w x = λ i pos le. ⊎_elim (λ (y : ⊥). absurd y) (λ (y : (is_leader d.role ≡ true) × (m.term ≡ d.term)). let z = w.1.within in led y i pos (omega arith)) x

  applies_fit : (c k : ℕ) → KeepsFit Q (applies c k)
  applies_fit c zero = tt
  applies_fit c (suc k) = applies_fit (suc c) k

  keeps_append : (xs ys : List Act) → KeepsFit Q xs → KeepsFit Q ys → KeepsFit Q (xs ++ ys)
  keeps_append [] ys a b = b
  keeps_append (StoreLog log snapshot base ∷ xs) ys a b = (a.0, keeps_append xs ys a.1 b)
  keeps_append (StoreMetadata term vote ∷ xs) ys a b = keeps_append xs ys a b
  keeps_append (Apply index ∷ xs) ys a b = keeps_append xs ys a b
  keeps_append (Restore index ∷ xs) ys a b = keeps_append xs ys a b
  keeps_append (Send m ∷ xs) ys a b = keeps_append xs ys a b

  step_keeps : (s t : Node) → Fronts Q t.log → KeepsFit Q (step_acts s t)
  unfolding step_acts
  step_keeps s t q = (q, cond_both (nat_lt s.commit t.snapshot.index) _ (applies s.commit (t.commit - s.commit)) (KeepsFit Q) (λ y. tt) (λ y. applies_fit s.commit (t.commit - s.commit)))

  kept_fit : (k : ℕ) (acts : List Act) (x : Stored) → KeepsFit Q acts → Fronts Q x.log → Fronts Q (enacted x (take k acts)).log
  kept_fit zero acts x a q = q
  kept_fit (suc k) [] x a q = q
  kept_fit (suc k) (StoreLog log snapshot base ∷ xs) x a q = kept_fit k xs (record x { log = log; snapshot = snapshot; base = base }) a.1 a.0
  kept_fit (suc k) (StoreMetadata term vote ∷ xs) x a q = kept_fit k xs (record x { term = term; vote = vote }) a q
  kept_fit (suc k) (Apply index ∷ xs) x a q = kept_fit k xs (record x { applied = index }) a q
  kept_fit (suc k) (Restore index ∷ xs) x a q = kept_fit k xs (record x { applied = index }) a q
  kept_fit (suc k) (Send m ∷ xs) x a q = kept_fit k xs x a q

  -- all steps of an event
  record Stepping (vs : Setup) (h : Hist) (n : ℕ) (s : Node) (is : List Input) : Type 0 where
    to : Hist
    grows : Grows n h to
    hist : HistOk vs to
    node : NodeOk vs to n (steps (member_step vs n) s is)
    sent : AllOk vs to (said (member_step vs n) s is)
    fit : AllWhatFit Q to (said (member_step vs n) s is)
    mid : (k : ℕ) → Fronts Q (steps (member_step vs n) s (take k is)).log
    log : Fronts Q (steps (member_step vs n) s is).log
    keeps : KeepsFit Q (account (member_step vs n) s is)

  stepping : {vs : Setup} (n : ℕ) (is : List Input) (h : Hist) (s : Node) → HistOk vs h → NodeOk vs h n s → InputsOk vs h n is → InputsFit Q h is → AllOwnFit Q vs n s is → Fronts Q s.log → Stepping vs h n s is
  stepping {vs} n [] h s ok a w f mine q = record { to = h; grows = grows_refl n h; hist = ok; node = a; sent = tt; fit = tt; mid = none; log = q; keeps = tt }
    where
      none : (k : ℕ) → Fronts Q (steps (member_step vs n) s (take k [])).log
      none zero = q
      none (suc k) = q
  stepping {vs} n (i ∷ is) h s ok a w f mine q =
      let d = member_step vs n s i in
      let r = step_fine n s i ok a w.0 in
      let st = stepped vs n s i (snap_within s a) in
      let log = log_fit s i d.node ok a w.0 f.0 r.grows.later r.hist r.node st.step mine.0 q in
      let rest = stepping n is r.to d.node r.hist r.node (inputs_later vs n is r.grows.later w.1) (inputs_fit_later vs n is r.grows.later w.1 f.1) mine.1 log in
      record {
        to = rest.to;
        grows = grows_trans n h r.to rest.to r.grows rest.grows;
        hist = rest.hist;
        node = rest.node;
        sent = all_append vs rest.to d.out _ (all_later vs d.out rest.grows.later r.sent) rest.sent;
        fit = all_fit_append rest.to d.out _ (all_fit_later vs d.out rest.grows.later r.sent (sent_fit d.node d.out r.node r.sent st.sent log)) rest.fit;
        mid = mids rest.mid;
        log = rest.log;
        keeps = keeps_append (step_acts s d.node) _ (step_keeps s d.node log) rest.keeps;
      }
    where
      mids : ((k : ℕ) → Fronts Q (steps (member_step vs n) (member_step vs n s i).node (take k is)).log) → (k : ℕ) → Fronts Q (steps (member_step vs n) s (take k (i ∷ is))).log
      mids m zero = q
      mids m (suc k) = m k

  pub record FitSo (vs : Setup) (h : Hist) (w : World) : Type 0 where
    pub world : WorldOk vs h w
    pub nodes : (n : ℕ) → Fronts Q (w.nodes n).log
    pub messages : AllWhatFit Q h w.messages

  pub record NextFit (vs : Setup) (h : Hist) (w : World) : Type 0 where
    pub to : Hist
    pub later : Later h to
    pub so : FitSo vs to w

  -- a node is put down, or started again, with a log that is fit
  loads_fit : {vs : Setup} {h : Hist} (w : World) (e : Event) (n : ℕ) (up : Bool) (servers : List Server) (x : Stored) → FitSo vs h w → happens vs w e ≡ put w n (loaded up servers x) [] → Fronts Q x.log → NextFit vs h (happens vs w e)
  unfolding put
  loads_fit {vs} {h} w e n up servers x a is q =
      let t = happens_fine w e a.world in
      record {
        to = t.to;
        later = t.later;
        so = record {
          world = t.world;
          nodes = λ k. subst (λ (v : World). Fronts Q (v.nodes k).log) (sym is) (cond_both (k == n) (loaded up servers x) (w.nodes k) (λ (s : Node). Fronts Q s.log) (λ z. q) (λ z. a.nodes k));
          messages = subst (λ (v : World). AllWhatFit Q t.to v.messages) (sym is) (all_fit_append t.to w.messages [] (all_fit_later vs w.messages t.later a.world.messages a.messages) tt);
        };
      }

  idle_fit : {vs : Setup} {h : Hist} (w : World) → FitSo vs h w → NextFit vs h w
  idle_fit {vs} {h} w a = record { to = h; later = later_refl h; so = a }

  steps_of : {vs : Setup} {h : Hist} (w : World) (e : Event) → FitSo vs h w → (w.nodes (actor e)).up ≡ true → EventFit Q vs w e → Stepping vs h (actor e) (w.nodes (actor e)) (intake w e)
  steps_of {vs} {h} w e a u f =
      let n = actor e in
      stepping n (intake w e) h (w.nodes n) a.world.hist (a.world.nodes n) (inputs_fine vs h n w.messages (causes_of e) a.world.messages) (inputs_fit h n w.messages (causes_of e) a.messages) (f u) (a.nodes n)

  acts_fit : {vs : Setup} {h : Hist} (w : World) (n : ℕ) (cs : List Cause) (places : List ℕ) → FitSo vs h w → EventFit Q vs w (Acts n cs places) → NextFit vs h (happens vs w (Acts n cs places))
  unfolding put
  acts_fit {vs} {h} w n cs places a f =
      cond_both (w.nodes n).up (put w n (after vs w n cs) (picked (outs vs w n cs) places)) w (NextFit vs h)
      (λ u.
      let r = steps_of w (Acts n cs places) a u f in
      record {
        to = r.to;
        later = r.grows.later;
        so = record {
          world = record {
            hist = r.hist;
            nodes = λ k. cond_both (k == n) (after vs w n cs) (w.nodes k) (NodeOk vs r.to k) (λ e. subst (λ k. NodeOk vs r.to k (after vs w n cs)) (sym (eqb-true _ _ e)) r.node) (λ e. node_later vs n k (w.nodes k) (eqb-false _ _ e) a.world.hist r.grows (a.world.nodes k));
            messages = all_append vs r.to w.messages _ (all_later vs w.messages r.grows.later a.world.messages) (all_picked vs r.to (outs vs w n cs) places r.sent);
          };
          nodes = λ k. cond_both (k == n) (after vs w n cs) (w.nodes k) (λ (s : Node). Fronts Q s.log) (λ z. r.log) (λ z. a.nodes k);
          messages = all_fit_append r.to w.messages _ (all_fit_later vs w.messages r.grows.later a.world.messages a.messages) (fit_picked r.to (outs vs w n cs) places r.fit);
        };
      })
      (λ u. idle_fit w a)

  stopped_fit : {vs : Setup} {h : Hist} (w : World) (n : ℕ) (cs : List Cause) (acts applied base : ℕ) → FitSo vs h w → EventFit Q vs w (Stops n cs acts applied base) → Fronts Q (stopped vs w n cs acts).log
  stopped_fit {vs} {h} w n cs acts applied base a f =
      cond_both (w.nodes n).up _ (stored_of (w.nodes n)) (λ (x : Stored). Fronts Q x.log)
      (λ u. kept_fit acts _ (stored_of (w.nodes n)) (steps_of w (Stops n cs acts applied base) a u f).keeps (a.nodes n))
      (λ u. a.nodes n)

  pub event_fit : {vs : Setup} {h : Hist} (w : World) (e : Event) → FitSo vs h w → EventFit Q vs w e → NextFit vs h (happens vs w e)
  event_fit w (Acts n cs places) a f = acts_fit w n cs places a f
  event_fit {vs} w (Stops n cs acts applied base) a f = loads_fit w (Stops n cs acts applied base) n false [] (older base (stopped vs w n cs acts)) a refl (stopped_fit w n cs acts applied base a f)
  event_fit w (Crash n) a f = loads_fit w (Crash n) n false [] (stored_of (w.nodes n)) a refl (a.nodes n)
  event_fit {vs} {h} w (Start n servers) a f = cond_both (w.nodes n).up w (put w n (loaded true servers (stored_of (w.nodes n))) []) (λ v. happens vs w (Start n servers) ≡ v → NextFit vs h (happens vs w (Start n servers)))
      (λ u is. subst (NextFit vs h) (sym is) (idle_fit w a))
      (λ u is. loads_fit w (Start n servers) n true servers (stored_of (w.nodes n)) a is (a.nodes n))
      refl

  -- in the midst of an event
  pub midway_fit : {vs : Setup} {h : Hist} (w : World) (e : Event) (k : ℕ) → FitSo vs h w → (w.nodes (actor e)).up ≡ true → EventFit Q vs w e → Fronts Q (midway vs w e k).log
  midway_fit w e k a u f = (steps_of w e a u f).mid k

  pub run_fit : {vs : Setup} (es : List Event) (h : Hist) (w : World) → FitSo vs h w → RunFit Q vs w es → NextFit vs h (run_from vs w es)
  run_fit [] h w a f = idle_fit w a
  run_fit {vs} (e ∷ es) h w a f =
      let one = event_fit w e a f.0 in
      let rest = run_fit es one.to (happens vs w e) one.so f.1 in
      record { to = rest.to; later = later_trans h one.to rest.to one.later rest.later; so = rest.so }

  pub start_fit : (vs : Setup) → FitSo vs blank (start vs)
  start_fit vs = record { world = start_fine vs; nodes = λ n i pos le. absurd (omega arith); messages = tt }
