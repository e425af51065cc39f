-- Each entry was in the log of a leader of its term.
use Rattle.std.proofs.Common.{◌≡◌, ℕ, suc, ◌+◌, ◌<◌, ◌≤◌, true, List, [], ◌∷◌, ◌++◌, length, take, refl, sym, ap, ◌∙◌, subst, arith, length-append, append_assoc}
use Rattle.std.proofs.lemmas.List.{drop-take, take-append-le, take_all, length-take-le, take-take}
use Rattle.raft_spec.specs.Log.{Barrier, Entry, term_at}
use Rattle.raft_spec.specs.Node.{Outcome, Role, Leader, Candidate, Follower, What, AskVote, Vote, Append, Ack, Install, TimeoutNow, Node, is_leader, Input}
use Rattle.raft_spec.specs.Account.{steps}
use Rattle.raft_safety.specs.Members.{Setup, member_step}
use Rattle.raft_safety.specs.World.{Event, happens, start, run}
use Rattle.raft_safety.specs.Laws.{log_at}
use Rattle.raft_safety.specs.Chosen.{actor}
use Rattle.raft_safety.specs.Sources.{intake, midway, Led, AllLed, EntriesLed, WhatLed, MessagesLed, Adds, nothing_new, a_barrier, proposed, LeadersKeep}
use Rattle.raft_safety.proofs.Logs.{term_at-take, term_at-new}
use Rattle.raft_safety.proofs.History.{Hist, WhatOk}
use Rattle.raft_safety.proofs.Laws.{leader_ok}
use Rattle.raft_safety.proofs.Worlds.{blank, run_append, moments, at_number}
use Rattle.raft_safety.proofs.Sources.{NextFit, WhatFit, fit_at, Fronts, AllOwnFit, RunFit, run_fit, start_fit}

pub steps_snoc : (f : Node → Input → Outcome) (s : Node) (xs : List Input) (i : Input) → steps f s (xs ++ i ∷ []) ≡ (f (steps f s xs) i).node
steps_snoc f s [] i = refl
steps_snoc f s (x ∷ xs) i = steps_snoc f (f s x).node xs i

pub run_snoc : (vs : Setup) (ps : List Event) (e : Event) → run vs (ps ++ e ∷ []) ≡ happens vs (run vs ps) e
unfolding run
run_snoc vs ps e = run_append vs (start vs) ps (e ∷ [])

role_is : (r : Role) → is_leader r ≡ true → r ≡ Leader
role_is Leader e = refl
role_is Candidate e = absurd cc
role_is Follower e = absurd cc

-- a new entry has the leader's term
pub own_term : (s : Node) (i : Input) (d : Node) (j : ℕ) → Adds s i d → length s.log < j → j ≤ length d.log → term_at d.log j ≡ d.term
own_term s i d j (nothing_new e) lt le = let z = ap length e in absurd (omega arith)
own_term s i d j (a_barrier e) lt le =
    let z = ap length e in
    ap (λ l. term_at l j) e ∙ term_at-new d.term s.log (record { term = 0; kind = Barrier; bytes = [] } ∷ []) j lt (omega arith)
own_term s i d j (proposed new p r t e) lt le = let z = ap length e in ap (λ l. term_at l j) e ∙ term_at-new d.term s.log new j lt (omega arith)

-- the front of a leader's log, by its last term
abbrev LedFront : Setup → List Event → List Entry → Type 0
LedFront vs es x = Led vs es (term_at x (length x)) x

module _ (vs : Setup) (es ps : List Event) (e : Event) (rest : List Event) (split : es ≡ ps ++ e ∷ rest) (up : ((run vs ps).nodes (actor e)).up ≡ true) where
  f : Node → Input → Outcome
  f = member_step vs (actor e)

  s0 : Node
  s0 = (run vs ps).nodes (actor e)

  -- after the steps that are done and one more
  led_now : (done more : List Input) (i : Input) → intake (run vs ps) e ≡ done ++ i ∷ more → (d : Node) → (f (steps f s0 done) i).node ≡ d → is_leader d.role ≡ true → Adds (steps f s0 done) i d → (j : ℕ) → length (steps f s0 done).log < j → j ≤ length d.log → LedFront vs es (take j d.log)
  unfolding f s0
  led_now done more i all d is l a j lt le =
      let front : take (suc (length done)) (intake (run vs ps) e) ≡ done ++ i ∷ [] =
      ap (take (suc (length done))) (all ∙ sym (append_assoc done (i ∷ []) more)) ∙ take-append-le (suc (length done)) (done ++ i ∷ []) more (omega (arith, length-append done (i ∷ []))) ∙ take_all (suc (length done)) (done ++ i ∷ []) (omega (arith, length-append done (i ∷ []))) in
      let node : midway vs (run vs ps) e (suc (length done)) ≡ d = ap (steps f s0) front ∙ steps_snoc f s0 done i ∙ is in
      let size = length-take-le j d.log le in
      let term : term_at (take j d.log) (length (take j d.log)) ≡ d.term = ap (term_at (take j d.log)) size ∙ term_at-take j d.log j (omega arith) ∙ own_term (steps f s0 done) i d j a lt le in
      record {
        first = ps;
        event = e;
        rest = rest;
        split = split;
        runs = up;
        steps = suc (length done);
        leads = ap (λ (z : Node). z.role) node ∙ role_is d.role l;
        term = ap (λ (z : Node). z.term) node ∙ sym term;
        within = subst (λ (z : Node). length (take j d.log) ≤ length z.log) (sym node) (omega arith);
        has = ap (λ (z : Node). take (length (take j d.log)) z.log) node ∙ ap (λ k. take k d.log) size;
      }

  led_own : (more done : List Input) (s : Node) → steps f s0 done ≡ s → intake (run vs ps) e ≡ done ++ more → AllOwnFit (LedFront vs es) vs (actor e) s more
  unfolding f s0
  led_own [] done s is all = tt
  led_own (i ∷ more) done s is all = (
    (λ l a q j lt le. led_now done more i all (f s i).node (ap (λ z. (f z i).node) is) l (subst (λ z. Adds z i (f s i).node) (sym is) a) j (subst (λ (z : Node). length z.log < j) (sym is) lt) le),
    led_own more (done ++ i ∷ []) (f s i).node (steps_snoc f s0 done i ∙ ap (λ z. (f z i).node) is) (all ∙ sym (append_assoc done (i ∷ []) more)),
  )

led_run : (vs : Setup) (es rest ps : List Event) → es ≡ ps ++ rest → RunFit (LedFront vs es) vs (run vs ps) rest
unfolding f s0
led_run vs es [] ps split = tt
led_run vs es (e ∷ rest) ps split = (
  (λ up. led_own vs es ps e rest split up (intake (run vs ps) e) [] ((run vs ps).nodes (actor e)) refl refl),
  subst (λ w. RunFit (LedFront vs es) vs w rest) (run_snoc vs ps e) (led_run vs es rest (ps ++ e ∷ []) (split ∙ sym (append_assoc ps (e ∷ []) rest))),
)

led_so : (vs : Setup) (es : List Event) → NextFit (LedFront vs es) vs blank (run vs es)
unfolding run
led_so vs es = run_fit (LedFront vs es) es blank (start vs) (start_fit (LedFront vs es) vs) (led_run vs es es [] refl)

-- the last term of a front is that at its index
by_index : (vs : Setup) (es : List Event) (log : List Entry) → Fronts (LedFront vs es) log → AllLed vs es log
by_index vs es log q i pos le =
    let size = length-take-le i log le in
    subst (λ t. Led vs es t (take i log)) (ap (term_at (take i log)) size ∙ term_at-take i log i (omega arith)) (q i pos le)

pub entries_led_hold : EntriesLed
entries_led_hold vs es n = by_index vs es (log_at vs es n) ((led_so vs es).so.nodes n)

what_led : (vs : Setup) (es : List Event) (h : Hist) (from to u : ℕ) (w : What) → WhatOk vs h from to u w → WhatFit (LedFront vs es) h u w → WhatLed vs es w
what_led vs es h from to u (AskVote last transfer) ok a = tt
what_led vs es h from to u (Vote granted) ok a = tt
what_led vs es h from to u (Append prev commit entries) ok a =
    let p = ok.1.piece in
    let within = p.within in
    let n = prev.index + length entries in
    let log = h.log_of u in
    let size = length-take-le n log within in
    (take n log, drop-take prev.index (length entries) log ∙ p.same, by_index vs es (take n log) (λ i pos le. subst (LedFront vs es) (sym (take-take i n log (omega arith))) (a i pos (omega arith))))
what_led vs es h from to u (Ack good index) ok a = tt
what_led vs es h from to u (Install last front) ok a =
    let i = ok.1 in
    let within = i.within in
    let size = length-take-le last.index (h.log_of u) within in
    subst (AllLed vs es) (sym i.same) (by_index vs es (take last.index (h.log_of u)) (λ j pos le. subst (LedFront vs es) (sym (take-take j last.index (h.log_of u) (omega arith))) (a j pos (omega arith))))
what_led vs es h from to u TimeoutNow ok a = tt

pub messages_led_hold : MessagesLed
messages_led_hold vs es k m e =
    let a = led_so vs es in
    let so = a.so in
    what_led vs es a.to m.from m.to m.term m.what (at_number vs a.to (run vs es).messages k m so.world.messages e) (fit_at (LedFront vs es) a.to (run vs es).messages k m so.messages e)

pub leaders_keep_hold : LeadersKeep
leaders_keep_hold vs es fs n m t a b =
    let x = moments vs es fs in
    let l = leader_ok vs es n t x.world a in
    let k = leader_ok vs (es ++ fs) m t x.world' b in
    let early : x.first.log_of t ≡ log_at vs es n = ap x.first.log_of (sym a.1) ∙ l.log in
    let late : x.second.log_of t ≡ log_at vs (es ++ fs) m = ap x.second.log_of (sym b.1) ∙ k.log in
    ap (take (length (log_at vs es n))) (sym late) ∙ ap (λ l. take (length l) (x.second.log_of t)) (sym early) ∙ sym (x.later.logs t).same ∙ take_all (length (x.first.log_of t)) (x.first.log_of t) (omega arith) ∙ early
