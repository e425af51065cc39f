-- Each event keeps the invariant, and so does each list of events.
use Rattle.std.proofs.Common.{min, ◌≡◌, ℕ, zero, suc, Bool, true, false, List, [], ◌∷◌, ◌++◌, Option, Some, None, refl, sym, ◌∙◌, subst, arith}
use Rattle.std.specs.Prelude.{◌==◌, slice_get}
use Rattle.std.proofs.lemmas.Bool.{cond_both, eqb-true, eqb-false}
use Rattle.raft_spec.specs.Node.{Message, Node, Server, Input, Receive}
use Rattle.raft_spec.specs.Account.{applied_to, Stored, stored_of, loaded, older, fresh}
use Rattle.raft_safety.specs.Members.{Setup}
use Rattle.raft_safety.specs.World.{World, Cause, Does, Takes, Event, Acts, Stops, Crash, Start, taken, inputs, one_of, picked, put, after, outs, stopped, happens, start, run_from, run}
use Rattle.raft_safety.specs.Chosen.{actor, reached}
use Rattle.raft_safety.proofs.Logs.{term_at-nil, term_at-zero}
use Rattle.raft_safety.proofs.History.{Hist, Sound, HistOk, NodeOk, MessageOk, nothing}
use Rattle.raft_safety.proofs.Growth.{Later, later_refl, later_trans}
use Rattle.raft_safety.proofs.Bases.{base_commit, committed_down}
use Rattle.raft_safety.proofs.Others.{node_later}
use Rattle.raft_safety.proofs.Reaches.{AllOk, all_later, all_append, Reach, off, StoredOk, stored_ok, loaded_ok, older_ok}
use Rattle.raft_safety.proofs.Steps.{InputsOk, Stands, stands_still, account_front, steps_fine}

pub record WorldOk (vs : Setup) (h : Hist) (w : World) : Type 0 where
  pub hist : HistOk vs h
  pub nodes : (n : ℕ) → NodeOk vs h n (w.nodes n)
  pub messages : AllOk vs h w.messages

-- a later world, with its history, and what its node has stored and applied
pub record Turned (vs : Setup) (h : Hist) (w : World) (n : ℕ) (x : Stored) : Type 0 where
  pub to : Hist
  pub later : Later h to
  pub world : WorldOk vs to w
  pub done : StoredOk vs to n x

stays_so : {vs : Setup} {h : Hist} (w : World) (n : ℕ) → WorldOk vs h w → Turned vs h w n (stored_of (w.nodes n))
stays_so {vs} {h} w n a = record { to = h; later = later_refl h; world = a; done = stored_ok (w.nodes n) (a.nodes n) }

-- what the node of the new world has
its_own : {vs : Setup} {h : Hist} {w : World} {n : ℕ} {x : Stored} → Turned vs h w n x → Turned vs h w n (stored_of (w.nodes n))
its_own {vs} {h} {w} {n} {x} t = record { to = t.to; later = t.later; world = t.world; done = stored_ok (w.nodes n) (t.world.nodes n) }

pub put_world : {vs : Setup} {h : Hist} (w : World) (n : ℕ) (s : Node) (out : List Message) → WorldOk vs h w → (r : Reach vs h n s out) → WorldOk vs r.to (put w n s out)
unfolding put
put_world {vs} {h} w n s out a r = record {
  hist = r.hist;
  nodes = λ k. cond_both (k == n) s (w.nodes k) (NodeOk vs r.to k) (λ e. subst (λ k. NodeOk vs r.to k s) (sym (eqb-true _ _ e)) r.node) (λ e. node_later vs n k (w.nodes k) (eqb-false _ _ e) a.hist r.grows (a.nodes k));
  messages = all_append vs r.to w.messages out (all_later vs w.messages r.grows.later a.messages) r.sent;
}

put_fine : {vs : Setup} {h : Hist} (w : World) (n : ℕ) (s : Node) (out : List Message) (x : Stored) → WorldOk vs h w → (r : Reach vs h n s out) → StoredOk vs r.to n x → Turned vs h (put w n s out) n x
put_fine {vs} {h} w n s out x a r fit = record { to = r.to; later = r.grows.later; world = put_world w n s out a r; done = fit }

pub at_number : (vs : Setup) (h : Hist) (ms : List Message) (k : ℕ) (m : Message) → AllOk vs h ms → slice_get ms k ≡ Some m → MessageOk vs h m
at_number vs h [] k m a e = absurd (cc)
at_number vs h (x ∷ ms) zero m a e = subst (MessageOk vs h) (some_is x m e) a.0
  where
    some_is : (x y : Message) → slice_get (x ∷ ms) 0 ≡ Some y → x ≡ y
    some_is x y e = cc
at_number vs h (x ∷ ms) (suc k) m a e = at_number vs h ms k m a.1 e

pub all_picked : (vs : Setup) (h : Hist) (ms : List Message) (ks : List ℕ) → AllOk vs h ms → AllOk vs h (picked ms ks)
all_picked vs h ms [] a = tt
all_picked vs h ms (k ∷ ks) a = all_append vs h (one_of (slice_get ms k)) (picked ms ks) (one (slice_get ms k) refl) (all_picked vs h ms ks a)
  where
    one : (o : Option Message) → slice_get ms k ≡ o → AllOk vs h (one_of o)
    one None e = tt
    one (Some m) e = (at_number vs h ms k m a e, tt)

pub inputs_fine : (vs : Setup) (h : Hist) (n : ℕ) (ms : List Message) (cs : List Cause) → AllOk vs h ms → InputsOk vs h n (inputs n ms cs)
inputs_fine vs h n ms [] a = tt
inputs_fine vs h n ms (Does local ∷ cs) a = (tt, inputs_fine vs h n ms cs a)
inputs_fine vs h n ms (Takes k ∷ cs) a = got (slice_get ms k) refl (inputs_fine vs h n ms cs a)
  where
    got : (o : Option Message) → slice_get ms k ≡ o → InputsOk vs h n (inputs n ms cs) → InputsOk vs h n (taken n o ++ inputs n ms cs)
    got None e r = r
    got (Some m) e r = cond_both (m.to == n) (Receive m ∷ []) [] (λ (l : List Input). InputsOk vs h n (l ++ inputs n ms cs)) (λ t. ((eqb-true _ _ t, at_number vs h ms k m a e), r)) (λ t. r)

acts_fine : {vs : Setup} {h : Hist} (w : World) (n : ℕ) (cs : List Cause) (places : List ℕ) → WorldOk vs h w → Turned vs h (happens vs w (Acts n cs places)) n (stored_of ((happens vs w (Acts n cs places)).nodes n))
acts_fine {vs} {h} w n cs places a =
    cond_both (w.nodes n).up (put w n (after vs w n cs) (picked (outs vs w n cs) places)) w (λ v. Turned vs h v n (stored_of (v.nodes n)))
    (λ u.
    let r = steps_fine n (inputs n w.messages cs) h (w.nodes n) a.hist (a.nodes n) (inputs_fine vs h n w.messages cs a.messages) in
    its_own (put_fine w n (after vs w n cs) (picked (outs vs w n cs) places) (stored_of (after vs w n cs)) a (record { to = r.to; grows = r.grows; hist = r.hist; node = r.node; sent = all_picked vs r.to (outs vs w n cs) places r.sent }) (stored_ok (after vs w n cs) r.node)))
    (λ u. stays_so w n a)

stopped_fine : {vs : Setup} {h : Hist} (w : World) (n : ℕ) (cs : List Cause) (acts : ℕ) → WorldOk vs h w → Stands vs h n (stopped vs w n cs acts)
stopped_fine {vs} {h} w n cs acts a =
    cond_both (w.nodes n).up _ (stored_of (w.nodes n)) (Stands vs h n)
    (λ u. account_front n (inputs n w.messages cs) h (w.nodes n) acts a.hist (a.nodes n) (inputs_fine vs h n w.messages cs a.messages))
    (λ u. stands_still (w.nodes n) a.hist (a.nodes n))

-- a node that is loaded from what it has stored, or from a longer log
loads : {vs : Setup} {h : Hist} (w : World) (n : ℕ) (up : Bool) (servers : List Server) (x y : Stored) → WorldOk vs h w → (s : Stands vs h n x) → StoredOk vs s.to n y → Turned vs h (put w n (loaded up servers y) []) n x
loads w n up servers x y a s fit = put_fine w n (loaded up servers y) [] x a (record { to = s.to; grows = s.grows; hist = s.hist; node = loaded_ok up servers y fit; sent = tt }) s.fit

-- with less applied
less_applied : {vs : Setup} {h : Hist} (n k : ℕ) (x : Stored) → Stands vs h n x → Stands vs h n (applied_to k x)
less_applied n k x s = record { to = s.to; grows = s.grows; hist = s.hist; fit = record { base = base_commit (min k x.applied) (committed_down (min k x.applied) (omega arith) s.fit.base.settled) s.fit.base; settled = s.fit.settled; low = s.fit.low; term = s.fit.term } }

pub happens_fine : {vs : Setup} {h : Hist} (w : World) (e : Event) → WorldOk vs h w → Turned vs h (happens vs w e) (actor e) (reached vs w e)
happens_fine w (Acts n cs places) a = acts_fine w n cs places a
happens_fine {vs} w (Stops n cs acts applied base) a =
    let x = applied_to applied (stopped vs w n cs acts) in
    let s = less_applied n applied (stopped vs w n cs acts) (stopped_fine w n cs acts a) in
    loads w n false [] x (older base x) a s (older_ok base x s.fit)
happens_fine w (Crash n) a =
    let x = stored_of (w.nodes n) in
    let s = stands_still (w.nodes n) a.hist (a.nodes n) in
    loads w n false [] x x a s s.fit
happens_fine {vs} {h} w (Start n servers) a =
    let x = stored_of (w.nodes n) in
    let s = stands_still (w.nodes n) a.hist (a.nodes n) in
    cond_both (w.nodes n).up w (put w n (loaded true servers x) []) (λ v. Turned vs h v n x) (λ u. stays_so w n a) (λ u. loads w n true servers x x a s s.fit)

-- a later world, with its history
pub record Next (vs : Setup) (h : Hist) (w : World) : Type 0 where
  pub to : Hist
  pub later : Later h to
  pub world : WorldOk vs to w

pub run_from_fine : (vs : Setup) (es : List Event) (h : Hist) (w : World) → WorldOk vs h w → Next vs h (run_from vs w es)
run_from_fine vs [] h w a = record { to = h; later = later_refl h; world = a }
run_from_fine vs (e ∷ es) h w a =
    let one = happens_fine w e a in
    let rest = run_from_fine vs es one.to (happens vs w e) one.world in
    record { to = rest.to; later = later_trans h one.to rest.to one.later rest.later; world = rest.world }

-- nothing has happened
pub blank : Hist
blank = record { ballot = λ n u. 0; had = λ n u. []; who = λ u. 0; won = λ u n. false; log_of = λ u. []; acked = λ n t. 0 }

blank_sound : Sound blank []
unfolding blank
blank_sound = record { at = λ i le. record { in_left = le; in_right = le; same = refl } }

blank_ok : (vs : Setup) → HistOk vs blank
unfolding blank
blank_ok vs = record {
  zero_term = refl;
  none = λ u e. refl;
  sound = λ u. blank_sound;
  below = λ u i. omega (arith, term_at-nil i);
  front = λ u e. absurd (e refl);
  older = λ u i e. absurd (e refl);
  quorum = λ u e. absurd (e refl);
  changes = λ t j e. absurd (e refl);
  won_ballot = λ u n e. absurd (e refl);
  own = λ u e. absurd (e refl);
  stood = λ n u e. absurd (e refl);
  newer = λ n u e. absurd (e refl);
  had_sound = λ n u e. absurd (e refl);
  acks_within = λ n t. omega arith;
  weak = λ n u t i e. absurd (e refl);
  strict = λ n u t i e. absurd (e refl);
}

blank_node : (vs : Setup) (n : ℕ) → NodeOk vs blank n (fresh vs.opening)
unfolding blank
blank_node vs n = record {
  sound = blank_sound;
  below = λ i. omega (arith, term_at-nil i);
  vote = refl;
  later = λ u b. refl;
  standing = λ e. off e;
  leading = λ e. off e;
  acks_later = λ t b. refl;
  acks = λ t i nz le e. absurd (nz (sym e ∙ term_at-nil i));
  commit = nothing refl;
  snaps = record { base = omega arith; applied = omega arith; term = term_at-zero [] };
}

pub start_fine : (vs : Setup) → WorldOk vs blank (start vs)
start_fine vs = record { hist = blank_ok vs; nodes = λ n. blank_node vs n; messages = tt }

-- any two moments of a run
pub record Moments (vs : Setup) (es fs : List Event) : Type 0 where
  pub first : Hist
  pub second : Hist
  pub later : Later first second
  pub world : WorldOk vs first (run vs es)
  pub world' : WorldOk vs second (run vs (es ++ fs))

pub run_append : (vs : Setup) (w : World) (es fs : List Event) → run_from vs w (es ++ fs) ≡ run_from vs (run_from vs w es) fs
run_append vs w [] fs = refl
run_append vs w (e ∷ es) fs = run_append vs (happens vs w e) es fs

pub moments : (vs : Setup) (es fs : List Event) → Moments vs es fs
unfolding run
moments vs es fs =
    let a = run_from_fine vs es blank (start vs) (start_fine vs) in
    let b = run_from_fine vs fs a.to (run_from vs (start vs) es) a.world in
    record { first = a.to; second = b.to; later = b.later; world = a.world; world' = subst (WorldOk vs b.to) (sym (run_append vs (start vs) es fs)) b.world }
