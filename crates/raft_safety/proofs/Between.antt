-- One leader a term between two steps of an event too, and leaders' terms of 32 bits.
use Rattle.std.proofs.Common.{◌≡◌, ◌≢◌, ℕ, zero, suc, ◌≤◌, Bool, true, false, List, [], ◌∷◌, ◌++◌, take, refl, sym, ap, ◌∙◌, subst, true≢false}
use Rattle.std.specs.Prelude.{◌==◌}
use Rattle.std.proofs.lemmas.Bool.{cond_both, cond-true}
use Rattle.raft_spec.specs.Node.{Role, Leader, Follower, Message, Node, Server, Input, is_leader}
use Rattle.raft_spec.specs.Account.{Stored, stored_of, enacted, steps, said, account, loaded, older}
use Rattle.raft_spec.specs.Steps.{raft_step}
use Rattle.raft_spec.specs.Outcomes.{quiet}
use Rattle.raft_spec.specs.Laws.{HasShortTerm}
use Rattle.raft_spec.proofs.Terms.{terms_stay_short_holds}
use Rattle.raft_safety.specs.Members.{Setup, voters_after, may_take, member_step}
use Rattle.raft_safety.specs.World.{World, Event, Acts, Stops, Crash, Start, inputs, put, picked, outs, after, stopped, happens, start, run_from, run}
use Rattle.raft_safety.specs.Chosen.{actor}
use Rattle.raft_safety.specs.Sources.{causes_of, intake, midway}
use Rattle.raft_safety.specs.Midways.{Made, LeadsAfter, OneLeaderThen, OneLeaderMidway, LeadersShort, LeadersShortMidway}
use Rattle.raft_safety.proofs.History.{Hist, NodeOk, LeaderOk}
use Rattle.raft_safety.proofs.Growth.{Later, later_trans, ne_along}
use Rattle.raft_safety.proofs.Reaches.{Reach, loaded_ok, older_ok, StoredOk}
use Rattle.raft_safety.proofs.Steps.{InputsOk, steps_fine, split_fine, stop_split}
use Rattle.raft_safety.proofs.Worlds.{WorldOk, put_world, all_picked, inputs_fine, happens_fine, Next, run_from_fine, moments, run_append}
use Rattle.raft_safety.proofs.Laws.{leader_ok}

-- ---- one leader

inputs_front : (vs : Setup) (h : Hist) (n : ℕ) (is : List Input) (k : ℕ) → InputsOk vs h n is → InputsOk vs h n (take k is)
inputs_front vs h n is zero a = tt
inputs_front vs h n [] (suc k) a = tt
inputs_front vs h n (i ∷ is) (suc k) a = (a.0, inputs_front vs h n is k a.1)

-- what an event's first steps leave, with the history then
mid_reach : {vs : Setup} {h : Hist} (w : World) (f : Event) (j : ℕ) → WorldOk vs h w → Reach vs h (actor f) (midway vs w f j) (said (member_step vs (actor f)) (w.nodes (actor f)) (take j (intake w f)))
mid_reach {vs} {h} w f j a = steps_fine (actor f) (take j (intake w f)) h (w.nodes (actor f)) a.hist (a.nodes (actor f)) (inputs_front vs h (actor f) (intake w f) j (inputs_fine vs h (actor f) w.messages (causes_of f) a.messages))

-- who led a term leads it after the first steps of an event
leads_on : {vs : Setup} {h g : Hist} (es : List Event) (f : Event) (n j t : ℕ) → Later h g → WorldOk vs g (run vs es) → h.who t ≡ n → n ≢ 0 → LeadsAfter vs es f j t → n ≡ actor f
leads_on {vs} {h} {g} es f n j t later a who some x =
    let r = mid_reach (run vs es) f j a in
    let l : LeaderOk r.to (actor f) (midway vs (run vs es) f j) = r.node.leading (ap is_leader x.role) in
    let now : r.to.who t ≡ actor f = ap r.to.who (sym x.term) ∙ l.who in
    let led : h.who t ≢ 0 = ne_along n (h.who t) who some in
    let at : g.who t ≡ n = later.who t led ∙ who in
    let led' : g.who t ≢ 0 = ne_along n (g.who t) at some in
    sym at ∙ sym (r.grows.later.who t led') ∙ now

pub one_leader_then_holds : OneLeaderThen
one_leader_then_holds vs es more f n j t a x =
    let m = moments vs es more in
    let l = leader_ok vs es n t m.world a in
    let who : m.first.who t ≡ n = ap m.first.who (sym a.1) ∙ l.who in
    leads_on (es ++ more) f n j t m.later m.world' who l.id x

-- the history after the first steps of an event, and that after the event
record Passed (vs : Setup) (w : World) (n : ℕ) (s : Node) : Type 0 where
  mid : Hist
  node : NodeOk vs mid n s
  next : Next vs mid w

stays : (vs : Setup) (n : ℕ) (s : Node) (k : ℕ) → steps (member_step vs n) s (take k []) ≡ s
stays vs n s zero = refl
stays vs n s (suc k) = refl

passes : {vs : Setup} {h : Hist} (w : World) (e : Event) (k : ℕ) → WorldOk vs h w → (w.nodes (actor e)).up ≡ true → Made vs w e k → Passed vs (happens vs w e) (actor e) (midway vs w e k)
passes {vs} {h} w (Acts n cs places) k a up made =
    let x = split_fine n (inputs n w.messages cs) k h (w.nodes n) a.hist (a.nodes n) (inputs_fine vs h n w.messages cs a.messages) in
    let r : Reach vs h n (after vs w n cs) (picked (outs vs w n cs) places) = record { to = x.whole.to; grows = x.whole.grows; hist = x.whole.hist; node = x.whole.node; sent = all_picked vs x.whole.to (outs vs w n cs) places x.whole.sent } in
    record {
      mid = x.mid.to;
      node = x.mid.node;
      next = record { to = x.whole.to; later = x.later; world = subst (WorldOk vs x.whole.to) (sym (cond-true (w.nodes n).up (put w n (after vs w n cs) (picked (outs vs w n cs) places)) w up)) (put_world w n (after vs w n cs) (picked (outs vs w n cs) places) a r) };
    }
passes {vs} {h} w (Stops n cs acts applied base) k a up made =
    let x = stop_split n (inputs n w.messages cs) k acts h (w.nodes n) made a.hist (a.nodes n) (inputs_fine vs h n w.messages cs a.messages) in
    let kept = enacted (stored_of (w.nodes n)) (take acts (account (member_step vs n) (w.nodes n) (inputs n w.messages cs))) in
    let fit : StoredOk vs x.stands.to n (stopped vs w n cs acts) = subst (StoredOk vs x.stands.to n) (sym (cond-true (w.nodes n).up kept (stored_of (w.nodes n)) up)) x.stands.fit in
    let down = loaded false [] (older base (stopped vs w n cs acts)) in
    let r : Reach vs h n down [] = record { to = x.stands.to; grows = x.stands.grows; hist = x.stands.hist; node = loaded_ok false [] (older base (stopped vs w n cs acts)) (older_ok base (stopped vs w n cs acts) fit); sent = tt } in
    record { mid = x.mid.to; node = x.mid.node; next = record { to = x.stands.to; later = x.later; world = put_world w n down [] a r } }
passes {vs} {h} w (Crash n) k a up made =
    let x = happens_fine w (Crash n) a in
    record { mid = h; node = subst (NodeOk vs h n) (sym (stays vs n (w.nodes n) k)) (a.nodes n); next = record { to = x.to; later = x.later; world = x.world } }
passes {vs} {h} w (Start n servers) k a up made =
    let x = happens_fine w (Start n servers) a in
    record { mid = h; node = subst (NodeOk vs h n) (sym (stays vs n (w.nodes n) k)) (a.nodes n); next = record { to = x.to; later = x.later; world = x.world } }

run_past : (vs : Setup) (es : List Event) (e : Event) (more : List Event) → run vs (es ++ e ∷ more) ≡ run_from vs (happens vs (run vs es) e) more
unfolding run
run_past vs es e more = run_append vs (start vs) es (e ∷ more)

pub one_leader_midway_holds : OneLeaderMidway
one_leader_midway_holds vs es e more f k j t a made x =
    let m = moments vs es [] in
    let p = passes (run vs es) e k m.world a.runs made in
    let l : LeaderOk p.mid (actor e) (midway vs (run vs es) e k) = p.node.leading (ap is_leader a.role) in
    let who : p.mid.who t ≡ actor e = ap p.mid.who (sym a.term) ∙ l.who in
    let rest = run_from_fine vs more p.next.to (happens vs (run vs es) e) p.next.world in
    leads_on (es ++ e ∷ more) f (actor e) j t (later_trans p.mid p.next.to rest.to p.next.later rest.later) (subst (WorldOk vs rest.to) (sym (run_past vs es e more)) rest.world) who l.id x

-- ---- terms

step_short : (vs : Setup) (n : ℕ) (s : Node) (i : Input) → HasShortTerm s → HasShortTerm (member_step vs n s i).node
unfolding member_step
step_short vs n s i h = cond_both (may_take vs s i) (raft_step (voters_after vs) n s i) (quiet s) (λ d. HasShortTerm d.node) (λ e. terms_stay_short_holds (voters_after vs) n s i h) (λ e. h)

steps_short : (vs : Setup) (n : ℕ) (is : List Input) (s : Node) → HasShortTerm s → HasShortTerm (steps (member_step vs n) s is)
steps_short vs n [] s h = h
steps_short vs n (i ∷ is) s h = steps_short vs n is (member_step vs n s i).node (step_short vs n s i h)

abbrev AllShort : World → Type 0
AllShort w = (n : ℕ) → HasShortTerm (w.nodes n)

put_short : (w : World) (n : ℕ) (s : Node) (out : List Message) → HasShortTerm s → AllShort w → AllShort (put w n s out)
unfolding put
put_short w n s out h a k = cond_both (k == n) s (w.nodes k) HasShortTerm (λ e. h) (λ e. a k)

loaded_short : (up : Bool) (servers : List Server) (x : Stored) → HasShortTerm (loaded up servers x)
loaded_short up servers x n = absurd (n refl)

happens_short : (vs : Setup) (w : World) (e : Event) → AllShort w → AllShort (happens vs w e)
happens_short vs w (Acts n cs places) a = cond_both (w.nodes n).up (put w n (after vs w n cs) (picked (outs vs w n cs) places)) w AllShort (λ u. put_short w n (after vs w n cs) (picked (outs vs w n cs) places) (steps_short vs n (inputs n w.messages cs) (w.nodes n) (a n)) a) (λ u. a)
happens_short vs w (Stops n cs acts applied base) a = put_short w n (loaded false [] (older base (stopped vs w n cs acts))) [] (loaded_short false [] (older base (stopped vs w n cs acts))) a
happens_short vs w (Crash n) a = put_short w n (loaded false [] (stored_of (w.nodes n))) [] (loaded_short false [] (stored_of (w.nodes n))) a
happens_short vs w (Start n servers) a = cond_both (w.nodes n).up w (put w n (loaded true servers (stored_of (w.nodes n))) []) AllShort (λ u. a) (λ u. put_short w n (loaded true servers (stored_of (w.nodes n))) [] (loaded_short true servers (stored_of (w.nodes n))) a)

run_short : (vs : Setup) (es : List Event) (w : World) → AllShort w → AllShort (run_from vs w es)
run_short vs [] w a = a
run_short vs (e ∷ es) w a = run_short vs es (happens vs w e) (happens_short vs w e a)

all_short : (vs : Setup) (es : List Event) → AllShort (run vs es)
unfolding run
all_short vs es = run_short vs es (start vs) (λ n far. absurd (far refl))

leads_apart : (r : Role) → r ≡ Leader → r ≢ Follower
leads_apart r e f = true≢false (ap is_leader (sym e ∙ f))

pub leaders_short_holds : LeadersShort
leaders_short_holds vs es n t l = subst (λ k. k ≤ 4294967295) l.1 (all_short vs es n (leads_apart _ l.0))

pub leaders_short_midway_holds : LeadersShortMidway
leaders_short_midway_holds vs es e k t l = subst (λ n. n ≤ 4294967295) l.term (steps_short vs (actor e) (take k (intake (run vs es) e)) ((run vs es).nodes (actor e)) (all_short vs es (actor e)) (leads_apart _ l.role))
