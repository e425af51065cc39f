-- What stays of what was applied, and what a barrier is past.
use Rattle.std.proofs.Common.{◌≡◌, ◌≢◌, ℕ, ◌<◌, ◌≤◌, List, [], ◌∷◌, ◌++◌, length, sym, ap, ◌∙◌, subst, ⊎_elim, arith}
use Rattle.std.proofs.lemmas.Bool.{cases_eq, cases_lt}
use Rattle.raft_spec.specs.Log.{term_at}
use Rattle.raft_safety.specs.Members.{Setup}
use Rattle.raft_safety.specs.World.{Event, happens, run, run_from, start}
use Rattle.raft_safety.specs.Laws.{Leads, log_at}
use Rattle.raft_safety.specs.Chosen.{reached, actor, chosen, chosen_more}
use Rattle.raft_safety.specs.Standing.{AppliedStays, AnsweredStays, EventsChosen, BarrierPast}
use Rattle.raft_safety.proofs.Logs.{Agree, term_at-within}
use Rattle.raft_safety.proofs.History.{Hist, elected, Committed, nothing, decided}
use Rattle.raft_safety.proofs.Growth.{Later, ne_along, committed_later, elected_later, decided_within}
use Rattle.raft_safety.proofs.Bases.{committed_up, committed_down}
use Rattle.raft_safety.proofs.Completes.{complete}
use Rattle.raft_safety.proofs.Accepts.{committed_in, committed_agree, decided_leads}
use Rattle.raft_safety.proofs.Reaches.{StoredOk}
use Rattle.raft_safety.proofs.Worlds.{WorldOk, moments, happens_fine, run_append, run_from_fine}
use Rattle.raft_safety.proofs.Chosens.{ChosenOk, applied, all, one, from_append}
use Rattle.raft_safety.proofs.Laws.{leader_ok}

-- a moment of a run, and a later one, with what is chosen at both
pub record Spans (vs : Setup) (es fs : List Event) : Type 0 where
  pub first : Hist
  pub second : Hist
  pub later : Later first second
  pub world : WorldOk vs first (run vs es)
  pub list : ChosenOk vs first (run vs es) (chosen vs es)
  pub world' : WorldOk vs second (run vs (es ++ fs))
  pub list' : ChosenOk vs second (run vs (es ++ fs)) (chosen vs (es ++ fs))

pub spans : (vs : Setup) (es fs : List Event) → Spans vs es fs
unfolding run chosen
spans vs es fs =
    let a = applied vs es in
    let b = all vs fs a.to (run vs es) (chosen vs es) a.world a.list in
    let w = sym (run_append vs (start vs) es fs) in
    let c = sym (from_append vs es fs (start vs) []) in
    record {
      first = a.to;
      second = b.to;
      later = b.later;
      world = a.world;
      list = a.list;
      world' = subst (WorldOk vs b.to) w b.world;
      list' = subst (λ v. ChosenOk vs b.to v (chosen vs (es ++ fs))) w (subst (ChosenOk vs b.to (run_from vs (run vs es) fs)) c b.list);
    }

pub answered_stays_holds : AnsweredStays
answered_stays_holds vs es fs n m t u i a le b up =
    let x = moments vs es fs in
    let k = leader_ok vs (es ++ fs) m u x.world' b in
    let here = a.1 in
    let c = committed_down i le (committed_up u (omega arith) (committed_later vs x.later (x.world.nodes n).commit)) in
    let late : x.second.who u ≡ m = ap x.second.who (sym b.1) ∙ k.who in
    let r = subst (Agree i (log_at vs es n)) (ap x.second.log_of (sym b.1) ∙ k.log) (committed_in x.world'.hist (ne_along _ _ late k.id) c) in
    (r.in_left, r.in_right, r.same)

-- an event of a run, and a later moment
record Across (vs : Setup) (es : List Event) (e : Event) (fs : List Event) : Type 0 where
  first : Hist
  second : Hist
  later : Later first second
  done : StoredOk vs first (actor e) (reached vs (run vs es) e)
  world : WorldOk vs second (run vs (es ++ e ∷ fs))

across : (vs : Setup) (es : List Event) (e : Event) (fs : List Event) → Across vs es e fs
unfolding run
across vs es e fs =
    let a = applied vs es in
    let b = happens_fine (run vs es) e a.world in
    let c = run_from_fine vs fs b.to (happens vs (run vs es) e) b.world in
    record {
      first = b.to;
      second = c.to;
      later = c.later;
      done = b.done;
      world = subst (WorldOk vs c.to) (sym (run_append vs (start vs) es (e ∷ fs))) c.world;
    }

pub applied_stays_holds : AppliedStays
applied_stays_holds vs es e fs m t b le =
    let x = across vs es e fs in
    let k = leader_ok vs (es ++ e ∷ fs) m t x.world b in
    let y = reached vs (run vs es) e in
    let c = committed_up t le (committed_later vs x.later x.done.base.settled) in
    let late : x.second.who t ≡ m = ap x.second.who (sym b.1) ∙ k.who in
    let r = subst (Agree y.applied y.log) (ap x.second.log_of (sym b.1) ∙ k.log) (committed_in x.world.hist (ne_along _ _ late k.id) c) in
    (r.in_left, r.in_right, r.same)

pub events_chosen_holds : EventsChosen
unfolding chosen run
events_chosen_holds vs es e =
    let a = applied vs es in
    let x = reached vs (run vs es) e in
    let b = one vs a.to (run vs es) (chosen vs es) e a.world a.list in
    let c = happens_fine (run vs es) e a.world in
    let new = chosen_more (chosen vs es) x in
    let r : Agree x.applied x.log new = committed_agree b.world.hist b.done.base.settled (committed_down x.applied (let l = b.reaches in omega arith) b.list.settled) in
    let q = subst (Agree x.applied x.log) (sym (from_append vs es (e ∷ []) (start vs) [])) r in
    (q.in_left, q.in_right, q.same)

-- a node that leads t has all that is chosen, or a greater term had a leader that lacks what it had not yet then
before : (vs : Setup) (es fs : List Event) (n t j : ℕ) → (x : Spans vs es fs) → Leads vs es n t → Leads vs (es ++ fs) n t → length (log_at vs es n) < j → j ≤ ((run vs (es ++ fs)).nodes n).commit → Committed vs x.first (chosen vs es) x.list.bound (length (chosen vs es)) → length (chosen vs es) ≤ length (log_at vs es n)
before vs es fs n t j x a b past low (nothing e) = omega arith
before vs es fs n t j x a b past low (decided w i le d within agree) =
    let h = x.first in
    let g = x.second in
    let l = leader_ok vs es n t x.world a in
    let k = leader_ok vs (es ++ fs) n t x.world' b in
    let ok = x.world.hist in
    let ok' = x.world'.hist in
    let who : h.who t ≡ n = ap h.who (sym a.1) ∙ l.who in
    let leads : h.who t ≢ 0 = ne_along _ _ who l.id in
    let log : h.log_of t ≡ log_at vs es n = ap h.log_of (sym a.1) ∙ l.log in
    let len = ap length log in
    let front = ok.front t leads in
    let up = front.in_right in
    let inside = decided_within vs d in
    ⊎_elim
    (λ (q : w < t). let has = term_at-within (elected h t) i w (complete vs h w i t ok d q leads) d.term in omega arith)
    (λ (q : t ≤ w).
    ⊎_elim
    (λ (e : w ≡ t). let same = ap (λ w. length (h.log_of w)) e in omega arith)
    (λ (e : w ≢ t). absurd (late (omega arith) (decided_leads ok d) (x.world'.nodes n).commit))
    (cases_eq w t))
    (cases_lt w t)
  where
    late : t < w → x.first.who w ≢ 0 → Committed vs x.second (log_at vs (es ++ fs) n) ((run vs (es ++ fs)).nodes n).term ((run vs (es ++ fs)).nodes n).commit → ⊥
    late lt led (nothing z) = omega arith
    late lt led (decided u y le' d' within' agree') =
        let h = x.first in
        let g = x.second in
        let ok = x.world.hist in
        let ok' = x.world'.hist in
        let l = leader_ok vs es n t x.world a in
        let log : h.log_of t ≡ log_at vs es n = ap h.log_of (sym a.1) ∙ l.log in
        let who : h.who t ≡ n = ap h.who (sym a.1) ∙ l.who in
        let leads : h.who t ≢ 0 = ne_along _ _ who l.id in
        let leads' : g.who t ≢ 0 = ne_along _ _ (x.later.who t leads) leads in
        let led' : g.who w ≢ 0 = ne_along _ _ (x.later.who w led) led in
        let len = ap length log in
        let term' = b.1 in
        let front = ok.front t leads in
        let up = front.in_right in
        ⊎_elim
        (λ (q : u < t).
        let has = term_at-within (elected g t) y u (complete vs g u y t ok' d' q leads') d'.term in
        let same = ap length (elected_later vs t ok x.later leads) in
        omega arith)
        (λ (q : t ≤ u).
        let is : u ≡ t = omega arith in
        let has : term_at (elected h w) y ≡ t = ap (λ xs. term_at xs y) (sym (elected_later vs w ok x.later led)) ∙ complete vs g u y w ok' d' (omega arith) led' ∙ is in
        let nz : t ≢ 0 = λ z. d'.term (is ∙ z) in
        let inside = term_at-within (elected h w) y t has nz in
        let own : h.ballot (h.who w) w ≢ 0 = ne_along _ _ (ok.own w led) led in
        let agree = (ok.had_sound (h.who w) w own).at y inside in
        let r : y ≤ length (h.log_of t) = subst (λ v. y ≤ length (h.log_of v)) has agree.in_right in
        omega arith)
        (cases_lt u t)

pub barrier_past_holds : BarrierPast
barrier_past_holds vs es fs n t j a b past low =
    let x = spans vs es fs in
    let le = before vs es fs n t j x a b past low x.list.settled in
    omega arith
