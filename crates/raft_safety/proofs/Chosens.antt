-- What is applied is one list.
use Rattle.std.proofs.Common.{◌≡◌, ◌≢◌, ◌⊎◌, inl, inr, ℕ, Bool, true, false, ◌<◌, ◌≤◌, max, List, [], ◌∷◌, ◌++◌, length, take, drop, refl, sym, ap, ◌∙◌, subst, ⊎_elim, arith, length-append, append_assoc}
use Rattle.std.specs.Prelude.{◌==◌}
use Rattle.std.proofs.lemmas.List.{append-nil, take-append-drop, take-take, length-take-le, length-take, take_all, drop_all, take_at}
use Rattle.std.proofs.lemmas.Bool.{cases_eq, cases_lt, cond_both, cond-true, cond-false, eq-eqb, ne_eqb}
use Rattle.raft_spec.specs.Log.{Entry}
use Rattle.raft_spec.specs.Node.{Message, Node, Server}
use Rattle.raft_spec.specs.Account.{applied_to, Stored, stored_of, loaded, older}
use Rattle.raft_safety.specs.Members.{Setup}
use Rattle.raft_safety.specs.World.{World, Event, Acts, Stops, Crash, Start, put, stopped, happens, start, run_from, run}
use Rattle.raft_safety.specs.Laws.{log_at}
use Rattle.raft_safety.specs.Chosen.{actor, reached, chosen_more, chosen_from, chosen, CutsApplied, WholeLogs, AppliedChosen, ChosenGrows}
use Rattle.raft_safety.proofs.Logs.{Agree, agree_sym, agree_take, agree_down}
use Rattle.raft_safety.proofs.History.{Hist, HistOk, Committed, nothing}
use Rattle.raft_safety.proofs.Growth.{Later, later_refl, later_trans, committed_later, committed_along}
use Rattle.raft_safety.proofs.Bases.{committed_within, committed_down, committed_max}
use Rattle.raft_safety.proofs.Accepts.{committed_agree}
use Rattle.raft_safety.proofs.Reaches.{StoredOk}
use Rattle.raft_safety.proofs.Worlds.{WorldOk, happens_fine, blank, start_fine}

-- nothing changes at the other nodes
put_other : (w : World) (n : ℕ) (s : Node) (out : List Message) (k : ℕ) → k ≢ n → (put w n s out).nodes k ≡ w.nodes k
unfolding put
put_other w n s out k e = cond-false (k == n) s (w.nodes k) (ne_eqb k n e)

pub happens_other : (vs : Setup) (w : World) (e : Event) (k : ℕ) → k ≢ actor e → (happens vs w e).nodes k ≡ w.nodes k
happens_other vs w (Acts n cs places) k e = cond_both (w.nodes n).up _ w (λ (x : World). x.nodes k ≡ w.nodes k) (λ u. put_other w n _ _ k e) (λ u. refl)
happens_other vs w (Stops n cs acts upto base) k e = put_other w n _ [] k e
happens_other vs w (Crash n) k e = put_other w n _ [] k e
happens_other vs w (Start n servers) k e = cond_both (w.nodes n).up w (put w n (loaded true servers (stored_of (w.nodes n))) []) (λ x. x.nodes k ≡ w.nodes k) (λ u. refl) (λ u. put_other w n _ [] k e)

-- what the node's commit index is by the acts of the event
pub put_here : (w : World) (n : ℕ) (s : Node) (out : List Message) → (put w n s out).nodes n ≡ s
unfolding put
put_here w n s out = cond-true (n == n) s (w.nodes n) (eq-eqb n n refl)

put_commit : (w : World) (n : ℕ) (x : Stored) (up : Bool) (servers : List Server) → ((put w n (loaded up servers x) []).nodes n).commit ≤ max x.applied x.snapshot.index
put_commit w n x up servers = subst (λ (s : Node). s.commit ≤ max x.applied x.snapshot.index) (sym (put_here w n (loaded up servers x) [])) (omega arith)

its_commit : (vs : Setup) (w : World) (e : Event) → ((happens vs w e).nodes (actor e)).commit ≤ max (reached vs w e).applied (reached vs w e).snapshot.index
its_commit vs w (Acts n cs places) = omega arith
its_commit vs w (Stops n cs acts upto base) = put_commit w n (older base (applied_to upto (stopped vs w n cs acts))) false []
its_commit vs w (Crash n) = put_commit w n (stored_of (w.nodes n)) false []
its_commit vs w (Start n servers) = cond_both (w.nodes n).up w (put w n (loaded true servers (stored_of (w.nodes n))) []) (λ x. (x.nodes n).commit ≤ max (w.nodes n).commit (w.nodes n).snapshot.index) (λ u. omega arith) (λ u. put_commit w n (stored_of (w.nodes n)) true servers)

pub record ChosenOk (vs : Setup) (h : Hist) (w : World) (c : List Entry) : Type 0 where
  pub bound : ℕ
  pub settled : Committed vs h c bound (length c)
  pub covers : (n : ℕ) → (w.nodes n).commit ≤ length c

-- the list with what a node applied
record Grown (vs : Setup) (h : Hist) (new : List Entry) (k : ℕ) : Type 0 where
  bound : ℕ
  settled : Committed vs h new bound (length new)
  covers : k ≤ length new

-- an event's node adds nothing to the list, or the list is the front of its log then
pub chosen_cases : {vs : Setup} {h : Hist} (c : List Entry) (b : ℕ) (n : ℕ) (x : Stored) → HistOk vs h → Committed vs h c b (length c) → StoredOk vs h n x → (chosen_more c x ≡ c) ⊎ (chosen_more c x ≡ take (max x.applied x.snapshot.index) x.log)
chosen_cases {vs} {h} c b n x ok settled a =
    let k = max x.applied x.snapshot.index in
    let both : Committed vs h x.log x.term k = committed_max x.applied x.snapshot.index a.base.settled a.settled in
    ⊎_elim
    (λ (l : length c < k).
    let within = committed_within both in
    let agree = committed_agree ok settled (committed_down (length c) (omega arith) both) in
    let front : c ≡ take (length c) (take k x.log) = sym (take_all (length c) c (omega arith)) ∙ agree.same ∙ sym (take-take (length c) k x.log (omega arith)) in
    inr (ap (λ y. y ++ drop (length c) (take k x.log)) front ∙ take-append-drop (length c) (take k x.log)))
    (λ (l : k ≤ length c).
    let nil : drop (length c) (take k x.log) ≡ [] = drop_all (length c) (take k x.log) (omega (arith, length-take k x.log)) in
    inl (ap (λ y. c ++ y) nil ∙ append-nil c))
    (cases_lt (length c) k)

grown : {vs : Setup} {h : Hist} (c : List Entry) (b : ℕ) (n : ℕ) (x : Stored) → HistOk vs h → Committed vs h c b (length c) → StoredOk vs h n x → Grown vs h (chosen_more c x) (max x.applied x.snapshot.index)
grown {vs} {h} c b n x ok settled a =
    let k = max x.applied x.snapshot.index in
    let both : Committed vs h x.log x.term k = committed_max x.applied x.snapshot.index a.base.settled a.settled in
    ⊎_elim
    (λ (l : length c < k).
    let within = committed_within both in
    let agree = committed_agree ok settled (committed_down (length c) (omega arith) both) in
    let whole = length-take-le k x.log within in
    let front : c ≡ take (length c) (take k x.log) = sym (take_all (length c) c (omega arith)) ∙ agree.same ∙ sym (take-take (length c) k x.log (omega arith)) in
    let is : chosen_more c x ≡ take k x.log = ap (λ y. y ++ drop (length c) (take k x.log)) front ∙ take-append-drop (length c) (take k x.log) in
    subst (λ y. Grown vs h y k) (sym is) (record {
      bound = x.term;
      settled = committed_along vs x.term (length (take k x.log)) (omega arith) (omega arith) (agree_sym (agree_take (length (take k x.log)) k x.log (omega arith) within)) both;
      covers = omega arith;
    }))
    (λ (l : k ≤ length c).
    let nil : drop (length c) (take k x.log) ≡ [] = drop_all (length c) (take k x.log) (omega (arith, length-take k x.log)) in
    let is : chosen_more c x ≡ c = ap (λ y. c ++ y) nil ∙ append-nil c in
    subst (λ y. Grown vs h y k) (sym is) (record { bound = b; settled = settled; covers = l }))
    (cases_lt (length c) k)

pub record Applied (vs : Setup) (h : Hist) (w : World) (c : List Entry) : Type 0 where
  pub to : Hist
  pub later : Later h to
  pub world : WorldOk vs to w
  pub list : ChosenOk vs to w c

-- one event, and what its node has stored and applied by it
pub record AppliedBy (vs : Setup) (h : Hist) (w : World) (c : List Entry) (n : ℕ) (x : Stored) : Type 0 where
  pub to : Hist
  pub later : Later h to
  pub world : WorldOk vs to w
  pub list : ChosenOk vs to w c
  pub done : StoredOk vs to n x
  pub reaches : max x.applied x.snapshot.index ≤ length c

pub one : (vs : Setup) (h : Hist) (w : World) (c : List Entry) (e : Event) → WorldOk vs h w → ChosenOk vs h w c → AppliedBy vs h (happens vs w e) (chosen_more c (reached vs w e)) (actor e) (reached vs w e)
one vs h w c e a y =
    let next = happens_fine w e a in
    let v = happens vs w e in
    let x = reached vs w e in
    let g = grown c y.bound (actor e) x next.world.hist (committed_later vs next.later y.settled) next.done in
    let long = length-append c (drop (length c) (take (max x.applied x.snapshot.index) x.log)) in
    let mine = its_commit vs w e in
    let cov = g.covers in
    record {
      to = next.to;
      later = next.later;
      world = next.world;
      list = record {
        bound = g.bound;
        settled = g.settled;
        covers = λ n. ⊎_elim (λ (q : n ≡ actor e). subst (λ k. (v.nodes k).commit ≤ length (chosen_more c x)) (sym q) (omega arith))
            (λ (q : n ≢ actor e).
            let same = ap (λ z. z.commit) (happens_other vs w e n q) in
            let low = y.covers n in
            omega arith)
            (cases_eq n (actor e));
      };
      done = next.done;
      reaches = cov;
    }

pub all : (vs : Setup) (es : List Event) (h : Hist) (w : World) (c : List Entry) → WorldOk vs h w → ChosenOk vs h w c → Applied vs h (run_from vs w es) (chosen_from vs w c es)
all vs [] h w c a x = record { to = h; later = later_refl h; world = a; list = x }
all vs (e ∷ es) h w c a x =
    let first = one vs h w c e a x in
    let rest = all vs es first.to (happens vs w e) (chosen_more c (reached vs w e)) first.world first.list in
    record { to = rest.to; later = later_trans h first.to rest.to first.later rest.later; world = rest.world; list = rest.list }

pub begin : (vs : Setup) → ChosenOk vs blank (start vs) []
begin vs = record { bound = 0; settled = nothing refl; covers = λ n. omega arith }

pub applied : (vs : Setup) (es : List Event) → Applied vs blank (run vs es) (chosen vs es)
unfolding run chosen
applied vs es = all vs es blank (start vs) [] (start_fine vs) (begin vs)

agrees : (vs : Setup) (es : List Event) (n : ℕ) → Agree ((run vs es).nodes n).commit (log_at vs es n) (chosen vs es)
agrees vs es n =
    let x = applied vs es in
    committed_agree x.world.hist (x.world.nodes n).commit (committed_down ((run vs es).nodes n).commit (x.list.covers n) x.list.settled)

pub whole_logs_hold : WholeLogs
whole_logs_hold vs es n i le =
    let s = (run vs es).nodes n in
    let a = agree_down i le (agrees vs es n) in
    ap (λ x. x ++ drop i s.log) (sym a.same) ∙ take-append-drop i s.log

pub cuts_applied_hold : CutsApplied
cuts_applied_hold vs es n = let sn = ((applied vs es).world.nodes n).snaps in (sn.base, sn.applied)

pub applied_chosen_holds : AppliedChosen
applied_chosen_holds vs es n = let a = agrees vs es n in (a.in_left, a.in_right, a.same)

grows_from : (vs : Setup) (es : List Event) (w : World) (c : List Entry) → (rest : List Entry) × (chosen_from vs w c es ≡ c ++ rest)
grows_from vs [] w c = ([], sym (append-nil c))
grows_from vs (e ∷ es) w c =
    let x = reached vs w e in
    let more = drop (length c) (take (max x.applied x.snapshot.index) x.log) in
    let r = grows_from vs es (happens vs w e) (c ++ more) in
    (more ++ r.0, r.1 ∙ append_assoc c more r.0)

pub from_append : (vs : Setup) (es fs : List Event) (w : World) (c : List Entry) → chosen_from vs w c (es ++ fs) ≡ chosen_from vs (run_from vs w es) (chosen_from vs w c es) fs
from_append vs [] fs w c = refl
from_append vs (e ∷ es) fs w c = from_append vs es fs (happens vs w e) (chosen_more c (reached vs w e))

pub chosen_grows_holds : ChosenGrows
unfolding chosen
chosen_grows_holds vs es fs =
    let c = chosen_from vs (start vs) [] es in
    let r = grows_from vs fs (run_from vs (start vs) es) c in
    ap (take (length c)) (from_append vs es fs (start vs) [] ∙ r.1) ∙ take_at c r.0 (length c) refl
