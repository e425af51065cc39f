-- Where each entry was appended.
use Rattle.std.proofs.Common.{◌≡◌, ◌⊎◌, inl, inr, ℕ, zero, suc, ◌+◌, ◌<◌, ◌≤◌, true, Option, Some, None, List, [], ◌∷◌, ◌++◌, length, take, drop, refl, sym, ap, ◌∙◌, subst, ⊎_elim, arith, length-append, append_assoc}
use Rattle.std.specs.Prelude.{◌==◌, slice_get}
use Rattle.std.proofs.lemmas.Bool.{cond_both}
use Rattle.std.proofs.lemmas.List.{append-nil, take-append-le, take-append-drop, take_all, length-take-le, length-take, take-take, take_at}
use Rattle.raft_spec.specs.Log.{Barrier, Entry, term_at}
use Rattle.raft_spec.specs.Node.{Outcome, Role, Leader, Candidate, Follower, Message, Node, is_leader, Input, Local, Receive}
use Rattle.raft_spec.specs.Account.{steps}
use Rattle.raft_safety.specs.Members.{Setup, member_step}
use Rattle.raft_safety.specs.World.{Cause, Does, Takes, Event, Acts, taken, inputs, start, run}
use Rattle.raft_safety.specs.Laws.{log_at}
use Rattle.raft_safety.specs.Chosen.{actor, chosen}
use Rattle.raft_safety.specs.Sources.{causes_of, intake, midway, Adds, nothing_new, a_barrier, proposed}
use Rattle.raft_safety.proofs.Logs.{term_at-take, term_at-new}
use Rattle.raft_safety.proofs.Worlds.{blank}
use Rattle.raft_safety.proofs.Leds.{steps_snoc, run_snoc}
use Rattle.raft_safety.proofs.Properties.{chosen_step}
use Rattle.raft_safety.proofs.Sources.{Fronts, AllOwnFit, EventFit, RunFit, NextFit, run_fit, start_fit, midway_fit}
use Rattle.append_safety.specs.Appending.{WasAppended, IsNotLater, ChosenAppended, AppendedInOrder}

leads_so : (r : Role) → is_leader r ≡ true → r ≡ Leader
leads_so Leader e = refl
leads_so Candidate e = absurd cc
leads_so Follower e = absurd cc

-- what a leader's step adds has its term
new_term : (s : Node) (i : Input) (d : Node) (j : ℕ) → Adds s i d → length s.log < j → j ≤ length d.log → term_at d.log j ≡ d.term
new_term s i d j (nothing_new e) lt le = let z = ap length e in absurd (omega arith)
new_term s i d j (a_barrier e) lt le =
    let z = ap length e in
    ap (λ l. term_at l j) e ∙ term_at-new d.term s.log (record { term = 0; kind = Barrier; bytes = [] } ∷ []) j lt (omega arith)
new_term s i d j (proposed new p r t e) lt le = let z = ap length e in ap (λ l. term_at l j) e ∙ term_at-new d.term s.log new j lt (omega arith)

-- ---- the steps of one event

-- an entry that was appended in this step of this event
record Here (vs : Setup) (es qs : List Event) (k : ℕ) (x : List Entry) : Type 0 where
  is : WasAppended vs es x
  first : is.first ≡ qs
  step : is.step ≡ k

module _ (vs : Setup) (es qs : List Event) (e : Event) (rest : List Event) (split : es ≡ qs ++ e ∷ rest) (up : ((run vs qs).nodes (actor e)).up ≡ true) where
  f : Node → Input → Outcome
  f = member_step vs (actor e)

  s0 : Node
  s0 = (run vs qs).nodes (actor e)

  appended_now : (done more : List Input) (i : Input) → intake (run vs qs) e ≡ done ++ i ∷ more → (d : Node) → (f (steps f s0 done) i).node ≡ d →
      is_leader d.role ≡ true → Adds (steps f s0 done) i d → (j : ℕ) → length (steps f s0 done).log < j → j ≤ length d.log → Here vs es qs (length done)
      (take j d.log)
  unfolding f s0
  appended_now done more i all d is l a j lt le =
      let front : take (suc (length done)) (intake (run vs qs) e) ≡ done ++ i ∷ [] =
      ap (take (suc (length done))) (all ∙ sym (append_assoc done (i ∷ []) more)) ∙ take-append-le (suc (length done)) (done ++ i ∷ []) more
      (omega (arith, length-append done (i ∷ []))) ∙ take_all (suc (length done)) (done ++ i ∷ []) (omega (arith, length-append done (i ∷ []))) in
      let before : take (length done) (intake (run vs qs) e) ≡ done = ap (take (length done)) all ∙ take_at done (i ∷ more) (length done) refl in
      let node : midway vs (run vs qs) e (suc (length done)) ≡ d = ap (steps f s0) front ∙ steps_snoc f s0 done i ∙ is in
      let old : midway vs (run vs qs) e (length done) ≡ steps f s0 done = ap (steps f s0) before in
      let size = length-take-le j d.log le in
      let term : term_at (take j d.log) (length (take j d.log)) ≡ d.term = ap (term_at (take j d.log)) size ∙ term_at-take j d.log j (omega arith)
      ∙ new_term (steps f s0 done) i d j a lt le in
      record {
        is = record {
          first = qs;
          event = e;
          rest = rest;
          split = split;
          runs = up;
          step = length done;
          leads = ap (λ (z : Node). z.role) node ∙ leads_so d.role l;
          term = ap (λ (z : Node). z.term) node ∙ sym term;
          new = subst (λ (z : Node). length z.log < length (take j d.log)) (sym old) (omega arith);
          within = subst (λ (z : Node). length (take j d.log) ≤ length z.log) (sym node) (omega arith);
          has = ap (λ (z : Node). take (length (take j d.log)) z.log) node ∙ ap (λ k. take k d.log) size;
        };
        first = refl;
        step = refl;
      }

  -- so of these steps
  own_appended : (Q : List Entry → Type 0) (k : ℕ) → ((x : List Entry) (n : ℕ) → n < k → Here vs es qs n x → Q x) → (more done after : List Input)
      (s : Node) → steps f s0 done ≡ s → intake (run vs qs) e ≡ done ++ (more ++ after) → length done + length more ≤ k → AllOwnFit Q vs (actor e) s more
  unfolding f s0
  own_appended Q k by [] done after s is all le = tt
  own_appended Q k by (i ∷ more) done after s is all le = (
    (λ l a q j lt low. by (take j (f s i).node.log) (length done) (omega (arith, le)) (appended_now done (more ++ after) i all (f s i).node
        (ap (λ z. (f z i).node) is) l (subst (λ z. Adds z i (f s i).node) (sym is) a) j (subst (λ (z : Node). length z.log < j) (sym is) lt) low)),
    own_appended Q k by more (done ++ i ∷ []) after (f s i).node (steps_snoc f s0 done i ∙ ap (λ z. (f z i).node) is)
        (all ∙ sym (append_assoc done (i ∷ []) (more ++ after))) (omega (arith, le, length-append done (i ∷ []))),
  )

-- ---- the events of a run

-- any entry that was appended in an event after fewer than k events
run_appended : (vs : Setup) (es : List Event) (Q : List Entry → Type 0) (k : ℕ) → ((x : List Entry) (a : WasAppended vs es x) → length a.first < k → Q x) →
    (rest qs more : List Event) → es ≡ qs ++ (rest ++ more) → length qs + length rest ≤ k → RunFit Q vs (run vs qs) rest
unfolding s0
run_appended vs es Q k by [] qs more split le = tt
run_appended vs es Q k by (e ∷ rest) qs more split le = (
  (λ up. let w = run vs qs in
      own_appended vs es qs e (rest ++ more) split up Q (length (intake w e))
      (λ x n lt here. by x here.is (subst (λ (l : List Event). length l < k) (sym here.first) (omega (arith, le)))) (intake w e) [] []
      (w.nodes (actor e)) refl (sym (append-nil (intake w e))) (omega arith)),
  subst (λ w. RunFit Q vs w rest) (run_snoc vs qs e) (run_appended vs es Q k by rest (qs ++ e ∷ []) more
      (split ∙ sym (append_assoc qs (e ∷ []) (rest ++ more))) (omega (arith, le, length-append qs (e ∷ [])))),
)

all_appended : (vs : Setup) (ps : List Event) (es more : List Event) (Q : List Entry → Type 0) → es ≡ ps ++ more → ((x : List Entry) (a : WasAppended vs es x) →
    length a.first < length ps → Q x) → NextFit Q vs blank (run vs ps)
unfolding run
all_appended vs ps es more Q split by = run_fit Q ps blank (start vs) (start_fit Q vs) (run_appended vs es Q (length ps) by ps [] more split (omega arith))

-- ---- the first steps of an event, as an event

one_or_none : (n : ℕ) (o : Option Message) → (taken n o ≡ []) ⊎ ((i : Input) × (taken n o ≡ i ∷ []))
one_or_none n None = inl refl
one_or_none n (Some m) = cond_both (m.to == n) (Receive m ∷ []) [] (λ (l : List Input). (l ≡ []) ⊎ ((i : Input) × (l ≡ i ∷ [])))
    (λ e. inr (Receive m, refl)) (λ e. inl refl)

cut_causes : (n : ℕ) (ms : List Message) (cs : List Cause) (k : ℕ) → (ds : List Cause) × (inputs n ms ds ≡ take k (inputs n ms cs))
cut_causes n ms cs zero = ([], refl)
cut_causes n ms [] (suc k) = ([], refl)
cut_causes n ms (Does l ∷ cs) (suc k) = let r = cut_causes n ms cs k in (Does l ∷ r.0, ap (λ xs. Local l ∷ xs) r.1)
cut_causes n ms (Takes m ∷ cs) (suc k) =
    let o = slice_get ms m in
    ⊎_elim
    (λ (e : taken n o ≡ []). let r = cut_causes n ms cs (suc k) in (r.0, r.1 ∙ ap (λ xs. take (suc k) (xs ++ inputs n ms cs)) (sym e)))
    (λ (e : (i : Input) × (taken n o ≡ i ∷ [])).
    let r = cut_causes n ms cs k in
    (Takes m ∷ r.0, ap (λ xs. xs ++ inputs n ms r.0) e.1 ∙ ap (λ xs. e.0 ∷ xs) r.1 ∙ ap (λ xs. take (suc k) (xs ++ inputs n ms cs)) (sym e.1)))
    (one_or_none n o)

-- appended in an event before the last of these, or in one of its first steps
record AppendedBy (vs : Setup) (ps : List Event) (e : Event) (k : ℕ) (x : List Entry) : Type 0 where
  is : WasAppended vs (ps ++ e ∷ []) x
  by : (length is.first < length ps) ⊎ ((length is.first ≡ length ps) × (is.step < k))

midway_appended : (vs : Setup) (ps : List Event) (e : Event) (k : ℕ) → ((run vs ps).nodes (actor e)).up ≡ true → Fronts (AppendedBy vs ps e k)
    (midway vs (run vs ps) e k).log
unfolding s0
midway_appended vs ps e k up =
    let w = run vs ps in
    let Q = AppendedBy vs ps e k in
    let n = actor e in
    let cut = cut_causes n w.messages (causes_of e) k in
    let g = Acts n cut.0 [] in
    let own : AllOwnFit Q vs n (w.nodes n) (take k (intake w e)) =
    own_appended vs (ps ++ e ∷ []) ps e [] refl up Q k
    (λ x m lt here. record { is = here.is; by = inr (ap length here.first, subst (λ z. z < k) (sym here.step) lt) })
    (take k (intake w e)) [] (drop k (intake w e)) (w.nodes n) refl (sym (take-append-drop k (intake w e))) (omega (arith, length-take k (intake w e))) in
    let fits : EventFit Q vs w g = λ u. subst (AllOwnFit Q vs n (w.nodes n)) (sym cut.1) own in
    let so = (all_appended vs ps (ps ++ e ∷ []) (e ∷ []) Q refl (λ x a lt. record { is = a; by = inl lt })).so in
    let same : take k (intake w g) ≡ take k (intake w e) = ap (take k) cut.1 ∙ take-take k k (intake w e) (omega arith) in
    subst (λ (l : List Input). Fronts Q (steps (member_step vs n) (w.nodes n) l).log) same (midway_fit Q w g k so up fits)

-- ---- the chosen entries

later_run : (vs : Setup) (ps more es : List Event) (x : List Entry) → es ≡ ps ++ more → (a : WasAppended vs ps x) → WasAppended vs es x
later_run vs ps more es x split a = record {
  first = a.first;
  event = a.event;
  rest = a.rest ++ more;
  split = split ∙ ap (λ l. l ++ more) a.split ∙ append_assoc a.first (a.event ∷ a.rest) more;
  runs = a.runs;
  step = a.step;
  leads = a.leads;
  term = a.term;
  new = a.new;
  within = a.within;
  has = a.has;
}

logs_appended : (vs : Setup) (es : List Event) (n : ℕ) → Fronts (WasAppended vs es) (log_at vs es n)
logs_appended vs es n = (all_appended vs es es [] (WasAppended vs es) (sym (append-nil es)) (λ x a lt. a)).so.nodes n

chosen_fronts : (vs : Setup) (rest ps : List Event) → Fronts (WasAppended vs ps) (chosen vs ps) → Fronts (WasAppended vs (ps ++ rest)) (chosen vs (ps ++ rest))
chosen_fronts vs [] ps q = subst (λ l. Fronts (WasAppended vs l) (chosen vs l)) (sym (append-nil ps)) q
chosen_fronts vs (e ∷ rest) ps q =
    let es = ps ++ e ∷ [] in
    let n = actor e in
    let log = log_at vs es n in
    let more : Fronts (WasAppended vs es) (chosen vs es) = ⊎_elim
    (λ (x : chosen vs es ≡ chosen vs ps). subst (Fronts (WasAppended vs es)) (sym x) (λ i pos le. later_run vs ps (e ∷ []) es (take i (chosen vs ps)) refl
    (q i pos le)))
    (λ (x : (k : ℕ) × (chosen vs es ≡ take k log)). subst (Fronts (WasAppended vs es)) (sym x.1) (λ i pos le.
    let size = length-take x.0 log in
    subst (WasAppended vs es) (sym (take-take i x.0 log (omega arith))) (logs_appended vs es n i pos (omega arith))))
    (chosen_step vs ps e) in
    subst (λ l. Fronts (WasAppended vs l) (chosen vs l)) (append_assoc ps (e ∷ []) rest) (chosen_fronts vs rest es more)

none_chosen : (vs : Setup) → Fronts (WasAppended vs []) (chosen vs [])
unfolding chosen
none_chosen vs = λ i pos le. absurd (omega (arith, pos, le))

pub chosen_appended_holds : ChosenAppended
chosen_appended_holds vs es = chosen_fronts vs es [] (none_chosen vs)

not_later : (first late : List Event) (k m : ℕ) → (length first < length late) ⊎ ((length first ≡ length late) × (k < suc m)) → IsNotLater first k late m
not_later first late k m (inl l) = inl l
not_later first late k m (inr l) = inr (l.0, let z = l.1 in omega (arith, z))

pub appended_in_order_holds : AppendedInOrder
unfolding later_run
appended_in_order_holds vs es entries i pos low late =
    let m = (midway vs (run vs late.first) late.event (suc late.step)).log in
    let within = late.within in
    let inside : i ≤ length m = omega arith in
    let x = midway_appended vs late.first late.event (suc late.step) late.runs i pos inside in
    let same : take i m ≡ take i entries = sym (take-take i (length entries) m low) ∙ ap (take i) late.has in
    let y : AppendedBy vs late.first late.event (suc late.step) (take i entries) = subst (AppendedBy vs late.first late.event (suc late.step)) same x in (
      later_run vs (late.first ++ late.event ∷ []) late.rest es (take i entries)
          (late.split ∙ sym (append_assoc late.first (late.event ∷ []) late.rest)) y.is,
      not_later y.is.first late.first y.is.step late.step y.by,
    )
