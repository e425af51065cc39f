-- A property of logs that fronts keep and proposals keep is had by all logs, and by what was applied.
use Rattle.std.proofs.Common.{◌≡◌, ◌⊎◌, inl, inr, ℕ, suc, Bool, true, false, max, List, [], ◌∷◌, ◌++◌, length, take, refl, sym, ap, ◌∙◌, subst, ⊎_elim, arith, append_assoc}
use Rattle.std.proofs.lemmas.List.{append-nil, take_all}
use Rattle.std.proofs.lemmas.Bool.{cond_both}
use Rattle.raft_spec.specs.Log.{Entry}
use Rattle.raft_spec.specs.Node.{Node, Server, Input, Local, Propose}
use Rattle.raft_spec.specs.Outcomes.{with_term}
use Rattle.raft_spec.specs.Account.{Stored, stored_of, loaded, older}
use Rattle.raft_safety.specs.Members.{Setup, member_step}
use Rattle.raft_safety.specs.World.{World, Event, Acts, Stops, Crash, Start, put, stopped, happens, start, run}
use Rattle.raft_safety.specs.Laws.{node_at, log_at}
use Rattle.raft_safety.specs.Chosen.{actor, reached, chosen, chosen_more}
use Rattle.raft_safety.specs.Sources.{intake, midway, Adds, nothing_new, a_barrier, proposed}
use Rattle.raft_safety.specs.Properties.{IsFrontClosed, ProposalKeeps, ProposalsKeep, EventKeeps, EventsKeep, LogsHave, LogsMidwayHave, AppliedHas}
use Rattle.raft_safety.proofs.Worlds.{blank, happens_fine}
use Rattle.raft_safety.proofs.Growth.{committed_later}
use Rattle.raft_safety.proofs.Chosens.{applied, from_append, put_here, chosen_cases}
use Rattle.raft_safety.proofs.Leds.{run_snoc}
use Rattle.raft_safety.proofs.Sources.{Fronts, AllOwnFit, RunFit, NextFit, run_fit, start_fit, midway_fit}

-- the log of the node of an event is the one that it has stored by the event
put_log : (w : World) (n : ℕ) (x : Stored) (up : Bool) (servers : List Server) → ((put w n (loaded up servers x) []).nodes n).log ≡ x.log
put_log w n x up servers = ap (λ (s : Node). s.log) (put_here w n (loaded up servers x) [])

reached_log : (vs : Setup) (w : World) (e : Event) → (reached vs w e).log ≡ ((happens vs w e).nodes (actor e)).log
reached_log vs w (Acts n cs places) = refl
reached_log vs w (Stops n cs acts upto base) = sym (put_log w n (older base (stopped vs w n cs acts)) false [])
reached_log vs w (Crash n) = sym (put_log w n (stored_of (w.nodes n)) false [])
reached_log vs w (Start n servers) = cond_both (w.nodes n).up w (put w n (loaded true servers (stored_of (w.nodes n))) []) (λ (x : World). (w.nodes n).log ≡ (x.nodes n).log) (λ u. refl) (λ u. sym (put_log w n (stored_of (w.nodes n)) true servers))

-- an event leaves the chosen entries, or they are the front of a log then
pub chosen_step : (vs : Setup) (ps : List Event) (e : Event) → (chosen vs (ps ++ e ∷ []) ≡ chosen vs ps) ⊎ ((k : ℕ) × (chosen vs (ps ++ e ∷ []) ≡ take k (log_at vs (ps ++ e ∷ []) (actor e))))
unfolding chosen run
chosen_step vs ps e =
    let a = applied vs ps in
    let next = happens_fine (run vs ps) e a.world in
    let x = reached vs (run vs ps) e in
    let c = chosen vs ps in
    let is : chosen vs (ps ++ e ∷ []) ≡ chosen_more c x = from_append vs ps (e ∷ []) (start vs) [] in
    let log : x.log ≡ log_at vs (ps ++ e ∷ []) (actor e) = reached_log vs (run vs ps) e ∙ ap (λ (v : World). (v.nodes (actor e)).log) (sym (run_snoc vs ps e)) in
    ⊎_elim
    (λ (q : chosen_more c x ≡ c). inl (is ∙ q))
    (λ (q : chosen_more c x ≡ take (max x.applied x.snapshot.index) x.log). inr (max x.applied x.snapshot.index, is ∙ q ∙ ap (take (max x.applied x.snapshot.index)) log))
    (chosen_cases c a.list.bound (actor e) x next.world.hist (committed_later vs next.later a.list.settled) next.done)

pub keep_front : (Q : List Entry → Type 0) (vs : Setup) (xs ys : List Event) (w : World) → EventsKeep Q vs w (xs ++ ys) → EventsKeep Q vs w xs
keep_front Q vs [] ys w h = tt
keep_front Q vs (e ∷ xs) ys w h = (h.0, keep_front Q vs xs ys (happens vs w e) h.1)

module _ (Q : List Entry → Type 0) (closed : IsFrontClosed Q) where
  of_fronts : (log : List Entry) → Fronts Q log → Q log
  of_fronts [] q = closed.empty
  of_fronts (x ∷ log) q = subst Q (take_all (suc (length log)) (x ∷ log) (omega arith)) (q (suc (length log)) (omega arith) (omega arith))

  adds_keep : (s : Node) (i : Input) (d : Node) → ProposalKeeps Q s i → Adds s i d → Q s.log → Q d.log
  adds_keep s i d h (nothing_new e) w = subst Q (sym e) w
  adds_keep s i d h (a_barrier e) w = subst Q (sym e) (closed.barriers s.log d.term w)
  adds_keep s i d h (proposed new is r t e) w =
      let keeps : ProposalKeeps Q s (Local (Propose new)) = subst (ProposalKeeps Q s) is h in
      subst Q (sym e) (subst (λ u. Q (s.log ++ with_term u new)) (sym t) (keeps r w))

  inputs_own : (vs : Setup) (n : ℕ) (s : Node) (is : List Input) → ProposalsKeep Q vs n s is → AllOwnFit Q vs n s is
  inputs_own vs n s [] h = tt
  inputs_own vs n s (i ∷ is) h = (
    (λ l a q j lt le. closed.fronts (member_step vs n s i).node.log j (adds_keep s i (member_step vs n s i).node h.0 a (of_fronts s.log q))),
    inputs_own vs n (member_step vs n s i).node is h.1,
  )

  run_own : (vs : Setup) (es : List Event) (w : World) → EventsKeep Q vs w es → RunFit Q vs w es
  run_own vs [] w h = tt
  run_own vs (e ∷ es) w h = ((λ up. inputs_own vs (actor e) (w.nodes (actor e)) (intake w e) (h.0 up)), run_own vs es (happens vs w e) h.1)

  fit_so : (vs : Setup) (es : List Event) → EventsKeep Q vs (start vs) es → NextFit Q vs blank (run vs es)
  unfolding run
  fit_so vs es h = run_fit Q es blank (start vs) (start_fit Q vs) (run_own vs es (start vs) h)

  logs_have : (vs : Setup) (es : List Event) → EventsKeep Q vs (start vs) es → (n : ℕ) → Q (log_at vs es n)
  logs_have vs es h n = of_fronts (log_at vs es n) ((fit_so vs es h).so.nodes n)

  midway_has : (vs : Setup) (es : List Event) (e : Event) → EventsKeep Q vs (start vs) es → EventKeeps Q vs (run vs es) e → ((run vs es).nodes (actor e)).up ≡ true → (k : ℕ) → Q (midway vs (run vs es) e k).log
  midway_has vs es e h here up k =
      of_fronts (midway vs (run vs es) e k).log
      (midway_fit Q (run vs es) e k (fit_so vs es h).so up (λ u. inputs_own vs (actor e) ((run vs es).nodes (actor e)) (intake (run vs es) e) (here u)))

  chosen_has : (vs : Setup) (rest ps : List Event) → Q (chosen vs ps) → EventsKeep Q vs (start vs) (ps ++ rest) → Q (chosen vs (ps ++ rest))
  chosen_has vs [] ps q h = subst (λ l. Q (chosen vs l)) (sym (append-nil ps)) q
  chosen_has vs (e ∷ rest) ps q h =
      let split : ps ++ e ∷ rest ≡ (ps ++ e ∷ []) ++ rest = sym (append_assoc ps (e ∷ []) rest) in
      let all : EventsKeep Q vs (start vs) ((ps ++ e ∷ []) ++ rest) = subst (EventsKeep Q vs (start vs)) split h in
      let log : Q (log_at vs (ps ++ e ∷ []) (actor e)) = logs_have vs (ps ++ e ∷ []) (keep_front Q vs (ps ++ e ∷ []) rest (start vs) all) (actor e) in
      let more : Q (chosen vs (ps ++ e ∷ [])) = ⊎_elim
      (λ (x : chosen vs (ps ++ e ∷ []) ≡ chosen vs ps). subst Q (sym x) q)
      (λ (x : (k : ℕ) × (chosen vs (ps ++ e ∷ []) ≡ take k (log_at vs (ps ++ e ∷ []) (actor e)))). subst Q (sym x.1) (closed.fronts (log_at vs (ps ++ e ∷ []) (actor e)) x.0 log))
      (chosen_step vs ps e) in
      subst (λ l. Q (chosen vs l)) (sym split) (chosen_has vs rest (ps ++ e ∷ []) more all)

  none_chosen : (vs : Setup) → Q (chosen vs [])
  unfolding chosen
  none_chosen vs = closed.empty

pub logs_have_holds : (Q : List Entry → Type 0) → LogsHave Q
logs_have_holds Q closed vs es h n = logs_have Q closed vs es h n

pub logs_midway_have_holds : (Q : List Entry → Type 0) → LogsMidwayHave Q
logs_midway_have_holds Q closed vs es e h here up k = midway_has Q closed vs es e h here up k

pub applied_has_holds : (Q : List Entry → Type 0) → AppliedHas Q
applied_has_holds Q closed vs es h = (
  chosen_has Q closed vs es [] (none_chosen Q closed vs) h,
  (λ n. closed.fronts (log_at vs es n) (node_at vs es n).commit (logs_have Q closed vs es h n)),
)
