-- Every request is answered.
use Rattle.std.proofs.Common.{◌≡◌, inl, inr, ℕ, ◌+◌, ◌<◌, Bool, true, false, true≢false, cond, List, [], ◌∷◌, ◌++◌, length, map, drop, refl, sym, ap, ◌∙◌, subst, arith, length-append}
use Rattle.std.specs.Prelude.{◌==◌, Option, Some, None}
use Rattle.std.proofs.Math.Seq.{drop-append_seam}
use Rattle.std.proofs.lemmas.List.{length-map}
use Rattle.std.proofs.lemmas.Bool.{cond-true, eq-eqb}
use Rattle.wire_msgs.specs.declared.request.Request.TheVariants as requests
use Rattle.sql_engine.specs.Replies.{Statement}
use Rattle.sql_engine.specs.declared.kind.EngineKind.{EngineKind}
use Rattle.sql_engine.specs.Meanings.{Meaning}
use Rattle.session_spec.specs.Sessions.{Flight, Later, Due, Lent, later_query, is_due, Session, Gateway, is_busy}
use Rattle.session_safety.specs.Nodes.{Said, Trail, Node as Life}
use Rattle.session_safety.specs.Life.{Event as Doing, AllFit, run_from as lives_on}
use Rattle.session_safety.specs.Lending.{handed_on}
use Rattle.session_safety.specs.Laws.{NoneComes}
use Rattle.session_safety.specs.Answering.{Handled, handled_in, said_to, IsOpen}
use Rattle.session_safety.proofs.Invariant.{NodeOk as LifeOk, FlightIs, FlightOk, IsFree, free_flies}
use Rattle.session_safety.proofs.Lives.{run_ok}
use Rattle.session_safety.proofs.Plains.{not_busy}
use Rattle.session_safety.proofs.Replying.{Pending, any_lands, owed_by, owes_by, pairs_count, open_back, fit_ok, long}
use Rattle.raft_spec.specs.Node as raft
use Rattle.raft_safety.specs.Laws.{node_at}
use Rattle.raft_safety.specs.Members.{Setup}
use Rattle.cluster_model.specs.Clusters.{Moves, said_in, cluster}
use Rattle.cluster_model.proofs.Clusters.{cluster_ok, move_fit}
use Rattle.cluster_model.proofs.Fronts.{leader_is}
use Rattle.cluster_model.proofs.Seeing.{life_later}
use Rattle.node_spec.specs.Nodes.{Node, Stands}
use Rattle.node_spec.specs.Steps.{Taken, AllTaken, calls, told}
use Rattle.cluster_safety.specs.Runs.{Up, Goes, taken, spoken, with_place, first_run, run_from, run}
use Rattle.cluster_safety.specs.Laws.{owed, told_to, WaitsForEntry, Waits, RunsComplete}
use Rattle.cluster_safety.proofs.Lasts.{hold_parts}
use Rattle.cluster_safety.proofs.Letters.{causes}
use Rattle.cluster_safety.proofs.Runs.{goes, runs_make_acts_hold}
use Rattle.cluster_safety.proofs.Safes.{up_at, applied_is}
use Rattle.cluster_safety.proofs.Speaks.{last_fits, mine}

-- a request that waits for its answer at the beginning, of which nothing is asked but that it waits
some_request : Handled
some_request = record { request = requests.Leader; before = []; own = [] }

unknown : (c : ℕ) (s : Session) (t : Trail) → IsFree t.seen t.at s.later s.flight → s.hung ≡ false → (p : Option Handled) × Pending false c s t p
unknown c s t free here = by s.flight s.later refl refl
  where
    deferred : (statement : Statement) → s.flight ≡ None → later_query s.later ≡ Some statement → (p : Option Handled) × Pending false c s t p
    deferred statement e d = (Some some_request, inr (record { statement = statement; is = d; free = e; here = here; asks = λ z. absurd (true≢false (sym z)) }))

    by : (o : Option Flight) (d : Option Later) → s.flight ≡ o → s.later ≡ d → (p : Option Handled) × Pending false c s t p
    by (Some f) d e q = (Some some_request, inl (record { flight = f; is = e; here = here; later = free_flies t.seen t.at s.later f (subst (IsFree t.seen t.at s.later) e free); reply = any_lands c s.tx t some_request f f.kind }))
    by None None e q = (None, (e, q))
    by None (Some (Due statement)) e q = deferred statement e (ap later_query q)
    by None (Some (Lent statement)) e q = deferred statement e (ap later_query q)

busy_by : (c : ℕ) (s : Session) (t : Trail) (p : Option Handled) → Pending false c s t p → length (owed_by p) ≡ cond (is_busy s) 1 0
busy_by c s t None a = ap (λ (b : Bool). cond b 1 0) (sym (owes_by false c s t None a))
busy_by c s t (Some h) a = ap (λ (b : Bool). cond b 1 0) (sym (owes_by false c s t (Some h) a))

told_count : (conn : ℕ) (xs : List Said) → told_to conn (map told xs) ≡ length (said_to conn xs)
told_count conn [] = refl
told_count conn (x ∷ xs) = ap (λ n. cond (x.conn == conn) 1 0 + n) (told_count conn xs) ∙ by (x.conn == conn)
  where
    by : (b : Bool) → cond b 1 0 + length (said_to conn xs) ≡ length (cond b (x ∷ said_to conn xs) (said_to conn xs))
    by true = omega arith
    by false = omega arith

sums : (told busy1 busy0 asks1 wait1 wait0 asks0 : ℕ) → told + busy1 ≡ busy0 + asks1 → asks1 + wait1 ≡ wait0 + asks0 → told + (wait1 + busy1) ≡ (wait0 + busy0) + asks0
sums told busy1 busy0 asks1 wait1 wait0 asks0 a b = omega (arith, a, b)

module _ (mean : Meaning) (kind : EngineKind) where
  flight_of : (w : Life) (conn : ℕ) (o : Option Flight) (f : Flight) → o ≡ Some f → FlightIs mean w.log w.applied w.term (w.trail conn) o → FlightOk mean w.log w.applied w.term (w.trail conn) f
  flight_of w conn o f e a = subst (FlightIs mean w.log w.applied w.term (w.trail conn)) e a

  -- a pending proposal waits for an entry that isn't applied, at a node that leads its term
  waits_so : (vs : Setup) (new : Node) (t : raft.Node) (v : Life) (conn : ℕ) (f : Flight) → Stands vs new t v → LifeOk mean v → (new.sessions.session conn).flight ≡ Some f → WaitsForEntry new conn
  waits_so vs new t v conn f st ok e =
      let in_life : (v.gate.session conn).flight ≡ Some f = ap (λ (g : Gateway). (g.session conn).flight) st.sessions ∙ e in
      let x = flight_of v conn (v.gate.session conn).flight f in_life (ok.sessions conn).flight in
      let leads : v.leads ≡ true = serves v.serving refl in_life in
      record {
        flight = f;
        is = e;
        ahead = subst (λ k. k < f.last) (st.coherent.applied ∙ applied_is mean kind vs new t v st) x.ahead;
        leads = ap (λ (z : raft.Node). z.role) st.twin.node ∙ leader_is t.role (sym st.coherent.leads ∙ leads);
        term = x.of_term ∙ st.coherent.term ∙ sym (ap (λ (z : raft.Node). z.term) st.twin.node);
      }
    where
      none_some : None ≡ Some f → ⊥
      none_some z = cc

      serves : (b : Bool) → v.serving ≡ b → (v.gate.session conn).flight ≡ Some f → v.leads ≡ true
      serves true q z = ok.leads q
      serves false q z = absurd (none_some (sym (ok.idle q conn).flight ∙ z))

  completed : (vs : Setup) (old new : Node) (s t : raft.Node) (w : Life) (life : List Doing) (x : Taken) (conn : ℕ) → Stands vs old s w → Stands vs new t (lives_on w life) → LifeOk mean w → AllFit mean kind w life → NoneComes conn life → IsOpen (new.sessions.session conn) → AllTaken old new x w life conn →
      (told_to conn (map told (said_in w life)) + owed new conn ≡ owed old conn + length (x.asks conn)) × (0 < owed new conn → Waits new conn)
  completed vs old new s t w life x conn st su ok fit none o all =
      let v = lives_on w life in
      let open_v : IsOpen (v.gate.session conn) = subst (λ (g : Gateway). IsOpen (g.session conn)) (sym su.sessions) (record { there = o.there; here = o.here }) in
      let open_w = open_back conn w life none open_v in
      let p = unknown conn (w.gate.session conn) (w.trail conn) (ok.sessions conn).free open_w.here in
      let l = long false mean conn w life p.0 (fit_ok mean kind w life fit ok) none open_v p.1 in
      let n = length (owed_by l.after) in
      let m = length (owed_by p.0) in
      let new_busy : n ≡ cond (is_busy (new.sessions.session conn)) 1 0 = busy_by conn (v.gate.session conn) (v.trail conn) l.after l.pending ∙ ap (λ (g : Gateway). cond (is_busy (g.session conn)) 1 0) su.sessions in
      let old_busy : m ≡ cond (is_busy (old.sessions.session conn)) 1 0 = busy_by conn (w.gate.session conn) (w.trail conn) p.0 p.1 ∙ ap (λ (g : Gateway). cond (is_busy (g.session conn)) 1 0) st.sessions in
      let told_now : told_to conn (map told (said_in w life)) ≡ length (said_to conn l.more) =
      ap (λ k. told_to conn (map told k)) (ap (drop (length w.said)) l.said ∙ drop-append_seam w.said l.more) ∙ told_count conn l.more in
      let counts : length (said_to conn l.more) + n ≡ m + length (handled_in conn w life) = pairs_count false (said_to conn l.more) (owed_by p.0 ++ handled_in conn w life) (owed_by l.after) l.paired ∙ length-append (owed_by p.0) (handled_in conn w life) in
      let same : length (handled_in conn w life) ≡ length (calls conn life) = sym (length-map (handled_in conn w life) (λ (h : Handled). h.request)) ∙ ap length all.handled in
      let asks : length (calls conn life) + length (new.waiting conn) ≡ length (old.waiting conn) + length (x.asks conn) = sym (length-append (calls conn life) (new.waiting conn)) ∙ ap length all.all ∙ length-append (old.waiting conn) (x.asks conn) in (
        ap (λ k. k + owed new conn) told_now
            ∙ ap (λ k. length (said_to conn l.more) + (length (new.waiting conn) + k)) (sym new_busy)
            ∙ sums (length (said_to conn l.more)) n m (length (calls conn life)) (length (new.waiting conn)) (length (old.waiting conn)) (length (x.asks conn)) (counts ∙ ap (λ k. m + k) same) asks
            ∙ ap (λ k. (length (old.waiting conn) + k) + length (x.asks conn)) old_busy,
        (λ pos. waiting (new.sessions.session conn).flight (new.sessions.session conn).later refl refl pos),
      )
    where
      waiting : (f : Option Flight) (d : Option Later) → (new.sessions.session conn).flight ≡ f → (new.sessions.session conn).later ≡ d → 0 < owed new conn → Waits new conn
      waiting None None e q pos =
          let idle = not_busy (new.sessions.session conn) e q in
          let nothing : length (new.waiting conn) ≡ 0 = ap length (all.waits idle) in
          let free : ◌≡◌ {A = ℕ} (cond (is_busy (new.sessions.session conn)) 1 0) 0 = ap (λ (b : Bool). cond b 1 0) idle in
          absurd (omega (arith, nothing, free, pos))
      waiting None (Some (Due statement)) e q pos = absurd (true≢false (sym (ap is_due q) ∙ all.run))
      waiting None (Some (Lent statement)) e q pos = inr (statement, q)
      waiting (Some f) d e q pos = inl (waits_so vs new t (lives_on w life) conn f su (run_ok mean kind w life fit ok) e)

  pub runs_complete_hold : RunsComplete mean kind
  unfolding run
  runs_complete_hold vs events n came added new letters replies jobs conn h o joins =
      let p = hold_parts mean kind vs first_run events (Goes n came added new letters replies jobs ∷ []) h in
      let x = runs_make_acts_hold mean kind vs events p.0 in
      let acts = x.0 in
      let r = run_from first_run events in
      let e = p.1.0 in
      let g = goes mean kind vs r acts n came added e.0 new letters replies jobs e.1 e.2 e.3 e.4 x.1 in
      let a = Moves n (causes came added) g.places g.life in
      let c = cluster vs acts in
      let d = cluster vs (acts ++ a ∷ []) in
      let after = with_place r n (Up new) (handed_on (r.jobs n) jobs) letters (map (spoken n) replies) in
      let here : after.places n ≡ Up new = cond-true (n == n) (Up new) (r.places n) (eq-eqb n n refl) in
      let life : d.lives n ≡ lives_on (c.lives n) g.life = life_later vs acts (a ∷ []) n tt ∙ ap (lives_on (c.lives n)) (mine mean kind n g.life) in
      let su = subst (λ w. Stands vs new (node_at vs d.raft n) w) life (up_at mean kind vs after (acts ++ a ∷ []) n new here g.is) in
      let ok = cluster_ok mean kind vs acts x.1.fit in
      let fit = move_fit mean kind vs c n (causes came added) g.places g.life ok (last_fits mean kind vs acts a g.is.fit) in
      let y = completed vs e.0 new (node_at vs c.raft n) (node_at vs d.raft n) (c.lives n) g.life (taken r n came added) conn (up_at mean kind vs r acts n e.0 e.2 x.1) su (ok.lives n) fit (g.joined conn joins) o (g.completes conn o joins) in (
        e.0,
        e.2,
        record { each = ap (λ k. told_to conn k + owed new conn) g.says ∙ y.0; waits = y.1 },
      )
