-- One voter that never stops.
use Rattle.std.proofs.Common.{◌≡◌, ◌≢◌, ℕ, zero, suc, ◌+◌, ◌-◌, ◌<◌, ◌≤◌, true, false, List, [], ◌∷◌, ◌++◌, length, refl, sym, ap, ◌∙◌, subst, arith, length-append, append_assoc}
use Rattle.std.specs.Prelude.{nat_le, Bool, map, Option, Some, None, if◌then◌else◌}
use Rattle.std.specs.List.{filter}
use Rattle.std.proofs.lemmas.List.{take_all, append-nil}
use Rattle.std.proofs.lemmas.Bool.{cond_both, cond-true}
use Rattle.wire_msgs.specs.declared.request.Request.{Request}
use Rattle.log_commands.specs.declared.command.Command.TheVariants.{Checkpoint}
use Rattle.sql_engine.specs.declared.kind.EngineKind.{EngineKind}
use Rattle.sql_engine.specs.Meanings.{Meaning}
use Rattle.sql_engine.specs.Replies.{Statement}
use Rattle.session_spec.specs.Entries.{Does, Other, Entry, entries_of}
use Rattle.session_spec.specs.Machine.{files, base_at, act}
use Rattle.session_spec.specs.Engines.{Answer}
use Rattle.session_spec.specs.Sessions.{Reply, Flight, later_query, lent_query, Turned, Refused, Lacks, Answers, Proposes, Lends, Affects, may_ask}
use Rattle.session_spec.specs.Asking.{Asked, Never, Tells, Sets, Opens, Creates, Prepares, Drops, Forgets, Begins, Commits, RollsBack, Changes, Runs, Reads, asked_by}
use Rattle.session_spec.specs.Requests.{does, on_request}
use Rattle.session_spec.specs.Events.{connects}
use Rattle.session_safety.specs.Woven.{Woven}
use Rattle.session_safety.specs.Nodes.{Said, Trail, Node, Standing, databases, view_of, started}
use Rattle.session_safety.specs.Life.{Event, Connect, Hangup, Call, Resume, Done, Apply, Lose, Lead, Serve, Append, Follow, undue, outcome_later, resumed, told_at, read_by, read, called, happens, run_from, Fits, AllFit, ArePlain}
use Rattle.session_safety.specs.Replies.{AllSaid}
use Rattle.session_safety.specs.Alone.{Turn, Timeout, Join, Leave, Ask, applies, settling, due, settled, checkpointed, takes_turn, alone_from, alone, events_of, AllowsTurn, AllowsTurns, AloneIsSafe, AllIn, SaysInTime, TurnsSay, NoneJoins, TurnsSee, script_turns, ScriptsAreSafe}
use Rattle.session_safety.proofs.Invariant.{FlightIs, NodeOk}
use Rattle.session_safety.proofs.Asks.{IsIdle, request_idle}
use Rattle.session_safety.proofs.Moves.{no}
use Rattle.session_safety.proofs.Laters.{resumed_both}
use Rattle.session_safety.proofs.Plains.{absent_plain, not_busy}
use Rattle.session_safety.proofs.Lives.{happens_ok, run_ok, started_ok}
use Rattle.session_safety.specs.Laws.{AllHere, NoneComes}
use Rattle.session_safety.proofs.Lasts.{run_append, step_here}
use Rattle.session_safety.proofs.Sees.{Gone, gone_none, gone_sees, along}
use Rattle.session_safety.proofs.Milds.{AllContents, Mild, AllLone, mild_run}

-- the one node between two turns
record Rests (mean : Meaning) (w : Node) : Type 0 where
  node : NodeOk mean w
  all : w.applied ≡ length w.log
  same : w.leads ≡ w.serving
  empty : w.leads ≡ false → w.log ≡ []
  term : w.term ≡ (if w.leads then 1 else 0)

-- a node in the midst of a turn
record Works (mean : Meaning) (w : Node) : Type 0 where
  node : NodeOk mean w
  leads : w.leads ≡ true
  serves : w.serving ≡ true
  term : w.term ≡ 1

-- it works, and all is applied
record Settled (mean : Meaning) (w : Node) : Type 0 where
  works : Works mean w
  all : w.applied ≡ length w.log

-- what an event leaves of the node itself
pub record Same (w v : Node) : Type 0 where
  pub leads : v.leads ≡ w.leads
  pub serving : v.serving ≡ w.serving
  pub applied : v.applied ≡ w.applied
  pub term : v.term ≡ w.term

same_refl : (w : Node) → Same w w
same_refl w = record { leads = refl; serving = refl; applied = refl; term = refl }

called_same : (w : Node) (c : ℕ) (t : Turned) → Same w (called w c t)
called_same w c (Refused why) = record { leads = refl; serving = refl; applied = refl; term = refl }
called_same w c Lacks = same_refl w
called_same w c (Answers s r note) = record { leads = refl; serving = refl; applied = refl; term = refl }
called_same w c (Affects effect) = record { leads = refl; serving = refl; applied = refl; term = refl }
called_same w c (Lends s job) = record { leads = refl; serving = refl; applied = refl; term = refl }
called_same w c (Proposes s contents note) = record { leads = refl; serving = refl; applied = refl; term = refl }

pub call_same : (w : Node) (c : ℕ) (standing : Standing) (r : Request) (answers : List Answer) → Same w (happens w (Call c standing r answers))
unfolding happens
call_same w c standing r answers = cond_both (may_ask (w.gate.session c)) _ w (Same w) (λ e. called_same w c _) (λ e. same_refl w)

pub resumed_same : (w : Node) (c : ℕ) (standing : Standing) (answers : List Answer) (o : Option Statement) → Same w (resumed w c standing answers o)
resumed_same w c standing answers None = same_refl w
resumed_same w c standing answers (Some s) =
    let t = outcome_later w c standing s answers in
    let a = called_same (undue w c) c t in
    resumed_both (Same w) w c t (same_refl w) (record { leads = a.leads; serving = a.serving; applied = a.applied; term = a.term })

told_same : (w : Node) (c : ℕ) (s : Statement) (o : Option Reply) → Same w (read_by w c s o)
told_same w c s None = same_refl w
told_same w c s (Some reply) = record { leads = refl; serving = refl; applied = refl; term = refl }

pub read_same : (w : Node) (c : ℕ) (answers : List Answer) (o : Option Statement) → Same w (read w c answers o)
read_same w c answers None = same_refl w
read_same w c answers (Some s) = told_same w c s (told_at w c s answers)

apply_log : (w : Node) → (happens w Apply).log ≡ w.log
unfolding happens
apply_log w = refl

apply_next : (w : Node) → (happens w Apply).applied ≡ suc w.applied
unfolding happens
apply_next w = refl

plain_due : (ns : List (List ℕ)) → ArePlain true (map (λ (n : List ℕ). Does (Checkpoint n)) ns)
plain_due [] = tt
plain_due (n ∷ ns) = (tt, plain_due ns)

-- if the node does not serve, a request appends nothing
idle_log : (w : Node) (c : ℕ) (standing : Standing) (x : Asked) (answers : List Answer) → IsIdle x → (called w c (does (view_of w standing) (databases w) w.gate c (w.gate.session c) x answers)).log ≡ w.log
unfolding does
idle_log w c standing (Never cause) answers h = refl
idle_log w c standing (Tells response) answers h = refl
idle_log w c standing (Sets effect) answers h = refl
idle_log w c standing (Opens name barriers) answers h = absurd h
idle_log w c standing (Creates name barriers) answers h = absurd h
idle_log w c standing (Prepares p tail) answers h = absurd h
idle_log w c standing (Drops id) answers h = refl
idle_log w c standing (Forgets response) answers h = refl
idle_log w c standing (Begins at_once) answers h = absurd h
idle_log w c standing Commits answers h = absurd h
idle_log w c standing RollsBack answers h = absurd h
idle_log w c standing (Changes servers short) answers h = absurd h
idle_log w c standing (Runs ss) answers h = absurd h
idle_log w c standing (Reads s) answers h = absurd h

request_log : (w : Node) (c : ℕ) (standing : Standing) (r : Request) (answers : List Answer) → w.serving ≡ false → (called w c (on_request (view_of w standing) (databases w) w.gate c r answers)).log ≡ w.log
unfolding on_request
request_log w c standing r answers off = idle_log w c standing (asked_by (view_of w standing) (databases w) w.gate c (w.gate.session c) r) answers (request_idle (view_of w standing) (databases w) w.gate c (w.gate.session c) off r)

pub call_log : (w : Node) (c : ℕ) (standing : Standing) (r : Request) (answers : List Answer) → w.serving ≡ false → (happens w (Call c standing r answers)).log ≡ w.log
unfolding happens
call_log w c standing r answers off = cond_both (may_ask (w.gate.session c)) _ w (λ v. v.log ≡ w.log) (λ e. request_log w c standing r answers off) (λ e. refl)

-- the first timeout
no_pending : (log : List Entry) (k : ℕ) (n : List ℕ) → log ≡ [] → k ≡ 0 → (base_at (log ++ entries_of 1 (Other ∷ [])) (suc k) n).pending ≡ None
unfolding files act
no_pending log k n l e = subst (λ xs. (base_at (xs ++ entries_of 1 (Other ∷ [])) (suc k) n).pending ≡ None) (sym l) (subst (λ j. (base_at ([] ++ entries_of 1 (Other ∷ [])) (suc j) n).pending ≡ None) (sym e) refl)

join_same : (w : Node) (c : ℕ) → Same w (happens w (Connect c)) × ((happens w (Connect c)).log ≡ w.log)
unfolding happens
join_same w c = cond_both (connects w.gate c) _ w (λ v. Same w v × (v.log ≡ w.log)) (λ e. (record { leads = refl; serving = refl; applied = refl; term = refl }, refl)) (λ e. (same_refl w, refl))

leave_same : (w : Node) (c : ℕ) → Same w (happens w (Hangup c)) × ((happens w (Hangup c)).log ≡ w.log)
unfolding happens
leave_same w c = (record { leads = refl; serving = refl; applied = refl; term = refl }, refl)

no_entries : Woven []
no_entries = record { at = λ i name tx term b pages pos x. absurd (none_some x.is) }
  where
    none_some : {A : Type 0} {x : A} → None ≡ Some x → ⊥
    none_some e = cc

-- no connection of the number comes by these

same_number : {c d : ℕ} → Connect c ≡ Connect d → c ≡ d
same_number e = cc

none_append : (d : ℕ) (es fs : List Event) → NoneComes d es → NoneComes d fs → NoneComes d (es ++ fs)
none_append d [] fs a b = b
none_append d (e ∷ es) fs a b = (a.0, none_append d es fs a.1 b)

none_applies : (d k : ℕ) → NoneComes d (applies k)
none_applies d zero = tt
none_applies d (suc k) = ((λ e. cc), none_applies d k)

none_turn : (d : ℕ) (w : Node) (t : Turn) → t ≢ Join d → NoneComes d (events_of w t)
none_turn d w Timeout h = cond_both w.leads [] _ (NoneComes d) (λ e. tt) (λ e. ((λ q. cc), ((λ q. cc), ((λ q. cc), ((λ q. cc), tt)))))
none_turn d w (Join c) h = ((λ q. h (ap (λ k. Join k) (same_number q))), tt)
none_turn d w (Leave c) h = ((λ q. cc), tt)
none_turn d w (Ask c standing r answers) h = cond_both w.leads _ _ (NoneComes d)
    (λ e. ((λ q. cc), none_append d (settling (happens w (Call c standing r answers))) _ (none_applies d _) ((λ q. cc), none_applies d _)))
    (λ e. ((λ q. cc), tt))

-- what one voter does by itself

lone_append : (es fs : List Event) → AllLone es → AllLone fs → AllLone (es ++ fs)
lone_append [] fs a b = b
lone_append (e ∷ es) fs a b = (a.0, lone_append es fs a.1 b)

lone_applies : (k : ℕ) → AllLone (applies k)
lone_applies zero = tt
lone_applies (suc k) = (tt, lone_applies k)

lone_due : (ns : List (List ℕ)) → AllContents (map (λ (n : List ℕ). Does (Checkpoint n)) ns)
lone_due [] = tt
lone_due (n ∷ ns) = (tt, lone_due ns)

lone_turn : (mean : Meaning) (kind : EngineKind) (w : Node) (t : Turn) → AllowsTurn mean kind w t → AllLone (events_of w t)
lone_turn mean kind w Timeout h = cond_both w.leads [] _ AllLone (λ e. tt) (λ e. (tt, ((tt, tt), (tt, (tt, tt)))))
lone_turn mean kind w (Join c) h = (tt, tt)
lone_turn mean kind w (Leave c) h = (tt, tt)
lone_turn mean kind w (Ask c standing r answers) h = cond_both w.leads _ _ AllLone
    (λ e. ((h.0, h.1), lone_append (settling (happens w (Call c standing r answers))) _ (lone_applies _) (lone_due _, lone_applies _)))
    (λ e. ((h.0, h.1), tt))

-- what neither begins nor ends a node's leadership
abbrev IsSteady : Event → Type 0
IsSteady (Lose term) = ⊥
IsSteady (Lead term) = ⊥
IsSteady e = Unit {0}

abbrev AllSteady : List Event → Type 0
AllSteady [] = Unit {0}
AllSteady (e ∷ es) = IsSteady e × AllSteady es

steady_append : (es fs : List Event) → AllSteady es → AllSteady fs → AllSteady (es ++ fs)
steady_append [] fs a b = b
steady_append (e ∷ es) fs a b = (a.0, steady_append es fs a.1 b)

steady_applies : (k : ℕ) → AllSteady (applies k)
steady_applies zero = tt
steady_applies (suc k) = (tt, steady_applies k)

steady_ask : (w : Node) (c : ℕ) (standing : Standing) (r : Request) (answers : List Answer) → AllSteady (events_of w (Ask c standing r answers))
steady_ask w c standing r answers = cond_both w.leads _ _ AllSteady
    (λ e. (tt, steady_append (settling (happens w (Call c standing r answers))) _ (steady_applies _) (tt, steady_applies _)))
    (λ e. (tt, tt))

-- what steady events leave of the node itself
record Steady (w v : Node) : Type 0 where
  applied : w.applied ≤ v.applied
  term : v.term ≡ w.term
  leads : v.leads ≡ w.leads

steady_refl : (w : Node) → Steady w w
steady_refl w = record { applied = omega arith; term = refl; leads = refl }

steady_same : (w v : Node) → Same w v → Steady w v
steady_same w v s = let e = s.applied in record { applied = omega arith; term = s.term; leads = s.leads }

steady_event : (w : Node) (e : Event) → IsSteady e → Steady w (happens w e)
unfolding happens
steady_event w (Connect c) h = steady_same w (happens w (Connect c)) (join_same w c).0
steady_event w (Hangup c) h = record { applied = omega arith; term = refl; leads = refl }
steady_event w (Call c standing r answers) h = steady_same w (happens w (Call c standing r answers)) (call_same w c standing r answers)
steady_event w (Resume c standing answers) h = steady_same w (resumed w c standing answers (later_query (w.gate.session c).later)) (resumed_same w c standing answers (later_query (w.gate.session c).later))
steady_event w (Done c answers) h =
    steady_same w (read w c answers (lent_query (w.gate.session c).later)) (read_same w c answers (lent_query (w.gate.session c).later))
steady_event w Apply h = record { applied = omega arith; term = refl; leads = refl }
steady_event w (Lose t) h = absurd h
steady_event w (Lead t) h = absurd h
steady_event w Serve h = record { applied = omega arith; term = refl; leads = refl }
steady_event w (Append contents) h = record { applied = omega arith; term = refl; leads = refl }
steady_event w (Follow es) h = record { applied = omega arith; term = refl; leads = refl }

in_append : (k : ℕ) (v : Node) (xs ys : List Said) → AllIn k v xs → AllIn k v ys → AllIn k v (xs ++ ys)
in_append k v [] ys a b = b
in_append k v (x ∷ xs) ys a b = (a.0, in_append k v xs ys a.1 b)

-- from an earlier moment, and to a later one
in_wider : (j k : ℕ) (u v : Node) (xs : List Said) → j ≤ k → Steady u v → AllIn k u xs → AllIn j v xs
in_wider j k u v [] h s a = tt
in_wider j k u v (x ∷ xs) h s a = (
  (λ p.
      let y = a.0 p in
      let past = y.past in
      let within = y.within in
      let on = s.applied in
      record { past = omega arith; within = omega arith; term = y.term ∙ sym s.term; leads = s.leads ∙ y.leads }),
  in_wider j k u v xs h s a.1,
)

in_here : (w v : Node) (xs : List Said) → AllHere w v xs → AllIn w.applied v xs
in_here w v [] a = tt
in_here w v (x ∷ xs) a = ((λ p. let y = a.0 p in let same = y.1 in record { past = y.0; within = omega arith; term = y.2; leads = y.3 }), in_here w v xs a.1)

tells_none : (w : Node) → SaysInTime w w
tells_none w = record { later = []; said = sym (append-nil w.said); here = tt }

module _ (mean : Meaning) (kind : EngineKind) where
  rests_of : (w : Node) → Settled mean w → Rests mean w
  rests_of w s = record { node = s.works.node; all = s.all; same = s.works.leads ∙ sym s.works.serves; empty = λ e. no (sym e ∙ s.works.leads); term = s.works.term ∙ sym (cond-true w.leads 1 0 s.works.leads) }

  works_call : (w : Node) (c : ℕ) (standing : Standing) (r : Request) (answers : List Answer) → Fits mean kind w (Call c standing r answers) → Works mean w → Works mean (happens w (Call c standing r answers))
  works_call w c standing r answers h a = let s = call_same w c standing r answers in record { node = happens_ok mean kind w (Call c standing r answers) h a.node; leads = s.leads ∙ a.leads; serves = s.serving ∙ a.serves; term = s.term ∙ a.term }

  works_apply : (w : Node) → w.applied < length w.log → Works mean w → Works mean (happens w Apply)
  unfolding happens
  works_apply w h a = record { node = happens_ok mean kind w Apply h a.node; leads = a.leads; serves = a.serves; term = a.term }

  settle : (k : ℕ) (w : Node) → w.applied + k ≡ length w.log → Works mean w → AllFit mean kind w (applies k) × Settled mean (run_from w (applies k))
  settle zero w e a = (tt, record { works = a; all = omega arith })
  settle (suc k) w e a =
      let h : w.applied < length w.log = omega arith in
      let next = apply_next w in
      let size = ap length (apply_log w) in
      let e' : (happens w Apply).applied + k ≡ length (happens w Apply).log = omega arith in
      let r = settle k (happens w Apply) e' (works_apply w h a) in
      ((h, r.0), r.1)

  settles : (w : Node) → Works mean w → AllFit mean kind w (settling w) × Settled mean (settled w)
  settles w a = let h = a.node.applied in settle (length w.log - w.applied) w (omega arith) a

  due_fits : (w : Node) → Works mean w → Fits mean kind w (Append (due (databases w)))
  due_fits w a = (a.leads, subst (λ b. ArePlain b (due (databases w))) (sym a.serves) (plain_due (filter (λ (n : List ℕ). nat_le 1000 ((databases w).base n).since) (databases w).names)))

  works_due : (w : Node) → Works mean w → Works mean (checkpointed w)
  unfolding happens
  works_due w a = record { node = happens_ok mean kind w (Append (due (databases w))) (due_fits w a) a.node; leads = a.leads; serves = a.serves; term = a.term }

  fit_append : (w : Node) (xs ys : List Event) → AllFit mean kind w xs → AllFit mean kind (run_from w xs) ys → AllFit mean kind w (xs ++ ys)
  fit_append w [] ys a b = b
  fit_append w (x ∷ xs) ys a b = (a.0, fit_append (happens w x) xs ys a.1 b)

  -- a request at the leader
  ask_leading : (w : Node) (c : ℕ) (standing : Standing) (r : Request) (answers : List Answer) → Fits mean kind w (Call c standing r answers) → Works mean w → Settled mean (run_from w (Call c standing r answers ∷ settling (happens w (Call c standing r answers)) ++ Append (due (databases (settled (happens w (Call c standing r answers))))) ∷ settling (checkpointed (settled (happens w (Call c standing r answers))))))
  ask_leading w c standing r answers h a =
      let one = happens w (Call c standing r answers) in
      let two = settles one (works_call w c standing r answers h a) in
      let last = settles (checkpointed (settled one)) (works_due (settled one) two.1.works) in
      subst (Settled mean) (sym (run_append one (settling one) (Append (due (databases (settled one))) ∷ settling (checkpointed (settled one))))) last.1

  -- the same node with the same log rests as before
  still_rests : (w v : Node) → Rests mean w → NodeOk mean v → Same w v → v.log ≡ w.log → Rests mean v
  still_rests w v a n s l = record {
    node = n;
    all = s.applied ∙ a.all ∙ sym (ap length l);
    same = s.leads ∙ a.same ∙ sym s.serving;
    empty = λ e. l ∙ a.empty (sym s.leads ∙ e);
    term = s.term ∙ a.term ∙ ap (λ (b : Bool). if b then 1 else 0) (sym s.leads);
  }

  elected_fits : (w : Node) → w.leads ≡ false → Rests mean w → AllFit mean kind w (Lead 1 ∷ Append (Other ∷ []) ∷ Apply ∷ Serve ∷ [])
  unfolding happens
  elected_fits w off a =
      let empty = a.empty off in
      let none : w.applied ≡ 0 = a.all ∙ ap length empty in
      let long = length-append w.log (entries_of 1 (Other ∷ [])) in
      let all = a.all in
      let full : suc w.applied ≡ length (w.log ++ entries_of 1 (Other ∷ [])) = omega arith in
      let low : w.term ≡ 0 = a.term ∙ ap (λ (b : Bool). if b then 1 else 0) off in
      ((off, omega arith), ((refl, (tt, tt)), (omega arith, ((refl, full, λ n. no_pending w.log w.applied n empty none), tt))))

  elected : (w : Node) → w.leads ≡ false → Rests mean w → Rests mean (run_from w (Lead 1 ∷ Append (Other ∷ []) ∷ Apply ∷ Serve ∷ []))
  unfolding happens
  elected w off a =
      let long = length-append w.log (entries_of 1 (Other ∷ [])) in
      let all = a.all in
      let full : suc w.applied ≡ length (w.log ++ entries_of 1 (Other ∷ [])) = omega arith in
      record {
        node = run_ok mean kind w (Lead 1 ∷ Append (Other ∷ []) ∷ Apply ∷ Serve ∷ []) (elected_fits w off a) a.node;
        all = full;
        same = refl;
        empty = λ e. no (sym e);
        term = refl;
      }

  turn_ok : (w : Node) (t : Turn) → AllowsTurn mean kind w t → Rests mean w → Rests mean (takes_turn w t)
  turn_ok w Timeout h a =
      cond_both w.leads [] (Lead 1 ∷ Append (Other ∷ []) ∷ Apply ∷ Serve ∷ []) (λ es. Rests mean (run_from w es)) (λ e. a) (λ e. elected w e a)
  turn_ok w (Join c) h a = let s = join_same w c in still_rests w (happens w (Connect c)) a (happens_ok mean kind w (Connect c) tt a.node) s.0 s.1
  turn_ok w (Leave c) h a = let s = leave_same w c in still_rests w (happens w (Hangup c)) a (happens_ok mean kind w (Hangup c) tt a.node) s.0 s.1
  turn_ok w (Ask c standing r answers) h a = cond_both w.leads _ (Call c standing r answers ∷ []) (λ es. Rests mean (run_from w es))
      (λ e. rests_of _ (ask_leading w c standing r answers h.2 (record { node = a.node; leads = e; serves = sym a.same ∙ e; term = a.term ∙ cond-true w.leads 1 0 e })))
      (λ e. still_rests w (happens w (Call c standing r answers)) a (happens_ok mean kind w (Call c standing r answers) h.2 a.node) (call_same w c standing r answers) (call_log w c standing r answers (sym a.same ∙ e)))

  turns_ok : (ts : List Turn) (w : Node) → AllowsTurns mean kind w ts → Rests mean w → Rests mean (alone_from w ts)
  turns_ok [] w h a = a
  turns_ok (t ∷ ts) w h a = turns_ok ts (takes_turn w t) h.1 (turn_ok w t h.0 a)

  rests_alone : (ts : List Turn) → AllowsTurns mean kind (started [] 0 0) ts → Rests mean (alone ts)
  unfolding alone
  rests_alone ts h = turns_ok ts (started [] 0 0) h (record { node = started_ok mean kind [] 0 0 (omega arith) no_entries; all = refl; same = refl; empty = λ e. refl; term = refl })

  -- what every event keeps is so after each turn
  pub alone_ok : (ts : List Turn) → AllowsTurns mean kind (started [] 0 0) ts → NodeOk mean (alone ts)
  alone_ok ts h = (rests_alone ts h).node

  -- each event of a turn fits
  ask_fits : (w : Node) (c : ℕ) (standing : Standing) (r : Request) (answers : List Answer) → Fits mean kind w (Call c standing r answers) → Works mean w → AllFit mean kind w (Call c standing r answers ∷ settling (happens w (Call c standing r answers)) ++ Append (due (databases (settled (happens w (Call c standing r answers))))) ∷ settling (checkpointed (settled (happens w (Call c standing r answers)))))
  ask_fits w c standing r answers h a =
      let one = happens w (Call c standing r answers) in
      let two = settles one (works_call w c standing r answers h a) in
      let last = settles (checkpointed (settled one)) (works_due (settled one) two.1.works) in
      (h, fit_append one (settling one) (Append (due (databases (settled one))) ∷ settling (checkpointed (settled one))) two.0 (due_fits (settled one) two.1.works, last.0))

  turn_fits : (w : Node) (t : Turn) → AllowsTurn mean kind w t → Rests mean w → AllFit mean kind w (events_of w t)
  turn_fits w Timeout h a = cond_both w.leads [] (Lead 1 ∷ Append (Other ∷ []) ∷ Apply ∷ Serve ∷ []) (AllFit mean kind w) (λ e. tt) (λ e. elected_fits w e a)
  turn_fits w (Join c) h a = (tt, tt)
  turn_fits w (Leave c) h a = (tt, tt)
  turn_fits w (Ask c standing r answers) h a = cond_both w.leads _ (Call c standing r answers ∷ []) (AllFit mean kind w)
      (λ e. ask_fits w c standing r answers h.2 (record { node = a.node; leads = e; serves = sym a.same ∙ e; term = a.term ∙ cond-true w.leads 1 0 e }))
      (λ e. (h.2, tt))

  -- what steady events say
  steady_tells : (es : List Event) (w : Node) → AllSteady es → AllFit mean kind w es → NodeOk mean w → SaysInTime w (run_from w es) × Steady w (run_from w es)
  steady_tells [] w s h a = (tells_none w, steady_refl w)
  steady_tells (e ∷ es) w s h a =
      let v = happens w e in
      let now = step_here mean kind w e a in
      let on = steady_event w e s.0 in
      let rest = steady_tells es v s.1 h.1 (happens_ok mean kind w e h.0 a) in
      let more = on.applied in
      let most = rest.1.applied in (
        record {
          later = now.0 ++ rest.0.later;
          said = rest.0.said ∙ ap (λ l. l ++ rest.0.later) now.1 ∙ append_assoc w.said now.0 rest.0.later;
          here = in_append w.applied (run_from v es) now.0 rest.0.later
              (in_wider w.applied w.applied v (run_from v es) now.0 (omega arith) rest.1 (in_here w v now.0 now.2))
              (in_wider w.applied v.applied (run_from v es) (run_from v es) rest.0.later more (steady_refl (run_from v es)) rest.0.here);
        },
        record { applied = omega arith; term = rest.1.term ∙ on.term; leads = rest.1.leads ∙ on.leads },
      )

  elected_tells : (w : Node) → w.leads ≡ false → Rests mean w → SaysInTime w (run_from w (Lead 1 ∷ Append (Other ∷ []) ∷ Apply ∷ Serve ∷ []))
  unfolding happens
  elected_tells w off a =
      let fits = elected_fits w off a in
      let rest = steady_tells (Append (Other ∷ []) ∷ Apply ∷ Serve ∷ []) (happens w (Lead 1)) (tt, (tt, (tt, tt))) fits.1 (happens_ok mean kind w (Lead 1) fits.0 a.node) in
      record { later = rest.0.later; said = rest.0.said; here = rest.0.here }

  turn_tells : (w : Node) (t : Turn) → AllowsTurn mean kind w t → Rests mean w → SaysInTime w (takes_turn w t)
  turn_tells w Timeout h a = cond_both w.leads [] (Lead 1 ∷ Append (Other ∷ []) ∷ Apply ∷ Serve ∷ []) (λ es. SaysInTime w (run_from w es)) (λ e. tells_none w) (λ e. elected_tells w e a)
  turn_tells w (Join c) h a = (steady_tells (Connect c ∷ []) w (tt, tt) (tt, tt) a.node).0
  turn_tells w (Leave c) h a = (steady_tells (Hangup c ∷ []) w (tt, tt) (tt, tt) a.node).0
  turn_tells w (Ask c standing r answers) h a =
      (steady_tells (events_of w (Ask c standing r answers)) w (steady_ask w c standing r answers) (turn_fits w (Ask c standing r answers) h a) a.node).0

  pub turns_say_hold : TurnsSay mean kind
  turns_say_hold ts t h x = turn_tells (alone ts) t x (rests_alone ts h)

  sees_turns : (d : ℕ) (u w : Node) (ts : List Turn) → AllowsTurns mean kind w ts → NoneJoins d ts → Rests mean w → Gone d u w → Gone d u (alone_from w ts)
  sees_turns d u w [] h n a g = g
  sees_turns d u w (t ∷ ts) h n a g = sees_turns d u (takes_turn w t) ts h.1 n.1 (turn_ok w t h.0 a) (along mean kind d u w (events_of w t) (turn_fits w t h.0 a) (none_turn d w t n.0) a.node g)

  pub turns_see_hold : TurnsSee mean kind
  turns_see_hold ts us d h x n =
      gone_sees d (alone ts) (alone_from (alone ts) us) (sees_turns d (alone ts) (alone ts) us x n (rests_alone ts h) (gone_none d (alone ts)))

  mild_turns : (ts : List Turn) (w : Node) → AllowsTurns mean kind w ts → Rests mean w → Mild w → Mild (alone_from w ts)
  mild_turns [] w h a m = m
  mild_turns (t ∷ ts) w h a m =
      mild_turns ts (takes_turn w t) h.1 (turn_ok w t h.0 a) (mild_run mean kind w (events_of w t) (lone_turn mean kind w t h.0) (turn_fits w t h.0 a) a.node m)

  mild_alone : (ts : List Turn) → AllowsTurns mean kind (started [] 0 0) ts → Mild (alone ts)
  unfolding alone
  mild_alone ts h = mild_turns ts (started [] 0 0) h (rests_alone [] tt) (record { servers = tt; kept = tt; plain = λ c. absent_plain })

  no_flight : (log : List Entry) (applied term : ℕ) (t : Trail) (o : Option Flight) → applied ≡ length log → FlightIs mean log applied term t o → o ≡ None
  no_flight log applied term t None e a = refl
  no_flight log applied term t (Some f) e a = let x = a.ahead in let y = a.within in absurd (omega arith)

  pub alone_is_safe_holds : AloneIsSafe mean kind
  alone_is_safe_holds ts h =
      let w = alone ts in
      let r = rests_alone ts h in
      let mild = mild_alone ts h in
      let full = r.all in
      record {
        applied = r.all;
        said = subst (λ l. AllSaid mean l w.said) (take_all w.applied w.log (omega arith)) r.node.said;
        woven = r.node.woven;
        servers = mild.servers;
        kept = mild.kept;
        serves = sym r.same;
        term = r.term;
        answered = λ c. not_busy (w.gate.session c) (no_flight w.log w.applied w.term (w.trail c) (w.gate.session c).flight r.all (r.node.sessions c).flight) (mild.plain c).later;
      }

  pub scripts_are_safe_hold : ScriptsAreSafe mean kind
  scripts_are_safe_hold standing lines journal h = alone_is_safe_holds (script_turns standing lines journal) h
