-- What was applied and said stays; when a reply that waited is said.
use Rattle.std.proofs.Common.{◌≡◌, ◌≢◌, ℕ, suc, ◌<◌, ◌≤◌, Bool, true, false, List, [], ◌∷◌, ◌++◌, length, take, refl, sym, ap, ◌∙◌, subst, ⊎_elim, arith, append_assoc}
use Rattle.std.specs.Prelude.{◌==◌, Option, Some, None}
use Rattle.std.proofs.lemmas.List.{take-append-le, take-take, length-take-le, append-nil}
use Rattle.std.proofs.lemmas.Bool.{cond_both, cases_Bool, eqb-true}
use Rattle.sql_engine.specs.declared.kind.EngineKind.{EngineKind}
use Rattle.sql_engine.specs.Meanings.{Meaning}
use Rattle.session_spec.specs.Entries.{Entry, entries_of}
use Rattle.session_spec.specs.Sessions.{Reply, Kind, Opening, Configuring, Writing, Committing, Querying, Flight, later_query, lent_query, Turned, Refused, Lacks, Answers, Proposes, Lends, Affects, may_ask}
use Rattle.session_spec.specs.Events.{connects, told_lost}
use Rattle.sql_engine.specs.Replies.{Statement}
use Rattle.session_spec.specs.Engines.{Answer}
use Rattle.session_safety.specs.Nodes.{Said, Trail, Node, Standing, started, applied_entries}
use Rattle.session_safety.specs.Life.{Event, Connect, Hangup, Call, Resume, Done, Apply, Lose, Lead, Serve, Append, Follow, told_all, undue, outcome_later, resumed, told_at, read_by, read, called, said_landed, said_by, said_applied, happens, run_from, AllFit}
use Rattle.session_safety.specs.Laws.{Lasts, LivesLast, AllHere, AnsweredHere}
use Rattle.session_safety.proofs.Invariant.{FlightIs, NodeOk}
use Rattle.session_safety.proofs.Applies.{front_grows}
use Rattle.session_safety.proofs.Laters.{resumed_both}
use Rattle.session_safety.proofs.Lives.{happens_ok, run_ok, started_ok}

lasts_refl : (w : Node) → Lasts w w
lasts_refl w = record { more = []; applied = sym (append-nil (applied_entries w)); later = []; said = sym (append-nil w.said) }

lasts_trans : {u v w : Node} → Lasts u v → Lasts v w → Lasts u w
lasts_trans {u} {v} {w} a b = record {
  more = a.more ++ b.more;
  applied = b.applied ∙ ap (λ l. l ++ b.more) a.applied ∙ append_assoc (applied_entries u) a.more b.more;
  later = a.later ++ b.later;
  said = b.said ∙ ap (λ l. l ++ b.later) a.said ∙ append_assoc u.said a.later b.later;
}

lasts_called : (w : Node) (c : ℕ) (t : Turned) → w.applied ≤ length w.log → Lasts w (called w c t)
lasts_called w c (Refused why) h = record { more = []; applied = sym (append-nil (applied_entries w)); later = _; said = refl }
lasts_called w c Lacks h = lasts_refl w
lasts_called w c (Answers s r note) h = record { more = []; applied = sym (append-nil (applied_entries w)); later = _; said = refl }
lasts_called w c (Affects effect) h = record { more = []; applied = sym (append-nil (applied_entries w)); later = _; said = refl }
lasts_called w c (Lends s job) h = record { more = []; applied = sym (append-nil (applied_entries w)); later = []; said = sym (append-nil w.said) }
lasts_called w c (Proposes s contents note) h = record { more = []; applied = take-append-le w.applied w.log (entries_of w.term contents) h ∙ sym (append-nil (applied_entries w)); later = []; said = sym (append-nil w.said) }

pub run_append : (w : Node) (es fs : List Event) → run_from w (es ++ fs) ≡ run_from (run_from w es) fs
run_append w [] fs = refl
run_append w (e ∷ es) fs = run_append (happens w e) es fs

-- at its place

here_append : (w v : Node) (xs ys : List Said) → AllHere w v xs → AllHere w v ys → AllHere w v (xs ++ ys)
here_append w v [] ys a b = b
here_append w v (x ∷ xs) ys a b = (a.0, here_append w v xs ys a.1 b)

here_told : (w v : Node) (rs : List (ℕ × Reply)) → AllHere w v (told_all rs)
here_told w v [] = tt
here_told w v (r ∷ rs) = ((λ h. absurd (omega (arith, h))), here_told w v rs)

landed_here : (w v : Node) (c : ℕ) (t : Trail) (f : Flight) (k : Kind) → w.applied < f.last → f.last ≡ v.applied → f.term ≡ v.term → v.leads ≡ true → AllHere w v (said_landed c t f k)
landed_here w v c t f Opening low i t' l = ((λ h. (low, i, t', l)), tt)
landed_here w v c t f (Configuring short) low i t' l = ((λ h. (low, i, t', l)), tt)
landed_here w v c t f (Writing reply) low i t' l = ((λ h. (low, i, t', l)), tt)
landed_here w v c t f Committing low i t' l = ((λ h. (low, i, t', l)), tt)
landed_here w v c t f (Querying statement) low i t' l = tt

some_none : {A : Type 0} {x : A} → Some x ≡ None → ⊥
some_none e = cc

called_here : (w : Node) (c : ℕ) (t : Turned) → (more : List Said) × ((called w c t).said ≡ w.said ++ more) × AllHere w (called w c t) more
called_here w c (Refused why) = (_, refl, ((λ h. absurd (omega (arith, h))), tt))
called_here w c Lacks = ([], sym (append-nil w.said), tt)
called_here w c (Answers s r note) = (_, refl, ((λ h. absurd (omega (arith, h))), tt))
called_here w c (Affects effect) = (_, refl, ((λ h. absurd (omega (arith, h))), tt))
called_here w c (Lends s job) = ([], sym (append-nil w.said), tt)
called_here w c (Proposes s contents note) = ([], sym (append-nil w.said), tt)

abbrev pub Answers_here : Node → Node → Type 0
Answers_here w v = (more : List Said) × (v.said ≡ w.said ++ more) × AllHere w v more

-- a query that waits for its answer is run
lasts_resumed : (w : Node) (c : ℕ) (standing : Standing) (answers : List Answer) (o : Option Statement) → w.applied ≤ length w.log → Lasts w (resumed w c standing answers o)
lasts_resumed w c standing answers None h = lasts_refl w
lasts_resumed w c standing answers (Some s) h =
    let t = outcome_later w c standing s answers in
    let l = lasts_called (undue w c) c t h in
    resumed_both (Lasts w) w c t (lasts_refl w) (record { more = l.more; applied = l.applied; later = l.later; said = l.said })

lasts_told : (w : Node) (c : ℕ) (s : Statement) (o : Option Reply) → Lasts w (read_by w c s o)
lasts_told w c s None = lasts_refl w
lasts_told w c s (Some reply) = record { more = []; applied = sym (append-nil (applied_entries w)); later = _; said = refl }

-- a reader is done
lasts_read : (w : Node) (c : ℕ) (answers : List Answer) (o : Option Statement) → Lasts w (read w c answers o)
lasts_read w c answers None = lasts_refl w
lasts_read w c answers (Some s) = lasts_told w c s (told_at w c s answers)

here_from : (w u v : Node) (xs : List Said) → u.applied ≡ w.applied → AllHere u v xs → AllHere w v xs
here_from w u v [] e a = tt
here_from w u v (x ∷ xs) e a = ((λ h. let y = a.0 h in (subst (λ n. n < x.index) e y.0, y.1, y.2, y.3)), here_from w u v xs e a.1)

resumed_here : (w : Node) (c : ℕ) (standing : Standing) (answers : List Answer) (o : Option Statement) → Answers_here w (resumed w c standing answers o)
resumed_here w c standing answers None = ([], sym (append-nil w.said), tt)
resumed_here w c standing answers (Some s) =
    let t = outcome_later w c standing s answers in
    let l = called_here (undue w c) c t in
    resumed_both (Answers_here w) w c t ([], sym (append-nil w.said), tt) (l.0, l.1, here_from w (undue w c) (called (undue w c) c t) l.0 refl l.2)

told_here : (w : Node) (c : ℕ) (s : Statement) (o : Option Reply) → Answers_here w (read_by w c s o)
told_here w c s None = ([], sym (append-nil w.said), tt)
told_here w c s (Some reply) = (_, refl, ((λ h. absurd (omega (arith, h))), tt))

read_here : (w : Node) (c : ℕ) (answers : List Answer) (o : Option Statement) → Answers_here w (read w c answers o)
read_here w c answers None = ([], sym (append-nil w.said), tt)
read_here w c answers (Some s) = told_here w c s (told_at w c s answers)

module _ (mean : Meaning) (kind : EngineKind) where
  pub lasts_step : (w : Node) (e : Event) → NodeOk mean w → Lasts w (happens w e)
  unfolding happens
  lasts_step w (Connect c) a = cond_both (connects w.gate c) _ w (Lasts w) (λ e. record { more = []; applied = sym (append-nil (applied_entries w)); later = []; said = sym (append-nil w.said) }) (λ e. lasts_refl w)
  lasts_step w (Hangup c) a = record { more = []; applied = sym (append-nil (applied_entries w)); later = []; said = sym (append-nil w.said) }
  lasts_step w (Call c standing r answers) a = cond_both (may_ask (w.gate.session c)) _ w (Lasts w) (λ e. lasts_called w c _ a.applied) (λ e. lasts_refl w)
  lasts_step w (Resume c standing answers) a = lasts_resumed w c standing answers (later_query (w.gate.session c).later) a.applied
  lasts_step w (Done c answers) a = lasts_read w c answers (lent_query (w.gate.session c).later)
  lasts_step w Apply a = record { more = _; applied = front_grows w.applied w.log; later = _; said = refl }
  lasts_step w (Lose t) a = record { more = []; applied = sym (append-nil (applied_entries w)); later = _; said = refl }
  lasts_step w (Lead t) a = record { more = []; applied = sym (append-nil (applied_entries w)); later = []; said = sym (append-nil w.said) }
  lasts_step w Serve a = record { more = []; applied = sym (append-nil (applied_entries w)); later = []; said = sym (append-nil w.said) }
  lasts_step w (Append contents) a = record { more = []; applied = take-append-le w.applied w.log (entries_of w.term contents) a.applied ∙ sym (append-nil (applied_entries w)); later = []; said = sym (append-nil w.said) }
  lasts_step w (Follow es) a =
      let low = a.applied in
      let long = length-take-le w.applied w.log low in
      let same : take w.applied (take w.applied w.log ++ es) ≡ take w.applied w.log = take-append-le w.applied (take w.applied w.log) es (omega arith) ∙ take-take w.applied w.applied w.log (omega arith) in
      record { more = []; applied = same ∙ sym (append-nil (applied_entries w)); later = []; said = sym (append-nil w.said) }

  lasts_run : (w : Node) (es : List Event) → AllFit mean kind w es → NodeOk mean w → Lasts w (run_from w es)
  lasts_run w [] h a = lasts_refl w
  lasts_run w (e ∷ es) h a = lasts_trans (lasts_step w e a) (lasts_run (happens w e) es h.1 (happens_ok mean kind w e h.0 a))

  pub fit_parts : (w : Node) (es fs : List Event) → AllFit mean kind w (es ++ fs) → AllFit mean kind w es × AllFit mean kind (run_from w es) fs
  fit_parts w [] fs h = (tt, h)
  fit_parts w (e ∷ es) fs h = let r = fit_parts (happens w e) es fs h.1 in ((h.0, r.0), r.1)

  pub lives_last_hold : LivesLast mean kind
  lives_last_hold log applied term es fs s h =
      let w = started log applied term in
      let p = fit_parts w es fs h in
      let a = run_ok mean kind w es p.0 (started_ok mean kind log applied term s.within s.woven) in
      subst (Lasts (run_from w es)) (sym (run_append w es fs)) (lasts_run (run_from w es) fs p.1 a)

  by_here : (w v : Node) (log : List Entry) (index c : ℕ) (t : Trail) (hung : Bool) (o : Option Flight) → index ≡ v.applied → FlightIs mean log w.applied v.term t o → (o ≢ None → v.leads ≡ true) → AllHere w v (said_by index c t hung o)
  by_here w v log index c t hung None i f l = tt
  by_here w v log index c t hung (Some x) i f l =
      cond_both (x.last == index) _ _ (AllHere w v) (λ e. cond_both hung _ _ (AllHere w v) (λ h. tt) (λ h. landed_here w v c t x x.kind f.ahead (eqb-true _ _ e ∙ i) f.of_term (l (λ z. some_none z)))) (λ e. tt)

  applied_here : (w v : Node) (cs : List ℕ) → NodeOk mean w → suc w.applied ≡ v.applied → w.term ≡ v.term → w.leads ≡ v.leads → AllHere w v (said_applied (suc w.applied) w.trail w.gate.session cs)
  applied_here w v [] a i t l = tt
  applied_here w v (c ∷ cs) a i t l = here_append w v _ _
      (by_here w v w.log (suc w.applied) c (w.trail c) (w.gate.session c).hung (w.gate.session c).flight i
      (subst (λ k. FlightIs mean w.log w.applied k (w.trail c) (w.gate.session c).flight) t (a.sessions c).flight)
      (λ n. sym l ∙ ⊎_elim (λ (s : w.serving ≡ true). a.leads s) (λ (s : w.serving ≡ false). absurd (n (a.idle s c).flight)) (cases_Bool w.serving)))
      (applied_here w v cs a i t l)

  pub step_here : (w : Node) (e : Event) → NodeOk mean w → Answers_here w (happens w e)
  unfolding happens
  step_here w (Connect c) a = cond_both (connects w.gate c) _ w (Answers_here w) (λ e. ([], sym (append-nil w.said), tt)) (λ e. ([], sym (append-nil w.said), tt))
  step_here w (Hangup c) a = ([], sym (append-nil w.said), tt)
  step_here w (Call c standing r answers) a = cond_both (may_ask (w.gate.session c)) _ w (Answers_here w) (λ e. called_here w c _) (λ e. ([], sym (append-nil w.said), tt))
  step_here w (Resume c standing answers) a = resumed_here w c standing answers (later_query (w.gate.session c).later)
  step_here w (Done c answers) a = read_here w c answers (lent_query (w.gate.session c).later)
  step_here w Apply a = (_, refl, applied_here w (happens w Apply) w.gate.conns a refl refl refl)
  step_here w (Lose t) a = (_, refl, here_told w (happens w (Lose t)) (told_lost w.gate))
  step_here w (Lead t) a = ([], sym (append-nil w.said), tt)
  step_here w Serve a = ([], sym (append-nil w.said), tt)
  step_here w (Append contents) a = ([], sym (append-nil w.said), tt)
  step_here w (Follow es) a = ([], sym (append-nil w.said), tt)

  pub answered_here_holds : AnsweredHere mean kind
  answered_here_holds log applied term es e s h =
      let w = started log applied term in
      let p = fit_parts w es (e ∷ []) h in
      let a = run_ok mean kind w es p.0 (started_ok mean kind log applied term s.within s.woven) in
      subst (Answers_here (run_from w es)) (sym (run_append w es (e ∷ []))) (step_here (run_from w es) e a)
