-- The job of a query that a reader has stays the same until its reader is done, or the client goes.
use Rattle.std.proofs.Common.{◌≡◌, ◌≢◌, ℕ, suc, ◌≤◌, Bool, true, false, true≢false, List, [], ◌∷◌, length, take, refl, sym, ap, ◌∙◌, subst, arith}
use Rattle.std.specs.Prelude.{◌==◌, ◌&&◌, not, is_none, Option, Some, None}
use Rattle.std.proofs.lemmas.List.{length-take-le}
use Rattle.std.proofs.lemmas.Bool.{cond-false, cond_both, ne_eqb, and_parts}
use Rattle.sql_engine.specs.declared.kind.EngineKind.{EngineKind}
use Rattle.sql_engine.specs.Meanings.{Meaning}
use Rattle.sql_engine.specs.Replies.{Statement}
use Rattle.session_spec.specs.Engines.{Answer}
use Rattle.session_spec.specs.Entries.{entries_of}
use Rattle.session_spec.specs.Events.{tidy, settled_by, on_applied, lost, still_lent, on_lost, on_hangup, connects, connected}
use Rattle.session_spec.specs.Machine.{Base, base_at}
use Rattle.session_spec.specs.Requests.{with_session}
use Rattle.session_spec.specs.Sessions.{Reply, Flight, Lent, later_query, lent_query, Session, absent, fresh, Job, may_ask, HandsOver, JoinsPeer, Weighs, Turned, Refused, Lacks, Answers, Proposes, Lends, Affects}
use Rattle.session_safety.specs.Nodes.{Trail, Standing, Node as Life, started}
use Rattle.session_safety.specs.Life.{Event as Doing, Connect, Hangup, Call, Resume, Done, Apply, Lose, Lead, Serve, Append, Follow, trail_by, job_at, told_at, undue, outcome_later, resumed_by, resumed, read_by, read, called, happens as goes_on, run_from as lives_on, Fits, AllFit}
use Rattle.session_safety.specs.Laws.{life}
use Rattle.session_safety.specs.Lending.{LeavesJob, AllLeaveJob, HasJob, JobsStay}
use Rattle.session_safety.proofs.Files.{base_append, base_take}
use Rattle.session_safety.proofs.Invariant.{NodeOk, free_later}
use Rattle.session_safety.proofs.Lasts.{run_append, fit_parts}
use Rattle.session_safety.proofs.Laters.{later_there}
use Rattle.session_safety.proofs.Lives.{none_is, happens_ok, run_ok, started_ok}

some_none : {A : Type 0} {x : A} {o : Option A} → o ≡ Some x → o ≡ None → ⊥
some_none e n = cc

-- session and trail stay, and the log up to where the query was lent
keeps : (conn : ℕ) (s : Statement) (job : Job) (w v : Life) → v.gate.session conn ≡ w.gate.session conn → (v.trail conn).at ≡ (w.trail conn).at →
    base_at v.log (w.trail conn).at (w.gate.session conn).database ≡ base_at w.log (w.trail conn).at (w.gate.session conn).database → HasJob conn s job w → HasJob conn s job v
keeps conn s job w v session at log h =
    let t = (w.trail conn).at in
    let name = (w.gate.session conn).database in
    let one : job_at v conn s ≡ record { name = name; image = (base_at v.log t name).image; statement = s } =
    ap (λ (z : Session). record { name = z.database; image = (base_at v.log (v.trail conn).at z.database).image; statement = s }) session
    ∙ ap (λ a. record { name = name; image = (base_at v.log a name).image; statement = s }) at in
    let two : record { name = name; image = (base_at v.log t name).image; statement = s } ≡ job_at w conn s = ap (λ (d : Base). record { name = name; image = d.image; statement = s }) log in
    record { later = ap (λ (z : Session). z.later) session ∙ h.later; here = ap (λ (z : Session). z.hung) session ∙ h.here; is = one ∙ two ∙ h.is }

-- what comes of another connection's request
other : (conn c : ℕ) (s : Statement) (job : Job) (w : Life) (t : Turned) → conn ≢ c → (w.trail conn).at ≤ length w.log → HasJob conn s job w → HasJob conn s job (called w c t)
unfolding with_session
other conn c s job w (Refused cause) n low h = keeps conn s job w (called w c (Refused cause)) refl refl refl h
other conn c s job w Lacks n low h = h
other conn c s job w (Answers x reply note) n low h = let e = ne_eqb conn c n in keeps conn s job w (called w c (Answers x reply note)) (cond-false (conn == c) x (w.gate.session conn) e) (ap (λ (t : Trail). t.at) (cond-false (conn == c) _ (w.trail conn) e)) refl h
other conn c s job w (Proposes x contents note) n low h =
    let e = ne_eqb conn c n in
    keeps conn s job w (called w c (Proposes x contents note)) (cond-false (conn == c) x (w.gate.session conn) e) (ap (λ (t : Trail). t.at) (cond-false (conn == c) _ (w.trail conn) e)) (base_append w.log (entries_of w.term contents) (w.trail conn).at (w.gate.session conn).database low) h
other conn c s job w (Lends x lent) n low h = let e = ne_eqb conn c n in keeps conn s job w (called w c (Lends x lent)) (cond-false (conn == c) x (w.gate.session conn) e) (ap (λ (t : Trail). t.at) (cond-false (conn == c) _ (w.trail conn) e)) refl h
other conn c s job w (Affects (HandsOver id)) n low h = keeps conn s job w (called w c (Affects (HandsOver id))) refl refl refl h
other conn c s job w (Affects (JoinsPeer id)) n low h = keeps conn s job w (called w c (Affects (JoinsPeer id))) refl refl refl h
other conn c s job w (Affects (Weighs weight)) n low h = keeps conn s job w (called w c (Affects (Weighs weight))) refl refl refl h

undue_other : (conn c : ℕ) (s : Statement) (job : Job) (w : Life) → conn ≢ c → HasJob conn s job w → HasJob conn s job (undue w c)
unfolding with_session
undue_other conn c s job w n h = keeps conn s job w (undue w c) (cond-false (conn == c) _ (w.gate.session conn) (ne_eqb conn c n)) refl refl h

resumed_other : (conn c : ℕ) (s : Statement) (job : Job) (w : Life) (t : Turned) → conn ≢ c → (w.trail conn).at ≤ length w.log → HasJob conn s job w → HasJob conn s job (resumed_by w c t)
resumed_other conn c s job w (Refused cause) n low h = other conn c s job (undue w c) (Refused cause) n low (undue_other conn c s job w n h)
resumed_other conn c s job w Lacks n low h = h
resumed_other conn c s job w (Answers x reply note) n low h = other conn c s job (undue w c) (Answers x reply note) n low (undue_other conn c s job w n h)
resumed_other conn c s job w (Proposes x contents note) n low h = other conn c s job (undue w c) (Proposes x contents note) n low (undue_other conn c s job w n h)
resumed_other conn c s job w (Lends x lent) n low h = other conn c s job (undue w c) (Lends x lent) n low (undue_other conn c s job w n h)
resumed_other conn c s job w (Affects effect) n low h = other conn c s job (undue w c) (Affects effect) n low (undue_other conn c s job w n h)

resume_other : (conn c : ℕ) (s : Statement) (job : Job) (w : Life) (standing : Standing) (answers : List Answer) (o : Option Statement) → conn ≢ c → (w.trail conn).at ≤ length w.log → HasJob conn s job w → HasJob conn s job (resumed w c standing answers o)
resume_other conn c s job w standing answers None n low h = h
resume_other conn c s job w standing answers (Some x) n low h = resumed_other conn c s job w (outcome_later w c standing x answers) n low h

told_other : (conn c : ℕ) (s x : Statement) (job : Job) (w : Life) (o : Option Reply) → conn ≢ c → HasJob conn s job w → HasJob conn s job (read_by w c x o)
unfolding with_session
told_other conn c s x job w None n h = h
told_other conn c s x job w (Some reply) n h = let e = ne_eqb conn c n in keeps conn s job w (read_by w c x (Some reply)) (cond-false (conn == c) _ (w.gate.session conn) e) (ap (λ (t : Trail). t.at) (cond-false (conn == c) _ (w.trail conn) e)) refl h

read_other : (conn c : ℕ) (s : Statement) (job : Job) (w : Life) (answers : List Answer) (o : Option Statement) → conn ≢ c → HasJob conn s job w → HasJob conn s job (read w c answers o)
read_other conn c s job w answers None n h = h
read_other conn c s job w answers (Some x) n h = told_other conn c s x job w (told_at w c x answers) n h

call_job : (conn c : ℕ) (s : Statement) (job : Job) (w : Life) (standing : Standing) (r : _) (answers : List Answer) → (w.trail conn).at ≤ length w.log → HasJob conn s job w → HasJob conn s job (goes_on w (Call c standing r answers))
unfolding goes_on may_ask
call_job conn c s job w standing r answers low h =
    let x = w.gate.session c in
    cond_both (x.there && not x.hung && is_none x.flight && is_none x.later) _ w (HasJob conn s job)
    (λ e. other conn c s job w _ (λ z. some_none h.later (subst (λ d. (w.gate.session d).later ≡ None) (sym z) (none_is x.later (and_parts _ _ e).1))) low h)
    (λ e. h)

-- nothing of it is pending
settles : (i : ℕ) (x : Session) (o : Option Flight) → o ≡ None → settled_by i x o ≡ x
settles i x None e = refl
settles i x (Some f) e = absurd cc

trails : (i : ℕ) (t : Trail) (o : Option Flight) → o ≡ None → trail_by i t o ≡ t
trails i t None e = refl
trails i t (Some f) e = absurd cc

-- if leadership is lost the reader continues
lost_job : (x : Session) (s : Statement) → x.later ≡ Some (Lent s) → x.hung ≡ false → ((lost x).later ≡ Some (Lent s)) × ((lost x).hung ≡ false) × ((lost x).database ≡ x.database)
lost_job x s l here = cond_both x.hung absent _ (λ (z : Session). (z.later ≡ Some (Lent s)) × (z.hung ≡ false) × (z.database ≡ x.database)) (λ e. absurd (true≢false (sym e ∙ here))) (λ e. (ap still_lent l, here, refl))

was_not : (b : Bool) → not b ≡ true → b ≡ false
was_not true e = absurd (true≢false (sym e))
was_not false e = refl

not_there : (w : Life) (conn c : ℕ) → connects w.gate c ≡ true → conn ≡ c → (w.gate.session conn).there ≡ false
unfolding connects
not_there w conn c e z = subst (λ d. (w.gate.session d).there ≡ false) (sym z) (was_not (w.gate.session c).there (and_parts _ _ e).0)

module _ (mean : Meaning) (kind : EngineKind) where
  job_step : (conn : ℕ) (s : Statement) (job : Job) (w : Life) (e : Doing) → NodeOk mean w → Fits mean kind w e → LeavesJob conn e → HasJob conn s job w → HasJob conn s job (goes_on w e)
  unfolding goes_on connected on_hangup on_applied on_lost tidy
  job_step conn s job w (Connect c) ok f l h =
      let there = later_there mean w conn s (ap later_query h.later) ok in
      cond_both (connects w.gate c) _ w (HasJob conn s job)
      (λ e.
      let n : conn ≢ c = λ z. true≢false (sym there ∙ not_there w conn c e z) in
      let b = ne_eqb conn c n in
      keeps conn s job w _ (cond-false (conn == c) fresh (w.gate.session conn) b) (ap (λ (t : Trail). t.at) (cond-false (conn == c) _ (w.trail conn) b)) refl h)
      (λ e. h)
  job_step conn s job w (Hangup c) ok f l h = keeps conn s job w (goes_on w (Hangup c)) (cond-false (conn == c) _ (w.gate.session conn) (ne_eqb conn c l)) refl refl h
  job_step conn s job w (Call c standing r answers) ok f l h = let at = (ok.sessions conn).at in let low = ok.applied in call_job conn c s job w standing r answers (omega arith) h
  job_step conn s job w (Resume c standing answers) ok f l h = let at = (ok.sessions conn).at in let low = ok.applied in resume_other conn c s job w standing answers (later_query (w.gate.session c).later) l (omega arith) h
  job_step conn s job w (Done c answers) ok f l h = read_other conn c s job w answers (lent_query (w.gate.session c).later) l h
  job_step conn s job w Apply ok f l h =
      let x = w.gate.session conn in
      let none = free_later (w.trail conn).seen (w.trail conn).at x.later x.flight s (ap later_query h.later) (ok.sessions conn).free in
      keeps conn s job w (goes_on w Apply) (settles (suc w.applied) x x.flight none) (ap (λ (t : Trail). t.at) (trails (suc w.applied) (w.trail conn) x.flight none)) refl h
  job_step conn s job w (Lose t) ok f l h =
      let x = w.gate.session conn in
      let y = lost_job x s h.later h.here in
      record { later = y.0; here = y.1; is = ap (λ name. record { name = name; image = (base_at w.log (w.trail conn).at name).image; statement = s }) y.2 ∙ h.is }
  job_step conn s job w (Lead t) ok f l h = keeps conn s job w (goes_on w (Lead t)) refl refl refl h
  job_step conn s job w Serve ok f l h = keeps conn s job w (goes_on w Serve) refl refl refl h
  job_step conn s job w (Append contents) ok f l h =
      let at = (ok.sessions conn).at in
      let low = ok.applied in
      keeps conn s job w (goes_on w (Append contents)) refl refl (base_append w.log (entries_of w.term contents) (w.trail conn).at (w.gate.session conn).database (omega arith)) h
  job_step conn s job w (Follow es) ok f l h =
      let at = (ok.sessions conn).at in
      let low = ok.applied in
      let t = (w.trail conn).at in
      let name = (w.gate.session conn).database in
      let front = take w.applied w.log in
      keeps conn s job w (goes_on w (Follow es)) refl refl (base_append front es t name (omega (arith, length-take-le w.applied w.log low)) ∙ base_take w.log t w.applied name at) h

  -- over all that happens
  pub jobs_stay : (conn : ℕ) (s : Statement) (job : Job) (w : Life) (es : List Doing) → NodeOk mean w → AllFit mean kind w es → AllLeaveJob conn es → HasJob conn s job w → HasJob conn s job (lives_on w es)
  jobs_stay conn s job w [] ok f l h = h
  jobs_stay conn s job w (e ∷ es) ok f l h = jobs_stay conn s job (goes_on w e) es (happens_ok mean kind w e f.0 ok) f.1 l.1 (job_step conn s job w e ok f.0 l.0 h)

  pub jobs_stay_hold : JobsStay mean kind
  jobs_stay_hold log applied term es fs conn s job from h l has =
      let w = started log applied term in
      let p = fit_parts mean kind w es fs h in
      subst (HasJob conn s job) (sym (run_append w es fs))
      (jobs_stay conn s job (life log applied term es) fs (run_ok mean kind w es p.0 (started_ok mean kind log applied term from.within from.woven)) p.1 l has)
