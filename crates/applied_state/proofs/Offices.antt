-- What a leader owes fits its life, and leaves it in the leadership after it.
use Rattle.std.proofs.Common.{◌≡◌, ℕ, suc, ◌+◌, ◌≤◌, arith, Bool, true, false, true≢false, cond, List, [], ◌∷◌, ◌++◌, length, take, Option, Some, None, refl, sym, ap, subst, ◌∙◌, append-nil, length-append}
use Rattle.std.specs.Prelude.{◌==◌}
use Rattle.std.proofs.lemmas.Bool.{eqb-true}
use Rattle.std.proofs.lemmas.List.{take_all}
use Rattle.dq_base.specs.declared.pages.PageSet.{PageSet}
use Rattle.database_state.specs.declared.database.Database.{Database}
use Rattle.sql_engine.specs.declared.kind.EngineKind.{EngineKind}
use Rattle.sql_engine.specs.Meanings.{Meaning}
use Rattle.log_commands.specs.declared.command.Command.TheVariants.{Checkpoint}
use Rattle.session_spec.specs.Entries.{Content, Does, Entry, entries_of}
use Rattle.sql_engine.specs.Replies.{Statement}
use Rattle.session_spec.specs.Engines.{Answer}
use Rattle.session_spec.specs.Machine.{Machine, machine_of, files, base_at}
use Rattle.session_spec.specs.Sessions.{Reply, Turned, later_query, lent_query}
use Rattle.session_spec.specs.Restarts.{restarted}
use Rattle.session_safety.specs.Logs.{with_undo, undos_for, undos}
use Rattle.session_safety.specs.Nodes.{Node as Life, databases, Standing, view_of}
use Rattle.session_spec.specs.Events.{connects}
use Rattle.session_safety.specs.Life.{Event, Connect, Hangup, Call, Resume, Done, Apply, Lose, Lead, Serve, Append, Follow, ArePlain, AllFit, joined, undue, resumed_by, resumed, told_at, read_by, read, happens, run_from}
use Rattle.session_safety.proofs.Alones.{Same, call_same, call_log, resumed_same, read_same}
use Rattle.session_safety.proofs.Ways.{later_both}
use Rattle.session_safety.proofs.Undos.{undos_clear_hold}
use Rattle.applied_state.specs.declared.effect.AppliedEffect.{AppliedEffect}
use Rattle.applied_state.specs.declared.effect.AppliedEffect.TheVariants as effect
use Rattle.applied_state.specs.declared.leadership.LeadershipPhase.{LeadershipPhase}
use Rattle.applied_state.specs.declared.leadership.LeadershipPhase.TheVariants.{Barrier, Undos, Serving}
use Rattle.applied_state.specs.Applied.{ShowsFiles}
use Rattle.applied_state.specs.Laws.{GoesOn, OfficesGoOn, OfficesStay}
use Rattle.applied_state.specs.Office.{checkpoint_behind, past_barrier, appends, begins, EndsWithUndos, IsPhase, InOffice}

-- ---- Undos

-- they are the same whatever the counts are
undos_again : (lacks since : List ℕ → ℕ) (m : Machine) → undos (restarted lacks since m) ≡ undos m
unfolding undos
undos_again lacks since m = go m.names
  where
    go : (names : List (List ℕ)) → undos_for (restarted lacks since m) names ≡ undos_for m names
    go [] = refl
    go (n ∷ names) = ap (with_undo (m.base n).pending) (go names)

plain_with : (serving : Bool) (o : Option PageSet) (contents : List Content) → serving ≡ false → ArePlain serving contents → ArePlain serving (with_undo o contents)
plain_with serving None contents idle plain = plain
plain_with serving (Some set) contents idle plain = (idle, plain)

undos_plain : (serving : Bool) (m : Machine) → serving ≡ false → ArePlain serving (undos m)
unfolding undos
undos_plain serving m idle = go m.names
  where
    go : (names : List (List ℕ)) → ArePlain serving (undos_for m names)
    go [] = tt
    go (n ∷ names) = plain_with serving (m.base n).pending (undos_for m names) idle (go names)

as_many : (term : ℕ) (contents : List Content) → length (entries_of term contents) ≡ length contents
as_many term [] = refl
as_many term (c ∷ cs) = ap suc (as_many term cs)

-- after them nothing is pending
none_pending : (log : List Entry) (term applied : ℕ) → EndsWithUndos log term → applied ≡ length log → (name : List ℕ) → (base_at log applied name).pending ≡ None
none_pending log term applied ends all name =
    let whole : take applied log ≡ log = ap (λ (n : ℕ). take n log) all ∙ take_all (length log) log (leq_refl (length log)) in
    ap (λ (es : List Entry). ((files es).base name).pending) (whole ∙ ends.is) ∙ undos_clear_hold ends.front term name
  where
    leq_refl : (n : ℕ) → n ≤ n
    leq_refl n = omega arith

-- ---- what a leader owes

-- The events fit, and leave the life in a leadership of this phase.
record Leads (m : Meaning) (kind : EngineKind) (term : ℕ) (w : Life) (events : List Event) (phase : LeadershipPhase) : Type 0 where
  pub fits : AllFit m kind w events
  pub holds : InOffice (record { term = term; phase = phase }) (run_from w events)

module _ (m : Meaning) (kind : EngineKind) (term : ℕ) (w : Life) (lacks since : List ℕ → ℕ) (machine : List Database) (is : databases w ≡ restarted lacks since (machine_of machine)) where
  -- the Undos of a life that has applied its whole log
  all_undos : w.applied ≡ length w.log → undos (files w.log) ≡ undos (machine_of machine)
  all_undos all =
      let whole : take w.applied w.log ≡ w.log = ap (λ (n : ℕ). take n w.log) all ∙ take_all (length w.log) w.log (omega arith) in
      ap (λ (es : List Entry). undos (files es)) (sym whole) ∙ ap undos is ∙ undos_again lacks since (machine_of machine)

  at_barrier : (barrier : ℕ) (b : Bool) (us : List Content) → (b ≡ true → w.applied ≡ barrier) → undos (machine_of machine) ≡ us → InOffice (record { term = term; phase = Barrier barrier }) w
      → Leads m kind term w (appends (cond b us []) ++ begins (Barrier barrier) (cond b (past_barrier w.applied us) (Barrier barrier))) (cond b (past_barrier w.applied us) (Barrier barrier))
  unfolding happens
  at_barrier barrier false us here are h = record { fits = tt; holds = h }
  at_barrier barrier true [] here are h =
      let all : w.applied ≡ length w.log = here refl ∙ sym h.2.1 in
      let ends : EndsWithUndos w.log w.term = record { front = w.log; is = sym (append-nil w.log) ∙ ap (λ (us : List Content). w.log ++ entries_of w.term us) (sym (all_undos all ∙ are)) } in
      record { fits = ((h.0, all, none_pending w.log w.term w.applied ends all), tt); holds = (h.0, h.1, refl) }
  at_barrier barrier true (u ∷ us) here are h =
      let all : w.applied ≡ length w.log = here refl ∙ sym h.2.1 in
      let plain : ArePlain w.serving (u ∷ us) = subst (ArePlain w.serving) are (undos_plain w.serving (machine_of machine) h.2.0) in
      let more : length (w.log ++ entries_of w.term (u ∷ us)) ≡ w.applied + length (u ∷ us) = length-append w.log (entries_of w.term (u ∷ us)) ∙ ap (λ (n : ℕ). n + length (entries_of w.term (u ∷ us))) (sym all) ∙ ap (λ (n : ℕ). w.applied + n) (as_many w.term (u ∷ us)) in
      let ends : EndsWithUndos (w.log ++ entries_of w.term (u ∷ us)) w.term = record { front = w.log; is = ap (λ (vs : List Content). w.log ++ entries_of w.term vs) (sym (all_undos all ∙ are)) } in
      record { fits = ((h.0, plain), tt); holds = (h.0, h.1, (h.2.0, more, ends)) }

  at_undos : (last : ℕ) (b : Bool) → (b ≡ true → w.applied ≡ last) → InOffice (record { term = term; phase = Undos last }) w
      → Leads m kind term w (begins (Undos last) (cond b Serving (Undos last))) (cond b Serving (Undos last))
  unfolding happens
  at_undos last false here h = record { fits = tt; holds = h }
  at_undos last true here h =
      let all : w.applied ≡ length w.log = here refl ∙ sym h.2.1 in
      record { fits = ((h.0, all, none_pending w.log w.term w.applied h.2.2 all), tt); holds = (h.0, h.1, refl) }

  at_commit : (contents : List Content) → ArePlain w.serving contents → InOffice (record { term = term; phase = Serving }) w → Leads m kind term w (appends contents ++ []) Serving
  unfolding happens
  at_commit [] plain h = record { fits = tt; holds = h }
  at_commit (c ∷ cs) plain h = record { fits = ((h.0, plain), tt); holds = h }

due_plain : (serving : Bool) (m : Machine) (what : AppliedEffect) (waiting : List Entry) → ArePlain serving (checkpoint_behind m what waiting)
due_plain serving m (effect.Committed name) waiting = by _
  where
    by : (b : Bool) → ArePlain serving (cond b (Does (Checkpoint name) ∷ []) [])
    by true = (tt, tt)
    by false = tt
due_plain serving m effect.Configured waiting = tt
due_plain serving m effect.Other waiting = tt

goes_on : (m : Meaning) (kind : EngineKind) (term : ℕ) (phase : LeadershipPhase) (w : Life) (lacks : List ℕ → ℕ) (machine : List Database) (what : AppliedEffect) (waiting : List Entry) → InOffice (record { term = term; phase = phase }) w
    → ShowsFiles lacks (databases w) machine → GoesOn m kind (record { term = term; phase = phase }) w machine what waiting
goes_on m kind term (Barrier barrier) w lacks machine what waiting h shows =
    let l = at_barrier m kind term w lacks shows.0 machine shows.1 barrier (w.applied == barrier) (undos (machine_of machine)) (λ e. eqb-true w.applied barrier e) refl h in
    record { fits = l.fits; holds = l.holds }
goes_on m kind term (Undos last) w lacks machine what waiting h shows =
    let l = at_undos m kind term w lacks shows.0 machine shows.1 last (w.applied == last) (λ e. eqb-true w.applied last e) h in
    record { fits = l.fits; holds = l.holds }
goes_on m kind term Serving w lacks machine what waiting h shows =
    let l = at_commit m kind term w lacks shows.0 machine shows.1 (checkpoint_behind (machine_of machine) what waiting) (due_plain w.serving (machine_of machine) what waiting) h in
    record { fits = l.fits; holds = l.holds }

pub offices_go_on_hold : (m : Meaning) (kind : EngineKind) → OfficesGoOn m kind
offices_go_on_hold m kind office w lacks machine what waiting h shows = goes_on m kind office.term office.phase w lacks machine what waiting h shows

-- ---- what leaves the leadership as it is

-- the log of a leader that doesn't serve stays, and so does all that the leadership looks at
stays : (phase : LeadershipPhase) (w v : Life) → Same w v → (w.serving ≡ false → v.log ≡ w.log) → IsPhase phase w.serving w.log w.term → IsPhase phase v.serving v.log v.term
stays (Barrier barrier) w v same log h = (same.serving ∙ h.0, ap length (log h.0) ∙ h.1)
stays (Undos last) w v same log h =
    (same.serving ∙ h.0, ap length (log h.0) ∙ h.1, record { front = h.2.front; is = log h.0 ∙ h.2.is ∙ ap (λ (t : ℕ). h.2.front ++ entries_of t (undos (files h.2.front))) (sym same.term) })
stays Serving w v same log h = same.serving ∙ h

-- a query that is run later appends nothing if the node doesn't serve, and a reader never does
resumed_log : (w : Life) (conn : ℕ) (standing : Standing) (answers : List Answer) (o : Option Statement) → w.serving ≡ false → (resumed w conn standing answers o).log ≡ w.log
resumed_log w conn standing answers None off = refl
resumed_log w conn standing answers (Some statement) off =
    later_both (λ (t : Turned). (resumed_by w conn t).log ≡ w.log) (view_of w standing) (databases w) (undue w conn).gate conn statement answers refl (λ on. absurd (true≢false (sym on ∙ off)))

read_log : (w : Life) (conn : ℕ) (answers : List Answer) (o : Option Statement) → (read w conn answers o).log ≡ w.log
read_log w conn answers None = refl
read_log w conn answers (Some statement) = told (told_at w conn statement answers)
  where
    told : (reply : Option Reply) → (read_by w conn statement reply).log ≡ w.log
    told None = refl
    told (Some reply) = refl

pub offices_stay_hold : OfficesStay
unfolding happens
offices_stay_hold office w (Connect conn) own h = stay_if (connects w.gate conn)
  where
    stay_if : (b : Bool) → InOffice office (cond b (joined w conn) w)
    stay_if true = h
    stay_if false = h
offices_stay_hold office w (Hangup conn) own h = h
offices_stay_hold office w (Call conn standing request answers) own h =
    let same = call_same w conn standing request answers in
    (same.leads ∙ h.0, same.term ∙ h.1, stays office.phase w (happens w (Call conn standing request answers)) same (λ off. call_log w conn standing request answers off) h.2)
offices_stay_hold office w (Resume conn standing answers) own h =
    let o = later_query (w.gate.session conn).later in
    let same = resumed_same w conn standing answers o in
    (same.leads ∙ h.0, same.term ∙ h.1, stays office.phase w (resumed w conn standing answers o) same (resumed_log w conn standing answers o) h.2)
offices_stay_hold office w (Done conn answers) own h =
    let o = lent_query (w.gate.session conn).later in
    let same = read_same w conn answers o in
    (same.leads ∙ h.0, same.term ∙ h.1, stays office.phase w (read w conn answers o) same (λ off. read_log w conn answers o) h.2)
offices_stay_hold office w Apply own h = h
offices_stay_hold office w (Lose term) own h = absurd own
offices_stay_hold office w (Lead term) own h = absurd own
offices_stay_hold office w Serve own h = absurd own
offices_stay_hold office w (Append contents) own h = absurd own
offices_stay_hold office w (Follow entries) own h = absurd own
