-- A node without readers, whose clients ask for no barriers, has no query that is answered later than it was asked.
use Rattle.std.proofs.Common.{◌≡◌, ℕ, Bool, true, false, true≢false, cond, List, [], ◌∷◌, refl, sym, ap, ◌∙◌, subst, ⊎_elim}
use Rattle.std.specs.Prelude.{◌==◌, ◌&&◌, ◌||◌, not, is_none, Option, Some, None}
use Rattle.std.proofs.lemmas.Bool.{cond_both, cases_Bool}
use Rattle.dq_base.specs.Changes.{changed}
use Rattle.database_state.specs.Files.{empty_image}
use Rattle.sql_engine.specs.Replies.{Statement}
use Rattle.wire_msgs.specs.declared.request.Request.{Request}
use Rattle.session_spec.specs.Allowed.{IsAllowed}
use Rattle.session_spec.specs.Asking.{Asked, Never, Tells, Sets, Opens, Creates, Prepares, Drops, Forgets, Begins, Commits, RollsBack, Changes, Runs, Reads, fits_one_voter, asked}
use Rattle.session_spec.specs.Causes.{Cause}
use Rattle.session_spec.specs.Engines.{Answer, no_pages, Ending, Lacking, TooLarge, Stopped, Ended}
use Rattle.session_spec.specs.Events.{landed, settled_by, left}
use Rattle.session_spec.specs.Limits.{other_holds, pages_full, log_full}
use Rattle.session_spec.specs.Machine.{Machine}
use Rattle.session_spec.specs.Requests.{unless, outside_write, outside, inside, run_in, has_nothing, committed, commit_in, does, on_request}
use Rattle.session_spec.specs.Sessions.{Kind, Opening, Configuring, Writing, Committing, Querying, Flight, Later, Transaction, Session, Gateway, View, absent, fresh, is_busy, Turned, Refused, Lacks, Answers, Proposes, Lends, Affects}
use Rattle.session_spec.proofs.Asked.{all_allowed}
use Rattle.session_safety.proofs.Answers.{is_query}
use Rattle.session_safety.proofs.Ways.{read_in_both, reads_both}

-- no barrier is pending
abbrev pub NoBarrier : Option Flight → Type 0
NoBarrier None = Unit {0}
NoBarrier (Some f) = is_query f.kind ≡ false

-- no query of the session is answered later
pub record Plain (s : Session) : Type 0 where
  pub barriers : s.barriers ≡ false
  pub later : s.later ≡ None
  pub flown : NoBarrier s.flight

abbrev pub TurnedPlain : Turned → Type 0
TurnedPlain (Refused cause) = Unit {0}
TurnedPlain Lacks = Unit {0}
TurnedPlain (Answers s reply note) = Plain s
TurnedPlain (Proposes s contents note) = Plain s
TurnedPlain (Lends s job) = ⊥
TurnedPlain (Affects effect) = Unit {0}

unless_plain : (o : Option Cause) (t : Turned) → TurnedPlain t → TurnedPlain (unless o t)
unless_plain None t h = h
unless_plain (Some cause) t h = tt

is_off : (b : Bool) (r : Request) → fits_one_voter r ≡ true → (b ≡ true → fits_one_voter r ≡ false) → b ≡ false
is_off b r fits h = ⊎_elim (λ (e : b ≡ true). absurd (true≢false (sym fits ∙ h e))) (λ (e : b ≡ false). e) (cases_Bool b)

module _ (v : View) (m : Machine) (g : Gateway) (c : ℕ) (s : Session) (p : Plain s) where
  outside_plain : (ss : List Statement) (rows : Bool) (end : Ending) → TurnedPlain (outside v m g c s ss rows end)
  unfolding outside outside_write
  outside_plain ss rows Lacking = tt
  outside_plain ss rows (TooLarge answer) = unless_plain _ (Refused _) tt
  outside_plain ss rows (Stopped fault) = tt
  outside_plain ss rows (Ended to answer) =
      cond_both (no_pages (changed (m.base s.database).image to)) _ _ TurnedPlain
      (λ e. unless_plain _ (Answers s _ _) p)
      (λ e. unless_plain _ (Proposes _ _ _) (record { barriers = p.barriers; later = p.later; flown = refl }))

  inside_plain : (x : Transaction) (ss : List Statement) (rows : Bool) (end : Ending) → TurnedPlain (inside m g c s x ss rows end)
  unfolding inside
  inside_plain x ss rows Lacking = tt
  inside_plain x ss rows (TooLarge answer) = unless_plain _ (Refused _) tt
  inside_plain x ss rows (Stopped fault) = tt
  inside_plain x ss rows (Ended to answer) =
      cond_both (no_pages (changed x.working to)) _ _ TurnedPlain
      (λ e. unless_plain _ (Answers _ _ _) (record { barriers = p.barriers; later = p.later; flown = p.flown }))
      (λ e. unless_plain _ (Answers _ _ _) (record { barriers = p.barriers; later = p.later; flown = p.flown }))

  run_plain : (o : Option Transaction) (ss : List Statement) (rows : Bool) (answers : List Answer) → TurnedPlain (run_in v m g c s o ss rows answers)
  run_plain None ss rows answers = outside_plain ss rows _
  run_plain (Some x) ss rows answers = inside_plain x ss rows _

  commit_plain : (o : Option Transaction) → TurnedPlain (commit_in v m g c s o)
  unfolding committed
  commit_plain None = tt
  commit_plain (Some x) =
      cond_both (has_nothing x) _ _ TurnedPlain
      (λ e. record { barriers = p.barriers; later = p.later; flown = p.flown })
      (λ e. unless_plain _ (Proposes _ _ _) (record { barriers = p.barriers; later = p.later; flown = refl }))

  does_plain : (r : Request) (x : Asked) (answers : List Answer) → fits_one_voter r ≡ true → v.readers ≡ false → IsAllowed v g s r x → TurnedPlain (does v m g c s x answers)
  unfolding does
  does_plain r (Never cause) answers fits off h = tt
  does_plain r (Tells response) answers fits off h = p
  does_plain r (Sets effect) answers fits off h = tt
  does_plain r (Opens name barriers) answers fits off h = record { barriers = is_off barriers r fits h.1; later = p.later; flown = tt }
  does_plain r (Creates name barriers) answers fits off h = cond_both (pages_full m g name empty_image) _ _ TurnedPlain (λ e. tt) (λ e. record { barriers = is_off barriers r fits h.2; later = p.later; flown = refl })
  does_plain r (Prepares q tail) answers fits off h = record { barriers = p.barriers; later = p.later; flown = p.flown }
  does_plain r (Drops id) answers fits off h = record { barriers = p.barriers; later = p.later; flown = p.flown }
  does_plain r (Forgets response) answers fits off h = record { barriers = p.barriers; later = p.later; flown = p.flown }
  does_plain r (Begins at_once) answers fits off h = cond_both (at_once && other_holds g c s.database) _ _ TurnedPlain (λ e. tt) (λ e. record { barriers = p.barriers; later = p.later; flown = p.flown })
  does_plain r Commits answers fits off h = commit_plain s.tx
  does_plain r RollsBack answers fits off h = record { barriers = p.barriers; later = p.later; flown = p.flown }
  does_plain r (Changes servers short) answers fits off h = cond_both (log_full v) _ _ TurnedPlain (λ e. tt) (λ e. record { barriers = p.barriers; later = p.later; flown = refl })
  does_plain r (Runs ss) answers fits off h = run_plain s.tx ss false answers
  does_plain r (Reads st) answers fits off h = reads_both TurnedPlain v m g c s st answers
      (λ e. absurd (true≢false (sym e ∙ ap (λ b. b && is_none s.tx) p.barriers)))
      (λ e. read_in_both TurnedPlain v m g c s st s.tx answers (λ o q. absurd (true≢false (sym q ∙ off))) (run_plain s.tx (st ∷ []) true answers))

pub request_plain : (v : View) (m : Machine) (g : Gateway) (c : ℕ) (r : Request) (answers : List Answer) → Plain (g.session c) → fits_one_voter r ≡ true → v.readers ≡ false → TurnedPlain (on_request v m g c r answers)
unfolding on_request
request_plain v m g c r answers p fits off = does_plain v m g c (g.session c) p r (asked v m g c r) answers fits off (all_allowed v m g c (g.session c) r)

-- ---- what happens to a session

pub absent_plain : Plain absent
absent_plain = record { barriers = refl; later = refl; flown = tt }

pub fresh_plain : Plain fresh
fresh_plain = record { barriers = refl; later = refl; flown = tt }

landed_plain : (s : Session) (f : Flight) (k : Kind) → is_query k ≡ false → Plain s → Plain (landed s f k)
landed_plain s f Opening q p = record { barriers = p.barriers; later = p.later; flown = tt }
landed_plain s f (Configuring short) q p = record { barriers = p.barriers; later = p.later; flown = tt }
landed_plain s f (Writing reply) q p = record { barriers = p.barriers; later = p.later; flown = tt }
landed_plain s f Committing q p = record { barriers = p.barriers; later = p.later; flown = tt }
landed_plain s f (Querying statement) q p = absurd (true≢false q)

pub settled_plain : (i : ℕ) (s : Session) (o : Option Flight) → s.flight ≡ o → Plain s → Plain (settled_by i s o)
settled_plain i s None e p = p
settled_plain i s (Some f) e p =
    cond_both (f.last == i) (cond s.hung absent (landed s f f.kind)) s Plain
    (λ z. cond_both s.hung absent (landed s f f.kind) Plain (λ h. absent_plain) (λ h. landed_plain s f f.kind (subst NoBarrier e p.flown) p))
    (λ z. p)

pub left_plain : (s : Session) (o : Option Flight) → Plain s → Plain (left s o)
left_plain s None p = absent_plain
left_plain s (Some f) p = record { barriers = p.barriers; later = p.later; flown = p.flown }

pub not_busy : (s : Session) → s.flight ≡ None → s.later ≡ None → is_busy s ≡ false
not_busy s f l = ap (λ (o : Option Flight). not (is_none o) || not (is_none s.later)) f ∙ ap (λ (d : Option Later). not (is_none d)) l
