-- What a request puts pending comes after the log's end.
use Rattle.std.proofs.Common.{◌≡◌, ℕ, ◌+◌, ◌<◌, Bool, true, false, List, [], ◌∷◌, length, refl, arith}
use Rattle.std.specs.Prelude.{◌&&◌, Option, Some, None}
use Rattle.std.proofs.lemmas.Bool.{cond_both}
use Rattle.dq_base.specs.declared.pages.NumberedPage.{NumberedPage}
use Rattle.dq_base.specs.Changes.{changed}
use Rattle.log_commands.specs.Splitting.{before_last}
use Rattle.database_state.specs.Files.{empty_image}
use Rattle.sql_engine.specs.Replies.{Statement}
use Rattle.wire_msgs.specs.declared.request.Request.{Request}
use Rattle.session_spec.specs.Asking.{Asked, Never, Tells, Sets, Opens, Creates, Prepares, Drops, Forgets, Begins, Commits, RollsBack, Changes, Runs, Reads, asked}
use Rattle.session_spec.specs.Causes.{Cause}
use Rattle.session_spec.specs.Engines.{Answer, no_pages, Ending, Lacking, TooLarge, Stopped, Ended}
use Rattle.session_spec.specs.Limits.{other_holds, pages_full, log_full}
use Rattle.session_spec.specs.Machine.{Machine}
use Rattle.session_spec.specs.Requests.{unless, change_of, outside_write, outside, inside, run_in, has_nothing, committed, commit_in, does, on_request, on_later}
use Rattle.session_spec.specs.Sessions.{Flight, Lent, Transaction, Session, Gateway, View, Turned, Refused, Lacks, Answers, Proposes, Lends, Affects}
use Rattle.session_safety.proofs.Files.{split_some}
use Rattle.session_safety.proofs.Ways.{read_in_both, barrier_both, reads_both, later_both}

-- an answer leaves nothing pending and nothing to be answered, a proposal ends after the log, and a query that is lent is yet to
-- be answered
abbrev pub FlightNext : ℕ → Turned → Type 0
FlightNext last (Refused cause) = Unit {0}
FlightNext last Lacks = Unit {0}
FlightNext last (Answers s reply note) = (s.flight ≡ None) × (s.later ≡ None)
FlightNext last (Proposes s contents note) = (f : Flight) × (s.flight ≡ Some f) × (last < f.last) × (s.later ≡ None)
FlightNext last (Lends s job) = (s.flight ≡ None) × (s.later ≡ Some (Lent job.statement))
FlightNext last (Affects effect) = Unit {0}

unless_next : (last : ℕ) (o : Option Cause) (t : Turned) → FlightNext last t → FlightNext last (unless o t)
unless_next last None t h = h
unless_next last (Some cause) t h = tt

change_some : (v : View) (name : List ℕ) (pages : List NumberedPage) → v.last < v.last + length (change_of v name pages)
change_some v name pages = let some : 0 < length (change_of v name pages) = split_some name _ (before_last pages) pages in omega arith

module _ (v : View) (m : Machine) (g : Gateway) (c : ℕ) (s : Session) (free : s.flight ≡ None) (rest : s.later ≡ None) where
  outside_next : (ss : List Statement) (rows : Bool) (end : Ending) → FlightNext v.last (outside v m g c s ss rows end)
  unfolding outside outside_write
  outside_next ss rows Lacking = tt
  outside_next ss rows (TooLarge answer) = unless_next v.last _ (Refused _) tt
  outside_next ss rows (Stopped fault) = tt
  outside_next ss rows (Ended to answer) =
      cond_both (no_pages (changed (m.base s.database).image to)) _ _ (FlightNext v.last)
      (λ e. unless_next v.last _ (Answers s _ _) (free, rest))
      (λ e. unless_next v.last _ (Proposes _ _ _) (_, refl, change_some v s.database (changed (m.base s.database).image to), rest))

  inside_next : (x : Transaction) (ss : List Statement) (rows : Bool) (end : Ending) → FlightNext v.last (inside m g c s x ss rows end)
  unfolding inside
  inside_next x ss rows Lacking = tt
  inside_next x ss rows (TooLarge answer) = unless_next v.last _ (Refused _) tt
  inside_next x ss rows (Stopped fault) = tt
  inside_next x ss rows (Ended to answer) =
      cond_both (no_pages (changed x.working to)) _ _ (FlightNext v.last)
      (λ e. unless_next v.last _ (Answers _ _ _) (free, rest))
      (λ e. unless_next v.last _ (Answers _ _ _) (free, rest))

  pub run_next : (o : Option Transaction) (ss : List Statement) (rows : Bool) (answers : List Answer) → FlightNext v.last (run_in v m g c s o ss rows answers)
  run_next None ss rows answers = outside_next ss rows _
  run_next (Some x) ss rows answers = inside_next x ss rows _

  commit_next : (o : Option Transaction) → FlightNext v.last (commit_in v m g c s o)
  unfolding committed
  commit_next None = tt
  commit_next (Some x) =
      cond_both (has_nothing x) _ _ (FlightNext v.last)
      (λ e. (free, rest))
      (λ e. unless_next v.last _ (Proposes _ _ _) (_, refl, change_some v x.name (changed x.pinned x.working), rest))

  pub does_next : (x : Asked) (answers : List Answer) → FlightNext v.last (does v m g c s x answers)
  unfolding does
  does_next (Never cause) answers = tt
  does_next (Tells response) answers = (free, rest)
  does_next (Sets effect) answers = tt
  does_next (Opens name barriers) answers = (refl, rest)
  does_next (Creates name barriers) answers = cond_both (pages_full m g name empty_image) _ _ (FlightNext v.last) (λ e. tt) (λ e. (_, refl, omega arith, rest))
  does_next (Prepares p tail) answers = (free, rest)
  does_next (Drops id) answers = (free, rest)
  does_next (Forgets response) answers = (free, rest)
  does_next (Begins at_once) answers = cond_both (at_once && other_holds g c s.database) _ _ (FlightNext v.last) (λ e. tt) (λ e. (free, rest))
  does_next Commits answers = commit_next s.tx
  does_next RollsBack answers = (free, rest)
  does_next (Changes servers short) answers = cond_both (log_full v) _ _ (FlightNext v.last) (λ e. tt) (λ e. (_, refl, omega arith, rest))
  does_next (Runs ss) answers = run_next s.tx ss false answers
  does_next (Reads statement) answers = reads_both (FlightNext v.last) v m g c s statement answers
      (λ e. barrier_both (FlightNext v.last) v m g c s statement tt (_, refl, omega arith, rest))
      (λ e. read_in_both (FlightNext v.last) v m g c s statement s.tx answers (λ t r. (free, refl)) (run_next s.tx (statement ∷ []) true answers))

pub request_next : (v : View) (m : Machine) (g : Gateway) (c : ℕ) (r : Request) (answers : List Answer) → (g.session c).flight ≡ None → (g.session c).later ≡ None → FlightNext v.last (on_request v m g c r answers)
unfolding on_request
request_next v m g c r answers free rest = does_next v m g c (g.session c) free rest (asked v m g c r) answers

pub later_next : (v : View) (m : Machine) (g : Gateway) (c : ℕ) (s : Statement) (answers : List Answer) → (g.session c).flight ≡ None → (g.session c).later ≡ None → FlightNext v.last (on_later v m g c s answers)
later_next v m g c s answers free rest = later_both (FlightNext v.last) v m g c s answers tt (λ e. run_next v m g c (g.session c) free rest (g.session c).tx (s ∷ []) true answers)
