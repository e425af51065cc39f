-- A transaction is open or lost until its client ends it.
use Rattle.std.proofs.Common.{rules, ◌≡◌, ◌⊎◌, inl, inr, ℕ, Bool, true, false, true≢false, cond, List, [], ◌∷◌, Option, Some, None, refl, sym, ap, subst, ◌∙◌}
use Rattle.std.specs.Prelude.{◌==◌, ◌&&◌, ◌||◌, not, is_none, nat_lt, nat_le}
use Rattle.std.proofs.lemmas.Bool.{cond_both, cond-false, and_parts}
use Rattle.dq_base.specs.Changes.{changed}
use Rattle.database_state.specs.Files.{empty_image}
use Rattle.raft_spec.specs.Node.{Server}
use Rattle.sql_engine.specs.Replies.{Statement}
use Rattle.wire_msgs.specs.declared.request.Request.{Request}
use Rattle.wire_msgs.specs.declared.request.Request.TheVariants as requests
use Rattle.session_spec.specs.Allowed.{IsAllowed}
use Rattle.session_spec.specs.Asking as asking
use Rattle.session_spec.specs.Asking.{Asked, Never, Tells, Sets, Opens, Creates, Prepares, Drops, Forgets, Begins, Commits, RollsBack, Changes, Runs, Reads, asks_lost, unless_lost, asked_unless_lost, asked_by, asked}
use Rattle.session_spec.specs.Causes.{DatabaseFull}
use Rattle.session_spec.specs.Engines.{Answer, no_pages, Ending, Lacking, TooLarge, Stopped, Ended, no_answer, runs}
use Rattle.session_spec.specs.Events.{tidy, commits, landed, settled_by, on_applied, is_committing, loses, still_lent, lost, on_lost}
use Rattle.session_spec.specs.Limits.{pages_full, log_full, change_refusal}
use Rattle.session_spec.specs.Machine.{Machine}
use Rattle.session_spec.specs.Requests.{with_tx, with_flight, with_later, with_lost, worked, reply_of, row_cause, inside, run_in, does, on_request}
use Rattle.session_spec.specs.Sessions.{Kind, Opening, Configuring, Writing, Committing, Querying, Flight, Transaction, Session, Gateway, View, absent, in_tx, Inside, Turned, Refused, Answers}
use Rattle.session_spec.proofs.Asked.{all_allowed}
use Rattle.session_spec.proofs.Losing.{lost_so}
use Rattle.session_safety.specs.Staying.{has_transaction, IsEnd, StaysInside, RequestsStayInside, TransactionStays, TransactionsStay}
use Rattle.session_safety.proofs.Calls.{unless_ok}
use Rattle.session_safety.proofs.Ways.{read_in_both, barrier_both, reads_both}

-- ---- what is asked for with a transaction

-- It runs no statement, and begins no transaction.
abbrev IsBare : Asked → Type 0
IsBare (Begins at_once) = ⊥
IsBare (Runs ss) = ⊥
IsBare (Reads statement) = ⊥
IsBare asked = Unit {0}

either : (b : Bool) (x y : Asked) → IsBare x → IsBare y → IsBare (cond b x y)
either true x y p q = p
either false x y p q = q

finalize_bare : (o : _) (id : ℕ) → IsBare (asking.asks_finalize o id)
finalize_bare None id = tt
finalize_bare (Some p) id = tt

module _ (v : View) (m : Machine) (g : Gateway) (c : ℕ) (s : Session) where
  -- while it is lost
  lost_bare : (r : Request) → IsBare (unless_lost true (asks_lost s r) (asked_unless_lost v m g c s r))
  unfolding asked_unless_lost
  lost_bare requests.Leader = tt
  lost_bare (requests.Client id) = tt
  lost_bare (requests.Open name flags vfs) = search (rules, either)
  lost_bare (requests.Prepare db sql wide) = tt
  lost_bare (requests.Exec db id params wide) = lost_so IsBare s tt tt tt (requests.Exec db id params wide)
  lost_bare (requests.Query db id params wide) = tt
  lost_bare (requests.Finalize db id) = search (rules, either, finalize_bare)
  lost_bare (requests.ExecSql db sql params wide) = lost_so IsBare s tt tt tt (requests.ExecSql db sql params wide)
  lost_bare (requests.QuerySql db sql params wide) = tt
  lost_bare (requests.Interrupt db) = search (rules, either)
  lost_bare (requests.Connect id address) = search (rules, either)
  lost_bare (requests.Add id address) = search (rules, either)
  lost_bare (requests.Assign id role) = search (rules, either)
  lost_bare (requests.Remove id) = search (rules, either)
  lost_bare (requests.Dump name) = search (rules, either)
  lost_bare (requests.Cluster format) = search (rules, either)
  lost_bare (requests.Transfer id) = search (rules, either)
  lost_bare (requests.Describe format) = search (rules, either)
  lost_bare (requests.Weight weight) = tt

  by_lost : (r : Request) → s.lost ≡ true → IsBare (asked_by v m g c s r)
  unfolding asked_by
  by_lost r e = subst (λ (b : Bool). IsBare (unless_lost b (asks_lost s r) (asked_unless_lost v m g c s r))) (sym e) (lost_bare r)

  -- ---- what comes of it

  abbrev Stays : Asked → List Answer → Type 0
  Stays x answers = IsEnd x ⊎ StaysInside (does v m g c s x answers)

  inside_stays : (x : Transaction) (ss : List Statement) (rows : Bool) (end : Ending) → StaysInside (inside m g c s x ss rows end)
  unfolding inside
  inside_stays x ss rows Lacking = tt
  inside_stays x ss rows (TooLarge answer) =
      unless_ok (row_cause rows answer (change_refusal m g c x.name x.mark answer.after.pages x.working)) (Refused DatabaseFull) StaysInside (λ why. tt) (λ n. tt)
  inside_stays x ss rows (Stopped fault) = tt
  inside_stays x ss rows (Ended to answer) =
      cond_both (no_pages (changed x.working to)) _ _ StaysInside
      (λ e. unless_ok (row_cause rows answer None) (Answers (worked s x to x.turn) (reply_of rows answer) (Inside x.name ss)) StaysInside (λ why. tt) (λ n. (refl, tt)))
      (λ e. unless_ok (row_cause rows answer (change_refusal m g c x.name x.mark (changed x.working to) to)) (Answers (worked s x to true) (reply_of rows answer) (Inside x.name ss)) StaysInside (λ why. tt) (λ n. (refl, tt)))

  run_stays : (o : Option Transaction) (ss : List Statement) (rows : Bool) (answers : List Answer) → is_none o ≡ false → StaysInside (run_in v m g c s o ss rows answers)
  run_stays None ss rows answers e = absurd (true≢false e)
  run_stays (Some x) ss rows answers e = inside_stays x ss rows _

  -- a request that runs nothing and begins nothing leaves what there is
  bare_stays : (x : Asked) (answers : List Answer) → has_transaction s ≡ true → IsBare x → Stays x answers
  unfolding does
  bare_stays (Never cause) answers h bare = inr tt
  bare_stays (Tells response) answers h bare = inr (h, tt)
  bare_stays (Sets effect) answers h bare = inr tt
  bare_stays (Opens name barriers) answers h bare = inr (h, tt)
  bare_stays (Creates name barriers) answers h bare = inr (cond_both (pages_full m g name empty_image) _ _ StaysInside (λ e. tt) (λ e. (h, tt)))
  bare_stays (Prepares p tail) answers h bare = inr (h, tt)
  bare_stays (Drops id) answers h bare = inr (h, tt)
  bare_stays (Forgets response) answers h bare = inl tt
  bare_stays (Begins at_once) answers h bare = absurd bare
  bare_stays Commits answers h bare = inl tt
  bare_stays RollsBack answers h bare = inl tt
  bare_stays (Changes servers short) answers h bare = inr (cond_both (log_full v) _ _ StaysInside (λ e. tt) (λ e. (h, tt)))
  bare_stays (Runs ss) answers h bare = absurd bare
  bare_stays (Reads statement) answers h bare = absurd bare

  -- statements run in the open transaction
  open_stays : (r : Request) (x : Asked) (answers : List Answer) → has_transaction s ≡ true → is_none s.tx ≡ false → IsAllowed v g s r x → Stays x answers
  unfolding does
  open_stays r (Begins at_once) answers h e allowed = absurd (true≢false (sym (ap not e) ∙ allowed.1))
  open_stays r (Runs ss) answers h e allowed = inr (run_stays s.tx ss false answers e)
  open_stays r (Reads statement) answers h e allowed =
      inr (reads_both StaysInside v m g c s statement answers
      (λ waits. absurd (true≢false (sym (and_parts s.barriers (is_none s.tx) waits).1 ∙ e)))
      (λ waits. read_in_both StaysInside v m g c s statement s.tx answers (λ none readers. absurd (true≢false (sym (ap is_none none) ∙ e)))
      (run_stays s.tx (statement ∷ []) true answers e)))
  open_stays r (Never cause) answers h e allowed = inr tt
  open_stays r (Tells response) answers h e allowed = inr (h, tt)
  open_stays r (Sets effect) answers h e allowed = inr tt
  open_stays r (Opens name barriers) answers h e allowed = inr (h, tt)
  open_stays r (Creates name barriers) answers h e allowed = inr (cond_both (pages_full m g name empty_image) _ _ StaysInside (λ e. tt) (λ e. (h, tt)))
  open_stays r (Prepares p tail) answers h e allowed = inr (h, tt)
  open_stays r (Drops id) answers h e allowed = inr (h, tt)
  open_stays r (Forgets response) answers h e allowed = inl tt
  open_stays r Commits answers h e allowed = inl tt
  open_stays r RollsBack answers h e allowed = inl tt
  open_stays r (Changes servers short) answers h e allowed = inr (cond_both (log_full v) _ _ StaysInside (λ e. tt) (λ e. (h, tt)))

is_open : (a b : Bool) → (not a || b) ≡ true → b ≡ false → a ≡ false
is_open false b h e = refl
is_open true true h e = absurd (true≢false e)
is_open true false h e = absurd (true≢false (sym h))

pub requests_stay : RequestsStayInside
unfolding on_request
requests_stay v m g c r answers h = by (g.session c).lost refl
  where
    by : (b : Bool) → (g.session c).lost ≡ b → IsEnd (asked v m g c r) ⊎ StaysInside (does v m g c (g.session c) (asked v m g c r) answers)
    by true e = bare_stays v m g c (g.session c) (asked v m g c r) answers h (by_lost v m g c (g.session c) r e)
    by false e = open_stays v m g c (g.session c) r (asked v m g c r) answers h (is_open (is_none (g.session c).tx) (g.session c).lost h e) (all_allowed v m g c (g.session c) r)

-- ---- entries that are applied, and lost leadership

landed_stays : (s : Session) (f : Flight) (k : Kind) → has_transaction s ≡ true → commits k ≡ false → has_transaction (landed s f k) ≡ true
landed_stays s f Opening h e = h
landed_stays s f (Configuring short) h e = h
landed_stays s f (Writing reply) h e = h
landed_stays s f Committing h e = absurd (true≢false e)
landed_stays s f (Querying statement) h e = h

settled_stays : (index : ℕ) (s : Session) (o : Option Flight) → has_transaction s ≡ true → s.hung ≡ false → is_committing o ≡ false → has_transaction (settled_by index s o) ≡ true
settled_stays index s None h here e = h
settled_stays index s (Some f) h here e =
    cond_both (f.last == index) (cond s.hung absent (landed s f f.kind)) s (λ (x : Session). has_transaction x ≡ true)
    (λ q. subst (λ (x : Session). has_transaction x ≡ true) (sym (cond-false s.hung absent (landed s f f.kind) here)) (landed_stays s f f.kind h e))
    (λ q. h)

stays_lost : (a b c : Bool) → (a || b) ≡ true → c ≡ false → (b || (a && not c)) ≡ true
stays_lost a true c h e = refl
stays_lost true false false h e = refl
stays_lost true false true h e = absurd (true≢false e)
stays_lost false false c h e = absurd (true≢false (sym h))

lost_stays : (s : Session) → has_transaction s ≡ true → s.hung ≡ false → is_committing s.flight ≡ false → has_transaction (lost s) ≡ true
lost_stays s h here e =
    subst (λ (x : Session). has_transaction x ≡ true) (sym (cond-false s.hung absent (with_lost (with_later (with_flight (with_tx s None) None) (still_lent s.later)) (loses s)) here))
    (stays_lost (in_tx s) s.lost (is_committing s.flight) h e)

pub transactions_stay : TransactionsStay
unfolding on_applied on_lost tidy
transactions_stay g c h here e =
    record { applied = λ index. settled_stays index (g.session c) (g.session c).flight h here e; lost = lost_stays (g.session c) h here e }
