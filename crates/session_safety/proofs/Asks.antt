-- What comes of a request keeps the invariant.
use Rattle.std.proofs.Common.{◌≡◌, inl, ℕ, ◌+◌, ◌-◌, Bool, true, false, cond, List, [], ◌∷◌, ◌++◌, length, take, refl, sym, ap, ◌∙◌, subst, ⊎_elim, arith, length-append}
use Rattle.std.specs.Prelude.{◌&&◌, not, Option, Some, None}
use Rattle.std.proofs.lemmas.List.{length-take-le}
use Rattle.std.proofs.lemmas.Bool.{cond_both, cases_Bool, or_parts}
use Rattle.dq_base.specs.declared.images.Image.{Image}
use Rattle.dq_base.specs.Images.{page_count}
use Rattle.dq_base.specs.Changes.{changed}
use Rattle.log_commands.specs.declared.command.Command.TheVariants.{OpenDb}
use Rattle.database_state.specs.Files.{empty_image}
use Rattle.wire_msgs.specs.declared.response.Response.TheVariants as responses
use Rattle.wire_msgs.specs.declared.request.Request.{Request}
use Rattle.sql_engine.specs.declared.kind.EngineKind.{EngineKind}
use Rattle.sql_engine.specs.declared.answer.StatementResult.{StatementResult}
use Rattle.sql_engine.specs.Replies.{Statement}
use Rattle.sql_engine.specs.Replies.{Reply as StatementReply}
use Rattle.sql_engine.specs.Meanings.{Meaning, IsShort}
use Rattle.sql_engine.specs.Runs.{RanAll}
use Rattle.session_spec.specs.Causes.{Cause, NotLeader, NoTransaction, DatabaseFull, LogFull, Locked, engine_cause}
use Rattle.session_spec.specs.Entries.{Content, Does, Configures, Other, Entry, entries_of}
use Rattle.session_spec.specs.Machine.{Machine, base_at, image_at}
use Rattle.session_spec.specs.Engines.{Answer, no_pages, Ending, Lacking, TooLarge, Stopped, Ended, no_answer, AllowsAll, AllowsFor}
use Rattle.session_spec.specs.Sessions.{Reply, Single, result, empty, db, Kind, Opening, Configuring, Writing, Committing, Querying, Flight, Lent, is_due, Transaction, Session, Gateway, View, Nothing, Began, Inside, Outside, Effect, HandsOver, JoinsPeer, Weighs, Turned, Refused, Answers, Proposes, Affects}
use Rattle.session_spec.specs.Statements.{with_prepared, without_prepared, free_id}
use Rattle.session_spec.specs.Limits.{other_holds, pages_full, log_full, first_cause, change_refusal}
use Rattle.session_spec.specs.Asking.{Asked, Never, Tells, Sets, Opens, Creates, Prepares, Drops, Forgets, Begins, Commits, RollsBack, Changes, Runs, Reads, asked_by}
use Rattle.session_spec.specs.Requests.{with_tx, with_statements, with_lost, with_database, with_barriers, begun, worked, flying, row_cause, reply_of, outside_write, outside, inside, ground, run_in, with_later, job_of, read_in, waits_first, barrier_first, has_nothing, committed, commit_in, does, on_request, handed_over, handed_for, handed, on_later, handed_later}
use Rattle.session_spec.specs.Allowed.{IsAllowed}
use Rattle.session_spec.proofs.Asked.{all_allowed}
use Rattle.session_spec.proofs.Images.{changed_same}
use Rattle.session_safety.specs.Nodes.{Trail, Node, Standing, databases, view_of}
use Rattle.session_safety.specs.Life.{query_by, called, IsPlain}
use Rattle.session_safety.specs.Replies.{QueryIs}
use Rattle.session_safety.proofs.Files.{touches, base_append, base_take, counts_between}
use Rattle.session_safety.proofs.Runs.{Led, RunsOk, runs_ok, ran_append}
use Rattle.session_safety.proofs.Invariant.{TxIs, KindOk, IsResult, result_plain, IsOf, FlightIs, ApartBy, Apart, free_when, NodeOk, tx_grown, said_append}
use Rattle.session_safety.proofs.Moves.{no}
use Rattle.session_safety.proofs.Weaves.{get_right, woven_plain}
use Rattle.session_safety.proofs.Wrotes.{block_for, block_end}
use Rattle.session_safety.proofs.Ways.{read_in_both}
use Rattle.session_safety.proofs.Calls.{unless_ok, first_none, row_none, hindrance_none, One, answer_query, refused_ok, answers_ok, proposes_ok, no_flight, not_apart, lends_ok, write_ok}

-- an image that is led to from one that a change leads to, or that is the first one, is short where it differs
led_on : (pinned working to : Image) → (no_pages (changed pinned working) ≡ false → IsShort working) → Led working to → no_pages (changed pinned to) ≡ false → IsShort to
led_on pinned working to old l differs = ⊎_elim
    (λ (e : to ≡ working). subst IsShort (sym e) (old (ap (λ i. no_pages (changed pinned i)) (sym e) ∙ differs)))
    (λ (e : IsShort to). e) l

-- an image that differs from the one before is short
led_short : (from to : Image) → Led from to → no_pages (changed from to) ≡ false → IsShort to
led_short from to l differs = led_on from from to (λ e. no (sym e ∙ changed_same from)) l differs

result_of : (rows : Bool) (answer : StatementResult) → IsResult (reply_of rows answer)
result_of true answer = record { not_db = λ e. cc; not_empty = λ e. cc; not_lost = λ e. cc }
result_of false answer = result_plain answer.affected

-- what a node does for a session wherever it stands
abbrev pub IsIdle : Asked → Type 0
IsIdle (Never cause) = Unit {0}
IsIdle (Tells response) = Unit {0}
IsIdle (Sets effect) = Unit {0}
IsIdle (Opens name barriers) = ⊥
IsIdle (Creates name barriers) = ⊥
IsIdle (Prepares p tail) = ⊥
IsIdle (Drops id) = Unit {0}
IsIdle (Forgets response) = Unit {0}
IsIdle (Begins at_once) = ⊥
IsIdle Commits = ⊥
IsIdle RollsBack = ⊥
IsIdle (Changes servers short) = ⊥
IsIdle (Runs ss) = ⊥
IsIdle (Reads s) = ⊥

-- if the node does not serve, this is all that is asked for
pub idle_of : (v : View) (g : Gateway) (s : Session) (r : Request) (x : Asked) → v.serving ≡ false → IsAllowed v g s r x → IsIdle x
idle_of v g s r (Never cause) off h = tt
idle_of v g s r (Tells response) off h = tt
idle_of v g s r (Sets effect) off h = tt
idle_of v g s r (Opens name barriers) off h = no (sym off ∙ h.0)
idle_of v g s r (Creates name barriers) off h = no (sym off ∙ h.0)
idle_of v g s r (Prepares p tail) off h = no (sym off ∙ h.serves)
idle_of v g s r (Drops id) off h = tt
idle_of v g s r (Forgets response) off h = tt
idle_of v g s r (Begins at_once) off h = no (sym off ∙ h.0.serves)
idle_of v g s r Commits off h = no (sym off ∙ h.0.serves)
idle_of v g s r RollsBack off h = no (sym off ∙ h.0.serves)
idle_of v g s r (Changes servers short) off h = no (sym off ∙ h.0)
idle_of v g s r (Runs ss) off h = no (sym off ∙ h.serves)
idle_of v g s r (Reads s') off h = no (sym off ∙ h.serves)

pub request_idle : (v : View) (m : Machine) (g : Gateway) (c : ℕ) (s : Session) → v.serving ≡ false → (r : Request) → IsIdle (asked_by v m g c s r)
request_idle v m g c s off r = idle_of v g s r (asked_by v m g c s r) off (all_allowed v m g c s r)

module _ (mean : Meaning) (standing : Standing) (w : Node) (a : NodeOk mean w) (c : ℕ) (free : (w.gate.session c).flight ≡ None) (here : (w.gate.session c).there ≡ true) (rest : (w.gate.session c).later ≡ None) where
  Good : Turned → Type 0
  Good t = NodeOk mean (called w c t)

  refuse : (why : Cause) → NodeOk mean (called w c (Refused why))
  refuse why = refused_ok mean standing w a c free here why

  begin_ok : (now : Bool) → w.serving ≡ true → NodeOk mean (called w c (Answers (begun (databases w) (w.gate.session c) now) (result 0) Began))
  begin_ok now serves =
      let k = a.sessions c in
      answers_ok mean standing w a c free here (begun (databases w) (w.gate.session c) now) (result 0) Began free here
      (record { at = omega arith; seen = k.seen; tx = record { pinned = refl; mark = refl; replies = []; ran = refl; seen = k.seen; led = λ e. no (sym e ∙ changed_same _) }; flight = no_flight mean standing w a c free here w.log _; apart = not_apart mean standing w a c free here _; free = free_when _ _ _ _ rest })
      (λ x. no (sym x ∙ serves))
      tt

  -- a transaction with a new working image
  worked_ok : (x : Transaction) (to : Image) (turn : Bool) (r : Reply) (ss : List Statement) (rs : List StatementReply) → w.serving ≡ true → (w.gate.session c).tx ≡ Some x → RanAll mean x.working ss to rs → Led x.working to → QueryIs mean (take w.applied w.log) (query_by w.applied (w.trail c) r (Inside x.name ss)) → NodeOk mean (called w c (Answers (worked (w.gate.session c) x to turn) r (Inside x.name ss)))
  worked_ok x to turn r ss rs serves is ran led query =
      let k = a.sessions c in
      let at = k.at in
      let seen = k.seen in
      let ok = subst (TxIs mean w.log (w.trail c)) is k.tx in
      let low = ok.seen in
      answers_ok mean standing w a c free here (worked (w.gate.session c) x to turn) r (Inside x.name ss) free here
      (record { at = k.at; seen = omega arith; tx = record { pinned = ok.pinned; mark = ok.mark; replies = ok.replies ++ rs; ran = ran_append mean (w.trail c).ran ss x.pinned x.working to ok.replies rs ok.ran ran; seen = omega arith; led = led_on x.pinned x.working to ok.led led }; flight = no_flight mean standing w a c free here w.log _; apart = not_apart mean standing w a c free here _; free = free_when _ _ _ _ rest })
      (λ y. no (sym y ∙ serves))
      query

  commit_ok : (o : Option Transaction) → w.serving ≡ true → (w.gate.session c).tx ≡ o → NodeOk mean (called w c (commit_in (view_of w standing) (databases w) w.gate c (w.gate.session c) o))
  unfolding committed
  commit_ok None serves is = refuse NoTransaction
  commit_ok (Some x) serves is =
      let k = a.sessions c in
      let ok = subst (TxIs mean w.log (w.trail c)) is k.tx in
      cond_both (has_nothing x) _ _ (λ t. NodeOk mean (called w c t))
      (λ e. answers_ok mean standing w a c free here (with_tx (w.gate.session c) None) (result 0) Nothing free here (record { at = k.at; seen = k.seen; tx = tt; flight = no_flight mean standing w a c free here w.log _; apart = not_apart mean standing w a c free here _; free = free_when _ _ _ _ rest }) (λ y. no (sym y ∙ serves)) tt)
      (λ e. unless_ok _ _ (λ t. NodeOk mean (called w c t)) refuse
      (λ z.
      let f = first_none (log_full (view_of w standing)) LogFull (change_refusal (databases w) w.gate c x.name x.mark (changed x.pinned x.working) x.working) z in
      let u = hindrance_none (databases w) w.gate c x.name x.mark (changed x.pinned x.working) x.working f.1 in
      let same : image_at w.log w.applied x.name ≡ x.pinned = (counts_between w.log (w.trail c).at w.applied x.name k.at).same (u.newest ∙ ok.mark) ∙ sym ok.pinned in
      write_ok mean standing w a c free here x.name x.pinned x.working (page_count x.working) Committing Nothing (w.trail c).ran ok.replies serves f.0 refl (record { turn = u.turn; newest = refl; fits = u.fits }) same ok.ran refl (ok.led (or_parts (not x.turn) (no_pages (changed x.pinned x.working)) e).1)
      (λ wrote.
      let low = a.applied in
      let at = k.at in
      record {
        at = k.at;
        seen = k.seen;
        tx = tx_grown mean w.log _ (w.trail c) (w.gate.session c).tx (omega arith) k.tx;
        flight = record { ahead = let o = wrote.commit.order in omega arith; within = wrote.commit.within; of_term = refl; kind = wrote; entry = let end = block_end w.log w.term x.name x.pinned x.working in record { content = end.0; stands = end.1; of = tt } };
        apart = tt;
        free = free_when _ _ _ _ rest;
      })))

  outside_ok : (ss : List Statement) (rows : Bool) (end : Ending) → w.serving ≡ true → (w.gate.session c).tx ≡ None → One rows ss → RunsOk mean (image_at w.log w.applied (w.gate.session c).database) no_answer ss end → NodeOk mean (called w c (outside (view_of w standing) (databases w) w.gate c (w.gate.session c) ss rows end))
  unfolding outside outside_write
  outside_ok ss rows Lacking serves is one r = a
  outside_ok ss rows (TooLarge answer) serves is one r = unless_ok (first_cause (log_full (view_of w standing)) LogFull (row_cause rows answer (change_refusal (databases w) w.gate c (w.gate.session c).database (base_at w.log w.applied (w.gate.session c).database).newest answer.after.pages (image_at w.log w.applied (w.gate.session c).database)))) (Refused DatabaseFull) (λ t. NodeOk mean (called w c t)) refuse (λ e. refuse DatabaseFull)
  outside_ok ss rows (Stopped fault) serves is one r = refuse (engine_cause fault)
  outside_ok ss rows (Ended to answer) serves is one r =
      let k = a.sessions c in
      let low = a.applied in
      let seen = k.seen in
      let db = (w.gate.session c).database in
      let base = image_at w.log w.applied db in
      let long = length-take-le w.applied w.log low in
      cond_both (no_pages (changed base to)) _ _ (λ t. NodeOk mean (called w c t))
      (λ e. unless_ok (row_cause rows answer None) (Answers (w.gate.session c) (reply_of rows answer) (Outside db ss)) (λ t. NodeOk mean (called w c t)) refuse
      (λ z. answers_ok mean standing w a c free here (w.gate.session c) (reply_of rows answer) (Outside db ss) free here
      (record { at = omega arith; seen = omega arith; tx = subst (TxIs mean w.log _) (sym is) tt; flight = no_flight mean standing w a c free here w.log _; apart = not_apart mean standing w a c free here _; free = free_when _ _ _ _ rest })
      (λ y. no (sym y ∙ serves))
      (answer_query mean (take w.applied w.log) rows answer db w.applied [] ss (w.trail c).seen base to [] r.0 one (omega arith) k.seen (ap (λ d. d.image) (base_take w.log w.applied w.applied db (omega arith))) r.1 r.2)))
      (λ e. unless_ok _ _ (λ t. NodeOk mean (called w c t)) refuse
      (λ z.
      let f = first_none (log_full (view_of w standing)) LogFull (row_cause rows answer (change_refusal (databases w) w.gate c db (base_at w.log w.applied db).newest (changed base to) to)) z in
      let u = hindrance_none (databases w) w.gate c db (base_at w.log w.applied db).newest (changed base to) to (row_none rows answer _ f.1) in
      write_ok mean standing w a c free here db base to (page_count to) (Writing (reply_of rows answer)) (Outside db ss) ss r.0 serves f.0 refl u refl r.1 refl (led_short base to r.3 e)
      (λ wrote.
      let more = length-append w.log (entries_of w.term (block_for w.log w.term db base to)) in
      record {
        at = omega arith;
        seen = k.seen;
        tx = subst (TxIs mean _ _) (sym is) tt;
        flight = record {
          ahead = let o = wrote.commit.order in omega arith;
          within = wrote.commit.within;
          of_term = refl;
          kind = (wrote, answer_query mean (w.log ++ entries_of w.term (block_for w.log w.term db base to)) rows answer db w.applied [] ss (w.trail c).seen base to [] r.0 one (omega arith) k.seen (ap (λ d. d.image) (base_append w.log (entries_of w.term (block_for w.log w.term db base to)) w.applied db low)) r.1 r.2);
          entry = let end = block_end w.log w.term db base to in record { content = end.0; stands = end.1; of = result_of rows answer };
        };
        apart = is;
        free = free_when _ _ _ _ rest;
      })))

  inside_ok : (x : Transaction) (ss : List Statement) (rows : Bool) (end : Ending) → w.serving ≡ true → (w.gate.session c).tx ≡ Some x → One rows ss → RunsOk mean x.working no_answer ss end → NodeOk mean (called w c (inside (databases w) w.gate c (w.gate.session c) x ss rows end))
  unfolding inside
  inside_ok x ss rows Lacking serves is one r = a
  inside_ok x ss rows (TooLarge answer) serves is one r = unless_ok (row_cause rows answer (change_refusal (databases w) w.gate c x.name x.mark answer.after.pages x.working)) (Refused DatabaseFull) (λ t. NodeOk mean (called w c t)) refuse (λ e. refuse DatabaseFull)
  inside_ok x ss rows (Stopped fault) serves is one r = refuse (engine_cause fault)
  inside_ok x ss rows (Ended to answer) serves is one r =
      let k = a.sessions c in
      let ok = subst (TxIs mean w.log (w.trail c)) is k.tx in
      let low = a.applied in
      let at = k.at in
      let long = length-take-le w.applied w.log low in
      let t = w.trail c in
      let pin : x.pinned ≡ image_at (take w.applied w.log) t.at x.name = ok.pinned ∙ ap (λ d. d.image) (sym (base_take w.log t.at w.applied x.name at)) in
      let query = answer_query mean (take w.applied w.log) rows answer x.name t.at t.ran ss t.seen x.working to ok.replies r.0 one (omega arith) ok.seen (subst (λ i. RanAll mean i t.ran x.working ok.replies) pin ok.ran) r.1 r.2 in
      cond_both (no_pages (changed x.working to)) _ _ (λ y. NodeOk mean (called w c y))
      (λ e. unless_ok (row_cause rows answer None) (Answers (worked (w.gate.session c) x to x.turn) (reply_of rows answer) (Inside x.name ss)) (λ y. NodeOk mean (called w c y)) refuse (λ z. worked_ok x to x.turn (reply_of rows answer) ss r.0 serves is r.1 r.3 query))
      (λ e. unless_ok (row_cause rows answer (change_refusal (databases w) w.gate c x.name x.mark (changed x.working to) to)) (Answers (worked (w.gate.session c) x to true) (reply_of rows answer) (Inside x.name ss)) (λ y. NodeOk mean (called w c y)) refuse (λ z. worked_ok x to true (reply_of rows answer) ss r.0 serves is r.1 r.3 query))

  run_in_ok : (kind : EngineKind) (o : Option Transaction) (ss : List Statement) (rows : Bool) (answers : List Answer) → w.serving ≡ true → (w.gate.session c).tx ≡ o → One rows ss → AllowsAll mean kind (ground (databases w) (w.gate.session c) o) ss answers → NodeOk mean (called w c (run_in (view_of w standing) (databases w) w.gate c (w.gate.session c) o ss rows answers))
  run_in_ok kind None ss rows answers serves is one h = outside_ok ss rows _ serves is one (runs_ok mean kind ss _ no_answer answers h)
  run_in_ok kind (Some x) ss rows answers serves is one h = inside_ok x ss rows _ serves is one (runs_ok mean kind ss x.working no_answer answers h)

  -- a query outside a transaction that was interrupted may be lent
  read_in_ok : (kind : EngineKind) (o : Option Transaction) (s : Statement) (answers : List Answer) → w.serving ≡ true → (w.gate.session c).tx ≡ o → AllowsAll mean kind (ground (databases w) (w.gate.session c) o) (s ∷ []) answers → NodeOk mean (called w c (read_in (view_of w standing) (databases w) w.gate c (w.gate.session c) o s answers))
  read_in_ok kind o s answers serves is h =
      let k = a.sessions c in
      let seen = k.seen in
      read_in_both (λ t. NodeOk mean (called w c t)) (view_of w standing) (databases w) w.gate c (w.gate.session c) s o answers
      (λ e r. lends_ok mean standing w a c free here (with_later (w.gate.session c) (Some (Lent s))) (job_of (databases w) (w.gate.session c) s) free here serves
      (record { at = omega arith; seen = k.seen; tx = subst (TxIs mean w.log _) (sym (is ∙ e)) tt; flight = no_flight mean standing w a c free here w.log _; apart = not_apart mean standing w a c free here _; free = (free, k.seen) }))
      (run_in_ok kind o (s ∷ []) true answers serves is (s, refl) h)

  -- answers that leave transaction and database alone
  plain_ok : (s : Session) (r : Reply) → s.flight ≡ None → s.later ≡ None → s.there ≡ true → s.tx ≡ (w.gate.session c).tx → QueryIs mean (take w.applied w.log) (query_by w.applied (w.trail c) r Nothing) → NodeOk mean (called w c (Answers s r Nothing))
  plain_ok s r off none there same query =
      let k = a.sessions c in
      answers_ok mean standing w a c free here s r Nothing off there
      (record { at = k.at; seen = k.seen; tx = subst (TxIs mean w.log (w.trail c)) (sym same) k.tx; flight = subst (FlightIs mean w.log w.applied w.term (w.trail c)) (sym off) tt; apart = subst (λ f. Apart f s.tx) (sym off) tt; free = free_when _ _ _ _ none })
      (λ y. record { tx = same ∙ (a.idle y c).tx; flight = off; due = ap is_due none })
      query

  -- an effect outside the sessions
  affects_ok : (effect : Effect) → NodeOk mean (called w c (Affects effect))
  affects_ok (HandsOver id) = record { applied = a.applied; leads = a.leads; sessions = a.sessions; idle = a.idle; calm = a.calm; listed = a.listed; absent = a.absent; gone = a.gone; sole = a.sole; woven = a.woven; said = said_append mean (take w.applied w.log) w.said _ a.said (record { rows = tt; query = tt; commit = tt; ends = tt; entry = λ h. absurd (omega (arith, h)) }, tt) }
  affects_ok (JoinsPeer id) = record { applied = a.applied; leads = a.leads; sessions = a.sessions; idle = a.idle; calm = a.calm; listed = a.listed; absent = a.absent; gone = a.gone; sole = a.sole; woven = a.woven; said = said_append mean (take w.applied w.log) w.said _ a.said (record { rows = tt; query = tt; commit = tt; ends = tt; entry = λ h. absurd (omega (arith, h)) }, tt) }
  affects_ok (Weighs weight) = record { applied = a.applied; leads = a.leads; sessions = a.sessions; idle = a.idle; calm = a.calm; listed = a.listed; absent = a.absent; gone = a.gone; sole = a.sole; woven = a.woven; said = said_append mean (take w.applied w.log) w.said _ a.said (record { rows = tt; query = tt; commit = tt; ends = tt; entry = λ h. absurd (omega (arith, h)) }, tt) }

  -- a proposal of an entry without pages
  other_ok : (s : Session) (name : List ℕ) (content : Content) (kind : Kind) → s.there ≡ true → s.tx ≡ (w.gate.session c).tx → s.later ≡ None → w.serving ≡ true → ((n : List ℕ) → touches n content ≡ false) → IsPlain true content → ((log : List Entry) (t : Trail) (f : Flight) → KindOk mean log t f kind) → IsOf kind name content → ((o : Option Transaction) → ApartBy kind o) → NodeOk mean (called w c (Proposes (flying (view_of w standing) s name (content ∷ []) 0 kind) (content ∷ []) Nothing))
  other_ok s name content kind there same none serves free_of plain fine of apart =
      let k = a.sessions c in
      let low = a.applied in
      let at = k.at in
      let more = length-append w.log (entries_of w.term (content ∷ [])) in
      proposes_ok mean standing w a c free here (flying (view_of w standing) s name (content ∷ []) 0 kind) (content ∷ []) Nothing serves there
      (record {
        at = k.at;
        seen = k.seen;
        tx = tx_grown mean w.log (entries_of w.term (content ∷ [])) (w.trail c) s.tx (omega arith) (subst (TxIs mean w.log (w.trail c)) (sym same) k.tx);
        flight = record { ahead = omega arith; within = omega arith; of_term = refl; kind = fine _ _ _; entry = record { content = content; stands = get_right w.log (entries_of w.term (content ∷ [])) 0 (length w.log + 1 - 1) (omega arith); of = of } };
        apart = apart _;
        free = free_when _ _ _ _ none;
      })
      (λ n. inl (free_of n, tt))
      (woven_plain true w.term w.log (content ∷ []) (plain, tt) a.woven)

  roll_ok : w.serving ≡ true → NodeOk mean (called w c (Answers (with_tx (w.gate.session c) None) (result 0) Nothing))
  roll_ok serves = let k = a.sessions c in answers_ok mean standing w a c free here (with_tx (w.gate.session c) None) (result 0) Nothing free here (record { at = k.at; seen = k.seen; tx = tt; flight = no_flight mean standing w a c free here w.log _; apart = not_apart mean standing w a c free here _; free = free_when _ _ _ _ rest }) (λ y. no (sym y ∙ serves)) tt

  -- what a node does for a session where it serves
  does_ok : (kind : EngineKind) (x : Asked) (answers : List Answer) → w.serving ≡ true → AllowsFor mean kind (handed_for (databases w) (w.gate.session c) x) answers → NodeOk mean (called w c (does (view_of w standing) (databases w) w.gate c (w.gate.session c) x answers))
  unfolding does
  does_ok kind (Never cause) answers serves h = refuse cause
  does_ok kind (Tells response) answers serves h = plain_ok (w.gate.session c) (Single response) free rest here refl tt
  does_ok kind (Sets effect) answers serves h = affects_ok effect
  does_ok kind (Opens name barriers) answers serves h = plain_ok (with_barriers (with_database (w.gate.session c) name) barriers) db refl rest here refl tt
  does_ok kind (Creates name barriers) answers serves h = cond_both (pages_full (databases w) w.gate name empty_image) _ _ (λ t. NodeOk mean (called w c t)) (λ e. refuse DatabaseFull) (λ e. other_ok (with_barriers (w.gate.session c) barriers) name (Does (OpenDb name)) Opening here refl rest serves (λ n. refl) tt (λ l t f. tt) refl (λ o. tt))
  does_ok kind (Prepares p tail) answers serves h = plain_ok (with_statements (w.gate.session c) (with_prepared p (w.gate.session c).statements)) (Single (responses.Stmt 0 (free_id (w.gate.session c).statements) p.params tail)) free rest here refl tt
  does_ok kind (Drops id) answers serves h =
      plain_ok (with_statements (w.gate.session c) (without_prepared id (w.gate.session c).statements)) empty free rest here refl tt
  does_ok kind (Forgets response) answers serves h = plain_ok (with_lost (w.gate.session c) false) (Single response) free rest here refl tt
  does_ok kind (Begins at_once) answers serves h = cond_both (at_once && other_holds w.gate c (w.gate.session c).database) _ _ (λ t. NodeOk mean (called w c t)) (λ e. refuse Locked) (λ e. begin_ok at_once serves)
  does_ok kind Commits answers serves h = commit_ok (w.gate.session c).tx serves refl
  does_ok kind RollsBack answers serves h = roll_ok serves
  does_ok kind (Changes servers short) answers serves h = cond_both (log_full (view_of w standing)) _ _ (λ t. NodeOk mean (called w c t)) (λ e. refuse LogFull) (λ e. other_ok (w.gate.session c) [] (Configures servers) (Configuring short) here refl rest serves (λ n. refl) tt (λ l t f. tt) (servers, refl) (λ o. tt))
  does_ok kind (Runs ss) answers serves h = run_in_ok kind (w.gate.session c).tx ss false answers serves refl tt h
  does_ok kind (Reads s) answers serves h = reads_ok (waits_first (w.gate.session c)) h
    where
      barrier_ok : NodeOk mean (called w c (barrier_first (view_of w standing) (w.gate.session c) s))
      barrier_ok = cond_both (log_full (view_of w standing)) _ _ (λ t. NodeOk mean (called w c t)) (λ e. refuse LogFull) (λ e. other_ok (w.gate.session c) [] Other (Querying s) here refl rest serves (λ n. refl) tt (λ l t f. tt) tt (λ o. tt))

      reads_ok : (b : Bool) → AllowsFor mean kind (cond b None (handed_over (ground (databases w) (w.gate.session c) (w.gate.session c).tx) (s ∷ []))) answers
          → NodeOk mean (called w c (cond b (barrier_first (view_of w standing) (w.gate.session c) s) (read_in (view_of w standing) (databases w) w.gate c (w.gate.session c) (w.gate.session c).tx s answers)))
      reads_ok true x = barrier_ok
      reads_ok false x = read_in_ok kind (w.gate.session c).tx s answers serves refl x

  idle_ok : (x : Asked) (answers : List Answer) → IsIdle x → NodeOk mean (called w c (does (view_of w standing) (databases w) w.gate c (w.gate.session c) x answers))
  unfolding does
  idle_ok (Never cause) answers h = refuse cause
  idle_ok (Tells response) answers h = plain_ok (w.gate.session c) (Single response) free rest here refl tt
  idle_ok (Sets effect) answers h = affects_ok effect
  idle_ok (Opens name barriers) answers h = absurd h
  idle_ok (Creates name barriers) answers h = absurd h
  idle_ok (Prepares p tail) answers h = absurd h
  idle_ok (Drops id) answers h = plain_ok (with_statements (w.gate.session c) (without_prepared id (w.gate.session c).statements)) empty free rest here refl tt
  idle_ok (Forgets response) answers h = plain_ok (with_lost (w.gate.session c) false) (Single response) free rest here refl tt
  idle_ok (Begins at_once) answers h = absurd h
  idle_ok Commits answers h = absurd h
  idle_ok RollsBack answers h = absurd h
  idle_ok (Changes servers short) answers h = absurd h
  idle_ok (Runs ss) answers h = absurd h
  idle_ok (Reads s) answers h = absurd h

  -- a query that is run later than it was asked
  pub later_ok : (kind : EngineKind) (s : Statement) (answers : List Answer) → AllowsFor mean kind (handed_later (view_of w standing) (databases w) w.gate c s) answers → NodeOk mean (called w c (on_later (view_of w standing) (databases w) w.gate c s answers))
  unfolding on_later handed_later
  later_ok kind s answers = by w.serving refl
    where
      by : (b : Bool) → w.serving ≡ b → AllowsFor mean kind (cond b (handed_over (ground (databases w) (w.gate.session c) (w.gate.session c).tx) (s ∷ [])) None) answers
          → NodeOk mean (called w c (cond b (run_in (view_of w standing) (databases w) w.gate c (w.gate.session c) (w.gate.session c).tx (s ∷ []) true answers) (Refused NotLeader)))
      by true e h = run_in_ok kind (w.gate.session c).tx (s ∷ []) true answers e refl (s, refl) h
      by false e h = refuse NotLeader

  pub request_ok : (kind : EngineKind) (r : Request) (answers : List Answer) → AllowsFor mean kind (handed (view_of w standing) (databases w) w.gate c r) answers → NodeOk mean (called w c (on_request (view_of w standing) (databases w) w.gate c r answers))
  unfolding on_request handed
  request_ok kind r answers h = ⊎_elim
      (λ (on : w.serving ≡ true). does_ok kind (asked_by (view_of w standing) (databases w) w.gate c (w.gate.session c) r) answers on h)
      (λ (off : w.serving ≡ false). idle_ok (asked_by (view_of w standing) (databases w) w.gate c (w.gate.session c) r) answers (request_idle (view_of w standing) (databases w) w.gate c (w.gate.session c) off r))
      (cases_Bool w.serving)
