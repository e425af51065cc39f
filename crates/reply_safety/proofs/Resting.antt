-- What comes of a request rests on its own statements.
use Rattle.std.proofs.Common.{◌≡◌, ℕ, suc, ◌+◌, ◌-◌, ◌≤◌, Bool, true, false, true≢false, cond, List, [], ◌∷◌, ◌++◌, length, refl, sym, ap, ◌∙◌, subst, ⊎_elim}
use Rattle.std.specs.Prelude.{◌&&◌, not, is_none, Option, Some, None}
use Rattle.std.proofs.lemmas.Bool.{cond_both, cases_Bool, and_parts, or_cases, or_parts}
use Rattle.dq_base.specs.declared.images.Image.{Image}
use Rattle.dq_base.specs.Changes.{changed}
use Rattle.wire_msgs.specs.declared.request.Request.{Request}
use Rattle.wire_rows.specs.Answering.{parts_of}
use Rattle.sql_engine.specs.declared.kind.EngineKind.{EngineKind}
use Rattle.sql_engine.specs.declared.answer.StatementResult.{StatementResult}
use Rattle.sql_engine.specs.Meanings.{Meaning, IsShort, reply_of as told_by_statement}
use Rattle.sql_engine.specs.Replies.{Statement, Reply as StatementReply}
use Rattle.sql_engine.specs.Runs.{RanAll}
use Rattle.session_spec.specs.Asking.{Asked, Begins, Commits, Runs, Reads, asked}
use Rattle.session_spec.specs.Causes.{Cause, NotLeader, LogFull, DatabaseFull, Locked, engine_cause}
use Rattle.session_spec.specs.Engines.{Answer, no_pages, takes, Ending, Lacking, TooLarge, Stopped, Ended, no_answer, AllowsAll, AllowsFor}
use Rattle.session_spec.specs.Entries.{Entry, entries_of}
use Rattle.session_spec.specs.Limits.{other_holds, log_full, change_refusal}
use Rattle.session_spec.specs.Machine.{base_at, image_at}
use Rattle.session_spec.specs.Requests.{begun, worked, row_cause, rows_cause, rows_or, reply_of, outside_write, outside, inside, ground, run_in, job_reply, read_in, waits_first, barrier_first, has_nothing, committed, commit_in, does, on_request, handed_over, handed_for, handed, on_later, handed_later}
use Rattle.session_spec.specs.Sessions.{Reply, Refusal, Rows, result, Transaction, Session, Job, may_ask, Began, Inside, Outside, Refused, Answers}
use Rattle.session_spec.proofs.Images.{unchanged, changed_same}
use Rattle.session_safety.specs.Nodes.{Node, Standing, databases, view_of, started}
use Rattle.session_safety.specs.Life.{Event, Call, Resume, Done, undue, job_at, happens, run_from, Fits, AllowsLater, AllowsRead, AllFit}
use Rattle.session_safety.proofs.Runs.{Led, last_reply, RunsOk, runs_ok}
use Rattle.session_safety.proofs.Invariant.{Calm, TxIs, TxOk, NodeOk, free_later}
use Rattle.session_safety.proofs.Files.{counts_between}
use Rattle.session_safety.proofs.Wrotes.{block_for, wrote_commit}
use Rattle.session_safety.proofs.Calls.{unless_ok, first_none, row_none, hindrance_none, One, calm_here}
use Rattle.session_safety.proofs.Ways.{read_in_both, barrier_both}
use Rattle.session_safety.proofs.Moves.{no, undue_ok}
use Rattle.session_safety.proofs.Laters.{undue_here, later_there}
use Rattle.session_safety.proofs.Lives.{none_is, run_ok, started_ok}
use Rattle.session_safety.proofs.Turns.{changes_take_turns}
use Rattle.session_safety.proofs.Asks.{IsIdle, request_idle}
use Rattle.reply_safety.specs.Resting.{IsLastReply, RanWithReply, newest_of, StatementsRest, BeginRests, CommitRests, RestsRight, RequestsRest, LaterQueriesRest, ReaderRests, ReadersRest}

-- ---- replies

last_some : (rows : Bool) (answer : StatementResult) (r : StatementReply) (rs : List StatementReply) → last_reply r rs ≡ told_by_statement answer →
    IsLastReply (r ∷ rs) (reply_of rows answer)
last_some true answer r [] e = e
last_some false answer r [] e = ap (λ (x : StatementReply). result x.affected) (sym e)
last_some rows answer r (s ∷ rs) e = last_some rows answer s rs e

no_replies : (mean : Meaning) (from to : Image) (s : Statement) → RanAll mean from (s ∷ []) to [] → ⊥
no_replies mean from to s h = h

with_reply : (mean : Meaning) (from to : Image) (ss : List Statement) (rows : Bool) (answer : StatementResult) (rs : List StatementReply) → One rows ss →
    RanAll mean from ss to rs → last_reply (told_by_statement no_answer) rs ≡ told_by_statement answer → RanWithReply mean from ss to (reply_of rows answer)
with_reply mean from to ss true answer [] one ran e = absurd (no_replies mean from to one.0 (subst (λ l. RanAll mean from l to []) one.1 ran))
with_reply mean from to ss false answer [] one ran e = record { replies = []; ran = ran; last = ap (λ (x : StatementReply). result x.affected) (sym e) }
with_reply mean from to ss rows answer (r ∷ rs) one ran e = record { replies = r ∷ rs; ran = ran; last = last_some rows answer r rs e }

-- ---- the images of a written block

-- a language of one statement, that leads from one image to another
between : Image → Image → Meaning
between from to = record { runs = λ i s j r. (i ≡ from) × (j ≡ to); refuses = λ i s r. ⊥ }

some_statement : Statement
some_statement = record { text = []; params = [] }

some_reply : StatementReply
some_reply = record { affected = 0; columns = []; rows = [] }

ends_of : (from to i j : Image) (replies : List StatementReply) → RanAll (between from to) i (some_statement ∷ []) j replies → (i ≡ from) × (j ≡ to)
unfolding between
ends_of from to i j [] h = absurd h
ends_of from to i j (r ∷ []) h = (h.1.0.0, sym h.1.1 ∙ h.1.0.1)
ends_of from to i j (r ∷ s ∷ rs) h = absurd h.1.1

wrote_images : (log : List Entry) (applied term : ℕ) (name : List ℕ) (from to : Image) → applied ≤ length log → Calm name applied log →
    image_at log applied name ≡ from → takes (changed from to) ≡ true → IsShort to →
    let all = log ++ entries_of term (block_for log term name from to) in
    (image_at all (suc (length log) - 1) name ≡ from) × (image_at all (length log + length (block_for log term name from to)) name ≡ to)
unfolding between
wrote_images log applied term name from to low calm is fits short =
    let c = wrote_commit log applied term name from to low calm is fits short (between from to) (some_statement ∷ []) (some_reply ∷ [])
    (to, ((refl, refl), refl)) in
    ends_of from to _ _ c.replies c.ran

short_when : (from to : Image) → Led from to → no_pages (changed from to) ≡ false → IsShort to
short_when from to l differs = ⊎_elim
    (λ (e : to ≡ from). no (sym differs ∙ ap (λ i. no_pages (changed from i)) e ∙ changed_same from))
    (λ (e : IsShort to). e) l

-- ---- what comes of statements

module _ (mean : Meaning) (standing : Standing) (w : Node) (a : NodeOk mean w) (c : ℕ) (free : (w.gate.session c).flight ≡ None)
    (here : (w.gate.session c).there ≡ true) where
  outside_rests : (ss : List Statement) (rows : Bool) (end : Ending) → w.serving ≡ true → (w.gate.session c).tx ≡ None → One rows ss →
      RunsOk mean (newest_of w c) no_answer ss end →
      StatementsRest mean w c None ss (outside (view_of w standing) (databases w) w.gate c (w.gate.session c) ss rows end)
  unfolding outside outside_write
  outside_rests ss rows Lacking serves is one r = tt
  outside_rests ss rows (TooLarge answer) serves is one r =
      unless_ok _ (Refused DatabaseFull) (StatementsRest mean w c None ss) (λ why. tt) (λ e. tt)
  outside_rests ss rows (Stopped fault) serves is one r = tt
  outside_rests ss rows (Ended to answer) serves is one r =
      let db = (w.gate.session c).database in
      let base = newest_of w c in
      let ran = with_reply mean base to ss rows answer r.0 one r.1 r.2 in
      cond_both (no_pages (changed base to)) _ _ (StatementsRest mean w c None ss)
      (λ e. unless_ok (row_cause rows answer None) (Answers (w.gate.session c) (reply_of rows answer) (Outside db ss)) (StatementsRest mean w c None ss)
      (λ why. tt)
      (λ z. (is, subst (λ i. RanWithReply mean base ss i (reply_of rows answer)) (sym (unchanged base to e)) ran)))
      (λ e. unless_ok _ _ (StatementsRest mean w c None ss) (λ why. tt)
      (λ z.
      let f = first_none (log_full (view_of w standing)) LogFull
      (row_cause rows answer (change_refusal (databases w) w.gate c db (base_at w.log w.applied db).newest (changed base to) to)) z in
      let u = hindrance_none (databases w) w.gate c db (base_at w.log w.applied db).newest (changed base to) to (row_none rows answer _ f.1) in
      let images = wrote_images w.log w.applied w.term db base to a.applied (calm_here mean standing w a c free here db serves u.turn) refl u.fits
      (short_when base to r.3 e) in
      (refl, (_, refl, (refl, (to, record { before = images.0; after = images.1; term = refl }, ran))))))

  inside_rests : (x : Transaction) (ss : List Statement) (rows : Bool) (end : Ending) → One rows ss → RunsOk mean x.working no_answer ss end →
      StatementsRest mean w c (Some x) ss (inside (databases w) w.gate c (w.gate.session c) x ss rows end)
  unfolding inside
  inside_rests x ss rows Lacking one r = tt
  inside_rests x ss rows (TooLarge answer) one r = unless_ok _ (Refused DatabaseFull) (StatementsRest mean w c (Some x) ss) (λ why. tt) (λ e. tt)
  inside_rests x ss rows (Stopped fault) one r = tt
  inside_rests x ss rows (Ended to answer) one r =
      let ran = with_reply mean x.working to ss rows answer r.0 one r.1 r.2 in
      cond_both (no_pages (changed x.working to)) _ _ (StatementsRest mean w c (Some x) ss)
      (λ e. unless_ok (row_cause rows answer None) (Answers (worked (w.gate.session c) x to x.turn) (reply_of rows answer) (Inside x.name ss))
      (StatementsRest mean w c (Some x) ss) (λ why. tt)
      (λ z. (_, refl, record { name = refl; mark = refl; pinned = refl }, ran)))
      (λ e. unless_ok (row_cause rows answer (change_refusal (databases w) w.gate c x.name x.mark (changed x.working to) to))
      (Answers (worked (w.gate.session c) x to true) (reply_of rows answer) (Inside x.name ss)) (StatementsRest mean w c (Some x) ss) (λ why. tt)
      (λ z. (_, refl, record { name = refl; mark = refl; pinned = refl }, ran)))

  run_rests : (kind : EngineKind) (o : Option Transaction) (ss : List Statement) (rows : Bool) (answers : List Answer) → w.serving ≡ true →
      (w.gate.session c).tx ≡ o → One rows ss →
      AllowsAll mean kind (ground (databases w) (w.gate.session c) o) ss answers →
      StatementsRest mean w c o ss (run_in (view_of w standing) (databases w) w.gate c (w.gate.session c) o ss rows answers)
  run_rests kind None ss rows answers serves is one h = outside_rests ss rows _ serves is one (runs_ok mean kind ss _ no_answer answers h)
  run_rests kind (Some x) ss rows answers serves is one h = inside_rests x ss rows _ one (runs_ok mean kind ss x.working no_answer answers h)

  read_rests : (kind : EngineKind) (o : Option Transaction) (s : Statement) (answers : List Answer) → w.serving ≡ true → (w.gate.session c).tx ≡ o →
      AllowsAll mean kind (ground (databases w) (w.gate.session c) o) (s ∷ []) answers →
      StatementsRest mean w c o (s ∷ []) (read_in (view_of w standing) (databases w) w.gate c (w.gate.session c) o s answers)
  read_rests kind o s answers serves is h =
      read_in_both (StatementsRest mean w c o (s ∷ [])) (view_of w standing) (databases w) w.gate c (w.gate.session c) s o answers
      (λ e r. (e, refl, refl, refl))
      (run_rests kind o (s ∷ []) true answers serves is (s, refl) h)

  commit_rests : (o : Option Transaction) → w.serving ≡ true → (w.gate.session c).tx ≡ o → ((x : Transaction) → o ≡ Some x → x.turn ≡ false → x.working ≡
      x.pinned) →
      CommitRests w o (commit_in (view_of w standing) (databases w) w.gate c (w.gate.session c) o)
  unfolding committed
  commit_rests None serves is kept = tt
  commit_rests (Some x) serves is kept =
      let k = a.sessions c in
      let ok : TxOk mean w.log (w.trail c) x = subst (TxIs mean w.log (w.trail c)) is k.tx in
      cond_both (has_nothing x) _ _ (CommitRests w (Some x))
      (λ e. (
        refl,
        refl,
        ⊎_elim
            (λ (t : not x.turn ≡ true). kept x refl (off x.turn t))
            (λ (t : no_pages (changed x.pinned x.working) ≡ true). sym (unchanged x.pinned x.working t))
            (or_cases (not x.turn) (no_pages (changed x.pinned x.working)) e),
      ))
      (λ e. unless_ok _ _ (CommitRests w (Some x)) (λ why. tt)
      (λ z.
      let f = first_none (log_full (view_of w standing)) LogFull (change_refusal (databases w) w.gate c x.name x.mark
      (changed x.pinned x.working) x.working) z in
      let u = hindrance_none (databases w) w.gate c x.name x.mark (changed x.pinned x.working) x.working f.1 in
      let same : image_at w.log w.applied x.name ≡ x.pinned = (counts_between w.log (w.trail c).at w.applied x.name k.at).same (u.newest ∙ ok.mark)
      ∙ sym ok.pinned in
      let images = wrote_images w.log w.applied w.term x.name x.pinned x.working a.applied
      (calm_here mean standing w a c free here x.name serves u.turn) same u.fits
      (ok.led (or_parts (not x.turn) (no_pages (changed x.pinned x.working)) e).1) in
      (_, refl, refl, refl, record { before = images.0; after = images.1; term = refl }, u.newest)))
    where
      off : (b : Bool) → not b ≡ true → b ≡ false
      off false e = refl
      off true e = absurd (true≢false (sym e))

  does_rests : (kind : EngineKind) (x : Asked) (answers : List Answer) → w.serving ≡ true → ((x : Transaction) → (w.gate.session c).tx ≡ Some x → x.turn ≡
      false → x.working ≡ x.pinned) →
      AllowsFor mean kind (handed_for (databases w) (w.gate.session c) x) answers →
      RestsRight mean w c x (does (view_of w standing) (databases w) w.gate c (w.gate.session c) x answers)
  unfolding does
  does_rests kind (Begins at_once) answers serves kept h =
      cond_both (at_once && other_holds w.gate c (w.gate.session c).database) (Refused Locked) (Answers (begun (databases w) (w.gate.session c) at_once)
      (result 0) Began)
      (BeginRests w c) (λ e. tt) (λ e. (refl, (_, refl, refl, refl, refl, refl)))
  does_rests kind Commits answers serves kept h = commit_rests (w.gate.session c).tx serves refl kept
  does_rests kind (Runs ss) answers serves kept h = run_rests kind (w.gate.session c).tx ss false answers serves refl tt h
  does_rests kind (Reads s) answers serves kept h = reads_rests (waits_first (w.gate.session c)) refl h
    where
      reads_rests : (b : Bool) → waits_first (w.gate.session c) ≡ b →
          AllowsFor mean kind (cond b None (handed_over (ground (databases w) (w.gate.session c) (w.gate.session c).tx) (s ∷ []))) answers →
          StatementsRest mean w c (w.gate.session c).tx (s ∷ []) (cond b (barrier_first (view_of w standing) (w.gate.session c) s)
          (read_in (view_of w standing) (databases w) w.gate c (w.gate.session c) (w.gate.session c).tx s answers))
      reads_rests true e x = barrier_both (StatementsRest mean w c (w.gate.session c).tx (s ∷ [])) (view_of w standing) (databases w) w.gate c
          (w.gate.session c) s tt
          (none_is (w.gate.session c).tx (and_parts (w.gate.session c).barriers (is_none (w.gate.session c).tx) e).1, (_, refl, refl))
      reads_rests false e x = read_rests kind (w.gate.session c).tx s answers serves refl x
  does_rests kind x answers serves kept h = tt

  -- what a node that does not serve does for a session
  idle_rests : (x : Asked) (answers : List Answer) → IsIdle x → RestsRight mean w c x (does (view_of w standing) (databases w) w.gate c
      (w.gate.session c) x answers)
  unfolding does
  idle_rests (Begins at_once) answers h = absurd h
  idle_rests Commits answers h = absurd h
  idle_rests (Runs ss) answers h = absurd h
  idle_rests (Reads s) answers h = absurd h
  idle_rests x answers h = tt

  request_rests : (kind : EngineKind) (r : Request) (answers : List Answer) →
      ((x : Transaction) → (w.gate.session c).tx ≡ Some x → x.turn ≡ false → x.working ≡ x.pinned) →
      AllowsFor mean kind (handed (view_of w standing) (databases w) w.gate c r) answers →
      RestsRight mean w c (asked (view_of w standing) (databases w) w.gate c r) (on_request (view_of w standing) (databases w) w.gate c r answers)
  unfolding on_request handed
  request_rests kind r answers kept h = ⊎_elim
      (λ (on : w.serving ≡ true). does_rests kind (asked (view_of w standing) (databases w) w.gate c r) answers on kept h)
      (λ (off : w.serving ≡ false). idle_rests (asked (view_of w standing) (databases w) w.gate c r) answers
      (request_idle (view_of w standing) (databases w) w.gate c (w.gate.session c) off r))
      (cases_Bool w.serving)

  later_rests : (kind : EngineKind) (s : Statement) (answers : List Answer) →
      AllowsFor mean kind (handed_later (view_of w standing) (databases w) w.gate c s) answers →
      StatementsRest mean w c (w.gate.session c).tx (s ∷ []) (on_later (view_of w standing) (databases w) w.gate c s answers)
  unfolding on_later handed_later
  later_rests kind s answers = by w.serving refl
    where
      by : (b : Bool) → w.serving ≡ b → AllowsFor mean kind (cond b (handed_over (ground (databases w) (w.gate.session c) (w.gate.session c).tx)
          (s ∷ [])) None) answers →
          StatementsRest mean w c (w.gate.session c).tx (s ∷ [])
          (cond b (run_in (view_of w standing) (databases w) w.gate c (w.gate.session c) (w.gate.session c).tx (s ∷ []) true answers) (Refused NotLeader))
      by true e h = run_rests kind (w.gate.session c).tx (s ∷ []) true answers e refl (s, refl) h
      by false e h = tt

-- ---- what a reader answers

same_some : (x y : Reply) → Some x ≡ Some y → x ≡ y
same_some x y e = cc

none_some : (x : Reply) → None ≡ Some x → ⊥
none_some x e = cc

rows_rest : (mean : Meaning) (image : Image) (s : Statement) (o : Option Cause) (answer : StatementResult) → RanWithReply mean image (s ∷ []) image
    (Rows answer) → ReaderRests mean image s (rows_or o answer)
rows_rest mean image s None answer ran = ran
rows_rest mean image s (Some cause) answer ran = tt

reader_rests : (mean : Meaning) (job : Job) (end : Ending) (reply : Reply) → RunsOk mean job.image no_answer (job.statement ∷ []) end →
    job_reply job end ≡ Some reply → ReaderRests mean job.image job.statement reply
unfolding job_reply
reader_rests mean job Lacking reply r e = absurd (none_some reply e)
reader_rests mean job (TooLarge answer) reply r e = absurd (none_some reply e)
reader_rests mean job (Stopped fault) reply r e = subst (ReaderRests mean job.image job.statement) (same_some (Refusal (engine_cause fault)) reply e) tt
reader_rests mean job (Ended to answer) reply r e =
    let cause = rows_cause (parts_of answer.columns answer.rows) in
    cond_both (no_pages (changed job.image to)) (Some (rows_or cause answer)) None (λ o. o ≡ Some reply → ReaderRests mean job.image job.statement reply)
    (λ same q. subst (ReaderRests mean job.image job.statement) (same_some (rows_or cause answer) reply q) (rows_rest mean job.image job.statement cause answer
    (subst (λ i. RanWithReply mean job.image (job.statement ∷ []) i (Rows answer)) (sym (unchanged job.image to same))
    (with_reply mean job.image to (job.statement ∷ []) true answer r.0 (job.statement, refl) r.1 r.2))))
    (λ differs q. absurd (none_some reply q)) e

-- ---- lives

module _ (mean : Meaning) (kind : EngineKind) where
  fits_last : (w : Node) (es : List Event) (e : Event) → AllFit mean kind w (es ++ e ∷ []) → AllFit mean kind w es × Fits mean kind (run_from w es) e
  fits_last w [] e h = (tt, h.0)
  fits_last w (x ∷ es) e h = let r = fits_last (happens w x) es e h.1 in ((h.0, r.0), r.1)

  pub requests_rest_hold : RequestsRest mean kind
  unfolding may_ask
  requests_rest_hold log applied term es c standing r answers s h may =
      let w = run_from (started log applied term) es in
      let p = fits_last (started log applied term) es (Call c standing r answers) h in
      let a = run_ok mean kind (started log applied term) es p.0 (started_ok mean kind log applied term s.within s.woven) in
      let q = and_parts _ _ may in
      let f = and_parts _ _ q.0 in
      request_rests mean standing w a c (none_is (w.gate.session c).flight f.1) (and_parts _ _ f.0).0 kind r answers
      (changes_take_turns mean kind log applied term es s p.0 c) (p.1 may)

  pub later_queries_rest_hold : LaterQueriesRest mean kind
  later_queries_rest_hold log applied term es c standing statement answers s h is =
      let w = run_from (started log applied term) es in
      let p = fits_last (started log applied term) es (Resume c standing answers) h in
      let a = run_ok mean kind (started log applied term) es p.0 (started_ok mean kind log applied term s.within s.woven) in
      let here = later_there mean w c statement is a in
      let none = free_later (w.trail c).seen (w.trail c).at (w.gate.session c).later (w.gate.session c).flight statement is (a.sessions c).free in
      let same = undue_here w c in
      later_rests mean standing (undue w c) (undue_ok mean w c here none a) c (ap (λ (x : Session). x.flight) same ∙ none)
      (ap (λ (x : Session). x.there) same ∙ here)
      kind statement answers (subst (AllowsLater mean kind w c standing answers) is p.1)

  pub readers_rest_hold : ReadersRest mean kind
  readers_rest_hold log applied term es c answers statement reply s h is told =
      let w = run_from (started log applied term) es in
      let p = fits_last (started log applied term) es (Done c answers) h in
      reader_rests mean (job_at w c statement) _ reply
      (runs_ok mean kind (statement ∷ []) (job_at w c statement).image no_answer answers (subst (AllowsRead mean kind w c answers) is p.1)) told
