-- After an answer the client knows the session that is left.
use Rattle.std.proofs.Common.{◌≡◌, ℕ, zero, suc, Bool, true, false, true≢false, List, [], ◌∷◌, refl, sym, ap, ◌∙◌, subst, ⊎_elim}
use Rattle.std.specs.Prelude.{◌&&◌, ◌||◌, ◌==◌, not, is_none, Option, Some, None, if◌then◌else◌}
use Rattle.std.proofs.Math.Dec.{eqb-suc-zero, eqb-zero-suc, eqb-suc-suc}
use Rattle.std.proofs.lemmas.Bool.{cond_both}
use Rattle.dq_base.specs.Changes.{changed}
use Rattle.dq_base.specs.Images.{page_count}
use Rattle.database_state.specs.Files.{empty_image}
use Rattle.wire_msgs.specs.declared.request.Request.{Request}
use Rattle.wire_msgs.specs.declared.response.Response.{Response}
use Rattle.wire_msgs.specs.declared.response.Response.TheVariants as responses
use Rattle.sql_engine.specs.Replies.{Statement}
use Rattle.sql_engine.specs.declared.answer.StatementResult.{StatementResult}
use Rattle.session_spec.specs.Asking.{Asked, Never, Tells, Sets, Opens, Creates, Prepares, Drops, Forgets, Begins, Commits, RollsBack, Changes, Runs, Reads, asked}
use Rattle.session_spec.specs.Allowed.{IsFailure, IsAllowed}
use Rattle.session_spec.specs.Causes.{NotLeader, failure, LogFull, DatabaseFull}
use Rattle.log_commands.specs.declared.command.Command.TheVariants.{OpenDb}
use Rattle.session_spec.specs.Entries.{Content, Does, Configures, Other}
use Rattle.session_spec.specs.Engines.{Answer, no_pages, Ending, Lacking, TooLarge, Stopped, Ended}
use Rattle.session_spec.specs.Laws.{IsRefusal}
use Rattle.session_spec.specs.Limits.{other_holds, pages_full, log_full, first_cause, change_refusal}
use Rattle.session_spec.specs.Machine.{Machine}
use Rattle.session_spec.specs.Requests.{with_flight, with_barriers, with_statements, with_lost, flying, change_of, row_cause, reply_of, outside_write, outside, inside, run_in, has_nothing, committed, commit_in, worked, does, on_request}
use Rattle.session_spec.specs.Sessions.{Reply, Single, Prepared, Opening, Configuring, Writing, Committing, Querying, Flight, Transaction, Session, Gateway, View, in_tx, Inside, Outside, Nothing, Turned, Refused, Answers, Proposes}
use Rattle.session_spec.specs.Statements.{prepared_at, free_id, with_prepared, without_prepared}
use Rattle.session_spec.proofs.Asked.{all_allowed}
use Rattle.session_safety.proofs.Calls.{unless_ok}
use Rattle.session_safety.proofs.Ways.{read_in_both, barrier_both, reads_both}
use Rattle.headline.specs.Clients.{Client, is_idle, Idle, Begun, Lost, Purpose, purpose, ran_at, after_result, after_refusal}
use Rattle.headline.specs.Clients as client
use Rattle.client_view_safety.specs.Views.{is_lost, KnowsSession, IsToldFor, IsEndFor, IsAskedFor, KnowsLanded, KnowsAfter, AnswersKeepViews}
use Rattle.client_view_safety.proofs.Asking.{BeginsUnlost, request_asked, request_begins}

-- ---- prepared statements

at_new : (p : Prepared) (os : List (Option Prepared)) (id : ℕ) →
    prepared_at (with_prepared p os) id ≡ (if id == free_id os then Some p else prepared_at os id)
at_new p [] zero = refl
at_new p [] (suc id) = sym (ap (λ (b : Bool). if b then Some p else None) (eqb-suc-zero id))
at_new p (None ∷ os) zero = refl
at_new p (None ∷ os) (suc id) = sym (ap (λ (b : Bool). if b then Some p else prepared_at os id) (eqb-suc-zero id))
at_new p (Some q ∷ os) zero = sym (ap (λ (b : Bool). if b then Some p else Some q) (eqb-zero-suc (free_id os)))
at_new p (Some q ∷ os) (suc id) = at_new p os id ∙ sym (ap (λ (b : Bool). if b then Some p else prepared_at os id) (eqb-suc-suc id (free_id os)))

none_both : (b : Bool) (o : Option Prepared) → o ≡ (if b then o else o)
none_both true o = refl
none_both false o = refl

at_none : (os : List (Option Prepared)) (one id : ℕ) → prepared_at (without_prepared one os) id ≡ (if id == one then None else prepared_at os id)
at_none [] zero zero = refl
at_none [] zero (suc id) = none_both (suc id == 0) None
at_none [] (suc one) zero = none_both (0 == suc one) None
at_none [] (suc one) (suc id) = none_both (suc id == suc one) None
at_none (o ∷ os) zero zero = refl
at_none (o ∷ os) zero (suc id) = sym (ap (λ (b : Bool). if b then None else prepared_at os id) (eqb-suc-zero id))
at_none (o ∷ os) (suc one) zero = sym (ap (λ (b : Bool). if b then None else o) (eqb-zero-suc one))
at_none (o ∷ os) (suc one) (suc id) = at_none os one id ∙ sym (ap (λ (b : Bool). if b then None else prepared_at os id) (eqb-suc-suc id one))

-- ---- what is left

flight_is : (one f : Flight) → Some one ≡ Some f → one ≡ f
flight_is one f e = cc

ran_idle : (place : ℕ) (t : client.Transaction) → is_idle (ran_at place t) ≡ is_idle t
ran_idle place Idle = refl
ran_idle place (Begun begin last) = refl
ran_idle place Lost = refl

ran_lost : (place : ℕ) (t : client.Transaction) → is_lost (ran_at place t) ≡ is_lost t
ran_lost place Idle = refl
ran_lost place (Begun begin last) = refl
ran_lost place Lost = refl

reply_plain : (rows : Bool) (answer : StatementResult) → IsRefusal (reply_of rows answer) → ⊥
reply_plain true answer h = h
reply_plain false answer h = h

module _ (k : Client) (place : ℕ) (s : Session) (h : KnowsSession k s) where
  abbrev IsKept : Purpose → Turned → Type 0
  IsKept p t = KnowsAfter k place p t

  -- an open transaction isn't lost
  open_here : in_tx s ≡ true → s.lost ≡ false
  open_here e = by s.lost refl
    where
      by : (b : Bool) → s.lost ≡ b → b ≡ false
      by true lost = absurd (true≢false (sym e ∙ h.closed lost))
      by false lost = refl

  -- without a transaction
  idle_kept : (t : Session) → t.database ≡ s.database → t.barriers ≡ s.barriers → t.statements ≡ s.statements → in_tx t ≡ false → t.lost ≡ false →
      KnowsSession (record k { transaction = Idle }) t
  idle_kept t name barriers statements tx lost = record {
    name = h.name ∙ sym name;
    barriers = h.barriers ∙ sym barriers;
    prepared = λ id. h.prepared id ∙ ap (λ os. prepared_at os id) (sym statements);
    idle = sym (ap (λ (b : Bool). not (b || t.lost)) tx ∙ ap not lost);
    lost = λ e. absurd (true≢false (sym e));
    closed = λ e. tx;
  }

  told_kept : (m : Machine) (p : Purpose) (response : Response) → (IsFailure response → ⊥) → IsToldFor m p response →
      IsKept p (Answers s (Single response) Nothing)
  told_kept m p response plain told = ((λ answer sent. kept answer), (λ refused. absurd (plain refused)))
    where
      kept : (answer : List Response) → KnowsSession (after_result k place answer p) s
      kept answer = ⊎_elim
          (λ (e : p ≡ client.Other). subst (λ q. KnowsSession (after_result k place answer q) s) (sym e) h)
          (λ r. ⊎_elim
          (λ (e : (p ≡ client.Empties) × (response ≡ responses.Empty)). subst (λ q. KnowsSession (after_result k place answer q) s) (sym e.0) h)
          (λ (name, e, same). subst (λ q. KnowsSession (after_result k place answer q) s) (sym e) h) r)
          told

  -- a lost transaction ends
  end_kept : (p : Purpose) (response : Response) → s.lost ≡ true → IsEndFor p response → IsKept p (Answers (with_lost s false) (Single response) Nothing)
  end_kept p response e is = ⊎_elim
      (λ (c : (p ≡ client.Commits) × (response ≡ failure NotLeader)).
      subst (λ q. IsKept q (Answers (with_lost s false) (Single response) Nothing)) (sym c.0)
      ((λ answer sent. ended), (λ refused. ended)))
      (λ (r : (p ≡ client.RollsBack) × (response ≡ responses.Result 0 0)).
      subst (λ q. IsKept q (Answers (with_lost s false) (Single response) Nothing)) (sym r.0)
      ((λ answer sent. ended), (λ refused. absurd (subst IsFailure r.1 refused))))
      is
    where
      ended : KnowsSession (record k { transaction = Idle }) (with_lost s false)
      ended = idle_kept (with_lost s false) refl refl refl (h.closed e) refl

  ran_kept : (rows : Bool) (ss : List Statement) (t : Session) (answer : List Response) → t.database ≡ s.database → t.barriers ≡ s.barriers →
      t.statements ≡ s.statements → in_tx t ≡ in_tx s → t.lost ≡ s.lost → KnowsSession (after_result k place answer (client.Runs rows ss)) t
  ran_kept rows ss t answer name barriers statements tx lost = record {
    name = h.name ∙ sym name;
    barriers = h.barriers ∙ sym barriers;
    prepared = λ id. h.prepared id ∙ ap (λ os. prepared_at os id) (sym statements);
    idle = ran_idle place k.transaction ∙ h.idle ∙ sym (ap (λ (b : Bool). not (b || t.lost)) tx ∙ ap (λ (b : Bool). not (in_tx s || b)) lost);
    lost = λ e. lost ∙ h.lost (sym (ran_lost place k.transaction) ∙ e);
    closed = λ e. tx ∙ h.closed (sym lost ∙ e);
  }

  write_kept : (v : View) (all : List Statement) (told : Bool) (name : List ℕ) (contents : List Content) (pages : ℕ) (reply : Reply) (f : Flight) →
      (flying v s name contents pages (Writing reply)).flight ≡ Some f → (answer : List Response) →
      KnowsLanded (after_result k place answer (client.Runs told all)) (flying v s name contents pages (Writing reply)) f f.kind
  write_kept v all told name contents pages reply f flies answer =
      subst (λ (y : Flight). KnowsLanded (after_result k place answer (client.Runs told all)) (flying v s name contents pages (Writing reply)) y y.kind)
      (flight_is _ f flies)
      (ran_kept told all (with_flight (flying v s name contents pages (Writing reply)) None) answer refl refl refl refl refl)

  outside_kept : (v : View) (m : Machine) (g : Gateway) (c : ℕ) (all : List Statement) (told : Bool) (ss : List Statement) (rows : Bool) (end : Ending) →
      IsKept (client.Runs told all) (outside v m g c s ss rows end)
  unfolding outside outside_write
  outside_kept v m g c all told ss rows Lacking = tt
  outside_kept v m g c all told ss rows (TooLarge answer) = unless_ok _ (Refused DatabaseFull) (IsKept (client.Runs told all)) (λ why. tt) (λ e. tt)
  outside_kept v m g c all told ss rows (Stopped fault) = tt
  outside_kept v m g c all told ss rows (Ended to answer) =
      cond_both (no_pages (changed (m.base s.database).image to)) _ _ (IsKept (client.Runs told all))
      (λ p. unless_ok (row_cause rows answer None) (Answers s (reply_of rows answer) (Outside s.database ss)) (IsKept (client.Runs told all)) (λ why. tt)
      (λ e. (
        (λ sent is. ran_kept told all s sent refl refl refl refl refl),
        (λ refused. absurd (reply_plain rows answer refused)),
      )))
      (λ p. unless_ok (first_cause (log_full v) LogFull (row_cause rows answer (change_refusal m g c s.database (m.base s.database).newest
      (changed (m.base s.database).image to) to)))
      (Proposes (flying v s s.database (change_of v s.database (changed (m.base s.database).image to)) (page_count to) (Writing (reply_of rows answer)))
      (change_of v s.database (changed (m.base s.database).image to)) (Outside s.database ss)) (IsKept (client.Runs told all)) (λ why. tt)
      (λ e. write_kept v all told s.database (change_of v s.database (changed (m.base s.database).image to)) (page_count to) (reply_of rows answer)))

  inside_kept : (m : Machine) (g : Gateway) (c : ℕ) (x : Transaction) (all : List Statement) (told : Bool) (ss : List Statement) (rows : Bool) (end : Ending) →
      s.tx ≡ Some x → IsKept (client.Runs told all) (inside m g c s x ss rows end)
  unfolding inside
  inside_kept m g c x all told ss rows Lacking is = tt
  inside_kept m g c x all told ss rows (TooLarge answer) is = unless_ok _ (Refused DatabaseFull) (IsKept (client.Runs told all)) (λ why. tt) (λ e. tt)
  inside_kept m g c x all told ss rows (Stopped fault) is = tt
  inside_kept m g c x all told ss rows (Ended to answer) is =
      cond_both (no_pages (changed x.working to)) _ _ (IsKept (client.Runs told all))
      (λ p. unless_ok (row_cause rows answer None) (Answers (worked s x to x.turn) (reply_of rows answer) (Inside x.name ss)) (IsKept (client.Runs told all))
      (λ why. tt) (λ e. (
        (λ sent z. ran_kept told all (worked s x to x.turn) sent refl refl refl (sym (ap (λ (o : Option Transaction). not (is_none o)) is)) refl),
        (λ refused. absurd (reply_plain rows answer refused)),
      )))
      (λ p. unless_ok (row_cause rows answer (change_refusal m g c x.name x.mark (changed x.working to) to))
      (Answers (worked s x to true) (reply_of rows answer) (Inside x.name ss)) (IsKept (client.Runs told all))
      (λ why. tt) (λ e. (
        (λ sent z. ran_kept told all (worked s x to true) sent refl refl refl (sym (ap (λ (o : Option Transaction). not (is_none o)) is)) refl),
        (λ refused. absurd (reply_plain rows answer refused)),
      )))

  run_kept : (v : View) (m : Machine) (g : Gateway) (c : ℕ) (o : Option Transaction) (all : List Statement) (told : Bool) (ss : List Statement) (rows : Bool)
      (answers : List Answer) → s.tx ≡ o → IsKept (client.Runs told all) (run_in v m g c s o ss rows answers)
  run_kept v m g c None all told ss rows answers is = outside_kept v m g c all told ss rows _
  run_kept v m g c (Some x) all told ss rows answers is = inside_kept m g c x all told ss rows _ is

  commit_kept : (v : View) (m : Machine) (g : Gateway) (c : ℕ) (o : Option Transaction) → s.lost ≡ false → IsKept client.Commits (commit_in v m g c s o)
  unfolding committed
  commit_kept v m g c None free = tt
  commit_kept v m g c (Some x) free =
      cond_both (has_nothing x) _ _ (IsKept client.Commits)
      (λ p. (
        (λ answer sent. idle_kept _ refl refl refl refl free),
        (λ refused. absurd refused),
      ))
      (λ p. unless_ok (first_cause (log_full v) LogFull (change_refusal m g c x.name x.mark (changed x.pinned x.working) x.working))
      (Proposes (flying v s x.name (change_of v x.name (changed x.pinned x.working)) (page_count x.working) Committing)
      (change_of v x.name (changed x.pinned x.working)) Nothing) (IsKept client.Commits) (λ why. tt)
      (λ e f flies answer. subst (λ (y : Flight). KnowsLanded (after_result k place answer client.Commits)
      (flying v s x.name (change_of v x.name (changed x.pinned x.working)) (page_count x.working) Committing) y y.kind) (flight_is _ f flies)
      (idle_kept _ refl refl refl refl free)))

  -- what is done is what the message asks for
  does_kept : (v : View) (m : Machine) (g : Gateway) (c : ℕ) (r : Request) (p : Purpose) (x : Asked) (answers : List Answer) → IsAllowed v g s r x →
      BeginsUnlost m s.lost x → IsAskedFor m p x → IsKept p (does v m g c s x answers)
  unfolding does
  does_kept v m g c r p (Never cause) answers may begins is = tt
  does_kept v m g c r p (Tells response) answers may begins is = told_kept m p response may is
  does_kept v m g c r p (Sets effect) answers may begins is = tt
  does_kept v m g c r p (Opens name barriers) answers may begins is =
      subst (λ q. IsKept q (does v m g c s (Opens name barriers) answers)) (sym is) (
        (λ answer sent. record { name = refl; barriers = refl; prepared = h.prepared; idle = h.idle; lost = h.lost; closed = h.closed }),
        (λ refused. absurd refused),
      )
  does_kept v m g c r p (Creates name barriers) answers may begins is =
      subst (λ q. IsKept q (does v m g c s (Creates name barriers) answers)) (sym is)
      (cond_both (pages_full m g name empty_image) _ _ (IsKept (client.Opens name barriers)) (λ e. tt)
      (λ e f flies answer. subst (λ (y : Flight). KnowsLanded (after_result k place answer (client.Opens name barriers))
      (flying v (with_barriers s barriers) name (Does (OpenDb name) ∷ []) 0 Opening) y y.kind) (flight_is _ f flies)
      (record { name = refl; barriers = refl; prepared = h.prepared; idle = h.idle; lost = h.lost; closed = h.closed })))
  does_kept v m g c r p (Prepares q tail) answers may begins is =
      subst (λ w. IsKept w (does v m g c s (Prepares q tail) answers)) (sym is) (
        (λ answer sent. subst (λ a. KnowsSession (after_result k place a (client.Prepares q tail))
            (with_statements s (with_prepared q s.statements))) (sym sent)
            (record {
              name = h.name;
              barriers = h.barriers;
              prepared = λ id. ap (λ o. if id == free_id s.statements then Some q else o) (h.prepared id) ∙ sym (at_new q s.statements id);
              idle = h.idle;
              lost = h.lost;
              closed = h.closed;
            })),
        (λ refused. absurd refused),
      )
  does_kept v m g c r p (Drops one) answers may begins is =
      subst (λ w. IsKept w (does v m g c s (Drops one) answers)) (sym is) (
        (λ answer sent. record {
          name = h.name;
          barriers = h.barriers;
          prepared = λ id. ap (λ o. if id == one then None else o) (h.prepared id) ∙ sym (at_none s.statements one id);
          idle = h.idle;
          lost = h.lost;
          closed = h.closed;
        }),
        (λ refused. absurd refused),
      )
  does_kept v m g c r p (Forgets response) answers may begins is = end_kept p response may.lost is
  does_kept v m g c r p (Begins at_once) answers may begins is =
      subst (λ w. IsKept w (does v m g c s (Begins at_once) answers)) (sym is)
      (cond_both (at_once && other_holds g c s.database) _ _ (IsKept client.Begins) (λ e. tt)
      (λ e. (
        (λ answer sent. record {
          name = h.name;
          barriers = h.barriers;
          prepared = h.prepared;
          idle = refl;
          lost = λ x. absurd (true≢false (sym x));
          closed = λ lost. absurd (true≢false (sym lost ∙ begins));
        }),
        (λ refused. absurd refused),
      )))
  does_kept v m g c r p Commits answers may begins is =
      subst (λ w. IsKept w (does v m g c s Commits answers)) (sym is) (commit_kept v m g c s.tx (open_here may.1))
  does_kept v m g c r p RollsBack answers may begins is =
      subst (λ w. IsKept w (does v m g c s RollsBack answers)) (sym is) (
        (λ answer sent. idle_kept _ refl refl refl refl (open_here may.1)),
        (λ refused. absurd refused),
      )
  does_kept v m g c r p (Changes servers short) answers may begins is =
      subst (λ q. IsKept q (does v m g c s (Changes servers short) answers)) (sym is)
      (cond_both (log_full v) _ _ (IsKept client.Empties) (λ e. tt)
      (λ e f flies answer. subst (λ (y : Flight). KnowsLanded k (flying v s [] (Configures servers ∷ []) 0 (Configuring short)) y y.kind) (flight_is _ f flies)
      (record { name = h.name; barriers = h.barriers; prepared = h.prepared; idle = h.idle; lost = h.lost; closed = h.closed })))
  does_kept v m g c r p (Runs ss) answers may begins is =
      subst (λ w. IsKept w (does v m g c s (Runs ss) answers)) (sym is) (run_kept v m g c s.tx ss false ss false answers refl)
  does_kept v m g c r p (Reads statement) answers may begins is =
      subst (λ w. IsKept w (does v m g c s (Reads statement) answers)) (sym is)
      (reads_both (IsKept (client.Runs true (statement ∷ []))) v m g c s statement answers
      (λ e. barrier_both (IsKept (client.Runs true (statement ∷ []))) v m g c s statement tt
      (λ f flies answer. subst (λ (y : Flight). KnowsLanded (after_result k place answer (client.Runs true (statement ∷ [])))
      (flying v s [] (Other ∷ []) 0 (Querying statement)) y y.kind) (flight_is _ f flies) tt))
      (λ e. read_in_both (IsKept (client.Runs true (statement ∷ []))) v m g c s statement s.tx answers (λ o r. tt)
      (run_kept v m g c s.tx (statement ∷ []) true (statement ∷ []) true answers refl)))

pub answers_keep_views_hold : AnswersKeepViews
unfolding on_request
answers_keep_views_hold v m g c place k r answers h =
    does_kept k place (g.session c) h v m g c r (purpose k (Some r)) (asked v m g c r) answers (all_allowed v m g c (g.session c) r)
    (request_begins m v g c (g.session c) k h r) (request_asked m v g c (g.session c) k h r)
