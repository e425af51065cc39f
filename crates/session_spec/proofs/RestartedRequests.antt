-- A request gives the same wherever the counts of commits begin.
use Rattle.std.proofs.Common.{◌≡◌, ◌≢◌, ℕ, ◌+◌, Bool, true, false, cond, List, [], ◌∷◌, refl, sym, ap, ◌∙◌, ⊎_elim, arith}
use Rattle.std.specs.Prelude.{◌==◌, ◌&&◌, ◌||◌, not, is_none, Option, Some, None}
use Rattle.std.specs.Option.{option_map}
use Rattle.std.specs.List.{list_any}
use Rattle.std.proofs.lemmas.Bool.{ne_eqb, eq-eqb, cases_eq}
use Rattle.dq_base.specs.declared.images.Image.{Image}
use Rattle.dq_base.specs.declared.pages.NumberedPage.{NumberedPage}
use Rattle.dq_base.specs.Images.{page_count}
use Rattle.dq_base.specs.Changes.{changed}
use Rattle.database_state.specs.Files.{empty_image}
use Rattle.sql_scan.specs.Statements.{scan_of}
use Rattle.sql_engine.specs.Replies.{Statement}
use Rattle.wire_msgs.specs.declared.request.Request.{Request}
use Rattle.wire_msgs.specs.declared.request.Request.TheVariants as requests
use Rattle.session_spec.specs.Asking as asking
use Rattle.session_spec.specs.Asking.{Asked, Never, Tells, Sets, Opens, Creates, Prepares, Drops, Forgets, Begins, Commits, RollsBack, Changes, Runs, Reads, asks_lost, unless_lost, asked_unless_lost, asked_by}
use Rattle.session_spec.specs.Causes.{Cause, NotLeader, LogFull, Locked, OutOfDate, DatabaseFull}
use Rattle.session_spec.specs.Engines.{Answer, no_pages, Ending, Lacking, TooLarge, Stopped, Ended, no_answer, runs}
use Rattle.session_spec.specs.Entries.{Other}
use Rattle.session_spec.specs.Limits.{holds_write_lock, writes_to, holds, other_holds, change_in_flight, all_names, one_too_many, pending_pages, pages_with, pages_full, too_full, log_full, first_cause, change_refusal, hinders_in, write_hindrance}
use Rattle.session_spec.specs.Machine.{Machine}
use Rattle.session_spec.specs.Requests.{begun, worked, flying, unless, row_cause, reply_of, change_of, outside_write, outside, inside, run_in, with_later, job_of, was_cut, read_in, waits_first, barrier_first, has_nothing, committed, commit_in, ground, does, on_request, on_later, handed_later, handed_over, handed_for, handed, with_tx}
use Rattle.session_spec.specs.Sessions.{Lent, Session, Gateway, View, Transaction, Turned, Refused, Answers, Proposes, Lends, Querying, Nothing, Began, Inside, Outside, Writing, Committing, result}
use Rattle.session_spec.specs.Statements.{prepared_at}
use Rattle.session_spec.specs.Restarts.{shifted_tx, shifted_session, shifted, restarted, shifted_turned, RequestSame, CountsRestart, LaterSame, LatersRestart}

same_sums : (k a b : ℕ) → (k + a == k + b) ≡ (a == b)
same_sums k a b = ⊎_elim
    (λ (e : a ≡ b). eq-eqb (k + a) (k + b) (ap (λ n. k + n) e) ∙ sym (eq-eqb a b e))
    (λ (e : a ≢ b). ne_eqb (k + a) (k + b) (λ q. e (omega arith)) ∙ sym (ne_eqb a b e))
    (cases_eq a b)

module _ (lacks since : List ℕ → ℕ) where
  none_same : (o : Option Transaction) → is_none (option_map (shifted_tx lacks) o) ≡ is_none o
  none_same None = refl
  none_same (Some x) = refl

  turn_same : (o : Option Transaction) (name : List ℕ) → holds_write_lock (option_map (shifted_tx lacks) o) name ≡ holds_write_lock o name
  turn_same None name = refl
  turn_same (Some x) name = refl

  if_turned : (b : Bool) (x y : Turned) → cond b (shifted_turned lacks x) (shifted_turned lacks y) ≡ shifted_turned lacks (cond b x y)
  if_turned true x y = refl
  if_turned false x y = refl

  unless_turned : (o : Option Cause) (t : Turned) → unless o (shifted_turned lacks t) ≡ shifted_turned lacks (unless o t)
  unless_turned None t = refl
  unless_turned (Some cause) t = refl

  module _ (v : View) (m : Machine) (g : Gateway) (c : ℕ) where
    other_same : (name : List ℕ) → other_holds (shifted lacks g) c name ≡ other_holds g c name
    unfolding other_holds holds
    other_same name = ap (λ (f : ℕ → Bool). list_any f g.conns) (λ i. λ d. not (d == c) && (writes_to (g.session d).flight name || turn_same (g.session d).tx name i))

    hindrance_same : (name : List ℕ) (mark : ℕ) (pages : List NumberedPage) (to : Image) → change_refusal (restarted lacks since m) (shifted lacks g) c name (lacks name + mark) pages to ≡ change_refusal m g c name mark pages to
    unfolding change_refusal too_full pages_with pending_pages all_names
    hindrance_same name mark pages to =
        ap (λ b. first_cause b Locked (first_cause (not (lacks name + (m.base name).newest == lacks name + mark)) OutOfDate (first_cause (too_full m g name pages to) DatabaseFull None))) (other_same name)
        ∙ ap (λ b. first_cause (other_holds g c name) Locked (first_cause (not b) OutOfDate (first_cause (too_full m g name pages to) DatabaseFull None))) (same_sums (lacks name) (m.base name).newest mark)

    hinders_same : (s : Session) (o : Option Transaction) → hinders_in (restarted lacks since m) (shifted lacks g) c (shifted_session lacks s) (option_map (shifted_tx lacks) o) ≡ hinders_in m g c s o
    hinders_same s None = ap (λ b. first_cause b Locked None) (other_same s.database)
    hinders_same s (Some x) =
        ap (λ b. first_cause b Locked (first_cause (not (lacks x.name + (m.base x.name).newest == lacks x.name + x.mark)) OutOfDate None)) (other_same x.name)
        ∙ ap (λ b. first_cause (other_holds g c x.name) Locked (first_cause (not b) OutOfDate None)) (same_sums (lacks x.name) (m.base x.name).newest x.mark)

    write_same : (s : Session) → write_hindrance (restarted lacks since m) (shifted lacks g) c (shifted_session lacks s) ≡ write_hindrance m g c s
    unfolding write_hindrance
    write_same s = hinders_same s s.tx

    unlost_same : (s : Session) (r : Request) → asked_unless_lost v (restarted lacks since m) (shifted lacks g) c (shifted_session lacks s) r ≡ asked_unless_lost v m g c s r
    unfolding asked_unless_lost one_too_many all_names change_in_flight
    unlost_same s requests.Leader = refl
    unlost_same s (requests.Client id) = refl
    unlost_same s (requests.Open name flags vfs) = refl
    unlost_same s (requests.Prepare number sql wide) = refl
    unlost_same s (requests.Exec number id params wide) =
        ap (λ o. asking.at_leader v (asking.in_database s number (asking.asks_exec o (not (is_none (option_map (shifted_tx lacks) s.tx))) (prepared_at s.statements id) params))) (write_same s)
        ∙ ap (λ b. asking.at_leader v (asking.in_database s number (asking.asks_exec (write_hindrance m g c s) (not b) (prepared_at s.statements id) params))) (none_same s.tx)
    unlost_same s (requests.Query number id params wide) = ap (λ o. asking.at_leader v (asking.in_database s number (asking.asks_prepared_query o (prepared_at s.statements id) params))) (write_same s)
    unlost_same s (requests.Finalize number id) = refl
    unlost_same s (requests.ExecSql number sql params wide) =
        ap (λ o. asking.at_leader v (asking.in_database s number (asking.asks_text o (not (is_none (option_map (shifted_tx lacks) s.tx))) sql (scan_of sql) params))) (write_same s)
        ∙ ap (λ b. asking.at_leader v (asking.in_database s number (asking.asks_text (write_hindrance m g c s) (not b) sql (scan_of sql) params))) (none_same s.tx)
    unlost_same s (requests.QuerySql number sql params wide) = ap (λ o. asking.at_leader v (asking.in_database s number (asking.asks_rows o sql (scan_of sql) params))) (write_same s)
    unlost_same s (requests.Interrupt number) = refl
    unlost_same s (requests.Connect id address) = refl
    unlost_same s (requests.Add id address) = refl
    unlost_same s (requests.Assign id role) = refl
    unlost_same s (requests.Remove id) = refl
    unlost_same s (requests.Dump name) = refl
    unlost_same s (requests.Cluster format) = refl
    unlost_same s (requests.Transfer id) = refl
    unlost_same s (requests.Describe format) = refl
    unlost_same s (requests.Weight weight) = refl

    lost_same : (s : Session) (r : Request) → asks_lost (shifted_session lacks s) r ≡ asks_lost s r
    lost_same s requests.Leader = refl
    lost_same s (requests.Client id) = refl
    lost_same s (requests.Open name flags vfs) = refl
    lost_same s (requests.Prepare number sql wide) = refl
    lost_same s (requests.Exec number id params wide) = refl
    lost_same s (requests.Query number id params wide) = refl
    lost_same s (requests.Finalize number id) = refl
    lost_same s (requests.ExecSql number sql params wide) = refl
    lost_same s (requests.QuerySql number sql params wide) = refl
    lost_same s (requests.Interrupt number) = refl
    lost_same s (requests.Connect id address) = refl
    lost_same s (requests.Add id address) = refl
    lost_same s (requests.Assign id role) = refl
    lost_same s (requests.Remove id) = refl
    lost_same s (requests.Dump name) = refl
    lost_same s (requests.Cluster format) = refl
    lost_same s (requests.Transfer id) = refl
    lost_same s (requests.Describe format) = refl
    lost_same s (requests.Weight weight) = refl

    asked_same : (s : Session) (r : Request) → asked_by v (restarted lacks since m) (shifted lacks g) c (shifted_session lacks s) r ≡ asked_by v m g c s r
    unfolding asked_by
    asked_same s r =
        ap (λ o. unless_lost s.lost o (asked_unless_lost v (restarted lacks since m) (shifted lacks g) c (shifted_session lacks s) r)) (lost_same s r)
        ∙ ap (λ a. unless_lost s.lost (asks_lost s r) a) (unlost_same s r)

    outside_same : (s : Session) (ss : List Statement) (rows : Bool) (end : Ending) → outside v (restarted lacks since m) (shifted lacks g) c (shifted_session lacks s) ss rows end ≡ shifted_turned lacks (outside v m g c s ss rows end)
    unfolding outside outside_write
    outside_same s ss rows Lacking = refl
    outside_same s ss rows (TooLarge answer) =
        let b = (m.base s.database) in
        ap (λ o. unless (first_cause (log_full v) LogFull (row_cause rows answer o)) (Refused DatabaseFull)) (hindrance_same s.database b.newest answer.after.pages b.image)
        ∙ unless_turned _ (Refused DatabaseFull)
    outside_same s ss rows (Stopped fault) = refl
    outside_same s ss rows (Ended to answer) =
        let b = (m.base s.database) in
        let pages = changed b.image to in
        let t = Proposes (flying v s s.database (change_of v s.database pages) (page_count to) (Writing (reply_of rows answer))) (change_of v s.database pages) (Outside s.database ss) in
        let a = Answers s (reply_of rows answer) (Outside s.database ss) in
        let o = change_refusal m g c s.database b.newest pages to in
        ap (λ x. cond (no_pages pages) (unless (row_cause rows answer None) (shifted_turned lacks a)) (unless (first_cause (log_full v) LogFull (row_cause rows answer x)) (shifted_turned lacks t))) (hindrance_same s.database b.newest pages to)
        ∙ ap (λ x. cond (no_pages pages) x (unless (first_cause (log_full v) LogFull (row_cause rows answer o)) (shifted_turned lacks t))) (unless_turned (row_cause rows answer None) a)
        ∙ ap (λ x. cond (no_pages pages) (shifted_turned lacks (unless (row_cause rows answer None) a)) x) (unless_turned (first_cause (log_full v) LogFull (row_cause rows answer o)) t)
        ∙ if_turned (no_pages pages) (unless (row_cause rows answer None) a) (unless (first_cause (log_full v) LogFull (row_cause rows answer o)) t)

    inside_same : (s : Session) (x : Transaction) (ss : List Statement) (rows : Bool) (end : Ending) → inside (restarted lacks since m) (shifted lacks g) c (shifted_session lacks s) (shifted_tx lacks x) ss rows end ≡ shifted_turned lacks (inside m g c s x ss rows end)
    unfolding inside
    inside_same s x ss rows Lacking = refl
    inside_same s x ss rows (TooLarge answer) =
        ap (λ o. unless (row_cause rows answer o) (Refused DatabaseFull)) (hindrance_same x.name x.mark answer.after.pages x.working)
        ∙ unless_turned _ (Refused DatabaseFull)
    inside_same s x ss rows (Stopped fault) = refl
    inside_same s x ss rows (Ended to answer) =
        let pages = changed x.working to in
        let a = Answers (worked s x to x.turn) (reply_of rows answer) (Inside x.name ss) in
        let t = Answers (worked s x to true) (reply_of rows answer) (Inside x.name ss) in
        let o = change_refusal m g c x.name x.mark pages to in
        ap (λ y. cond (no_pages pages) (unless (row_cause rows answer None) (shifted_turned lacks a)) (unless (row_cause rows answer y) (shifted_turned lacks t))) (hindrance_same x.name x.mark pages to)
        ∙ ap (λ y. cond (no_pages pages) y (unless (row_cause rows answer o) (shifted_turned lacks t))) (unless_turned (row_cause rows answer None) a)
        ∙ ap (λ y. cond (no_pages pages) (shifted_turned lacks (unless (row_cause rows answer None) a)) y) (unless_turned (row_cause rows answer o) t)
        ∙ if_turned (no_pages pages) (unless (row_cause rows answer None) a) (unless (row_cause rows answer o) t)

    run_same : (s : Session) (o : Option Transaction) (ss : List Statement) (rows : Bool) (answers : List Answer) → run_in v (restarted lacks since m) (shifted lacks g) c (shifted_session lacks s) (option_map (shifted_tx lacks) o) ss rows answers ≡ shifted_turned lacks (run_in v m g c s o ss rows answers)
    run_same s None ss rows answers = outside_same s ss rows _
    run_same s (Some x) ss rows answers = inside_same s x ss rows _

    read_same : (s : Session) (o : Option Transaction) (statement : Statement) (answers : List Answer) → read_in v (restarted lacks since m) (shifted lacks g) c (shifted_session lacks s) (option_map (shifted_tx lacks) o) statement answers ≡ shifted_turned lacks (read_in v m g c s o statement answers)
    read_same s None statement answers =
        let end = runs (m.base s.database).image no_answer (statement ∷ []) answers in
        ap (λ t. cond (v.readers && was_cut end) (shifted_turned lacks (Lends (with_later s (Some (Lent statement))) (job_of m s statement))) t) (outside_same s (statement ∷ []) true end)
        ∙ if_turned (v.readers && was_cut end) (Lends (with_later s (Some (Lent statement))) (job_of m s statement)) (outside v m g c s (statement ∷ []) true end)
    read_same s (Some x) statement answers = run_same s (Some x) (statement ∷ []) true answers

    -- a query that has to wait first, or not
    waits_same : (s : Session) → waits_first (shifted_session lacks s) ≡ waits_first s
    waits_same s = ap (λ b. s.barriers && b) (none_same s.tx)

    commit_same : (s : Session) (o : Option Transaction) → commit_in v (restarted lacks since m) (shifted lacks g) c (shifted_session lacks s) (option_map (shifted_tx lacks) o) ≡ shifted_turned lacks (commit_in v m g c s o)
    unfolding committed
    commit_same s None = refl
    commit_same s (Some x) =
        let pages = changed x.pinned x.working in
        let a = Answers (with_tx s None) (result 0) Nothing in
        let t = Proposes (flying v s x.name (change_of v x.name pages) (page_count x.working) Committing) (change_of v x.name pages) Nothing in
        let o = change_refusal m g c x.name x.mark pages x.working in
        ap (λ y. cond (has_nothing x) (shifted_turned lacks a) (unless (first_cause (log_full v) LogFull y) (shifted_turned lacks t))) (hindrance_same x.name x.mark pages x.working)
        ∙ ap (λ y. cond (has_nothing x) (shifted_turned lacks a) y) (unless_turned (first_cause (log_full v) LogFull o) t)
        ∙ if_turned (has_nothing x) a (unless (first_cause (log_full v) LogFull o) t)

    does_same : (s : Session) (x : Asked) (answers : List Answer) → does v (restarted lacks since m) (shifted lacks g) c (shifted_session lacks s) x answers ≡ shifted_turned lacks (does v m g c s x answers)
    unfolding does pages_with pending_pages all_names
    does_same s (Never cause) answers = refl
    does_same s (Tells response) answers = refl
    does_same s (Sets effect) answers = refl
    does_same s (Opens name barriers) answers = refl
    does_same s (Creates name barriers) answers = if_turned (pages_full m g name empty_image) _ _
    does_same s (Prepares p tail) answers = refl
    does_same s (Drops id) answers = refl
    does_same s (Forgets response) answers = refl
    does_same s (Begins at_once) answers =
        ap (λ b. cond (at_once && b) (Refused Locked) (shifted_turned lacks (Answers (begun m s at_once) (result 0) Began))) (other_same s.database)
        ∙ if_turned (at_once && other_holds g c s.database) (Refused Locked) (Answers (begun m s at_once) (result 0) Began)
    does_same s Commits answers = commit_same s s.tx
    does_same s RollsBack answers = refl
    does_same s (Changes servers short) answers = if_turned (log_full v) _ _
    does_same s (Runs ss) answers = run_same s s.tx ss false answers
    does_same s (Reads statement) answers =
        ap (λ b. cond b (barrier_first v (shifted_session lacks s) statement) (read_in v (restarted lacks since m) (shifted lacks g) c (shifted_session lacks s) (option_map (shifted_tx lacks) s.tx) statement answers)) (waits_same s)
        ∙ ap (λ t. cond (waits_first s) (barrier_first v (shifted_session lacks s) statement) t) (read_same s s.tx statement answers)
        ∙ ap (λ t. cond (waits_first s) t (shifted_turned lacks (read_in v m g c s s.tx statement answers))) (if_turned (log_full v) (Refused LogFull) (Proposes (flying v s [] (Other ∷ []) 0 (Querying statement)) (Other ∷ []) Nothing))
        ∙ if_turned (waits_first s) (barrier_first v s statement) (read_in v m g c s s.tx statement answers)

    ground_same : (s : Session) (o : Option Transaction) → ground (restarted lacks since m) (shifted_session lacks s) (option_map (shifted_tx lacks) o) ≡ ground m s o
    ground_same s None = refl
    ground_same s (Some x) = refl

    handed_same : (s : Session) (o : Option Transaction) (x : Asked) → s.tx ≡ o → handed_for (restarted lacks since m) (shifted_session lacks s) x ≡ handed_for m s x
    handed_same s o (Never cause) e = refl
    handed_same s o (Tells response) e = refl
    handed_same s o (Sets effect) e = refl
    handed_same s o (Opens name barriers) e = refl
    handed_same s o (Creates name barriers) e = refl
    handed_same s o (Prepares p tail) e = refl
    handed_same s o (Drops id) e = refl
    handed_same s o (Forgets response) e = refl
    handed_same s o (Begins at_once) e = refl
    handed_same s o Commits e = refl
    handed_same s o RollsBack e = refl
    handed_same s o (Changes servers short) e = refl
    handed_same s o (Runs ss) e = ap (λ i. handed_over i ss) (ground_same s s.tx)
    handed_same s o (Reads statement) e =
        ap (λ b. cond b None (handed_over (ground (restarted lacks since m) (shifted_session lacks s) (option_map (shifted_tx lacks) s.tx)) (statement ∷ []))) (waits_same s)
        ∙ ap (λ i. cond (waits_first s) None (handed_over i (statement ∷ []))) (ground_same s s.tx)

    later_same : (statement : Statement) → LaterSame v lacks since m g c statement
    unfolding on_later handed_later
    later_same statement =
        let s = g.session c in
        record {
          turned = λ answers. ap (λ t. cond v.serving t (Refused NotLeader)) (run_same s s.tx (statement ∷ []) true answers) ∙ if_turned v.serving (run_in v m g c s s.tx (statement ∷ []) true answers) (Refused NotLeader);
          handed = ap (λ i. cond v.serving (handed_over i (statement ∷ [])) None) (ground_same s s.tx);
        }

    request_same : (r : Request) → RequestSame v lacks since m g c r
    unfolding on_request handed
    request_same r =
        let e = asked_same (g.session c) r in
        record {
          turned = λ answers. ap (λ x. does v (restarted lacks since m) (shifted lacks g) c (shifted_session lacks (g.session c)) x answers) e ∙ does_same (g.session c) (asked_by v m g c (g.session c) r) answers;
          handed = ap (λ x. handed_for (restarted lacks since m) (shifted_session lacks (g.session c)) x) e ∙ handed_same (g.session c) (g.session c).tx (asked_by v m g c (g.session c) r) refl;
        }

pub counts_restart_hold : CountsRestart
counts_restart_hold v lacks since m g c r = request_same lacks since v m g c r

pub laters_restart_hold : LatersRestart
laters_restart_hold v lacks since m g c statement = later_same lacks since v m g c statement
