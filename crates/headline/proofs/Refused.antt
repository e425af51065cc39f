-- Wrong histories that one field or two refuse.
use Rattle.std.proofs.Common.{◌≡◌, ⊎_elim, ℕ, ◌<◌, ◌≤◌, Bool, true, false, true≢false, List, [], ◌∷◌, take, refl, sym, ap, ◌∙◌, subst, arith}
use Rattle.std.specs.Prelude.{◌==◌, not, ◌&&◌, ◌||◌, Option, Some, None, slice_get, codes, if◌then◌else◌}
use Rattle.dq_base.specs.declared.images.Image.{Image}
use Rattle.wire_msgs.specs.declared.request.Request.{Request}
use Rattle.wire_msgs.specs.declared.request.Request.TheVariants.{Prepare, Exec, Finalize, Dump}
use Rattle.wire_msgs.specs.declared.response.Response.{Response}
use Rattle.wire_msgs.specs.declared.response.Response.TheVariants as responses
use Rattle.sql_scan.specs.declared.pieces.StatementSpan.{StatementSpan}
use Rattle.sql_scan.specs.declared.heading.WordKind.TheVariants as words
use Rattle.sql_scan.specs.Statements.{scan_of}
use Rattle.sql_engine.specs.Meanings.{Meaning}
use Rattle.database_state.specs.Files.{empty_image}
use Rattle.session_spec.specs.Sessions.{Prepared}
use Rattle.session_spec.specs.Statements.{prepared_from, is_left_out}
use Rattle.session_spec.specs.Asking.{files_of, barriers_asked, is_name}
use Rattle.headline.specs.Clients.{refused, Client, Transaction, Idle, Never, Prepares, Dumps, Begun, Lost, Opens, new_client, has_database, in_database, is_led, unless, unless_lost, prepare_purpose, text_purpose, purpose, with_prepared, after_result, is_newest, waits_first, has_image}
use Rattle.headline.specs.Headline.{NodeView, Observation, Asks, Answers, Shows, Closes, SeenOf, IsReply, StaysUp, ShowsNext, IsFinished, answered, client_at, purpose_at, is_newest_at, Change, NoneAt, MakesChange, IsSentAs, HoldsOfAll}
use Rattle.headline.specs.Laws.{statement, IsSole, MovesImages, leads, follows, opens, opened, execs, done, fails, queries, d, starts, wrote, AResultIsCommitted, NoLostWrite, NoResultForText, NoResultForLeftOut, NoResultForNumber, NoResultForMessage, NoEmptyForNumber, NoNumberTwice, NoAnswerFromElsewhere, NoAnswerAfterClose, NoAnswerUnasked, NoStaleRead, NoSkippedBarrier, NoStaleReadLater, NoStaleReadHere, NoStaleDump, NoOtherReply, NoRefusedWrite, NoLossWhileLeading, NoOtherFiles, NoStepBack}
use Rattle.std.proofs.lemmas.Bool.{eq-eqb}
use Rattle.headline.proofs.Lists.{Have, all_have}
use Rattle.headline.proofs.Seen.{held, each_ask, each_show, each_down}
use Rattle.headline.proofs.Stays.{NoCommit, Plain}
use Rattle.headline.proofs.Knowing.{open_request, exec, query, result, knows, exec_is, query_is, write_none, query_none, dump_none}
use Rattle.headline.proofs.Results.{right_result, ran_outside, Committed, one_ran, committed, marked_later, refused_none, query_refused}

-- ---- nodes, and answers that no message asked for

pub no_other_files : (m : Meaning) → NoOtherFiles m
no_other_files m term other applied f g apart x =
    let y = held m (leads 1 term applied f ∷ follows 2 other applied g ∷ []) refl x in
    apart (y.alike 0 1 1 2 (record { term = term; leads = true; applied = applied; files = f })
    (record { term = other; leads = false; applied = applied; files = g }) refl refl refl)

pub no_step_back : (m : Meaning) → NoStepBack m
no_step_back m term other high low f g lt x =
    let h = leads 1 term high f ∷ leads 1 other low g ∷ [] in
    let y = held m h refl x in
    let up : StaysUp h 1 0 1 = λ fall e after before. omega (arith, after, before) in
    let le : high ≤ low = y.stays 0 1 1 (record { term = term; leads = true; applied = high; files = f })
    (record { term = other; leads = true; applied = low; files = g }) refl refl (omega arith) up in
    absurd (omega (arith, lt, le))

pub no_answer_unasked : (m : Meaning) → NoAnswerUnasked m
no_answer_unasked m node conn answer x =
    let y = held m (Answers node conn answer ∷ []) refl x in
    let lt = y.answered 0 node conn answer refl in absurd (omega (arith, lt))

pub no_answer_from_elsewhere : (m : Meaning) → NoAnswerFromElsewhere m
no_answer_from_elsewhere m sql count x =
    let h = starts (execs 1 1 sql ∷ done 2 1 count ∷ []) in
    let y = held m h refl x in
    let pair : IsReply h 2 1 3 4 (exec sql) (result count) = record { home = 1; asks = refl; answers = refl; turn = refl } in
    let e : 2 ≡ 1 = (y.home 3 2 1 1 4 (exec sql) (result count) pair refl).0 in
    absurd (omega (arith, e))

pub no_answer_after_close : (m : Meaning) → NoAnswerAfterClose m
no_answer_after_close m sql count x =
    let h = starts (execs 1 1 sql ∷ Closes 1 ∷ done 1 1 count ∷ []) in
    let y = held m h refl x in
    let pair : IsReply h 1 1 3 5 (exec sql) (result count) = record { home = 1; asks = refl; answers = refl; turn = refl } in
    let lt : 5 < 4 = (y.home 3 1 1 1 5 (exec sql) (result count) pair refl).2 4 refl in
    absurd (omega (arith, lt))

pub no_loss_while_leading : (m : Meaning) → NoLossWhileLeading m
no_loss_while_leading m sql text term applied files x =
    let h = starts (queries 1 1 sql ∷ fails 1 1 10506 text ∷ leads 1 term applied files ∷ []) in
    let y = held m h refl x in
    let pair : IsReply h 1 1 3 4 (query sql) (responses.Failure 10506 text ∷ []) = record { home = 1; asks = refl; answers = refl; turn = refl } in
    let view : NodeView = record { term = term; leads = true; applied = applied; files = files } in
    let next : ShowsNext h 1 4 5 view = record {
      later = omega arith;
      shows = refl;
      first = λ other v e lt. omega (arith, lt);
      up = λ fall e after before.
          omega (arith, after, before);
    } in
    true≢false (y.ended 1 1 3 4 5 view (query sql) (responses.Failure 10506 text ∷ []) pair refl next)

-- ---- messages that never fit

never_answered : (m : Meaning) (h : List Observation) (x : HoldsOfAll m h) (node conn place q : ℕ) (request : Option Request) (answer : List Response)
    (s : Client) →
    IsReply h node conn place q request answer → refused answer ≡ None → client_at h conn place ≡ s → purpose s request ≡ Never → ⊥
never_answered m h x node conn place q request answer s pair fine is w = right_result m h x node conn place q request answer s Never pair fine is w

pub no_result_for_text : (m : Meaning) → NoResultForText m
no_result_for_text m sql fault count scans x =
    let h = starts (execs 1 1 sql ∷ done 1 1 count ∷ []) in
    let y = held m h refl x in
    never_answered m h y 1 1 3 4 (exec sql) (result count) (knows false Idle) (record { home = 1; asks = refl; answers = refl; turn = refl }) refl refl
    (ap (λ r. unless_lost Idle (text_purpose (knows false Idle) sql r [])) scans)

pub no_result_for_left_out : (m : Meaning) → NoResultForLeftOut m
no_result_for_left_out m sql span count sole x =
    let h = starts (execs 1 1 sql ∷ done 1 1 count ∷ []) in
    let y = held m h refl x in
    never_answered m h y 1 1 3 4 (exec sql) (result count) (knows false Idle) (record { home = 1; asks = refl; answers = refl; turn = refl }) refl refl
    (exec_is (knows false Idle) sql span words.LeftOut sole)

pub no_result_for_number : (m : Meaning) → NoResultForNumber m
no_result_for_number m id count params wide x =
    let h = starts (Asks 1 1 (Some (Exec 0 id params wide)) ∷ done 1 1 count ∷ []) in
    let y = held m h refl x in
    never_answered m h y 1 1 3 4 (Some (Exec 0 id params wide)) (result count) (knows false Idle)
    (record { home = 1; asks = refl; answers = refl; turn = refl }) refl refl refl

pub no_result_for_message : (m : Meaning) → NoResultForMessage m
no_result_for_message m count x =
    let h = starts (Asks 1 1 None ∷ done 1 1 count ∷ []) in
    let y = held m h refl x in
    never_answered m h y 1 1 3 4 None (result count) (knows false Idle) (record { home = 1; asks = refl; answers = refl; turn = refl }) refl refl refl

pub no_empty_for_number : (m : Meaning) → NoEmptyForNumber m
no_empty_for_number m id x =
    let h = starts (Asks 1 1 (Some (Finalize 0 id)) ∷ Answers 1 1 (responses.Empty ∷ []) ∷ []) in
    let y = held m h refl x in
    never_answered m h y 1 1 3 4 (Some (Finalize 0 id)) (responses.Empty ∷ []) (knows false Idle)
    (record { home = 1; asks = refl; answers = refl; turn = refl }) refl refl refl

-- ---- an answered write

pub a_result_is_committed : (m : Meaning) → AResultIsCommitted m
a_result_is_committed m sql span count more moves x = by x.all x.is_seen x.holds
  where
    has : (rest : List Observation) (y : HoldsOfAll m (wrote sql count rest)) → (i : ℕ) × (c : Change) × (slice_get y.order i ≡ Some c) × (c.place ≡ 3)
    has rest y =
        let w = committed m (wrote sql count rest) y 1 1 3 4 count sql span false moves (record { home = 1; asks = refl; answers = refl; turn = refl }) refl in
        (w.number, w.change, w.found, w.asked)

    by : (all : List Observation) → SeenOf (wrote sql count more) all → (y : HoldsOfAll m all) → (i : ℕ) × (c : Change) × (slice_get y.order i ≡ Some c) ×
        (c.place ≡ 3)
    by all (a, is_a, (b, is_b, (c, is_c, (e, is_e, (f, is_f, seen))))) y =
        let is : all ≡ wrote sql count f = is_a ∙ ap (λ r. leads 1 1 0 [] ∷ r)
        (is_b ∙ ap (λ r. opens 1 1 0 ∷ r) (is_c ∙ ap (λ r. opened 1 1 ∷ r) (is_e ∙ ap (λ r. execs 1 1 sql ∷ r) is_f))) in
        subst (λ l. (y : HoldsOfAll m l) → (i : ℕ) × (c : Change) × (slice_get y.order i ≡ Some c) × (c.place ≡ 3)) (sym is) (has f) y

pub first_pair : (sql : List ℕ) (count : ℕ) (more : List Observation) → IsReply (wrote sql count more) 1 1 3 4 (exec sql) (result count)
first_pair sql count more = record { home = 1; asks = refl; answers = refl; turn = refl }

pub first_committed : (m : Meaning) (sql : List ℕ) (span : StatementSpan) (count : ℕ) (more : List Observation) (y : HoldsOfAll m (wrote sql count more)) →
    MovesImages m sql span →
    Committed m (wrote sql count more) y 3 (codes "d") (statement sql span)
first_committed m sql span count more y moves = committed m (wrote sql count more) y 1 1 3 4 count sql span false moves (first_pair sql count more) refl

-- it was over when it was answered
pub first_over : (m : Meaning) (sql : List ℕ) (span : StatementSpan) (count : ℕ) (more : List Observation) (y : HoldsOfAll m (wrote sql count more)) →
    (w : Committed m (wrote sql count more) y 3 (codes "d") (statement sql span)) → IsFinished (wrote sql count more) w.change.place 4
first_over m sql span count more y w = subst (λ p. IsFinished (wrote sql count more) p 4) (sym w.asked)
    (answered 1 1 (exec sql) (result count) (first_pair sql count more))

pub rests_image : (m : Meaning) (h : List Observation) (conn place : ℕ) (sql : List ℕ) (span : StatementSpan) → IsSole sql span words.Write →
    client_at h conn place ≡ knows false Idle →
    has_image (purpose_at h conn place (exec sql)) ≡ true
rests_image m h conn place sql span sole is = ap (λ s. has_image (purpose s (exec sql))) is ∙ ap has_image
    (exec_is (knows false Idle) sql span words.Write sole)

pub query_newest : (h : List Observation) (conn place : ℕ) (sql : List ℕ) (span : StatementSpan) → IsSole sql span words.Other →
    client_at h conn place ≡ knows false Idle →
    is_newest_at h conn place (query sql) ≡ true
query_newest h conn place sql span sole is = ap (λ s. is_newest s (purpose s (query sql))) is ∙ ap (is_newest (knows false Idle))
    (query_is (knows false Idle) sql span sole)

pub no_lost_write : (m : Meaning) → NoLostWrite m
no_lost_write m marked sql span count applied writes moves x =
    let view : NodeView = record { term = 1; leads = true; applied = applied; files = d empty_image ∷ [] } in
    let more = Shows 1 view ∷ [] in
    let h = wrote sql count more in
    let y = held m h refl x in
    let w = first_committed m sql span count more y moves in
    let plain : Plain h = each_ask (λ place node conn request. NoCommit (purpose_at h conn place request)) h
    (tt, (write_none (knows false Idle) sql span writes.sole, tt)) in
    let le = y.applied 1 1 3 4 5 view (exec sql) (result count) (first_pair sql count more) refl (rests_image m h 1 3 sql span writes.sole refl) refl
    (omega arith) (λ fall e after before. omega (arith, after, before)) in
    let count_is = w.count in
    let shows = (y.files 5 1 view refl).0 (codes "d") in
    true≢false (sym (marked_later m h y 3 (y.index applied) sql span marked empty_image writes plain w (omega (arith, le, count_is)) (sym shows)) ∙ writes.new)

-- ---- rows

-- the client after the write
after_write : (m : Meaning) (sql : List ℕ) (span : StatementSpan) (count : ℕ) (more : List Observation) → IsSole sql span words.Write →
    after_result (knows false Idle) 3 (result count) (purpose (knows false Idle) (exec sql)) ≡ knows false Idle
after_write m sql span count more sole = ap (after_result (knows false Idle) 3 (result count)) (exec_is (knows false Idle) sql span words.Write sole)

pub no_stale_read : (m : Meaning) → NoStaleRead m
no_stale_read m marked sql query_text span another count rows writes moves queries_so x =
    let more = queries 1 1 query_text ∷ Answers 1 1 rows ∷ [] in
    let h = wrote sql count more in
    let y = held m h refl x in
    let w = first_committed m sql span count more y moves in
    let plain : Plain h = each_ask (λ place node conn request. NoCommit (purpose_at h conn place request)) h
    (tt, (write_none (knows false Idle) sql span writes.sole, (query_none (client_at h 1 5) query_text another queries_so.sole, tt))) in
    let fine = refused_none rows queries_so.no_refusal in
    let pair : IsReply h 1 1 5 6 (query query_text) rows = record { home = 1; asks = refl; answers = refl; turn = refl } in
    let is : client_at h 1 5 ≡ knows false Idle = after_write m sql span count more writes.sole in
    let ran = ran_outside m h y 1 1 5 6 (query query_text) rows false true (statement query_text another ∷ []) pair fine is
    (query_is (knows false Idle) query_text another queries_so.sole) in
    let seen = y.seen 1 1 1 3 4 5 6 (exec sql) (query query_text) (result count) rows (first_pair sql count more) pair (omega arith) refl fine
    (rests_image m h 1 3 sql span writes.sole refl) (query_newest h 1 5 query_text another queries_so.sole is) in
    let count_is = w.count in
    query_refused m h y 3 5 sql query_text span another marked rows ran.0 writes queries_so plain w (omega arith) (omega (arith, seen, count_is)) ran.1 ran.2

pub no_stale_dump : (m : Meaning) → NoStaleDump m
no_stale_dump m marked sql span count image writes moves without x =
    let more = Asks 1 1 (Some (Dump (codes "d"))) ∷ Answers 1 1 (files_of (codes "d") image ∷ []) ∷ [] in
    let h = wrote sql count more in
    let y = held m h refl x in
    let w = first_committed m sql span count more y moves in
    let plain : Plain h = each_ask (λ place node conn request. NoCommit (purpose_at h conn place request)) h
    (tt, (write_none (knows false Idle) sql span writes.sole, (dump_none (client_at h 1 5), tt))) in
    let pair : IsReply h 1 1 5 6 (Some (Dump (codes "d"))) (files_of (codes "d") image ∷ []) = record { home = 1; asks = refl; answers = refl; turn = refl } in
    let is : client_at h 1 5 ≡ knows false Idle = after_write m sql span count more writes.sole in
    let dumps = right_result m h y 1 1 5 6 (Some (Dump (codes "d"))) (files_of (codes "d") image ∷ []) (knows false Idle) (Dumps (codes "d")) pair refl is
    refl in
    let seen = y.seen 1 1 1 3 4 5 6 (exec sql) (Some (Dump (codes "d"))) (result count) (files_of (codes "d") image ∷ []) (first_pair sql count more) pair
    (omega arith) refl refl
    (rests_image m h 1 3 sql span writes.sole refl) (ap (λ s. is_newest s (purpose s (Some (Dump (codes "d"))))) is) in
    let count_is = w.count in
    let has = marked_later m h y 3 (y.rests 5) sql span marked dumps.0 writes plain w (omega (arith, seen, count_is)) dumps.1 in
    true≢false (sym (subst (λ i. marked i ≡ true) (sym (same_image image dumps.0 dumps.2)) has) ∙ without)
  where
    main_in : List Response → List ℕ
    main_in (responses.Files (f ∷ g ∷ []) ∷ []) = f.content
    main_in _ = []

    side_in : List Response → List ℕ
    side_in (responses.Files (f ∷ g ∷ []) ∷ []) = g.content
    side_in _ = []

    same_image : (i j : Image) → files_of (codes "d") i ∷ [] ≡ files_of (codes "d") j ∷ [] → i ≡ j
    same_image i j e =
        let main : i.main ≡ j.main = ap main_in e in
        let side : i.side ≡ j.side = ap side_in e in
        ap (λ b. record { main = b; side = i.side }) main ∙ ap (λ b. record { main = j.main; side = b }) side

pub no_skipped_barrier : (m : Meaning) → NoSkippedBarrier m
no_skipped_barrier m marked sql query_text span another count applied rows writes moves queries_so x =
    let more = leads 2 2 applied [] ∷ opens 2 2 4294967296 ∷ opened 2 2 ∷ queries 2 2 query_text ∷ Answers 2 2 rows ∷ [] in
    let h = wrote sql count more in
    let y = held m h refl x in
    let w = first_committed m sql span count more y moves in
    let plain : Plain h = each_ask (λ place node conn request. NoCommit (purpose_at h conn place request)) h
    (tt, (write_none (knows false Idle) sql span writes.sole, (tt, (query_none (knows true Idle) query_text another queries_so.sole, tt)))) in
    let fine = refused_none rows queries_so.no_refusal in
    let pair : IsReply h 2 2 8 9 (query query_text) rows = record { home = 2; asks = refl; answers = refl; turn = refl } in
    let wanted = query_is (knows true Idle) query_text another queries_so.sole in
    let ran = ran_outside m h y 2 2 8 9 (query query_text) rows true true (statement query_text another ∷ []) pair fine refl wanted in
    let lt = y.fresh 2 2 8 9 (query query_text) rows pair fine (ap (waits_first (knows true Idle)) wanted) w.number 4 w.change w.found
    (first_over m sql span count more y w) (omega arith) in
    query_refused m h y 3 8 sql query_text span another marked rows ran.0 writes queries_so plain w (omega arith) lt ran.1 ran.2

pub no_stale_read_later : (m : Meaning) → NoStaleReadLater m
no_stale_read_later m marked sql query_text span another count applied files rows writes moves queries_so x =
    let view : NodeView = record { term = 2; leads = true; applied = applied; files = files } in
    let more = Shows 2 view ∷ opens 2 2 0 ∷ opened 2 2 ∷ queries 2 2 query_text ∷ Answers 2 2 rows ∷ [] in
    let h = wrote sql count more in
    let y = held m h refl x in
    let w = first_committed m sql span count more y moves in
    let plain : Plain h = each_ask (λ place node conn request. NoCommit (purpose_at h conn place request)) h
    (tt, (write_none (knows false Idle) sql span writes.sole, (tt, (query_none (knows false Idle) query_text another queries_so.sole, tt)))) in
    let fine = refused_none rows queries_so.no_refusal in
    let pair : IsReply h 2 2 8 9 (query query_text) rows = record { home = 2; asks = refl; answers = refl; turn = refl } in
    let wanted = query_is (knows false Idle) query_text another queries_so.sole in
    let ran = ran_outside m h y 2 2 8 9 (query query_text) rows false true (statement query_text another ∷ []) pair fine refl wanted in
    let led = y.led 2 2 8 9 (query query_text) rows pair fine (query_newest h 2 8 query_text another queries_so.sole refl) (ap is_led wanted) in
    let first : led.0 ≡ 5 = each_show (λ place node v. node ≡ 2 → place ≡ 5) h ((λ e. absurd (omega (arith, e))), ((λ e. refl), tt)) led.0 2 led.2 led.4 refl in
    let lt = led.11 w.number 4 w.change w.found (first_over m sql span count more y w) (omega (arith, first)) in
    query_refused m h y 3 8 sql query_text span another marked rows ran.0 writes queries_so plain w (omega arith) lt ran.1 ran.2

pub no_stale_read_here : (m : Meaning) → NoStaleReadHere m
no_stale_read_here m marked sql query_text span another count applied files rows writes moves queries_so x =
    let view : NodeView = record { term = 1; leads = true; applied = applied; files = files } in
    let more = Shows 1 view ∷ opens 1 2 0 ∷ opened 1 2 ∷ queries 1 2 query_text ∷ Answers 1 2 rows ∷ [] in
    let h = wrote sql count more in
    let y = held m h refl x in
    let w = first_committed m sql span count more y moves in
    let plain : Plain h = each_ask (λ place node conn request. NoCommit (purpose_at h conn place request)) h
    (tt, (write_none (knows false Idle) sql span writes.sole, (tt, (query_none (knows false Idle) query_text another queries_so.sole, tt)))) in
    let fine = refused_none rows queries_so.no_refusal in
    let pair : IsReply h 1 2 8 9 (query query_text) rows = record { home = 1; asks = refl; answers = refl; turn = refl } in
    let wanted = query_is (knows false Idle) query_text another queries_so.sole in
    let ran = ran_outside m h y 1 2 8 9 (query query_text) rows false true (statement query_text another ∷ []) pair fine refl wanted in
    let low = y.applied 1 1 3 4 5 view (exec sql) (result count) (first_pair sql count more) refl (rests_image m h 1 3 sql span writes.sole refl) refl
    (omega arith) (λ fall e after before. omega (arith, after, before)) in
    let high = y.newest 1 2 8 9 5 view (query query_text) rows pair fine (query_newest h 2 8 query_text another queries_so.sole refl) refl (omega arith)
    (λ fall e after before. each_down (λ place node. 5 < place → place < 8 → ⊥) h tt fall 1 e after before) in
    let count_is = w.count in
    query_refused m h y 3 8 sql query_text span another marked rows ran.0 writes queries_so plain w (omega arith) (omega (arith, low, high, count_is)) ran.1
    ran.2

pub no_other_reply : (m : Meaning) → NoOtherReply m
no_other_reply m query_text span rows queries_so x =
    let h = starts (queries 1 1 query_text ∷ Answers 1 1 rows ∷ []) in
    let y = held m h refl x in
    let fine = refused_none rows queries_so.no_refusal in
    let pair : IsReply h 1 1 3 4 (query query_text) rows = record { home = 1; asks = refl; answers = refl; turn = refl } in
    let ran = ran_outside m h y 1 1 3 4 (query query_text) rows false true (statement query_text span ∷ []) pair fine refl
    (query_is (knows false Idle) query_text span queries_so.sole) in
    ⊎_elim
    (λ (made, (before, from, all)). let one = one_ran m before made.change.after (statement query_text span) ran.0 all in
    queries_so.differs before made.change.after one.0 one.2 refl (subst (λ rs. IsSentAs true rs rows) one.1 ran.1))
    (λ (none, (image, is, all)). let one = one_ran m image image (statement query_text span) ran.0 all in
    queries_so.differs image image one.0 one.2 refl (subst (λ rs. IsSentAs true rs rows) one.1 ran.1))
    ran.2

-- ---- a refused write

pub makes_new : (m : Meaning) (earlier : List Change) (rests : ℕ → ℕ) (work : ℕ → Image) (s : Client) (flags : ℕ) (c : Change) →
    MakesChange m earlier rests work s (purpose s (open_request flags)) c → c.after ≡ empty_image
makes_new m earlier rests work s flags c makes = opens_new s.transaction (has_database s || not (is_name (codes "d"))) (barriers_asked flags) makes
  where
    opens_new : (t : Transaction) (b barriers : Bool) → MakesChange m earlier rests work s (unless_lost t (unless b (Opens (codes "d") barriers))) c →
        c.after ≡ empty_image
    opens_new Idle true barriers makes = absurd makes
    opens_new Idle false barriers makes = makes.2
    opens_new (Begun begin last) true barriers makes = absurd makes
    opens_new (Begun begin last) false barriers makes = makes.2
    opens_new Lost true barriers makes = absurd makes
    opens_new Lost false barriers makes = makes.2

pub no_refused_write : (m : Meaning) → NoRefusedWrite m
no_refused_write m sql code applied text image other apart x =
    let view : NodeView = record { term = 1; leads = true; applied = applied; files = d image ∷ [] } in
    let h = starts (execs 1 1 sql ∷ fails 1 1 code text ∷ Shows 1 view ∷ []) in
    let y = held m h refl x in
    let pair : IsReply h 1 1 3 4 (exec sql) (responses.Failure code text ∷ []) = record { home = 1; asks = refl; answers = refl; turn = refl } in
    let none : NoneAt y.order 3 = (y.right 1 1 3 4 (exec sql) (responses.Failure code text ∷ []) pair).0 other in
    let each : (i : ℕ) (c : Change) → slice_get y.order i ≡ Some c → Have (λ i. i ≡ empty_image) y.order i → c.after ≡ empty_image = λ i c is earlier.
    let comes = (y.comes i c is).0 in
    each_ask (λ place node conn request. c.place ≡ place → MakesChange m (take i y.order) y.rests y.work (client_at h conn place)
    (purpose_at h conn place request) c → c.after ≡ empty_image) h
    ((λ e makes. makes_new m (take i y.order) y.rests y.work new_client 0 c makes), ((λ e makes. absurd (none i c is e)), tt)) c.place comes.node comes.conn
    comes.request comes.asked refl comes.makes in
    let shows = (y.files 5 1 view refl).0 (codes "d") in
    apart (all_have (λ i. i ≡ empty_image) y.order each (y.index applied) (codes "d") image (sym shows))

-- ---- a prepared statement

equal_self : (n : ℕ) → (n == n) ≡ true
equal_self n = eq-eqb n n refl

pub no_number_twice : (m : Meaning) → NoNumberTwice m
no_number_twice m sql other span another id count many sole others x =
    let first : List Response = responses.Stmt 0 id count None ∷ [] in
    let second : List Response = responses.Stmt 0 id many None ∷ [] in
    let one = Some (Prepare 0 sql false) in
    let two = Some (Prepare 0 other false) in
    let h = starts (Asks 1 1 one ∷ Answers 1 1 first ∷ Asks 1 1 two ∷ Answers 1 1 second ∷ []) in
    let y = held m h refl x in
    let pair : IsReply h 1 1 5 6 two second = record { home = 1; asks = refl; answers = refl; turn = refl } in
    let prepares : (s : Client) (text : List ℕ) (p : StatementSpan) → has_database s ≡ true → s.transaction ≡ Idle → IsSole text p words.Write →
    purpose s (Some (Prepare 0 text false)) ≡ Prepares (prepared_from text p) None = prepare_is in
    let knows_one : Client = record {
      name = codes "d";
      barriers = false;
      prepared = with_prepared (prepared_from sql span) first (λ id. None);
      transaction =
          Idle;
    } in
    let is : client_at h 1 5 ≡ knows_one = ap (after_result (knows false Idle) 3 first) (prepares (knows false Idle) sql span refl refl sole) in
    let right = right_result m h y 1 1 5 6 two second knows_one (Prepares (prepared_from other another) None) pair refl is
    (prepares knows_one other another refl refl others) in
    let same : id ≡ right.0 = number id many right.0 another.params right.2 in
    let taken : knows_one.prepared id ≡ Some (prepared_from sql span) = ap (λ b. if b then Some (prepared_from sql span) else None) (equal_self id) in
    some_none (prepared_from sql span) (sym taken ∙ subst (λ n. knows_one.prepared n ≡ None) (sym same) right.1)
  where
    number : (i n j k : ℕ) → responses.Stmt 0 i n None ∷ [] ≡ responses.Stmt 0 j k None ∷ [] → i ≡ j
    number i n j k e = cc

    some_none : (p : Prepared) → Some p ≡ None → ⊥
    some_none p e = absurd cc

    prepare_is : (s : Client) (text : List ℕ) (p : StatementSpan) → has_database s ≡ true → s.transaction ≡ Idle → IsSole text p words.Write →
        purpose s (Some (Prepare 0 text false)) ≡ Prepares (prepared_from text p) None
    prepare_is s text p open_is idle sole =
        ap (λ t. unless_lost t (in_database s 0 (prepare_purpose text false (scan_of text)))) idle
        ∙ ap (λ b. unless (not (b && true)) (prepare_purpose text false (scan_of text))) open_is
        ∙ ap (λ r. prepare_purpose text false r) sole.scans
        ∙ ap (λ w. unless (is_left_out w) (Prepares (prepared_from text p) None)) sole.first
