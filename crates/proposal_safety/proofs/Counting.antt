-- A request proposes one change at most.
use Rattle.std.proofs.Common.{◌≡◌, ℕ, zero, suc, Bool, true, false, List, [], ◌∷◌, map, drop, refl, sym, arith}
use Rattle.std.specs.Prelude.{◌&&◌, Option, Some, None}
use Rattle.std.proofs.lemmas.Bool.{cond_both}
use Rattle.std.proofs.lemmas.List.{append-nil}
use Rattle.dq_base.specs.declared.pages.NumberedPage.{NumberedPage}
use Rattle.dq_base.specs.Changes.{changed}
use Rattle.dq_base.specs.Images.{page_count}
use Rattle.database_state.specs.Files.{empty_image}
use Rattle.log_commands.specs.Splitting.{split_from, before_last}
use Rattle.sql_engine.specs.declared.answer.StatementResult.{StatementResult}
use Rattle.sql_engine.specs.Replies.{Statement}
use Rattle.session_spec.specs.Asking.{Asked, Never, Tells, Sets, Opens, Creates, Prepares, Drops, Forgets, Begins, Commits, RollsBack, Changes, Runs, Reads, asked}
use Rattle.session_spec.specs.Causes.{LogFull, DatabaseFull}
use Rattle.session_spec.specs.Engines.{Answer, no_pages, Ending, Lacking, TooLarge, Stopped, Ended}
use Rattle.session_spec.specs.Entries.{Does, tx_of}
use Rattle.session_spec.specs.Limits.{other_holds, pages_full, log_full, first_cause, change_refusal}
use Rattle.session_spec.specs.Machine.{Machine}
use Rattle.session_spec.specs.Requests.{flying, change_of, row_cause, reply_of, outside_write, outside, inside, run_in, has_nothing, committed, commit_in, worked, does, on_request}
use Rattle.session_spec.specs.Sessions.{Writing, Committing, Transaction, Session, Gateway, View, Inside, Outside, Nothing, Refused, Lacks, Answers, Proposes, Lends, Affects}
use Rattle.session_safety.proofs.Calls.{unless_ok}
use Rattle.session_safety.proofs.Ways.{read_in_both, barrier_both, reads_both, later_both}
use Rattle.proposal_safety.specs.Proposing.{change_count, IsLossIfRefused, ProposesOneIfAny, RequestsProposeOnce, LatersProposeOnce, LogsGrowByProposals}

-- a write's entries make one change, with the last of them
split_count : (more : ℕ) (name : List ℕ) (tx : ℕ) (pages : List NumberedPage) → change_count (map Does (split_from more name tx pages)) ≡ 1
unfolding split_from
split_count zero name tx pages = refl
split_count (suc more) name tx pages =
    let e : change_count (map Does (split_from more name tx (drop 64 pages))) ≡ 1 = split_count more name tx (drop 64 pages) in
    omega (arith, e)

write_count : (v : View) (name : List ℕ) (pages : List NumberedPage) → change_count (change_of v name pages) ≡ 1
write_count v name pages = split_count (before_last pages) name (tx_of v.term (suc v.last)) pages

no_refusal : (rows : Bool) (answer : StatementResult) → IsLossIfRefused (reply_of rows answer)
no_refusal true answer = tt
no_refusal false answer = tt

outside_once : (v : View) (m : Machine) (g : Gateway) (c : ℕ) (s : Session) (ss : List Statement) (rows : Bool) (end : Ending) →
    ProposesOneIfAny (outside v m g c s ss rows end)
unfolding outside outside_write
outside_once v m g c s ss rows Lacking = tt
outside_once v m g c s ss rows (TooLarge answer) = unless_ok _ (Refused DatabaseFull) ProposesOneIfAny (λ why. tt) (λ e. tt)
outside_once v m g c s ss rows (Stopped fault) = tt
outside_once v m g c s ss rows (Ended to answer) =
    cond_both (no_pages (changed (m.base s.database).image to)) _ _ ProposesOneIfAny
    (λ p. unless_ok (row_cause rows answer None) (Answers s (reply_of rows answer) (Outside s.database ss)) ProposesOneIfAny (λ why. tt) (λ e. tt))
    (λ p. unless_ok (first_cause (log_full v) LogFull (row_cause rows answer (change_refusal m g c s.database (m.base s.database).newest
    (changed (m.base s.database).image to) to)))
    (Proposes (flying v s s.database (change_of v s.database (changed (m.base s.database).image to)) (page_count to) (Writing (reply_of rows answer)))
    (change_of v s.database (changed (m.base s.database).image to)) (Outside s.database ss)) ProposesOneIfAny (λ why. tt)
    (λ e. record {
      flight = _;
      is = refl;
      count = write_count v s.database (changed (m.base s.database).image to);
      reply = no_refusal rows answer;
    }))

inside_once : (m : Machine) (g : Gateway) (c : ℕ) (s : Session) (x : Transaction) (ss : List Statement) (rows : Bool) (end : Ending) →
    ProposesOneIfAny (inside m g c s x ss rows end)
unfolding inside
inside_once m g c s x ss rows Lacking = tt
inside_once m g c s x ss rows (TooLarge answer) = unless_ok _ (Refused DatabaseFull) ProposesOneIfAny (λ why. tt) (λ e. tt)
inside_once m g c s x ss rows (Stopped fault) = tt
inside_once m g c s x ss rows (Ended to answer) =
    cond_both (no_pages (changed x.working to)) _ _ ProposesOneIfAny
    (λ p. unless_ok (row_cause rows answer None) (Answers (worked s x to x.turn) (reply_of rows answer) (Inside x.name ss)) ProposesOneIfAny
    (λ why. tt) (λ e. tt))
    (λ p. unless_ok (row_cause rows answer (change_refusal m g c x.name x.mark (changed x.working to) to))
    (Answers (worked s x to true) (reply_of rows answer) (Inside x.name ss)) ProposesOneIfAny (λ why. tt) (λ e. tt))

run_once : (v : View) (m : Machine) (g : Gateway) (c : ℕ) (s : Session) (o : Option Transaction) (ss : List Statement) (rows : Bool) (answers : List Answer) →
    ProposesOneIfAny (run_in v m g c s o ss rows answers)
run_once v m g c s None ss rows answers = outside_once v m g c s ss rows _
run_once v m g c s (Some x) ss rows answers = inside_once m g c s x ss rows _

commit_once : (v : View) (m : Machine) (g : Gateway) (c : ℕ) (s : Session) (o : Option Transaction) → ProposesOneIfAny (commit_in v m g c s o)
unfolding committed
commit_once v m g c s None = tt
commit_once v m g c s (Some x) =
    cond_both (has_nothing x) _ _ ProposesOneIfAny (λ p. tt)
    (λ p. unless_ok (first_cause (log_full v) LogFull (change_refusal m g c x.name x.mark (changed x.pinned x.working) x.working))
    (Proposes (flying v s x.name (change_of v x.name (changed x.pinned x.working)) (page_count x.working) Committing)
    (change_of v x.name (changed x.pinned x.working)) Nothing) ProposesOneIfAny (λ why. tt)
    (λ e. record { flight = _; is = refl; count = write_count v x.name (changed x.pinned x.working); reply = tt }))

does_once : (v : View) (m : Machine) (g : Gateway) (c : ℕ) (s : Session) (x : Asked) (answers : List Answer) → ProposesOneIfAny (does v m g c s x answers)
unfolding does
does_once v m g c s (Never cause) answers = tt
does_once v m g c s (Tells response) answers = tt
does_once v m g c s (Sets effect) answers = tt
does_once v m g c s (Opens name barriers) answers = tt
does_once v m g c s (Creates name barriers) answers =
    cond_both (pages_full m g name empty_image) _ _ ProposesOneIfAny (λ p. tt) (λ p. record { flight = _; is = refl; count = refl; reply = tt })
does_once v m g c s (Prepares p tail) answers = tt
does_once v m g c s (Drops id) answers = tt
does_once v m g c s (Forgets response) answers = tt
does_once v m g c s (Begins at_once) answers = cond_both (at_once && other_holds g c s.database) _ _ ProposesOneIfAny (λ p. tt) (λ p. tt)
does_once v m g c s Commits answers = commit_once v m g c s s.tx
does_once v m g c s RollsBack answers = tt
does_once v m g c s (Changes servers short) answers =
    cond_both (log_full v) _ _ ProposesOneIfAny (λ p. tt) (λ p. record { flight = _; is = refl; count = refl; reply = tt })
does_once v m g c s (Runs ss) answers = run_once v m g c s s.tx ss false answers
does_once v m g c s (Reads statement) answers = reads_both ProposesOneIfAny v m g c s statement answers
    (λ e. barrier_both ProposesOneIfAny v m g c s statement tt (record { flight = _; is = refl; count = refl; reply = tt }))
    (λ e. read_in_both ProposesOneIfAny v m g c s statement s.tx answers (λ o r. tt) (run_once v m g c s s.tx (statement ∷ []) true answers))

pub requests_propose_once_hold : RequestsProposeOnce
unfolding on_request
requests_propose_once_hold v m g c r answers = does_once v m g c (g.session c) (asked v m g c r) answers

pub laters_propose_once_hold : LatersProposeOnce
laters_propose_once_hold v m g c statement answers =
    later_both ProposesOneIfAny v m g c statement answers tt (λ e. run_once v m g c (g.session c) (g.session c).tx (statement ∷ []) true answers)

pub logs_grow_hold : LogsGrowByProposals
logs_grow_hold w c (Refused cause) = sym (append-nil w.log)
logs_grow_hold w c Lacks = sym (append-nil w.log)
logs_grow_hold w c (Answers s reply note) = sym (append-nil w.log)
logs_grow_hold w c (Proposes s contents note) = refl
logs_grow_hold w c (Lends s job) = sym (append-nil w.log)
logs_grow_hold w c (Affects effect) = sym (append-nil w.log)
