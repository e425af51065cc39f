-- What a request that is refused leaves, what is noted of one, and what is proposed by one.
use Rattle.std.proofs.Common.{◌≡◌, ◌⊎◌, inl, inr, ⊎_elim, ℕ, Bool, true, false, true≢false, cond, List, [], ◌∷◌, refl, sym, ap, subst}
use Rattle.std.specs.Prelude.{◌&&◌, Option, Some, None}
use Rattle.std.proofs.lemmas.Bool.{cond_both}
use Rattle.dq_base.specs.declared.images.Image.{Image}
use Rattle.dq_base.specs.Images.{page_count}
use Rattle.dq_base.specs.Changes.{changed}
use Rattle.wire_msgs.specs.declared.request.Request.{Request}
use Rattle.wire_msgs.specs.declared.response.Response.{Response}
use Rattle.wire_msgs.specs.declared.response.Response.TheVariants as responses
use Rattle.sql_engine.specs.declared.answer.StatementResult.{StatementResult}
use Rattle.sql_engine.specs.Replies.{Statement}
use Rattle.database_state.specs.Files.{empty_image}
use Rattle.session_spec.specs.Causes.{Cause, NotLeader, LogFull, DatabaseFull, failure}
use Rattle.session_spec.specs.Machine.{Machine}
use Rattle.session_spec.specs.Engines.{Answer, no_pages, Ending, Lacking, TooLarge, Stopped, Ended, Handed}
use Rattle.session_spec.specs.Sessions.{Reply, Single, absent, Transaction, Session, Gateway, View, Note, Nothing, Inside, Outside, Turned, Refused, Lacks, Answers, Proposes, Lends, Affects, Writing, Committing}
use Rattle.session_spec.specs.Limits.{other_holds, pages_full, log_full, first_cause, change_refusal}
use Rattle.session_spec.specs.Asking.{Asked, Never, Tells, Sets, Opens, Creates, Prepares, Drops, Forgets, Begins, Commits, RollsBack, Changes, Runs, Reads, asked}
use Rattle.session_spec.specs.Requests.{with_lost, with_session, worked, flying, unless, row_cause, reply_of, change_of, outside_write, outside, inside, ground, run_in, was_cut, read_outside, read_in, waits_first, barrier_first, has_nothing, committed, commit_in, does, on_request, handed_over, handed_for, handed, on_later, handed_later}
use Rattle.session_spec.proofs.Asked.{all_allowed}
use Rattle.session_spec.specs.Outcomes.{reply_at_once}
use Rattle.session_spec.specs.Allowed.{IsAllowed, EndsLost}
use Rattle.session_spec.specs.Laws.{IsRefusal, IsRefused, NothingDone, RefusalsKeep, NoteTells, LendsHanded, TurnedTells, NotesTell, IsChange, IsSole, ProposalIs, ProposesPages, LatersKeep}

-- ---- what is so of all that comes of a request

-- the reply is no refusal
abbrev Plain : Reply → Type 0
Plain reply = IsRefusal reply → ⊥

-- a reply that is a refusal ends a lost transaction of the session before, by `not leader`
pub record EndsIt (old s : Session) (reply : Reply) : Type 0 where
  pub lost : old.lost ≡ true
  pub after : s ≡ with_lost old false
  pub told : reply ≡ Single (failure NotLeader)

-- of the three laws at once: what a reply that is a refusal leaves, what is noted was handed over, and what is proposed is a change or one entry
abbrev Good : Session → Option Handed → View → Turned → Type 0
Good old o v (Refused cause) = Unit {0}
Good old o v Lacks = Unit {0}
Good old o v (Answers s reply note) = (IsRefusal reply → EndsIt old s reply) × NoteTells o note
Good old o v (Proposes s contents note) = (IsChange v contents ⊎ IsSole contents) × NoteTells o note
Good old o v (Lends s job) = LendsHanded o job
Good old o v (Affects effect) = o ≡ None

unless_good : (old : Session) (o : Option Handed) (v : View) (cause : Option Cause) (t : Turned) → Good old o v t → Good old o v (unless cause t)
unless_good old o v None t h = h
unless_good old o v (Some cause) t h = tt

reply_plain : (rows : Bool) (answer : StatementResult) → Plain (reply_of rows answer)
reply_plain true answer h = h
reply_plain false answer h = h

changes : (v : View) (name : List ℕ) (from to : Image) → IsChange v (change_of v name (changed from to))
changes v name from to = record { name = name; from = from; to = to; is = refl }

outside_good : (old : Session) (v : View) (m : Machine) (g : Gateway) (c : ℕ) (s : Session) (ss : List Statement) (rows : Bool) (i : Image) (end : Ending) → Good old (handed_over i ss) v (outside v m g c s ss rows end)
unfolding outside outside_write
outside_good old v m g c s ss rows i Lacking = tt
outside_good old v m g c s ss rows i (TooLarge answer) = unless_good old (handed_over i ss) v (first_cause (log_full v) LogFull (row_cause rows answer (change_refusal m g c s.database (m.base s.database).newest answer.after.pages (m.base s.database).image))) (Refused DatabaseFull) tt
outside_good old v m g c s ss rows i (Stopped fault) = tt
outside_good old v m g c s ss rows i (Ended to answer) =
    let pages = changed (m.base s.database).image to in
    cond_both (no_pages pages) _ _ (Good old (handed_over i ss) v)
    (λ e. unless_good old (handed_over i ss) v (row_cause rows answer None) (Answers s (reply_of rows answer) (Outside s.database ss)) ((λ h. absurd (reply_plain rows answer h)), refl))
    (λ e. unless_good old (handed_over i ss) v (first_cause (log_full v) LogFull (row_cause rows answer (change_refusal m g c s.database (m.base s.database).newest pages to))) (Proposes (flying v s s.database (change_of v s.database pages) (page_count to) (Writing (reply_of rows answer))) (change_of v s.database pages) (Outside s.database ss)) (inl (changes v s.database (m.base s.database).image to), refl))

inside_good : (old : Session) (v : View) (m : Machine) (g : Gateway) (c : ℕ) (s : Session) (x : Transaction) (ss : List Statement) (rows : Bool) (i : Image) (end : Ending) → Good old (handed_over i ss) v (inside m g c s x ss rows end)
unfolding inside
inside_good old v m g c s x ss rows i Lacking = tt
inside_good old v m g c s x ss rows i (TooLarge answer) = unless_good old (handed_over i ss) v (row_cause rows answer (change_refusal m g c x.name x.mark answer.after.pages x.working)) (Refused DatabaseFull) tt
inside_good old v m g c s x ss rows i (Stopped fault) = tt
inside_good old v m g c s x ss rows i (Ended to answer) =
    cond_both (no_pages (changed x.working to)) _ _ (Good old (handed_over i ss) v)
    (λ e. unless_good old (handed_over i ss) v (row_cause rows answer None) (Answers (worked s x to x.turn) (reply_of rows answer) (Inside x.name ss)) ((λ h. absurd (reply_plain rows answer h)), refl))
    (λ e. unless_good old (handed_over i ss) v (row_cause rows answer (change_refusal m g c x.name x.mark (changed x.working to) to)) (Answers (worked s x to true) (reply_of rows answer) (Inside x.name ss)) ((λ h. absurd (reply_plain rows answer h)), refl))

run_good : (old : Session) (v : View) (m : Machine) (g : Gateway) (c : ℕ) (s : Session) (o : Option Transaction) (ss : List Statement) (rows : Bool) (answers : List Answer) → Good old (handed_over (ground m s o) ss) v (run_in v m g c s o ss rows answers)
run_good old v m g c s None ss rows answers = outside_good old v m g c s ss rows (m.base s.database).image _
run_good old v m g c s (Some x) ss rows answers = inside_good old v m g c s x ss rows x.working _

-- a query that is lent is the one that was handed over
read_outside_good : (old : Session) (v : View) (m : Machine) (g : Gateway) (c : ℕ) (s : Session) (statement : Statement) (end : Ending) → Good old (handed_over (m.base s.database).image (statement ∷ [])) v (read_outside v m g c s statement end)
read_outside_good old v m g c s statement end = cond_both (v.readers && was_cut end) _ _ (Good old (handed_over (m.base s.database).image (statement ∷ [])) v) (λ e. (refl, refl)) (λ e. outside_good old v m g c s (statement ∷ []) true (m.base s.database).image end)

read_good : (old : Session) (v : View) (m : Machine) (g : Gateway) (c : ℕ) (s : Session) (o : Option Transaction) (statement : Statement) (answers : List Answer) → Good old (handed_over (ground m s o) (statement ∷ [])) v (read_in v m g c s o statement answers)
read_good old v m g c s None statement answers = read_outside_good old v m g c s statement _
read_good old v m g c s (Some x) statement answers = run_good old v m g c s (Some x) (statement ∷ []) true answers

commit_good : (old : Session) (v : View) (m : Machine) (g : Gateway) (c : ℕ) (s : Session) (o : Option Transaction) → Good old None v (commit_in v m g c s o)
unfolding committed
commit_good old v m g c s None = tt
commit_good old v m g c s (Some x) =
    cond_both (has_nothing x) _ _ (Good old None v)
    (λ e. ((λ h. absurd h), tt))
    (λ e. unless_good old None v (first_cause (log_full v) LogFull (change_refusal m g c x.name x.mark (changed x.pinned x.working) x.working)) (Proposes (flying v s x.name (change_of v x.name (changed x.pinned x.working)) (page_count x.working) Committing) (change_of v x.name (changed x.pinned x.working)) Nothing) (inl (changes v x.name x.pinned x.working), tt))

-- ---- requests

-- a lost transaction ends by a refusal only if that is by `not leader`
forgets_good : (s : Session) (response : Response) → EndsLost s response → IsRefusal (Single response) → EndsIt s (with_lost s false) (Single response)
forgets_good s response ends h = ⊎_elim
    (λ (e : response ≡ failure NotLeader). record { lost = ends.lost; after = refl; told = ap (λ (r : Response). Single r) e })
    (λ (e : response ≡ responses.Result 0 0). absurd (subst (λ (r : Response). IsRefusal (Single r)) e h))
    ends.told

does_good : (v : View) (m : Machine) (g : Gateway) (c : ℕ) (s : Session) (r : Request) (x : Asked) (answers : List Answer) → IsAllowed v g s r x → Good s (handed_for m s x) v (does v m g c s x answers)
unfolding does
does_good v m g c s r (Never cause) answers fair = tt
does_good v m g c s r (Tells response) answers fair = ((λ h. absurd (fair h)), tt)
does_good v m g c s r (Sets effect) answers fair = refl
does_good v m g c s r (Opens name barriers) answers fair = ((λ h. absurd h), tt)
does_good v m g c s r (Creates name barriers) answers fair = cond_both (pages_full m g name empty_image) _ _ (Good s None v) (λ e. tt) (λ e. (inr (inl (name, refl)), tt))
does_good v m g c s r (Prepares p tail) answers fair = ((λ h. absurd h), tt)
does_good v m g c s r (Drops id) answers fair = ((λ h. absurd h), tt)
does_good v m g c s r (Forgets response) answers fair = (forgets_good s response fair, tt)
does_good v m g c s r (Begins at_once) answers fair = cond_both (at_once && other_holds g c s.database) _ _ (Good s None v) (λ e. tt) (λ e. ((λ h. absurd h), tt))
does_good v m g c s r Commits answers fair = commit_good s v m g c s s.tx
does_good v m g c s r RollsBack answers fair = ((λ h. absurd h), tt)
does_good v m g c s r (Changes servers short) answers fair = cond_both (log_full v) _ _ (Good s None v) (λ e. tt) (λ e. (inr (inr (inl (servers, refl))), tt))
does_good v m g c s r (Runs ss) answers fair = run_good s v m g c s s.tx ss false answers
does_good v m g c s r (Reads statement) answers fair = reads_good (waits_first s)
  where
    barrier_good : Good s None v (barrier_first v s statement)
    barrier_good = cond_both (log_full v) _ _ (Good s None v) (λ e. tt) (λ e. (inr (inr (inr refl)), tt))

    reads_good : (b : Bool) → Good s (cond b None (handed_over (ground m s s.tx) (statement ∷ []))) v (cond b (barrier_first v s statement) (read_in v m g c s s.tx statement answers))
    reads_good true = barrier_good
    reads_good false = read_good s v m g c s s.tx statement answers

-- ---- the laws

request_good : (v : View) (m : Machine) (g : Gateway) (c : ℕ) (request : Request) (answers : List Answer) → Good (g.session c) (handed v m g c request) v (on_request v m g c request answers)
unfolding on_request handed
request_good v m g c request answers = does_good v m g c (g.session c) request (asked v m g c request) answers (all_allowed v m g c (g.session c) request)

keeps : (o : Option Handed) (v : View) (g : Gateway) (c : ℕ) (t : Turned) → Good (g.session c) o v t → IsRefused (reply_at_once t) → NothingDone g c t
keeps o v g c (Refused cause) good h = record { gateway = inl refl; none = refl }
keeps o v g c Lacks good h = absurd h
keeps o v g c (Answers s reply note) good h =
    let ends = good.0 h in
    record { gateway = inr (record { lost = ends.lost; gateway = ap (λ (t : Session). with_session g c t) ends.after }); none = refl }
keeps o v g c (Proposes s contents note) good h = absurd h
keeps o v g c (Lends s job) good h = absurd h
keeps o v g c (Affects effect) good h = absurd h

pub refusals_keep_hold : RefusalsKeep
refusals_keep_hold v m g c request answers = keeps (handed v m g c request) v g c (on_request v m g c request answers) (request_good v m g c request answers)

-- what is answered at once is no refusal, except for that of a COMMIT of a lost transaction
pub answers_plain : (v : View) (m : Machine) (g : Gateway) (c : ℕ) (request : Request) (answers : List Answer) (s : Session) (reply : Reply) (note : Note) → on_request v m g c request answers ≡ Answers s reply note → IsRefusal reply → reply ≡ Single (failure NotLeader)
answers_plain v m g c request answers s reply note e h =
    ((subst (Good (g.session c) (handed v m g c request) v) e (request_good v m g c request answers)).0 h).told

tells : (old : Session) (o : Option Handed) (v : View) (t : Turned) → Good old o v t → TurnedTells o t
tells old o v (Refused cause) good = tt
tells old o v Lacks good = tt
tells old o v (Answers s reply note) good = good.1
tells old o v (Proposes s contents note) good = good.1
tells old o v (Lends s job) good = good
tells old o v (Affects effect) good = good

pub notes_tell_hold : NotesTell
notes_tell_hold v m g c request answers = tells (g.session c) (handed v m g c request) v (on_request v m g c request answers) (request_good v m g c request answers)

proposal : (old : Session) (o : Option Handed) (v : View) (t : Turned) → Good old o v t → ProposalIs v t
proposal old o v (Refused cause) good = tt
proposal old o v Lacks good = tt
proposal old o v (Answers s reply note) good = tt
proposal old o v (Proposes s contents note) good = good.0
proposal old o v (Lends s job) good = tt
proposal old o v (Affects effect) good = tt

pub proposes_pages_holds : ProposesPages
proposes_pages_holds v m g c request answers = proposal (g.session c) (handed v m g c request) v (on_request v m g c request answers) (request_good v m g c request answers)

-- ---- queries that are run later

later_good : (old : Session) (v : View) (m : Machine) (g : Gateway) (c : ℕ) (statement : Statement) (answers : List Answer) → Good old (handed_later v m g c statement) v (on_later v m g c statement answers)
unfolding on_later handed_later
later_good old v m g c statement answers = by v.serving
  where
    by : (b : Bool) → Good old (cond b (handed_over (ground m (g.session c) (g.session c).tx) (statement ∷ [])) None) v (cond b (run_in v m g c (g.session c) (g.session c).tx (statement ∷ []) true answers) (Refused NotLeader))
    by true = run_good old v m g c (g.session c) (g.session c).tx (statement ∷ []) true answers
    by false = tt

-- what is answered at once then is no refusal
pub later_answers_plain : (v : View) (m : Machine) (g : Gateway) (c : ℕ) (statement : Statement) (answers : List Answer) (s : Session) (reply : Reply) (note : Note) → on_later v m g c statement answers ≡ Answers s reply note → IsRefusal reply → ⊥
later_answers_plain v m g c statement answers s reply note e h =
    absurd (true≢false (sym ((subst (Good absent (handed_later v m g c statement) v) e (later_good absent v m g c statement answers)).0 h).lost))

pub laters_keep_hold : LatersKeep
laters_keep_hold v m g c statement answers =
    let good = later_good (g.session c) v m g c statement answers in
    record {
      refusals = keeps (handed_later v m g c statement) v g c (on_later v m g c statement answers) good;
      notes = tells (g.session c) (handed_later v m g c statement) v (on_later v m g c statement answers) good;
      proposes = proposal (g.session c) (handed_later v m g c statement) v (on_later v m g c statement answers) good;
    }
