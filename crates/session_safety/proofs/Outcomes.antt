-- What comes of a request, as far as the account of statements goes.
use Rattle.std.proofs.Common.{◌≡◌, ◌⊎◌, inl, inr, ℕ, cond, Bool, true, false, true≢false, List, [], ◌∷◌, refl, sym, ap}
use Rattle.std.specs.Prelude.{◌&&◌, not, is_none, Option, Some, None}
use Rattle.std.proofs.lemmas.Bool.{cond_both, and_parts}
use Rattle.dq_base.specs.Images.{page_count}
use Rattle.dq_base.specs.Changes.{changed}
use Rattle.database_state.specs.Files.{empty_image}
use Rattle.sql_engine.specs.declared.answer.StatementResult.{StatementResult}
use Rattle.sql_engine.specs.Replies.{Statement}
use Rattle.wire_msgs.specs.declared.request.Request.{Request}
use Rattle.session_spec.specs.Asking.{Asked, Never, Tells, Sets, Opens, Creates, Prepares, Drops, Forgets, Begins, Commits, RollsBack, Changes, Runs, Reads, asked}
use Rattle.session_spec.specs.Causes.{NotLeader, LogFull, DatabaseFull}
use Rattle.session_spec.specs.Engines.{Answer, no_pages, Ending, Lacking, TooLarge, Stopped, Ended, Handed}
use Rattle.session_spec.specs.Limits.{other_holds, pages_full, log_full, first_cause, change_refusal}
use Rattle.session_spec.specs.Machine.{Machine}
use Rattle.session_spec.specs.Requests.{worked, flying, change_of, row_cause, reply_of, outside_write, outside, inside, run_in, ground, read_in, waits_first, barrier_first, has_nothing, committed, commit_in, does, on_request, statements_asked, handed_over, handed_for, handed, on_later, handed_later}
use Rattle.session_spec.specs.Sessions.{Reply, Refusal, Single, Rows, Kind, Opening, Configuring, Writing, Committing, Querying, Flight, Lent, Transaction, Session, Gateway, View, in_tx, Job, Note, Nothing, Began, Inside, Outside, Turned, Refused, Lacks, Answers, Proposes, Lends, Affects}
use Rattle.session_safety.specs.Life.{sole}
use Rattle.session_safety.proofs.Calls.{unless_ok}
use Rattle.session_safety.proofs.Lives.{none_is}
use Rattle.session_safety.proofs.Ways.{read_in_both, barrier_both, reads_both, later_both}

-- no rows are reported
abbrev pub NoRows : Reply → Type 0
NoRows (Refusal cause) = Unit {0}
NoRows (Single response) = Unit {0}
NoRows (Rows answer) = ⊥

-- rows are those of one statement
abbrev pub OneIfRows : Reply → List Statement → Type 0
OneIfRows (Refusal cause) ss = Unit {0}
OneIfRows (Single response) ss = Unit {0}
OneIfRows (Rows answer) ss = ss ≡ sole ss ∷ []

-- what is noted of a reply at once goes with the transaction before the request
abbrev pub NoteOk : Option Transaction → Reply → Note → Type 0
NoteOk o r Nothing = NoRows r
NoteOk o r Began = NoRows r
NoteOk o r (Inside name ss) = (is_none o ≡ false) × OneIfRows r ss
NoteOk o r (Outside name ss) = (o ≡ None) × OneIfRows r ss

-- and with that of the session after it
abbrev pub TxAfter : Session → Session → Note → Type 0
TxAfter s t Nothing = in_tx t ≡ true → in_tx s ≡ true
TxAfter s t Began = Unit {0}
TxAfter s t (Inside name ss) = Unit {0}
TxAfter s t (Outside name ss) = in_tx t ≡ false

-- what is noted of a proposal goes with its kind, and a barrier is for the query that is asked for
abbrev pub KindNote : List Statement → Option Transaction → Kind → Note → Type 0
KindNote own o Opening note = note ≡ Nothing
KindNote own o (Configuring short) note = note ≡ Nothing
KindNote own o (Writing r) note = (o ≡ None) × (name : List ℕ) × (ss : List Statement) × (note ≡ Outside name ss) × OneIfRows r ss
KindNote own o Committing note = (is_none o ≡ false) × (note ≡ Nothing)
KindNote own o (Querying statement) note = (o ≡ None) × (note ≡ Nothing) × (own ≡ statement ∷ [])

-- the session is there as it was
pub record Still (s t : Session) : Type 0 where
  pub there : t.there ≡ s.there
  pub hung : t.hung ≡ s.hung

pub record AnswerOk (s t : Session) (r : Reply) (note : Note) : Type 0 where
  pub still : Still s t
  pub free : s.flight ≡ None → t.flight ≡ None
  pub kept : t.later ≡ s.later
  pub noted : NoteOk s.tx r note
  pub tx : TxAfter s t note

pub record ProposalOk (own : List Statement) (s t : Session) (note : Note) : Type 0 where
  pub still : Still s t
  pub flight : Flight
  pub is : t.flight ≡ Some flight
  pub tx : t.tx ≡ s.tx
  pub kept : t.later ≡ s.later
  pub kind : KindNote own s.tx flight.kind note

-- a query that is lent is the one that is asked for, outside a transaction
pub record LendOk (own : List Statement) (s t : Session) (job : Job) : Type 0 where
  pub still : Still s t
  pub flight : t.flight ≡ s.flight
  pub tx : t.tx ≡ s.tx
  pub out : s.tx ≡ None
  pub later : t.later ≡ Some (Lent job.statement)
  pub asked : own ≡ job.statement ∷ []

abbrev pub TurnedOk : List Statement → Session → Turned → Type 0
TurnedOk own s (Refused cause) = Unit {0}
TurnedOk own s Lacks = Unit {0}
TurnedOk own s (Answers t r note) = AnswerOk s t r note
TurnedOk own s (Proposes t contents note) = ProposalOk own s t note
TurnedOk own s (Lends t job) = LendOk own s t job
TurnedOk own s (Affects effect) = Unit {0}

same : (s : Session) → Still s s
same s = record { there = refl; hung = refl }

one_rows : (rows : Bool) (answer : StatementResult) (ss : List Statement) → (rows ≡ true → ss ≡ sole ss ∷ []) → OneIfRows (reply_of rows answer) ss
one_rows true answer ss h = h refl
one_rows false answer ss h = tt

no_tx : (o : Option Transaction) → o ≡ None → not (is_none o) ≡ false
no_tx o e = ap (λ t. not (is_none t)) e

outside_ok : (v : View) (m : Machine) (g : Gateway) (c : ℕ) (s : Session) (own ss : List Statement) (rows : Bool) (end : Ending) → s.tx ≡ None → (rows ≡ true → ss ≡ sole ss ∷ []) → TurnedOk own s (outside v m g c s ss rows end)
unfolding outside outside_write
outside_ok v m g c s own ss rows Lacking e h = tt
outside_ok v m g c s own ss rows (TooLarge answer) e h = unless_ok _ (Refused DatabaseFull) (TurnedOk own s) (λ why. tt) (λ n. tt)
outside_ok v m g c s own ss rows (Stopped fault) e h = tt
outside_ok v m g c s own ss rows (Ended to answer) e h =
    cond_both (no_pages (changed (m.base s.database).image to)) _ _ (TurnedOk own s)
    (λ p. unless_ok (row_cause rows answer None) (Answers s (reply_of rows answer) (Outside s.database ss)) (TurnedOk own s) (λ why. tt) (λ n. record { still = same s; free = λ f. f; kept = refl; noted = (e, one_rows rows answer ss h); tx = no_tx s.tx e }))
    (λ p. unless_ok (first_cause (log_full v) LogFull (row_cause rows answer (change_refusal m g c s.database (m.base s.database).newest (changed (m.base s.database).image to) to))) (Proposes (flying v s s.database (change_of v s.database (changed (m.base s.database).image to)) (page_count to) (Writing (reply_of rows answer))) (change_of v s.database (changed (m.base s.database).image to)) (Outside s.database ss)) (TurnedOk own s) (λ why. tt) (λ n. record { still = record { there = refl; hung = refl }; flight = _; is = refl; tx = refl; kept = refl; kind = (e, s.database, ss, refl, one_rows rows answer ss h) }))

inside_ok : (m : Machine) (g : Gateway) (c : ℕ) (s : Session) (x : Transaction) (own ss : List Statement) (rows : Bool) (end : Ending) → s.tx ≡ Some x → (rows ≡ true → ss ≡ sole ss ∷ []) → TurnedOk own s (inside m g c s x ss rows end)
unfolding inside
inside_ok m g c s x own ss rows Lacking e h = tt
inside_ok m g c s x own ss rows (TooLarge answer) e h = unless_ok _ (Refused DatabaseFull) (TurnedOk own s) (λ why. tt) (λ n. tt)
inside_ok m g c s x own ss rows (Stopped fault) e h = tt
inside_ok m g c s x own ss rows (Ended to answer) e h =
    cond_both (no_pages (changed x.working to)) _ _ (TurnedOk own s)
    (λ p. unless_ok (row_cause rows answer None) (Answers (worked s x to x.turn) (reply_of rows answer) (Inside x.name ss)) (TurnedOk own s) (λ why. tt) (λ n. record { still = record { there = refl; hung = refl }; free = λ f. f; kept = refl; noted = (ap is_none e, one_rows rows answer ss h); tx = tt }))
    (λ p. unless_ok (row_cause rows answer (change_refusal m g c x.name x.mark (changed x.working to) to)) (Answers (worked s x to true) (reply_of rows answer) (Inside x.name ss)) (TurnedOk own s) (λ why. tt) (λ n. record { still = record { there = refl; hung = refl }; free = λ f. f; kept = refl; noted = (ap is_none e, one_rows rows answer ss h); tx = tt }))

run_ok : (v : View) (m : Machine) (g : Gateway) (c : ℕ) (s : Session) (o : Option Transaction) (own ss : List Statement) (rows : Bool) (answers : List Answer) → s.tx ≡ o → (rows ≡ true → ss ≡ sole ss ∷ []) → TurnedOk own s (run_in v m g c s o ss rows answers)
run_ok v m g c s None own ss rows answers e h = outside_ok v m g c s own ss rows _ e h
run_ok v m g c s (Some x) own ss rows answers e h = inside_ok m g c s x own ss rows _ e h

over : (s : Session) → false ≡ true → in_tx s ≡ true
over s e = absurd (true≢false (sym e))

commit_ok : (v : View) (m : Machine) (g : Gateway) (c : ℕ) (s : Session) (own : List Statement) (o : Option Transaction) → s.tx ≡ o → TurnedOk own s (commit_in v m g c s o)
unfolding committed
commit_ok v m g c s own None e = tt
commit_ok v m g c s own (Some x) e =
    cond_both (has_nothing x) _ _ (TurnedOk own s)
    (λ p. record { still = record { there = refl; hung = refl }; free = λ f. f; kept = refl; noted = tt; tx = λ q. over s q })
    (λ p. unless_ok (first_cause (log_full v) LogFull (change_refusal m g c x.name x.mark (changed x.pinned x.working) x.working)) (Proposes (flying v s x.name (change_of v x.name (changed x.pinned x.working)) (page_count x.working) Committing) (change_of v x.name (changed x.pinned x.working)) Nothing) (TurnedOk own s) (λ why. tt) (λ n. record { still = record { there = refl; hung = refl }; flight = _; is = refl; tx = refl; kept = refl; kind = (ap is_none e, refl) }))

does_ok : (v : View) (m : Machine) (g : Gateway) (c : ℕ) (s : Session) (x : Asked) (answers : List Answer) → TurnedOk (statements_asked x) s (does v m g c s x answers)
unfolding does
does_ok v m g c s (Never cause) answers = tt
does_ok v m g c s (Tells response) answers = record { still = same s; free = λ f. f; kept = refl; noted = tt; tx = λ e. e }
does_ok v m g c s (Sets effect) answers = tt
does_ok v m g c s (Opens name barriers) answers = record { still = record { there = refl; hung = refl }; free = λ f. refl; kept = refl; noted = tt; tx = λ e. e }
does_ok v m g c s (Creates name barriers) answers = cond_both (pages_full m g name empty_image) _ _ (TurnedOk [] s) (λ p. tt) (λ p. record { still = record { there = refl; hung = refl }; flight = _; is = refl; tx = refl; kept = refl; kind = refl })
does_ok v m g c s (Prepares p tail) answers = record { still = record { there = refl; hung = refl }; free = λ f. f; kept = refl; noted = tt; tx = λ e. e }
does_ok v m g c s (Drops id) answers = record { still = record { there = refl; hung = refl }; free = λ f. f; kept = refl; noted = tt; tx = λ e. e }
does_ok v m g c s (Forgets response) answers = record { still = record { there = refl; hung = refl }; free = λ f. f; kept = refl; noted = tt; tx = λ e. e }
does_ok v m g c s (Begins at_once) answers = cond_both (at_once && other_holds g c s.database) _ _ (TurnedOk [] s) (λ p. tt) (λ p. record { still = record { there = refl; hung = refl }; free = λ f. f; kept = refl; noted = tt; tx = tt })
does_ok v m g c s Commits answers = commit_ok v m g c s [] s.tx refl
does_ok v m g c s RollsBack answers = record { still = record { there = refl; hung = refl }; free = λ f. f; kept = refl; noted = tt; tx = λ q. over s q }
does_ok v m g c s (Changes servers short) answers = cond_both (log_full v) _ _ (TurnedOk [] s) (λ p. tt) (λ p. record { still = record { there = refl; hung = refl }; flight = _; is = refl; tx = refl; kept = refl; kind = refl })
does_ok v m g c s (Runs ss) answers = run_ok v m g c s s.tx ss ss false answers refl (λ e. absurd (true≢false (sym e)))
does_ok v m g c s (Reads statement) answers = reads_both (TurnedOk (statement ∷ []) s) v m g c s statement answers
    (λ e. barrier_both (TurnedOk (statement ∷ []) s) v m g c s statement tt (record { still = record { there = refl; hung = refl }; flight = _; is = refl; tx = refl; kept = refl; kind = (none_is s.tx (and_parts s.barriers (is_none s.tx) e).1, refl, refl) }))
    (λ e. read_in_both (TurnedOk (statement ∷ []) s) v m g c s statement s.tx answers
    (λ o r. record { still = record { there = refl; hung = refl }; flight = refl; tx = refl; out = o; later = refl; asked = refl })
    (run_ok v m g c s s.tx (statement ∷ []) (statement ∷ []) true answers refl (λ y. refl)))

pub request_turns : (v : View) (m : Machine) (g : Gateway) (c : ℕ) (r : Request) (answers : List Answer) → TurnedOk (statements_asked (asked v m g c r)) (g.session c) (on_request v m g c r answers)
unfolding on_request
request_turns v m g c r answers = does_ok v m g c (g.session c) (asked v m g c r) answers

pub later_turns : (v : View) (m : Machine) (g : Gateway) (c : ℕ) (statement : Statement) (answers : List Answer) → TurnedOk (statement ∷ []) (g.session c) (on_later v m g c statement answers)
later_turns v m g c statement answers = later_both (TurnedOk (statement ∷ []) (g.session c)) v m g c statement answers tt (λ e. run_ok v m g c (g.session c) (g.session c).tx (statement ∷ []) (statement ∷ []) true answers refl (λ y. refl))

-- ---- what is asked for is what is handed over, except for a barrier

abbrev pub statements_in : Option Handed → List Statement
statements_in None = []
statements_in (Some handed) = handed.statements

-- nothing comes of it at once, unless it is a refusal
abbrev pub BarrierOnly : Turned → Type 0
BarrierOnly (Refused cause) = Unit {0}
BarrierOnly Lacks = ⊥
BarrierOnly (Answers s reply note) = ⊥
BarrierOnly (Proposes s contents note) = (f : Flight) × (s.flight ≡ Some f) × (statement : Statement) × (f.kind ≡ Querying statement)
BarrierOnly (Lends s job) = ⊥
BarrierOnly (Affects effect) = ⊥

abbrev pub Owns : List Statement → Option Handed → Turned → Type 0
Owns own o t = (statements_in o ≡ own) ⊎ BarrierOnly t

does_owns : (v : View) (m : Machine) (g : Gateway) (c : ℕ) (s : Session) (x : Asked) (answers : List Answer) → Owns (statements_asked x) (handed_for m s x) (does v m g c s x answers)
unfolding does
does_owns v m g c s (Never cause) answers = inl refl
does_owns v m g c s (Tells response) answers = inl refl
does_owns v m g c s (Sets effect) answers = inl refl
does_owns v m g c s (Opens name barriers) answers = inl refl
does_owns v m g c s (Creates name barriers) answers = inl refl
does_owns v m g c s (Prepares p tail) answers = inl refl
does_owns v m g c s (Drops id) answers = inl refl
does_owns v m g c s (Forgets response) answers = inl refl
does_owns v m g c s (Begins at_once) answers = inl refl
does_owns v m g c s Commits answers = inl refl
does_owns v m g c s RollsBack answers = inl refl
does_owns v m g c s (Changes servers short) answers = inl refl
does_owns v m g c s (Runs ss) answers = inl refl
does_owns v m g c s (Reads statement) answers = by (waits_first s)
  where
    by : (b : Bool) → Owns (statement ∷ []) (cond b None (handed_over (ground m s s.tx) (statement ∷ []))) (cond b (barrier_first v s statement) (read_in v m g c s s.tx statement answers))
    by true = inr (barrier_both BarrierOnly v m g c s statement tt (_, refl, statement, refl))
    by false = inl refl

pub request_owns : (v : View) (m : Machine) (g : Gateway) (c : ℕ) (r : Request) (answers : List Answer) → Owns (statements_asked (asked v m g c r)) (handed v m g c r) (on_request v m g c r answers)
unfolding on_request handed
request_owns v m g c r answers = does_owns v m g c (g.session c) (asked v m g c r) answers

pub later_owns : (v : View) (m : Machine) (g : Gateway) (c : ℕ) (statement : Statement) (answers : List Answer) → Owns (statement ∷ []) (handed_later v m g c statement) (on_later v m g c statement answers)
unfolding on_later handed_later
later_owns v m g c statement answers = by v.serving
  where
    by : (b : Bool) → Owns (statement ∷ []) (cond b (handed_over (ground m (g.session c) (g.session c).tx) (statement ∷ [])) None) (cond b (run_in v m g c (g.session c) (g.session c).tx (statement ∷ []) true answers) (Refused NotLeader))
    by true = inl refl
    by false = inr tt
