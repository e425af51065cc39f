-- What comes of a request, with what it hands to an engine or nothing.
use Rattle.std.proofs.Common.{◌≡◌, ℕ, zero, suc, ◌<◌, ◌++◌, length, get_or, ap, ◌∙◌, arith, Bool, true, false, cond, ◌&&◌, List, [], ◌∷◌, Option, Some, None, refl, sym, subst, rules}
use Rattle.std.proofs.lemmas.Bool.{false≢true, and_parts}
use Rattle.std.specs.Prelude.{is_none, not, nat_lt, IsSome, MatchOption}
use Rattle.std.specs.Option.{option_map}
use Rattle.std.specs.List.{AllByRecursion}
use Rattle.dq_base.specs.Images.{page_count}
use Rattle.dq_base.specs.Changes.{changed}
use Rattle.wire_words.specs.declared.value.Value.{Value}
use Rattle.log_commands.specs.declared.command.Command.TheVariants.{OpenDb}
use Rattle.database_state.specs.declared.database.Database.{Database}
use Rattle.database_state.specs.Files.{empty_image}
use Rattle.database_state.specs.Pins.{IsPinned}
use Rattle.wire_msgs.specs.declared.request.Request.{Request}
use Rattle.wire_msgs.specs.declared.request.Request.TheVariants as requests
use Rattle.session_gateway.specs.declared.act.Act.{Act}
use Rattle.session_gateway.specs.Calls.{TurnsByAnswers, HasNoNul, AddressHasNoNul}
use Rattle.sql_engine.specs.declared.kind.EngineKind.{EngineKind}
use Rattle.sql_engine.specs.Meanings.{Meaning, Told}
use Rattle.session_spec.specs.Asking as asking
use Rattle.session_spec.specs.Asking.{Asked, asked_by}
use Rattle.session_spec.specs.Causes as causes
use Rattle.session_spec.specs.Causes.{Cause}
use Rattle.session_spec.specs.Engines.{Answer, Handed}
use Rattle.raft_spec.specs.Node.{Server}
use Rattle.session_spec.specs.Entries.{Does, Configures}
use Rattle.session_spec.specs.Limits.{pages_full, other_holds, log_full, first_cause, change_refusal}
use Rattle.session_spec.specs.Machine.{Machine, machine_of}
use Rattle.session_spec.specs.Requests.{does, handed_for, handed, on_request, begun, flying, commit_in, has_nothing, committed, unless, change_of, with_tx, with_barriers}
use Rattle.session_spec.specs.Sessions.{may_ask, Session, Gateway, View, Transaction, Turned, Refused, Lacks, Answers, Proposes, Lends, Affects, Opening, Configuring, Committing, Nothing, Began, result}
use Rattle.session_statements.specs.Running.{TellsAll}
use Rattle.session_table.specs.declared.cause.Cause.TheVariants as told
use Rattle.session_table.specs.declared.session.Session.{Session as CodeSession}
use Rattle.session_table.specs.Changing.{IsAbsent, StandsAt}
use Rattle.session_table.specs.Table.{database_of, transaction_of, session_of, session_at, table_of, AreApart, pin_of, pins_of}
use Rattle.session_table.proofs.Placing.{stands}
use Rattle.session_table.proofs.Swept.{none_there}
use Rattle.session_gateway.specs.Carrying.{CanCarry}
use Rattle.session_requests.specs.declared.wanted.RequestPlan.{RequestPlan}
use Rattle.session_requests.specs.Meant.{meant, IsPlainCause, NameHasNoNul}
use Rattle.session_outcomes.specs.declared.decision.Decision.{Decision}
use Rattle.session_outcomes.specs.declared.decision.Decision.TheVariants as decisions
use Rattle.session_outcomes.specs.Turning.{MatchesOutcome, MatchesOutcomeByAnswers, TurnsTo}
use Rattle.session_statements.specs.Calls.{call_of}
use Rattle.session_outcomes.specs.Scenes.{scene}

-- no answer of an engine is looked at
pub nothing_handed : (m : Meaning) (kind : EngineKind) (v : View) (machine : Machine) (g : Gateway) (conn : ℕ) (s : Session) (params : List Value) (w known : RequestPlan) (told_now : Option Told) (decision : Decision) → w ≡ known
    → handed_for machine s (meant params known) ≡ None → MatchesOutcome v machine s (does v machine g conn s (meant params known) []) decision → TurnsTo (call_of m kind told_now told_now) (scene v machine g conn) s (meant params w) decision
unfolding TellsAll
nothing_handed m kind v machine g conn s params w known told_now decision is none comes =
    subst (λ (x : RequestPlan). TurnsTo (call_of m kind told_now told_now) (scene v machine g conn) s (meant params x) decision) (sym is)
    (subst (λ (o : Option Handed). MatchesOutcomeByAnswers (call_of m kind told_now told_now) v machine s o (does v machine g conn s (meant params known)) decision) (sym none)
    (record { answers = []; allowed = tt; told = refl; exact = refl; is = comes }))

-- ---- files that an engine didn't open

-- the outcome is no refusal for that cause
abbrev pub IsPlain : Turned → Type 0
IsPlain (Refused cause) = IsPlainCause cause
IsPlain Lacks = Unit {0}
IsPlain (Answers s reply note) = Unit {0}
IsPlain (Proposes s contents note) = Unit {0}
IsPlain (Lends s job) = Unit {0}
IsPlain (Affects effect) = Unit {0}

abbrev IsPlainFor : Option Cause → Type 0
IsPlainFor None = Unit {0}
IsPlainFor (Some cause) = IsPlainCause cause

module _ (v : View) (m : Machine) (s : Session) where
  not_that : (turned : Turned) → IsPlain turned → MatchesOutcome v m s turned (decisions.Refused told.NotADatabase) → ⊥
  not_that (Refused cause) h e = subst IsPlainCause e h
  not_that Lacks h e = e
  not_that (Answers to reply note) h e = e
  not_that (Proposes to contents note) h e = e
  not_that (Lends to job) h e = e
  not_that (Affects effect) h e = e

  pub never_unopened : (turned : Turned) (decision : Decision) → IsPlain turned → MatchesOutcome v m s turned decision → decision ≡ decisions.Refused told.NotADatabase → ⊥
  never_unopened turned decision h e is = not_that turned h (subst (MatchesOutcome v m s turned) is e)

either : (b : Bool) (x y : Turned) → IsPlain x → IsPlain y → IsPlain (cond b x y)
either true x y a b = a
either false x y a b = b

either_cause : (b : Bool) (cause : Cause) (others : Option Cause) → IsPlainCause cause → IsPlainFor others → IsPlainFor (first_cause b cause others)
either_cause true cause others a b = a
either_cause false cause others a b = b

unless_plain : (o : Option Cause) (t : Turned) → IsPlainFor o → IsPlain t → IsPlain (unless o t)
unless_plain None t a b = b
unless_plain (Some cause) t a b = a

module _ (v : View) (m : Machine) (g : Gateway) (conn : ℕ) (s : Session) (answers : List Answer) where
  pub creates_plain : (name : List ℕ) (barriers : Bool) → IsPlain (does v m g conn s (asking.Creates name barriers) answers)
  unfolding does
  creates_plain name barriers = either (pages_full m g name empty_image) (Refused causes.DatabaseFull) (Proposes (flying v (with_barriers s barriers) name (Does (OpenDb name) ∷ []) 0 Opening) (Does (OpenDb name) ∷ []) Nothing) tt tt

  pub changes_plain : (servers : List Server) (short : Bool) → IsPlain (does v m g conn s (asking.Changes servers short) answers)
  unfolding does
  changes_plain servers short = either (log_full v) (Refused causes.LogFull) (Proposes (flying v s [] (Configures servers ∷ []) 0 (Configuring short)) (Configures servers ∷ []) Nothing) tt tt

  pub begins_plain : (at_once : Bool) → IsPlain (does v m g conn s (asking.Begins at_once) answers)
  unfolding does
  begins_plain at_once = either (at_once && other_holds g conn s.database) (Refused causes.Locked) (Answers (begun m s at_once) (result 0) Began) tt tt

  hindered : (x : Transaction) → IsPlainFor (first_cause (log_full v) causes.LogFull (change_refusal m g conn x.name x.mark (changed x.pinned x.working) x.working))
  unfolding change_refusal
  hindered x = search (rules, either_cause)

  ends_plain : (x : Transaction) → IsPlain (committed v m g conn s x)
  unfolding committed
  ends_plain x =
      either (has_nothing x) (Answers (with_tx s None) (result 0) Nothing)
      (unless (first_cause (log_full v) causes.LogFull (change_refusal m g conn x.name x.mark (changed x.pinned x.working) x.working)) (Proposes (flying v s x.name (change_of v x.name (changed x.pinned x.working)) (page_count x.working) Committing) (change_of v x.name (changed x.pinned x.working)) Nothing)) tt
      (unless_plain (first_cause (log_full v) causes.LogFull (change_refusal m g conn x.name x.mark (changed x.pinned x.working) x.working)) (Proposes (flying v s x.name (change_of v x.name (changed x.pinned x.working)) (page_count x.working) Committing) (change_of v x.name (changed x.pinned x.working)) Nothing) (hindered x) tt)

  commit_plain : (o : Option Transaction) → IsPlain (commit_in v m g conn s o)
  commit_plain None = tt
  commit_plain (Some x) = ends_plain x

  pub commits_plain : IsPlain (does v m g conn s asking.Commits answers)
  unfolding does
  commits_plain = commit_plain s.tx

-- ---- what is wanted by a request

pub decided : (m : Meaning) (kind : EngineKind) (v : View) (machine : Machine) (g : Gateway) (conn own : ℕ) (s : Session) (params : List Value) (w : RequestPlan) (request : Request) (told_before told_now : Option Told) (decision : Decision)
    → s ≡ g.session conn → own ≡ conn → meant params w ≡ asked_by v machine g own s request → TurnsTo (call_of m kind told_before told_now) (scene v machine g own) s (meant params w) decision
    → MatchesOutcomeByAnswers (call_of m kind told_before told_now) v machine (g.session conn) (handed v machine g conn request) (on_request v machine g conn request) decision
unfolding handed on_request
decided m kind v machine g conn own s params w request told_before told_now decision is at wants comes =
    let first : TurnsTo (call_of m kind told_before told_now) (scene v machine g own) s (asked_by v machine g own s request) decision = subst (λ (a : Asked). TurnsTo (call_of m kind told_before told_now) (scene v machine g own) s a decision) wants comes in
    let second : TurnsTo (call_of m kind told_before told_now) (scene v machine g conn) s (asked_by v machine g conn s request) decision = subst (λ (c : ℕ). TurnsTo (call_of m kind told_before told_now) (scene v machine g c) s (asked_by v machine g c s request) decision) at first in
    let third : TurnsTo (call_of m kind told_before told_now) (scene v machine g conn) (g.session conn) (asked_by v machine g conn (g.session conn) request) decision = subst (λ (t : Session). TurnsTo (call_of m kind told_before told_now) (scene v machine g conn) t (asked_by v machine g conn t request) decision) is second in
    record { answers = third.answers; allowed = third.allowed; told = third.told; exact = third.exact; is = third.is }

-- ---- the session at a place of the table

pub here_at : (databases : List Database) (sessions : List CodeSession) (weight conn place : ℕ) (d : CodeSession) → AreApart sessions → StandsAt conn sessions place → session_of databases (get_or sessions place d) ≡ (table_of databases sessions weight).session conn
unfolding table_of
here_at databases sessions weight conn place d apart at =
    sym (subst (λ (n : ℕ). session_at databases sessions n ≡ session_of databases (get_or sessions place d)) (at.own d) (stands databases sessions place d apart at.within))

both_parts : {X : Type 0} (P : X → Type 0) (xs ys : List X) → AllByRecursion P (xs ++ ys) → AllByRecursion P xs × AllByRecursion P ys
both_parts P [] ys all = (tt, all)
both_parts P (x ∷ xs) ys all = let rest : AllByRecursion P xs × AllByRecursion P ys = both_parts P xs ys all.1 in ((all.0, rest.0), rest.1)

pub pins_part : (databases : List Database) (sessions : List CodeSession) (place : ℕ) (d : CodeSession) → place < length sessions → AllByRecursion (IsPinned databases) (pins_of sessions) → AllByRecursion (IsPinned databases) (pin_of (get_or sessions place d).transaction)
pins_part databases [] place d within all = absurd (omega arith)
pins_part databases (s ∷ ss) zero d within all = (both_parts (IsPinned databases) (pin_of s.transaction) (pins_of ss) all).0
pins_part databases (s ∷ ss) (suc place) d within all = let h : place < length ss = omega arith in pins_part databases ss place d h (both_parts (IsPinned databases) (pin_of s.transaction) (pins_of ss) all).1

-- ---- what can be carried out

some_name : (o : Option (List ℕ)) → nat_lt 0 (length (database_of o)) ≡ true → IsSome o
some_name None e = absurd (false≢true e)
some_name (Some name) e = refl

none_mapped : {X Y : Type 0} (f : X → Y) (o : Option X) → option_map f o ≡ None → o ≡ None
none_mapped f None e = refl
none_mapped f (Some x) e = (cc)

pub can_carry : (v : View) (m : Machine) (databases : List Database) (s : CodeSession) (turned : Turned) (decision : Decision) → MatchesOutcome v m (session_of databases s) turned decision → CanCarry s decision
can_carry v m databases s turned (decisions.Refused told) e = tt
can_carry v m databases s turned decisions.Ends e = tt
can_carry v m databases s turned (decisions.Proposes flight entries) e = tt
can_carry v m databases s turned (decisions.Creates flight entries barriers) e = tt
can_carry v m databases s turned (decisions.Lends query job) e = tt
can_carry v m databases s turned (decisions.Affects effect) e = tt
can_carry v m databases s (Refused cause) (decisions.Answers change reply) e = absurd e
can_carry v m databases s Lacks (decisions.Answers change reply) e = absurd e
can_carry v m databases s (Answers to reply note) (decisions.Answers change told) e = e.2
can_carry v m databases s (Proposes to contents note) (decisions.Answers change reply) e = absurd e
can_carry v m databases s (Lends to job) (decisions.Answers change reply) e = absurd e
can_carry v m databases s (Affects effect) (decisions.Answers change reply) e = absurd e
can_carry v m databases s (Refused cause) (decisions.Begins at_once) e = absurd e
can_carry v m databases s Lacks (decisions.Begins at_once) e = absurd e
can_carry v m databases s (Answers to reply note) (decisions.Begins at_once) e = (none_mapped (transaction_of databases) s.transaction e.2, some_name s.database e.3)
can_carry v m databases s (Proposes to contents note) (decisions.Begins at_once) e = absurd e
can_carry v m databases s (Lends to job) (decisions.Begins at_once) e = absurd e
can_carry v m databases s (Affects effect) (decisions.Begins at_once) e = absurd e

-- ---- a connection that has a session stands somewhere

pub stands_somewhere : (databases : List Database) (sessions : List CodeSession) (weight conn : ℕ) → ((table_of databases sessions weight).session conn).there ≡ true → IsAbsent conn sessions → ⊥
unfolding table_of
stands_somewhere databases sessions weight conn there none = false≢true (sym (ap (λ (s : Session). s.there) (none_there databases sessions conn none)) ∙ there)

pub is_found : {X : Type 0} (o : Option X) (P : Type 0) (Q : X → Type 0) → MatchOption o P Q → (P → ⊥) → IsSome o
is_found {X} None P Q h never = absurd (never h)
is_found {X} (Some x) P Q h never = refl

pub moved : (m : Meaning) (kind : EngineKind) (v : View) (databases : List Database) (sessions known : List CodeSession) (weight conn : ℕ) (request : Request) (told_before told_now : Option Told) (decision : Decision) → known ≡ sessions
    → MatchesOutcomeByAnswers (call_of m kind told_before told_now) v (machine_of databases) ((table_of databases known weight).session conn) (handed v (machine_of databases) (table_of databases known weight) conn request) (on_request v (machine_of databases) (table_of databases known weight) conn request) decision
    → MatchesOutcomeByAnswers (call_of m kind told_before told_now) v (machine_of databases) ((table_of databases sessions weight).session conn) (handed v (machine_of databases) (table_of databases sessions weight) conn request) (on_request v (machine_of databases) (table_of databases sessions weight) conn request) decision
moved m kind v databases sessions known weight conn request told_before told_now decision same comes =
    subst (λ (ss : List CodeSession). MatchesOutcomeByAnswers (call_of m kind told_before told_now) v (machine_of databases) ((table_of databases ss weight).session conn) (handed v (machine_of databases) (table_of databases ss weight) conn request) (on_request v (machine_of databases) (table_of databases ss weight) conn request) decision) same comes

pub carry_at : (m : Meaning) (kind : EngineKind) (v : View) (databases : List Database) (sessions known : List CodeSession) (weight conn place : ℕ) (d : CodeSession) (request : Request) (told_before told_now : Option Told) (decision : Decision)
    → known ≡ sessions → AreApart sessions → StandsAt conn sessions place
    → MatchesOutcomeByAnswers (call_of m kind told_before told_now) v (machine_of databases) ((table_of databases known weight).session conn) (handed v (machine_of databases) (table_of databases known weight) conn request) (on_request v (machine_of databases) (table_of databases known weight) conn request) decision
    → CanCarry (get_or sessions place d) decision
carry_at m kind v databases sessions known weight conn place d request told_before told_now decision same apart at comes =
    let here : MatchesOutcomeByAnswers (call_of m kind told_before told_now) v (machine_of databases) ((table_of databases sessions weight).session conn) (handed v (machine_of databases) (table_of databases sessions weight) conn request) (on_request v (machine_of databases) (table_of databases sessions weight) conn request) decision =
    moved m kind v databases sessions known weight conn request told_before told_now decision same comes in
    can_carry v (machine_of databases) databases (get_or sessions place d) (on_request v (machine_of databases) (table_of databases sessions weight) conn request here.answers) decision
    (subst (λ (s : Session). MatchesOutcome v (machine_of databases) s (on_request v (machine_of databases) (table_of databases sessions weight) conn request here.answers) decision) (sym (here_at databases sessions weight conn place d apart at)) here.is)

pub its_name : (request : Request) → HasNoNul request → NameHasNoNul request
its_name requests.Leader h = tt
its_name (requests.Client id) h = tt
its_name (requests.Open name flags vfs) h = h
its_name (requests.Prepare db sql wide) h = tt
its_name (requests.Exec db id params wide) h = tt
its_name (requests.Query db id params wide) h = tt
its_name (requests.Finalize db id) h = tt
its_name (requests.ExecSql db sql params wide) h = tt
its_name (requests.QuerySql db sql params wide) h = tt
its_name (requests.Interrupt db) h = tt
its_name (requests.Connect id address) h = tt
its_name (requests.Add id address) h = tt
its_name (requests.Assign id role) h = tt
its_name (requests.Remove id) h = tt
its_name (requests.Dump name) h = tt
its_name (requests.Cluster format) h = tt
its_name (requests.Transfer id) h = tt
its_name (requests.Describe format) h = tt
its_name (requests.Weight weight) h = tt

pub its_address : (request : Request) → HasNoNul request → AddressHasNoNul request
its_address requests.Leader h = tt
its_address (requests.Client id) h = tt
its_address (requests.Open name flags vfs) h = tt
its_address (requests.Prepare db sql wide) h = tt
its_address (requests.Exec db id params wide) h = tt
its_address (requests.Query db id params wide) h = tt
its_address (requests.Finalize db id) h = tt
its_address (requests.ExecSql db sql params wide) h = tt
its_address (requests.QuerySql db sql params wide) h = tt
its_address (requests.Interrupt db) h = tt
its_address (requests.Connect id address) h = tt
its_address (requests.Add id address) h = h
its_address (requests.Assign id role) h = tt
its_address (requests.Remove id) h = tt
its_address (requests.Dump name) h = tt
its_address (requests.Cluster format) h = tt
its_address (requests.Transfer id) h = tt
its_address (requests.Describe format) h = tt
its_address (requests.Weight weight) h = tt

pub there_if : (s : Session) → may_ask s ≡ true → s.there ≡ true
unfolding may_ask
there_if s e = (and_parts s.there (not s.hung) (and_parts (s.there && not s.hung) (is_none s.flight) (and_parts (s.there && not s.hung && is_none s.flight) (is_none s.later) e).0).0).0

pub turned_so : (m : Meaning) (kind : EngineKind) (v : View) (machine : Machine) (g known : Gateway) (conn : ℕ) (request : Request) (told_before told_now : Option Told) (now seen : Gateway) (act : Act) → g ≡ known → now ≡ seen
    → TurnsByAnswers (call_of m kind told_before told_now) (scene v machine g conn) request now act → TurnsByAnswers (call_of m kind told_before told_now) (scene v machine known conn) request seen act
turned_so m kind v machine g known conn request told_before told_now now seen act before after turned =
    subst (λ (h : Gateway). TurnsByAnswers (call_of m kind told_before told_now) (scene v machine known conn) request h act) after
    (subst (λ (h : Gateway). TurnsByAnswers (call_of m kind told_before told_now) (scene v machine h conn) request now act) before turned)
