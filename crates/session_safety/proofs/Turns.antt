-- The write lock.
use Rattle.std.proofs.Common.{◌≡◌, ◌≢◌, ℕ, suc, ◌+◌, ◌≤◌, Bool, true, false, true≢false, cond, List, [], ◌∷◌, ◌++◌, length, refl, sym, ap, ◌∙◌, subst, ⊎_elim, arith}
use Rattle.std.specs.Prelude.{◌==◌, ◌&&◌, ◌||◌, not, is_none, bytes_eq, Option, Some, None}
use Rattle.std.proofs.lemmas.Bool.{cond_both, cases_Bool, eqb-true, eqb-false, and_parts, and_from, and_cases, or_cases, or_right}
use Rattle.dq_base.specs.declared.images.Image.{Image}
use Rattle.dq_base.specs.Images.{page_count}
use Rattle.dq_base.specs.Changes.{changed}
use Rattle.log_commands.specs.declared.command.Command.TheVariants.{OpenDb}
use Rattle.log_commands.specs.Splitting.{before_last}
use Rattle.database_state.specs.Files.{empty_image}
use Rattle.wire_msgs.specs.declared.request.Request.{Request}
use Rattle.wire_msgs.specs.declared.response.Response.TheVariants as responses
use Rattle.sql_engine.specs.declared.kind.EngineKind.{EngineKind}
use Rattle.sql_engine.specs.Replies.{Statement}
use Rattle.sql_engine.specs.Meanings.{Meaning}
use Rattle.session_spec.specs.Causes.{Cause, NotLeader, DatabaseFull, LogFull, Locked, NoTransaction, engine_cause}
use Rattle.session_spec.specs.Entries.{Content, Does, Configures, Other, Entry, entries_of, tx_of}
use Rattle.session_spec.specs.Machine.{base_at, image_at}
use Rattle.session_spec.specs.Engines.{Answer, no_pages, Ending, Lacking, TooLarge, Stopped, Ended}
use Rattle.session_spec.specs.Sessions.{Reply, Single, result, empty, db, Kind, Opening, Configuring, Writing, Committing, Querying, Flight, Lent, later_query, lent_query, Transaction, Session, Job, absent, fresh, may_ask, Began, Nothing, Inside, Outside, Note, Effect, HandsOver, JoinsPeer, Weighs, Refused, Answers, Proposes, Lends, Affects}
use Rattle.session_spec.specs.Statements.{free_id, with_prepared, without_prepared}
use Rattle.session_spec.specs.Limits.{writes_to, holds_write_lock, holds, other_holds, is_write, pages_full, first_cause, change_refusal, log_full}
use Rattle.session_spec.specs.Asking.{Asked, Never, Tells, Sets, Opens, Creates, Prepares, Drops, Forgets, Begins, Commits, RollsBack, Changes, Runs, Reads, asked}
use Rattle.session_spec.specs.Requests.{with_tx, with_statements, with_lost, with_database, with_barriers, with_later, begun, worked, flying, row_cause, reply_of, outside_write, outside, inside, run_in, job_of, has_nothing, committed, commit_in, does, on_request, on_later, with_session}
use Rattle.session_spec.specs.Events.{tidy, settled_by, landed, on_applied, left, on_hangup, connects, connected}
use Rattle.session_spec.proofs.Images.{unchanged, changed_same}
use Rattle.session_spec.proofs.Names.{name_is, is_name, same_name}
use Rattle.session_safety.specs.Nodes.{Node, Standing, databases, view_of, started}
use Rattle.session_safety.specs.Life.{Event, Connect, Hangup, Call, Resume, Done, Apply, Lose, Lead, Serve, Append, Follow, ArePlain, undue, outcome_later, resumed, told_at, read_by, read, called, happens, run_from, Fits, AllFit}
use Rattle.session_safety.specs.Laws.{Starts, life, OneTurn, ChangesTakeTurns, CommitsPass}
use Rattle.session_safety.proofs.Files.{Free, touches, alike_between, base_append, split_free}
use Rattle.session_safety.proofs.Invariant.{Calm, Apart, ApartBy, free_later, Bare, NodeOk, calm_grown}
use Rattle.session_safety.proofs.Tables.{none_holds, others_none}
use Rattle.session_safety.proofs.Applies.{calm_next}
use Rattle.session_safety.proofs.Moves.{no, plain_free, undue_ok}
use Rattle.session_safety.proofs.Wrotes.{block_for}
use Rattle.session_safety.proofs.Calls.{unless_ok, first_none, row_none, Unhindered, hindrance_none, calm_here}
use Rattle.session_safety.proofs.Laters.{resumed_both, undue_here, later_there}
use Rattle.session_safety.proofs.Ways.{read_in_both, barrier_both, reads_both, later_both}
use Rattle.session_safety.proofs.Lives.{none_is, happens_ok, run_ok, started_ok}
use Rattle.session_safety.proofs.Alones.{call_same}

-- what is so of an open transaction: without the write lock it has changed nothing; with it, no one else's pages are on their way
record TurnFacts (log : List Entry) (applied : ℕ) (f : Option Flight) (x : Transaction) : Type 0 where
  kept : x.turn ≡ false → x.pinned ≡ x.working
  calm : x.turn ≡ true → writes_to f x.name ≡ false → Calm x.name applied log
  newest : x.turn ≡ true → writes_to f x.name ≡ false → (base_at log applied x.name).newest ≡ x.mark

abbrev TurnIs : List Entry → ℕ → Option Flight → Option Transaction → Type 0
TurnIs log applied f None = Unit {0}
TurnIs log applied f (Some x) = TurnFacts log applied f x

record TurnOk (log : List Entry) (applied : ℕ) (session : ℕ → Session) : Type 0 where
  single : (c d : ℕ) (n : List ℕ) → c ≢ d → holds (session c) n ≡ true → holds (session d) n ≡ true → ⊥
  each : (c : ℕ) → TurnIs log applied (session c).flight (session c).tx

bare_holds : (s : Session) (n : List ℕ) → Bare s → holds s n ≡ true → ⊥
unfolding holds
bare_holds s n b e = true≢false (sym e ∙ ap (λ o. writes_to s.flight n || holds_write_lock o n) b.tx ∙ ap (λ o. writes_to o n || false) b.flight)

bare_turn : (log : List Entry) (applied : ℕ) (s : Session) → Bare s → TurnIs log applied s.flight s.tx
bare_turn log applied s b = subst (TurnIs log applied s.flight) (sym b.tx) tt

all_bare : (log : List Entry) (applied : ℕ) (session : ℕ → Session) → ((c : ℕ) → Bare (session c)) → TurnOk log applied session
all_bare log applied session b = record { single = λ c d n e x y. bare_holds (session c) n (b c) x; each = λ c. bare_turn log applied (session c) (b c) }

-- one session is another one
put_turn : (log : List Entry) (applied : ℕ) (session : ℕ → Session) (c : ℕ) (s : Session) → ((k d : ℕ) (n : List ℕ) → k ≢ d → holds (session k) n ≡ true → holds (session d) n ≡ true → ⊥) → ((d : ℕ) (n : List ℕ) → d ≢ c → holds s n ≡ true → holds (session d) n ≡ true → ⊥) → ((d : ℕ) → d ≢ c → TurnIs log applied (session d).flight (session d).tx) → TurnIs log applied s.flight s.tx → TurnOk log applied (λ d. cond (d == c) s (session d))
put_turn log applied session c s old alone others is = record {
  single = λ k d n ne. cond_both (k == c) s (session k) (λ y. holds y n ≡ true → holds (cond (d == c) s (session d)) n ≡ true → ⊥)
      (λ e. cond_both (d == c) s (session d) (λ z. holds s n ≡ true → holds z n ≡ true → ⊥)
      (λ f x y. ne (eqb-true k c e ∙ sym (eqb-true d c f)))
      (λ f. alone d n (eqb-false d c f)))
      (λ e. cond_both (d == c) s (session d) (λ z. holds (session k) n ≡ true → holds z n ≡ true → ⊥)
      (λ f x y. alone k n (eqb-false k c e) y x)
      (λ f. old k d n ne));
  each = λ d. cond_both (d == c) s (session d) (λ y. TurnIs log applied y.flight y.tx) (λ e. is) (λ e. others d (eqb-false d c e));
}

-- the log grows by entries that leave alone whatever a transaction with the write lock needs
turn_grown : (log es : List Entry) (applied : ℕ) (f : Option Flight) (o : Option Transaction) → applied ≤ length log → ((n : List ℕ) → holds_write_lock o n ≡ true → Free n es) → TurnIs log applied f o → TurnIs (log ++ es) applied f o
turn_grown log es applied f None h free a = tt
turn_grown log es applied f (Some x) h free a = record {
  kept = a.kept;
  calm = λ t w. calm_grown x.name applied log es h (free x.name (and_from _ _ t (same_name x.name))) (a.calm t w);
  newest = λ t w. ap (λ d. d.newest) (base_append log es applied x.name h) ∙ a.newest t w;
}

-- an entry is applied
turn_next : (log : List Entry) (applied : ℕ) (f g : Option Flight) (o : Option Transaction) → ((n : List ℕ) → writes_to g n ≡ false → writes_to f n ≡ false) → TurnIs log applied f o → TurnIs log (suc applied) g o
turn_next log applied f g None h a = tt
turn_next log applied f g (Some x) h a = record {
  kept = a.kept;
  calm = λ t w. calm_next x.name applied log (a.calm t (h x.name w));
  newest = λ t w. let c = a.calm t (h x.name w) in (alike_between log applied (suc applied) x.name (omega arith) c.free).newest ∙ a.newest t (h x.name w);
}

turn_landed : (log : List Entry) (applied : ℕ) (s : Session) (f : Flight) (k : Kind) → f.kind ≡ k → s.flight ≡ Some f → ApartBy k s.tx → TurnIs log applied s.flight s.tx → TurnIs log (suc applied) (landed s f k).flight (landed s f k).tx
turn_landed log applied s f Opening e q p a =
    turn_next log applied s.flight None s.tx (λ n w. ap (λ o. writes_to o n) q ∙ ap (λ k. is_write k && bytes_eq f.name n) e) a
turn_landed log applied s f (Configuring short) e q p a =
    turn_next log applied s.flight None s.tx (λ n w. ap (λ o. writes_to o n) q ∙ ap (λ k. is_write k && bytes_eq f.name n) e) a
turn_landed log applied s f (Writing reply) e q p a = subst (TurnIs log (suc applied) None) (sym p) tt
turn_landed log applied s f Committing e q p a = tt
turn_landed log applied s f (Querying statement) e q p a =
    turn_next log applied s.flight None s.tx (λ n w. ap (λ o. writes_to o n) q ∙ ap (λ k. is_write k && bytes_eq f.name n) e) a

turn_settled : (log : List Entry) (applied index : ℕ) (s : Session) (o : Option Flight) → s.flight ≡ o → Apart o s.tx → TurnIs log applied s.flight s.tx → TurnIs log (suc applied) (settled_by index s o).flight (settled_by index s o).tx
turn_settled log applied index s None q p a = turn_next log applied s.flight s.flight s.tx (λ n w. w) a
turn_settled log applied index s (Some f) q p a =
    cond_both (f.last == index) (cond s.hung absent (landed s f f.kind)) s (λ y. TurnIs log (suc applied) y.flight y.tx)
    (λ e. cond_both s.hung absent (landed s f f.kind) (λ y. TurnIs log (suc applied) y.flight y.tx) (λ z. tt) (λ z. turn_landed log applied s f f.kind refl q p a))
    (λ e. turn_next log applied s.flight s.flight s.tx (λ n w. w) a)

landed_holds : (s : Session) (f : Flight) (k : Kind) (n : List ℕ) → holds (landed s f k) n ≡ true → holds s n ≡ true
unfolding holds
landed_holds s f Opening n e = or_right (writes_to s.flight n) (holds_write_lock s.tx n) e
landed_holds s f (Configuring short) n e = or_right (writes_to s.flight n) (holds_write_lock s.tx n) e
landed_holds s f (Writing reply) n e = or_right (writes_to s.flight n) (holds_write_lock s.tx n) e
landed_holds s f Committing n e = no e
landed_holds s f (Querying statement) n e = or_right (writes_to s.flight n) (holds_write_lock s.tx n) e

settled_holds : (i : ℕ) (s : Session) (o : Option Flight) (n : List ℕ) → holds (settled_by i s o) n ≡ true → holds s n ≡ true
unfolding holds
settled_holds i s None n e = e
settled_holds i s (Some f) n e =
    cond_both (f.last == i) (cond s.hung absent (landed s f f.kind)) s (λ y. holds y n ≡ true → holds s n ≡ true)
    (λ z. cond_both s.hung absent (landed s f f.kind) (λ y. holds y n ≡ true → holds s n ≡ true) (λ y q. no q) (λ y q. landed_holds s f f.kind n q))
    (λ z q. q) e

left_holds : (s : Session) (o : Option Flight) (n : List ℕ) → holds (left s o) n ≡ true → holds s n ≡ true
unfolding holds
left_holds s None n e = no e
left_holds s (Some f) n e = e

left_turn : (log : List Entry) (applied : ℕ) (s : Session) (o : Option Flight) → TurnIs log applied s.flight s.tx → TurnIs log applied (left s o).flight (left s o).tx
left_turn log applied s None a = tt
left_turn log applied s (Some f) a = a

abbrev WTurn : Node → Type 0
WTurn w = TurnOk w.log w.applied w.gate.session

-- another pending proposal that writes where the old one did
turn_flight : (log : List Entry) (applied : ℕ) (f g : Option Flight) (o : Option Transaction) → ((n : List ℕ) → writes_to g n ≡ false → writes_to f n ≡ false) → TurnIs log applied f o → TurnIs log applied g o
turn_flight log applied f g None h a = tt
turn_flight log applied f g (Some x) h a = record { kept = a.kept; calm = λ t w. a.calm t (h x.name w); newest = λ t w. a.newest t (h x.name w) }

turn_name : (x : Transaction) (n : List ℕ) → holds_write_lock (Some x) n ≡ true → n ≡ x.name
turn_name x n e = sym (name_is _ _ (and_parts _ _ e).1)

module _ (mean : Meaning) (standing : Standing) (w : Node) (a : NodeOk mean w) (t : WTurn w) (c : ℕ) (free : (w.gate.session c).flight ≡ None) (here : (w.gate.session c).there ≡ true) where
  -- no other session has the write lock
  none_other : (n : List ℕ) → other_holds w.gate c n ≡ false → (d : ℕ) → d ≢ c → holds (w.gate.session d) n ≡ true → ⊥
  none_other n h d ne e = ⊎_elim
      (λ (y : (w.gate.session d).there ≡ true). true≢false (sym e ∙ none_holds w.gate c d n h ne (a.listed d y)))
      (λ (y : (w.gate.session d).there ≡ false). bare_holds (w.gate.session d) n (a.absent d y) e)
      (cases_Bool (w.gate.session d).there)

  answered : (s : Session) (r : Reply) (note : Note) → ((d : ℕ) (n : List ℕ) → d ≢ c → holds s n ≡ true → holds (w.gate.session d) n ≡ true → ⊥) → TurnIs w.log w.applied s.flight s.tx → WTurn (called w c (Answers s r note))
  unfolding with_session
  answered s r note alone is = put_turn w.log w.applied w.gate.session c s t.single alone (λ d ne. t.each d) is

  proposes : (s : Session) (contents : List Content) (note : Note) → ((d : ℕ) (n : List ℕ) → d ≢ c → holds (w.gate.session d) n ≡ true → Free n (entries_of w.term contents)) → ((d : ℕ) (n : List ℕ) → d ≢ c → holds s n ≡ true → holds (w.gate.session d) n ≡ true → ⊥) → TurnIs (w.log ++ entries_of w.term contents) w.applied s.flight s.tx → WTurn (called w c (Proposes s contents note))
  unfolding with_session holds
  proposes s contents note freed alone is = put_turn (w.log ++ entries_of w.term contents) w.applied w.gate.session c s t.single alone
      (λ d ne. turn_grown w.log (entries_of w.term contents) w.applied (w.gate.session d).flight (w.gate.session d).tx a.applied (λ n h. freed d n ne (or_right (writes_to (w.gate.session d).flight n) (holds_write_lock (w.gate.session d).tx n) h)) (t.each d))
      is

  off : (n : List ℕ) → writes_to (w.gate.session c).flight n ≡ false
  off n = ap (λ o. writes_to o n) free

  -- a session that has the write lock no more than the old one
  less : (s : Session) (r : Reply) (note : Note) → ((n : List ℕ) → holds s n ≡ true → holds (w.gate.session c) n ≡ true) → TurnIs w.log w.applied s.flight s.tx → WTurn (called w c (Answers s r note))
  less s r note h is = answered s r note (λ d n ne x y. t.single c d n (λ z. ne (sym z)) (h n x) y) is

  refuse : (why : Cause) → WTurn (called w c (Refused why))
  refuse why = t

  begin_turn : (now : Bool) → w.serving ≡ true → (now && other_holds w.gate c (w.gate.session c).database) ≡ false → WTurn (called w c (Answers (begun (databases w) (w.gate.session c) now) (result 0) Began))
  unfolding holds
  begin_turn now serves h =
      let db = (w.gate.session c).database in
      let alone : now ≡ true → other_holds w.gate c db ≡ false = λ e. ⊎_elim (λ (x : now ≡ false). no (sym x ∙ e)) (λ (x : other_holds w.gate c db ≡ false). x) (and_cases now _ h) in
      answered (begun (databases w) (w.gate.session c) now) (result 0) Began
      (λ d n ne x y. ⊎_elim
      (λ (z : writes_to (w.gate.session c).flight n ≡ true). no (sym (off n) ∙ z))
      (λ (z : (now && bytes_eq db n) ≡ true). let p = and_parts now (bytes_eq db n) z in none_other db (alone p.0) d ne (subst (λ k. holds (w.gate.session d) k ≡ true) (sym (name_is db n p.1)) y))
      (or_cases (writes_to (w.gate.session c).flight n) (now && bytes_eq db n) x))
      (record { kept = λ e. refl; calm = λ e x. calm_here mean standing w a c free here db serves (alone e); newest = λ e x. refl })

  worked_same : (x : Transaction) (to : Image) (r : Reply) (ss : List Statement) → (w.gate.session c).tx ≡ Some x → no_pages (changed x.working to) ≡ true → WTurn (called w c (Answers (worked (w.gate.session c) x to x.turn) r (Inside x.name ss)))
  unfolding holds
  worked_same x to r ss is e =
      let f = subst (TurnIs w.log w.applied (w.gate.session c).flight) is (t.each c) in
      less (worked (w.gate.session c) x to x.turn) r (Inside x.name ss)
      (λ n y. subst (λ o. (writes_to (w.gate.session c).flight n || holds_write_lock o n) ≡ true) (sym is) y)
      (record { kept = λ z. f.kept z ∙ unchanged x.working to e; calm = f.calm; newest = f.newest })

  worked_new : (x : Transaction) (to : Image) (r : Reply) (ss : List Statement) → w.serving ≡ true → Unhindered (databases w) w.gate c x.name x.mark (changed x.working to) → WTurn (called w c (Answers (worked (w.gate.session c) x to true) r (Inside x.name ss)))
  unfolding holds
  worked_new x to r ss serves u =
      answered (worked (w.gate.session c) x to true) r (Inside x.name ss)
      (λ d n ne y z. ⊎_elim
      (λ (q : writes_to (w.gate.session c).flight n ≡ true). no (sym (off n) ∙ q))
      (λ (q : bytes_eq x.name n ≡ true). none_other x.name u.turn d ne (subst (λ k. holds (w.gate.session d) k ≡ true) (sym (name_is x.name n q)) z))
      (or_cases (writes_to (w.gate.session c).flight n) (bytes_eq x.name n) y))
      (record { kept = λ e. no (sym e); calm = λ e q. calm_here mean standing w a c free here x.name serves u.turn; newest = λ e q. u.newest })

  -- a change of pages is proposed: no other session has the write lock
  write_turn : (name : List ℕ) (from to : Image) (pages : ℕ) (kind : Kind) (note : Note) → other_holds w.gate c name ≡ false → ((n : List ℕ) → holds_write_lock (w.gate.session c).tx n ≡ true → n ≡ name) → ((f : Flight) (log : List Entry) → f.name ≡ name → f.kind ≡ kind → TurnIs log w.applied (Some f) (w.gate.session c).tx) → WTurn (called w c (Proposes (flying (view_of w standing) (w.gate.session c) name (block_for w.log w.term name from to) pages kind) (block_for w.log w.term name from to) note))
  unfolding holds
  write_turn name from to pages kind note alone only is =
      proposes (flying (view_of w standing) (w.gate.session c) name (block_for w.log w.term name from to) pages kind) (block_for w.log w.term name from to) note
      (λ d n ne h. split_free w.term name (tx_of w.term (suc (length w.log))) (before_last (changed from to)) (changed from to) n (λ e. none_other name alone d ne (subst (λ k. holds (w.gate.session d) k ≡ true) e h)))
      (λ d n ne x y.
      let same : n ≡ name = ⊎_elim (λ (z : (is_write kind && bytes_eq name n) ≡ true). sym (name_is _ _ (and_parts _ _ z).1)) (λ (z : holds_write_lock (w.gate.session c).tx n ≡ true). only n z) (or_cases (is_write kind && bytes_eq name n) (holds_write_lock (w.gate.session c).tx n) x) in
      none_other name alone d ne (subst (λ k. holds (w.gate.session d) k ≡ true) same y))
      (is _ _ refl refl)

  commit_turn : (o : Option Transaction) → (w.gate.session c).tx ≡ o → WTurn (called w c (commit_in (view_of w standing) (databases w) w.gate c (w.gate.session c) o))
  unfolding committed holds
  commit_turn None is = refuse NoTransaction
  commit_turn (Some x) is =
      let f = subst (TurnIs w.log w.applied (w.gate.session c).flight) is (t.each c) in
      cond_both (has_nothing x) _ _ (λ y. WTurn (called w c y))
      (λ e. less (with_tx (w.gate.session c) None) (result 0) Nothing (λ n y. ⊎_elim (λ (z : writes_to (w.gate.session c).flight n ≡ true). no (sym (off n) ∙ z)) (λ (z : false ≡ true). no z) (or_cases (writes_to (w.gate.session c).flight n) false y)) tt)
      (λ e. unless_ok (first_cause (log_full (view_of w standing)) LogFull (change_refusal (databases w) w.gate c x.name x.mark (changed x.pinned x.working) x.working)) _ (λ y. WTurn (called w c y)) refuse
      (λ z.
      let u = hindrance_none (databases w) w.gate c x.name x.mark (changed x.pinned x.working) x.working (first_none (log_full (view_of w standing)) LogFull _ z).1 in
      write_turn x.name x.pinned x.working (page_count x.working) Committing Nothing u.turn
      (λ n h. turn_name x n (subst (λ o. holds_write_lock o n ≡ true) is h))
      (λ g log n k. subst (TurnIs log w.applied (Some g)) (sym is) (record {
        kept = f.kept;
        calm = λ q y. absurd (true≢false (sym (and_from (is_write g.kind) (bytes_eq g.name x.name) (ap is_write k) (is_name g.name x.name n)) ∙ y));
        newest = λ q y. absurd (true≢false (sym (and_from (is_write g.kind) (bytes_eq g.name x.name) (ap is_write k) (is_name g.name x.name n)) ∙ y));
      }))))

  outside_turn : (ss : List Statement) (rows : Bool) (end : Ending) → (w.gate.session c).tx ≡ None → WTurn (called w c (outside (view_of w standing) (databases w) w.gate c (w.gate.session c) ss rows end))
  unfolding outside outside_write
  outside_turn ss rows Lacking is = t
  outside_turn ss rows (TooLarge answer) is = unless_ok (first_cause (log_full (view_of w standing)) LogFull (row_cause rows answer (change_refusal (databases w) w.gate c (w.gate.session c).database (base_at w.log w.applied (w.gate.session c).database).newest answer.after.pages (image_at w.log w.applied (w.gate.session c).database)))) (Refused DatabaseFull) (λ y. WTurn (called w c y)) refuse (λ e. refuse DatabaseFull)
  outside_turn ss rows (Stopped fault) is = refuse (engine_cause fault)
  outside_turn ss rows (Ended to answer) is =
      let db = (w.gate.session c).database in
      let base = image_at w.log w.applied db in
      cond_both (no_pages (changed base to)) _ _ (λ y. WTurn (called w c y))
      (λ e. unless_ok (row_cause rows answer None) (Answers (w.gate.session c) (reply_of rows answer) (Outside db ss)) (λ y. WTurn (called w c y)) refuse (λ z. less (w.gate.session c) (reply_of rows answer) (Outside db ss) (λ n y. y) (t.each c)))
      (λ e. unless_ok (first_cause (log_full (view_of w standing)) LogFull (row_cause rows answer (change_refusal (databases w) w.gate c db (base_at w.log w.applied db).newest (changed base to) to))) _ (λ y. WTurn (called w c y)) refuse
      (λ z.
      let u = hindrance_none (databases w) w.gate c db (base_at w.log w.applied db).newest (changed base to) to (row_none rows answer _ (first_none (log_full (view_of w standing)) LogFull _ z).1) in
      write_turn db base to (page_count to) (Writing (reply_of rows answer)) (Outside db ss) u.turn
      (λ n h. no (subst (λ o. holds_write_lock o n ≡ true) is h))
      (λ g log n k. subst (TurnIs log w.applied (Some g)) (sym is) tt)))

  inside_turn : (x : Transaction) (ss : List Statement) (rows : Bool) (end : Ending) → w.serving ≡ true → (w.gate.session c).tx ≡ Some x → WTurn (called w c (inside (databases w) w.gate c (w.gate.session c) x ss rows end))
  unfolding inside
  inside_turn x ss rows Lacking serves is = t
  inside_turn x ss rows (TooLarge answer) serves is = unless_ok (row_cause rows answer (change_refusal (databases w) w.gate c x.name x.mark answer.after.pages x.working)) (Refused DatabaseFull) (λ y. WTurn (called w c y)) refuse (λ e. refuse DatabaseFull)
  inside_turn x ss rows (Stopped fault) serves is = refuse (engine_cause fault)
  inside_turn x ss rows (Ended to answer) serves is =
      cond_both (no_pages (changed x.working to)) _ _ (λ y. WTurn (called w c y))
      (λ e. unless_ok (row_cause rows answer None) (Answers (worked (w.gate.session c) x to x.turn) (reply_of rows answer) (Inside x.name ss)) (λ y. WTurn (called w c y)) refuse (λ z. worked_same x to (reply_of rows answer) ss is e))
      (λ e. unless_ok (row_cause rows answer (change_refusal (databases w) w.gate c x.name x.mark (changed x.working to) to)) (Answers (worked (w.gate.session c) x to true) (reply_of rows answer) (Inside x.name ss)) (λ y. WTurn (called w c y)) refuse
      (λ z. worked_new x to (reply_of rows answer) ss serves (hindrance_none (databases w) w.gate c x.name x.mark (changed x.working to) to (row_none rows answer _ z))))

  run_turn : (o : Option Transaction) (ss : List Statement) (rows : Bool) (answers : List Answer) → w.serving ≡ true → (w.gate.session c).tx ≡ o → WTurn (called w c (run_in (view_of w standing) (databases w) w.gate c (w.gate.session c) o ss rows answers))
  run_turn None ss rows answers serves is = outside_turn ss rows _ is
  run_turn (Some x) ss rows answers serves is = inside_turn x ss rows _ serves is

  -- a proposal without pages
  other_turn : (s : Session) (name : List ℕ) (content : Content) (kind : Kind) → s.tx ≡ (w.gate.session c).tx → is_write kind ≡ false → ((n : List ℕ) → touches n content ≡ false) → WTurn (called w c (Proposes (flying (view_of w standing) s name (content ∷ []) 0 kind) (content ∷ []) Nothing))
  unfolding holds
  other_turn s name content kind same quiet none =
      let f : Flight = record { name = name; first = suc (length w.log); last = length w.log + 1; term = w.term; pages = 0; kind = kind } in
      proposes (flying (view_of w standing) s name (content ∷ []) 0 kind) (content ∷ []) Nothing
      (λ d n ne h. (none n, tt))
      (λ d n ne x y. ⊎_elim (λ (z : (is_write kind && bytes_eq name n) ≡ true). no (sym quiet ∙ (and_parts _ _ z).0)) (λ (z : holds_write_lock s.tx n ≡ true). t.single c d n (λ q. ne (sym q)) (or_right (writes_to (w.gate.session c).flight n) (holds_write_lock (w.gate.session c).tx n) (subst (λ o. holds_write_lock o n ≡ true) same z)) y) (or_cases (is_write kind && bytes_eq name n) (holds_write_lock s.tx n) x))
      (turn_flight (w.log ++ entries_of w.term (content ∷ [])) w.applied (w.gate.session c).flight _ s.tx (λ n z. off n)
      (turn_grown w.log (entries_of w.term (content ∷ [])) w.applied (w.gate.session c).flight s.tx a.applied (λ n h. (none n, tt)) (subst (TurnIs w.log w.applied (w.gate.session c).flight) (sym same) (t.each c))))

  plain : (s : Session) (r : Reply) → s.flight ≡ None → s.tx ≡ (w.gate.session c).tx → WTurn (called w c (Answers s r Nothing))
  unfolding holds
  plain s r f x = less s r Nothing
      (λ n y. ⊎_elim (λ (z : writes_to s.flight n ≡ true). no (sym (ap (λ o. writes_to o n) f) ∙ z)) (λ (z : holds_write_lock s.tx n ≡ true). or_right (writes_to (w.gate.session c).flight n) (holds_write_lock (w.gate.session c).tx n) (subst (λ o. holds_write_lock o n ≡ true) x z)) (or_cases (writes_to s.flight n) (holds_write_lock s.tx n) y))
      (turn_flight w.log w.applied (w.gate.session c).flight s.flight s.tx (λ n z. off n) (subst (TurnIs w.log w.applied (w.gate.session c).flight) (sym x) (t.each c)))

  rolls : WTurn (called w c (Answers (with_tx (w.gate.session c) None) (result 0) Nothing))
  unfolding holds
  rolls = less (with_tx (w.gate.session c) None) (result 0) Nothing (λ n y. ⊎_elim (λ (z : writes_to (w.gate.session c).flight n ≡ true). no (sym (off n) ∙ z)) (λ (z : false ≡ true). no z) (or_cases (writes_to (w.gate.session c).flight n) false y)) tt

  affects_turn : (effect : Effect) → WTurn (called w c (Affects effect))
  affects_turn (HandsOver id) = t
  affects_turn (JoinsPeer id) = t
  affects_turn (Weighs weight) = record { single = t.single; each = t.each }

  lent_turn : (s : Statement) (job : Job) → WTurn (called w c (Lends (with_later (w.gate.session c) (Some (Lent s))) job))
  unfolding with_session holds
  lent_turn s job = put_turn w.log w.applied w.gate.session c (with_later (w.gate.session c) (Some (Lent s))) t.single (λ d n ne x y. t.single c d n (λ z. ne (sym z)) x y) (λ d ne. t.each d) (t.each c)

  does_turn : (x : Asked) (answers : List Answer) → w.serving ≡ true → WTurn (called w c (does (view_of w standing) (databases w) w.gate c (w.gate.session c) x answers))
  unfolding does
  does_turn (Never why) answers serves = refuse why
  does_turn (Tells response) answers serves = plain (w.gate.session c) (Single response) free refl
  does_turn (Sets effect) answers serves = affects_turn effect
  does_turn (Opens name barriers) answers serves = plain (with_barriers (with_database (w.gate.session c) name) barriers) db refl refl
  does_turn (Creates name barriers) answers serves = cond_both (pages_full (databases w) w.gate name empty_image) _ _ (λ y. WTurn (called w c y)) (λ e. refuse DatabaseFull) (λ e. other_turn (with_barriers (w.gate.session c) barriers) name (Does (OpenDb name)) Opening refl refl (λ n. refl))
  does_turn (Prepares p tail) answers serves = plain (with_statements (w.gate.session c) (with_prepared p (w.gate.session c).statements)) (Single (responses.Stmt 0 (free_id (w.gate.session c).statements) p.params tail)) free refl
  does_turn (Drops id) answers serves = plain (with_statements (w.gate.session c) (without_prepared id (w.gate.session c).statements)) empty free refl
  does_turn (Forgets response) answers serves = plain (with_lost (w.gate.session c) false) (Single response) free refl
  does_turn (Begins now) answers serves =
      cond_both (now && other_holds w.gate c (w.gate.session c).database) _ _ (λ y. WTurn (called w c y)) (λ e. refuse Locked) (λ e. begin_turn now serves e)
  does_turn Commits answers serves = commit_turn (w.gate.session c).tx refl
  does_turn RollsBack answers serves = rolls
  does_turn (Changes servers short) answers serves = cond_both (log_full (view_of w standing)) _ _ (λ y. WTurn (called w c y)) (λ e. refuse LogFull) (λ e. other_turn (w.gate.session c) [] (Configures servers) (Configuring short) refl refl (λ n. refl))
  does_turn (Runs ss) answers serves = run_turn (w.gate.session c).tx ss false answers serves refl
  does_turn (Reads s) answers serves = reads_both (λ y. WTurn (called w c y)) (view_of w standing) (databases w) w.gate c (w.gate.session c) s answers
      (λ e. barrier_both (λ y. WTurn (called w c y)) (view_of w standing) (databases w) w.gate c (w.gate.session c) s (refuse LogFull) (other_turn (w.gate.session c) [] Other (Querying s) refl refl (λ n. refl)))
      (λ e. read_in_both (λ y. WTurn (called w c y)) (view_of w standing) (databases w) w.gate c (w.gate.session c) s (w.gate.session c).tx answers (λ o r. lent_turn s (job_of (databases w) (w.gate.session c) s)) (run_turn (w.gate.session c).tx (s ∷ []) true answers serves refl))

  later_turn : (s : Statement) (answers : List Answer) → WTurn (called w c (on_later (view_of w standing) (databases w) w.gate c s answers))
  later_turn s answers = later_both (λ y. WTurn (called w c y)) (view_of w standing) (databases w) w.gate c s answers (refuse NotLeader) (λ e. run_turn (w.gate.session c).tx (s ∷ []) true answers e refl)

module _ (mean : Meaning) (kind : EngineKind) where
  -- if the node does not serve, no session has the write lock
  call_bare : (w : Node) (c : ℕ) (standing : Standing) (r : Request) (answers : List Answer) → WTurn w → NodeOk mean w → Fits mean kind w (Call c standing r answers) → w.serving ≡ false → WTurn (happens w (Call c standing r answers))
  call_bare w c standing r answers t a h off =
      let v = happens_ok mean kind w (Call c standing r answers) h a in
      all_bare (happens w (Call c standing r answers)).log (happens w (Call c standing r answers)).applied (happens w (Call c standing r answers)).gate.session (v.idle ((call_same w c standing r answers).serving ∙ off))

  request_turn : (w : Node) (c : ℕ) (standing : Standing) (r : Request) (answers : List Answer) → NodeOk mean w → WTurn w → (w.gate.session c).flight ≡ None → (w.gate.session c).there ≡ true → w.serving ≡ true → WTurn (called w c (on_request (view_of w standing) (databases w) w.gate c r answers))
  unfolding on_request
  request_turn w c standing r answers a t free here serves =
      does_turn mean standing w a t c free here (asked (view_of w standing) (databases w) w.gate c r) answers serves

  call_serving : (w : Node) (c : ℕ) (standing : Standing) (r : Request) (answers : List Answer) → NodeOk mean w → WTurn w → w.serving ≡ true → WTurn (happens w (Call c standing r answers))
  unfolding happens may_ask
  call_serving w c standing r answers a t serves =
      cond_both ((w.gate.session c).there && not (w.gate.session c).hung && is_none (w.gate.session c).flight && is_none (w.gate.session c).later) _ w WTurn
      (λ e. let p = and_parts _ _ (and_parts _ _ e).0 in request_turn w c standing r answers a t (none_is (w.gate.session c).flight p.1) (and_parts _ _ p.0).0 serves)
      (λ e. t)

  -- a session whose query isn't to be answered any more has the write lock as before
  free_turn : (w : Node) (c : ℕ) → WTurn w → TurnOk w.log w.applied (λ d. cond (d == c) (with_later (w.gate.session c) None) (w.gate.session d))
  unfolding holds
  free_turn w c t = put_turn w.log w.applied w.gate.session c (with_later (w.gate.session c) None) t.single (λ d n ne x y. t.single c d n (λ z. ne (sym z)) x y) (λ d ne. t.each d) (t.each c)

  undue_turn : (w : Node) (c : ℕ) → WTurn w → WTurn (undue w c)
  unfolding with_session
  undue_turn w c t = free_turn w c t

  resume_turn : (w : Node) (c : ℕ) (standing : Standing) (answers : List Answer) (o : Option Statement) → later_query (w.gate.session c).later ≡ o → NodeOk mean w → WTurn w → WTurn (resumed w c standing answers o)
  resume_turn w c standing answers None is a t = t
  resume_turn w c standing answers (Some s) is a t =
      let here = later_there mean w c s is a in
      let none = free_later (w.trail c).seen (w.trail c).at (w.gate.session c).later (w.gate.session c).flight s is (a.sessions c).free in
      let same = undue_here w c in
      resumed_both WTurn w c (outcome_later w c standing s answers) t
      (later_turn mean standing (undue w c) (undue_ok mean w c here none a) (undue_turn w c t) c (ap (λ (x : Session). x.flight) same ∙ none) (ap (λ (x : Session). x.there) same ∙ here) s answers)

  resume_happens : (w : Node) (c : ℕ) (standing : Standing) (answers : List Answer) → NodeOk mean w → WTurn w → WTurn (happens w (Resume c standing answers))
  unfolding happens
  resume_happens w c standing answers a t = resume_turn w c standing answers (later_query (w.gate.session c).later) refl a t

  told_turn : (w : Node) (c : ℕ) (s : Statement) (o : Option Reply) → WTurn w → WTurn (read_by w c s o)
  unfolding with_session
  told_turn w c s None t = t
  told_turn w c s (Some reply) t = free_turn w c t

  read_turn : (w : Node) (c : ℕ) (answers : List Answer) (o : Option Statement) → WTurn w → WTurn (read w c answers o)
  read_turn w c answers None t = t
  read_turn w c answers (Some s) t = told_turn w c s (told_at w c s answers) t

  done_turn : (w : Node) (c : ℕ) (answers : List Answer) → WTurn w → WTurn (happens w (Done c answers))
  unfolding happens
  done_turn w c answers t = read_turn w c answers (lent_query (w.gate.session c).later) t

  apply_turn : (w : Node) → NodeOk mean w → WTurn w → WTurn (happens w Apply)
  unfolding happens on_applied tidy
  apply_turn w a t = record {
    single = λ c d n ne x y. t.single c d n ne (settled_holds (suc w.applied) (w.gate.session c) (w.gate.session c).flight n x) (settled_holds (suc w.applied) (w.gate.session d) (w.gate.session d).flight n y);
    each = λ c. turn_settled w.log w.applied (suc w.applied) (w.gate.session c) (w.gate.session c).flight refl (a.sessions c).apart (t.each c);
  }

  connect_turn : (w : Node) (c : ℕ) → WTurn w → WTurn (happens w (Connect c))
  unfolding happens connected holds
  connect_turn w c t = cond_both (connects w.gate c) _ w WTurn (λ e. put_turn w.log w.applied w.gate.session c fresh t.single (λ d n ne x y. no x) (λ d ne. t.each d) tt) (λ e. t)

  hangup_turn : (w : Node) (c : ℕ) → WTurn w → WTurn (happens w (Hangup c))
  unfolding happens on_hangup tidy
  hangup_turn w c t = put_turn w.log w.applied w.gate.session c (left (w.gate.session c) (w.gate.session c).flight) t.single
      (λ d n ne x y. t.single c d n (λ z. ne (sym z)) (left_holds (w.gate.session c) (w.gate.session c).flight n x) y)
      (λ d ne. t.each d)
      (left_turn w.log w.applied (w.gate.session c) (w.gate.session c).flight (t.each c))

  serve_turn : (w : Node) → WTurn w → WTurn (happens w Serve)
  unfolding happens
  serve_turn w t = t

  append_turn : (w : Node) (contents : List Content) → NodeOk mean w → ArePlain w.serving contents → w.serving ≡ true → WTurn w → WTurn (happens w (Append contents))
  unfolding happens
  append_turn w contents a p serves t = record {
    single = t.single;
    each = λ c. turn_grown w.log (entries_of w.term contents) w.applied (w.gate.session c).flight (w.gate.session c).tx a.applied (λ n h. plain_free w.term contents n (subst (λ b. ArePlain b contents) serves p)) (t.each c);
  }

  -- what an event leaves of serving
  lose_idle : (w : Node) (u : ℕ) → (happens w (Lose u)).serving ≡ false
  unfolding happens
  lose_idle w u = refl

  lead_idle : (w : Node) (u : ℕ) → (happens w (Lead u)).serving ≡ false
  unfolding happens
  lead_idle w u = refl

  follow_idle : (w : Node) (es : List Entry) → NodeOk mean w → w.leads ≡ false → (happens w (Follow es)).serving ≡ false
  unfolding happens
  follow_idle w es a e = ⊎_elim (λ (x : w.serving ≡ true). no (sym e ∙ a.leads x)) (λ (x : w.serving ≡ false). x) (cases_Bool w.serving)

  append_idle : (w : Node) (cs : List Content) → w.serving ≡ false → (happens w (Append cs)).serving ≡ false
  unfolding happens
  append_idle w cs e = e

  idle_turn : (v : Node) → NodeOk mean v → v.serving ≡ false → WTurn v
  idle_turn v a e = all_bare v.log v.applied v.gate.session (a.idle e)

  turn_happens : (w : Node) (e : Event) → Fits mean kind w e → NodeOk mean w → WTurn w → WTurn (happens w e)
  turn_happens w (Connect c) h a t = connect_turn w c t
  turn_happens w (Hangup c) h a t = hangup_turn w c t
  turn_happens w (Call c standing r answers) h a t = ⊎_elim (λ (s : w.serving ≡ true). call_serving w c standing r answers a t s) (λ (s : w.serving ≡ false). call_bare w c standing r answers t a h s) (cases_Bool w.serving)
  turn_happens w (Resume c standing answers) h a t = resume_happens w c standing answers a t
  turn_happens w (Done c answers) h a t = done_turn w c answers t
  turn_happens w Apply h a t = apply_turn w a t
  turn_happens w (Lose u) h a t = idle_turn (happens w (Lose u)) (happens_ok mean kind w (Lose u) h a) (lose_idle w u)
  turn_happens w (Lead u) h a t = idle_turn (happens w (Lead u)) (happens_ok mean kind w (Lead u) h a) (lead_idle w u)
  turn_happens w Serve h a t = serve_turn w t
  turn_happens w (Append contents) h a t = ⊎_elim (λ (s : w.serving ≡ true). append_turn w contents a h.1 s t) (λ (s : w.serving ≡ false). idle_turn (happens w (Append contents)) (happens_ok mean kind w (Append contents) h a) (append_idle w contents s)) (cases_Bool w.serving)
  turn_happens w (Follow es) h a t = idle_turn (happens w (Follow es)) (happens_ok mean kind w (Follow es) h a) (follow_idle w es a h.0)

  turn_run : (w : Node) (es : List Event) → AllFit mean kind w es → NodeOk mean w → WTurn w → WTurn (run_from w es)
  turn_run w [] h a t = t
  turn_run w (e ∷ es) h a t = turn_run (happens w e) es h.1 (happens_ok mean kind w e h.0 a) (turn_happens w e h.0 a t)

  turn_of : (log : List Entry) (applied term : ℕ) (es : List Event) → Starts log applied → AllFit mean kind (started log applied term) es → WTurn (life log applied term es)
  turn_of log applied term es s h =
      let a = started_ok mean kind log applied term s.within s.woven in
      turn_run (started log applied term) es h a (idle_turn (started log applied term) a refl)

  pub one_turn_holds : OneTurn mean kind
  one_turn_holds log applied term es s h c d n ne x y = (turn_of log applied term es s h).single c d n ne x y

  pub changes_take_turns : ChangesTakeTurns mean kind
  changes_take_turns log applied term es s h c x is without =
      let w = life log applied term es in
      let f = subst (TurnIs w.log w.applied (w.gate.session c).flight) is ((turn_of log applied term es s h).each c) in
      sym (f.kept without)

  pub commits_pass_hold : CommitsPass mean kind
  unfolding holds
  commits_pass_hold log applied term es s h c x is free differs =
      let w = life log applied term es in
      let a = run_ok mean kind (started log applied term) es h (started_ok mean kind log applied term s.within s.woven) in
      let t = turn_of log applied term es s h in
      let f = subst (TurnIs w.log w.applied (w.gate.session c).flight) is (t.each c) in
      let off : writes_to (w.gate.session c).flight x.name ≡ false = ap (λ o. writes_to o x.name) free in
      let turn : x.turn ≡ true = ⊎_elim (λ (y : x.turn ≡ true). y) (λ (y : x.turn ≡ false). absurd (true≢false (sym (changed_same x.working) ∙ ap (λ i. no_pages (changed i x.working)) (sym (f.kept y)) ∙ differs))) (cases_Bool x.turn) in
      let mine : holds (w.gate.session c) x.name ≡ true = or_right (writes_to (w.gate.session c).flight x.name) (holds_write_lock (w.gate.session c).tx x.name) (subst (λ o. holds_write_lock o x.name ≡ true) (sym is) (and_from _ _ turn (same_name x.name))) in
      record { turn = others_none w.gate c x.name (λ d ne y. t.single c d x.name (λ z. ne (sym z)) mine y); newest = f.newest turn off }
