-- Queries that wait for their answers: they are run, or a reader says what it read.
use Rattle.std.proofs.Common.{◌≡◌, inl, inr, ℕ, ◌≤◌, true, false, List, [], ◌∷◌, take, refl, sym, ap, ◌∙◌, subst, ⊎_elim, arith}
use Rattle.std.specs.Prelude.{◌==◌, Option, Some, None}
use Rattle.std.proofs.lemmas.List.{length-take-le}
use Rattle.std.proofs.lemmas.Bool.{cond_both, cond-true, eq-eqb, cases_Bool, eqb-true}
use Rattle.dq_base.specs.Changes.{changed}
use Rattle.wire_rows.specs.Answering.{parts_of}
use Rattle.raft_spec.specs.Node.{among}
use Rattle.sql_engine.specs.declared.answer.StatementResult.{StatementResult}
use Rattle.sql_engine.specs.declared.kind.EngineKind.{EngineKind}
use Rattle.sql_engine.specs.Replies.{Statement}
use Rattle.sql_engine.specs.Meanings.{Meaning}
use Rattle.session_spec.specs.Causes.{Cause}
use Rattle.session_spec.specs.Entries.{Entry}
use Rattle.session_spec.specs.Engines.{Answer, no_pages, Ending, Lacking, TooLarge, Stopped, Ended, no_answer}
use Rattle.session_spec.specs.Requests.{with_later, with_session, rows_cause, rows_or, job_reply}
use Rattle.session_spec.specs.Sessions.{Reply, Rows, Later, Due, Lent, later_query, lent_query, Transaction, Session, Turned, Refused, Lacks, Answers, Proposes, Lends, Affects}
use Rattle.session_safety.specs.Nodes.{Trail, Node, Standing}
use Rattle.session_safety.specs.Life.{query_for, called, undue, outcome_later, resumed_by, resumed, job_at, told_at, read_trail, read_by, read, AllowsLater, AllowsRead}
use Rattle.session_safety.specs.Replies.{QueryIs}
use Rattle.session_safety.proofs.Files.{base_take}
use Rattle.session_safety.proofs.Runs.{RunsOk, runs_ok}
use Rattle.session_safety.proofs.Invariant.{Calm, TxIs, FlightIs, IsFree, free_later, Bare, SessionOk, Held, NodeOk, two_cond, said_append, rows_are}
use Rattle.session_safety.proofs.Tables.{sole_with}
use Rattle.session_safety.proofs.Moves.{no, cond_held, undue_ok}
use Rattle.session_safety.proofs.Calls.{answer_query}
use Rattle.session_safety.proofs.Asks.{later_ok}

-- whatever comes of a query that is run, except for one whose answers lack
pub resumed_both : (P : Node → Type 0) (w : Node) (c : ℕ) (t : Turned) → P w → P (called (undue w c) c t) → P (resumed_by w c t)
resumed_both P w c (Refused cause) a b = b
resumed_both P w c Lacks a b = a
resumed_both P w c (Answers s reply note) a b = b
resumed_both P w c (Proposes s contents note) a b = b
resumed_both P w c (Lends s job) a b = b
resumed_both P w c (Affects effect) a b = b

some_none : {A : Type 0} {x : A} {o : Option A} → o ≡ Some x → o ≡ None → ⊥
some_none e n = cc

pub lent_later : (d : Option Later) (s : Statement) → lent_query d ≡ Some s → (d ≡ Some (Lent s)) × (later_query d ≡ Some s)
lent_later None s e = absurd (some_none e refl)
lent_later (Some (Due statement)) s e = absurd (some_none e refl)
lent_later (Some (Lent statement)) s e = (ap again e, e)
  where
    again : Option Statement → Option Later
    again None = None
    again (Some x) = Some (Lent x)

-- the session after its query has been taken from it
pub undue_here : (w : Node) (c : ℕ) → (undue w c).gate.session c ≡ with_later (w.gate.session c) None
unfolding with_session
undue_here w c = cond-true (c == c) (with_later (w.gate.session c) None) (w.gate.session c) (eq-eqb c c refl)

-- a query that waits for its answer is that of a session that is there
pub later_there : (mean : Meaning) (w : Node) (c : ℕ) (s : Statement) → later_query (w.gate.session c).later ≡ Some s → NodeOk mean w → (w.gate.session c).there ≡ true
later_there mean w c s is a = ⊎_elim (λ (e : (w.gate.session c).there ≡ true). e) (λ (e : (w.gate.session c).there ≡ false). absurd (some_none is (ap later_query (a.gone c e)))) (cases_Bool (w.gate.session c).there)

module _ (mean : Meaning) (kind : EngineKind) where
  -- a query is run
  pub resume_ok : (w : Node) (c : ℕ) (standing : Standing) (answers : List Answer) (o : Option Statement) → later_query (w.gate.session c).later ≡ o → AllowsLater mean kind w c standing answers o → NodeOk mean w → NodeOk mean (resumed w c standing answers o)
  resume_ok w c standing answers None is h a = a
  resume_ok w c standing answers (Some s) is h a =
      let here = later_there mean w c s is a in
      let none = free_later (w.trail c).seen (w.trail c).at (w.gate.session c).later (w.gate.session c).flight s is (a.sessions c).free in
      let same = undue_here w c in
      resumed_both (NodeOk mean) w c (outcome_later w c standing s answers) a
      (later_ok mean standing (undue w c) (undue_ok mean w c here none a) c (ap (λ (x : Session). x.flight) same ∙ none) (ap (λ (x : Session). x.there) same ∙ here) (ap (λ (x : Session). x.later) same) kind s answers h)

  -- what a reader answers is what the query may give over its image
  abbrev ReplyIs : Node → ℕ → Statement → Option Reply → Type 0
  ReplyIs w c s None = Unit {0}
  ReplyIs w c s (Some reply) = QueryIs mean (take w.applied w.log) (query_for reply (w.gate.session c).database (w.trail c).at [] (s ∷ []) (w.trail c).seen)

  rows_is : (w : Node) (c : ℕ) (s : Statement) (answer : StatementResult) (o : Option Cause) → ReplyIs w c s (Some (Rows answer)) → ReplyIs w c s (Some (rows_or o answer))
  rows_is w c s answer None h = h
  rows_is w c s answer (Some cause) h = tt

  reply_is : (w : Node) (c : ℕ) (s : Statement) (end : Ending) → NodeOk mean w → (w.trail c).seen ≤ (w.trail c).at → RunsOk mean (job_at w c s).image no_answer (s ∷ []) end → ReplyIs w c s (job_reply (job_at w c s) end)
  unfolding job_reply
  reply_is w c s Lacking a newer r = tt
  reply_is w c s (TooLarge answer) a newer r = tt
  reply_is w c s (Stopped fault) a newer r = tt
  reply_is w c s (Ended to answer) a newer r =
      let db = (w.gate.session c).database in
      let t = w.trail c in
      let at = (a.sessions c).at in
      let low = a.applied in
      let long = length-take-le w.applied w.log low in
      cond_both (no_pages (changed (job_at w c s).image to)) _ _ (ReplyIs w c s)
      (λ e. rows_is w c s answer (rows_cause (parts_of answer.columns answer.rows))
      (answer_query mean (take w.applied w.log) true answer db t.at [] (s ∷ []) t.seen (job_at w c s).image to [] r.0 (s, refl) (omega arith) newer (ap (λ d. d.image) (base_take w.log t.at w.applied db at)) r.1 r.2))
      (λ e. tt)

  tx_read : (log : List Entry) (t : Trail) (o : Option Transaction) → t.seen ≤ t.at → TxIs mean log t o → TxIs mean log (read_trail t) o
  tx_read log t None h a = tt
  tx_read log t (Some x) h a = record { pinned = a.pinned; mark = a.mark; replies = a.replies; ran = a.ran; seen = omega arith; led = a.led }

  told_ok : (w : Node) (c : ℕ) (s : Statement) (o : Option Reply) → (w.gate.session c).there ≡ true → (w.gate.session c).flight ≡ None → (w.trail c).seen ≤ (w.trail c).at → NodeOk mean w → ReplyIs w c s o → NodeOk mean (read_by w c s o)
  unfolding with_session
  told_ok w c s None here none newer a h = a
  told_ok w c s (Some reply) here none newer a h =
      let k = a.sessions c in
      let at = k.at in
      let x = with_later (w.gate.session c) None in
      let t = read_trail (w.trail c) in
      record {
        applied = a.applied;
        leads = a.leads;
        sessions = λ d. two_cond (d == c) (SessionOk mean w.log w.applied w.term) x (w.gate.session d) t (w.trail d)
            (λ e. record { at = k.at; seen = omega arith; tx = tx_read w.log (w.trail c) (w.gate.session c).tx newer k.tx; flight = subst (FlightIs mean w.log w.applied w.term t) (sym none) tt; apart = k.apart; free = tt })
            (λ e. a.sessions d);
        idle = λ y d. cond_both (d == c) x (w.gate.session d) Bare (λ e. record { tx = (a.idle y c).tx; flight = none; due = refl }) (λ e. a.idle y d);
        calm = λ y n. ⊎_elim (λ (z : Calm n w.applied w.log). inl z) (λ (z : Held w.gate.session n). inr (cond_held w c n x none z)) (a.calm y n);
        listed = λ d. cond_both (d == c) x (w.gate.session d) (λ y. y.there ≡ true → among w.gate.conns d ≡ true) (λ e z. subst (λ i. among w.gate.conns i ≡ true) (sym (eqb-true d c e)) (a.listed c here)) (λ e z. a.listed d z);
        absent = λ d. cond_both (d == c) x (w.gate.session d) (λ y. y.there ≡ false → Bare y) (λ e z. no (sym z ∙ here)) (λ e. a.absent d);
        gone = λ d. cond_both (d == c) x (w.gate.session d) (λ y. y.there ≡ false → y.later ≡ None) (λ e z. refl) (λ e. a.gone d);
        sole = sole_with w.gate.conns w.gate.session c x here a.sole;
        woven = a.woven;
        said = said_append mean (take w.applied w.log) w.said _ a.said
            (record { rows = rows_are reply (w.gate.session c).database (w.trail c).at [] (s ∷ []) (w.trail c).seen; query = h; commit = tt; ends = tt; entry = λ z. absurd (omega (arith, z)) }, tt);
      }

  -- a reader is done
  pub done_ok : (w : Node) (c : ℕ) (answers : List Answer) (o : Option Statement) → lent_query (w.gate.session c).later ≡ o → AllowsRead mean kind w c answers o → NodeOk mean w → NodeOk mean (read w c answers o)
  done_ok w c answers None is h a = a
  done_ok w c answers (Some s) is h a =
      let l = lent_later (w.gate.session c).later s is in
      let f = subst (λ d. IsFree (w.trail c).seen (w.trail c).at d (w.gate.session c).flight) l.0 (a.sessions c).free in
      told_ok w c s (told_at w c s answers) (later_there mean w c s l.1 a) f.0 f.1 a (reply_is w c s _ a f.1 (runs_ok mean kind (s ∷ []) (job_at w c s).image no_answer answers h))
