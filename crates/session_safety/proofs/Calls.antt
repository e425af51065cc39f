-- A request at a session.
use Rattle.std.proofs.Common.{◌≡◌, ◌≢◌, ◌⊎◌, inl, inr, ℕ, suc, ◌+◌, ◌≤◌, Bool, true, false, true≢false, List, [], ◌∷◌, ◌++◌, length, take, refl, sym, ap, ◌∙◌, subst, ⊎_elim, arith, length-append}
use Rattle.std.specs.Prelude.{◌==◌, Option, Some, None}
use Rattle.std.proofs.lemmas.List.{take-append-le}
use Rattle.std.proofs.lemmas.Bool.{cond_both, cond-true, cases_Bool, cases_eq, eqb-true, eqb-false, and_from, eq-eqb, not-false, or_parts, leb-false}
use Rattle.dq_base.specs.declared.images.Image.{Image}
use Rattle.dq_base.specs.declared.pages.NumberedPage.{NumberedPage}
use Rattle.dq_base.specs.Changes.{changed}
use Rattle.wire_rows.specs.Answering.{parts_of}
use Rattle.log_commands.specs.Splitting.{before_last}
use Rattle.raft_spec.specs.Node.{among}
use Rattle.sql_engine.specs.declared.answer.StatementResult.{StatementResult}
use Rattle.sql_engine.specs.Replies.{Statement}
use Rattle.sql_engine.specs.Replies.{Reply as StatementReply}
use Rattle.sql_engine.specs.Meanings.{Meaning, IsShort}
use Rattle.sql_engine.specs.Meanings.{reply_of as told_by_statement}
use Rattle.sql_engine.specs.Runs.{RanAll}
use Rattle.session_spec.specs.Causes.{Cause}
use Rattle.session_spec.specs.Entries.{Content, Entry, entries_of, tx_of}
use Rattle.session_spec.specs.Machine.{Machine, base_at, image_at}
use Rattle.session_spec.specs.Engines.{takes, no_answer}
use Rattle.session_spec.specs.Sessions.{Reply, Kind, Transaction, Session, Gateway, Job, Note, Nothing, Began, Inside, Outside, Turned, Refused, Answers, Proposes, Lends}
use Rattle.session_spec.specs.Limits.{writes_to, is_write, other_holds, too_full, first_cause, change_refusal, log_full}
use Rattle.session_spec.specs.Requests.{flying, unless, rows_cause, or_cause, row_cause, reply_of, with_session}
use Rattle.session_spec.proofs.Names.{is_name, one_or_other}
use Rattle.session_safety.specs.Woven.{Woven}
use Rattle.session_safety.specs.Nodes.{Trail, Node, Standing, databases, view_of}
use Rattle.session_safety.specs.Life.{query_for, query_by, answered_trail, proposed_trail, called, sole}
use Rattle.session_safety.specs.Replies.{CommitOk, QueryIs, RowsAre, AllSaid}
use Rattle.session_safety.proofs.Files.{Free, split_free}
use Rattle.session_safety.proofs.Runs.{last_reply, sole_ran}
use Rattle.session_safety.proofs.Invariant.{Calm, WriteOk, FlightIs, Apart, SessionOk, Bare, Held, NodeOk, calm_grown, session_grown, bare_writes, two_cond, said_append, rows_are}
use Rattle.session_safety.proofs.Tables.{none_holds, holds_writes, sole_with}
use Rattle.session_safety.proofs.Moves.{no, cond_held}
use Rattle.session_safety.proofs.Weaves.{woven_split}
use Rattle.session_safety.proofs.Wrotes.{block_for, wrote_calm, wrote_commit}

-- causes

pub unless_ok : (o : Option Cause) (t : Turned) (P : Turned → Type 0) → ((why : Cause) → P (Refused why)) → (o ≡ None → P t) → P (unless o t)
unless_ok None t P r h = h refl
unless_ok (Some why) t P r h = r why

pub first_none : (b : Bool) (why : Cause) (o : Option Cause) → first_cause b why o ≡ None → (b ≡ false) × (o ≡ None)
first_none true why o e = absurd cc
first_none false why o e = (refl, e)

or_none : (o later : Option Cause) → or_cause o later ≡ None → later ≡ None
or_none None later e = e
or_none (Some cause) later e = absurd cc

pub row_none : (rows : Bool) (answer : StatementResult) (o : Option Cause) → row_cause rows answer o ≡ None → o ≡ None
unfolding row_cause
row_none true answer o e = or_none (rows_cause (parts_of answer.columns answer.rows)) o e
row_none false answer o e = e

-- nothing hinders a change of pages
pub record Unhindered (m : Machine) (g : Gateway) (c : ℕ) (name : List ℕ) (mark : ℕ) (pages : List NumberedPage) : Type 0 where
  pub turn : other_holds g c name ≡ false
  pub newest : (m.base name).newest ≡ mark
  pub fits : takes pages ≡ true

pub hindrance_none : (m : Machine) (g : Gateway) (c : ℕ) (name : List ℕ) (mark : ℕ) (pages : List NumberedPage) (to : Image) → change_refusal m g c name mark pages to ≡ None → Unhindered m g c name mark pages
unfolding change_refusal too_full
hindrance_none m g c name mark pages to e =
    let one = first_none _ _ _ e in
    let two = first_none _ _ _ one.1 in
    let three = first_none _ _ _ two.1 in
    record { turn = one.0; newest = eqb-true _ _ (not-false _ two.0); fits = not-false _ (or_parts _ _ three.0).0 }

-- rows come from a single statement
abbrev pub One : Bool → List Statement → Type 0
One true ss = (s : Statement) × (ss ≡ s ∷ [])
One false ss = Unit {0}

rows_by : (applied : ℕ) (t : Trail) (r : Reply) (note : Note) → RowsAre r (query_by applied t r note)
rows_by applied t r Nothing = rows_are r [] 0 [] [] t.seen
rows_by applied t r Began = rows_are r [] 0 [] [] t.seen
rows_by applied t r (Inside name ss) = rows_are r name t.at t.ran ss t.seen
rows_by applied t r (Outside name ss) = rows_are r name applied [] ss t.seen

-- what a query's answer says
pub answer_query : (mean : Meaning) (log : List Entry) (rows : Bool) (answer : StatementResult) (name : List ℕ) (at : ℕ) (before ss : List Statement) (seen : ℕ) (over to : Image) (replies rs : List StatementReply) → One rows ss → at ≤ length log → seen ≤ at → RanAll mean (image_at log at name) before over replies → RanAll mean over ss to rs → last_reply (told_by_statement no_answer) rs ≡ told_by_statement answer → QueryIs mean log (query_for (reply_of rows answer) name at before ss seen)
answer_query mean log true answer name at before ss seen over to replies rs one within newer so_far ran last =
    let s = one.0 in
    record {
      within = within;
      newer = newer;
      over = over;
      replies = replies;
      so_far = so_far;
      left = to;
      ran = subst (λ l. mean.runs over (sole l) to (told_by_statement answer)) (sym one.1) (sole_ran mean over to (told_by_statement no_answer) (told_by_statement answer) s rs (subst (λ l. RanAll mean over l to rs) one.1 ran) last);
    }
answer_query mean log false answer name at before ss seen over to replies rs one within newer so_far ran last = tt

module _ (mean : Meaning) (standing : Standing) (w : Node) (a : NodeOk mean w) (c : ℕ) (free : (w.gate.session c).flight ≡ None) (here : (w.gate.session c).there ≡ true) where
  -- the invariant after what comes of a request
  Fine : Turned → Type 0
  Fine t = NodeOk mean (called w c t)

  pub refused_ok : (why : Cause) → NodeOk mean (called w c (Refused why))
  refused_ok why = record {
    applied = a.applied;
    leads = a.leads;
    sessions = a.sessions;
    idle = a.idle;
    calm = a.calm;
    listed = a.listed;
    absent = a.absent;
    gone = a.gone;
    sole = a.sole;
    woven = a.woven;
    said = said_append mean (take w.applied w.log) w.said _ a.said (record { rows = tt; query = tt; commit = tt; ends = tt; entry = λ h. absurd (omega (arith, h)) }, tt);
  }

  pub answers_ok : (s : Session) (r : Reply) (note : Note) → s.flight ≡ None → s.there ≡ true → SessionOk mean w.log w.applied w.term s (answered_trail w.applied (w.trail c) note) → (w.serving ≡ false → Bare s) → QueryIs mean (take w.applied w.log) (query_by w.applied (w.trail c) r note) → NodeOk mean (called w c (Answers s r note))
  unfolding with_session
  answers_ok s r note off there ok bare query = record {
    applied = a.applied;
    leads = a.leads;
    sessions = λ d. two_cond (d == c) (SessionOk mean w.log w.applied w.term) s (w.gate.session d) (answered_trail w.applied (w.trail c) note) (w.trail d) (λ e. ok) (λ e. a.sessions d);
    idle = λ x d. cond_both (d == c) s (w.gate.session d) Bare (λ e. bare x) (λ e. a.idle x d);
    calm = λ x n. ⊎_elim (λ (k : Calm n w.applied w.log). inl k) (λ (k : Held w.gate.session n). inr (cond_held w c n s free k)) (a.calm x n);
    listed = λ d. cond_both (d == c) s (w.gate.session d) (λ y. y.there ≡ true → among w.gate.conns d ≡ true) (λ e z. subst (λ k. among w.gate.conns k ≡ true) (sym (eqb-true d c e)) (a.listed c here)) (λ e z. a.listed d z);
    absent = λ d. cond_both (d == c) s (w.gate.session d) (λ y. y.there ≡ false → Bare y) (λ e z. no (sym z ∙ there)) (λ e. a.absent d);
    gone = λ d. cond_both (d == c) s (w.gate.session d) (λ y. y.there ≡ false → y.later ≡ None) (λ e z. no (sym z ∙ there)) (λ e. a.gone d);
    sole = sole_with w.gate.conns w.gate.session c s there a.sole;
    woven = a.woven;
    said = said_append mean (take w.applied w.log) w.said _ a.said (record { rows = rows_by w.applied (w.trail c) r note; query = query; commit = tt; ends = tt; entry = λ h. absurd (omega (arith, h)) }, tt);
  }

  pub proposes_ok : (s : Session) (contents : List Content) (note : Note) → w.serving ≡ true → s.there ≡ true → SessionOk mean (w.log ++ entries_of w.term contents) w.applied w.term s (proposed_trail w.applied (w.trail c) note) → ((n : List ℕ) → Free n (entries_of w.term contents) ⊎ ((writes_to s.flight n ≡ true) × ((d : ℕ) → d ≢ c → writes_to (w.gate.session d).flight n ≡ false))) → Woven (w.log ++ entries_of w.term contents) → NodeOk mean (called w c (Proposes s contents note))
  unfolding with_session
  proposes_ok s contents note serves there ok turn weaves =
      let es = entries_of w.term contents in
      record {
        applied = omega (arith, a.applied, length-append w.log es);
        leads = a.leads;
        sessions = λ d. two_cond (d == c) (SessionOk mean (w.log ++ es) w.applied w.term) s (w.gate.session d) (proposed_trail w.applied (w.trail c) note) (w.trail d) (λ e. ok)
            (λ e. session_grown mean w.log es w.applied w.term (w.gate.session d) (w.trail d) a.applied
            (λ n x. ⊎_elim (λ (f : Free n es). f) (λ (y : (writes_to s.flight n ≡ true) × ((k : ℕ) → k ≢ c → writes_to (w.gate.session k).flight n ≡ false)). no (sym (y.1 d (eqb-false d c e)) ∙ x)) (turn n))
            (a.sessions d));
        idle = λ x. no (sym x ∙ serves);
        calm = λ x n. ⊎_elim
            (λ (f : Free n es). ⊎_elim (λ (k : Calm n w.applied w.log). inl (calm_grown n w.applied w.log es a.applied f k)) (λ (k : Held w.gate.session n). inr (cond_held w c n s free k)) (a.calm x n))
            (λ (y : (writes_to s.flight n ≡ true) × ((k : ℕ) → k ≢ c → writes_to (w.gate.session k).flight n ≡ false)). inr (record { conn = c; writes = subst (λ z. writes_to z.flight n ≡ true) (sym (cond-true (c == c) s (w.gate.session c) (eq-eqb c c refl))) y.0 }))
            (turn n);
        listed = λ d. cond_both (d == c) s (w.gate.session d) (λ y. y.there ≡ true → among w.gate.conns d ≡ true) (λ e z. subst (λ k. among w.gate.conns k ≡ true) (sym (eqb-true d c e)) (a.listed c here)) (λ e z. a.listed d z);
        absent = λ d. cond_both (d == c) s (w.gate.session d) (λ y. y.there ≡ false → Bare y) (λ e z. no (sym z ∙ there)) (λ e. a.absent d);
        gone = λ d. cond_both (d == c) s (w.gate.session d) (λ y. y.there ≡ false → y.later ≡ None) (λ e z. no (sym z ∙ there)) (λ e. a.gone d);
        sole = sole_with w.gate.conns w.gate.session c s there a.sole;
        woven = weaves;
        said = subst (λ l. AllSaid mean l w.said) (sym (take-append-le w.applied w.log es a.applied)) a.said;
      }

  -- a query is lent
  pub lends_ok : (s : Session) (job : Job) → s.flight ≡ None → s.there ≡ true → w.serving ≡ true → SessionOk mean w.log w.applied w.term s (proposed_trail w.applied (w.trail c) (Outside job.name (job.statement ∷ []))) → NodeOk mean (called w c (Lends s job))
  unfolding with_session
  lends_ok s job off there serves ok = record {
    applied = a.applied;
    leads = a.leads;
    sessions = λ d. two_cond (d == c) (SessionOk mean w.log w.applied w.term) s (w.gate.session d) (proposed_trail w.applied (w.trail c) (Outside job.name (job.statement ∷ []))) (w.trail d) (λ e. ok) (λ e. a.sessions d);
    idle = λ x. no (sym x ∙ serves);
    calm = λ x n. ⊎_elim (λ (k : Calm n w.applied w.log). inl k) (λ (k : Held w.gate.session n). inr (cond_held w c n s free k)) (a.calm x n);
    listed = λ d. cond_both (d == c) s (w.gate.session d) (λ y. y.there ≡ true → among w.gate.conns d ≡ true) (λ e z. subst (λ k. among w.gate.conns k ≡ true) (sym (eqb-true d c e)) (a.listed c here)) (λ e z. a.listed d z);
    absent = λ d. cond_both (d == c) s (w.gate.session d) (λ y. y.there ≡ false → Bare y) (λ e z. no (sym z ∙ there)) (λ e. a.absent d);
    gone = λ d. cond_both (d == c) s (w.gate.session d) (λ y. y.there ≡ false → y.later ≡ None) (λ e z. no (sym z ∙ there)) (λ e. a.gone d);
    sole = sole_with w.gate.conns w.gate.session c s there a.sole;
    woven = a.woven;
    said = a.said;
  }

  -- a session's parts that stay

  pub no_flight : (log : List Entry) (t : Trail) → FlightIs mean log w.applied w.term t (w.gate.session c).flight
  no_flight log t = subst (FlightIs mean log w.applied w.term t) (sym free) tt

  pub not_apart : (o : Option Transaction) → Apart (w.gate.session c).flight o
  not_apart o = subst (λ f. Apart f o) (sym free) tt

  -- no other session writes where no one else has the write lock
  pub others_off : (n : List ℕ) → other_holds w.gate c n ≡ false → (d : ℕ) → d ≢ c → writes_to (w.gate.session d).flight n ≡ false
  others_off n h d e = ⊎_elim
      (λ (t : (w.gate.session d).there ≡ true). holds_writes (w.gate.session d) n (none_holds w.gate c d n h e (a.listed d t)))
      (λ (t : (w.gate.session d).there ≡ false). ap (λ o. writes_to o n) (a.absent d t).flight)
      (cases_Bool (w.gate.session d).there)

  pub calm_here : (n : List ℕ) → w.serving ≡ true → other_holds w.gate c n ≡ false → Calm n w.applied w.log
  calm_here n serves h = ⊎_elim (λ (k : Calm n w.applied w.log). k)
      (λ (k : Held w.gate.session n). absurd (⊎_elim (λ (e : k.conn ≡ c). bare_writes (w.gate.session c) n free (subst (λ d. writes_to (w.gate.session d).flight n ≡ true) e k.writes)) (λ (e : k.conn ≢ c). true≢false (sym k.writes ∙ others_off n h k.conn e)) (cases_eq k.conn c)))
      (a.calm serves n)

  -- a change of pages is proposed
  pub write_ok : (name : List ℕ) (from to : Image) (pages : ℕ) (kind : Kind) (note : Note) (ss : List Statement) (rs : List StatementReply) → w.serving ≡ true → log_full (view_of w standing) ≡ false → is_write kind ≡ true → Unhindered (databases w) w.gate c name (base_at w.log w.applied name).newest (changed from to) → image_at w.log w.applied name ≡ from → RanAll mean from ss to rs → (proposed_trail w.applied (w.trail c) note).ran ≡ ss → IsShort to
      → (WriteOk mean (w.log ++ entries_of w.term (block_for w.log w.term name from to)) (proposed_trail w.applied (w.trail c) note) (record { name = name; first = suc (length w.log); last = length w.log + length (block_for w.log w.term name from to); term = w.term; pages = pages; kind = kind }) → SessionOk mean (w.log ++ entries_of w.term (block_for w.log w.term name from to)) w.applied w.term (flying (view_of w standing) (w.gate.session c) name (block_for w.log w.term name from to) pages kind) (proposed_trail w.applied (w.trail c) note))
      → NodeOk mean (called w c (Proposes (flying (view_of w standing) (w.gate.session c) name (block_for w.log w.term name from to) pages kind) (block_for w.log w.term name from to) note))
  write_ok name from to pages kind note ss rs serves room writes h is ran told short session =
      let calm = calm_here name serves h.turn in
      let low = a.applied in
      proposes_ok (flying (view_of w standing) (w.gate.session c) name (block_for w.log w.term name from to) pages kind) (block_for w.log w.term name from to) note serves here
      (session (record {
        calm = wrote_calm w.log w.applied w.term name from to low calm is h.fits short;
        commit = subst (λ l. CommitOk mean (w.log ++ entries_of w.term (block_for w.log w.term name from to)) (record { name = name; first = suc (length w.log); last = length w.log + length (block_for w.log w.term name from to); term = w.term; statements = l })) (sym told) (wrote_commit w.log w.applied w.term name from to low calm is h.fits short mean ss rs ran);
      }))
      (λ n. ⊎_elim
      (λ (e : n ≡ name). inr (and_from _ _ writes (is_name name n (sym e)), subst (λ k. (d : ℕ) → d ≢ c → writes_to (w.gate.session d).flight k ≡ false) (sym e) (others_off name h.turn)))
      (λ (e : n ≢ name). inl (split_free w.term name (tx_of w.term (suc (length w.log))) (before_last (changed from to)) (changed from to) n e))
      (one_or_other n name))
      (woven_split w.term name w.log (changed from to) (leb-false _ _ room) a.woven)
