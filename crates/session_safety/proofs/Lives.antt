-- Each event keeps the invariant, and so does each list of events.
use Rattle.std.proofs.Common.{◌≡◌, ℕ, ◌≤◌, true, true≢false, List, [], ◌∷◌, length, refl, sym, arith, subst}
use Rattle.std.specs.Prelude.{◌&&◌, not, is_none, Option, Some, None}
use Rattle.std.proofs.lemmas.Bool.{cond_both, and_parts}
use Rattle.wire_msgs.specs.declared.request.Request.{Request}
use Rattle.sql_engine.specs.declared.kind.EngineKind.{EngineKind}
use Rattle.sql_engine.specs.Meanings.{Meaning}
use Rattle.session_spec.specs.Entries.{Entry}
use Rattle.session_spec.specs.Engines.{Answer}
use Rattle.session_spec.specs.Sessions.{absent, Flight, later_query, lent_query, may_ask}
use Rattle.session_safety.specs.Woven.{Woven}
use Rattle.session_safety.specs.Nodes.{Trail, Node, Standing, unseen, started}
use Rattle.session_safety.specs.Life.{Event, Connect, Hangup, Call, Resume, Done, Apply, Lose, Lead, Serve, Append, Follow, happens, run_from, Fits, AllFit}
use Rattle.session_safety.specs.Laws.{FlightsStand, IdleIsEmpty, LivesAreSafe, LivesWeave}
use Rattle.session_safety.proofs.Invariant.{NodeOk, bare_ok, FlightIs, FlightOk, write_of}
use Rattle.session_safety.proofs.Tables.{absent_bare}
use Rattle.session_safety.proofs.Applies.{apply_ok}
use Rattle.session_safety.proofs.Moves.{no, lose_ok, lead_ok, serve_ok, append_ok, follow_ok, connect_ok, hangup_ok}
use Rattle.session_safety.proofs.Weaves.{woven_plain}
use Rattle.session_safety.proofs.Asks.{request_ok}
use Rattle.session_safety.proofs.Laters.{resume_ok, done_ok}

pub none_is : {A : Type 0} (o : Option A) → is_none o ≡ true → o ≡ None
none_is None e = refl
none_is (Some x) e = absurd (true≢false (sym e))

module _ (mean : Meaning) (kind : EngineKind) where
  call_ok : (w : Node) (c : ℕ) (standing : Standing) (r : Request) (answers : List Answer) → Fits mean kind w (Call c standing r answers) → NodeOk mean w → NodeOk mean (happens w (Call c standing r answers))
  unfolding happens may_ask
  call_ok w c standing r answers h a =
      cond_both ((w.gate.session c).there && not (w.gate.session c).hung && is_none (w.gate.session c).flight && is_none (w.gate.session c).later) _ w (NodeOk mean)
      (λ e.
      let q = and_parts _ _ e in
      let p = and_parts _ _ q.0 in
      request_ok mean standing w a c (none_is (w.gate.session c).flight p.1) (and_parts _ _ p.0).0 (none_is (w.gate.session c).later q.1) kind r answers (h e))
      (λ e. a)

  resume_happens : (w : Node) (c : ℕ) (standing : Standing) (answers : List Answer) → Fits mean kind w (Resume c standing answers) → NodeOk mean w → NodeOk mean (happens w (Resume c standing answers))
  unfolding happens
  resume_happens w c standing answers h a = resume_ok mean kind w c standing answers (later_query (w.gate.session c).later) refl h a

  done_happens : (w : Node) (c : ℕ) (answers : List Answer) → Fits mean kind w (Done c answers) → NodeOk mean w → NodeOk mean (happens w (Done c answers))
  unfolding happens
  done_happens w c answers h a = done_ok mean kind w c answers (lent_query (w.gate.session c).later) refl h a

  pub happens_ok : (w : Node) (e : Event) → Fits mean kind w e → NodeOk mean w → NodeOk mean (happens w e)
  happens_ok w (Connect c) h a = connect_ok mean w c a
  happens_ok w (Hangup c) h a = hangup_ok mean w c a
  happens_ok w (Call c standing r answers) h a = call_ok w c standing r answers h a
  happens_ok w (Resume c standing answers) h a = resume_happens w c standing answers h a
  happens_ok w (Done c answers) h a = done_happens w c answers h a
  happens_ok w Apply h a = apply_ok mean w h a
  happens_ok w (Lose t) h a = lose_ok mean w t a
  happens_ok w (Lead t) h a = lead_ok mean w t h.0 a
  happens_ok w Serve h a = serve_ok mean w h.0 h.1 h.2 a
  happens_ok w (Append contents) h a = append_ok mean w contents h.1 (woven_plain w.serving w.term w.log contents h.1 a.woven) a
  happens_ok w (Follow entries) h a = follow_ok mean w entries h.0 h.1 a

  pub run_ok : (w : Node) (es : List Event) → AllFit mean kind w es → NodeOk mean w → NodeOk mean (run_from w es)
  run_ok w [] h a = a
  run_ok w (e ∷ es) h a = run_ok (happens w e) es h.1 (happens_ok w e h.0 a)

  pub started_ok : (log : List Entry) (applied term : ℕ) → applied ≤ length log → Woven log → NodeOk mean (started log applied term)
  started_ok log applied term low weaves = record {
    applied = low;
    leads = λ e. no e;
    sessions = λ c. bare_ok mean log applied term absent unseen absent_bare tt (omega arith) (omega arith);
    idle = λ e c. absent_bare;
    calm = λ e n. no e;
    listed = λ c e. no e;
    absent = λ c e. absent_bare;
    gone = λ c e. refl;
    sole = record { once = tt; there = λ c e. no e };
    woven = weaves;
    said = tt;
  }

  pub lives_are_safe_hold : LivesAreSafe mean kind
  lives_are_safe_hold log applied term es s h = (run_ok (started log applied term) es h (started_ok log applied term s.within s.woven)).said

  pub idle_is_empty_holds : IdleIsEmpty mean kind
  idle_is_empty_holds log applied term es s h off c =
      let b = (run_ok (started log applied term) es h (started_ok log applied term s.within s.woven)).idle off c in
      record { tx = b.tx; flight = b.flight; due = b.due }

  pub lives_weave_hold : LivesWeave mean kind
  lives_weave_hold log applied term es s h = (run_ok (started log applied term) es h (started_ok log applied term s.within s.woven)).woven

  flight_of : (log : List Entry) (applied term : ℕ) (t : Trail) (o : Option Flight) (f : Flight) → o ≡ Some f → FlightIs mean log applied term t o → FlightOk mean log applied term t f
  flight_of log applied term t o f e a = subst (FlightIs mean log applied term t) e a

  pub flights_stand_hold : FlightsStand mean kind
  flights_stand_hold log applied term es s h c f e writes =
      let w = run_from (started log applied term) es in
      let a = run_ok (started log applied term) es h (started_ok log applied term s.within s.woven) in
      let x = flight_of w.log w.applied w.term (w.trail c) (w.gate.session c).flight f e (a.sessions c).flight in
      record { commit = (write_of mean w.log (w.trail c) f f.kind x.kind writes).commit; term = x.of_term; ahead = x.ahead }
