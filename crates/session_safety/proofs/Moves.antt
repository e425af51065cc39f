-- Leadership comes and goes, others' entries, and connections.
use Rattle.std.proofs.Common.{◌≡◌, inl, inr, ℕ, true, false, true≢false, cond, List, [], ◌∷◌, ◌++◌, length, take, refl, sym, ◌∙◌, subst, ⊎_elim, arith, length-append}
use Rattle.std.specs.Prelude.{◌==◌, ◌&&◌, not, nat_lt, map, Option, Some, None}
use Rattle.std.proofs.lemmas.List.{take-append-le, take-take, length-take-le, drop_all}
use Rattle.std.proofs.lemmas.Bool.{cond_both, cases_Bool, eqb-true, and_parts, not-true}
use Rattle.log_commands.specs.declared.command.Command.TheVariants.{OpenDb, Frames, Undo, Checkpoint}
use Rattle.raft_spec.specs.Node.{among}
use Rattle.sql_engine.specs.Meanings.{Meaning}
use Rattle.session_spec.specs.Causes.{LeadershipLost}
use Rattle.session_spec.specs.Entries.{Content, Does, Configures, Other, Entry, entries_of}
use Rattle.session_spec.specs.Machine.{base_at}
use Rattle.session_spec.specs.Sessions.{Refusal, Flight, Session, Gateway, absent, fresh}
use Rattle.session_spec.specs.Limits.{writes_to}
use Rattle.session_spec.specs.Requests.{with_later, with_session}
use Rattle.session_spec.specs.Events.{lost, left, on_lost, told_lost, on_hangup, connects, connected, tidy}
use Rattle.session_safety.specs.Woven.{Woven}
use Rattle.session_safety.specs.Nodes.{Trail, Node, unseen}
use Rattle.session_safety.specs.Life.{Connect, Hangup, Lose, Lead, Serve, Append, Follow, told_all, undue, ArePlain, happens}
use Rattle.session_safety.specs.Replies.{AllSaid}
use Rattle.session_safety.proofs.Files.{Free}
use Rattle.session_safety.proofs.Invariant.{Calm, SessionOk, Bare, Held, NodeOk, calm_grown, session_grown, bare_ok, bare_writes, two_cond, said_append}
use Rattle.session_safety.proofs.Tables.{among_filter, among_append, among_last, absent_bare, lost_bare, lost_free, lost_gone, lost_there, sole_tidy, sole_joined, sole_with}

pub no : {A : Type 0} → false ≡ true → A
no e = absurd (true≢false (sym e))

pub plain_free : (t : ℕ) (commands : List Content) (n : List ℕ) → ArePlain true commands → Free n (entries_of t commands)
plain_free t [] n a = tt
plain_free t (Does (OpenDb name) ∷ cs) n a = (refl, plain_free t cs n a.1)
plain_free t (Does (Frames name tx truncate commit pages) ∷ cs) n a = absurd a.0
plain_free t (Does (Undo tx) ∷ cs) n a = no (sym a.0)
plain_free t (Does (Checkpoint name) ∷ cs) n a = (refl, plain_free t cs n a.1)
plain_free t (Configures servers ∷ cs) n a = (refl, plain_free t cs n a.1)
plain_free t (Other ∷ cs) n a = (refl, plain_free t cs n a.1)

fresh_bare : Bare fresh
fresh_bare = record { tx = refl; flight = refl; due = refl }

pub cond_held : (w : Node) (c : ℕ) (n : List ℕ) (s : Session) → (w.gate.session c).flight ≡ None → Held w.gate.session n → Held (λ d. cond (d == c) s (w.gate.session d)) n
cond_held w c n s none k = record {
  conn = k.conn;
  writes = cond_both (k.conn == c) s (w.gate.session k.conn) (λ x. writes_to x.flight n ≡ true) (λ e. absurd (bare_writes (w.gate.session c) n none (subst (λ d. writes_to (w.gate.session d).flight n ≡ true) (eqb-true _ _ e) k.writes))) (λ e. k.writes);
}

left_there : (s : Session) (o : Option Flight) → (left s o).there ≡ true → s.there ≡ true
left_there s None e = no e
left_there s (Some f) e = e

left_bare : (s : Session) (o : Option Flight) → Bare s → Bare (left s o)
left_bare s None b = absent_bare
left_bare s (Some f) b = record { tx = b.tx; flight = b.flight; due = b.due }

left_absent : (s : Session) (o : Option Flight) → (s.there ≡ false → Bare s) → (left s o).there ≡ false → Bare (left s o)
left_absent s None h e = absent_bare
left_absent s (Some f) h e = record { tx = (h e).tx; flight = (h e).flight; due = (h e).due }

left_gone : (s : Session) (o : Option Flight) → (s.there ≡ false → s.later ≡ None) → (left s o).there ≡ false → (left s o).later ≡ None
left_gone s None h e = refl
left_gone s (Some f) h e = h e

left_writes : (s : Session) (o : Option Flight) (n : List ℕ) → s.flight ≡ o → writes_to o n ≡ true → writes_to (left s o).flight n ≡ true
left_writes s None n e w = no w
left_writes s (Some f) n e w = subst (λ o. writes_to o n ≡ true) (sym e) w

module _ (mean : Meaning) where
  -- replies that name a failure
  failures_ok : (log : List Entry) (cs : List ℕ) → AllSaid mean log (told_all (map (λ (c : ℕ). (c, Refusal LeadershipLost)) cs))
  failures_ok log [] = tt
  failures_ok log (c ∷ cs) = (record { rows = tt; query = tt; commit = tt; ends = tt; entry = λ h. absurd (omega (arith, h)) }, failures_ok log cs)

  lost_said : (log : List Entry) (g : Gateway) → AllSaid mean log (told_all (told_lost g))
  unfolding told_lost
  lost_said log g = failures_ok log _

  pub lose_ok : (w : Node) (t : ℕ) → NodeOk mean w → NodeOk mean (happens w (Lose t))
  unfolding happens on_lost tidy
  lose_ok w t a = record {
    applied = a.applied;
    leads = λ e. no e;
    sessions = λ c. bare_ok mean w.log w.applied t (lost (w.gate.session c)) (w.trail c) (lost_bare (w.gate.session c)) (lost_free (w.trail c).seen (w.trail c).at (w.gate.session c) (a.sessions c).free) (a.sessions c).at (a.sessions c).seen;
    idle = λ e c. lost_bare (w.gate.session c);
    calm = λ e n. no e;
    listed = λ c e. among_filter (λ d. (lost (w.gate.session d)).there) w.gate.conns c (a.listed c (lost_there (w.gate.session c) e)) e;
    absent = λ c e. lost_bare (w.gate.session c);
    gone = λ c. lost_gone (w.gate.session c) (a.gone c);
    sole = sole_tidy w.gate.conns (λ c. lost (w.gate.session c)) a.sole.once;
    woven = a.woven;
    said = said_append mean (take w.applied w.log) w.said _ a.said (lost_said (take w.applied w.log) w.gate);
  }

  -- a node that does not lead does not serve
  not_serving : (w : Node) → NodeOk mean w → w.leads ≡ false → w.serving ≡ false
  not_serving w a e = ⊎_elim (λ (s : w.serving ≡ true). no (sym e ∙ a.leads s)) (λ (s : w.serving ≡ false). s) (cases_Bool w.serving)

  pub lead_ok : (w : Node) (t : ℕ) → w.leads ≡ false → NodeOk mean w → NodeOk mean (happens w (Lead t))
  unfolding happens
  lead_ok w t e a =
      let off = not_serving w a e in
      record {
        applied = a.applied;
        leads = λ x. no x;
        sessions = λ c. bare_ok mean w.log w.applied t (w.gate.session c) (w.trail c) (a.idle off c) (a.sessions c).free (a.sessions c).at (a.sessions c).seen;
        idle = λ x c. a.idle off c;
        calm = λ x n. no x;
        listed = a.listed;
        absent = a.absent;
        gone = a.gone;
        sole = a.sole;
        woven = a.woven;
        said = a.said;
      }

  pub serve_ok : (w : Node) → w.leads ≡ true → w.applied ≡ length w.log → ((n : List ℕ) → (base_at w.log w.applied n).pending ≡ None) → NodeOk mean w → NodeOk mean (happens w Serve)
  unfolding happens
  serve_ok w l e p a = record {
    applied = a.applied;
    leads = λ x. l;
    sessions = a.sessions;
    idle = λ x. no (sym x);
    calm = λ x n. inl (record { free = subst (Free n) (sym (drop_all w.applied w.log (omega arith))) tt; still = p n });
    listed = a.listed;
    absent = a.absent;
    gone = a.gone;
    sole = a.sole;
    woven = a.woven;
    said = a.said;
  }

  pub append_ok : (w : Node) (commands : List Content) → ArePlain w.serving commands → Woven (w.log ++ entries_of w.term commands) → NodeOk mean w → NodeOk mean (happens w (Append commands))
  unfolding happens
  append_ok w commands p weaves a =
      let es = entries_of w.term commands in
      let free = λ (e : w.serving ≡ true) (n : List ℕ). plain_free w.term commands n (subst (λ b. ArePlain b commands) e p) in
      record {
        applied = omega (arith, a.applied, length-append w.log es);
        leads = a.leads;
        sessions = λ c. session_grown mean w.log es w.applied w.term (w.gate.session c) (w.trail c) a.applied
            (λ n x. ⊎_elim (λ (s : w.serving ≡ true). free s n) (λ (s : w.serving ≡ false). absurd (bare_writes (w.gate.session c) n (a.idle s c).flight x)) (cases_Bool w.serving))
            (a.sessions c);
        idle = a.idle;
        calm = λ e n. ⊎_elim (λ (k : Calm n w.applied w.log). inl (calm_grown n w.applied w.log es a.applied (free e n) k)) (λ (k : Held w.gate.session n). inr k) (a.calm e n);
        listed = a.listed;
        absent = a.absent;
        gone = a.gone;
        sole = a.sole;
        woven = weaves;
        said = subst (λ l. AllSaid mean l w.said) (sym (take-append-le w.applied w.log es a.applied)) a.said;
      }

  pub follow_ok : (w : Node) (es : List Entry) → w.leads ≡ false → Woven (take w.applied w.log ++ es) → NodeOk mean w → NodeOk mean (happens w (Follow es))
  unfolding happens
  follow_ok w es e weaves a =
      let off = not_serving w a e in
      let long = length-take-le w.applied w.log a.applied in
      let same : take w.applied (take w.applied w.log ++ es) ≡ take w.applied w.log = take-append-le w.applied (take w.applied w.log) es (omega arith) ∙ take-take w.applied w.applied w.log (omega arith) in
      record {
        applied = omega (arith, length-append (take w.applied w.log) es);
        leads = a.leads;
        sessions = λ c. bare_ok mean (take w.applied w.log ++ es) w.applied w.term (w.gate.session c) (w.trail c) (a.idle off c) (a.sessions c).free (a.sessions c).at (a.sessions c).seen;
        idle = a.idle;
        calm = λ x n. no (sym off ∙ x);
        listed = a.listed;
        absent = a.absent;
        gone = a.gone;
        sole = a.sole;
        woven = weaves;
        said = subst (λ l. AllSaid mean l w.said) (sym same) a.said;
      }

  pub connect_ok : (w : Node) (c : ℕ) → NodeOk mean w → NodeOk mean (happens w (Connect c))
  unfolding happens connects connected
  connect_ok w c a =
      cond_both (not (w.gate.session c).there && nat_lt (length w.gate.conns) 64) _ w (NodeOk mean)
      (λ e.
      let b = a.absent c (not-true _ (and_parts _ _ e).0) in
      record {
        applied = a.applied;
        leads = a.leads;
        sessions = λ d. two_cond (d == c) (SessionOk mean w.log w.applied w.term) fresh (w.gate.session d) unseen (w.trail d) (λ y. bare_ok mean w.log w.applied w.term fresh unseen fresh_bare tt (omega arith) (omega arith)) (λ y. a.sessions d);
        idle = λ x d. cond_both (d == c) fresh (w.gate.session d) Bare (λ y. fresh_bare) (λ y. a.idle x d);
        calm = λ x n. ⊎_elim (λ (k : Calm n w.applied w.log). inl k) (λ (k : Held w.gate.session n). inr (cond_held w c n fresh b.flight k)) (a.calm x n);
        listed = λ d. cond_both (d == c) fresh (w.gate.session d) (λ s. s.there ≡ true → among (w.gate.conns ++ c ∷ []) d ≡ true) (λ y z. subst (λ k. among (w.gate.conns ++ c ∷ []) k ≡ true) (sym (eqb-true d c y)) (among_last w.gate.conns c)) (λ y z. among_append w.gate.conns (c ∷ []) d (a.listed d z));
        absent = λ d. cond_both (d == c) fresh (w.gate.session d) (λ s. s.there ≡ false → Bare s) (λ y z. fresh_bare) (λ y z. a.absent d z);
        gone = λ d. cond_both (d == c) fresh (w.gate.session d) (λ s. s.there ≡ false → s.later ≡ None) (λ y z. refl) (λ y z. a.gone d z);
        sole = sole_joined w.gate.conns w.gate.session c fresh refl (not-true _ (and_parts _ _ e).0) a.sole;
        woven = a.woven;
        said = a.said;
      })
      (λ e. a)

  left_ok : (log : List Entry) (applied term : ℕ) (s : Session) (t : Trail) (o : Option Flight) → s.flight ≡ o → SessionOk mean log applied term s t → SessionOk mean log applied term (left s o) t
  left_ok log applied term s t None e a = bare_ok mean log applied term absent t absent_bare tt a.at a.seen
  left_ok log applied term s t (Some f) e a = record { at = a.at; seen = a.seen; tx = a.tx; flight = a.flight; apart = a.apart; free = a.free }

  pub hangup_ok : (w : Node) (c : ℕ) → NodeOk mean w → NodeOk mean (happens w (Hangup c))
  unfolding happens on_hangup tidy
  hangup_ok w c a =
      let gone = left (w.gate.session c) (w.gate.session c).flight in
      record {
        applied = a.applied;
        leads = a.leads;
        sessions = λ d. cond_both (d == c) gone (w.gate.session d) (λ s. SessionOk mean w.log w.applied w.term s (w.trail d)) (λ y. left_ok w.log w.applied w.term (w.gate.session c) (w.trail d) (w.gate.session c).flight refl (subst (λ k. SessionOk mean w.log w.applied w.term (w.gate.session c) (w.trail k)) (sym (eqb-true d c y)) (a.sessions c))) (λ y. a.sessions d);
        idle = λ x d. cond_both (d == c) gone (w.gate.session d) Bare (λ y. left_bare (w.gate.session c) (w.gate.session c).flight (a.idle x c)) (λ y. a.idle x d);
        calm = λ x n. ⊎_elim (λ (k : Calm n w.applied w.log). inl k)
            (λ (k : Held w.gate.session n). inr (record {
              conn = k.conn;
              writes = cond_both (k.conn == c) gone (w.gate.session k.conn) (λ s. writes_to s.flight n ≡ true)
                  (λ y. left_writes (w.gate.session c) (w.gate.session c).flight n refl (subst (λ d. writes_to (w.gate.session d).flight n ≡ true) (eqb-true _ _ y) k.writes))
                  (λ y. k.writes);
            }))
            (a.calm x n);
        listed = λ d e. among_filter (λ k. (cond (k == c) gone (w.gate.session k)).there) w.gate.conns d (a.listed d (cond_both (d == c) gone (w.gate.session d) (λ s. s.there ≡ true → (w.gate.session d).there ≡ true) (λ y z. subst (λ k. (w.gate.session k).there ≡ true) (sym (eqb-true d c y)) (left_there (w.gate.session c) (w.gate.session c).flight z)) (λ y z. z) e)) e;
        absent = λ d. cond_both (d == c) gone (w.gate.session d) (λ s. s.there ≡ false → Bare s) (λ y. left_absent (w.gate.session c) (w.gate.session c).flight (a.absent c)) (λ y. a.absent d);
        gone = λ d. cond_both (d == c) gone (w.gate.session d) (λ s. s.there ≡ false → s.later ≡ None) (λ y. left_gone (w.gate.session c) (w.gate.session c).flight (a.gone c)) (λ y. a.gone d);
        sole = sole_tidy w.gate.conns (λ d. cond (d == c) gone (w.gate.session d)) a.sole.once;
        woven = a.woven;
        said = a.said;
      }

  -- a query that was due is taken from its session
  pub undue_ok : (w : Node) (c : ℕ) → (w.gate.session c).there ≡ true → (w.gate.session c).flight ≡ None → NodeOk mean w → NodeOk mean (undue w c)
  unfolding with_session
  undue_ok w c here none a =
      let s = with_later (w.gate.session c) None in
      let k = a.sessions c in
      record {
        applied = a.applied;
        leads = a.leads;
        sessions = λ d. cond_both (d == c) s (w.gate.session d) (λ x. SessionOk mean w.log w.applied w.term x (w.trail d))
            (λ y. subst (λ i. SessionOk mean w.log w.applied w.term s (w.trail i)) (sym (eqb-true d c y)) (record { at = k.at; seen = k.seen; tx = k.tx; flight = k.flight; apart = k.apart; free = tt }))
            (λ y. a.sessions d);
        idle = λ x d. cond_both (d == c) s (w.gate.session d) Bare (λ y. record { tx = (a.idle x c).tx; flight = (a.idle x c).flight; due = refl }) (λ y. a.idle x d);
        calm = λ x n. ⊎_elim (λ (y : Calm n w.applied w.log). inl y) (λ (y : Held w.gate.session n). inr (cond_held w c n s none y)) (a.calm x n);
        listed = λ d. cond_both (d == c) s (w.gate.session d) (λ x. x.there ≡ true → among w.gate.conns d ≡ true) (λ y z. subst (λ i. among w.gate.conns i ≡ true) (sym (eqb-true d c y)) (a.listed c here)) (λ y z. a.listed d z);
        absent = λ d. cond_both (d == c) s (w.gate.session d) (λ x. x.there ≡ false → Bare x) (λ y z. no (sym z ∙ here)) (λ y. a.absent d);
        gone = λ d. cond_both (d == c) s (w.gate.session d) (λ x. x.there ≡ false → x.later ≡ None) (λ y z. refl) (λ y. a.gone d);
        sole = sole_with w.gate.conns w.gate.session c s here a.sole;
        woven = a.woven;
        said = a.said;
      }
