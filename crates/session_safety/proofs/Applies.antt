-- An entry is applied.
use Rattle.std.proofs.Common.{◌≡◌, ◌⊎◌, inl, inr, ℕ, suc, ◌+◌, ◌<◌, ◌≤◌, max, Bool, true, false, true≢false, cond, List, [], ◌∷◌, ◌++◌, length, take, drop, refl, sym, ap, ◌∙◌, subst, ⊎_elim, arith}
use Rattle.std.specs.Prelude.{◌==◌, Option, Some, None}
use Rattle.std.proofs.lemmas.List.{drop-drop, take-take, take-append-drop}
use Rattle.std.proofs.lemmas.Bool.{cond_both, cond-false, cases_Bool, eqb-true, eqb-false}
use Rattle.sql_engine.specs.Replies.{Statement}
use Rattle.raft_spec.specs.Node.{Server}
use Rattle.sql_engine.specs.Meanings.{Meaning}
use Rattle.session_spec.specs.Entries.{Content, Configures, Entry}
use Rattle.session_spec.specs.Sessions.{Reply, Refusal, Single, Rows, empty, change_reply, db, Kind, Opening, Configuring, Writing, Committing, Querying, Flight, Transaction, Session, absent}
use Rattle.session_spec.specs.Limits.{writes_to}
use Rattle.session_spec.specs.Events.{landed, settled_by, on_applied, tidy}
use Rattle.session_safety.specs.Nodes.{Said, Trail, Node}
use Rattle.session_safety.specs.Life.{Apply, query_for, commit_of, said_landed, said_by, said_applied, landed_trail, trail_by, happens}
use Rattle.session_safety.specs.Replies.{QueryIs, StandsAt, IsOpening, EntryOk, AllSaid}
use Rattle.session_safety.proofs.Files.{Free, free_drop, alike_between}
use Rattle.session_safety.proofs.Invariant.{Calm, TxIs, KindOk, IsOf, result_plain, FlightOk, FlightIs, ApartBy, Apart, IsFree, free_when, free_flies, SessionOk, Held, NodeOk, agree_take, query_along, commit_along, said_grown, said_append, write_of, writes_parts, bare_ok, two_cond, rows_are}
use Rattle.session_safety.proofs.Weaves.{stands_front}
use Rattle.session_safety.proofs.Tables.{among_filter, absent_bare, settled_bare, settled_there, settled_absent, settled_gone, sole_tidy}

pub calm_next : (n : List ℕ) (k : ℕ) (log : List Entry) → Calm n k log → Calm n (suc k) log
calm_next n k log c =
    let e : k + 1 ≡ suc k = omega arith in
    record {
      free = subst (λ j. Free n (drop j log)) e (subst (Free n) (drop-drop 1 k log) (free_drop 1 (drop k log) n c.free));
      still = (alike_between log k (suc k) n (omega arith) c.free).pending ∙ c.still;
    }

db_empty : db ≡ empty → ⊥
db_empty e = cc

no_db : (short : Bool) → change_reply short ≡ db → ⊥
no_db false e = cc
no_db true e = cc

-- a later index, if neither transaction nor proposal reads it
tx_seen : (mean : Meaning) (log : List Entry) (t : Trail) (o : Option Transaction) (index : ℕ) → o ≡ None → TxIs mean log (record { seen = max t.seen index; at = t.at; ran = t.ran }) o
tx_seen mean log t o index e = subst (TxIs mean log (record { seen = max t.seen index; at = t.at; ran = t.ran })) (sym e) tt

module _ (mean : Meaning) (log : List Entry) (applied term : ℕ) (within : suc applied ≤ length log) where
  landed_ok : (s : Session) (t : Trail) (f : Flight) (k : Kind) → t.at ≤ applied → t.seen ≤ applied → TxIs mean log t s.tx → ApartBy k s.tx → s.later ≡ None → SessionOk mean log (suc applied) term (landed s f k) (landed_trail (suc applied) t k)
  landed_ok s t f Opening at seen tx apart none = record { at = omega arith; seen = omega arith; tx = tx; flight = tt; apart = tt; free = free_when _ _ _ _ none }
  landed_ok s t f (Configuring short) at seen tx apart none = record { at = omega arith; seen = omega arith; tx = tx; flight = tt; apart = tt; free = free_when _ _ _ _ none }
  landed_ok s t f (Writing reply) at seen tx apart none = record { at = omega arith; seen = omega arith; tx = tx_seen mean log t s.tx (suc applied) apart; flight = tt; apart = tt; free = free_when _ _ _ _ none }
  landed_ok s t f Committing at seen tx apart none = record { at = omega arith; seen = omega arith; tx = tt; flight = tt; apart = tt; free = free_when _ _ _ _ none }
  landed_ok s t f (Querying statement) at seen tx apart none = record { at = omega arith; seen = omega arith; tx = tx; flight = tt; apart = tt; free = refl }

  gone_ok : (t : Trail) (k : Kind) → t.at ≤ applied → t.seen ≤ applied → SessionOk mean log (suc applied) term absent (landed_trail (suc applied) t k)
  gone_ok t Opening at seen = bare_ok mean log (suc applied) term absent t absent_bare tt (omega arith) (omega arith)
  gone_ok t (Configuring short) at seen = bare_ok mean log (suc applied) term absent t absent_bare tt (omega arith) (omega arith)
  gone_ok t (Writing reply) at seen = bare_ok mean log (suc applied) term absent _ absent_bare tt (omega arith) (omega arith)
  gone_ok t Committing at seen = bare_ok mean log (suc applied) term absent _ absent_bare tt (omega arith) (omega arith)
  gone_ok t (Querying statement) at seen = bare_ok mean log (suc applied) term absent t absent_bare tt (omega arith) (omega arith)

  pub settled_ok : (s : Session) (t : Trail) (o : Option Flight) → s.flight ≡ o → t.at ≤ applied → t.seen ≤ applied → TxIs mean log t s.tx → FlightIs mean log applied term t o → Apart o s.tx → IsFree t.seen t.at s.later o → SessionOk mean log (suc applied) term (settled_by (suc applied) s o) (trail_by (suc applied) t o)
  settled_ok s t None e at seen tx a apart free = record { at = omega arith; seen = omega arith; tx = tx; flight = subst (FlightIs mean log (suc applied) term t) (sym e) tt; apart = subst (λ x. Apart x s.tx) (sym e) tt; free = subst (IsFree t.seen t.at s.later) (sym e) free }
  settled_ok s t (Some f) e at seen tx a apart free =
      two_cond (f.last == suc applied) (SessionOk mean log (suc applied) term) (cond s.hung absent (landed s f f.kind)) s (landed_trail (suc applied) t f.kind) t
      (λ q. cond_both s.hung absent (landed s f f.kind) (λ x. SessionOk mean log (suc applied) term x (landed_trail (suc applied) t f.kind)) (λ p. gone_ok t f.kind at seen) (λ p. landed_ok s t f f.kind at seen tx apart (free_flies t.seen t.at s.later f free)))
      (λ q.
      let ne = eqb-false _ _ q in
      let ahead = a.ahead in
      let more : suc applied < f.last = omega arith in
      let f' : FlightOk mean log (suc applied) term t f = record { ahead = more; within = a.within; of_term = a.of_term; kind = a.kind; entry = a.entry } in
      record { at = omega arith; seen = omega arith; tx = tx; flight = subst (FlightIs mean log (suc applied) term t) (sym e) f'; apart = subst (λ x. Apart x s.tx) (sym e) apart; free = subst (IsFree t.seen t.at s.later) (sym e) free })

  -- the write lock is free again, or is still held
  pub turn_next : (s : Session) (t : Trail) (o : Option Flight) (n : List ℕ) → s.flight ≡ o → FlightIs mean log applied term t o → writes_to o n ≡ true → Calm n (suc applied) log ⊎ (writes_to (settled_by (suc applied) s o).flight n ≡ true)
  turn_next s t None n e a w = absurd (true≢false (sym w))
  turn_next s t (Some f) n e a w =
      ⊎_elim
      (λ (q : (f.last == suc applied) ≡ true).
      let p = writes_parts f n w in
      let k = write_of mean log t f f.kind a.kind p.0 in
      inl (subst (λ i. Calm n i log) (eqb-true _ _ q) (subst (λ m. Calm m f.last log) p.1 k.calm)))
      (λ (q : (f.last == suc applied) ≡ false). inr (subst (λ x. writes_to x.flight n ≡ true) (sym (cond-false (f.last == suc applied) (cond s.hung absent (landed s f f.kind)) s q)) (subst (λ x. writes_to x n ≡ true) (sym e) w)))
      (cases_Bool (f.last == suc applied))

  query_taken : (r : Reply) (name : List ℕ) (at : ℕ) (before ss : List Statement) (seen p : ℕ) → p ≤ length log → at ≤ p → QueryIs mean log (query_for r name at before ss seen) → QueryIs mean (take p log) (query_for r name at before ss seen)
  query_taken (Refusal cause) name at before ss seen p l h a = tt
  query_taken (Single response) name at before ss seen p l h a = tt
  query_taken (Rows answer) name at before ss seen p l h a = query_along mean at log (take p log) _ (agree_take at p log h l) (omega arith) a

  entry_said : (x : Said) (f : Flight) (content : Content) → x.index ≡ suc applied → StandsAt log x.index x.term content → (x.reply ≡ db → IsOpening x.opened content) → (x.reply ≡ empty → (servers : List Server) × (content ≡ Configures servers)) → EntryOk (take (suc applied) log) x
  entry_said x f content e stands opens changes = record { content = content; stands = stands_front log (suc applied) x.index x.term content (omega arith) (omega arith) within stands; opens = opens; changes = changes }

  landed_said : (c : ℕ) (t : Trail) (f : Flight) (k : Kind) (content : Content) → f.last ≡ suc applied → t.at ≤ applied → StandsAt log f.last f.term content → IsOf k f.name content → KindOk mean log t f k → AllSaid mean (take (suc applied) log) (said_landed c t f k)
  landed_said c t f Opening content e at s of a = (record { rows = tt; query = tt; commit = tt; ends = tt; entry = λ h. entry_said _ f content e s (λ z. of) (λ z. absurd (db_empty z)) }, tt)
  landed_said c t f (Configuring false) content e at s of a = (record { rows = tt; query = tt; commit = tt; ends = tt; entry = λ h. entry_said _ f content e s (λ z. absurd (no_db false z)) (λ z. of) }, tt)
  landed_said c t f (Configuring true) content e at s of a = (record { rows = tt; query = tt; commit = tt; ends = tt; entry = λ h. entry_said _ f content e s (λ z. absurd (no_db true z)) (λ z. of) }, tt)
  landed_said c t f (Writing reply) content e at s of a = (
    record {
      rows = rows_are reply f.name t.at [] t.ran t.seen;
      query = query_taken reply f.name t.at [] t.ran t.seen (suc applied) within (omega arith) a.1;
      commit = commit_along mean log (take (suc applied) log) (commit_of f t.ran) (agree_take f.last (suc applied) log (omega arith) within) a.0.commit;
      ends = (refl, refl);
      entry = λ h. entry_said _ f content e s (λ z. absurd (of.not_db z)) (λ z. absurd (of.not_empty z));
    },
    tt,
  )
  landed_said c t f Committing content e at s of a = (record { rows = tt; query = tt; commit = commit_along mean log (take (suc applied) log) (commit_of f t.ran) (agree_take f.last (suc applied) log (omega arith) within) a.commit; ends = (refl, refl); entry = λ h. entry_said _ f content e s (λ z. absurd ((result_plain 0).not_db z)) (λ z. absurd ((result_plain 0).not_empty z)) }, tt)
  landed_said c t f (Querying statement) content e at s of a = tt

  said_by_ok : (c : ℕ) (t : Trail) (hung : Bool) (o : Option Flight) → t.at ≤ applied → FlightIs mean log applied term t o → AllSaid mean (take (suc applied) log) (said_by (suc applied) c t hung o)
  said_by_ok c t hung None at a = tt
  said_by_ok c t hung (Some f) at a =
      cond_both (f.last == suc applied) _ _ (AllSaid mean (take (suc applied) log))
      (λ e. cond_both hung _ _ (AllSaid mean (take (suc applied) log)) (λ h. tt) (λ h. landed_said c t f f.kind a.entry.content (eqb-true _ _ e) at a.entry.stands a.entry.of a.kind))
      (λ e. tt)

  pub said_applied_ok : (trail : ℕ → Trail) (session : ℕ → Session) (cs : List ℕ) → ((c : ℕ) → SessionOk mean log applied term (session c) (trail c)) → AllSaid mean (take (suc applied) log) (said_applied (suc applied) trail session cs)
  said_applied_ok trail session [] a = tt
  said_applied_ok trail session (c ∷ cs) a = said_append mean (take (suc applied) log) _ _ (said_by_ok c (trail c) (session c).hung (session c).flight (a c).at (a c).flight) (said_applied_ok trail session cs a)

pub front_grows : (k : ℕ) (log : List Entry) → take (suc k) log ≡ take k log ++ drop k (take (suc k) log)
front_grows k log = sym (take-append-drop k (take (suc k) log)) ∙ ap (λ l. l ++ drop k (take (suc k) log)) (take-take k (suc k) log (omega arith))

pub apply_ok : (mean : Meaning) (w : Node) → w.applied < length w.log → NodeOk mean w → NodeOk mean (happens w Apply)
unfolding happens on_applied tidy
apply_ok mean w h a =
    let within : suc w.applied ≤ length w.log = omega arith in
    let s = λ (c : ℕ). w.gate.session c in
    record {
      applied = within;
      leads = a.leads;
      sessions = λ c. let k = a.sessions c in settled_ok mean w.log w.applied w.term within (s c) (w.trail c) (s c).flight refl k.at k.seen k.tx k.flight k.apart k.free;
      idle = λ e c. settled_bare (suc w.applied) (s c) (a.idle e c);
      calm = λ e n. ⊎_elim
          (λ (k : Calm n w.applied w.log). inl (calm_next n w.applied w.log k))
          (λ (k : Held w.gate.session n). ⊎_elim (λ (z : Calm n (suc w.applied) w.log). inl z) (λ (z : writes_to (settled_by (suc w.applied) (s k.conn) (s k.conn).flight).flight n ≡ true). inr (record { conn = k.conn; writes = z }))
          (turn_next mean w.log w.applied w.term within (s k.conn) (w.trail k.conn) (s k.conn).flight n refl (a.sessions k.conn).flight k.writes))
          (a.calm e n);
      listed = λ c e. among_filter (λ d. (settled_by (suc w.applied) (s d) (s d).flight).there) w.gate.conns c (a.listed c (settled_there (suc w.applied) (s c) (s c).flight e)) e;
      absent = λ c. settled_absent (suc w.applied) (s c) (s c).flight refl (a.absent c);
      gone = λ c. settled_gone (suc w.applied) (s c) (s c).flight refl (a.absent c) (a.gone c);
      sole = sole_tidy w.gate.conns (λ d. settled_by (suc w.applied) (s d) (s d).flight) a.sole.once;
      woven = a.woven;
      said = said_append mean (take (suc w.applied) w.log) w.said _ (subst (λ l. AllSaid mean l w.said) (sym (front_grows w.applied w.log)) (said_grown mean (take w.applied w.log) _ w.said a.said)) (said_applied_ok mean w.log w.applied w.term within w.trail w.gate.session w.gate.conns a.sessions);
    }
