-- Replies are those to the requests that are handled.
use Rattle.std.proofs.Common.{◌≡◌, ◌≢◌, ◌⊎◌, inl, inr, ℕ, zero, suc, ◌+◌, Bool, true, false, true≢false, cond, List, [], ◌∷◌, ◌++◌, length, map, refl, sym, ap, ◌∙◌, subst, ⊎_elim, arith, append_assoc}
use Rattle.std.specs.Prelude.{◌==◌, ◌&&◌, ◌||◌, not, nat_le, is_none, Option, Some, None}
use Rattle.std.specs.List.{filter}
use Rattle.std.proofs.lemmas.List.{append-nil}
use Rattle.std.proofs.lemmas.Bool.{cond_both, cond-true, cond-false, cases_Bool, cases_eq, eqb-true, eq-eqb, ne_eqb, and_right, and_parts, not-true, not-false, or_left, or_right, or_parts, or_cases}
use Rattle.raft_spec.specs.Node.{among}
use Rattle.wire_msgs.specs.declared.request.Request.{Request}
use Rattle.sql_engine.specs.Replies.{Statement}
use Rattle.sql_engine.specs.Meanings.{Meaning}
use Rattle.sql_engine.specs.declared.kind.EngineKind.{EngineKind}
use Rattle.session_spec.specs.Causes.{LeadershipLost}
use Rattle.session_spec.specs.Engines.{Answer, Handed}
use Rattle.session_spec.specs.Sessions.{Reply, Refusal, Single, Rows, empty, Kind, Opening, Configuring, Writing, Committing, Querying, Flight, Later, Due, Lent, is_flying, is_due, later_query, lent_query, Transaction, Session, Gateway, absent, fresh, in_tx, is_busy, may_ask, Effect, HandsOver, JoinsPeer, Weighs, Note, Nothing, Began, Inside, Outside, Turned, Refused, Lacks, Answers, Proposes, Lends, Affects}
use Rattle.session_spec.specs.Requests.{with_tx, with_flight, with_later, with_lost, handed, handed_later, with_session, affected_by}
use Rattle.session_spec.specs.Entries.{Content}
use Rattle.session_spec.specs.Events.{tidy, landed, settled_by, on_applied, still_lent, loses, lost, on_lost, waits, last_of, placed, ordered, told_lost, left, on_hangup, connects, connected}
use Rattle.session_spec.specs.Laws.{NoteTells, TurnedTells}
use Rattle.session_spec.proofs.Keeping.{notes_tell_hold, laters_keep_hold}
use Rattle.session_safety.specs.Nodes.{Said, Trail, Node, Standing, databases, view_of, unseen, started}
use Rattle.session_safety.specs.Life.{Event, Connect, Hangup, Call, Resume, Done, Apply, Lose, Lead, Serve, Append, Follow, query_for, query_by, answered_trail, proposed_trail, tells, called, undue, outcome_later, resumed_by, resumed, told_at, said_read, read_trail, read_by, read, said_landed, said_by, said_applied, landed_trail, trail_by, told_all, joined, happens, run_from, AllFit}
use Rattle.session_safety.specs.Laws.{NoneComes}
use Rattle.session_safety.specs.Answering.{asks_for, outcome, transaction_ran, runs_on, ran_by, ran_later, ran_after, TransactionsRun, Handled, comes, handled_by, handled_in, said_to, QueryFrom, IsReplyTo, ArePaired, Owes, IsOpen, RepliesTo, RequestsAreAnswered}
use Rattle.session_safety.proofs.Invariant.{Once, NodeOk}
use Rattle.session_safety.proofs.Tables.{lost_bare, lost_there}
use Rattle.session_safety.proofs.Lives.{none_is, run_ok, started_ok}
use Rattle.session_safety.proofs.Lasts.{run_append, fit_parts}
use Rattle.session_safety.proofs.Answers.{is_query, there_of, there_due, waits_for, waits_due}
use Rattle.session_safety.proofs.Laters.{resumed_both, lent_later, undue_here}
use Rattle.session_safety.proofs.Plains.{not_busy}
use Rattle.session_safety.proofs.Outcomes.{NoRows, OneIfRows, NoteOk, TxAfter, KindNote, TurnedOk, request_turns, later_turns, statements_in, Owns, request_owns, later_owns}

-- ---- replies to one connection

pub said_to_append : (c : ℕ) (xs ys : List Said) → said_to c (xs ++ ys) ≡ said_to c xs ++ said_to c ys
said_to_append c [] ys = refl
said_to_append c (x ∷ xs) ys = ap (λ l. cond (x.conn == c) (x ∷ l) l) (said_to_append c xs ys) ∙ by (x.conn == c)
  where
    by : (b : Bool) → cond b (x ∷ (said_to c xs ++ said_to c ys)) (said_to c xs ++ said_to c ys) ≡ cond b (x ∷ said_to c xs) (said_to c xs) ++ said_to c ys
    by true = refl
    by false = refl

to_it : (c : ℕ) (x : Said) (xs : List Said) → x.conn ≡ c → said_to c (x ∷ xs) ≡ x ∷ said_to c xs
to_it c x xs e = cond-true (x.conn == c) (x ∷ said_to c xs) (said_to c xs) (eq-eqb x.conn c e)

to_other : (c : ℕ) (x : Said) (xs : List Said) → x.conn ≢ c → said_to c (x ∷ xs) ≡ said_to c xs
to_other c x xs e = cond-false (x.conn == c) (x ∷ said_to c xs) (said_to c xs) (ne_eqb x.conn c e)

-- ---- pairs of requests and replies

-- a reply to this request, if it is asked what it rests on
abbrev pub Replies : Bool → Handled → Said → Type 0
Replies b h x = b ≡ true → IsReplyTo h x

abbrev pub Paired : Bool → List Said → List Handled → List Handled → Type 0
Paired b [] hs owed = hs ≡ owed
Paired b (x ∷ xs) [] owed = ⊥
Paired b (x ∷ xs) (h ∷ hs) owed = Replies b h x × Paired b xs hs owed

surely : (xs : List Said) (hs owed : List Handled) → Paired true xs hs owed → ArePaired xs hs owed
surely [] hs owed a = a
surely (x ∷ xs) [] owed a = a
surely (x ∷ xs) (h ∷ hs) owed a = (a.0 refl, surely xs hs owed a.1)

-- each request is answered, or owed its reply
pub pairs_count : (b : Bool) (xs : List Said) (hs owed : List Handled) → Paired b xs hs owed → length xs + length owed ≡ length hs
pairs_count b [] hs owed a = let e : length owed ≡ length hs = ap length (sym a) in omega (arith, e)
pairs_count b (x ∷ xs) [] owed a = absurd a
pairs_count b (x ∷ xs) (h ∷ hs) owed a = let e = pairs_count b xs hs owed a.1 in omega (arith, e)

pub pairs_append : (b : Bool) (xs ys : List Said) (hs gs mid end : List Handled) → Paired b xs hs mid → Paired b ys (mid ++ gs) end → Paired b (xs ++ ys) (hs ++ gs) end
pairs_append b [] ys hs gs mid end one two = subst (λ l. Paired b ys (l ++ gs) end) (sym one) two
pairs_append b (x ∷ xs) ys [] gs mid end one two = absurd one
pairs_append b (x ∷ xs) ys (h ∷ hs) gs mid end one two = (one.0, pairs_append b xs ys hs gs mid end one.1 two)

pair_one : (b : Bool) (c : ℕ) (x : Said) (h : Handled) → x.conn ≡ c → Replies b h x → Paired b (said_to c (x ∷ [])) (h ∷ []) []
pair_one b c x h e r = subst (λ l. Paired b l (h ∷ []) []) (sym (to_it c x [] e)) (r, refl)

-- ---- a request that waits for its answer

-- this request asks for that one statement, and no transaction is open
abbrev pub AsksFor : Bool → Option Transaction → Handled → Statement → Type 0
AsksFor b o h statement = b ≡ true → (o ≡ None) × (h.before ≡ []) × (h.own ≡ statement ∷ [])

abbrev pub AllReply : Bool → Handled → List Said → Type 0
AllReply b h [] = Unit {0}
AllReply b h (x ∷ xs) = Replies b h x × AllReply b h xs

-- what the proposal leads to when it lands is for this request: its reply, or the query after its barrier
abbrev pub LandsFor : Bool → ℕ → Option Transaction → Trail → Handled → Flight → Kind → Type 0
LandsFor b c o t h f Opening = AllReply b h (said_landed c t f Opening)
LandsFor b c o t h f (Configuring short) = AllReply b h (said_landed c t f (Configuring short))
LandsFor b c o t h f (Writing reply) = AllReply b h (said_landed c t f (Writing reply))
LandsFor b c o t h f Committing = AllReply b h (said_landed c t f Committing)
LandsFor b c o t h f (Querying statement) = AsksFor b o h statement

pub record Waiting (b : Bool) (c : ℕ) (s : Session) (t : Trail) (h : Handled) : Type 0 where
  pub flight : Flight
  pub is : s.flight ≡ Some flight
  pub here : s.hung ≡ false
  pub later : s.later ≡ None
  pub reply : LandsFor b c s.tx t h flight flight.kind

-- its query waits for its answer, with nothing pending
pub record Deferred (b : Bool) (s : Session) (h : Handled) : Type 0 where
  pub statement : Statement
  pub is : later_query s.later ≡ Some statement
  pub free : s.flight ≡ None
  pub here : s.hung ≡ false
  pub asks : AsksFor b s.tx h statement

abbrev pub Pending : Bool → ℕ → Session → Trail → Option Handled → Type 0
Pending b c s t None = (s.flight ≡ None) × (s.later ≡ None)
Pending b c s t (Some h) = Waiting b c s t h ⊎ Deferred b s h

-- of a request of which nothing is known all is so
pub any_lands : (c : ℕ) (o : Option Transaction) (t : Trail) (h : Handled) (f : Flight) (k : Kind) → LandsFor false c o t h f k
any_lands c o t h f Opening = ((λ z. absurd (true≢false (sym z))), tt)
any_lands c o t h f (Configuring short) = ((λ z. absurd (true≢false (sym z))), tt)
any_lands c o t h f (Writing reply) = ((λ z. absurd (true≢false (sym z))), tt)
any_lands c o t h f Committing = ((λ z. absurd (true≢false (sym z))), tt)
any_lands c o t h f (Querying statement) = λ z. absurd (true≢false (sym z))

abbrev pub owed_by : Option Handled → List Handled
owed_by None = []
owed_by (Some h) = h ∷ []

-- from one node to the next, over an event that handles these requests
pub record Next (b : Bool) (c : ℕ) (w v : Node) (p : Option Handled) (asks : List Handled) : Type 0 where
  pub more : List Said
  pub said : v.said ≡ w.said ++ more
  pub after : Option Handled
  pub pending : Pending b c (v.gate.session c) (v.trail c) after
  pub paired : Paired b (said_to c more) (owed_by p ++ asks) (owed_by after)

quiet : (b : Bool) (c : ℕ) (w v : Node) (p : Option Handled) (more : List Said) → v.said ≡ w.said ++ more → said_to c more ≡ [] → v.gate.session c ≡ w.gate.session c → v.trail c ≡ w.trail c → Pending b c (w.gate.session c) (w.trail c) p → Next b c w v p []
quiet b c w v p more e none s t a = record {
  more = more;
  said = e;
  after = p;
  pending = subst (λ x. Pending b c (v.gate.session c) x p) (sym t) (subst (λ x. Pending b c x (w.trail c) p) (sym s) a);
  paired = subst (λ l. Paired b l (owed_by p ++ []) (owed_by p)) (sym none) (append-nil (owed_by p));
}

silent : (b : Bool) (c : ℕ) (w v : Node) (p : Option Handled) → v.said ≡ w.said → v.gate.session c ≡ w.gate.session c → v.trail c ≡ w.trail c → Pending b c (w.gate.session c) (w.trail c) p → Next b c w v p []
silent b c w v p e s t a = quiet b c w v p [] (e ∙ sym (append-nil w.said)) refl s t a

-- ---- a request of another connection

off : (c d : ℕ) → d ≢ c → (c == d) ≡ false
off c d n = ne_eqb c d (λ e. n (sym e))

effect_same : (g : Gateway) (e : Effect) (c : ℕ) → (affected_by g e).session c ≡ g.session c
effect_same g (HandsOver id) c = refl
effect_same g (JoinsPeer id) c = refl
effect_same g (Weighs weight) c = refl

with_same : (g : Gateway) (c d : ℕ) (s : Session) → d ≢ c → (with_session g d s).session c ≡ g.session c
unfolding with_session
with_same g c d s n = cond-false (c == d) s (g.session c) (off c d n)

with_here : (g : Gateway) (c : ℕ) (s : Session) → (with_session g c s).session c ≡ s
unfolding with_session
with_here g c s = cond-true (c == c) s (g.session c) (eq-eqb c c refl)

other_called : (b : Bool) (c : ℕ) (w : Node) (d : ℕ) (t : Turned) (p : Option Handled) → d ≢ c → Pending b c (w.gate.session c) (w.trail c) p → Next b c w (called w d t) p []
other_called b c w d (Refused cause) p n a =
    quiet b c w (called w d (Refused cause)) p (tells d (Refusal cause) ∷ []) refl (to_other c (tells d (Refusal cause)) [] n) refl refl a
other_called b c w d Lacks p n a = silent b c w w p refl refl refl a
other_called b c w d (Answers s r note) p n a = quiet b c w (called w d (Answers s r note)) p _ refl (to_other c (record { conn = d; reply = r; query = query_by w.applied (w.trail d) r note; commit = None; opened = None; index = 0; term = 0 }) [] n) (with_same w.gate c d s n) (cond-false (c == d) (answered_trail w.applied (w.trail d) note) (w.trail c) (off c d n)) a
other_called b c w d (Proposes s contents note) p n a = silent b c w (called w d (Proposes s contents note)) p refl (with_same w.gate c d s n) (cond-false (c == d) (proposed_trail w.applied (w.trail d) note) (w.trail c) (off c d n)) a
other_called b c w d (Lends s job) p n a = silent b c w (called w d (Lends s job)) p refl (with_same w.gate c d s n) (cond-false (c == d) (proposed_trail w.applied (w.trail d) (Outside job.name (job.statement ∷ []))) (w.trail c) (off c d n)) a
other_called b c w d (Affects effect) p n a =
    quiet b c w (called w d (Affects effect)) p (tells d empty ∷ []) refl (to_other c (tells d empty) [] n) (effect_same w.gate effect c) refl a

-- ---- a request of the connection

no_query : (h : Handled) (r : Reply) (name : List ℕ) (at : ℕ) (before ss : List Statement) (seen : ℕ) → NoRows r → QueryFrom h (query_for r name at before ss seen)
no_query h (Refusal cause) name at before ss seen n = tt
no_query h (Single response) name at before ss seen n = tt
no_query h (Rows answer) name at before ss seen n = absurd n

its_query : (h : Handled) (r : Reply) (name : List ℕ) (at : ℕ) (before ss : List Statement) (seen : ℕ) → before ≡ h.before → h.own ≡ ss → OneIfRows r ss → QueryFrom h (query_for r name at before ss seen)
its_query h (Refusal cause) name at before ss seen b o one = tt
its_query h (Single response) name at before ss seen b o one = tt
its_query h (Rows answer) name at before ss seen b o one = (b, o ∙ one)

told_inside : (o : Option Handed) (name : List ℕ) (ss : List Statement) → NoteTells o (Inside name ss) → statements_in o ≡ ss
told_inside None name ss a = absurd a
told_inside (Some handed) name ss a = sym a

told_outside : (o : Option Handed) (name : List ℕ) (ss : List Statement) → NoteTells o (Outside name ss) → statements_in o ≡ ss
told_outside None name ss a = absurd a
told_outside (Some handed) name ss a = sym a

told_nothing : (o : Option Handed) → NoteTells o Nothing → statements_in o ≡ []
told_nothing None a = refl
told_nothing (Some handed) a = absurd a

-- the statements of a transaction that is open, and of none
ran_in : (w : Node) (c : ℕ) → is_none (w.gate.session c).tx ≡ false → transaction_ran w c ≡ (w.trail c).ran
ran_in w c e = cond-true (in_tx (w.gate.session c)) (w.trail c).ran [] (ap not e)

ran_out : (w : Node) (c : ℕ) → (w.gate.session c).tx ≡ None → transaction_ran w c ≡ []
ran_out w c e = cond-false (in_tx (w.gate.session c)) (w.trail c).ran [] (ap (λ (o : Option Transaction). not (is_none o)) e)

abbrev request_of : Node → ℕ → Request → List Statement → Handled
request_of w c r own = record { request = r; before = transaction_ran w c; own = own }

-- the request is the one that is answered now: after the statements of the transaction it asks for these
abbrev Fits : Node → ℕ → List Statement → Handled → Type 0
Fits w c own h = (h.before ≡ transaction_ran w c) × (h.own ≡ own)

query_noted : (w : Node) (c : ℕ) (h : Handled) (own : List Statement) (o : Option Handed) (r : Reply) (note : Note) → Fits w c own h → statements_in o ≡ own → NoteOk (w.gate.session c).tx r note → NoteTells o note → QueryFrom h (query_by w.applied (w.trail c) r note)
query_noted w c h own o r Nothing is e ok t = no_query h r [] 0 [] [] (w.trail c).seen ok
query_noted w c h own o r Began is e ok t = no_query h r [] 0 [] [] (w.trail c).seen ok
query_noted w c h own o r (Inside name ss) is e ok t =
    its_query h r name (w.trail c).at (w.trail c).ran ss (w.trail c).seen (sym (is.0 ∙ ran_in w c ok.0)) (is.1 ∙ sym e ∙ told_inside o name ss t) ok.1
query_noted w c h own o r (Outside name ss) is e ok t =
    its_query h r name w.applied [] ss (w.trail c).seen (sym (is.0 ∙ ran_out w c ok.0)) (is.1 ∙ sym e ∙ told_outside o name ss t) ok.1

no_barrier : {A : Type 0} (own : List Statement) (o : Option Handed) (s : Session) (contents : List Content) (note : Note) (f : Flight) → s.flight ≡ Some f → is_query f.kind ≡ false → Owns own o (Proposes s contents note) → (statements_in o ≡ own → A) → A
no_barrier own o s contents note f is q (inl e) k = k e
no_barrier own o s contents note f is q (inr x) k = absurd (true≢false (sym (ap is_query x.3) ∙ ap (λ (g : Flight). is_query g.kind) (same (sym x.1 ∙ is)) ∙ q))
  where
    same : {g : Flight} → Some g ≡ Some f → g ≡ f
    same z = cc

flight_noted : (b : Bool) (w : Node) (c : ℕ) (h : Handled) (own : List Statement) (o : Option Handed) (f : Flight) (k : Kind) (note : Note) → (b ≡ true → Fits w c own h) → (is_query k ≡ false → statements_in o ≡ own) → KindNote own (w.gate.session c).tx k note → NoteTells o note → LandsFor b c (w.gate.session c).tx (proposed_trail w.applied (w.trail c) note) h f k
flight_noted b w c h own o f Opening note is e n t = ((λ y. record { query = tt; commit = tt }), tt)
flight_noted b w c h own o f (Configuring short) note is e n t = ((λ y. record { query = tt; commit = tt }), tt)
flight_noted b w c h own o f (Writing r) note is e n t =
    let ss = n.2 in
    let told : statements_in o ≡ ss = told_outside o n.1 ss (subst (NoteTells o) n.3 t) in
    let none = ran_out w c n.0 in
    subst (λ z. AllReply b h (said_landed c (proposed_trail w.applied (w.trail c) z) f (Writing r))) (sym n.3) (
      (λ y.
          let x = is y in
          record {
            query = its_query h r f.name w.applied [] ss (w.trail c).seen (sym (x.0 ∙ none)) (x.1 ∙ sym (e refl) ∙ told) n.4;
            commit = sym told ∙ e refl ∙ sym x.1 ∙ ap (λ l. l ++ h.own) (sym (x.0 ∙ none));
          }),
      tt,
    )
flight_noted b w c h own o f Committing note is e n t =
    let none : statements_in o ≡ [] = told_nothing o (subst (NoteTells o) n.1 t) in
    subst (λ z. AllReply b h (said_landed c (proposed_trail w.applied (w.trail c) z) f Committing)) (sym n.1)
    ((λ y. let x = is y in record { query = tt; commit = sym (x.0 ∙ ran_in w c n.0) ∙ sym (append-nil h.before) ∙ ap (λ l. h.before ++ l) (sym (x.1 ∙ sym (e refl) ∙ none)) }), tt)
flight_noted b w c h own o f (Querying statement) note is e n t = λ y. let x = is y in (n.0, x.0 ∙ ran_out w c n.0, x.1 ∙ n.2)

own_called : (b : Bool) (w : Node) (c : ℕ) (h : Handled) (own : List Statement) (o : Option Handed) (t : Turned) → (b ≡ true → Fits w c own h) → (w.gate.session c).flight ≡ None → (w.gate.session c).later ≡ None → (w.gate.session c).hung ≡ false → TurnedOk own (w.gate.session c) t → TurnedTells o t → Owns own o t → Next b c w (called w c t) None (cond (comes t) (h ∷ []) [])
own_called b w c h own o (Refused cause) is free rest here ok told owns = record { more = tells c (Refusal cause) ∷ []; said = refl; after = None; pending = (free, rest); paired = pair_one b c (tells c (Refusal cause)) h refl (λ s. record { query = tt; commit = tt }) }
own_called b w c h own o Lacks is free rest here ok told owns = silent b c w w None refl refl refl (free, rest)
own_called b w c h own o (Answers s r note) is free rest here ok told (inl e) = record {
  more = record { conn = c; reply = r; query = query_by w.applied (w.trail c) r note; commit = None; opened = None; index = 0; term = 0 } ∷ [];
  said = refl;
  after = None;
  pending = (ap (λ (x : Session). x.flight) (with_here w.gate c s) ∙ ok.free free, ap (λ (x : Session). x.later) (with_here w.gate c s) ∙ ok.kept ∙ rest);
  paired = pair_one b c _ h refl (λ y. record { query = query_noted w c h own o r note (is y) e ok.noted told; commit = tt });
}
own_called b w c h own o (Answers s r note) is free rest here ok told (inr x) = absurd x
own_called b w c h own o (Proposes s contents note) is free rest here ok told owns =
    let at = with_here w.gate c s in
    record {
      more = [];
      said = sym (append-nil w.said);
      after = Some h;
      pending = inl (record {
        flight = ok.flight;
        is = ap (λ (x : Session). x.flight) at ∙ ok.is;
        here = ap (λ (x : Session). x.hung) at ∙ ok.still.hung ∙ here;
        later = ap (λ (x : Session). x.later) at ∙ ok.kept ∙ rest;
        reply = subst (λ x. LandsFor b c x ((called w c (Proposes s contents note)).trail c) h ok.flight ok.flight.kind) (sym (ap (λ (x : Session). x.tx) at ∙ ok.tx))
            (subst (λ x. LandsFor b c (w.gate.session c).tx x h ok.flight ok.flight.kind) (sym (cond-true (c == c) (proposed_trail w.applied (w.trail c) note) (w.trail c) (eq-eqb c c refl)))
            (flight_noted b w c h own o ok.flight ok.flight.kind note is (λ q. no_barrier own o s contents note ok.flight ok.is q owns (λ e. e)) ok.kind told));
      });
      paired = refl;
    }
own_called b w c h own o (Lends s job) is free rest here ok told owns =
    let at = with_here w.gate c s in
    record {
      more = [];
      said = sym (append-nil w.said);
      after = Some h;
      pending = inr (record {
        statement = job.statement;
        is = ap (λ (x : Session). later_query x.later) at ∙ ap later_query ok.later;
        free = ap (λ (x : Session). x.flight) at ∙ ok.flight ∙ free;
        here = ap (λ (x : Session). x.hung) at ∙ ok.still.hung ∙ here;
        asks = λ y. let x = is y in (ap (λ (x : Session). x.tx) at ∙ ok.tx ∙ ok.out, x.0 ∙ ran_out w c ok.out, x.1 ∙ ok.asked);
      });
      paired = refl;
    }
own_called b w c h own o (Affects effect) is free rest here ok told owns = record { more = tells c empty ∷ []; said = refl; after = None; pending = (ap (λ (x : Session). x.flight) (effect_same w.gate effect c) ∙ free, ap (λ (x : Session). x.later) (effect_same w.gate effect c) ∙ rest); paired = pair_one b c (tells c empty) h refl (λ s. record { query = tt; commit = tt }) }

-- ---- a query that waits for its answer is run

-- a node that has said the same
next_from : (b : Bool) (c : ℕ) (u w v : Node) (p : Option Handled) (asks : List Handled) → u.said ≡ w.said → Next b c u v p asks → Next b c w v p asks
next_from b c u w v p asks e x = record { more = x.more; said = x.said ∙ ap (λ l. l ++ x.more) e; after = x.after; pending = x.pending; paired = x.paired }

undue_other : (c : ℕ) (w : Node) (d : ℕ) → d ≢ c → (undue w d).gate.session c ≡ w.gate.session c
undue_other c w d n = with_same w.gate c d (with_later (w.gate.session d) None) n

other_resumed : (b : Bool) (c : ℕ) (w : Node) (d : ℕ) (standing : Standing) (answers : List Answer) (o : Option Statement) (p : Option Handled) → d ≢ c → Pending b c (w.gate.session c) (w.trail c) p → Next b c w (resumed w d standing answers o) p []
other_resumed b c w d standing answers None p n a = silent b c w w p refl refl refl a
other_resumed b c w d standing answers (Some s) p n a =
    let t = outcome_later w d standing s answers in
    resumed_both (λ v. Next b c w v p []) w d t (silent b c w w p refl refl refl a)
    (next_from b c (undue w d) w (called (undue w d) d t) p [] refl (other_called b c (undue w d) d t p n (subst (λ x. Pending b c x (w.trail c) p) (sym (undue_other c w d n)) a)))

-- the request gets its reply now, or waits for a write
own_resumed : (b : Bool) (c : ℕ) (w : Node) (h : Handled) (t : Turned) → Pending b c (w.gate.session c) (w.trail c) (Some h) → Next b c (undue w c) (called (undue w c) c t) None (cond (comes t) (h ∷ []) []) → Next b c w (resumed_by w c t) (Some h) []
own_resumed b c w h (Refused cause) a x = record { more = x.more; said = x.said; after = x.after; pending = x.pending; paired = x.paired }
own_resumed b c w h Lacks a x = silent b c w w (Some h) refl refl refl a
own_resumed b c w h (Answers s r note) a x = record { more = x.more; said = x.said; after = x.after; pending = x.pending; paired = x.paired }
own_resumed b c w h (Proposes s contents note) a x = record { more = x.more; said = x.said; after = x.after; pending = x.pending; paired = x.paired }
own_resumed b c w h (Lends s job) a x = record { more = x.more; said = x.said; after = x.after; pending = x.pending; paired = x.paired }
own_resumed b c w h (Affects effect) a x = record { more = x.more; said = x.said; after = x.after; pending = x.pending; paired = x.paired }

some_same : {A : Type 0} {x y : A} → Some x ≡ Some y → x ≡ y
some_same e = cc

some_other : {A : Type 0} {x : A} {o : Option A} → o ≡ None → o ≡ Some x → ⊥
some_other a b = cc

its_resumed : (b : Bool) (c : ℕ) (w : Node) (standing : Standing) (answers : List Answer) (o : Option Statement) (p : Option Handled) → later_query (w.gate.session c).later ≡ o → Pending b c (w.gate.session c) (w.trail c) p → Next b c w (resumed w c standing answers o) p []
its_resumed b c w standing answers None p is a = silent b c w w p refl refl refl a
its_resumed b c w standing answers (Some s) None is a = absurd (some_other (ap later_query a.1) is)
its_resumed b c w standing answers (Some s) (Some h) is (inl x) = absurd (some_other (ap later_query x.later) is)
its_resumed b c w standing answers (Some s) (Some h) is (inr d) =
    let u = undue w c in
    let at = undue_here w c in
    own_resumed b c w h (outcome_later w c standing s answers) (inr d)
    (own_called b u c h (s ∷ []) (handed_later (view_of w standing) (databases w) u.gate c s) (outcome_later w c standing s answers)
    (λ y. let x = d.asks y in (x.1 ∙ sym (ran_out u c (ap (λ (x : Session). x.tx) at ∙ x.0)), x.2 ∙ ap (λ z. z ∷ []) (some_same (sym d.is ∙ is))))
    (ap (λ (x : Session). x.flight) at ∙ d.free) (ap (λ (x : Session). x.later) at) (ap (λ (x : Session). x.hung) at ∙ d.here)
    (later_turns (view_of w standing) (databases w) u.gate c s answers) (laters_keep_hold (view_of w standing) (databases w) u.gate c s answers).notes (later_owns (view_of w standing) (databases w) u.gate c s answers))

resume_next : (b : Bool) (c : ℕ) (w : Node) (d : ℕ) (standing : Standing) (answers : List Answer) (p : Option Handled) → Pending b c (w.gate.session c) (w.trail c) p → Next b c w (happens w (Resume d standing answers)) p []
unfolding happens
resume_next b c w d standing answers p a = ⊎_elim
    (λ (q : d ≡ c). subst (λ k. Next b c w (resumed w k standing answers (later_query (w.gate.session k).later)) p []) (sym q) (its_resumed b c w standing answers (later_query (w.gate.session c).later) p refl a))
    (λ (q : d ≢ c). other_resumed b c w d standing answers (later_query (w.gate.session d).later) p q a)
    (cases_eq d c)

-- ---- a reader is done

other_told : (b : Bool) (c : ℕ) (w : Node) (d : ℕ) (s : Statement) (o : Option Reply) (p : Option Handled) → d ≢ c → Pending b c (w.gate.session c) (w.trail c) p → Next b c w (read_by w d s o) p []
other_told b c w d s None p n a = silent b c w w p refl refl refl a
other_told b c w d s (Some r) p n a = quiet b c w (read_by w d s (Some r)) p (said_read w d s r ∷ []) refl (to_other c (said_read w d s r) [] n) (undue_other c w d n) (cond-false (c == d) (read_trail (w.trail d)) (w.trail c) (off c d n)) a

one_if : (r : Reply) (s : Statement) → OneIfRows r (s ∷ [])
one_if (Refusal cause) s = tt
one_if (Single response) s = tt
one_if (Rows answer) s = refl

its_told : (b : Bool) (c : ℕ) (w : Node) (h : Handled) (s : Statement) (o : Option Reply) → (d : Deferred b (w.gate.session c) h) → AsksFor b (w.gate.session c).tx h s → Next b c w (read_by w c s o) (Some h) []
its_told b c w h s None d asks = silent b c w w (Some h) refl refl refl (inr d)
its_told b c w h s (Some r) d asks = record {
  more = said_read w c s r ∷ [];
  said = refl;
  after = None;
  pending = (ap (λ (x : Session). x.flight) (undue_here w c) ∙ d.free, ap (λ (x : Session). x.later) (undue_here w c));
  paired = pair_one b c (said_read w c s r) h refl (λ y. let x = asks y in record { query = its_query h r (w.gate.session c).database (w.trail c).at [] (s ∷ []) (w.trail c).seen (sym x.1) x.2 (one_if r s); commit = tt });
}

its_read : (b : Bool) (c : ℕ) (w : Node) (answers : List Answer) (o : Option Statement) (p : Option Handled) → lent_query (w.gate.session c).later ≡ o → Pending b c (w.gate.session c) (w.trail c) p → Next b c w (read w c answers o) p []
its_read b c w answers None p is a = silent b c w w p refl refl refl a
its_read b c w answers (Some s) None is a = absurd (some_other (ap lent_query a.1) is)
its_read b c w answers (Some s) (Some h) is (inl x) = absurd (some_other (ap lent_query x.later) is)
its_read b c w answers (Some s) (Some h) is (inr d) = its_told b c w h s (told_at w c s answers) d (λ y. let x = d.asks y in (x.0, x.1, x.2 ∙ ap (λ z. z ∷ []) (some_same (sym d.is ∙ (lent_later (w.gate.session c).later s is).1))))

other_read : (b : Bool) (c : ℕ) (w : Node) (d : ℕ) (answers : List Answer) (o : Option Statement) (p : Option Handled) → d ≢ c → Pending b c (w.gate.session c) (w.trail c) p → Next b c w (read w d answers o) p []
other_read b c w d answers None p n a = silent b c w w p refl refl refl a
other_read b c w d answers (Some s) p n a = other_told b c w d s (told_at w d s answers) p n a

done_next : (b : Bool) (c : ℕ) (w : Node) (d : ℕ) (answers : List Answer) (p : Option Handled) → Pending b c (w.gate.session c) (w.trail c) p → Next b c w (happens w (Done d answers)) p []
unfolding happens
done_next b c w d answers p a = ⊎_elim
    (λ (q : d ≡ c). subst (λ k. Next b c w (read w k answers (lent_query (w.gate.session k).later)) p []) (sym q) (its_read b c w answers (lent_query (w.gate.session c).later) p refl a))
    (λ (q : d ≢ c). other_read b c w d answers (lent_query (w.gate.session d).later) p q a)
    (cases_eq d c)

-- ---- an entry is applied

by_other : (i c d : ℕ) (t : Trail) (hung : Bool) (o : Option Flight) → d ≢ c → said_to c (said_by i d t hung o) ≡ []
by_other i c d t hung None n = refl
by_other i c d t hung (Some f) n = cond_both (f.last == i) (cond hung [] (said_landed d t f f.kind)) [] (λ l. said_to c l ≡ []) (λ e. cond_both hung [] (said_landed d t f f.kind) (λ l. said_to c l ≡ []) (λ h. refl) (λ h. landed_other f.kind)) (λ e. refl)
  where
    landed_other : (k : Kind) → said_to c (said_landed d t f k) ≡ []
    landed_other Opening = to_other c _ [] n
    landed_other (Configuring short) = to_other c _ [] n
    landed_other (Writing reply) = to_other c _ [] n
    landed_other Committing = to_other c _ [] n
    landed_other (Querying statement) = refl

module _ (i : ℕ) (trail : ℕ → Trail) (session : ℕ → Session) (c : ℕ) where
  abbrev said_at : ℕ → List Said
  said_at d = said_by i d (trail d) (session d).hung (session d).flight

  applied_out : (cs : List ℕ) → among cs c ≡ false → said_to c (said_applied i trail session cs) ≡ []
  applied_out [] e = refl
  applied_out (d ∷ cs) e =
      let p = or_parts (d == c) (among cs c) e in
      said_to_append c (said_at d) (said_applied i trail session cs)
      ∙ ap (λ l. l ++ said_to c (said_applied i trail session cs)) (by_other i c d (trail d) (session d).hung (session d).flight (λ q. true≢false (sym (eq-eqb d c q) ∙ p.0)))
      ∙ applied_out cs p.1

  applied_in : (cs : List ℕ) → Once cs → among cs c ≡ true → said_to c (said_applied i trail session cs) ≡ said_to c (said_at c)
  applied_in [] o e = absurd (true≢false (sym e))
  applied_in (d ∷ cs) o e = said_to_append c (said_at d) (said_applied i trail session cs) ∙ ⊎_elim
      (λ (q : d ≡ c).
      ap (λ l. said_to c (said_at d) ++ l) (applied_out cs (subst (λ k. among cs k ≡ false) q o.0))
      ∙ append-nil (said_to c (said_at d))
      ∙ ap (λ k. said_to c (said_at k)) q)
      (λ (q : d ≢ c).
      ap (λ l. l ++ said_to c (said_applied i trail session cs)) (by_other i c d (trail d) (session d).hung (session d).flight q)
      ∙ applied_in cs o.1 (⊎_elim (λ (r : (d == c) ≡ true). absurd (q (eqb-true d c r))) (λ (r : among cs c ≡ true). r) (or_cases (d == c) (among cs c) e)))
      (cases_eq d c)

  applied_none : (cs : List ℕ) → said_at c ≡ [] → said_to c (said_applied i trail session cs) ≡ []
  applied_none [] e = refl
  applied_none (d ∷ cs) e = said_to_append c (said_at d) (said_applied i trail session cs) ∙ ap (λ l. said_to c (said_at d) ++ l) (applied_none cs e) ∙ append-nil (said_to c (said_at d)) ∙ ⊎_elim
      (λ (q : d ≡ c). ap (λ k. said_to c (said_at k)) q ∙ ap (said_to c) e)
      (λ (q : d ≢ c). by_other i c d (trail d) (session d).hung (session d).flight q)
      (cases_eq d c)

-- what a proposal leads to when it lands
record Landed (b : Bool) (c : ℕ) (s : Session) (t u : Trail) (h : Handled) (f : Flight) (k : Kind) : Type 0 where
  after : Option Handled
  pending : Pending b c (landed s f k) u after
  paired : Paired b (said_to c (said_landed c t f k)) (h ∷ []) (owed_by after)

landed_next : (b : Bool) (c : ℕ) (s : Session) (t u : Trail) (h : Handled) (f : Flight) (k : Kind) → LandsFor b c s.tx t h f k → s.later ≡ None → s.hung ≡ false → Landed b c s t u h f k
landed_next b c s t u h f Opening reply rest here = record { after = None; pending = (refl, rest); paired = pair_one b c _ h refl reply.0 }
landed_next b c s t u h f (Configuring short) reply rest here = record { after = None; pending = (refl, rest); paired = pair_one b c _ h refl reply.0 }
landed_next b c s t u h f (Writing r) reply rest here = record { after = None; pending = (refl, rest); paired = pair_one b c _ h refl reply.0 }
landed_next b c s t u h f Committing reply rest here = record { after = None; pending = (refl, rest); paired = pair_one b c _ h refl reply.0 }
landed_next b c s t u h f (Querying statement) reply rest here = record { after = Some h; pending = inr (record { statement = statement; is = refl; free = refl; here = here; asks = reply }); paired = refl }

apply_next : (b : Bool) (mean : Meaning) (c : ℕ) (w : Node) (p : Option Handled) → NodeOk mean w → Pending b c (w.gate.session c) (w.trail c) p → Next b c w (happens w Apply) p []
unfolding happens on_applied tidy
apply_next b mean c w p a wait = by p wait
  where
    i : ℕ
    i = suc w.applied

    s : Session
    s = w.gate.session c

    t : Trail
    t = w.trail c

    all : List Said
    all = said_applied (suc w.applied) w.trail w.gate.session w.gate.conns

    -- with nothing pending, nothing changes
    still : (q : Option Handled) → (w.gate.session c).flight ≡ None → Pending b c (w.gate.session c) (w.trail c) q → Next b c w (happens w Apply) q []
    still q none x = quiet b c w (happens w Apply) q all refl
        (applied_none (suc w.applied) w.trail w.gate.session c w.gate.conns (ap (said_by (suc w.applied) c (w.trail c) (w.gate.session c).hung) none))
        (ap (settled_by (suc w.applied) (w.gate.session c)) none)
        (ap (trail_by (suc w.applied) (w.trail c)) none)
        x

    lands : (h : Handled) → Waiting b c (w.gate.session c) (w.trail c) h → Next b c w (happens w Apply) (Some h) []
    lands h x =
        let f = x.flight in
        let to = applied_in i w.trail w.gate.session c w.gate.conns a.sole.once (there_of mean w c f a x.is) ∙ ap (λ o. said_to c (said_by i c t s.hung o)) x.is in
        ⊎_elim
        (λ (e : (f.last == i) ≡ true).
        let one : said_by i c t s.hung (Some f) ≡ said_landed c t f f.kind = cond-true (f.last == i) (cond s.hung [] (said_landed c t f f.kind)) [] e ∙ cond-false s.hung [] (said_landed c t f f.kind) x.here in
        let settles : settled_by i s s.flight ≡ landed s f f.kind = ap (settled_by i s) x.is ∙ cond-true (f.last == i) (cond s.hung absent (landed s f f.kind)) s e ∙ cond-false s.hung absent (landed s f f.kind) x.here in
        let y = landed_next b c s t (trail_by i t s.flight) h f f.kind x.reply x.later x.here in
        record {
          more = all;
          said = refl;
          after = y.after;
          pending = subst (λ z. Pending b c z (trail_by i t s.flight) y.after) (sym settles) y.pending;
          paired = subst (λ l. Paired b l (h ∷ []) (owed_by y.after)) (sym (to ∙ ap (said_to c) one)) y.paired;
        })
        (λ (e : (f.last == i) ≡ false).
        let none : said_by i c t s.hung (Some f) ≡ [] = cond-false (f.last == i) (cond s.hung [] (said_landed c t f f.kind)) [] e in
        let settles : settled_by i s s.flight ≡ s = ap (settled_by i s) x.is ∙ cond-false (f.last == i) (cond s.hung absent (landed s f f.kind)) s e in
        let trails : trail_by i t s.flight ≡ t = ap (trail_by i t) x.is ∙ cond-false (f.last == i) (landed_trail i t f.kind) t e in
        quiet b c w (happens w Apply) (Some h) all refl (to ∙ ap (said_to c) none) settles trails (inl x))
        (cases_Bool (f.last == i))

    by : (q : Option Handled) → Pending b c (w.gate.session c) (w.trail c) q → Next b c w (happens w Apply) q []
    by None x = still None x.0 x
    by (Some h) (inl x) = lands h x
    by (Some h) (inr x) = still (Some h) x.free (inr x)

-- ---- leadership is lost

-- how many times a number is among these
abbrev hits : ℕ → List ℕ → ℕ
hits c [] = 0
hits c (d ∷ ds) = cond (d == c) (suc (hits c ds)) (hits c ds)

hits_placed : (key : ℕ → ℕ) (c x : ℕ) (ds : List ℕ) → hits c (placed key x ds) ≡ hits c (x ∷ ds)
hits_placed key c x [] = refl
hits_placed key c x (d ∷ ds) = cond_both (nat_le (key x) (key d)) (x ∷ d ∷ ds) (d ∷ placed key x ds) (λ l. hits c l ≡ hits c (x ∷ d ∷ ds)) (λ e. refl)
    (λ e. ap (λ n. cond (d == c) (suc n) n) (hits_placed key c x ds) ∙ by (d == c) (x == c) (hits c ds))
  where
    by : (a b : Bool) (n : ℕ) → cond a (suc (cond b (suc n) n)) (cond b (suc n) n) ≡ cond b (suc (cond a (suc n) n)) (cond a (suc n) n)
    by true true n = refl
    by true false n = refl
    by false true n = refl
    by false false n = refl

hits_ordered : (key : ℕ → ℕ) (c : ℕ) (ds : List ℕ) → hits c (ordered key ds) ≡ hits c ds
hits_ordered key c [] = refl
hits_ordered key c (d ∷ ds) = hits_placed key c d (ordered key ds) ∙ ap (λ n. cond (d == c) (suc n) n) (hits_ordered key c ds)

hits_filter : (f : ℕ → Bool) (c : ℕ) (ds : List ℕ) → hits c (filter f ds) ≡ cond (f c) (hits c ds) 0
hits_filter f c [] = sym (both (f c))
  where
    both : (b : Bool) → cond b zero zero ≡ zero
    both true = refl
    both false = refl
hits_filter f c (d ∷ ds) = ⊎_elim
    (λ (q : d ≡ c). subst (λ k. hits k (filter f (d ∷ ds)) ≡ cond (f k) (hits k (d ∷ ds)) 0) q (own (f d) refl (hits_filter f d ds)))
    (λ (q : d ≢ c). cond_both (f d) (d ∷ filter f ds) (filter f ds) (λ l. hits c l ≡ cond (f c) (hits c (d ∷ ds)) 0)
    (λ e. cond-false (d == c) (suc (hits c (filter f ds))) (hits c (filter f ds)) (ne_eqb d c q) ∙ hits_filter f c ds ∙ ap (λ n. cond (f c) n 0) (sym (cond-false (d == c) (suc (hits c ds)) (hits c ds) (ne_eqb d c q))))
    (λ e. hits_filter f c ds ∙ ap (λ n. cond (f c) n 0) (sym (cond-false (d == c) (suc (hits c ds)) (hits c ds) (ne_eqb d c q)))))
    (cases_eq d c)
  where
    own : (b : Bool) → f d ≡ b → hits d (filter f ds) ≡ cond (f d) (hits d ds) 0 → hits d (cond b (d ∷ filter f ds) (filter f ds)) ≡ cond b (hits d (d ∷ ds)) 0
    own true e so = ap (λ n. cond (d == d) (suc n) n) (so ∙ cond-true (f d) (hits d ds) 0 e)
    own false e so = so ∙ cond-false (f d) (hits d ds) 0 e

hits_out : (c : ℕ) (ds : List ℕ) → among ds c ≡ false → hits c ds ≡ 0
hits_out c [] e = refl
hits_out c (d ∷ ds) e = let p = or_parts (d == c) (among ds c) e in cond-false (d == c) (suc (hits c ds)) (hits c ds) p.0 ∙ hits_out c ds p.1

hits_once : (c : ℕ) (ds : List ℕ) → Once ds → among ds c ≡ true → hits c ds ≡ 1
hits_once c [] o e = absurd (true≢false (sym e))
hits_once c (d ∷ ds) o e = ⊎_elim
    (λ (q : d ≡ c). cond-true (d == c) (suc (hits c ds)) (hits c ds) (eq-eqb d c q) ∙ ap suc (hits_out c ds (subst (λ k. among ds k ≡ false) q o.0)))
    (λ (q : d ≢ c). cond-false (d == c) (suc (hits c ds)) (hits c ds) (ne_eqb d c q) ∙ hits_once c ds o.1 (⊎_elim (λ (r : (d == c) ≡ true). absurd (q (eqb-true d c r))) (λ (r : among ds c ≡ true). r) (or_cases (d == c) (among ds c) e)))
    (cases_eq d c)

-- this many refusals
abbrev copies : ℕ → ℕ → List Said
copies c zero = []
copies c (suc n) = tells c (Refusal LeadershipLost) ∷ copies c n

told_hits : (c : ℕ) (ds : List ℕ) → said_to c (told_all (map (λ (d : ℕ). (d, Refusal LeadershipLost)) ds)) ≡ copies c (hits c ds)
told_hits c [] = refl
told_hits c (d ∷ ds) = ⊎_elim
    (λ (q : d ≡ c).
    to_it c (tells d (Refusal LeadershipLost)) _ q
    ∙ ap (λ l. tells d (Refusal LeadershipLost) ∷ l) (told_hits c ds)
    ∙ ap (λ k. tells k (Refusal LeadershipLost) ∷ copies c (hits c ds)) q
    ∙ ap (copies c) (sym (cond-true (d == c) (suc (hits c ds)) (hits c ds) (eq-eqb d c q))))
    (λ (q : d ≢ c). to_other c (tells d (Refusal LeadershipLost)) _ q ∙ told_hits c ds ∙ ap (copies c) (sym (cond-false (d == c) (suc (hits c ds)) (hits c ds) (ne_eqb d c q))))
    (cases_eq d c)

-- what is left of a session that isn't hung up
lost_is : (s : Session) → s.hung ≡ false → lost s ≡ with_lost (with_later (with_flight (with_tx s None) None) (still_lent s.later)) (loses s)
lost_is s e = cond-false s.hung absent (with_lost (with_later (with_flight (with_tx s None) None) (still_lent s.later)) (loses s)) e

lost_none : (s : Session) → still_lent s.later ≡ None → (lost s).later ≡ None
lost_none s e = cond_both s.hung absent (with_lost (with_later (with_flight (with_tx s None) None) (still_lent s.later)) (loses s)) (λ x. x.later ≡ None) (λ h. refl) (λ h. e)

lose_next : (b : Bool) (mean : Meaning) (c : ℕ) (w : Node) (term : ℕ) (p : Option Handled) → NodeOk mean w → Pending b c (w.gate.session c) (w.trail c) p → Next b c w (happens w (Lose term)) p []
unfolding happens on_lost told_lost tidy
lose_next b mean c w term p a wait = by p wait
  where
    f : ℕ → Bool
    f d = waits (w.gate.session d)

    told : (n : ℕ) → cond (f c) (hits c w.gate.conns) 0 ≡ n → said_to c (told_all (told_lost w.gate)) ≡ copies c n
    told n e = told_hits c (ordered (λ d. last_of (w.gate.session d).flight) (filter f w.gate.conns)) ∙ ap (copies c) (hits_ordered (λ d. last_of (w.gate.session d).flight) c (filter f w.gate.conns) ∙ hits_filter f c w.gate.conns ∙ e)

    -- a client that waits for nothing that is lost is sent nothing
    none_told : is_none (w.gate.session c).flight ≡ true → is_due (w.gate.session c).later ≡ false → said_to c (told_all (told_lost w.gate)) ≡ []
    none_told e d = told 0 (cond-false (f c) (hits c w.gate.conns) 0 (and_right (not (w.gate.session c).hung) (is_flying (w.gate.session c) || is_due (w.gate.session c).later) (ap (λ z. not z || is_due (w.gate.session c).later) e ∙ d)))

    -- one that waits is told once
    one_told : (h : Handled) → f c ≡ true → among w.gate.conns c ≡ true → Paired b (said_to c (told_all (told_lost w.gate))) (h ∷ []) []
    one_told h e m = subst (λ l. Paired b l (h ∷ []) []) (sym (told 1 (cond-true (f c) (hits c w.gate.conns) 0 e ∙ hits_once c w.gate.conns a.sole.once m))) ((λ y. record { query = tt; commit = tt }), refl)

    ends : (h : Handled) → still_lent (w.gate.session c).later ≡ None → f c ≡ true → among w.gate.conns c ≡ true → Next b c w (happens w (Lose term)) (Some h) []
    ends h e g m = record { more = told_all (told_lost w.gate); said = refl; after = None; pending = ((lost_bare (w.gate.session c)).flight, lost_none (w.gate.session c) e); paired = one_told h g m }

    deferred : (h : Handled) (x : Deferred b (w.gate.session c) h) (d : Option Later) → (w.gate.session c).later ≡ d → Next b c w (happens w (Lose term)) (Some h) []
    deferred h x None e = absurd (some_other (ap later_query e) x.is)
    deferred h x (Some (Due s)) e = ends h (ap still_lent e) (waits_due (w.gate.session c) (ap is_due e) x.here) (there_due mean w c a (ap is_due e))
    deferred h x (Some (Lent s)) e =
        let l = lost_is (w.gate.session c) x.here in
        record {
          more = told_all (told_lost w.gate);
          said = refl;
          after = Some h;
          pending = inr (record {
            statement = x.statement;
            is = ap (λ (z : Session). later_query z.later) l ∙ ap (λ z. later_query (still_lent z)) e ∙ sym (ap later_query e) ∙ x.is;
            free = ap (λ (z : Session). z.flight) l;
            here = ap (λ (z : Session). z.hung) l ∙ x.here;
            asks = λ y. let z = x.asks y in (ap (λ (q : Session). q.tx) l, z.1, z.2);
          });
          paired = subst (λ l. Paired b l (h ∷ []) (h ∷ [])) (sym (none_told (ap is_none x.free) (ap is_due e))) refl;
        }

    by : (q : Option Handled) → Pending b c (w.gate.session c) (w.trail c) q → Next b c w (happens w (Lose term)) q []
    by None x = record {
      more = told_all (told_lost w.gate);
      said = refl;
      after = None;
      pending = ((lost_bare (w.gate.session c)).flight, lost_none (w.gate.session c) (ap still_lent x.1));
      paired = subst (λ l. Paired b l [] []) (sym (none_told (ap is_none x.0) (ap is_due x.1))) refl;
    }
    by (Some h) (inl x) = ends h (ap still_lent x.later) (waits_for (w.gate.session c) x.flight x.is x.here) (there_of mean w c x.flight a x.is)
    by (Some h) (inr x) = deferred h x (w.gate.session c).later refl

-- ---- events

none_some : {A : Type 0} {x : A} {o : Option A} → o ≡ None → o ≡ Some x → ⊥
none_some a b = cc

asking : (s : Session) → may_ask s ≡ true → (s.hung ≡ false) × (s.flight ≡ None) × (s.later ≡ None)
unfolding may_ask
asking s e =
    let q = and_parts (s.there && not s.hung && is_none s.flight) (is_none s.later) e in
    let p = and_parts (s.there && not s.hung) (is_none s.flight) q.0 in
    (not-true s.hung (and_parts s.there (not s.hung) p.0).1, none_is s.flight p.1, none_is s.later q.1)

call_next : (b : Bool) (c : ℕ) (w : Node) (d : ℕ) (standing : Standing) (r : Request) (answers : List Answer) (p : Option Handled) → Pending b c (w.gate.session c) (w.trail c) p → Next b c w (happens w (Call d standing r answers)) p (handled_by c w (Call d standing r answers))
unfolding happens
call_next b c w d standing r answers p a =
    cond_both (may_ask (w.gate.session d)) (called w d (outcome w d standing r answers)) w (λ v. Next b c w v p (handled_by c w (Call d standing r answers)))
    (λ e. subst (Next b c w (called w d (outcome w d standing r answers)) p) (sym (ap (λ z. cond (d == c && (z && comes (outcome w d standing r answers))) (asks d ∷ []) []) e)) (asked e))
    (λ e. subst (Next b c w w p) (sym (ap (λ z. cond (d == c && (z && comes (outcome w d standing r answers))) (asks d ∷ []) []) e ∙ ap (λ z. cond z (asks d ∷ []) []) (and_right (d == c) false refl))) (silent b c w w p refl refl refl a))
  where
    asks : ℕ → Handled
    asks k = request_of w k r (asks_for w k standing r)

    own : (p : Option Handled) → Pending b c (w.gate.session c) (w.trail c) p → may_ask (w.gate.session c) ≡ true → Next b c w (called w c (outcome w c standing r answers)) p (cond (comes (outcome w c standing r answers)) (asks c ∷ []) [])
    own None none e = own_called b w c (asks c) (asks_for w c standing r) (handed (view_of w standing) (databases w) w.gate c r) (outcome w c standing r answers) (λ y. (refl, refl)) none.0 none.1 (asking (w.gate.session c) e).0 (request_turns (view_of w standing) (databases w) w.gate c r answers) (notes_tell_hold (view_of w standing) (databases w) w.gate c r answers) (request_owns (view_of w standing) (databases w) w.gate c r answers)
    own (Some h) (inl x) e = absurd (none_some (asking (w.gate.session c) e).1 x.is)
    own (Some h) (inr x) e = absurd (none_some (ap later_query (asking (w.gate.session c) e).2) x.is)

    asked : may_ask (w.gate.session d) ≡ true → Next b c w (called w d (outcome w d standing r answers)) p (cond (d == c && comes (outcome w d standing r answers)) (asks d ∷ []) [])
    asked e = ⊎_elim
        (λ (q : d ≡ c).
        subst (λ k. Next b c w (called w k (outcome w k standing r answers)) p (cond (k == c && comes (outcome w k standing r answers)) (asks k ∷ []) [])) (sym q)
        (subst (Next b c w (called w c (outcome w c standing r answers)) p) (sym (ap (λ z. cond (z && comes (outcome w c standing r answers)) (asks c ∷ []) []) (eq-eqb c c refl))) (own p a (subst (λ k. may_ask (w.gate.session k) ≡ true) q e))))
        (λ (q : d ≢ c). subst (Next b c w (called w d (outcome w d standing r answers)) p) (sym (ap (λ z. cond (z && comes (outcome w d standing r answers)) (asks d ∷ []) []) (ne_eqb d c q))) (other_called b c w d (outcome w d standing r answers) p q a))
        (cases_eq d c)

connect_same : (c : ℕ) (w : Node) (d : ℕ) → d ≢ c → ((happens w (Connect d)).gate.session c ≡ w.gate.session c) × ((happens w (Connect d)).trail c ≡ w.trail c) × ((happens w (Connect d)).said ≡ w.said)
unfolding happens connected
connect_same c w d n = cond_both (connects w.gate d) (joined w d) w (λ v. (v.gate.session c ≡ w.gate.session c) × (v.trail c ≡ w.trail c) × (v.said ≡ w.said))
    (λ e. (cond-false (c == d) fresh (w.gate.session c) (off c d n), cond-false (c == d) unseen (w.trail c) (off c d n), refl))
    (λ e. (refl, refl, refl))

hangup_same : (c : ℕ) (w : Node) (d : ℕ) → d ≢ c → (happens w (Hangup d)).gate.session c ≡ w.gate.session c
unfolding happens on_hangup tidy
hangup_same c w d n = cond-false (c == d) (left (w.gate.session d) (w.gate.session d).flight) (w.gate.session c) (off c d n)

pub next : (b : Bool) (mean : Meaning) (c : ℕ) (w : Node) (e : Event) (p : Option Handled) → e ≢ Connect c → e ≢ Hangup c → NodeOk mean w → Pending b c (w.gate.session c) (w.trail c) p → Next b c w (happens w e) p (handled_by c w e)
unfolding happens
next b mean c w (Connect d) p n h ok a = let x = connect_same c w d (λ q. n (ap (λ k. Connect k) q)) in silent b c w (happens w (Connect d)) p x.2 x.0 x.1 a
next b mean c w (Hangup d) p n h ok a = silent b c w (happens w (Hangup d)) p refl (hangup_same c w d (λ q. h (ap (λ k. Hangup k) q))) refl a
next b mean c w (Call d standing r answers) p n h ok a = call_next b c w d standing r answers p a
next b mean c w (Resume d standing answers) p n h ok a = resume_next b c w d standing answers p a
next b mean c w (Done d answers) p n h ok a = done_next b c w d answers p a
next b mean c w Apply p n h ok a = apply_next b mean c w p ok a
next b mean c w (Lose t) p n h ok a = lose_next b mean c w t p ok a
next b mean c w (Lead t) p n h ok a = silent b c w (happens w (Lead t)) p refl refl refl a
next b mean c w Serve p n h ok a = silent b c w (happens w Serve) p refl refl refl a
next b mean c w (Append contents) p n h ok a = silent b c w (happens w (Append contents)) p refl refl refl a
next b mean c w (Follow es) p n h ok a = silent b c w (happens w (Follow es)) p refl refl refl a

-- ---- what is open was open

-- the connection was open before the event, and wasn't hung up
record Was (c : ℕ) (w : Node) (e : Event) : Type 0 where
  open_then : IsOpen (w.gate.session c)
  stays : e ≢ Hangup c

as_it_was : (c : ℕ) (w : Node) (e : Event) (s : Session) → s ≡ w.gate.session c → e ≢ Hangup c → IsOpen s → Was c w e
as_it_was c w e s q n o = record { open_then = subst IsOpen q o; stays = n }

left_shut : (s : Session) (o : Option Flight) → IsOpen (left s o) → ⊥
left_shut s None o = true≢false (sym o.there)
left_shut s (Some f) o = true≢false o.here

settled_open : (i : ℕ) (s : Session) (o : Option Flight) → IsOpen (settled_by i s o) → IsOpen s
settled_open i s None a = a
settled_open i s (Some f) a = cond_both (f.last == i) (cond s.hung absent (landed s f f.kind)) s (λ x. IsOpen x → IsOpen s)
    (λ e. cond_both s.hung absent (landed s f f.kind) (λ x. IsOpen x → IsOpen s) (λ h b. absurd (true≢false (sym b.there))) (λ h b. landed_open f.kind b))
    (λ e b. b) a
  where
    landed_open : (k : Kind) → IsOpen (landed s f k) → IsOpen s
    landed_open Opening b = record { there = b.there; here = b.here }
    landed_open (Configuring short) b = record { there = b.there; here = b.here }
    landed_open (Writing reply) b = record { there = b.there; here = b.here }
    landed_open Committing b = record { there = b.there; here = b.here }
    landed_open (Querying statement) b = record { there = b.there; here = b.here }

lost_open : (s : Session) → IsOpen (lost s) → IsOpen s
lost_open s a = record { there = lost_there s a.there; here = cond_both s.hung absent _ (λ x. x.there ≡ true → s.hung ≡ false) (λ h e. absurd (true≢false (sym e))) (λ h e. h) a.there }

called_open : (c : ℕ) (w : Node) (d : ℕ) (own : List Statement) (t : Turned) → TurnedOk own (w.gate.session d) t → IsOpen ((called w d t).gate.session c) → IsOpen (w.gate.session c)
called_open c w d asks t ok a = ⊎_elim
    (λ (q : d ≡ c). subst (λ k. TurnedOk asks (w.gate.session k) t → IsOpen ((called w k t).gate.session c) → IsOpen (w.gate.session c)) (sym q) (own t) ok a)
    (λ (q : d ≢ c). other t q a)
    (cases_eq d c)
  where
    other : (t : Turned) → d ≢ c → IsOpen ((called w d t).gate.session c) → IsOpen (w.gate.session c)
    other (Refused cause) n b = b
    other Lacks n b = b
    other (Answers s r note) n b = subst IsOpen (with_same w.gate c d s n) b
    other (Proposes s contents note) n b = subst IsOpen (with_same w.gate c d s n) b
    other (Lends s job) n b = subst IsOpen (with_same w.gate c d s n) b
    other (Affects effect) n b = subst IsOpen (effect_same w.gate effect c) b

    own : (t : Turned) → TurnedOk asks (w.gate.session c) t → IsOpen ((called w c t).gate.session c) → IsOpen (w.gate.session c)
    own (Refused cause) x b = b
    own Lacks x b = b
    own (Answers s r note) x b = let o = subst IsOpen (with_here w.gate c s) b in record { there = sym x.still.there ∙ o.there; here = sym x.still.hung ∙ o.here }
    own (Proposes s contents note) x b = let o = subst IsOpen (with_here w.gate c s) b in record { there = sym x.still.there ∙ o.there; here = sym x.still.hung ∙ o.here }
    own (Lends s job) x b = let o = subst IsOpen (with_here w.gate c s) b in record { there = sym x.still.there ∙ o.there; here = sym x.still.hung ∙ o.here }
    own (Affects effect) x b = subst IsOpen (effect_same w.gate effect c) b

undue_open : (c : ℕ) (w : Node) (d : ℕ) → IsOpen ((undue w d).gate.session c) → IsOpen (w.gate.session c)
undue_open c w d a = ⊎_elim
    (λ (q : d ≡ c). let o = subst IsOpen (undue_here w c) (subst (λ k. IsOpen ((undue w k).gate.session c)) q a) in record { there = o.there; here = o.here })
    (λ (q : d ≢ c). subst IsOpen (undue_other c w d q) a)
    (cases_eq d c)

resumed_open : (c : ℕ) (w : Node) (d : ℕ) (standing : Standing) (answers : List Answer) (o : Option Statement) → IsOpen ((resumed w d standing answers o).gate.session c) → IsOpen (w.gate.session c)
resumed_open c w d standing answers None a = a
resumed_open c w d standing answers (Some s) a =
    let t = outcome_later w d standing s answers in
    resumed_both (λ v. IsOpen (v.gate.session c) → IsOpen (w.gate.session c)) w d t (λ b. b)
    (λ b. undue_open c w d (called_open c (undue w d) d (s ∷ []) t (later_turns (view_of w standing) (databases w) (undue w d).gate d s answers) b)) a

told_open : (c : ℕ) (w : Node) (d : ℕ) (s : Statement) (o : Option Reply) → IsOpen ((read_by w d s o).gate.session c) → IsOpen (w.gate.session c)
told_open c w d s None a = a
told_open c w d s (Some r) a = undue_open c w d a

read_open : (c : ℕ) (w : Node) (d : ℕ) (answers : List Answer) (o : Option Statement) → IsOpen ((read w d answers o).gate.session c) → IsOpen (w.gate.session c)
read_open c w d answers None a = a
read_open c w d answers (Some s) a = told_open c w d s (told_at w d s answers) a

was_open : (c : ℕ) (w : Node) (e : Event) → e ≢ Connect c → IsOpen ((happens w e).gate.session c) → Was c w e
unfolding happens on_applied on_lost on_hangup tidy
was_open c w (Connect d) n a = as_it_was c w (Connect d) _ (connect_same c w d (λ q. n (ap (λ k. Connect k) q))).0 (λ q. cc) a
was_open c w (Hangup d) n a = ⊎_elim
    (λ (q : d ≡ c). absurd (left_shut (w.gate.session c) (w.gate.session c).flight (subst (λ k. IsOpen (cond (c == k) (left (w.gate.session k) (w.gate.session k).flight) (w.gate.session c)) → IsOpen (left (w.gate.session c) (w.gate.session c).flight)) (sym q) (λ b. subst IsOpen (cond-true (c == c) (left (w.gate.session c) (w.gate.session c).flight) (w.gate.session c) (eq-eqb c c refl)) b) a)))
    (λ (q : d ≢ c). as_it_was c w (Hangup d) _ (hangup_same c w d q) (λ z. q (same_hangup z)) a)
    (cases_eq d c)
  where
    same_hangup : Hangup d ≡ Hangup c → d ≡ c
    same_hangup z = cc
was_open c w (Call d standing r answers) n a = record {
  open_then = cond_both (may_ask (w.gate.session d)) (called w d (outcome w d standing r answers)) w (λ v. IsOpen (v.gate.session c) → IsOpen (w.gate.session c)) (λ e b. called_open c w d (asks_for w d standing r) (outcome w d standing r answers) (request_turns (view_of w standing) (databases w) w.gate d r answers) b) (λ e b. b) a;
  stays = λ q. cc;
}
was_open c w (Resume d standing answers) n a = record { open_then = resumed_open c w d standing answers (later_query (w.gate.session d).later) a; stays = λ q. cc }
was_open c w (Done d answers) n a = record { open_then = read_open c w d answers (lent_query (w.gate.session d).later) a; stays = λ q. cc }
was_open c w Apply n a = record { open_then = settled_open (suc w.applied) (w.gate.session c) (w.gate.session c).flight a; stays = λ q. cc }
was_open c w (Lose t) n a = record { open_then = lost_open (w.gate.session c) a; stays = λ q. cc }
was_open c w (Lead t) n a = record { open_then = a; stays = λ q. cc }
was_open c w Serve n a = record { open_then = a; stays = λ q. cc }
was_open c w (Append contents) n a = record { open_then = a; stays = λ q. cc }
was_open c w (Follow es) n a = record { open_then = a; stays = λ q. cc }

pub open_back : (c : ℕ) (w : Node) (es : List Event) → NoneComes c es → IsOpen ((run_from w es).gate.session c) → IsOpen (w.gate.session c)
open_back c w [] n a = a
open_back c w (e ∷ es) n a = (was_open c w e n.0 (open_back c (happens w e) es n.1 a)).open_then

-- ---- all events

-- from one moment to another
pub record Long (b : Bool) (c : ℕ) (w : Node) (es : List Event) (p : Option Handled) : Type 0 where
  pub more : List Said
  pub said : (run_from w es).said ≡ w.said ++ more
  pub after : Option Handled
  pub pending : Pending b c ((run_from w es).gate.session c) ((run_from w es).trail c) after
  pub paired : Paired b (said_to c more) (owed_by p ++ handled_in c w es) (owed_by after)

-- the invariant at each of these events
pub record AllOk (mean : Meaning) (w : Node) (es : List Event) : Type 0 where
  pub at : (k : ℕ) (fs gs : List Event) → es ≡ fs ++ gs → NodeOk mean (run_from w fs)

pub ok_rest : (mean : Meaning) (w : Node) (e : Event) (es : List Event) → AllOk mean w (e ∷ es) → AllOk mean (happens w e) es
ok_rest mean w e es a = record { at = λ k fs gs q. a.at k (e ∷ fs) gs (ap (λ l. e ∷ l) q) }

pub fit_ok : (mean : Meaning) (kind : EngineKind) (w : Node) (es : List Event) → AllFit mean kind w es → NodeOk mean w → AllOk mean w es
fit_ok mean kind w es h a = record { at = λ k fs gs q. run_ok mean kind w fs (fit_parts mean kind w fs gs (subst (AllFit mean kind w) q h)).0 a }

pub long : (b : Bool) (mean : Meaning) (c : ℕ) (w : Node) (es : List Event) (p : Option Handled) → AllOk mean w es → NoneComes c es → IsOpen ((run_from w es).gate.session c) → Pending b c (w.gate.session c) (w.trail c) p → Long b c w es p
long b mean c w [] p ok n o a = record { more = []; said = sym (append-nil w.said); after = p; pending = a; paired = append-nil (owed_by p) }
long b mean c w (e ∷ es) p ok n o a =
    let was = was_open c w e n.0 (open_back c (happens w e) es n.1 o) in
    let x = next b mean c w e p n.0 was.stays (ok.at 0 [] (e ∷ es) refl) a in
    let y = long b mean c (happens w e) es x.after (ok_rest mean w e es ok) n.1 o x.pending in
    record {
      more = x.more ++ y.more;
      said = y.said ∙ ap (λ l. l ++ y.more) x.said ∙ append_assoc w.said x.more y.more;
      after = y.after;
      pending = y.pending;
      paired =
          subst (λ l. Paired b l (owed_by p ++ (handled_by c w e ++ handled_in c (happens w e) es)) (owed_by y.after)) (sym (said_to_append c x.more y.more))
          (subst (λ l. Paired b (said_to c x.more ++ said_to c y.more) l (owed_by y.after)) (append_assoc (owed_by p) (handled_by c w e) (handled_in c (happens w e) es))
          (pairs_append b (said_to c x.more) (said_to c y.more) (owed_by p ++ handled_by c w e) (handled_in c (happens w e) es) (owed_by x.after) (owed_by y.after) x.paired y.paired));
    }

pub owes_by : (b : Bool) (c : ℕ) (s : Session) (t : Trail) (p : Option Handled) → Pending b c s t p → Owes s (owed_by p)
owes_by b c s t None a = not_busy s a.0 a.1
owes_by b c s t (Some h) (inl x) = or_left (is_flying s) (not (is_none s.later)) (ap (λ (o : Option Flight). not (is_none o)) x.is)
owes_by b c s t (Some h) (inr x) = or_right (is_flying s) (not (is_none s.later)) (some_later s.later x.is)
  where
    some_later : (d : Option Later) → later_query d ≡ Some x.statement → not (is_none d) ≡ true
    some_later None e = absurd (some_other refl e)
    some_later (Some l) e = refl

-- nothing waits for its answer
pub free_of : (s : Session) → is_busy s ≡ false → (s.flight ≡ None) × (s.later ≡ None)
free_of s e = let p = or_parts (is_flying s) (not (is_none s.later)) e in (none_is s.flight (not-false (is_none s.flight) p.0), none_is s.later (not-false (is_none s.later) p.1))

pub replies_to : (mean : Meaning) (c : ℕ) (w : Node) (es : List Event) → AllOk mean w es → NoneComes c es → IsOpen ((run_from w es).gate.session c) → is_busy (w.gate.session c) ≡ false → RepliesTo c w es
replies_to mean c w es ok n o free =
    let x = long true mean c w es None ok n o (free_of (w.gate.session c) free) in
    record { more = x.more; said = x.said; owed = owed_by x.after; paired = surely (said_to c x.more) (handled_in c w es) (owed_by x.after) x.paired; owes = owes_by true c ((run_from w es).gate.session c) ((run_from w es).trail c) x.after x.pending }

pub requests_are_answered_hold : (mean : Meaning) (kind : EngineKind) → RequestsAreAnswered mean kind
requests_are_answered_hold mean kind log applied term es fs c s h n free o =
    let w = started log applied term in
    let p = fit_parts mean kind w es fs h in
    let v = run_from w es in
    replies_to mean c v fs (fit_ok mean kind v fs p.1 (run_ok mean kind w es p.0 (started_ok mean kind log applied term s.within s.woven))) n (subst (λ (u : Node). IsOpen (u.gate.session c)) (run_append w es fs) o) free

-- ---- statements of transactions

two_conds : (b : Bool) (x y z : List Statement) → (b ≡ true → x ≡ y) → cond b x z ≡ cond b y z
two_conds true x y z h = h refl
two_conds false x y z h = refl

trail_ran : (i : ℕ) (t : Trail) (o : Option Flight) → (trail_by i t o).ran ≡ t.ran
trail_ran i t None = refl
trail_ran i t (Some f) = cond_both (f.last == i) (landed_trail i t f.kind) t (λ x. x.ran ≡ t.ran) (λ e. by f.kind) (λ e. refl)
  where
    by : (k : Kind) → (landed_trail i t k).ran ≡ t.ran
    by Opening = refl
    by (Configuring short) = refl
    by (Writing reply) = refl
    by Committing = refl
    by (Querying statement) = refl

settled_in : (i : ℕ) (s : Session) (o : Option Flight) → in_tx (settled_by i s o) ≡ true → in_tx s ≡ true
settled_in i s None e = e
settled_in i s (Some f) e = cond_both (f.last == i) (cond s.hung absent (landed s f f.kind)) s (λ x. in_tx x ≡ true → in_tx s ≡ true)
    (λ p. cond_both s.hung absent (landed s f f.kind) (λ x. in_tx x ≡ true → in_tx s ≡ true) (λ q z. absurd (true≢false (sym z))) (λ q z. by f.kind z))
    (λ p z. z) e
  where
    by : (k : Kind) → in_tx (landed s f k) ≡ true → in_tx s ≡ true
    by Opening z = z
    by (Configuring short) z = z
    by (Writing reply) z = z
    by Committing z = absurd (true≢false (sym z))
    by (Querying statement) z = z

left_in : (s : Session) (o : Option Flight) → in_tx (left s o) ≡ true → in_tx s ≡ true
left_in s None e = absurd (true≢false (sym e))
left_in s (Some f) e = e

-- a transaction that is open was open, with the same statements
stays_so : (c : ℕ) (w v : Node) → (in_tx (v.gate.session c) ≡ true → in_tx (w.gate.session c) ≡ true) → (in_tx (v.gate.session c) ≡ true → (v.trail c).ran ≡ (w.trail c).ran) → transaction_ran v c ≡ cond (in_tx (v.gate.session c)) (transaction_ran w c) []
stays_so c w v i r = two_conds (in_tx (v.gate.session c)) (v.trail c).ran (transaction_ran w c) [] (λ e. r e ∙ sym (cond-true (in_tx (w.gate.session c)) (w.trail c).ran [] (i e)))

all_same : (c : ℕ) (w v : Node) → v.gate.session c ≡ w.gate.session c → v.trail c ≡ w.trail c → transaction_ran v c ≡ cond (in_tx (v.gate.session c)) (transaction_ran w c) []
all_same c w v s t = stays_so c w v (λ e. subst (λ x. in_tx x ≡ true) s e) (λ e. ap (λ (x : Trail). x.ran) t)

is_some : (o : Option Transaction) → not (is_none o) ≡ true → is_none o ≡ false
is_some o e = not-true (is_none o) e

own_ran : (w : Node) (c : ℕ) (own : List Statement) (o : Option Handed) (t : Turned) → TurnedOk own (w.gate.session c) t → TurnedTells o t → Owns own o t → transaction_ran (called w c t) c ≡ cond (in_tx ((called w c t).gate.session c)) (ran_by (transaction_ran w c) own t) []
own_ran w c own o (Refused cause) ok told owns = all_same c w (called w c (Refused cause)) refl refl
own_ran w c own o Lacks ok told owns = all_same c w w refl refl
own_ran w c own o (Lends s job) ok told owns =
    let shut : in_tx ((called w c (Lends s job)).gate.session c) ≡ false = ap in_tx (with_here w.gate c s) ∙ ap (λ (x : Option Transaction). not (is_none x)) (ok.tx ∙ ok.out) in
    stays_so c w (called w c (Lends s job)) (λ e. absurd (true≢false (sym e ∙ shut))) (λ e. absurd (true≢false (sym e ∙ shut)))
own_ran w c own o (Affects effect) ok told owns = all_same c w (called w c (Affects effect)) (effect_same w.gate effect c) refl
own_ran w c own o (Answers s r note) ok told (inr x) = absurd x
own_ran w c own o (Answers s r note) ok told (inl same) =
    two_conds (in_tx ((called w c (Answers s r note)).gate.session c)) _ (runs_on (transaction_ran w c) own note) []
    (λ e. ap (λ (x : Trail). x.ran) (cond-true (c == c) (answered_trail w.applied (w.trail c) note) (w.trail c) (eq-eqb c c refl)) ∙ by note ok.noted ok.tx told (sym (ap in_tx (with_here w.gate c s)) ∙ e))
  where
    by : (n : Note) → NoteOk (w.gate.session c).tx r n → TxAfter (w.gate.session c) s n → NoteTells o n → in_tx s ≡ true → (answered_trail w.applied (w.trail c) n).ran ≡ runs_on (transaction_ran w c) own n
    by Nothing k x t e = sym (cond-true (in_tx (w.gate.session c)) (w.trail c).ran [] (x e))
    by Began k x t e = refl
    by (Inside name ss) k x t e = ap (λ l. l ++ ss) (sym (ran_in w c k.0)) ∙ ap (λ l. transaction_ran w c ++ l) (sym (told_inside o name ss t) ∙ same)
    by (Outside name ss) k x t e = absurd (true≢false (sym e ∙ x))
own_ran w c own o (Proposes s contents note) ok told owns =
    two_conds (in_tx ((called w c (Proposes s contents note)).gate.session c)) _ (transaction_ran w c) []
    (λ e.
    let i : in_tx (w.gate.session c) ≡ true = sym (ap (λ (x : Option Transaction). not (is_none x)) ok.tx) ∙ sym (ap in_tx (with_here w.gate c s)) ∙ e in
    ap (λ (x : Trail). x.ran) (cond-true (c == c) (proposed_trail w.applied (w.trail c) note) (w.trail c) (eq-eqb c c refl)) ∙ by ok.flight.kind ok.kind i ∙ sym (cond-true (in_tx (w.gate.session c)) (w.trail c).ran [] i))
  where
    still : note ≡ Nothing → (proposed_trail w.applied (w.trail c) note).ran ≡ (w.trail c).ran
    still n = ap (λ z. (proposed_trail w.applied (w.trail c) z).ran) n

    by : (k : Kind) → KindNote own (w.gate.session c).tx k note → in_tx (w.gate.session c) ≡ true → (proposed_trail w.applied (w.trail c) note).ran ≡ (w.trail c).ran
    by Opening n i = still n
    by (Configuring short) n i = still n
    by (Writing r) n i = absurd (true≢false (sym i ∙ ap (λ (x : Option Transaction). not (is_none x)) n.0))
    by Committing n i = still n.1
    by (Querying statement) n i = still n.1

other_ran : (c : ℕ) (w : Node) (d : ℕ) (t : Turned) → d ≢ c → transaction_ran (called w d t) c ≡ cond (in_tx ((called w d t).gate.session c)) (transaction_ran w c) []
other_ran c w d (Refused cause) n = all_same c w (called w d (Refused cause)) refl refl
other_ran c w d Lacks n = all_same c w w refl refl
other_ran c w d (Answers s r note) n = all_same c w (called w d (Answers s r note)) (with_same w.gate c d s n) (cond-false (c == d) (answered_trail w.applied (w.trail d) note) (w.trail c) (off c d n))
other_ran c w d (Proposes s contents note) n = all_same c w (called w d (Proposes s contents note)) (with_same w.gate c d s n) (cond-false (c == d) (proposed_trail w.applied (w.trail d) note) (w.trail c) (off c d n))
other_ran c w d (Lends s job) n = all_same c w (called w d (Lends s job)) (with_same w.gate c d s n) (cond-false (c == d) (proposed_trail w.applied (w.trail d) (Outside job.name (job.statement ∷ []))) (w.trail c) (off c d n))
other_ran c w d (Affects effect) n = all_same c w (called w d (Affects effect)) (effect_same w.gate effect c) refl

call_ran : (c : ℕ) (w : Node) (d : ℕ) (standing : Standing) (r : Request) (answers : List Answer) → transaction_ran (happens w (Call d standing r answers)) c ≡ cond (in_tx ((happens w (Call d standing r answers)).gate.session c)) (ran_after c w (Call d standing r answers)) []
unfolding happens
call_ran c w d standing r answers = cond_both (may_ask (w.gate.session d)) (called w d (outcome w d standing r answers)) w (λ v. transaction_ran v c ≡ cond (in_tx (v.gate.session c)) (ran_after c w (Call d standing r answers)) [])
    (λ e. asked ∙ ap (λ l. cond (in_tx ((called w d (outcome w d standing r answers)).gate.session c)) l []) (sym (ap (λ b. cond (d == c && b) (ran d) (transaction_ran w c)) e ∙ ap (λ b. cond b (ran d) (transaction_ran w c)) (and_true (d == c)))))
    (λ e. all_same c w w refl refl ∙ ap (λ l. cond (in_tx (w.gate.session c)) l []) (sym (ap (λ b. cond (d == c && b) (ran d) (transaction_ran w c)) e ∙ ap (λ b. cond b (ran d) (transaction_ran w c)) (and_right (d == c) false refl))))
  where
    and_true : (b : Bool) → (b && true) ≡ b
    and_true true = refl
    and_true false = refl

    ran : ℕ → List Statement
    ran k = ran_by (transaction_ran w k) (asks_for w k standing r) (outcome w k standing r answers)

    asked : transaction_ran (called w d (outcome w d standing r answers)) c ≡ cond (in_tx ((called w d (outcome w d standing r answers)).gate.session c)) (cond (d == c) (ran d) (transaction_ran w c)) []
    asked = ⊎_elim
        (λ (q : d ≡ c).
        subst (λ k. transaction_ran (called w k (outcome w k standing r answers)) c ≡ cond (in_tx ((called w k (outcome w k standing r answers)).gate.session c)) (cond (k == c) (ran k) (transaction_ran w c)) []) (sym q)
        (own_ran w c (asks_for w c standing r) (handed (view_of w standing) (databases w) w.gate c r) (outcome w c standing r answers) (request_turns (view_of w standing) (databases w) w.gate c r answers) (notes_tell_hold (view_of w standing) (databases w) w.gate c r answers) (request_owns (view_of w standing) (databases w) w.gate c r answers)
        ∙ ap (λ l. cond (in_tx ((called w c (outcome w c standing r answers)).gate.session c)) l []) (sym (cond-true (c == c) (ran c) (transaction_ran w c) (eq-eqb c c refl)))))
        (λ (q : d ≢ c). other_ran c w d (outcome w d standing r answers) q ∙ ap (λ l. cond (in_tx ((called w d (outcome w d standing r answers)).gate.session c)) l []) (sym (cond-false (d == c) (ran d) (transaction_ran w c) (ne_eqb d c q))))
        (cases_eq d c)

-- a query that is run later than it was asked
undue_ran : (c : ℕ) (w : Node) → transaction_ran (undue w c) c ≡ transaction_ran w c
undue_ran c w = ap (λ (s : Session). cond (in_tx s) (w.trail c).ran []) (undue_here w c)

own_resumed_ran : (c : ℕ) (w : Node) (own : List Statement) (t : Turned) → transaction_ran (called (undue w c) c t) c ≡ cond (in_tx ((called (undue w c) c t).gate.session c)) (ran_by (transaction_ran (undue w c) c) own t) [] → transaction_ran (resumed_by w c t) c ≡ cond (in_tx ((resumed_by w c t).gate.session c)) (ran_by (transaction_ran w c) own t) []
own_resumed_ran c w own (Refused cause) e = e ∙ ap (λ l. cond (in_tx ((undue w c).gate.session c)) l []) (undue_ran c w)
own_resumed_ran c w own Lacks e = all_same c w w refl refl
own_resumed_ran c w own (Answers s r note) e =
    e ∙ ap (λ l. cond (in_tx ((called (undue w c) c (Answers s r note)).gate.session c)) (runs_on l own note) []) (undue_ran c w)
own_resumed_ran c w own (Proposes s contents note) e =
    e ∙ ap (λ l. cond (in_tx ((called (undue w c) c (Proposes s contents note)).gate.session c)) l []) (undue_ran c w)
own_resumed_ran c w own (Lends s job) e = e ∙ ap (λ l. cond (in_tx ((called (undue w c) c (Lends s job)).gate.session c)) l []) (undue_ran c w)
own_resumed_ran c w own (Affects effect) e = e ∙ ap (λ l. cond (in_tx ((called (undue w c) c (Affects effect)).gate.session c)) l []) (undue_ran c w)

its_resumed_ran : (c : ℕ) (w : Node) (standing : Standing) (answers : List Answer) (o : Option Statement) → transaction_ran (resumed w c standing answers o) c ≡ cond (in_tx ((resumed w c standing answers o).gate.session c)) (ran_later (transaction_ran w c) w c standing answers o) []
its_resumed_ran c w standing answers None = all_same c w w refl refl
its_resumed_ran c w standing answers (Some s) =
    let u = undue w c in
    let t = outcome_later w c standing s answers in
    own_resumed_ran c w (s ∷ []) t (own_ran u c (s ∷ []) (handed_later (view_of w standing) (databases w) u.gate c s) t (later_turns (view_of w standing) (databases w) u.gate c s answers) (laters_keep_hold (view_of w standing) (databases w) u.gate c s answers).notes (later_owns (view_of w standing) (databases w) u.gate c s answers))

other_resumed_ran : (c : ℕ) (w : Node) (d : ℕ) (standing : Standing) (answers : List Answer) (o : Option Statement) → d ≢ c → transaction_ran (resumed w d standing answers o) c ≡ cond (in_tx ((resumed w d standing answers o).gate.session c)) (transaction_ran w c) []
other_resumed_ran c w d standing answers None n = all_same c w w refl refl
other_resumed_ran c w d standing answers (Some s) n =
    let u = undue w d in
    let t = outcome_later w d standing s answers in
    let same = ap (λ (x : Session). cond (in_tx x) (w.trail c).ran []) (undue_other c w d n) in
    resumed_both (λ v. transaction_ran v c ≡ cond (in_tx (v.gate.session c)) (transaction_ran w c) []) w d t (all_same c w w refl refl)
    (other_ran c u d t n ∙ ap (λ l. cond (in_tx ((called u d t).gate.session c)) l []) same)

resume_ran : (c : ℕ) (w : Node) (d : ℕ) (standing : Standing) (answers : List Answer) → transaction_ran (happens w (Resume d standing answers)) c ≡ cond (in_tx ((happens w (Resume d standing answers)).gate.session c)) (ran_after c w (Resume d standing answers)) []
unfolding happens
resume_ran c w d standing answers =
    let o = λ (k : ℕ). later_query (w.gate.session k).later in
    let ran = λ (k : ℕ). ran_later (transaction_ran w k) w k standing answers (later_query (w.gate.session k).later) in
    ⊎_elim
    (λ (q : d ≡ c).
    subst (λ k. transaction_ran (resumed w k standing answers (later_query (w.gate.session k).later)) c ≡ cond (in_tx ((resumed w k standing answers (later_query (w.gate.session k).later)).gate.session c)) (cond (k == c) (ran k) (transaction_ran w c)) []) (sym q)
    (its_resumed_ran c w standing answers (o c) ∙ ap (λ l. cond (in_tx ((resumed w c standing answers (o c)).gate.session c)) l []) (sym (cond-true (c == c) (ran c) (transaction_ran w c) (eq-eqb c c refl)))))
    (λ (q : d ≢ c). other_resumed_ran c w d standing answers (o d) q ∙ ap (λ l. cond (in_tx ((resumed w d standing answers (o d)).gate.session c)) l []) (sym (cond-false (d == c) (ran d) (transaction_ran w c) (ne_eqb d c q))))
    (cases_eq d c)

told_ran : (c : ℕ) (w : Node) (d : ℕ) (s : Statement) (o : Option Reply) → transaction_ran (read_by w d s o) c ≡ cond (in_tx ((read_by w d s o).gate.session c)) (transaction_ran w c) []
told_ran c w d s None = all_same c w w refl refl
told_ran c w d s (Some r) = ⊎_elim
    (λ (q : d ≡ c). subst (λ k. transaction_ran (read_by w k s (Some r)) c ≡ cond (in_tx ((read_by w k s (Some r)).gate.session c)) (transaction_ran w c) []) (sym q)
    (stays_so c w (read_by w c s (Some r)) (λ e. sym (ap in_tx (undue_here w c)) ∙ e) (λ e. ap (λ (x : Trail). x.ran) (cond-true (c == c) (read_trail (w.trail c)) (w.trail c) (eq-eqb c c refl)))))
    (λ (q : d ≢ c). all_same c w (read_by w d s (Some r)) (undue_other c w d q) (cond-false (c == d) (read_trail (w.trail d)) (w.trail c) (off c d q)))
    (cases_eq d c)

read_ran : (c : ℕ) (w : Node) (d : ℕ) (answers : List Answer) (o : Option Statement) → transaction_ran (read w d answers o) c ≡ cond (in_tx ((read w d answers o).gate.session c)) (transaction_ran w c) []
read_ran c w d answers None = all_same c w w refl refl
read_ran c w d answers (Some s) = told_ran c w d s (told_at w d s answers)

connect_ran : (c : ℕ) (w : Node) (d : ℕ) → transaction_ran (happens w (Connect d)) c ≡ cond (in_tx ((happens w (Connect d)).gate.session c)) (transaction_ran w c) []
unfolding happens connected
connect_ran c w d = ⊎_elim
    (λ (q : d ≡ c). cond_both (connects w.gate d) (joined w d) w (λ v. transaction_ran v c ≡ cond (in_tx (v.gate.session c)) (transaction_ran w c) [])
    (λ e. let s = cond-true (c == d) fresh (w.gate.session c) (eq-eqb c d (sym q)) in stays_so c w (joined w d) (λ i. absurd (true≢false (sym i ∙ ap in_tx s))) (λ i. absurd (true≢false (sym i ∙ ap in_tx s))))
    (λ e. all_same c w w refl refl))
    (λ (q : d ≢ c). let x = connect_same c w d q in all_same c w (happens w (Connect d)) x.0 x.1)
    (cases_eq d c)

pub transactions_run_hold : TransactionsRun
unfolding happens on_applied on_lost on_hangup tidy
transactions_run_hold w c (Connect d) = connect_ran c w d
transactions_run_hold w c (Hangup d) = stays_so c w (happens w (Hangup d)) (λ e. hung e) (λ e. refl)
  where
    hung : in_tx (cond (c == d) (left (w.gate.session d) (w.gate.session d).flight) (w.gate.session c)) ≡ true → in_tx (w.gate.session c) ≡ true
    hung e = cond_both (c == d) (left (w.gate.session d) (w.gate.session d).flight) (w.gate.session c) (λ s. in_tx s ≡ true → in_tx (w.gate.session c) ≡ true) (λ q z. subst (λ k. in_tx (w.gate.session k) ≡ true) (sym (eqb-true c d q)) (left_in (w.gate.session d) (w.gate.session d).flight z)) (λ q z. z) e
transactions_run_hold w c (Call d standing r answers) = call_ran c w d standing r answers
transactions_run_hold w c (Resume d standing answers) = resume_ran c w d standing answers
transactions_run_hold w c (Done d answers) = read_ran c w d answers (lent_query (w.gate.session d).later)
transactions_run_hold w c Apply = stays_so c w (happens w Apply) (λ e. settled_in (suc w.applied) (w.gate.session c) (w.gate.session c).flight e) (λ e. trail_ran (suc w.applied) (w.trail c) (w.gate.session c).flight)
transactions_run_hold w c (Lose t) =
    let shut : in_tx (lost (w.gate.session c)) ≡ false = ap (λ (o : Option Transaction). not (is_none o)) (lost_bare (w.gate.session c)).tx in
    stays_so c w (happens w (Lose t)) (λ e. absurd (true≢false (sym e ∙ shut))) (λ e. absurd (true≢false (sym e ∙ shut)))
transactions_run_hold w c (Lead t) = all_same c w (happens w (Lead t)) refl refl
transactions_run_hold w c Serve = all_same c w (happens w Serve) refl refl
transactions_run_hold w c (Append contents) = all_same c w (happens w (Append contents)) refl refl
transactions_run_hold w c (Follow es) = all_same c w (happens w (Follow es)) refl refl
