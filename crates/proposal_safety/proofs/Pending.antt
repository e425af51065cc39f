-- A pending proposal that makes a change is answered next, and not by a refusal for another cause than a loss of leadership.
use Rattle.std.proofs.Common.{◌≡◌, ◌≢◌, ◌⊎◌, inl, inr, ℕ, suc, ◌<◌, Bool, true, false, true≢false, cond, List, [], ◌∷◌, ◌++◌, map, refl, sym, ap, ◌∙◌, subst, ⊎_elim, arith, append_assoc}
use Rattle.std.specs.Prelude.{◌==◌, ◌&&◌, not, nat_le, is_none, Option, Some, None}
use Rattle.std.specs.List.{filter}
use Rattle.std.proofs.lemmas.List.{append-nil}
use Rattle.std.proofs.lemmas.Bool.{cond_both, cond-true, cond-false, cases_Bool, cases_eq, eqb-true, eq-eqb, ne_eqb, or_cases, or_left, or_right}
use Rattle.raft_spec.specs.Node.{among}
use Rattle.sql_engine.specs.Replies.{Statement}
use Rattle.sql_engine.specs.Meanings.{Meaning}
use Rattle.sql_engine.specs.declared.kind.EngineKind.{EngineKind}
use Rattle.session_spec.specs.Causes.{LeadershipLost}
use Rattle.session_spec.specs.Engines.{Answer}
use Rattle.session_spec.specs.Events.{tidy, landed, settled_by, on_applied, lost, on_lost, waits, last_of, placed, ordered, told_lost, left, on_hangup, connects, connected}
use Rattle.session_spec.specs.Requests.{with_later, with_session, affected_by, on_request}
use Rattle.session_spec.specs.Sessions.{Reply, Refusal, result, empty, change_reply, db, Kind, Opening, Configuring, Writing, Committing, Querying, Flight, Later, later_query, lent_query, Session, Gateway, absent, fresh, may_ask, Effect, HandsOver, JoinsPeer, Weighs, Turned, Refused, Lacks, Answers, Proposes, Lends, Affects}
use Rattle.session_safety.specs.Answering.{outcome, said_to}
use Rattle.session_safety.specs.Laws.{NoneComes}
use Rattle.session_safety.specs.Life.{query_for, query_by, commit_of, Event, Connect, Hangup, Call, Resume, Done, Apply, Lose, Lead, Serve, Append, Follow, tells, called, undue, outcome_later, resumed, told_at, said_read, read_by, read, said_landed, said_by, said_applied, told_all, joined, happens, run_from, AllFit}
use Rattle.session_safety.specs.Nodes.{Query, Commit, Said, Trail, Node, Standing, databases, view_of, started}
use Rattle.session_safety.proofs.Answers.{there_of, waits_for}
use Rattle.session_safety.proofs.Invariant.{IsFree, NodeOk, free_flies}
use Rattle.session_safety.proofs.Laters.{resumed_both}
use Rattle.session_safety.proofs.Lasts.{run_append, fit_parts, lasts_step}
use Rattle.session_safety.proofs.Lives.{run_ok, happens_ok, started_ok}
use Rattle.session_safety.proofs.Replying.{said_to_append}
use Rattle.session_safety.proofs.Tables.{among_filter}
use Rattle.proposal_safety.proofs.Counting.{requests_propose_once_hold}
use Rattle.proposal_safety.specs.Proposing.{change_count, proposed, ProposesOneIfAny, ChangesAreAnswered, kind_count, IsLossIfRefused, HasReply, FirstIsLossIfRefused, AnswersProposal, ProposalsAreAnswered}

-- ---- lists of connections

among_placed : (key : ℕ → ℕ) (x : ℕ) (xs : List ℕ) (c : ℕ) → among (x ∷ xs) c ≡ true → among (placed key x xs) c ≡ true
among_placed key x [] c e = e
among_placed key x (y ∷ ys) c e =
    cond_both (nat_le (key x) (key y)) (x ∷ y ∷ ys) (y ∷ placed key x ys) (λ l. among l c ≡ true) (λ z. e)
    (λ z. ⊎_elim
    (λ (q : (x == c) ≡ true). or_right (y == c) (among (placed key x ys) c) (among_placed key x ys c (or_left (x == c) (among ys c) q)))
    (λ (q : among (y ∷ ys) c ≡ true). ⊎_elim
    (λ (r : (y == c) ≡ true). or_left (y == c) (among (placed key x ys) c) r)
    (λ (r : among ys c ≡ true). or_right (y == c) (among (placed key x ys) c) (among_placed key x ys c (or_right (x == c) (among ys c) r)))
    (or_cases (y == c) (among ys c) q))
    (or_cases (x == c) (among (y ∷ ys) c) e))

among_ordered : (key : ℕ → ℕ) (xs : List ℕ) (c : ℕ) → among xs c ≡ true → among (ordered key xs) c ≡ true
among_ordered key [] c e = e
among_ordered key (x ∷ xs) c e = among_placed key x (ordered key xs) c (⊎_elim
    (λ (q : (x == c) ≡ true). or_left (x == c) (among (ordered key xs) c) q)
    (λ (q : among xs c ≡ true). or_right (x == c) (among (ordered key xs) c) (among_ordered key xs c q))
    (or_cases (x == c) (among xs c) e))

-- ---- replies to one connection

to_it : (c : ℕ) (x : Said) (xs : List Said) → x.conn ≡ c → said_to c (x ∷ xs) ≡ x ∷ said_to c xs
to_it c x xs e = cond-true (x.conn == c) (x ∷ said_to c xs) (said_to c xs) (eq-eqb x.conn c e)

to_other : (c : ℕ) (x : Said) (xs : List Said) → x.conn ≢ c → said_to c (x ∷ xs) ≡ said_to c xs
to_other c x xs e = cond-false (x.conn == c) (x ∷ said_to c xs) (said_to c xs) (ne_eqb x.conn c e)

off : (c d : ℕ) → d ≢ c → (c == d) ≡ false
off c d n = ne_eqb c d (λ e. n (sym e))

-- the first of these replies to the connection is no refusal, or names a loss of leadership
abbrev HasAnswer : ℕ → List Said → Type 0
HasAnswer c more = (x : Said) × (xs : List Said) × (said_to c more ≡ x ∷ xs) × IsLossIfRefused x.reply

lost_either : (c : ℕ) (cs : List ℕ) → (said_to c (told_all (map (λ (d : ℕ). (d, Refusal LeadershipLost)) cs)) ≡ []) ⊎
    HasAnswer c (told_all (map (λ (d : ℕ). (d, Refusal LeadershipLost)) cs))
lost_either c [] = inl refl
lost_either c (d ∷ cs) =
    let x = tells d (Refusal LeadershipLost) in
    let rest = told_all (map (λ (k : ℕ). (k, Refusal LeadershipLost)) cs) in
    ⊎_elim
    (λ (q : d ≡ c). inr (x, said_to c rest, to_it c x rest q, refl))
    (λ (q : d ≢ c). ⊎_elim
    (λ (e : said_to c rest ≡ []). inl (to_other c x rest q ∙ e))
    (λ (h : HasAnswer c rest). inr (h.0, h.1, to_other c x rest q ∙ h.2, h.3))
    (lost_either c cs))
    (cases_eq d c)

lost_here : (c : ℕ) (cs : List ℕ) → among cs c ≡ true → HasAnswer c (told_all (map (λ (d : ℕ). (d, Refusal LeadershipLost)) cs))
lost_here c [] e = absurd (true≢false (sym e))
lost_here c (d ∷ cs) e =
    let x = tells d (Refusal LeadershipLost) in
    let rest = told_all (map (λ (k : ℕ). (k, Refusal LeadershipLost)) cs) in
    ⊎_elim
    (λ (q : d ≡ c). (x, said_to c rest, to_it c x rest q, refl))
    (λ (q : d ≢ c).
    let h = lost_here c cs (⊎_elim (λ (r : (d == c) ≡ true). absurd (q (eqb-true d c r))) (λ (r : among cs c ≡ true). r) (or_cases (d == c) (among cs c) e)) in
    (h.0, h.1, to_other c x rest q ∙ h.2, h.3))
    (cases_eq d c)

one_other : (c d : ℕ) (r : Reply) (q : Option Query) (k : Option Commit) (o : Option (List ℕ)) (index term : ℕ) → d ≢ c →
    said_to c (record { conn = d; reply = r; query = q; commit = k; opened = o; index = index; term = term } ∷ []) ≡ []
one_other c d r q k o index term n = to_other c (record { conn = d; reply = r; query = q; commit = k; opened = o; index = index; term = term }) [] n

landed_other : (c d : ℕ) (t : Trail) (f : Flight) (k : Kind) → d ≢ c → said_to c (said_landed d t f k) ≡ []
landed_other c d t f Opening n = one_other c d db None None (Some f.name) f.last f.term n
landed_other c d t f (Configuring short) n = one_other c d (change_reply short) None None None f.last f.term n
landed_other c d t f (Writing reply) n =
    one_other c d reply (query_for reply f.name t.at [] t.ran t.seen) (Some (commit_of f t.ran)) None f.last f.term n
landed_other c d t f Committing n = one_other c d (result 0) None (Some (commit_of f t.ran)) None f.last f.term n
landed_other c d t f (Querying statement) n = refl

by_other : (c index d : ℕ) (t : Trail) (hung : Bool) (o : Option Flight) → d ≢ c → said_to c (said_by index d t hung o) ≡ []
by_other c index d t hung None n = refl
by_other c index d t hung (Some f) n =
    cond_both (f.last == index) (cond hung [] (said_landed d t f f.kind)) [] (λ (l : List Said). said_to c l ≡ [])
    (λ e. cond_both hung [] (said_landed d t f f.kind) (λ (l : List Said). said_to c l ≡ []) (λ z. refl) (λ z. landed_other c d t f f.kind n))
    (λ e. refl)

-- nothing is sent to the connection, if its own proposal is not answered
applied_none : (c index : ℕ) (trail : ℕ → Trail) (session : ℕ → Session) (cs : List ℕ) →
    said_by index c (trail c) (session c).hung (session c).flight ≡ [] → said_to c (said_applied index trail session cs) ≡ []
applied_none c index trail session [] own = refl
applied_none c index trail session (d ∷ cs) own =
    said_to_append c (said_by index d (trail d) (session d).hung (session d).flight) (said_applied index trail session cs)
    ∙ ap (λ l. l ++ said_to c (said_applied index trail session cs)) (⊎_elim
    (λ (q : d ≡ c). subst (λ k. said_to c (said_by index k (trail k) (session k).hung (session k).flight) ≡ []) (sym q) (ap (said_to c) own))
    (λ (q : d ≢ c). by_other c index d (trail d) (session d).hung (session d).flight q)
    (cases_eq d c))
    ∙ applied_none c index trail session cs own

one_here : (c : ℕ) (r : Reply) (q : Option Query) (k : Option Commit) (o : Option (List ℕ)) (index term : ℕ) (rest : List Said) → IsLossIfRefused r →
    HasAnswer c (record { conn = c; reply = r; query = q; commit = k; opened = o; index = index; term = term } ∷ rest)
one_here c r q k o index term rest h =
    let x : Said = record { conn = c; reply = r; query = q; commit = k; opened = o; index = index; term = term } in
    (x, said_to c rest, to_it c x rest refl, h)

landed_here : (c : ℕ) (t : Trail) (f : Flight) (k : Kind) (rest : List Said) → 0 < kind_count k → HasReply k → HasAnswer c (said_landed c t f k ++ rest)
landed_here c t f Opening rest pos r = one_here c db None None (Some f.name) f.last f.term rest tt
landed_here c t f (Configuring short) rest pos r = absurd (omega (arith, pos))
landed_here c t f (Writing reply) rest pos r =
    one_here c reply (query_for reply f.name t.at [] t.ran t.seen) (Some (commit_of f t.ran)) None f.last f.term rest r
landed_here c t f Committing rest pos r = one_here c (result 0) None (Some (commit_of f t.ran)) None f.last f.term rest tt
landed_here c t f (Querying statement) rest pos r = absurd (omega (arith, pos))

applied_here : (c index : ℕ) (trail : ℕ → Trail) (session : ℕ → Session) (cs : List ℕ) (f : Flight) → among cs c ≡ true →
    0 < kind_count f.kind → HasReply f.kind →
    said_by index c (trail c) (session c).hung (session c).flight ≡ said_landed c (trail c) f f.kind →
    HasAnswer c (said_applied index trail session cs)
applied_here c index trail session [] f e pos r own = absurd (true≢false (sym e))
applied_here c index trail session (d ∷ cs) f e pos r own =
    let rest = said_applied index trail session cs in
    ⊎_elim
    (λ (q : d ≡ c). subst (λ k. HasAnswer c (said_by index k (trail k) (session k).hung (session k).flight ++ rest)) (sym q)
    (subst (λ l. HasAnswer c (l ++ rest)) (sym own) (landed_here c (trail c) f f.kind rest pos r)))
    (λ (q : d ≢ c).
    let h = applied_here c index trail session cs f
    (⊎_elim (λ (z : (d == c) ≡ true). absurd (q (eqb-true d c z))) (λ (z : among cs c ≡ true). z) (or_cases (d == c) (among cs c) e)) pos r own in
    let now = said_by index d (trail d) (session d).hung (session d).flight in
    (h.0, h.1, said_to_append c now rest ∙ ap (λ l. l ++ said_to c rest) (by_other c index d (trail d) (session d).hung (session d).flight q) ∙ h.2, h.3))
    (cases_eq d c)

-- ---- the session of the connection

module _ (c : ℕ) (f : Flight) (pos : 0 < kind_count f.kind) (reply : HasReply f.kind) where
  -- its proposal is pending, and its client is there
  record IsPending (s : Session) : Type 0 where
    is : s.flight ≡ Some f
    here : s.hung ≡ false
    later : s.later ≡ None

  -- its client is gone, and maybe the session too
  abbrev IsGone : Session → Type 0
  IsGone s = ((s.hung ≡ true) × (s.later ≡ None)) ⊎ (s ≡ absent)

  abbrev IsHeld : Session → Type 0
  IsHeld s = IsPending s ⊎ IsGone s

  none_later : (s : Session) → IsHeld s → s.later ≡ None
  none_later s h = ⊎_elim (λ (p : IsPending s). p.later)
      (λ (g : IsGone s). ⊎_elim (λ (z : (s.hung ≡ true) × (s.later ≡ None)). z.1) (λ (z : s ≡ absent). ap (λ (y : Session). y.later) z) g) h

  and_false : (x : Bool) → x && false ≡ false
  and_false true = refl
  and_false false = refl

  not_asking : (s : Session) → IsHeld s → may_ask s ≡ false
  unfolding may_ask
  not_asking s h = ⊎_elim
      (λ (p : IsPending s). ap (λ o. s.there && not s.hung && is_none o && is_none s.later) p.is
      ∙ ap (λ b. b && is_none s.later) (and_false (s.there && not s.hung)))
      (λ (g : IsGone s). ⊎_elim
      (λ (z : (s.hung ≡ true) × (s.later ≡ None)). ap (λ b. s.there && not b && is_none s.flight && is_none s.later) z.0
      ∙ ap (λ b. b && is_none s.flight && is_none s.later) (and_false s.there))
      (λ (z : s ≡ absent). ap (λ (y : Session). y.there && not y.hung && is_none y.flight && is_none y.later) z) g) h

  -- from one node to the next: the connection is answered, or nothing is sent to it while its session waits
  record IsNext (w v : Node) : Type 0 where
    more : List Said
    said : v.said ≡ w.said ++ more
    next : ((said_to c more ≡ []) × IsHeld (v.gate.session c)) ⊎ HasAnswer c more

  quiet : (w v : Node) (more : List Said) → v.said ≡ w.said ++ more → said_to c more ≡ [] → v.gate.session c ≡ w.gate.session c → IsHeld (w.gate.session c) →
      IsNext w v
  quiet w v more e none s h = record { more = more; said = e; next = inl (none, subst IsHeld (sym s) h) }

  silent : (w v : Node) → v.said ≡ w.said → v.gate.session c ≡ w.gate.session c → IsHeld (w.gate.session c) → IsNext w v
  silent w v e s h = quiet w v [] (e ∙ sym (append-nil w.said)) refl s h

  -- ---- requests of other connections

  with_same : (g : Gateway) (d : ℕ) (s : Session) → d ≢ c → (with_session g d s).session c ≡ g.session c
  unfolding with_session
  with_same g d s n = cond-false (c == d) s (g.session c) (off c d n)

  effect_same : (g : Gateway) (e : Effect) → (affected_by g e).session c ≡ g.session c
  effect_same g (HandsOver id) = refl
  effect_same g (JoinsPeer id) = refl
  effect_same g (Weighs weight) = refl

  other_called : (w : Node) (d : ℕ) (t : Turned) → d ≢ c → IsHeld (w.gate.session c) → IsNext w (called w d t)
  other_called w d (Refused cause) n h = quiet w (called w d (Refused cause)) (tells d (Refusal cause) ∷ []) refl
      (to_other c (tells d (Refusal cause)) [] n) refl h
  other_called w d Lacks n h = silent w w refl refl h
  other_called w d (Answers s r note) n h =
      quiet w (called w d (Answers s r note)) _ refl (one_other c d r (query_by w.applied (w.trail d) r note) None None 0 0 n) (with_same w.gate d s n) h
  other_called w d (Proposes s contents note) n h = silent w (called w d (Proposes s contents note)) refl (with_same w.gate d s n) h
  other_called w d (Lends s job) n h = silent w (called w d (Lends s job)) refl (with_same w.gate d s n) h
  other_called w d (Affects effect) n h = quiet w (called w d (Affects effect)) (tells d empty ∷ []) refl
      (to_other c (tells d empty) [] n) (effect_same w.gate effect) h

  call_next : (w : Node) (d : ℕ) (t : Turned) → IsHeld (w.gate.session c) → IsNext w (cond (may_ask (w.gate.session d)) (called w d t) w)
  call_next w d t h = ⊎_elim
      (λ (q : d ≡ c). subst (IsNext w)
      (sym (cond-false (may_ask (w.gate.session d)) (called w d t) w (ap (λ k. may_ask (w.gate.session k)) q ∙ not_asking (w.gate.session c) h)))
      (silent w w refl refl h))
      (λ (q : d ≢ c). cond_both (may_ask (w.gate.session d)) (called w d t) w (IsNext w) (λ e. other_called w d t q h) (λ e. silent w w refl refl h))
      (cases_eq d c)

  none_query : (o : Option Later) → o ≡ None → later_query o ≡ None
  none_query o e = ap later_query e

  none_lent : (o : Option Later) → o ≡ None → lent_query o ≡ None
  none_lent o e = ap lent_query e

  other_resumed : (w : Node) (d : ℕ) (standing : Standing) (answers : List Answer) (o : Option Statement) → d ≢ c → IsHeld (w.gate.session c) →
      IsNext w (resumed w d standing answers o)
  other_resumed w d standing answers None n h = silent w w refl refl h
  other_resumed w d standing answers (Some statement) n h =
      let same = with_same w.gate d (with_later (w.gate.session d) None) n in
      resumed_both (IsNext w) w d (outcome_later w d standing statement answers) (silent w w refl refl h)
      (let x = other_called (undue w d) d (outcome_later w d standing statement answers) n (subst IsHeld (sym same) h) in
      record { more = x.more; said = x.said; next = x.next })

  resume_next : (w : Node) (d : ℕ) (standing : Standing) (answers : List Answer) → IsHeld (w.gate.session c) →
      IsNext w (resumed w d standing answers (later_query (w.gate.session d).later))
  resume_next w d standing answers h = ⊎_elim
      (λ (q : d ≡ c). subst (λ o. IsNext w (resumed w d standing answers o))
      (sym (ap (λ k. later_query (w.gate.session k).later) q ∙ none_query (w.gate.session c).later (none_later (w.gate.session c) h))) (silent w w refl refl h))
      (λ (q : d ≢ c). other_resumed w d standing answers (later_query (w.gate.session d).later) q h)
      (cases_eq d c)

  other_read_by : (w : Node) (d : ℕ) (statement : Statement) (o : Option Reply) → d ≢ c → IsHeld (w.gate.session c) → IsNext w (read_by w d statement o)
  other_read_by w d statement None n h = silent w w refl refl h
  other_read_by w d statement (Some r) n h =
      quiet w (read_by w d statement (Some r)) (said_read w d statement r ∷ []) refl (to_other c (said_read w d statement r) [] n)
      (with_same w.gate d (with_later (w.gate.session d) None) n) h

  other_read : (w : Node) (d : ℕ) (answers : List Answer) (o : Option Statement) → d ≢ c → IsHeld (w.gate.session c) → IsNext w (read w d answers o)
  other_read w d answers None n h = silent w w refl refl h
  other_read w d answers (Some statement) n h = other_read_by w d statement (told_at w d statement answers) n h

  read_next : (w : Node) (d : ℕ) (answers : List Answer) → IsHeld (w.gate.session c) → IsNext w (read w d answers (lent_query (w.gate.session d).later))
  read_next w d answers h = ⊎_elim
      (λ (q : d ≡ c). subst (λ o. IsNext w (read w d answers o))
      (sym (ap (λ k. lent_query (w.gate.session k).later) q ∙ none_lent (w.gate.session c).later (none_later (w.gate.session c) h))) (silent w w refl refl h))
      (λ (q : d ≢ c). other_read w d answers (lent_query (w.gate.session d).later) q h)
      (cases_eq d c)

  -- ---- connections

  connect_next : (w : Node) (d : ℕ) → d ≢ c → IsHeld (w.gate.session c) → IsNext w (cond (connects w.gate d) (joined w d) w)
  unfolding connected
  connect_next w d n h = cond_both (connects w.gate d) (joined w d) w (IsNext w)
      (λ e. silent w (joined w d) refl (cond-false (c == d) fresh (w.gate.session c) (off c d n)) h)
      (λ e. silent w w refl refl h)

  left_held : (s : Session) (o : Option Flight) → s.flight ≡ o → IsHeld s → IsHeld (left s o)
  left_held s None e h = inr (inr refl)
  left_held s (Some x) e h = inr (inl (refl, none_later s h))

  hangup_next : (w : Node) (d : ℕ) → IsHeld (w.gate.session c) → IsNext w (happens w (Hangup d))
  unfolding happens on_hangup tidy
  hangup_next w d h = record {
    more = [];
    said = sym (append-nil w.said);
    next = inl (
      refl,
      cond_both (c == d) (left (w.gate.session d) (w.gate.session d).flight) (w.gate.session c) IsHeld
          (λ e. subst (λ k. IsHeld (left (w.gate.session k) (w.gate.session k).flight)) (eqb-true c d e)
          (left_held (w.gate.session c) (w.gate.session c).flight refl h))
          (λ e. h),
    );
  }

  -- ---- entries and terms

  none_landed : (index : ℕ) (s : Session) (t : Trail) → IsGone s → said_by index c t s.hung s.flight ≡ []
  none_landed index s t g = ⊎_elim
      (λ (z : (s.hung ≡ true) × (s.later ≡ None)). subst (λ b. said_by index c t b s.flight ≡ []) (sym z.0) (hung s.flight))
      (λ (z : s ≡ absent). ap (λ (y : Session). said_by index c t y.hung y.flight) z) g
    where
      hung : (o : Option Flight) → said_by index c t true o ≡ []
      hung None = refl
      hung (Some x) = cond_both (x.last == index) [] [] (λ (l : List Said). l ≡ []) (λ e. refl) (λ e. refl)

  hung_settled : (index : ℕ) (s : Session) (o : Option Flight) → s.hung ≡ true → s.later ≡ None → IsGone (settled_by index s o)
  hung_settled index s None hung later = inl (hung, later)
  hung_settled index s (Some x) hung later = cond_both (x.last == index) (cond s.hung absent (landed s x x.kind)) s IsGone
      (λ e. inr (cond-true s.hung absent (landed s x x.kind) hung)) (λ e. inl (hung, later))

  gone_settled : (index : ℕ) (s : Session) → IsGone s → IsGone (settled_by index s s.flight)
  gone_settled index s g = ⊎_elim
      (λ (z : (s.hung ≡ true) × (s.later ≡ None)). hung_settled index s s.flight z.0 z.1)
      (λ (z : s ≡ absent). inr (ap (λ (y : Session). settled_by index y y.flight) z)) g

  gone_lost : (s : Session) → IsGone s → IsGone (lost s)
  gone_lost s g = ⊎_elim
      (λ (z : (s.hung ≡ true) × (s.later ≡ None)). inr (cond-true s.hung absent _ z.0))
      (λ (z : s ≡ absent). inr (ap lost z)) g

  -- the proposal's last entry is not the one that is applied
  still_pending : (index : ℕ) (s : Session) (t : Trail) → IsPending s → (f.last == index) ≡ false →
      (said_by index c t s.hung s.flight ≡ []) × IsPending (settled_by index s s.flight)
  still_pending index s t p e = (
    ap (said_by index c t s.hung) p.is ∙ cond-false (f.last == index) (cond s.hung [] (said_landed c t f f.kind)) [] e,
    subst IsPending (sym (ap (settled_by index s) p.is ∙ cond-false (f.last == index) (cond s.hung absent (landed s f f.kind)) s e)) p,
  )

  lands_now : (index : ℕ) (s : Session) (t : Trail) → IsPending s → (f.last == index) ≡ true → said_by index c t s.hung s.flight ≡ said_landed c t f f.kind
  lands_now index s t p e = ap (said_by index c t s.hung) p.is
      ∙ cond-true (f.last == index) (cond s.hung [] (said_landed c t f f.kind)) [] e
      ∙ cond-false s.hung [] (said_landed c t f f.kind) p.here

  module _ (mean : Meaning) where
    apply_next : (w : Node) → NodeOk mean w → IsHeld (w.gate.session c) → IsNext w (happens w Apply)
    unfolding happens on_applied tidy
    apply_next w a h =
        let s = w.gate.session c in
        let more = said_applied (suc w.applied) w.trail w.gate.session w.gate.conns in
        record {
          more = more;
          said = refl;
          next = ⊎_elim
              (λ (p : IsPending s). ⊎_elim
              (λ (e : (f.last == suc w.applied) ≡ true). inr (applied_here c (suc w.applied) w.trail w.gate.session w.gate.conns f
              (there_of mean w c f a p.is) pos reply (lands_now (suc w.applied) s (w.trail c) p e)))
              (λ (e : (f.last == suc w.applied) ≡ false).
              let z = still_pending (suc w.applied) s (w.trail c) p e in
              inl (applied_none c (suc w.applied) w.trail w.gate.session w.gate.conns z.0, inl z.1))
              (cases_Bool (f.last == suc w.applied)))
              (λ (g : IsGone s). inl (
                applied_none c (suc w.applied) w.trail w.gate.session w.gate.conns (none_landed (suc w.applied) s (w.trail c) g),
                inr (gone_settled (suc w.applied) s g),
              ))
              h;
        }

    lose_next : (w : Node) (term : ℕ) → NodeOk mean w → IsHeld (w.gate.session c) → IsNext w (happens w (Lose term))
    unfolding happens on_lost told_lost tidy
    lose_next w term a h =
        let s = w.gate.session c in
        let asked = ordered (λ (d : ℕ). last_of (w.gate.session d).flight) (filter (λ (d : ℕ). waits (w.gate.session d)) w.gate.conns) in
        record {
          more = told_all (map (λ (d : ℕ). (d, Refusal LeadershipLost)) asked);
          said = refl;
          next = ⊎_elim
              (λ (p : IsPending s). inr (lost_here c asked (among_ordered (λ (d : ℕ). last_of (w.gate.session d).flight)
              (filter (λ (d : ℕ). waits (w.gate.session d)) w.gate.conns) c
              (among_filter (λ (d : ℕ). waits (w.gate.session d)) w.gate.conns c (there_of mean w c f a p.is) (waits_for s f p.is p.here)))))
              (λ (g : IsGone s). ⊎_elim
              (λ (e : said_to c (told_all (map (λ (d : ℕ). (d, Refusal LeadershipLost)) asked)) ≡ []). inl (e, inr (gone_lost s g)))
              (λ (z : HasAnswer c (told_all (map (λ (d : ℕ). (d, Refusal LeadershipLost)) asked))). inr z)
              (lost_either c asked))
              h;
        }

    step_next : (w : Node) (e : Event) → e ≢ Connect c → NodeOk mean w → IsHeld (w.gate.session c) → IsNext w (happens w e)
    unfolding happens
    step_next w (Connect d) other a h = connect_next w d (λ q. other (ap (λ k. Connect k) q)) h
    step_next w (Hangup d) other a h = hangup_next w d h
    step_next w (Call d standing r answers) other a h = call_next w d (on_request (view_of w standing) (databases w) w.gate d r answers) h
    step_next w (Resume d standing answers) other a h = resume_next w d standing answers h
    step_next w (Done d answers) other a h = read_next w d answers h
    step_next w Apply other a h = apply_next w a h
    step_next w (Lose term) other a h = lose_next w term a h
    step_next w (Lead term) other a h = silent w (happens w (Lead term)) refl refl h
    step_next w Serve other a h = silent w (happens w Serve) refl refl h
    step_next w (Append contents) other a h = silent w (happens w (Append contents)) refl refl h
    step_next w (Follow entries) other a h = silent w (happens w (Follow entries)) refl refl h

    module _ (kind : EngineKind) where
      -- replies are only added
      more_said : (w : Node) (es : List Event) → AllFit mean kind w es → NodeOk mean w → (more : List Said) × ((run_from w es).said ≡ w.said ++ more)
      more_said w [] fits a = ([], sym (append-nil w.said))
      more_said w (e ∷ es) fits a =
          let one = lasts_step mean kind w e a in
          let rest = more_said (happens w e) es fits.1 (happens_ok mean kind w e fits.0 a) in
          (one.later ++ rest.0, rest.1 ∙ ap (λ l. l ++ rest.0) one.said ∙ append_assoc w.said one.later rest.0)

      first_of : (more rest : List Said) → HasAnswer c more → FirstIsLossIfRefused (said_to c (more ++ rest))
      first_of more rest h = subst FirstIsLossIfRefused
          (sym (said_to_append c more rest ∙ ap (λ l. l ++ said_to c rest) h.2)) h.3

      walk : (w : Node) (es : List Event) → AllFit mean kind w es → NoneComes c es → NodeOk mean w → IsHeld (w.gate.session c) →
          AnswersProposal c w (run_from w es)
      walk w [] fits none a h = record { more = []; said = sym (append-nil w.said); first = tt }
      walk w (e ∷ es) fits none a h =
          let one = step_next w e none.0 a h in
          let b = happens_ok mean kind w e fits.0 a in
          ⊎_elim
          (λ (z : (said_to c one.more ≡ []) × IsHeld ((happens w e).gate.session c)).
          let rest = walk (happens w e) es fits.1 none.1 b z.1 in
          record {
            more = one.more ++ rest.more;
            said = rest.said ∙ ap (λ l. l ++ rest.more) one.said ∙ append_assoc w.said one.more rest.more;
            first = subst FirstIsLossIfRefused (sym (said_to_append c one.more rest.more ∙ ap (λ l. l ++ said_to c rest.more) z.0)) rest.first;
          })
          (λ (z : HasAnswer c one.more).
          let rest = more_said (happens w e) es fits.1 b in
          record {
            more = one.more ++ rest.0;
            said = rest.1 ∙ ap (λ l. l ++ rest.0) one.said ∙ append_assoc w.said one.more rest.0;
            first = first_of one.more rest.0 z;
          })
          one.next

      begins : (s : Session) (seen at : ℕ) → s.flight ≡ Some f → IsFree seen at s.later s.flight → IsHeld s
      begins s seen at is free =
          let later = free_flies seen at s.later f (subst (IsFree seen at s.later) is free) in
          ⊎_elim (λ (e : s.hung ≡ true). inr (inl (e, later))) (λ (e : s.hung ≡ false). inl (record { is = is; here = e; later = later }))
          (cases_Bool s.hung)

pub proposals_are_answered_hold : (mean : Meaning) (kind : EngineKind) → ProposalsAreAnswered mean kind
proposals_are_answered_hold mean kind log applied term es fs c f s fits none is pos reply =
    let first = started log applied term in
    let w = run_from first es in
    let parts = fit_parts mean kind first es fs fits in
    let a = run_ok mean kind first es parts.0 (started_ok mean kind log applied term s.within s.woven) in
    subst (AnswersProposal c w) (sym (run_append first es fs))
    (walk c f pos reply mean kind w fs parts.1 none a
    (begins c f pos reply mean kind (w.gate.session c) (w.trail c).seen (w.trail c).at is (a.sessions c).free))

-- ---- a request that is handled

module _ (mean : Meaning) (kind : EngineKind) (w : Node) (c : ℕ) (fs : List Event) (none : NoneComes c fs) where
  -- the reply comes after the request was handled, which says nothing
  from_there : (v : Node) (f : Flight) → v.said ≡ w.said → (v.gate.session c).flight ≡ Some f → 0 < kind_count f.kind → HasReply f.kind →
      AllFit mean kind v fs → NodeOk mean v → AnswersProposal c w (run_from v fs)
  from_there v f same is pos reply fits a =
      let s = a.sessions c in
      let x = walk c f pos reply mean kind v fs fits none a
      (begins c f pos reply mean kind (v.gate.session c) (v.trail c).seen (v.trail c).at is s.free) in
      record { more = x.more; said = x.said ∙ ap (λ l. l ++ x.more) same; first = x.first }

  handled : (t : Turned) → ProposesOneIfAny t → 0 < change_count (proposed t) → AllFit mean kind (called w c t) fs → NodeOk mean (called w c t) →
      AnswersProposal c w (run_from (called w c t) fs)
  unfolding with_session
  handled (Refused cause) one pos fits a = absurd (omega (arith, pos))
  handled Lacks one pos fits a = absurd (omega (arith, pos))
  handled (Answers s r note) one pos fits a = absurd (omega (arith, pos))
  handled (Proposes s contents note) one pos fits a =
      let count = one.count in
      from_there (called w c (Proposes s contents note)) one.flight refl
      (ap (λ (y : Session). y.flight) (cond-true (c == c) s (w.gate.session c) (eq-eqb c c refl)) ∙ one.is) (omega (arith, pos, count)) one.reply fits a
  handled (Lends s job) one pos fits a = absurd (omega (arith, pos))
  handled (Affects effect) one pos fits a = absurd (omega (arith, pos))

pub changes_are_answered_hold : (mean : Meaning) (kind : EngineKind) → ChangesAreAnswered mean kind
unfolding happens
changes_are_answered_hold mean kind log applied term es fs c standing r answers s fits none may pos =
    let first = started log applied term in
    let w = run_from first es in
    let e = Call c standing r answers in
    let parts = fit_parts mean kind first es (e ∷ fs) fits in
    let a = run_ok mean kind first es parts.0 (started_ok mean kind log applied term s.within s.woven) in
    let t = outcome w c standing r answers in
    let one = requests_propose_once_hold (view_of w standing) (databases w) w.gate c r answers in
    let now : happens w e ≡ called w c t = cond-true (may_ask (w.gate.session c)) (called w c t) w may in
    subst (AnswersProposal c w) (sym (run_append first es (e ∷ fs)))
    (subst (λ v. AnswersProposal c w (run_from v fs)) (sym now)
    (handled mean kind w c fs none t one pos (subst (λ v. AllFit mean kind v fs) now parts.1.1)
    (subst (NodeOk mean) now (happens_ok mean kind w e parts.1.0 a))))
