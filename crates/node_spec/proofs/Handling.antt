-- A client's request that is handled is a stretch of an event.
use Rattle.std.proofs.Common.{◌≡◌, ◌⊎◌, inl, inr, ⊎_elim, ℕ, suc, ◌<◌, ◌≤◌, Bool, true, false, List, [], ◌∷◌, ◌++◌, length, take, refl, sym, ap, ◌∙◌, subst, arith, append-nil}
use Rattle.std.specs.Prelude.{map, cond, ◌&&◌, ◌==◌, None}
use Rattle.std.proofs.lemmas.Bool.{cond-true}
use Rattle.std.specs.List.{AllByRecursion}
use Rattle.wire_msgs.specs.declared.request.Request.{Request}
use Rattle.sql_engine.specs.declared.kind.EngineKind.{EngineKind}
use Rattle.sql_engine.specs.Meanings.{Meaning}
use Rattle.session_spec.specs.Engines.{Answer, AllowsFor}
use Rattle.session_spec.specs.Entries.{Content, Does, tx_of, entries_of, written}
use Rattle.session_spec.specs.Machine.{Machine, machine_of, files}
use Rattle.session_spec.specs.Requests.{on_request, handed, with_session, affected_by}
use Rattle.session_spec.specs.Restarts.{restarted, shifted, shifted_session, shifted_turned, CountsRestart}
use Rattle.session_spec.specs.Seen.{log_seen, HasSpelling}
use Rattle.session_spec.specs.Sessions.{Reply, Refusal, empty, Session, Gateway, View, Effect, HandsOver, JoinsPeer, Weighs, may_ask, Turned, Refused, Lacks, Answers, Proposes, Lends, Affects}
use Rattle.session_spec.proofs.RestartedEvents.{events_shift_hold}
use Rattle.session_safety.specs.Nodes.{Said, Node as Life, Standing, databases, view_of}
use Rattle.session_safety.specs.Life.{Event as Doing, Call, ArePlain, query_by, tells, called, happens}
use Rattle.session_safety.specs.Answering.{Handled, comes}
use Rattle.session_safety.specs.Lending.{lends_by, lent_by, uses, answers_by}
use Rattle.raft_spec.specs.Log.{Entry}
use Rattle.raft_spec.specs.Node.{Node, is_leader}
use Rattle.raft_spec.specs.NodeValues.{node_of}
use Rattle.log_commands.specs.Splitting.{split}
use Rattle.std.proofs.lemmas.List.{take-append-le}
use Rattle.raft_safety.specs.Members.{Setup}
use Rattle.cluster_model.specs.Proposals.{IsNumbered}
use Rattle.cluster_model.proofs.Lines.{size_of}
use Rattle.cluster_model.proofs.Proposals.{proposals_seen_hold, proposals_weave_hold}
use Rattle.node_spec.specs.Steps.{told, calls, ArePartOf}
use Rattle.node_spec.specs.Accounts.{Moment, with_due, DueWeaves, StandsAt, no_piece, NoneWaited, Lives}
use Rattle.node_spec.specs.Turns.{KeepsRaft, view_at, gate_after, told_at_once, due_by, IsNumberedBy, MayPropose, HandlingGoes}
use Rattle.node_spec.proofs.Moving.{no_inputs, moved, in_term, all_used}
use Rattle.node_spec.proofs.Stretches.{part_self}

-- what comes of it, at what the moment represents
pub record Comes (vs : Setup) (b : Moment) (s : Node) (w v : Life) (heard : List (ℕ × Reply)) : Type 0 where
  pub said : List Said
  pub stands : StandsAt vs b s v
  pub says : v.said ≡ w.said ++ said
  pub replies : heard ≡ map told said
  pub early : NoneWaited said

-- what was there is there
still_due : (vs : Setup) (a b : Moment) (s : Node) (w : Life) → StandsAt vs a s w → a.due ≡ [] → b.due ≡ [] → (w.log ≡ log_seen (with_due s.term s.log b.due)) × DueWeaves s.term s.log b.due
still_due vs a b s w x idle due =
    let e : a.due ≡ b.due = idle ∙ sym due in
    (subst (λ l. w.log ≡ log_seen (with_due s.term s.log l)) e x.log, subst (DueWeaves s.term s.log) e x.weaves)

shift_session : (lacks : List ℕ → ℕ) (v g h : Gateway) (conn : ℕ) (own : Session) → v ≡ shifted lacks g → h ≡ with_session g conn own → with_session v conn (shifted_session lacks own) ≡ shifted lacks h
shift_session lacks v g h conn own e f = ap (λ z. with_session z conn (shifted_session lacks own)) e ∙ (events_shift_hold lacks g).session conn own ∙ ap (shifted lacks) (sym f)

shift_effect : (lacks : List ℕ → ℕ) (v g h : Gateway) (effect : Effect) → v ≡ shifted lacks g → h ≡ affected_by g effect → affected_by v effect ≡ shifted lacks h
shift_effect lacks v g h (HandsOver id) e f = e ∙ ap (shifted lacks) (sym f)
shift_effect lacks v g h (JoinsPeer id) e f = e ∙ ap (shifted lacks) (sym f)
shift_effect lacks v g h (Weighs weight) e f = ap (λ z. affected_by z (Weighs weight)) e ∙ ap (shifted lacks) (sym f)

-- a proposal at the end of the log
record Proposed (s : Node) (w : Life) (due : List (List Entry)) (contents : List Content) : Type 0 where
  log : w.log ++ entries_of w.term contents ≡ log_seen (with_due s.term s.log due)
  weaves : DueWeaves s.term s.log due
  front : take w.applied (w.log ++ entries_of w.term contents) ≡ take w.applied w.log

proposed : (vs : Setup) (a : Moment) (s : Node) (w : Life) (standing : Standing) (due : List (List Entry)) (contents : List Content) → StandsAt vs a s w → a.due ≡ [] → s.commit ≤ length s.log → due ≡ written a.node.raft.term contents ∷ [] → is_leader a.node.raft.role ≡ true → AllByRecursion HasSpelling contents →
    ArePlain a.node.serving contents ⊎ IsNumberedBy a.node.raft.term (length (node_of a.node.raft).log) contents → Proposed s w due contents
proposed vs a s w standing due contents x idle long is leads spelled pages =
    let any = a.node.raft.term in
    let term : any ≡ s.term = ap (λ (z : Node). z.term) x.twin.node in
    let role : is_leader s.role ≡ true = sym (ap (λ (z : Node). is_leader z.role) x.twin.node) ∙ leads in
    let size : length (node_of a.node.raft).log ≡ length s.log = ap (λ (z : Node). length z.log) x.twin.node ∙ sym x.twin.same.len in
    let log : w.log ≡ log_seen s.log = subst (λ l. w.log ≡ log_seen (with_due s.term s.log l)) idle x.log in
    let short : w.applied ≤ length w.log =
    let low = x.within in
    let at = x.applied in
    let count : length w.log ≡ length s.log = ap length log ∙ size_of s.log in
    omega (arith, low, at, count, long) in
    let fit : ArePlain a.node.serving contents ⊎ IsNumbered s contents = ⊎_elim (λ p. inl p) (λ (p : IsNumberedBy any (length (node_of a.node.raft).log) contents). inr (p.0, p.1, subst (λ n. n < 4294900000) size p.2, p.3 ∙ ap (λ n. map Does (split p.0 (record { tx = tx_of n (suc (length (node_of a.node.raft).log)); pages = p.1 }))) term ∙ ap (λ n. map Does (split p.0 (record { tx = tx_of s.term (suc n); pages = p.1 }))) size)) pages in
    record {
      log = ap (λ l. l ++ entries_of w.term contents) log ∙ ap (λ n. log_seen s.log ++ entries_of n contents) x.term ∙ sym (proposals_seen_hold s.log any s.term contents spelled) ∙ ap (λ l. log_seen (with_due s.term s.log l)) (sym is);
      weaves = subst (DueWeaves s.term s.log) (sym is) (proposals_weave_hold s any contents a.node.serving spelled fit role, tt);
      front = take-append-le w.applied w.log (entries_of w.term contents) short;
    }

pub comes_of : (vs : Setup) (a b : Moment) (s : Node) (w : Life) (conn : ℕ) (standing : Standing) (x : StandsAt vs a s w) → KeepsRaft a b → a.due ≡ [] → s.commit ≤ length s.log → (t : Turned) → comes t ≡ true → MayPropose (view_at a standing) (is_leader a.node.raft.role) t →
    b.node.sessions ≡ gate_after a.node.sessions conn t → b.due ≡ due_by a.node.raft.term t → Comes vs b s w (called w conn (shifted_turned x.lacks t)) (told_at_once conn t)
comes_of vs a b s w conn standing x k idle long (Refused cause) c p g d =
    let q = still_due vs a b s w x idle d in
    record { said = tells conn (Refusal cause) ∷ []; stands = moved vs a b s w _ x k (x.sessions ∙ ap (shifted x.lacks) (sym g)) q.0 q.1 refl refl refl refl refl; says = refl; replies = refl; early = (refl, tt) }
comes_of vs a b s w conn standing x k idle long Lacks c p g d = absurd cc
comes_of vs a b s w conn standing x k idle long (Answers own reply note) c p g d =
    let q = still_due vs a b s w x idle d in
    record { said = record { conn = conn; reply = reply; query = query_by w.applied (w.trail conn) reply note; commit = None; opened = None; index = 0; term = 0 } ∷ []; stands = moved vs a b s w _ x k (shift_session x.lacks w.gate a.node.sessions b.node.sessions conn own x.sessions g) q.0 q.1 refl refl refl refl refl; says = refl; replies = refl; early = (refl, tt) }
comes_of vs a b s w conn standing x k idle long (Proposes own contents note) c p g d =
    let q = proposed vs a s w standing b.due contents x idle long d p.0 p.1 p.2 in
    record { said = []; stands = moved vs a b s w _ x k (shift_session x.lacks w.gate a.node.sessions b.node.sessions conn own x.sessions g) q.log q.weaves refl refl refl refl (ap files q.front); says = sym (append-nil w.said); replies = refl; early = tt }
comes_of vs a b s w conn standing x k idle long (Lends own job) c p g d =
    let q = still_due vs a b s w x idle d in
    record { said = []; stands = moved vs a b s w _ x k (shift_session x.lacks w.gate a.node.sessions b.node.sessions conn own x.sessions g) q.0 q.1 refl refl refl refl refl; says = sym (append-nil w.said); replies = refl; early = tt }
comes_of vs a b s w conn standing x k idle long (Affects effect) c p g d =
    let q = still_due vs a b s w x idle d in
    record { said = tells conn empty ∷ []; stands = moved vs a b s w _ x k (shift_effect x.lacks w.gate a.node.sessions b.node.sessions effect x.sessions g) q.0 q.1 refl refl refl refl refl; says = refl; replies = refl; early = (refl, tt) }

same_handled : (b c d : Bool) (h : Handled) → c ≡ true → d ≡ true → map (λ (h : Handled). h.request) (cond (b && (c && d)) (h ∷ []) [] ++ []) ≡ cond b (h.request ∷ []) [] ++ []
same_handled true true true h e f = refl
same_handled false c d h e f = refl
same_handled true false d h e f = absurd cc
same_handled true true false h e f = absurd cc

pub shifted_comes : (lacks : List ℕ → ℕ) (t : Turned) → comes (shifted_turned lacks t) ≡ comes t
shifted_comes lacks (Refused cause) = refl
shifted_comes lacks Lacks = refl
shifted_comes lacks (Answers own reply note) = refl
shifted_comes lacks (Proposes own contents note) = refl
shifted_comes lacks (Lends own job) = refl
shifted_comes lacks (Affects effect) = refl

shifted_lends : (lacks : List ℕ → ℕ) (conn : ℕ) (t : Turned) → lends_by conn (shifted_turned lacks t) ≡ lends_by conn t
shifted_lends lacks conn (Refused cause) = refl
shifted_lends lacks conn Lacks = refl
shifted_lends lacks conn (Answers own reply note) = refl
shifted_lends lacks conn (Proposes own contents note) = refl
shifted_lends lacks conn (Lends own job) = refl
shifted_lends lacks conn (Affects effect) = refl

-- the request as the life handles it
record Same (w : Life) (lacks : List ℕ → ℕ) (standing : Standing) (conn : ℕ) (request : Request) (answers : List Answer) (v : View) (m : Machine) (g : Gateway) : Type 0 where
  ready : may_ask (w.gate.session conn) ≡ may_ask (g.session conn)
  turned : on_request (view_of w standing) (databases w) w.gate conn request answers ≡ shifted_turned lacks (on_request v m g conn request answers)
  given : handed (view_of w standing) (databases w) w.gate conn request ≡ handed v m g conn request

same : CountsRestart → (w : Life) (lacks since : List ℕ → ℕ) (standing : Standing) (conn : ℕ) (request : Request) (answers : List Answer) (v : View) (m : Machine) (g : Gateway) → view_of w standing ≡ v → databases w ≡ restarted lacks since m → w.gate ≡ shifted lacks g → Same w lacks standing conn request answers v m g
unfolding may_ask
same counts w lacks since standing conn request answers v m g e f h =
    let r = counts v lacks since m g conn request in
    record {
      ready = ap (λ (z : Gateway). may_ask (z.session conn)) h;
      turned = ap (λ z. on_request z (databases w) w.gate conn request answers) e ∙ ap (λ z. on_request v z w.gate conn request answers) f ∙ ap (λ z. on_request v (restarted lacks since m) z conn request answers) h ∙ r.turned answers;
      given = ap (λ z. handed z (databases w) w.gate conn request) e ∙ ap (λ z. handed v z w.gate conn request) f ∙ ap (λ z. handed v (restarted lacks since m) z conn request) h ∙ r.handed;
    }

pub view_is : (vs : Setup) (a : Moment) (s : Node) (w : Life) (standing : Standing) → StandsAt vs a s w → a.due ≡ [] → view_of w standing ≡ view_at a standing
view_is vs a s w standing x idle =
    let log : w.log ≡ log_seen s.log = subst (λ l. w.log ≡ log_seen (with_due s.term s.log l)) idle x.log in
    let last : length w.log ≡ length (node_of a.node.raft).log = ap length log ∙ size_of s.log ∙ x.twin.same.len ∙ sym (ap (λ (z : Node). length z.log) x.twin.node) in
    let term : w.term ≡ a.node.raft.term = x.term ∙ sym (ap (λ (z : Node). z.term) x.twin.node) in
    λ i. record { id = standing.id; leader = standing.leader; serving = x.serving i; term = term i; last = last i; servers = standing.servers; links = standing.links; readers = standing.readers; even = standing.even; near = standing.near }

pub handling_goes_holds : CountsRestart → (m : Meaning) (kind : EngineKind) → HandlingGoes m kind
unfolding happens
handling_goes_holds counts m kind vs n bytes joins a b conn request replies h = record {
  made = ap node_of h.rest.raft;
  letters = refl;
  lives = λ s w is x takes told_so. subst (Lives m kind vs n joins a b (record no_piece { replies = replies; jobs = lends_by conn h.turned; answers = h.answers }) s w) (sym (no_inputs is takes.alike)) (alone s w x (takes.kept 0).1.0);
}
  where
    alone : (s : Node) (w : Life) → StandsAt vs a s w → s.commit ≤ length s.log → Lives m kind vs n joins a b (record no_piece { replies = replies; jobs = lends_by conn h.turned; answers = h.answers }) s w []
    alone s w x long =
        let u = same counts w x.lacks x.since h.standing conn request h.answers (view_at a h.standing) (machine_of a.node.machine) a.node.sessions (view_is vs a s w h.standing x h.idle) x.files x.sessions in
        let e : Doing = Call conn h.standing request h.answers in
        let ready : may_ask (w.gate.session conn) ≡ true = u.ready ∙ h.ready in
        let turned : on_request (view_of w h.standing) (databases w) w.gate conn request h.answers ≡ shifted_turned x.lacks h.turned = u.turned ∙ ap (shifted_turned x.lacks) h.is in
        let on : happens w e ≡ called w conn (shifted_turned x.lacks h.turned) = cond-true (may_ask (w.gate.session conn)) _ w ready ∙ ap (called w conn) turned in
        let r = comes_of vs a b s w conn h.standing x h.rest h.idle long h.turned h.comes h.proposes h.sessions h.due in
        let waits : (other : ℕ) → calls other (e ∷ []) ++ b.node.waiting other ≡ a.node.waiting other ++ [] = λ other. ap (λ l. l ++ b.node.waiting other) (append-nil (cond (conn == other) (request ∷ []) [])) ∙ sym (h.waits other) ∙ sym (append-nil (a.node.waiting other)) in
        record {
          life = e ∷ [];
          said = r.said;
          weaves = tt;
          fits = ((λ k. subst (λ z. AllowsFor m kind z h.answers) (sym u.given) h.allowed), tt);
          stands = subst (StandsAt vs b s) (sym on) r.stands;
          says = ap (λ (z : Life). z.said) on ∙ r.says;
          replies = h.says ∙ r.replies;
          lends = sym (append-nil (lent_by w e) ∙ cond-true (may_ask (w.gate.session conn)) _ [] ready ∙ ap (lends_by conn) turned ∙ shifted_lends x.lacks conn h.turned);
          uses = sym (append-nil (answers_by w e) ∙ cond-true (may_ask (w.gate.session conn)) _ [] ready ∙ ap (λ z. uses z h.answers) u.given ∙ all_used _ h.answers h.exact);
          terms = λ f. in_term (happens w e) r.said r.early;
          early = λ z. r.early;
          joined = λ other z. ((λ q. cc), tt);
          handles = λ other. subst (ArePartOf (calls other (e ∷ []) ++ b.node.waiting other)) (waits other) (part_self (calls other (e ∷ []) ++ b.node.waiting other));
          completes = λ other o z. record { all = waits other; handled = same_handled (conn == other) (may_ask (w.gate.session conn)) (comes (on_request (view_of w h.standing) (databases w) w.gate conn request h.answers)) _ ready (ap comes turned ∙ shifted_comes x.lacks h.turned ∙ h.comes) };
        }
