-- A query that is answered later than it was asked, by the node or by a reader, is a stretch of an event.
use Rattle.std.proofs.Common.{◌≡◌, ℕ, true, false, List, [], ◌∷◌, refl, sym, ap, ◌∙◌, subst, append-nil}
use Rattle.std.specs.Prelude.{Some}
use Rattle.sql_engine.specs.declared.kind.EngineKind.{EngineKind}
use Rattle.sql_engine.specs.Meanings.{Meaning}
use Rattle.sql_engine.specs.Replies.{Statement}
use Rattle.session_spec.specs.Engines.{Answer, AllowsFor}
use Rattle.session_spec.specs.Machine.{Machine, machine_of}
use Rattle.session_spec.specs.Requests.{on_later, handed_later, without_later}
use Rattle.session_spec.specs.Restarts.{restarted, shifted, shifted_turned, LatersRestart}
use Rattle.session_spec.specs.Sessions.{Gateway, View, Turned, Refused, Lacks, Answers, Proposes, Lends, Affects, later_query, lent_query}
use Rattle.session_spec.proofs.RestartedEvents.{events_shift_hold}
use Rattle.session_safety.specs.Nodes.{Said, Node as Life, Standing, databases, view_of}
use Rattle.session_safety.specs.Life.{Event as Doing, Resume, Done, undue, outcome_later, resumed_by, resumed, said_read, read_by, read, called, happens, AllowsLater, AllowsRead}
use Rattle.session_safety.specs.Answering.{comes}
use Rattle.session_safety.specs.Lending.{uses, answers_later}
use Rattle.raft_spec.specs.Node.{Node}
use Rattle.raft_spec.specs.NodeValues.{node_of}
use Rattle.raft_safety.specs.Members.{Setup}
use Rattle.node_spec.specs.Steps.{ReadIsAnswered}
use Rattle.node_spec.specs.Accounts.{Moment, StandsAt, no_piece, Lives}
use Rattle.node_spec.specs.Turns.{KeepsRaft, view_at}
use Rattle.node_spec.specs.ClientTurns.{ResumingGoes, ReadingBegins}
use Rattle.node_spec.proofs.Handling.{comes_of, shifted_comes, view_is}
use Rattle.node_spec.proofs.Moving.{no_inputs, quiet_goes, moved, due_stays, in_term, all_used, part_same, all_same}

-- ---- the node runs it

-- the moment at which the connection waits for it no more
abbrev undue_at : Moment → ℕ → Moment
undue_at a conn = record a { node = record a.node { sessions = without_later a.node.sessions conn } }

undue_stands : (vs : Setup) (a : Moment) (s : Node) (w : Life) (conn : ℕ) → StandsAt vs a s w → StandsAt vs (undue_at a conn) s (undue w conn)
undue_stands vs a s w conn x = record {
  twin = x.twin;
  raft = x.raft;
  up = x.up;
  log = x.log;
  weaves = x.weaves;
  applied = x.applied;
  within = x.within;
  term = x.term;
  leads = x.leads;
  serving = x.serving;
  machine = x.machine;
  lacks = x.lacks;
  since = x.since;
  files = x.files;
  sessions = ap (λ (g : Gateway). without_later g conn) x.sessions ∙ (events_shift_hold x.lacks a.node.sessions).later conn;
  kept = x.kept;
}

-- the query as the life runs it
record Same (w : Life) (lacks : List ℕ → ℕ) (standing : Standing) (conn : ℕ) (statement : Statement) (answers : List Answer) (v : View) (m : Machine) (g : Gateway) : Type 0 where
  turned : outcome_later w conn standing statement answers ≡ shifted_turned lacks (on_later v m g conn statement answers)
  given : handed_later (view_of w standing) (databases w) (undue w conn).gate conn statement ≡ handed_later v m g conn statement

same : LatersRestart → (w : Life) (lacks since : List ℕ → ℕ) (standing : Standing) (conn : ℕ) (statement : Statement) (answers : List Answer) (v : View) (m : Machine) (g : Gateway) → view_of w standing ≡ v → databases w ≡ restarted lacks since m → (undue w conn).gate ≡ shifted lacks g → Same w lacks standing conn statement answers v m g
same laters w lacks since standing conn statement answers v m g e f h =
    let r = laters v lacks since m g conn statement in
    let gate = (undue w conn).gate in
    record {
      turned = ap (λ z. on_later z (databases w) gate conn statement answers) e ∙ ap (λ z. on_later v z gate conn statement answers) f ∙ ap (λ z. on_later v (restarted lacks since m) z conn statement answers) h ∙ r.turned answers;
      given = ap (λ z. handed_later z (databases w) gate conn statement) e ∙ ap (λ z. handed_later v z gate conn statement) f ∙ ap (λ z. handed_later v (restarted lacks since m) z conn statement) h ∙ r.handed;
    }

-- if something comes of it, that is as of a request
resumed_is : (w : Life) (conn : ℕ) (t : Turned) → comes t ≡ true → resumed_by w conn t ≡ called (undue w conn) conn t
resumed_is w conn (Refused cause) c = refl
resumed_is w conn Lacks c = absurd cc
resumed_is w conn (Answers own reply note) c = refl
resumed_is w conn (Proposes own contents note) c = refl
resumed_is w conn (Lends own job) c = refl
resumed_is w conn (Affects effect) c = refl

pub resuming_goes_holds : LatersRestart → (m : Meaning) (kind : EngineKind) → ResumingGoes m kind
unfolding happens undue_stands
resuming_goes_holds laters m kind vs n bytes joins a b conn replies x = quiet_goes m kind vs n bytes joins a b (λ conn. []) replies x.answers false x.rest.raft (λ s w st long.
    let u = undue_stands vs a s w conn st in
    let later : later_query (w.gate.session conn).later ≡ Some x.statement = ap (λ (g : Gateway). later_query (g.session conn).later) st.sessions ∙ x.later in
    let like = same laters w st.lacks st.since x.standing conn x.statement x.answers (view_at a x.standing) (machine_of a.node.machine) (without_later a.node.sessions conn) (view_is vs a s w x.standing st x.idle) st.files u.sessions in
    let turned : outcome_later w conn x.standing x.statement x.answers ≡ shifted_turned st.lacks x.turned = like.turned ∙ ap (shifted_turned st.lacks) x.is in
    let e : Doing = Resume conn x.standing x.answers in
    let on : happens w e ≡ called (undue w conn) conn (shifted_turned st.lacks x.turned) =
    ap (resumed w conn x.standing x.answers) later ∙ ap (resumed_by w conn) turned ∙ resumed_is w conn (shifted_turned st.lacks x.turned) (shifted_comes st.lacks x.turned ∙ x.comes) in
    let keeps : KeepsRaft (undue_at a conn) b = record { raft = x.rest.raft; kept = x.rest.kept; applied = x.rest.applied; serving = x.rest.serving; machine = x.rest.machine; files = x.rest.files } in
    let r = comes_of vs (undue_at a conn) b s (undue w conn) conn x.standing u keeps x.idle long x.turned x.comes x.proposes x.sessions x.due in
    record {
      life = e ∷ [];
      said = r.said;
      weaves = tt;
      fits = (subst (AllowsLater m kind w conn x.standing x.answers) (sym later) (subst (λ z. AllowsFor m kind z x.answers) (sym like.given) x.allowed), tt);
      stands = subst (StandsAt vs b s) (sym on) r.stands;
      says = ap (λ (z : Life). z.said) on ∙ r.says;
      replies = x.says ∙ r.replies;
      lends = refl;
      uses = sym (append-nil (answers_later w conn x.standing x.answers (later_query (w.gate.session conn).later)) ∙ ap (answers_later w conn x.standing x.answers) later ∙ ap (λ z. uses z x.answers) like.given ∙ all_used _ x.answers x.exact);
      terms = λ f. in_term (happens w e) r.said r.early;
      early = λ z. r.early;
      joined = λ other z. ((λ q. cc), tt);
      handles = λ other. part_same (b.node.waiting other) (a.node.waiting other) (x.waiting other);
      completes = λ other o z. record { all = all_same (b.node.waiting other) (a.node.waiting other) (x.waiting other); handled = refl };
    })

-- ---- a reader answers

pub reading_begins_holds : (m : Meaning) (kind : EngineKind) → ReadingBegins m kind
unfolding happens
reading_begins_holds m kind vs n bytes joins a b conn reply x = record {
  made = ap node_of x.rest.raft;
  letters = refl;
  lives = λ s w is st takes told_so reads.
      let lent : lent_query (w.gate.session conn).later ≡ Some x.statement = ap (λ (g : Gateway). lent_query (g.session conn).later) st.sessions ∙ x.lent in
      let so : ReadIsAnswered m kind w conn reply (Some x.statement) = subst (ReadIsAnswered m kind w conn reply) lent reads in
      let e : Doing = Done conn so.0 in
      let v = read_by w conn x.statement (Some reply) in
      let on : happens w e ≡ v = ap (read w conn so.0) lent ∙ ap (read_by w conn x.statement) so.2 in
      let due = due_stays vs a b s w st x.same.due in
      let gate : without_later w.gate conn ≡ shifted st.lacks b.node.sessions = ap (λ (g : Gateway). without_later g conn) st.sessions ∙ (events_shift_hold st.lacks a.node.sessions).later conn ∙ ap (shifted st.lacks) (sym x.sessions) in
      let said : List Said = said_read w conn x.statement reply ∷ [] in
      subst (Lives m kind vs n joins a b (record no_piece { replies = (conn, reply) ∷ [] }) s w) (sym (no_inputs is takes.alike)) (record {
        life = e ∷ [];
        said = said;
        weaves = tt;
        fits = (subst (AllowsRead m kind w conn so.0) (sym lent) so.1, tt);
        stands = subst (StandsAt vs b s) (sym on) (moved vs a b s w v st x.rest gate due.0 due.1 refl refl refl refl refl);
        says = ap (λ (z : Life). z.said) on;
        replies = refl;
        lends = refl;
        uses = refl;
        terms = λ f. in_term (happens w e) said (refl, tt);
        early = λ z. (refl, tt);
        joined = λ other z. ((λ q. cc), tt);
        handles = λ other. part_same (b.node.waiting other) (a.node.waiting other) (x.same.waiting other);
        completes = λ other o z. record { all = all_same (b.node.waiting other) (a.node.waiting other) (x.same.waiting other); handled = refl };
      });
}
