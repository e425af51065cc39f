-- Connections that come and go, and what they ask, are stretches of an event.
use Rattle.std.proofs.Common.{◌≡◌, ◌≢◌, ⊎_elim, ℕ, Bool, true, false, true≢false, [], ◌∷◌, ◌++◌, refl, sym, ap, ◌∙◌, subst, append-nil}
use Rattle.std.specs.Prelude.{cond, ◌==◌, Option, Some, None}
use Rattle.std.proofs.lemmas.Bool.{cond-true, cond-false, eq-eqb, cases_eq}
use Rattle.sql_engine.specs.declared.kind.EngineKind.{EngineKind}
use Rattle.sql_engine.specs.Meanings.{Meaning}
use Rattle.session_spec.specs.Events.{tidy, left, on_hangup, connects, connected}
use Rattle.session_spec.specs.Restarts.{shifted}
use Rattle.session_spec.specs.Sessions.{Flight, Session, Gateway}
use Rattle.session_spec.proofs.RestartedEvents.{events_shift_hold}
use Rattle.session_safety.specs.Nodes.{Node as Life}
use Rattle.session_safety.specs.Life.{Connect, Hangup, joined, happens}
use Rattle.session_safety.specs.Answering.{IsOpen}
use Rattle.raft_spec.specs.Node.{Node}
use Rattle.raft_safety.specs.Members.{Setup}
use Rattle.node_spec.specs.Steps.{ArePartOf}
use Rattle.node_spec.specs.Accounts.{Moment, StandsAt}
use Rattle.node_spec.specs.ClientTurns.{StayingGoes, Connects, ConnectingGoes, HangingGoes, HearingGoes}
use Rattle.node_spec.proofs.Moving.{quiet_goes, moved, due_stays, part_same, all_same}
use Rattle.node_spec.proofs.Stretches.{part_self, part_none}

-- ---- nothing, and what is asked

pub staying_goes_holds : (m : Meaning) (kind : EngineKind) → StayingGoes m kind
staying_goes_holds m kind vs n bytes joins a b x = quiet_goes m kind vs n bytes joins a b (λ conn. []) [] [] false x.rest.raft (λ s w st long.
    let due = due_stays vs a b s w st x.same.due in
    record {
      life = [];
      said = [];
      weaves = tt;
      fits = tt;
      stands = moved vs a b s w w st x.rest (st.sessions ∙ ap (shifted st.lacks) (sym x.sessions)) due.0 due.1 refl refl refl refl refl;
      says = sym (append-nil w.said);
      replies = refl;
      lends = refl;
      uses = refl;
      terms = λ f. tt;
      early = λ z. tt;
      joined = λ conn z. tt;
      handles = λ conn. part_same (b.node.waiting conn) (a.node.waiting conn) (x.same.waiting conn);
      completes = λ conn o z. record { all = all_same (b.node.waiting conn) (a.node.waiting conn) (x.same.waiting conn); handled = refl };
    })

pub hearing_goes_holds : (m : Meaning) (kind : EngineKind) → HearingGoes m kind
hearing_goes_holds m kind vs n bytes joins a b asks x = quiet_goes m kind vs n bytes joins a b asks [] [] false x.rest.raft (λ s w st long.
    let due = due_stays vs a b s w st x.due in
    record {
      life = [];
      said = [];
      weaves = tt;
      fits = tt;
      stands = moved vs a b s w w st x.rest (st.sessions ∙ ap (shifted st.lacks) (sym x.sessions)) due.0 due.1 refl refl refl refl refl;
      says = sym (append-nil w.said);
      replies = refl;
      lends = refl;
      uses = refl;
      terms = λ f. tt;
      early = λ z. tt;
      joined = λ conn z. tt;
      handles = λ conn. subst (ArePartOf (b.node.waiting conn)) (x.waiting conn) (part_self (b.node.waiting conn));
      completes = λ conn o z. record { all = x.waiting conn; handled = refl };
    })

-- ---- a connection comes

same_conn : (conn other : ℕ) → Connect conn ≡ Connect other → conn ≡ other
same_conn conn other e = cc

-- the life where it came
record Came (vs : Setup) (b : Moment) (s : Node) (w v : Life) : Type 0 where
  stands : StandsAt vs b s v
  said : v.said ≡ w.said

came : (vs : Setup) (a b : Moment) (s : Node) (w : Life) (conn : ℕ) (x : Connects a b conn) → StandsAt vs a s w → (c : Bool) → connects a.node.sessions conn ≡ c → Came vs b s w (cond c (joined w conn) w)
came vs a b s w conn x st true e =
    let due = due_stays vs a b s w st x.same.due in
    let gate : connected w.gate conn ≡ shifted st.lacks b.node.sessions = ap (λ (g : Gateway). connected g conn) st.sessions ∙ (events_shift_hold st.lacks a.node.sessions).connected conn ∙ ap (shifted st.lacks) (sym (x.sessions ∙ cond-true (connects a.node.sessions conn) (connected a.node.sessions conn) a.node.sessions e)) in
    record { stands = moved vs a b s w (joined w conn) st x.rest gate due.0 due.1 refl refl refl refl refl; said = refl }
came vs a b s w conn x st false e =
    let due = due_stays vs a b s w st x.same.due in
    let gate : w.gate ≡ shifted st.lacks b.node.sessions = st.sessions ∙ ap (shifted st.lacks) (sym (x.sessions ∙ cond-false (connects a.node.sessions conn) (connected a.node.sessions conn) a.node.sessions e)) in
    record { stands = moved vs a b s w w st x.rest gate due.0 due.1 refl refl refl refl refl; said = refl }

pub connecting_goes_holds : (m : Meaning) (kind : EngineKind) → ConnectingGoes m kind
unfolding happens
connecting_goes_holds m kind vs n bytes a b conn x = quiet_goes m kind vs n bytes (Some conn) a b (λ conn. []) [] [] false x.rest.raft (λ s w st long.
    let room : connects w.gate conn ≡ connects a.node.sessions conn = ap (λ (g : Gateway). connects g conn) st.sessions ∙ (events_shift_hold st.lacks a.node.sessions).connects conn in
    let c = came vs a b s w conn x st (connects a.node.sessions conn) refl in
    let on : happens w (Connect conn) ≡ cond (connects a.node.sessions conn) (joined w conn) w = ap (λ (t : Bool). cond t (joined w conn) w) room in
    record {
      life = Connect conn ∷ [];
      said = [];
      weaves = tt;
      fits = (tt, tt);
      stands = subst (StandsAt vs b s) (sym on) c.stands;
      says = ap (λ (v : Life). v.said) on ∙ c.said ∙ sym (append-nil w.said);
      replies = refl;
      lends = refl;
      uses = refl;
      terms = λ f. tt;
      early = λ z. tt;
      joined = λ other z. ((λ q. z (ap Some (same_conn conn other q))), tt);
      handles = λ other. part_same (b.node.waiting other) (a.node.waiting other) (x.same.waiting other);
      completes = λ other o z. record { all = all_same (b.node.waiting other) (a.node.waiting other) (x.same.waiting other); handled = refl };
    })

-- ---- a connection goes

left_closed : (s : Session) (o : Option Flight) → IsOpen (left s o) → ⊥
left_closed s None o = absurd (true≢false (sym o.there))
left_closed s (Some f) o = absurd (true≢false o.here)

hung_closed : (g : Gateway) (conn : ℕ) → IsOpen ((on_hangup g conn).session conn) → ⊥
unfolding on_hangup tidy
hung_closed g conn o = left_closed (g.session conn) (g.session conn).flight (subst IsOpen (cond-true (conn == conn) (left (g.session conn) (g.session conn).flight) (g.session conn) (eq-eqb conn conn refl)) o)

pub hanging_goes_holds : (m : Meaning) (kind : EngineKind) → HangingGoes m kind
unfolding happens
hanging_goes_holds m kind vs n bytes joins a b conn x = quiet_goes m kind vs n bytes joins a b (λ conn. []) [] [] false x.rest.raft (λ s w st long.
    let due = due_stays vs a b s w st x.due in
    let gate : on_hangup w.gate conn ≡ shifted st.lacks b.node.sessions = ap (λ (g : Gateway). on_hangup g conn) st.sessions ∙ (events_shift_hold st.lacks a.node.sessions).hangup conn ∙ ap (shifted st.lacks) (sym x.sessions) in
    record {
      life = Hangup conn ∷ [];
      said = [];
      weaves = tt;
      fits = (tt, tt);
      stands = moved vs a b s w (happens w (Hangup conn)) st x.rest gate due.0 due.1 refl refl refl refl refl;
      says = sym (append-nil w.said);
      replies = refl;
      lends = refl;
      uses = refl;
      terms = λ f. tt;
      early = λ z. tt;
      joined = λ other z. ((λ q. cc), tt);
      handles = λ other. ⊎_elim
          (λ (e : other ≡ conn). subst (λ k. ArePartOf (b.node.waiting k) (a.node.waiting k ++ [])) (sym e) (subst (λ l. ArePartOf l (a.node.waiting conn ++ [])) (sym x.gone) (part_none (a.node.waiting conn ++ []))))
          (λ (e : other ≢ conn). part_same (b.node.waiting other) (a.node.waiting other) (x.others other e))
          (cases_eq other conn);
      completes = λ other o z. ⊎_elim
          (λ (e : other ≡ conn). absurd (hung_closed a.node.sessions conn (subst (λ (g : Gateway). IsOpen (g.session conn)) x.sessions (subst (λ k. IsOpen (b.node.sessions.session k)) e o))))
          (λ (e : other ≢ conn). record { all = all_same (b.node.waiting other) (a.node.waiting other) (x.others other e); handled = refl })
          (cases_eq other conn);
    })
