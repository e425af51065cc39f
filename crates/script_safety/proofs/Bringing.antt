-- What the events of a turn bring: starts, connections that come, and what is asked, only as in the turn.
use Rattle.std.proofs.Common.{◌≡◌, ◌≢◌, ℕ, Bool, true, false, List, [], ◌∷◌, refl, sym, ap, ◌∙◌}
use Rattle.std.specs.Prelude.{Some, None}
use Rattle.std.specs.List.{AllByRecursion}
use Rattle.node_core.specs.declared.event.Event as core
use Rattle.node_core.specs.Account.{Begin, Happens, Comes, Compacts, IsMore, AreOf, joins_of as joins_in}
use Rattle.cluster_safety.specs.Acts.{NotStarted, NotJoined, asked}
use Rattle.cluster_safety.specs.Runs.{Event}
use Rattle.node_meets_spec.specs.Comings.{asks_of as bytes_on}
use Rattle.node_meets_spec.specs.Steps.{NoneJoins, NoneAsk, StaysUp}
use Rattle.script_grammar.specs.declared.grammar.FaultTarget.{FaultTarget}
use Rattle.script_cluster.specs.Outcomes.{Outcome, Doing, Timeout, Beat, Connect, Bytes, Hangup, Receive, Start, Does}
use Rattle.script_safety.specs.Slots.{EventIs}
use Rattle.script_safety.specs.Turns.{is_start, joins_by, asks_by, TurnBrings}

-- whether a node is started by it
abbrev pub starts_so : Doing → Bool
starts_so (Start voters) = true
starts_so Timeout = false
starts_so Beat = false
starts_so (Connect conn) = false
starts_so (Bytes conn bytes) = false
starts_so (Hangup conn) = false
starts_so (Receive message) = false

none_some : (conn : ℕ) → None ≢ Some conn
none_some conn e = cc

pub true_false : true ≡ false → ⊥
true_false e = cc

-- whether it is a start
same_start : (n : ℕ) (doing : Doing) (aim : FaultTarget) (outcome : Outcome) → is_start (Does n doing aim outcome) ≡ starts_so doing
same_start n (Start voters) aim outcome = refl
same_start n Timeout aim outcome = refl
same_start n Beat aim outcome = refl
same_start n (Connect conn) aim outcome = refl
same_start n (Bytes conn bytes) aim outcome = refl
same_start n (Hangup conn) aim outcome = refl
same_start n (Receive message) aim outcome = refl

module _ (n : ℕ) where
  -- what the events of a node's step or start bring, by what the node does
  pub record Brought (doing : Doing) (es : List Event) : Type 0 where
    pub starts : (k : ℕ) → (k ≡ n → starts_so doing ≡ false) → NotStarted k es
    pub joined : (k conn : ℕ) → (k ≡ n → joins_by doing ≢ Some conn) → NotJoined k conn es
    pub asks : (k conn : ℕ) → (k ≡ n → asks_by doing ≢ Some conn) → asked k conn es ≡ []

  more_join : (begin : Begin) (conn : ℕ) → IsMore begin → joins_in begin ≢ Some conn
  more_join (Happens event) conn is = absurd is
  more_join (Comes message) conn is = none_some conn
  more_join (Compacts index) conn is = none_some conn

  more_ask : (begin : Begin) (conn : ℕ) → IsMore begin → bytes_on begin ≢ Some conn
  more_ask (Happens event) conn is = absurd is
  more_ask (Comes message) conn is = none_some conn
  more_ask (Compacts index) conn is = none_some conn

  all_join : (begins : List Begin) (conn : ℕ) → AllByRecursion IsMore begins → NoneJoins conn begins
  all_join [] conn is = tt
  all_join (b ∷ bs) conn is = (more_join b conn is.0, all_join bs conn is.1)

  all_ask : (begins : List Begin) (conn : ℕ) → AllByRecursion IsMore begins → NoneAsk conn begins
  all_ask [] conn is = tt
  all_ask (b ∷ bs) conn is = (more_ask b conn is.0, all_ask bs conn is.1)

  event_joins : (doing : Doing) (event : core.Event) → EventIs doing event → joins_in (Happens event) ≡ joins_by doing
  event_joins Timeout event is = ap (λ (e : core.Event). joins_in (Happens e)) is
  event_joins Beat event is = ap (λ (e : core.Event). joins_in (Happens e)) is
  event_joins (Connect conn) event is = ap (λ (e : core.Event). joins_in (Happens e)) is
  event_joins (Bytes conn bytes) event is = ap (λ (e : core.Event). joins_in (Happens e)) is
  event_joins (Hangup conn) event is = ap (λ (e : core.Event). joins_in (Happens e)) is
  event_joins (Receive message) event is = ap (λ (e : core.Event). joins_in (Happens e)) is
  event_joins (Start voters) event is = absurd is

  event_asks : (doing : Doing) (event : core.Event) → EventIs doing event → bytes_on (Happens event) ≡ asks_by doing
  event_asks Timeout event is = ap (λ (e : core.Event). bytes_on (Happens e)) is
  event_asks Beat event is = ap (λ (e : core.Event). bytes_on (Happens e)) is
  event_asks (Connect conn) event is = ap (λ (e : core.Event). bytes_on (Happens e)) is
  event_asks (Bytes conn bytes) event is = ap (λ (e : core.Event). bytes_on (Happens e)) is
  event_asks (Hangup conn) event is = ap (λ (e : core.Event). bytes_on (Happens e)) is
  event_asks (Receive message) event is = ap (λ (e : core.Event). bytes_on (Happens e)) is
  event_asks (Start voters) event is = absurd is

  none_joins : (doing : Doing) (event : core.Event) (begins : List Begin) (conn : ℕ) → EventIs doing event → AreOf event begins → joins_by doing ≢ Some conn → NoneJoins conn begins
  none_joins doing event [] conn is of none = tt
  none_joins doing event (b ∷ bs) conn is of none = ((λ e. none (sym (ap joins_in of.0 ∙ event_joins doing event is) ∙ e)), all_join bs conn of.1)

  none_asks : (doing : Doing) (event : core.Event) (begins : List Begin) (conn : ℕ) → EventIs doing event → AreOf event begins → asks_by doing ≢ Some conn → NoneAsk conn begins
  none_asks doing event [] conn is of none = tt
  none_asks doing event (b ∷ bs) conn is of none = ((λ e. none (sym (ap bytes_on of.0 ∙ event_asks doing event is) ∙ e)), all_ask bs conn of.1)

  pub brought : (doing : Doing) (event : core.Event) (begins : List Begin) (es : List Event) → EventIs doing event → AreOf event begins → StaysUp n begins es → Brought doing es
  brought doing event begins es is of s = record {
    starts = λ k none. s.starts k;
    joined = λ k conn none. s.joined k conn (λ at. none_joins doing event begins conn is of (none at));
    asks = λ k conn none. s.asks k conn (λ at. none_asks doing event begins conn is of (none at));
  }

  pub by_doing : (doing : Doing) (aim : FaultTarget) (outcome : Outcome) (es : List Event) → Brought doing es → TurnBrings (Does n doing aim outcome) es
  by_doing doing aim outcome es b = record {
    starts = λ k none. b.starts k (λ at. sym (same_start n doing aim outcome) ∙ none at);
    joined = λ k conn none. b.joined k conn none;
    asks = λ k conn none. b.asks k conn none;
  }
