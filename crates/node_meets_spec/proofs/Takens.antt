-- What a node's clauses say of what it takes in, they say of what is alike.
use Rattle.std.proofs.Common.{◌≡◌, ◌⊎◌, ⊎_elim, ℕ, List, [], ◌∷◌, ◌++◌, take, sym, ap, ◌∙◌, subst}
use Rattle.sql_engine.specs.declared.kind.EngineKind.{EngineKind}
use Rattle.sql_engine.specs.Meanings.{Meaning}
use Rattle.session_spec.specs.Engines.{Answer}
use Rattle.session_spec.specs.Sessions.{Reply, Job}
use Rattle.session_safety.specs.Life.{Event as Doing}
use Rattle.wire_msgs.specs.declared.request.Request.{Request}
use Rattle.raft_spec.specs.Node as raft
use Rattle.raft_spec.specs.Account.{steps, said}
use Rattle.raft_spec.specs.Compaction.{compacted_step}
use Rattle.raft_spec.specs.NodeValues.{node_of}
use Rattle.raft_safety.specs.Cuts.{AlikeInputs, Twin}
use Rattle.raft_safety.specs.Members.{Setup, member_step}
use Rattle.store_laws.specs.Store.{Kept}
use Rattle.node_spec.specs.Nodes.{Node}
use Rattle.node_spec.specs.Steps.{Letter, Taken, BytesAre, TakesIn, ReadsIn, TellsVoters, VotersWereTold, JoinsOnly, Handles, AllTaken, Completes, ArePartOf, calls, CompletesStep, StopsInStep}
use Rattle.session_safety.specs.Nodes.{Node as Life}

-- no message is among what is taken in
abbrev pub NoneReceived : List raft.Input → Type 0
NoneReceived [] = Unit {0}
NoneReceived (raft.Local local ∷ is) = NoneReceived is
NoneReceived (raft.Receive m ∷ is) = ⊥

-- One is taken in as the other: of the bytes of a snapshot it matters only if a message is among what is taken in.
pub record AsTaken (x y : Taken) : Type 0 where
  pub inputs : x.inputs ≡ y.inputs
  pub bytes : (x.bytes ≡ y.bytes) ⊎ NoneReceived x.inputs
  pub joins : x.joins ≡ y.joins
  pub read : x.read ≡ y.read
  pub asks : (conn : ℕ) → x.asks conn ≡ y.asks conn

local_rest : (local : raft.LocalEvent) (js : List raft.Input) (j : raft.Input) (rest : List raft.Input) → js ≡ j ∷ rest → j ≡ raft.Local local → NoneReceived js → NoneReceived rest
local_rest local js j rest e f none = subst NoneReceived (e ∙ ap (λ i. i ∷ rest) f) none

none_comes : (m : raft.Message) (js : List raft.Input) (j : raft.Input) (rest : List raft.Input) → js ≡ j ∷ rest → j ≡ raft.Receive m → NoneReceived js → ⊥
none_comes m js j rest e f none = subst NoneReceived (e ∙ ap (λ i. i ∷ rest) f) none

-- without a message any bytes are right
any_bytes : (setup : Setup) (b c : List ℕ) (is js : List raft.Input) → AlikeInputs is js → NoneReceived js → BytesAre setup b is → BytesAre setup c is
any_bytes setup b c [] js a none h = tt
any_bytes setup b c (raft.Local local ∷ is) js a none h = any_bytes setup b c is a.1 a.4 (local_rest local js a.0 a.1 a.2 a.3 none) h
any_bytes setup b c (raft.Receive m ∷ is) js a none h = absurd (none_comes (record { from = m.from; to = m.to; term = m.term; what = a.3.0 }) js a.0 a.1 a.2 a.3.1 none)

module _ (setup : Setup) (me : ℕ) (x y : Taken) (like : AsTaken x y) where
  pub takes_in : (old : Node) (s : raft.Node) (is : List raft.Input) → TakesIn setup me old s is y → TakesIn setup me old s is x
  takes_in old s is t =
      let alike : AlikeInputs is x.inputs = subst (AlikeInputs is) (sym like.inputs) t.alike in
      record {
        alike = alike;
        front = ⊎_elim (λ (e : x.bytes ≡ y.bytes). subst (λ b. BytesAre setup b is) (sym e) t.front) (λ none. any_bytes setup y.bytes x.bytes is x.inputs alike none t.front) like.bytes;
        kept = t.kept;
        fronts = t.fronts;
        twins = λ k told. subst (λ (l : List raft.Input). Twin (steps (member_step setup me) s (take k is)) (steps (compacted_step me) (node_of old.raft) (take k l))) (sym like.inputs) (t.twins k told);
      }

  pub tells_as : (old : Node) → TellsVoters setup me old x → TellsVoters setup me old y
  tells_as old h = λ s w is st counts t. h s w is st counts (takes_in old s is t)

  pub counts_as : (old new : Node) → VotersWereTold setup me old new x → VotersWereTold setup me old new y
  counts_as old new h = λ s w is st counts t. h s w is st counts (takes_in old s is t)

  handles_as : (old : Node) (left : ℕ → List Request) (life : List Doing) → Handles old left x life → Handles old left y life
  handles_as old left life h = λ conn. subst (λ (l : List Request). ArePartOf (calls conn life ++ left conn) (old.waiting conn ++ l)) (like.asks conn) (h conn)

  completes_as : (old new : Node) (w : Life) (life : List Doing) → Completes old new x w life → Completes old new y w life
  completes_as old new w life h = λ conn there other.
      let c : AllTaken old new x w life conn = h conn there (λ e. other (sym like.joins ∙ e)) in
      record { all = c.all ∙ ap (λ (l : List Request). old.waiting conn ++ l) (like.asks conn); handled = c.handled; waits = c.waits; run = c.run }

  module _ (m : Meaning) (kind : EngineKind) where
    pub steps_as : (old new : Node) (letters : List Letter) (replies : List (ℕ × Reply)) (jobs : List (ℕ × Job)) (answers : List Answer) →
        CompletesStep m kind setup me old new x letters replies jobs answers → CompletesStep m kind setup me old new y letters replies jobs answers
    steps_as old new letters replies jobs answers h = λ s w is st t told reads served.
        let g = h s w is st (takes_in old s is t) told (subst (ReadsIn m kind w) (sym like.read) reads) served in (
          g.0,
          g.1,
          g.2,
          g.3 ∙ ap (said (compacted_step me) (node_of old.raft)) like.inputs,
          g.4,
          g.5,
          g.6,
          subst (λ j. JoinsOnly j g.0) like.joins g.7,
          handles_as old new.waiting g.0 g.8,
          completes_as old new w g.0 g.9,
        )

    pub stops_as : (old : Node) (kept : Kept) → StopsInStep m kind setup me old kept x → StopsInStep m kind setup me old kept y
    stops_as old kept h = λ s w is st t told reads.
        let g = h s w is st (takes_in old s is t) told (subst (ReadsIn m kind w) (sym like.read) reads) in
        (g.0, g.1, g.2, g.3, g.4, g.5, subst (λ j. JoinsOnly j g.3) like.joins g.6, handles_as old (λ conn. []) g.3 g.7)
