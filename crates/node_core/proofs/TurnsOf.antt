-- Each turn of a node, by its facts as the rules have them, is a turn of the account.
use Rattle.std.proofs.Common.{◌≡◌, inl, ℕ, true, false, List, [], ◌∷◌, refl}
use Rattle.std.specs.Prelude.{Option, Some, None}
use Rattle.wire_msgs.specs.declared.request.Request.{Request}
use Rattle.sql_engine.specs.declared.kind.EngineKind.{EngineKind}
use Rattle.sql_engine.specs.Meanings.{Meaning, Told}
use Rattle.session_statements.specs.Running.{TellsAll}
use Rattle.session_statements.proofs.Telling.{tells_none}
use Rattle.session_spec.specs.Entries.{Content}
use Rattle.session_spec.specs.Sessions.{Reply}
use Rattle.session_safety.specs.Lending.{lends_by}
use Rattle.raft_spec.specs.Log.{Entry}
use Rattle.raft_spec.specs.Node as raft
use Rattle.raft_safety.specs.Members.{Setup}
use Rattle.raft_on_disk.specs.Replicas.{kept_of}
use Rattle.node_spec.specs.Accounts.{no_piece}
use Rattle.node_spec.specs.ClientTurns.{Stays, Connects, HangsUp, Hears, Applies, Resumes, ResumingGoes, Reads, Serves}
use Rattle.node_spec.specs.RaftTurns.{Leaves, LeavingGoes, Follows, FollowingGoes, Installs, InstallGoes, TakesSnapshot, SnapshotGoes}
use Rattle.node_spec.specs.Steps.{Letter, AllSent}
use Rattle.node_spec.specs.Turns.{Handles, HandlingGoes, Proposes, Owes}
use Rattle.node_spec.proofs.Applying.{applying_goes_holds}
use Rattle.node_spec.proofs.Connecting.{staying_goes_holds, connecting_goes_holds, hanging_goes_holds, hearing_goes_holds}
use Rattle.node_spec.proofs.Later.{reading_begins_holds}
use Rattle.node_spec.proofs.Owing.{owing_goes_holds}
use Rattle.node_spec.proofs.Serving.{serving_goes_holds}
use Rattle.node_spec.proofs.Stretches.{goes_begins_holds}
use Rattle.node_spec.proofs.Taking.{proposal_goes_holds}
use Rattle.node_core.specs.declared.running.Running.{Running}
use Rattle.node_core.specs.Account.{moment_of, Says, Brought, IsOwn, KnowsServers}
use Rattle.node_core.proofs.Accounting.{TurnsIn, QuietTurns, SinceIn, adds_none, since_nothing, since_on}

module _ (m : Meaning) (kind : EngineKind) (setup : Setup) (a b : Running) (id : b.replica.id ≡ a.replica.id) where
  module _ (bytes : List ℕ) (joins : Option ℕ) where
    -- a turn in which the engine isn't asked
    abbrev So : Option Told → Type 0
    So told = QuietTurns m kind setup bytes joins a b told told

    -- ---- what is done for clients

    pub turns_stays : {told : Option Told} → Stays (moment_of a) (moment_of b) → Says a b [] [] [] → So told
    turns_stays x says = (record { piece = no_piece; goes = staying_goes_holds m kind setup a.replica.id bytes joins (moment_of a) (moment_of b) x; inputs = adds_none []; asks = λ conn. refl; says = says; heard = tells_none _; sent = tt; id = id }, refl)

    pub turns_hangs : {told : Option Told} → (conn : ℕ) → HangsUp (moment_of a) (moment_of b) conn → Says a b [] [] [] → So told
    turns_hangs conn x says = (record { piece = no_piece; goes = hanging_goes_holds m kind setup a.replica.id bytes joins (moment_of a) (moment_of b) conn x; inputs = adds_none []; asks = λ conn. refl; says = says; heard = tells_none _; sent = tt; id = id }, refl)

    pub turns_handles : {before now : Option Told} → HandlingGoes m kind → (conn : ℕ) (request : Request) (replies : List (ℕ × Reply)) → (x : Handles m kind (moment_of a) (moment_of b) conn request replies) → Says a b [] replies (lends_by conn x.turned) → TellsAll x.answers before now → QuietTurns m kind setup bytes joins a b before now
    turns_handles law conn request replies x says heard = (record { piece = record no_piece { replies = replies; jobs = lends_by conn x.turned; answers = x.answers }; goes = law setup a.replica.id bytes joins (moment_of a) (moment_of b) conn request replies x; inputs = adds_none []; asks = λ conn. refl; says = says; heard = heard; sent = tt; id = id }, refl)

    pub turns_resumes : {before now : Option Told} → ResumingGoes m kind → (conn : ℕ) (replies : List (ℕ × Reply)) → (x : Resumes m kind (moment_of a) (moment_of b) conn replies) → Says a b [] replies [] → TellsAll x.answers before now → QuietTurns m kind setup bytes joins a b before now
    turns_resumes law conn replies x says heard = (record { piece = record no_piece { replies = replies; answers = x.answers }; goes = law setup a.replica.id bytes joins (moment_of a) (moment_of b) conn replies x; inputs = adds_none []; asks = λ conn. refl; says = says; heard = heard; sent = tt; id = id }, refl)

    -- this one is late
    pub turns_applies : {told : Option Told} → (replies : List (ℕ × Reply)) → Applies (moment_of a) (moment_of b) replies → Says a b [] replies [] → So told
    turns_applies replies x says = (record { piece = record no_piece { replies = replies; late = true }; goes = applying_goes_holds m kind setup a.replica.id bytes joins (moment_of a) (moment_of b) replies x; inputs = adds_none []; asks = λ conn. refl; says = says; heard = tells_none _; sent = tt; id = id }, refl)

    pub turns_owes : {told : Option Told} → (contents : List Content) → Owes (moment_of a) (moment_of b) contents → Says a b [] [] [] → So told
    turns_owes contents x says = (record { piece = no_piece; goes = owing_goes_holds m kind setup a.replica.id bytes joins (moment_of a) (moment_of b) contents x; inputs = adds_none []; asks = λ conn. refl; says = says; heard = tells_none _; sent = tt; id = id }, refl)

    pub turns_serves : {told : Option Told} → Serves (moment_of a) (moment_of b) → Says a b [] [] [] → So told
    turns_serves x says = (record { piece = no_piece; goes = serving_goes_holds m kind setup a.replica.id bytes joins (moment_of a) (moment_of b) x; inputs = adds_none []; asks = λ conn. refl; says = says; heard = tells_none _; sent = tt; id = id }, refl)

    -- ---- Raft's own inputs

    pub turns_proposes : {told : Option Told} → (es : List Entry) (letters : List Letter) → Proposes a.replica.id (moment_of a) (moment_of b) es letters → Says a b letters [] [] → AllSent (kept_of a.replica) (kept_of b.replica) letters → TurnsIn m kind setup bytes joins a b told told (raft.Local (raft.Propose es) ∷ [])
    turns_proposes es letters x says sent = (
      record {
        piece = record no_piece { inputs = raft.Local (raft.Propose es) ∷ []; letters = letters };
        goes = proposal_goes_holds m kind setup a.replica.id bytes joins (moment_of a) (moment_of b) es letters x;
        inputs = record { own = raft.Local (raft.Propose es) ∷ []; each = (tt, tt); is = refl };
        asks = λ conn. refl;
        says = says;
        heard = tells_none _;
        sent = sent;
        id = id;
      },
      refl,
    )

    pub turns_leaves : {told : Option Told} → LeavingGoes m kind → (i : raft.Input) (letters : List Letter) → IsOwn i → Leaves a.replica.id (moment_of a) (moment_of b) i letters → Says a b letters [] [] → AllSent (kept_of a.replica) (kept_of b.replica) letters → TurnsIn m kind setup bytes joins a b told told (i ∷ [])
    turns_leaves law i letters own x says sent = (
      record {
        piece = record no_piece { inputs = i ∷ []; letters = letters };
        goes = law setup a.replica.id bytes joins (moment_of a) (moment_of b) i letters x;
        inputs = record { own = i ∷ []; each = (own, tt); is = refl };
        asks = λ conn. refl;
        says = says;
        heard = tells_none _;
        sent = sent;
        id = id;
      },
      refl,
    )

    -- no reply of it waited
    pub early_leaves : (told : Option Told) (law : LeavingGoes m kind) (i : raft.Input) (letters : List Letter) (own : IsOwn i) (x : Leaves a.replica.id (moment_of a) (moment_of b) i letters) (says : Says a b letters [] []) (sent : AllSent (kept_of a.replica) (kept_of b.replica) letters) →
        (turns_leaves {told = told} law i letters own x says sent).0.piece.late ≡ false
    unfolding turns_leaves
    early_leaves told law i letters own x says sent = refl

  -- ---- what an event brings

  -- a turn in which nothing comes in may be the first
  pub since_turn : {before now : Option Told} (x : Brought) (more : List raft.Input) → x.inputs ≡ [] → ((conn : ℕ) → x.asks conn ≡ []) → (t : TurnsIn m kind setup x.bytes x.joins a b before now more) → SinceIn m kind setup x t.0.piece.late a b before now more
  unfolding since_on since_nothing
  since_turn x more inputs asks t = (since_on m kind setup x false a a b (since_nothing m kind setup x a inputs asks) t.0 (inl refl) (inl refl), t.1)

  pub since_connects : {told : Option Told} → (conn : ℕ) → Connects (moment_of a) (moment_of b) conn → Says a b [] [] [] → SinceIn m kind setup (record { inputs = []; bytes = []; joins = Some conn; read = None; asks = λ other. [] }) false a b told told []
  since_connects conn x says = (
    record {
      piece = no_piece;
      goes = λ known. goes_begins_holds m kind setup a.replica.id [] (Some conn) None (moment_of a) (moment_of b) no_piece (connecting_goes_holds m kind setup a.replica.id [] (moment_of a) (moment_of b) conn x);
      inputs = adds_none [];
      asks = λ other. refl;
      is_late = refl;
      says = says;
      heard = tells_none _;
      sent = tt;
      id = id;
    },
    refl,
  )

  pub since_hears : {told : Option Told} → (asks : ℕ → List Request) → Hears (moment_of a) (moment_of b) asks → Says a b [] [] [] → SinceIn m kind setup (record { inputs = []; bytes = []; joins = None; read = None; asks = asks }) false a b told told []
  since_hears asks x says = (
    record {
      piece = record no_piece { asks = asks };
      goes = λ known. goes_begins_holds m kind setup a.replica.id [] None None (moment_of a) (moment_of b) (record no_piece { asks = asks }) (hearing_goes_holds m kind setup a.replica.id [] None (moment_of a) (moment_of b) asks x);
      inputs = adds_none [];
      asks = λ other. refl;
      is_late = refl;
      says = says;
      heard = tells_none _;
      sent = tt;
      id = id;
    },
    refl,
  )

  pub since_reads : {told : Option Told} → (conn : ℕ) (reply : Reply) → Reads (moment_of a) (moment_of b) conn → Says a b [] ((conn, reply) ∷ []) [] → SinceIn m kind setup (record { inputs = []; bytes = []; joins = None; read = Some (conn, reply); asks = λ other. [] }) false a b told told []
  since_reads conn reply x says = (
    record {
      piece = record no_piece { replies = (conn, reply) ∷ [] };
      goes = λ known. reading_begins_holds m kind setup a.replica.id [] None (moment_of a) (moment_of b) conn reply x;
      inputs = adds_none [];
      asks = λ other. refl;
      is_late = refl;
      says = says;
      heard = tells_none _;
      sent = tt;
      id = id;
    },
    refl,
  )

  module _ (bytes : List ℕ) where
    -- an input of Raft that comes in, with these bytes of a snapshot
    abbrev pub came : raft.Input → Brought
    came i = record { inputs = i ∷ []; bytes = bytes; joins = None; read = None; asks = λ other. [] }

    pub since_follows : {told : Option Told} → FollowingGoes m kind → (i : raft.Input) (letters : List Letter) (replies : List (ℕ × Reply)) → Follows a.replica.id (moment_of a) (moment_of b) i letters replies →
        Says a b letters replies [] → AllSent (kept_of a.replica) (kept_of b.replica) letters → SinceIn m kind setup (came i) false a b told told (i ∷ [])
    since_follows law i letters replies x says sent = (
      record {
        piece = record no_piece { inputs = i ∷ []; letters = letters; replies = replies };
        goes = λ known. goes_begins_holds m kind setup a.replica.id bytes None None (moment_of a) (moment_of b) (record no_piece { inputs = i ∷ []; letters = letters; replies = replies }) (law setup a.replica.id bytes None (moment_of a) (moment_of b) i letters replies x);
        inputs = adds_none (i ∷ []);
        asks = λ other. refl;
        is_late = refl;
        says = says;
        heard = tells_none _;
        sent = sent;
        id = id;
      },
      refl,
    )

    pub since_leaves : {told : Option Told} → LeavingGoes m kind → (i : raft.Input) (letters : List Letter) → Leaves a.replica.id (moment_of a) (moment_of b) i letters →
        Says a b letters [] [] → AllSent (kept_of a.replica) (kept_of b.replica) letters → SinceIn m kind setup (came i) false a b told told (i ∷ [])
    since_leaves law i letters x says sent = (
      record {
        piece = record no_piece { inputs = i ∷ []; letters = letters };
        goes = λ known. goes_begins_holds m kind setup a.replica.id bytes None None (moment_of a) (moment_of b) (record no_piece { inputs = i ∷ []; letters = letters }) (law setup a.replica.id bytes None (moment_of a) (moment_of b) i letters x);
        inputs = adds_none (i ∷ []);
        asks = λ other. refl;
        is_late = refl;
        says = says;
        heard = tells_none _;
        sent = sent;
        id = id;
      },
      refl,
    )

    pub since_installs : {told : Option Told} → InstallGoes m kind → (message : raft.Message) (letters : List Letter) (replies : List (ℕ × Reply)) → Installs setup a.replica.id (moment_of a) (moment_of b) bytes message letters replies →
        Says a b letters replies [] → AllSent (kept_of a.replica) (kept_of b.replica) letters → SinceIn m kind setup (came (raft.Receive message)) false a b told told (raft.Receive message ∷ [])
    since_installs law message letters replies x says sent = (
      record {
        piece = record no_piece { inputs = raft.Receive message ∷ []; letters = letters; replies = replies };
        goes = λ known. goes_begins_holds m kind setup a.replica.id bytes None None (moment_of a) (moment_of b) (record no_piece { inputs = raft.Receive message ∷ []; letters = letters; replies = replies }) (law setup a.replica.id bytes None (moment_of a) (moment_of b) message letters replies x);
        inputs = adds_none (raft.Receive message ∷ []);
        asks = λ other. refl;
        is_late = refl;
        says = says;
        heard = tells_none _;
        sent = sent;
        id = id;
      },
      refl,
    )

    pub since_snapshot : {told : Option Told} → SnapshotGoes m kind → (index : ℕ) (letters : List Letter) → (KnowsServers setup a → TakesSnapshot setup a.replica.id (moment_of a) (moment_of b) index letters) →
        Says a b letters [] [] → AllSent (kept_of a.replica) (kept_of b.replica) letters → SinceIn m kind setup (came (raft.Local (raft.Snapped index))) false a b told told (raft.Local (raft.Snapped index) ∷ [])
    since_snapshot law index letters x says sent = (
      record {
        piece = record no_piece { inputs = raft.Local (raft.Snapped index) ∷ []; letters = letters };
        goes = λ known. goes_begins_holds m kind setup a.replica.id bytes None None (moment_of a) (moment_of b) (record no_piece { inputs = raft.Local (raft.Snapped index) ∷ []; letters = letters }) (law setup a.replica.id bytes None (moment_of a) (moment_of b) index letters (x known));
        inputs = adds_none (raft.Local (raft.Snapped index) ∷ []);
        asks = λ other. refl;
        is_late = refl;
        says = says;
        heard = tells_none _;
        sent = sent;
        id = id;
      },
      refl,
    )
