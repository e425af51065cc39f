-- Whole nodes with engines of cells are exact, and so their scripts repeat.
use Rattle.std.proofs.Common.{◌≡◌, ◌≢◌, ℕ, ◌==◌, Bool, true, false, cond, List, [], ◌∷◌, ◌++◌, Option, Some, None, refl, sym, ap, subst, ◌∙◌, append-nil}
use Rattle.std.specs.List.{AllByRecursion}
use Rattle.std.proofs.lemmas.Bool.{eqb-true}
use Rattle.sql_engine.specs.declared.kind.EngineKind.TheVariants.{Cells}
use Rattle.sql_engine.specs.Cells.{cells}
use Rattle.session_spec.specs.Engines.{Answer}
use Rattle.raft_safety.specs.Members.{Setup}
use Rattle.store_laws.specs.Store.{Kept}
use Rattle.raft_on_disk.specs.Keeping.{kept_at}
use Rattle.applied_state.specs.Snapshot.{contents_in}
use Rattle.node_core.specs.declared.event.Event as core
use Rattle.node_core.specs.declared.outs.StepOutputs as core_outs
use Rattle.node_core.specs.declared.running.Running.{Running}
use Rattle.node_core.specs.Core.{Core, core_of}
use Rattle.node_core.specs.Exact.{StepsExactly}
use Rattle.node_core.specs.ExactStart.{StartsExactly}
use Rattle.node_core.specs.Values.{seen}
use Rattle.cluster_safety.specs.Runs.{nothing_kept}
use Rattle.script_determinism.specs.CoreSteps.{IsAlone, IsUnread, IsSame, StepsAreDecided, StartsAreDecided, KeptIsOfCore}
use Rattle.script_determinism.proofs.SameRuns.{steps_decided, starts_decided, kept_of_core}
use Rattle.script_grammar.specs.declared.grammar.FaultTarget.{FaultTarget}
use Rattle.script_cluster.specs.Voters.{voters_from}
use Rattle.script_cluster.specs.Knowing.{actor, turns_at, with_over}
use Rattle.script_cluster.specs.Outcomes.{Standing, Outs, Ending, Steps, Starts, Stops, Fails, Unreadable, Outcome, Doing, Timeout, Beat, Connect, Bytes, Hangup, Receive, Start, Turn, Does, Crashes}
use Rattle.script_runner.specs.Run.{run}
use Rattle.script_runner.proofs.Likeness.{run_twin}
use Rattle.script_safety.specs.Slots.{Seat, Runs as NodeRuns, Rests as NodeRests, EventIs, StepDone, StartDone, SlotShowsNode, SlotEnds, SlotTurn, SlotPath, outs_of, setup_of}
use Rattle.script_safety.specs.Mails.{ByNodes, OverByNode}
use Rattle.script_safety.specs.Turns.{HasLoaded, AllLoad}
use Rattle.script_safety.proofs.Answering.{told_are}
use Rattle.script_safety.proofs.Scripts.{loads_never_fail_hold}
use Rattle.script_determinism.specs.Plain.{plain_outcome}
use Rattle.script_determinism.specs.Nodes.{Path, EndsWell, IsAmple, GoesWell, AreLed, ComesTo, AreExact, MayCrash}
use Rattle.script_determinism.specs.Repeats.{IsLed, StartWith, BrokeOff, BrokenRunsRepeat, FrontsRepeat, RunsCompare, WholeRunsRepeat}
use Rattle.script_determinism.proofs.Paths.{turns_join, well_at}
use Rattle.script_determinism.proofs.Running.{broken_runs_repeat, fronts_repeat, runs_compare, whole_runs_repeat}
use Rattle.script_determinism.specs.Cores.{CoreSeat, Runs, Rests, stands_at, StepsAt, StartsAt, EndsAt, CrashesAt, TurnsAt, cell_nodes}
use Rattle.script_determinism.specs.Decided.{NoneFailed, GoesUntroubled, IsOfCells, BrokeOffCells, CellBrokenRepeat, CellFrontsRepeat, CellScriptsCompare, CellScriptsRepeat}

-- ---- events

same_event : (doing : Doing) (event also : core.Event) → EventIs doing event → EventIs doing also → event ≡ also
same_event Timeout event also a b = a ∙ sym b
same_event Beat event also a b = a ∙ sym b
same_event (Connect conn) event also a b = a ∙ sym b
same_event (Bytes conn bytes) event also a b = a ∙ sym b
same_event (Hangup conn) event also a b = a ∙ sym b
same_event (Receive message) event also a b = a ∙ sym b
same_event (Start voters) event also a b = absurd a

unread : (doing : Doing) (event : core.Event) → EventIs doing event → IsUnread event
unread Timeout event a = subst IsUnread (sym a) tt
unread Beat event a = subst IsUnread (sym a) tt
unread (Connect conn) event a = subst IsUnread (sym a) tt
unread (Bytes conn bytes) event a = subst IsUnread (sym a) tt
unread (Hangup conn) event a = subst IsUnread (sym a) tt
unread (Receive message) event a = subst IsUnread (sym a) tt
unread (Start voters) event a = absurd a

start_same : (voters also : ℕ) → Start voters ≡ Start also → voters ≡ also
start_same voters also e = cc

-- what is said is the same
same_outs : (one other : core_outs.StepOutputs) → one.replies.items ≡ other.replies.items → one.closed.items ≡ other.closed.items → one.messages.items ≡ other.messages.items → outs_of one ≡ outs_of other
same_outs one other replies closed messages = λ i. record { replies = replies i; closed = closed i; messages = messages i }

module _ (steps : StepsAreDecided) (starts : StartsAreDecided) where
  -- ---- nodes are exact

  steps_same : (w v u : Core) (doing : Doing) (a b : List Answer) (outs also : Outs) (standing stood : Standing) → AllByRecursion IsAmple a → AllByRecursion IsAmple b
      → StepsAt w v doing a outs standing → StepsAt w u doing b also stood → ComesTo cell_nodes (record { answers = a; ending = Steps outs standing }) (record { answers = b; ending = Steps also stood }) (Runs v) (Runs u)
  steps_same w v u doing a b outs also standing stood ample enough x y =
      let same : IsSame v u x.said y.said a b =
      steps x.event w v u x.said y.said a b (unread doing x.event x.is) x.alone x.steps
      (subst (λ (event : core.Event). StepsExactly cells Cells event w u y.said b) (same_event doing y.event x.event y.is x.is) y.steps) ample enough in
      let said : outs ≡ also = x.outs_are ∙ same_outs x.said y.said same.replies same.closed same.messages ∙ sym y.outs_are in
      let stands : standing ≡ stood = x.stands ∙ ap stands_at same.core ∙ sym y.stands in
      record { outcome = λ i. record { answers = same.answers i; ending = Steps (said i) (stands i) }; core = ap Runs same.core }

  starts_same : (n : ℕ) (kept loaded also : Kept) (v u : Core) (doing : Doing) (a b : List Answer) (standing stood : Standing)
      → StartsAt n kept loaded v doing a standing → StartsAt n kept also u doing b stood → ComesTo cell_nodes (record { answers = a; ending = Starts loaded standing }) (record { answers = b; ending = Starts also stood }) (Runs v) (Runs u)
  starts_same n kept loaded also v u doing a b standing stood x y =
      let voters : y.voters ≡ x.voters = start_same y.voters x.voters (sym y.is ∙ x.is) in
      let same : v ≡ u =
      (starts n (voters_from x.voters 1) kept v u x.starts (subst (λ (voters : ℕ). StartsExactly n _ _ (voters_from voters 1) kept u) voters y.starts)).0 in
      let answers : a ≡ b = x.unasked ∙ sym y.unasked in
      let loads : loaded ≡ also = x.loads ∙ sym y.loads in
      let stands : standing ≡ stood = x.stands ∙ ap stands_at same ∙ sym y.stands in
      record { outcome = λ i. plain_outcome (record { answers = answers i; ending = Starts (loads i) (stands i) }); core = ap Runs same }

  ends_same : (n : ℕ) (doing : Doing) (a b : List Answer) (ending ended : Ending) (old new now : CoreSeat) → EndsWell ending → EndsWell ended → AllByRecursion IsAmple a → AllByRecursion IsAmple b
      → EndsAt n old doing a ending new → EndsAt n old doing b ended now → ComesTo cell_nodes (record { answers = a; ending = ending }) (record { answers = b; ending = ended }) new now
  ends_same n doing a b (Steps outs standing) (Steps also stood) (Runs w) (Runs v) (Runs u) well fine ample enough x y = steps_same w v u doing a b outs also standing stood ample enough x y
  ends_same n doing a b (Starts loaded standing) (Starts also stood) (Rests kept) (Runs v) (Runs u) well fine ample enough x y = starts_same n kept loaded also v u doing a b standing stood x y
  ends_same n doing a b (Stops keeps) ended old new now well fine ample enough x y = absurd well
  ends_same n doing a b (Fails keeps) ended old new now well fine ample enough x y = absurd well
  ends_same n doing a b Unreadable ended old new now well fine ample enough x y = absurd well
  ends_same n doing a b ending (Stops keeps) old new now well fine ample enough x y = absurd fine
  ends_same n doing a b ending (Fails keeps) old new now well fine ample enough x y = absurd fine
  ends_same n doing a b ending Unreadable old new now well fine ample enough x y = absurd fine
  ends_same n doing a b (Steps outs standing) ended (Rests kept) new now well fine ample enough x y = absurd x
  ends_same n doing a b (Steps outs standing) ended (Runs w) (Rests kept) now well fine ample enough x y = absurd x
  ends_same n doing a b (Starts loaded standing) ended (Runs w) new now well fine ample enough x y = absurd x
  ends_same n doing a b (Starts loaded standing) ended (Rests kept) (Rests left) now well fine ample enough x y = absurd x
  ends_same n doing a b (Steps outs standing) (Starts also stood) (Runs w) (Runs v) now well fine ample enough x y = absurd y
  ends_same n doing a b (Steps outs standing) (Steps also stood) (Runs w) (Runs v) (Rests kept) well fine ample enough x y = absurd y
  ends_same n doing a b (Starts loaded standing) (Steps also stood) (Rests kept) (Runs v) now well fine ample enough x y = absurd y
  ends_same n doing a b (Starts loaded standing) (Starts also stood) (Rests kept) (Runs v) (Rests left) well fine ample enough x y = absurd y

  crashes_same : (old new now : CoreSeat) → CrashesAt old new → CrashesAt old now → new ≡ now
  crashes_same (Runs w) (Rests kept) (Rests left) x y = ap Rests (x ∙ sym y)
  crashes_same (Rests old) (Rests kept) (Rests left) x y = ap Rests (x ∙ sym y)
  crashes_same old (Runs v) now x y = absurd x
  crashes_same old (Rests kept) (Runs u) x y = absurd y

  -- a crash leads on from every seat
  nodes_may_crash : MayCrash cell_nodes
  nodes_may_crash n k pick (Runs w) = (Rests (kept_at w.raft w.snap.bytes), refl)
  nodes_may_crash n k pick (Rests kept) = (Rests kept, refl)

  pub nodes_exact : AreExact cell_nodes
  nodes_exact = record {
    does = λ n k also doing aim aimed one other old was new now same x y well fine.
        ends_same n doing one.answers other.answers one.ending other.ending old new now well.ends fine.ends well.ample fine.ample x
        (subst (λ (seat : CoreSeat). EndsAt n seat doing other.answers other.ending now) (sym same) y);
    crashes = λ n k also pick picked old was new now same x y. crashes_same old new now x (subst (λ (seat : CoreSeat). CrashesAt seat now) (sym same) y);
  }

  -- ---- whole nodes are nodes of this kind

  module _ (keeps : KeptIsOfCore) where
    -- the seat of a node
    abbrev seat_of : Seat → CoreSeat
    seat_of (NodeRuns node) = Runs (core_of node)
    seat_of (NodeRests kept) = Rests kept

    -- a node that runs has no peer connections and no readers
    abbrev IsLone : Seat → Type 0
    IsLone (NodeRuns node) = IsAlone (core_of node)
    IsLone (NodeRests kept) = Unit {0}

    record Turned (n : ℕ) (old : Seat) (turn : Turn) (new : Seat) : Type 0 where
      at : TurnsAt n (seat_of old) turn (seat_of new)
      lone : IsLone new

    stands_so : (node : Running) (standing : Standing) → SlotShowsNode (seen node) standing → standing.databases ≡ contents_in (core_of node).files → standing ≡ stands_at (core_of node)
    unfolding core_of
    stands_so node standing s files = λ i. record { term = s.term i; role = s.role i; applied = s.applied i; databases = files i }

    step_at : (setup : Setup) (n k : ℕ) (doing : Doing) (aim : FaultTarget) (answers : List Answer) (outs : Outs) (standing : Standing) (old new : Running) → IsAlone (core_of old) → AllByRecursion IsAmple answers
        → StepDone cells Cells setup old new doing answers outs standing → Turned n (NodeRuns old) (Does k doing aim (record { answers = answers; ending = Steps outs standing })) (NodeRuns new)
    step_at setup n k doing aim answers outs standing old new alone ample d =
        let exact : StepsExactly cells Cells d.event (core_of old) (core_of new) d.said answers =
        subst (StepsExactly cells Cells d.event (core_of old) (core_of new) d.said) (told_are d.before d.exact.answers answers d.exact.told) d.exact.by in
        record {
          at = record {
            alone = alone;
            event = d.event;
            is = d.is;
            said = d.said;
            steps = exact;
            outs_are = d.outs_are;
            stands = stands_so new standing d.stands d.files;
          };
          lone = (steps d.event (core_of old) (core_of new) (core_of new) d.said d.said answers answers (unread doing d.event d.is) alone exact exact ample ample).alone;
        }

    start_at : (n k voters : ℕ) (doing : Doing) (aim : FaultTarget) (answers : List Answer) (kept loaded : Kept) (standing : Standing) (new : Running) → doing ≡ Start voters
        → StartDone voters n kept loaded new answers standing → Turned n (NodeRests kept) (Does k doing aim (record { answers = answers; ending = Starts loaded standing })) (NodeRuns new)
    start_at n k voters doing aim answers kept loaded standing new is d = record {
      at = record { voters = voters; is = is; starts = d.exact; loads = d.loads; stands = stands_so new standing d.stands d.files; unasked = d.unasked };
      lone = (starts n (voters_from voters 1) kept (core_of new) (core_of new) d.exact d.exact).1;
    }

    turn_at : (setup : Setup) (n : ℕ) (old : Seat) (turn : Turn) (new : Seat) → IsLone old → GoesWell turn → SlotTurn cells Cells setup n old turn new → Turned n old turn new
    turn_at setup n (NodeRuns old) (Does k doing aim outcome) (NodeRuns new) lone well t = at outcome.ending refl t
      where
        at : (ending : Ending) → outcome.ending ≡ ending → SlotEnds cells Cells setup n (NodeRuns old) doing outcome.answers ending (NodeRuns new) → Turned n (NodeRuns old) (Does k doing aim outcome) (NodeRuns new)
        at (Steps outs standing) e h =
            subst (λ (ending : Ending). Turned n (NodeRuns old) (Does k doing aim (record { answers = outcome.answers; ending = ending })) (NodeRuns new)) (sym e)
            (step_at setup n k doing aim outcome.answers outs standing old new lone well.ample h)
        at (Starts loaded standing) e h = absurd h
        at (Stops kept) e h = absurd h
        at (Fails kept) e h = absurd h
        at Unreadable e h = absurd h
    turn_at setup n (NodeRests kept) (Does k doing aim outcome) (NodeRuns new) lone well t = at outcome.ending refl t
      where
        at : (ending : Ending) → outcome.ending ≡ ending → SlotEnds cells Cells setup n (NodeRests kept) doing outcome.answers ending (NodeRuns new) → Turned n (NodeRests kept) (Does k doing aim outcome) (NodeRuns new)
        at (Starts loaded standing) e h =
            subst (λ (ending : Ending). Turned n (NodeRests kept) (Does k doing aim (record { answers = outcome.answers; ending = ending })) (NodeRuns new)) (sym e)
            (start_at n k h.0.voters doing aim outcome.answers kept loaded standing new h.0.is h.1)
        at (Steps outs standing) e h = absurd h
        at (Stops keep) e h = absurd h
        at (Fails keep) e h = absurd h
        at Unreadable e h = absurd h
    turn_at setup n old (Does k doing aim outcome) (NodeRests left) lone well t = absurd (none old outcome.ending well.ends t)
      where
        none : (seat : Seat) (ending : Ending) → EndsWell ending → SlotEnds cells Cells setup n seat doing outcome.answers ending (NodeRests left) → ⊥
        none (NodeRuns w) (Steps outs standing) fine h = h
        none (NodeRuns w) (Starts loaded standing) fine h = h
        none (NodeRests kept) (Steps outs standing) fine h = h
        none (NodeRests kept) (Starts loaded standing) fine h = h
        none seat (Stops keep) fine h = fine
        none seat (Fails keep) fine h = fine
        none seat Unreadable fine h = fine
    turn_at setup n (NodeRuns old) (Crashes k pick) (NodeRests kept) lone well t = record { at = t ∙ sym (keeps old); lone = tt }
    turn_at setup n (NodeRests old) (Crashes k pick) (NodeRests kept) lone well t = record { at = t; lone = tt }
    turn_at setup n (NodeRuns old) (Crashes k pick) (NodeRuns new) lone well t = absurd t
    turn_at setup n (NodeRests old) (Crashes k pick) (NodeRuns new) lone well t = absurd t

    path_at : (setup : Setup) (n : ℕ) (old : Seat) (turns : List Turn) (new : Seat) → IsLone old → AllByRecursion GoesWell turns → SlotPath cells Cells setup n old turns new → Path cell_nodes n (seat_of old) turns (seat_of new)
    path_at setup n old [] new lone well path = ap seat_of path
    path_at setup n old (turn ∷ turns) new lone well path =
        let first = turn_at setup n old turn path.0 lone well.0 path.1 in
        (seat_of path.0, first.at, path_at setup n path.0 turns new first.lone well.1 path.2)

    -- where a node's turns with what it did last lead
    record Ends (setup : Setup) (n : ℕ) (turns : List Turn) : Type 0 where
      end : CoreSeat
      path : Path cell_nodes n (Rests nothing_kept) turns end

    seat_ends : (setup : Setup) (n : ℕ) (turns : List Turn) (seat : Seat) → AllByRecursion GoesWell turns → SlotPath cells Cells setup n (NodeRests nothing_kept) turns seat → Ends setup n turns
    seat_ends setup n turns seat well path = record { end = seat_of seat; path = path_at setup n (NodeRests nothing_kept) turns seat tt well path }

    -- the last turn at its node, and at another one
    ends_last : (setup : Setup) (n : ℕ) (turns : List Turn) (turn : Turn) (here : Bool) → (actor turn == n) ≡ here → AllByRecursion GoesWell (turns_at n (turns ++ turn ∷ []))
        → (seat : Seat) → SlotPath cells Cells setup n (NodeRests nothing_kept) (turns_at n turns) seat
        → (last : Seat) → SlotPath cells Cells setup (actor turn) (NodeRests nothing_kept) (turns_at (actor turn) turns ++ turn ∷ []) last → Ends setup n (turns_at n (turns ++ turn ∷ []))
    ends_last setup n turns turn true is well seat path last behind =
        let all : turns_at n (turns ++ turn ∷ []) ≡ turns_at n turns ++ turn ∷ [] = turns_join n turns (turn ∷ []) ∙ ap (λ (b : Bool). turns_at n turns ++ cond b (turn ∷ []) []) is in
        seat_ends setup n (turns_at n (turns ++ turn ∷ [])) last well
        (subst (λ (ts : List Turn). SlotPath cells Cells setup n (NodeRests nothing_kept) ts last) (sym all)
        (subst (λ (k : ℕ). SlotPath cells Cells setup k (NodeRests nothing_kept) (turns_at k turns ++ turn ∷ []) last) (eqb-true (actor turn) n is) behind))
    ends_last setup n turns turn false is well seat path last behind =
        let all : turns_at n (turns ++ turn ∷ []) ≡ turns_at n turns =
        turns_join n turns (turn ∷ []) ∙ ap (λ (b : Bool). turns_at n turns ++ cond b (turn ∷ []) []) is ∙ append-nil (turns_at n turns) in
        seat_ends setup n (turns_at n (turns ++ turn ∷ [])) seat well (subst (λ (ts : List Turn). SlotPath cells Cells setup n (NodeRests nothing_kept) ts seat) (sym all) path)

    ends_over : (setup : Setup) (n : ℕ) (turns : List Turn) (over : Option Turn) → AllByRecursion GoesWell (turns_at n (with_over turns over))
        → (seat : Seat) → SlotPath cells Cells setup n (NodeRests nothing_kept) (turns_at n turns) seat → OverByNode cells Cells setup turns over → Ends setup n (turns_at n (with_over turns over))
    ends_over setup n turns None well seat path last = seat_ends setup n (turns_at n turns) seat well path
    ends_over setup n turns (Some turn) well seat path last = ends_last setup n turns turn (actor turn == n) refl well seat path last.0 last.1

    -- what troubled no disk and no engine, and loads, goes well
    ends_well : (ending : Ending) → NoneFailed ending → ending ≢ Unreadable → EndsWell ending
    ends_well (Steps outs standing) fine loads = tt
    ends_well (Starts kept standing) fine loads = tt
    ends_well Unreadable fine loads = loads refl
    ends_well (Stops keeps) fine loads = fine
    ends_well (Fails keeps) fine loads = fine

    turn_well : (turn : Turn) → GoesUntroubled turn → HasLoaded turn → GoesWell turn
    turn_well (Does n doing aim outcome) fine loads = record { ends = ends_well outcome.ending fine.ends loads; ample = fine.ample }
    turn_well (Crashes n pick) fine loads = tt

    all_well : (turns : List Turn) → AllByRecursion GoesUntroubled turns → AllLoad turns → AllByRecursion GoesWell turns
    all_well [] fine loads = tt
    all_well (turn ∷ turns) fine loads = (turn_well turn fine.0 loads.0, all_well turns fine.1 loads.1)

    -- no load fails in the turns of a script
    script_well : (setup : Setup) (script : List ℕ) (outcomes : List Outcome) (turns : List Turn) (over : Option Turn) → StartWith (run script outcomes).turns turns
        → ByNodes cells Cells setup turns → OverByNode cells Cells setup turns over → AllByRecursion GoesUntroubled (with_over turns over)
        → AllByRecursion GoesWell (with_over turns over)
    script_well setup script outcomes turns over front nodes last fine =
        all_well (with_over turns over) fine
        (loads_never_fail_hold cells Cells setup script outcomes turns front.0 over (sym (run_twin script outcomes).turns_are ∙ front.1) nodes last)

    turns_led : (setup : Setup) (turns : List Turn) (over : Option Turn) → ByNodes cells Cells setup turns → OverByNode cells Cells setup turns over → AllByRecursion GoesWell (with_over turns over) → AreLed cell_nodes (with_over turns over)
    turns_led setup turns over nodes last well =
        let ends = λ (n : ℕ). ends_over setup n turns over (well_at n (with_over turns over) well) (nodes.ends n) (nodes.paths n) last in
        record { ends = λ n. (ends n).end; paths = λ n. (ends n).path; well = well }

    led : (script : List ℕ) (outcomes : List Outcome) → IsOfCells script outcomes → IsLed cell_nodes (run script outcomes)
    led script outcomes of =
        let turns = (run script outcomes).turns in
        let over = (run script outcomes).over in
        turns_led (setup_of of.voters) turns over of.nodes of.last
        (script_well (setup_of of.voters) script outcomes turns over ([], sym (append-nil turns)) of.nodes of.last of.well)

    broke : (script : List ℕ) (outcomes : List Outcome) → BrokeOffCells script outcomes → BrokeOff cell_nodes script outcomes
    broke script outcomes of = record {
      turns = of.turns;
      over = of.over;
      led =
          turns_led (setup_of of.voters) of.turns of.over of.nodes of.last
          (script_well (setup_of of.voters) script outcomes of.turns of.over of.begins of.nodes of.last of.well);
      uses = of.uses;
      begins = of.begins;
      beside = of.beside;
    }

    pub cell_broken_repeat : BrokenRunsRepeat cell_nodes → CellBrokenRepeat
    cell_broken_repeat repeats script one other a b whole = repeats nodes_exact nodes_may_crash script one other (broke script one a) (led script other b) whole

    pub cell_scripts_compare : RunsCompare cell_nodes → CellScriptsCompare
    cell_scripts_compare compare script one other a b = compare nodes_exact script one other (led script one a) (led script other b)

    pub cell_fronts_repeat : FrontsRepeat cell_nodes → CellFrontsRepeat
    cell_fronts_repeat repeats script one other a b whole = repeats nodes_exact script one other (led script one a) (led script other b) whole

    pub cell_scripts_repeat : WholeRunsRepeat cell_nodes → CellScriptsRepeat
    cell_scripts_repeat repeats script one other a b whole also = repeats nodes_exact script one other (led script one a) (led script other b) whole also

-- ---- the laws

pub cells_compare : CellScriptsCompare
cells_compare = cell_scripts_compare steps_decided starts_decided kept_of_core (runs_compare cell_nodes)

pub cells_front : CellFrontsRepeat
cells_front = cell_fronts_repeat steps_decided starts_decided kept_of_core (fronts_repeat cell_nodes)

pub cells_broken : CellBrokenRepeat
cells_broken = cell_broken_repeat steps_decided starts_decided kept_of_core (broken_runs_repeat cell_nodes)

pub cells_repeat : CellScriptsRepeat
cells_repeat = cell_scripts_repeat steps_decided starts_decided kept_of_core (whole_runs_repeat cell_nodes)
