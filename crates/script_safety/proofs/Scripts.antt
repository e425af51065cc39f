-- So each script is safe, and no load fails in it.
use Rattle.std.proofs.Common.{◌≡◌, ℕ, ◌==◌, Bool, true, false, cond, List, [], ◌∷◌, ◌++◌, Some, None, refl, sym, ap, ◌∙◌, subst}
use Rattle.std.proofs.lemmas.Bool.{eqb-true}
use Rattle.std.proofs.lemmas.List.{append-nil}
use Rattle.sql_engine.specs.declared.kind.EngineKind.{EngineKind}
use Rattle.sql_engine.specs.Meanings.{Meaning}
use Rattle.session_spec.specs.Engines.{Answer}
use Rattle.raft_messages.specs.declared.message.RaftMessage.{RaftMessage}
use Rattle.raft_safety.specs.Members.{Setup}
use Rattle.cluster_safety.specs.Runs.{nothing_kept}
use Rattle.script_cluster.specs.Outcomes.{Ending, Unreadable, Doing, Turn, Does, Crashes}
use Rattle.script_safety.specs.Slots.{Seat, Runs, Rests, AsksStart, SlotEnds, SlotTurn, SlotPath}
use Rattle.script_safety.specs.Turns.{actor, turns_at, messages_in, WasSent, SentTo, AllSentTo, HasLoaded, AllLoad}
use Rattle.script_safety.specs.Mails.{LoadsNeverFail, ScriptsAreSafe}
use Rattle.script_safety.proofs.Running.{nodes_are_safe_hold}
use Rattle.script_safety.proofs.Worlds.{mail_is_sent_holds}

-- ---- one turn more

one_joins : (b : Bool) (turn : Turn) (front rest : List Turn) → cond b (turn ∷ (front ++ rest)) (front ++ rest) ≡ cond b (turn ∷ front) front ++ rest
one_joins true turn front rest = refl
one_joins false turn front rest = refl

pub turns_join : (n : ℕ) (front rest : List Turn) → turns_at n (front ++ rest) ≡ turns_at n front ++ turns_at n rest
turns_join n [] rest = refl
turns_join n (turn ∷ front) rest =
    ap (λ (turns : List Turn). cond (actor turn == n) (turn ∷ turns) turns) (turns_join n front rest) ∙ one_joins (actor turn == n) turn (turns_at n front) (turns_at n rest)

-- a turn that needs no message comes after all that were sent
sent_last : (sent : List RaftMessage) (turns : List Turn) (turn : Turn) → ((more : List RaftMessage) → SentTo more turn) → AllSentTo sent turns →
    AllSentTo sent (turns ++ turn ∷ [])
sent_last sent [] turn any all = (any sent, tt)
sent_last sent (first ∷ turns) turn any all = (all.0, sent_last (sent ++ messages_in first) turns turn any all.1)

all_and : (turns : List Turn) (turn : Turn) → AllLoad turns → HasLoaded turn → AllLoad (turns ++ turn ∷ [])
all_and [] turn all last = (last, tt)
all_and (first ∷ turns) turn all last = (all.0, all_and turns turn all.1 last)

all_last : (turns : List Turn) (turn : Turn) → AllLoad (turns ++ turn ∷ []) → HasLoaded turn
all_last [] turn all = all.0
all_last (first ∷ turns) turn all = all_last turns turn all.1

module _ (m : Meaning) (kind : EngineKind) (setup : Setup) where
  -- the last turn of a path
  last_turn : (n : ℕ) (old : Seat) (turns : List Turn) (turn : Turn) (new : Seat) → SlotPath m kind setup n old (turns ++ turn ∷ []) new →
      (mid : Seat) × SlotTurn m kind setup n mid turn new
  last_turn n old [] turn new path = (old, subst (SlotTurn m kind setup n old turn) path.2 path.1)
  last_turn n old (first ∷ turns) turn new path = last_turn n path.0 turns turn new path.2

  -- only a start ends so
  asks_start : (n : ℕ) (old : Seat) (doing : Doing) (answers : List Answer) (new : Seat) → SlotEnds m kind setup n old doing answers Unreadable new →
      AsksStart setup doing
  asks_start n (Rests kept) doing answers (Rests left) ends = ends.0
  asks_start n (Rests kept) doing answers (Runs node) ends = absurd ends
  asks_start n (Runs node) doing answers new ends = absurd ends

  -- ---- after the turns of a script

  module _ (turns : List Turn) (turn : Turn) (ends : ℕ → Seat) (paths : (n : ℕ) → SlotPath m kind setup n (Rests nothing_kept) (turns_at n turns) (ends n))
      (seat : Seat) (last : SlotPath m kind setup (actor turn) (Rests nothing_kept) (turns_at (actor turn) turns ++ turn ∷ []) seat) where
    at_last : (n : ℕ) (here : Bool) → (actor turn == n) ≡ here → turns_at n (turns ++ turn ∷ []) ≡ turns_at n turns ++ cond here (turn ∷ []) []
    at_last n here is = turns_join n turns (turn ∷ []) ∙ ap (λ (b : Bool). turns_at n turns ++ cond b (turn ∷ []) []) is

    path_on : (n : ℕ) (here : Bool) → (actor turn == n) ≡ here →
        SlotPath m kind setup n (Rests nothing_kept) (turns_at n (turns ++ turn ∷ [])) (cond here seat (ends n))
    path_on n true is =
        subst (λ (ts : List Turn). SlotPath m kind setup n (Rests nothing_kept) ts seat) (sym (at_last n true is))
        (subst (λ (k : ℕ). SlotPath m kind setup k (Rests nothing_kept) (turns_at k turns ++ turn ∷ []) seat) (eqb-true (actor turn) n is) last)
    path_on n false is =
        subst (λ (ts : List Turn). SlotPath m kind setup n (Rests nothing_kept) ts (ends n)) (sym (at_last n false is ∙ append-nil (turns_at n turns))) (paths n)

    -- if it needs no message, whole nodes did all of these, and so no load failed
    last_loads : AllSentTo [] turns → ((more : List RaftMessage) → SentTo more turn) → HasLoaded turn
    last_loads sent any =
        all_last turns turn
        (nodes_are_safe_hold m kind setup (turns ++ turn ∷ []) (record {
          ends = λ n. cond (actor turn == n) seat (ends n);
          paths = λ n. path_on n (actor turn == n) refl;
          sent = sent_last [] turns turn any sent;
        })).loads

  over_loads : (turns : List Turn) (turn : Turn) (ends : ℕ → Seat) → ((n : ℕ) → SlotPath m kind setup n (Rests nothing_kept) (turns_at n turns) (ends n)) →
      (seat : Seat) → SlotPath m kind setup (actor turn) (Rests nothing_kept) (turns_at (actor turn) turns ++ turn ∷ []) seat → AllSentTo [] turns → HasLoaded turn
  over_loads turns (Crashes n pick) ends paths seat last sent = tt
  over_loads turns (Does n doing aim outcome) ends paths seat last sent = λ e.
      let end = last_turn n (Rests nothing_kept) (turns_at n turns) (Does n doing aim outcome) seat last in
      let asks = asks_start n end.0 doing outcome.answers seat (subst (λ (z : Ending). SlotEnds m kind setup n end.0 doing outcome.answers z seat) e end.1) in
      last_loads turns (Does n doing aim outcome) ends paths seat last sent (λ more. subst (WasSent more n) (sym asks.is) tt) e

-- ---- the laws

module _ (m : Meaning) (kind : EngineKind) where
  pub scripts_are_safe_hold : ScriptsAreSafe m kind
  scripts_are_safe_hold setup script outcomes front rest e d =
      nodes_are_safe_hold m kind setup front (record { ends = d.ends; paths = d.paths; sent = mail_is_sent_holds script outcomes front rest e d.hold })

  pub loads_never_fail_hold : LoadsNeverFail m kind
  loads_never_fail_hold setup script outcomes front rest None e d over = (scripts_are_safe_hold setup script outcomes front rest e d).loads
  loads_never_fail_hold setup script outcomes front rest (Some turn) e d over =
      all_and front turn (scripts_are_safe_hold setup script outcomes front rest e d).loads
      (over_loads m kind setup front turn d.ends d.paths over.0 over.1 (mail_is_sent_holds script outcomes front rest e d.hold))
