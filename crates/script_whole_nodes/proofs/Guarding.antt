-- A script over places of whole nodes is safe, up to where a checksum matches by chance.
use Rattle.std.proofs.Common.{◌≡◌, ℕ, Bool, true, false, List, [], ◌∷◌, ◌++◌, length, Option, Some, None, refl, ap, sym, subst, ◌∙◌, append-nil}
use Rattle.std.proofs.lemmas.Bool.{true≢false}
use Rattle.sql_engine.specs.declared.kind.EngineKind.{EngineKind}
use Rattle.sqlite_engine.specs.Any.{any_meaning}
use Rattle.cluster_safety.specs.Runs.{nothing_kept}
use Rattle.script_cluster.specs.Outcomes.{Turn}
use Rattle.script_cluster.specs.Knowing.{AllCanHold, KnowsAt, KnowsOver, actor, turns_at, node_at}
use Rattle.script_safety.specs.Slots.{Seat as NodeSeat, Rests, SlotPath, setup_of}
use Rattle.script_safety.specs.Mails.{OverByNode, ScriptsAreSafe}
use Rattle.script_safety.proofs.Scripts.{turns_join}
use Rattle.script_whole_nodes.specs.declared.node_slot.NodeSlot.{NodeSlot}
use Rattle.script_whole_nodes.specs.Lives.{Begins}
use Rattle.script_whole_nodes.specs.Safe.{LifeOf, idle, lived, AllLive, IsFairLife, OverLives, IsFairOver, PlacesTell, WholeScriptsAreSafe}
use Rattle.script_whole_nodes.specs.Turns.{Knows, running_in, states_in}
use Rattle.script_whole_nodes.proofs.Living.{life_leads}

-- ---- fronts

begins_at : (n : ℕ) (front turns : List Turn) → Begins front turns → Begins (turns_at n front) (turns_at n turns)
begins_at n front turns begins = (turns_at n begins.0, ap (turns_at n) begins.1 ∙ turns_join n front begins.0)

abbrev is_some_turn : List Turn → Bool
is_some_turn [] = false
is_some_turn (turn ∷ turns) = true

-- what begins no turns is none
none_begins : (front turns : List Turn) → Begins front turns → turns ≡ [] → front ≡ []
none_begins [] turns begins none = refl
none_begins (turn ∷ front) turns begins none = absurd (true≢false (ap is_some_turn (sym begins.1 ∙ none)))

held_front : (front rest : List Turn) → AllCanHold (front ++ rest) → AllCanHold front
held_front [] rest all = tt
held_front (turn ∷ front) rest all = (all.0, held_front front rest all.1)

-- ---- the laws

-- the life of a node at its place
life_of : (kind : EngineKind) (voters n : ℕ) (turns : List Turn) (place : Option NodeSlot) → KnowsAt (Knows kind) voters n turns place → LifeOf kind voters n turns
life_of kind voters n turns None none = idle none
life_of kind voters n turns (Some seat) known = lived (record { finds = known.0; disk = seat.disk.contents; node = running_in seat.node; life = known.1 })

module _ (kind : EngineKind) (voters n : ℕ) (front turns : List Turn) (begins : Begins front turns) where
  path_of : (life : LifeOf kind voters n (turns_at n turns)) → IsFairLife kind voters n (turns_at n turns) (length (turns_at n front)) life
      → (seat : NodeSeat) × SlotPath (any_meaning kind) kind (setup_of voters) n (Rests nothing_kept) (turns_at n front) seat
  path_of (idle none) fair = (
    Rests nothing_kept,
    subst (λ (ts : List Turn). SlotPath (any_meaning kind) kind (setup_of voters) n (Rests nothing_kept) ts (Rests nothing_kept)) (sym (none_begins (turns_at n front) (turns_at n turns) (begins_at n front turns begins) none)) refl,
  )
  path_of (lived one) fair = life_leads (any_meaning kind) kind (setup_of voters) n one.finds (states_in one.disk) (turns_at n turns) one.node one.life (turns_at n front) (begins_at n front turns begins) fair

over_life : (kind : EngineKind) (voters : ℕ) (turns : List Turn) (over : Option Turn) → KnowsOver (Knows kind) voters turns over → OverLives kind voters turns over
over_life kind voters turns None known = tt
over_life kind voters turns (Some turn) known = record { finds = known.1.0; disk = known.0.disk.contents; node = running_in known.0.node; life = known.1.1 }

over_path : (kind : EngineKind) (voters : ℕ) (turns : List Turn) (over : Option Turn) (known : KnowsOver (Knows kind) voters turns over) → IsFairOver kind voters turns over (over_life kind voters turns over known)
    → OverByNode (any_meaning kind) kind (setup_of voters) turns over
unfolding over_life
over_path kind voters turns None known fair = tt
over_path kind voters turns (Some turn) known fair =
    let all = turns_at (actor turn) turns ++ turn ∷ [] in
    life_leads (any_meaning kind) kind (setup_of voters) (actor turn) known.1.0 (states_in known.0.disk.contents) all (running_in known.0.node) known.1.1 all ([], sym (append-nil all)) fair

pub places_tell : (kind : EngineKind) → PlacesTell kind
places_tell kind turns over told =
    let lives : AllLive kind told.voters turns = λ n. life_of kind told.voters n (turns_at n turns) (node_at told.places n) (told.know.0 n) in
    record {
      voters = told.voters;
      lives = lives;
      by_nodes = λ front rest is fair. record {
        ends = λ n. (path_of kind told.voters n front turns (rest, is) (lives n) (fair n)).0;
        paths = λ n. (path_of kind told.voters n front turns (rest, is) (lives n) (fair n)).1;
        hold = held_front front rest (subst AllCanHold is told.know.1);
      };
      last = over_life kind told.voters turns over told.last;
      by_last = over_path kind told.voters turns over told.last;
    }

pub whole_safe : (kind : EngineKind) → ScriptsAreSafe (any_meaning kind) kind → WholeScriptsAreSafe kind
whole_safe kind safe script outcomes over of front rest is fair = safe (setup_of of.voters) script outcomes front rest is (of.by_nodes front rest is fair)
