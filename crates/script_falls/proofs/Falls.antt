-- Nothing is found by chance before a node falls.
use Rattle.std.proofs.Common.{◌≡◌, ℕ, zero, suc, ◌≤◌, Bool, true, false, cond, List, [], ◌∷◌, ◌++◌, length, sym, ap, ◌∙◌, subst, arith}
use Rattle.std.specs.Prelude.{◌==◌, Option}
use Rattle.disk_model.specs.Disk.{Disk}
use Rattle.disk_model.specs.Trait.{Text}
use Rattle.sql_engine.specs.declared.kind.EngineKind.{EngineKind}
use Rattle.sql_engine.specs.Meanings.{Meaning}
use Rattle.sqlite_engine.specs.Any.{any_meaning}
use Rattle.raft_safety.specs.Members.{Setup}
use Rattle.node_core.specs.declared.running.Running.{Running}
use Rattle.script_cluster.specs.Outcomes.{Ending, Steps, Starts, Stops, Fails, Unreadable, Turn, Does, Crashes}
use Rattle.script_cluster.specs.Knowing.{actor, turns_at}
use Rattle.script_safety.specs.Slots.{setup_of}
use Rattle.script_safety.proofs.Scripts.{turns_join}
use Rattle.script_whole_nodes.specs.Lives.{FoundBy, IsFoundAfter, Lives, IsFairWithin}
use Rattle.script_whole_nodes.specs.Safe.{LifeOf, idle, lived, IsFairLife, WholeScriptsAreSafe}
use Rattle.script_falls.specs.Falls.{EndsWell, HasNoFall, NoneFalls, UnfallenAreFair, UnfallenScriptsAreSafe}

at_by : (b : Bool) (turn : Turn) (xs : List Turn) → HasNoFall turn → NoneFalls xs → NoneFalls (cond b (turn ∷ xs) xs)
at_by true turn xs s h = (s, h)
at_by false turn xs s h = h

none_at : (n : ℕ) (turns : List Turn) → NoneFalls turns → NoneFalls (turns_at n turns)
none_at n [] h = tt
none_at n (turn ∷ turns) h = at_by (actor turn == n) turn (turns_at n turns) h.0 (none_at n turns h.1)

-- a turn within a prefix in which none falls
within : (xs : List Turn) (turn : Turn) (more front rest : List Turn) → (xs ++ turn ∷ []) ++ more ≡ front ++ rest → length (xs ++ turn ∷ []) ≤ length front →
    NoneFalls front → HasNoFall turn
within [] turn more [] rest e le h = absurd (omega (arith, le))
within [] turn more (f ∷ front) rest e le h = let same : f ≡ turn = cc in subst HasNoFall same h.0
within (x ∷ xs) turn more [] rest e le h = absurd (omega (arith, le))
within (x ∷ xs) turn more (f ∷ front) rest e le h =
    let tail : (xs ++ turn ∷ []) ++ more ≡ front ++ rest = cc in
    let less : length (xs ++ turn ∷ []) ≤ length front = omega (arith, le) in
    within xs turn more front rest tail less h.1

-- nothing is found after it
not_found : (turn : Turn) (before found : Disk Text) → HasNoFall turn → IsFoundAfter turn before found → ⊥
not_found (Does n doing aim outcome) before found s f = by outcome.ending s f
  where
    by : (ending : Ending) → EndsWell ending → FoundBy ending before found → ⊥
    by (Steps outs standing) s f = f
    by (Starts kept standing) s f = f
    by (Stops keeps) s f = s
    by (Fails keeps) s f = s
    by Unreadable s f = s
not_found (Crashes n pick) before found s f = f

fair_within : (m : Meaning) (kind : EngineKind) (setup : Setup) (n finds : ℕ) (states : Disk Text → Type 0) (turns : List Turn) (node : Option Running)
    (front rest : List Turn) → turns ≡ front ++ rest → NoneFalls front → (life : Lives m kind setup n finds states turns node) →
    IsFairWithin m kind setup n finds states turns node (length front) life
fair_within m kind setup n zero states turns node front rest e h life = tt
fair_within m kind setup n (suc finds) states turns node front rest e h life = λ le.
    let find = life.0 in
    let begins = life.1.begins in
    absurd (not_found find.turn find.before find.found (within find.earlier find.turn begins.0 front rest (sym begins.1 ∙ e) le h) life.1.came)

fair_life : (kind : EngineKind) (voters n : ℕ) (turns front rest : List Turn) → turns ≡ front ++ rest → NoneFalls front → (life : LifeOf kind voters n turns) →
    IsFairLife kind voters n turns (length front) life
fair_life kind voters n turns front rest e h (idle none) = tt
fair_life kind voters n turns front rest e h (lived one) = fair_within (any_meaning kind) kind
    (setup_of voters) n one.finds _ turns one.node front rest e h one.life

pub unfallen_fair : (kind : EngineKind) → UnfallenAreFair kind
unfallen_fair kind voters turns lives front rest e h n =
    fair_life kind voters n (turns_at n turns) (turns_at n front) (turns_at n rest) (ap (turns_at n) e ∙ turns_join n front rest) (none_at n front h) (lives n)

pub unfallen_safe : (kind : EngineKind) → WholeScriptsAreSafe kind → UnfallenScriptsAreSafe kind
unfallen_safe kind safe script outcomes over of front rest e h = safe script outcomes over of front rest e
    (unfallen_fair kind of.voters _ of.lives front rest e h)
