-- By turns that ask the same for a node, from the first seat on, the same comes.
use Rattle.std.proofs.Common.{◌≡◌, ℕ, ◌==◌, Bool, true, false, cond, List, [], ◌∷◌, ◌++◌, refl, sym, ap, subst, ◌∙◌}
use Rattle.std.specs.List.{AllByRecursion}
use Rattle.std.proofs.lemmas.Bool.{eq-eqb}
use Rattle.script_grammar.specs.declared.grammar.FaultTarget.{FaultTarget}
use Rattle.script_cluster.specs.Knowing.{actor, turns_at}
use Rattle.script_cluster.specs.Outcomes.{Outcome, Doing, Turn, Does, Crashes}
use Rattle.script_determinism.specs.Plain.{plain_outcome, plain_turn, plain_turns}
use Rattle.script_determinism.proofs.Using.{AreCrashes}
use Rattle.script_determinism.specs.Nodes.{Nodes, Path, MayCrash, GoesWell, AreLed, AreExact}

-- ---- turns at a node

one_joins : (b : Bool) (turn : Turn) (front rest : List Turn) → cond b (turn ∷ (front ++ rest)) (front ++ rest) ≡ cond b (turn ∷ front) front ++ rest
one_joins true turn front rest = refl
one_joins false turn front rest = refl

pub turns_join : (n : ℕ) (front rest : List Turn) → turns_at n (front ++ rest) ≡ turns_at n front ++ turns_at n rest
turns_join n [] rest = refl
turns_join n (turn ∷ front) rest =
    ap (λ (turns : List Turn). cond (actor turn == n) (turn ∷ turns) turns) (turns_join n front rest) ∙ one_joins (actor turn == n) turn (turns_at n front) (turns_at n rest)

-- the last turn, at its node
at_last : (n : ℕ) (front : List Turn) (turn : Turn) → actor turn ≡ n → turns_at n (front ++ turn ∷ []) ≡ turns_at n front ++ turn ∷ []
at_last n front turn acts =
    turns_join n front (turn ∷ []) ∙ ap (λ (b : Bool). turns_at n front ++ cond b (turn ∷ []) []) (eq-eqb (actor turn) n acts)

plain_actor : (turn : Turn) → actor (plain_turn turn) ≡ actor turn
plain_actor (Does n doing aim outcome) = refl
plain_actor (Crashes n pick) = refl

plain_choice : (b : Bool) (turn : Turn) (turns : List Turn) → plain_turns (cond b (turn ∷ turns) turns) ≡ cond b (plain_turn turn ∷ plain_turns turns) (plain_turns turns)
plain_choice true turn turns = refl
plain_choice false turn turns = refl

plain_at : (n : ℕ) (turns : List Turn) → plain_turns (turns_at n turns) ≡ turns_at n (plain_turns turns)
plain_at n [] = refl
plain_at n (turn ∷ turns) =
    plain_choice (actor turn == n) turn (turns_at n turns)
    ∙ ap (λ (rest : List Turn). cond (actor turn == n) (plain_turn turn ∷ rest) rest) (plain_at n turns)
    ∙ ap (λ (k : ℕ). cond (k == n) (plain_turn turn ∷ turns_at n (plain_turns turns)) (turns_at n (plain_turns turns))) (sym (plain_actor turn))

same_at : (n : ℕ) (turns others : List Turn) → plain_turns turns ≡ plain_turns others → plain_turns (turns_at n turns) ≡ plain_turns (turns_at n others)
same_at n turns others same = plain_at n turns ∙ ap (turns_at n) same ∙ sym (plain_at n others)

well_choice : (b : Bool) (turn : Turn) (turns : List Turn) → GoesWell turn → AllByRecursion GoesWell turns → AllByRecursion GoesWell (cond b (turn ∷ turns) turns)
well_choice true turn turns one rest = (one, rest)
well_choice false turn turns one rest = rest

pub well_at : (n : ℕ) (turns : List Turn) → AllByRecursion GoesWell turns → AllByRecursion GoesWell (turns_at n turns)
well_at n [] well = tt
well_at n (turn ∷ turns) well = well_choice (actor turn == n) turn (turns_at n turns) well.0 (well_at n turns well.1)

well_front : (front rest : List Turn) → AllByRecursion GoesWell (front ++ rest) → AllByRecursion GoesWell front
well_front [] rest well = tt
well_front (turn ∷ front) rest well = (well.0, well_front front rest well.1)

well_last : (front : List Turn) (turn : Turn) → AllByRecursion GoesWell (front ++ turn ∷ []) → GoesWell turn
well_last [] turn well = well.0
well_last (x ∷ front) turn well = well_last front turn well.1

-- ---- paths

-- a path in two parts
record Parted (nodes : Nodes) (n : ℕ) (old : nodes.Seat) (front rest : List Turn) (new : nodes.Seat) : Type 0 where
  mid : nodes.Seat
  first : Path nodes n old front mid
  second : Path nodes n mid rest new

parted : (nodes : Nodes) (n : ℕ) (old : nodes.Seat) (front rest : List Turn) (new : nodes.Seat) → Path nodes n old (front ++ rest) new → Parted nodes n old front rest new
parted nodes n old [] rest new path = record { mid = old; first = refl; second = path }
parted nodes n old (turn ∷ front) rest new path =
    let p = parted nodes n path.0 front rest new path.2 in
    record { mid = p.mid; first = (path.0, path.1, p.first); second = p.second }

-- so of all nodes: a front of what they do
pub led_front : (nodes : Nodes) (front rest : List Turn) → AreLed nodes (front ++ rest) → AreLed nodes front
led_front nodes front rest led =
    let parts = λ (n : ℕ). parted nodes n nodes.first (turns_at n front) (turns_at n rest) (led.ends n)
    (subst (λ (turns : List Turn). Path nodes n nodes.first turns (led.ends n)) (turns_join n front rest) (led.paths n)) in
    record { ends = λ n. (parts n).mid; paths = λ n. (parts n).first; well = well_front front rest led.well }

-- a path continues by crashes
path_crashes : (nodes : Nodes) → MayCrash nodes → (n : ℕ) (old mid : nodes.Seat) (turns rest : List Turn) → AreCrashes rest → Path nodes n old turns mid → (new : nodes.Seat) × Path nodes n old (turns ++ rest) new
path_crashes nodes may n old mid [] [] crashes path = (mid, path)
path_crashes nodes may n old mid [] (Does k doing aim outcome ∷ rest) crashes path = absurd crashes
path_crashes nodes may n old mid [] (Crashes k pick ∷ rest) crashes path =
    let next = may n k pick old in
    let more = path_crashes nodes may n next.0 next.0 [] rest crashes refl in
    (more.0, (next.0, next.1, more.1))
path_crashes nodes may n old mid (turn ∷ turns) rest crashes path =
    let more = path_crashes nodes may n path.0 mid turns rest crashes path.2 in
    (more.0, (path.0, path.1, more.1))

crash_choice : (b : Bool) (n pick : ℕ) (turns : List Turn) → AreCrashes turns → AreCrashes (cond b (Crashes n pick ∷ turns) turns)
crash_choice true n pick turns crashes = crashes
crash_choice false n pick turns crashes = crashes

crashes_at : (n : ℕ) (turns : List Turn) → AreCrashes turns → AreCrashes (turns_at n turns)
crashes_at n [] crashes = tt
crashes_at n (Does k doing aim outcome ∷ turns) crashes = absurd crashes
crashes_at n (Crashes k pick ∷ turns) crashes = crash_choice (k == n) k pick (turns_at n turns) (crashes_at n turns crashes)

well_crashes : (turns rest : List Turn) → AreCrashes rest → AllByRecursion GoesWell turns → AllByRecursion GoesWell (turns ++ rest)
well_crashes [] [] crashes well = tt
well_crashes [] (Does n doing aim outcome ∷ rest) crashes well = absurd crashes
well_crashes [] (Crashes n pick ∷ rest) crashes well = (tt, well_crashes [] rest crashes tt)
well_crashes (turn ∷ turns) rest crashes well = (well.0, well_crashes turns rest crashes well.1)

pub led_crashes : (nodes : Nodes) → MayCrash nodes → (turns rest : List Turn) → AreCrashes rest → AreLed nodes turns → AreLed nodes (turns ++ rest)
led_crashes nodes may turns rest crashes led =
    let more = λ (n : ℕ). path_crashes nodes may n nodes.first (led.ends n) (turns_at n turns) (turns_at n rest) (crashes_at n rest crashes) (led.paths n) in
    record {
      ends = λ n. (more n).0;
      paths = λ n. subst (λ (ts : List Turn). Path nodes n nodes.first ts (more n).0) (sym (turns_join n turns rest)) (more n).1;
      well = well_crashes turns rest crashes led.well;
    }

-- ---- the same comes

-- what one turn and another that asks the same lead to
turn_same : (nodes : Nodes) → AreExact nodes → (n : ℕ) (turn also : Turn) (old was new now : nodes.Seat) → plain_turn turn ≡ plain_turn also → GoesWell turn → GoesWell also → nodes.core old ≡ nodes.core was
    → nodes.leads n old turn new → nodes.leads n was also now → nodes.core new ≡ nodes.core now
turn_same nodes exact n (Does k doing aim one) (Does l asked aimed other) old was new now same well fine at a b =
    let asks : doing ≡ asked = cc in
    (exact.does n k l doing aim aimed one other old was new now at a (subst (λ (d : Doing). nodes.leads n was (Does l d aimed other) now) (sym asks) b) well fine).core
turn_same nodes exact n (Crashes k pick) (Crashes l picked) old was new now same well fine at a b = exact.crashes n k l pick picked old was new now at a b
turn_same nodes exact n (Does k doing aim one) (Crashes l picked) old was new now same well fine at a b = absurd (apart same)
  where
    apart : Does k doing aim (plain_outcome one) ≡ Crashes l picked → ⊥
    apart e = cc
turn_same nodes exact n (Crashes k pick) (Does l asked aimed other) old was new now same well fine at a b = absurd (apart same)
  where
    apart : Crashes k pick ≡ Does l asked aimed (plain_outcome other) → ⊥
    apart e = cc

head_same : {A : Type 0} (x y : A) (xs ys : List A) → x ∷ xs ≡ y ∷ ys → x ≡ y
head_same x y xs ys e = cc

tail_same : {A : Type 0} (x y : A) (xs ys : List A) → x ∷ xs ≡ y ∷ ys → xs ≡ ys
tail_same x y xs ys e = cc

none_some : {A : Type 0} (x : A) (xs : List A) → [] ≡ x ∷ xs → ⊥
none_some x xs e = cc

pub paths_same : (nodes : Nodes) → AreExact nodes → (n : ℕ) (turns others : List Turn) (old was new now : nodes.Seat) → plain_turns turns ≡ plain_turns others
    → AllByRecursion GoesWell turns → AllByRecursion GoesWell others → nodes.core old ≡ nodes.core was → Path nodes n old turns new → Path nodes n was others now → nodes.core new ≡ nodes.core now
paths_same nodes exact n [] [] old was new now same well fine at a b = sym (ap nodes.core a) ∙ at ∙ ap nodes.core b
paths_same nodes exact n [] (also ∷ others) old was new now same well fine at a b = absurd (none_some (plain_turn also) (plain_turns others) same)
paths_same nodes exact n (turn ∷ turns) [] old was new now same well fine at a b = absurd (none_some (plain_turn turn) (plain_turns turns) (sym same))
paths_same nodes exact n (turn ∷ turns) (also ∷ others) old was new now same well fine at a b =
    paths_same nodes exact n turns others a.0 b.0 new now (tail_same (plain_turn turn) (plain_turn also) (plain_turns turns) (plain_turns others) same) well.1 fine.1
    (turn_same nodes exact n turn also old was a.0 b.0 (head_same (plain_turn turn) (plain_turn also) (plain_turns turns) (plain_turns others) same) well.0 fine.0 at a.1 b.1) a.2 b.2

-- A node that was asked the same by was, and is asked this now, gives the same.
pub asked_same : (nodes : Nodes) → AreExact nodes → (n : ℕ) (doing : Doing) (aim : FaultTarget) (turns others : List Turn) (one other : Outcome) → plain_turns turns ≡ plain_turns others
    → AreLed nodes (turns ++ Does n doing aim one ∷ []) → AreLed nodes (others ++ Does n doing aim other ∷ []) → plain_outcome one ≡ plain_outcome other
asked_same nodes exact n doing aim turns others one other same a b =
    let x = parted nodes n nodes.first (turns_at n turns) (Does n doing aim one ∷ []) (a.ends n)
    (subst (λ (t : List Turn). Path nodes n nodes.first t (a.ends n)) (at_last n turns (Does n doing aim one) refl) (a.paths n)) in
    let y = parted nodes n nodes.first (turns_at n others) (Does n doing aim other ∷ []) (b.ends n)
    (subst (λ (t : List Turn). Path nodes n nodes.first t (b.ends n)) (at_last n others (Does n doing aim other) refl) (b.paths n)) in
    let at : nodes.core x.mid ≡ nodes.core y.mid =
    paths_same nodes exact n (turns_at n turns) (turns_at n others) nodes.first nodes.first x.mid y.mid (same_at n turns others same)
    (well_at n turns (well_front turns (Does n doing aim one ∷ []) a.well)) (well_at n others (well_front others (Does n doing aim other ∷ []) b.well)) refl x.first y.first in
    (exact.does n n n doing aim aim one other x.mid y.mid x.second.0 y.second.0 at x.second.1 y.second.1 (well_last turns (Does n doing aim one) a.well) (well_last others (Does n doing aim other) b.well)).outcome
