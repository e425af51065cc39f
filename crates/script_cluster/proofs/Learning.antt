-- By a turn at a node its place is led on, and the others stay.
use Rattle.std.proofs.Common.{◌≡◌, ℕ, ◌==◌, zero, suc, Bool, true, false, cond, List, [], ◌∷◌, ◌++◌, set, slice_get, Some, is_some, refl, sym, ap, subst, ◌∙◌}
use Rattle.std.specs.List.{AllByRecursion}
use Rattle.std.proofs.lemmas.Bool.{eq-eqb, eqb-true, false≢true}
use Rattle.script_cluster.specs.Outcomes.{Turn}
use Rattle.script_cluster.specs.Knowing.{Knowing, IsNew, KnowsAt, AllKnow, AllCanHold, CanHold, actor, messages_in, turns_at, node_at}

-- each place has been led to by the turns of its node
abbrev Each : {P : Type 0} → Knowing P → ℕ → List P → List Turn → Type 0
Each knows voters places turns = (node : ℕ) → KnowsAt knows voters node (turns_at node turns) (node_at places node)

abbrev behind : Bool → Turn → List Turn → List Turn
behind b turn turns = cond b (turns ++ turn ∷ []) turns

one_behind : (first last : Bool) (x turn : Turn) (turns : List Turn) → cond first (x ∷ behind last turn turns) (behind last turn turns) ≡ behind last turn (cond first (x ∷ turns) turns)
one_behind true true x turn turns = refl
one_behind true false x turn turns = refl
one_behind false true x turn turns = refl
one_behind false false x turn turns = refl

-- the turns at a node, with one more among all
turns_more : (n : ℕ) (earlier : List Turn) (turn : Turn) → turns_at n (earlier ++ turn ∷ []) ≡ behind (actor turn == n) turn (turns_at n earlier)
turns_more n [] turn = refl
turns_more n (x ∷ earlier) turn =
    ap (λ (turns : List Turn). cond (actor x == n) (x ∷ turns) turns) (turns_more n earlier turn) ∙ one_behind (actor x == n) (actor turn == n) x turn (turns_at n earlier)

get_here : {P : Type 0} (places : List P) (k : ℕ) (was now : P) → slice_get places k ≡ Some was → slice_get (set places k now) k ≡ Some now
get_here [] k was now there = absurd (false≢true (ap is_some there))
get_here (place ∷ places) zero was now there = refl
get_here (place ∷ places) (suc k) was now there = get_here places k was now there

get_apart : {P : Type 0} (places : List P) (k i : ℕ) (now : P) → (k ≡ i → ⊥) → slice_get (set places k now) i ≡ slice_get places i
get_apart [] k i now apart = refl
get_apart (place ∷ places) zero zero now apart = absurd (apart refl)
get_apart (place ∷ places) zero (suc i) now apart = refl
get_apart (place ∷ places) (suc k) zero now apart = refl
get_apart (place ∷ places) (suc k) (suc i) now apart = get_apart places k i now (λ e. apart (ap suc e))

node_apart : {P : Type 0} (places : List P) (k m : ℕ) (now : P) → (suc k ≡ m → ⊥) → node_at (set places k now) m ≡ node_at places m
node_apart places k zero now apart = refl
node_apart places k (suc i) now apart = get_apart places k i now (λ e. apart (ap suc e))

module _ {P : Type 0} (knows : Knowing P) (voters k : ℕ) (places : List P) (was now : P) (turn : Turn) (earlier : List Turn) where
  led_here : slice_get places k ≡ Some was → actor turn ≡ suc k
      → (knows was (suc k) voters (turns_at (suc k) earlier) → knows now (suc k) voters (turns_at (suc k) earlier ++ turn ∷ [])) → Each knows voters places earlier
      → KnowsAt knows voters (suc k) (turns_at (suc k) (earlier ++ turn ∷ [])) (slice_get (set places k now) k)
  led_here there acts on all =
      let known : knows was (suc k) voters (turns_at (suc k) earlier) = subst (KnowsAt knows voters (suc k) (turns_at (suc k) earlier)) there (all (suc k)) in
      let same : turns_at (suc k) (earlier ++ turn ∷ []) ≡ turns_at (suc k) earlier ++ turn ∷ [] =
      turns_more (suc k) earlier turn ∙ ap (λ (b : Bool). behind b turn (turns_at (suc k) earlier)) (eq-eqb (actor turn) (suc k) acts) in
      subst (KnowsAt knows voters (suc k) (turns_at (suc k) (earlier ++ turn ∷ []))) (sym (get_here places k was now there)) (subst (knows now (suc k) voters) (sym same) (on known))

  led_apart : (m : ℕ) → (actor turn == m) ≡ false → (suc k ≡ m → ⊥) → Each knows voters places earlier → KnowsAt knows voters m (turns_at m (earlier ++ turn ∷ [])) (node_at (set places k now) m)
  led_apart m other apart all =
      subst (KnowsAt knows voters m (turns_at m (earlier ++ turn ∷ []))) (sym (node_apart places k m now apart))
      (subst (λ (turns : List Turn). KnowsAt knows voters m turns (node_at places m))
      (sym (turns_more m earlier turn ∙ ap (λ (b : Bool). behind b turn (turns_at m earlier)) other)) (all m))

  led_by : slice_get places k ≡ Some was → actor turn ≡ suc k
      → (knows was (suc k) voters (turns_at (suc k) earlier) → knows now (suc k) voters (turns_at (suc k) earlier ++ turn ∷ [])) → Each knows voters places earlier
      → (m : ℕ) (b : Bool) → (actor turn == m) ≡ b → KnowsAt knows voters m (turns_at m (earlier ++ turn ∷ [])) (node_at (set places k now) m)
  led_by there acts on all m true is =
      subst (λ (n : ℕ). KnowsAt knows voters n (turns_at n (earlier ++ turn ∷ [])) (node_at (set places k now) n)) (sym acts ∙ eqb-true (actor turn) m is) (led_here there acts on all)
  led_by there acts on all m false is = led_apart m is (λ e. absurd (false≢true (sym is ∙ eq-eqb (actor turn) m (acts ∙ e)))) all

held_more : (earlier : List Turn) (turn : Turn) → AllCanHold earlier → AllByRecursion CanHold (messages_in turn) → AllCanHold (earlier ++ turn ∷ [])
held_more [] turn all hold = (hold, tt)
held_more (x ∷ earlier) turn all hold = (all.0, held_more earlier turn all.1 hold)

-- by a turn at the node of this place all are led on
pub led_on : {P : Type 0} (knows : Knowing P) (voters k : ℕ) (places : List P) (was now : P) (turn : Turn) (earlier : List Turn) → slice_get places k ≡ Some was → actor turn ≡ suc k → AllByRecursion CanHold (messages_in turn)
    → ((turns : List Turn) → knows was (suc k) voters turns → knows now (suc k) voters (turns ++ turn ∷ [])) → AllKnow knows voters places earlier → AllKnow knows voters (set places k now) (earlier ++ turn ∷ [])
led_on knows voters k places was now turn earlier there acts hold on all = (
  λ m. led_by knows voters k places was now turn earlier there acts (on (turns_at (suc k) earlier)) all.0 m (actor turn == m) refl,
  held_more earlier turn all.1 hold,
)

-- ---- new places

-- nothing has happened at all of these
abbrev pub AreNew : {P : Type 0} → Knowing P → List P → Type 0
AreNew knows [] = Unit {0}
AreNew knows (place ∷ places) = IsNew knows place × AreNew knows places

pub new_more : {P : Type 0} (knows : Knowing P) (places now : List P) (place : P) → now ≡ places ++ place ∷ [] → IsNew knows place → AreNew knows places → AreNew knows now
new_more {P} knows places now place push is before = subst (AreNew knows) (sym push) (both places before)
  where
    both : (all : List P) → AreNew knows all → AreNew knows (all ++ place ∷ [])
    both [] none = (is, tt)
    both (x ∷ all) new = (new.0, both all new.1)

new_at : {P : Type 0} (knows : Knowing P) (voters n : ℕ) (places : List P) (index : ℕ) → AreNew knows places → KnowsAt knows voters n [] (slice_get places index)
new_at knows voters n [] index new = refl
new_at knows voters n (place ∷ places) zero new = new.0 n voters
new_at knows voters n (place ∷ places) (suc index) new = new_at knows voters n places index new.1

each_new : {P : Type 0} (knows : Knowing P) (voters : ℕ) (places : List P) → AreNew knows places → Each knows voters places []
each_new knows voters places new zero = refl
each_new knows voters places new (suc index) = new_at knows voters (suc index) places index new

pub all_new : {P : Type 0} (knows : Knowing P) (voters : ℕ) (places : List P) → AreNew knows places → AllKnow knows voters places []
all_new knows voters places new = (each_new knows voters places new, tt)
