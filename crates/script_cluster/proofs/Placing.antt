-- Places as the code has them.
use Rattle.std.proofs.Common.{◌≡◌, ℕ, ◌+◌, ◌-◌, ◌<◌, ◌≤◌, zero, suc, Bool, true, false, leb, ◌&&◌, List, [], ◌∷◌, ◌++◌, map, drop, set, get_or, slice_get, nat_le, length, is_some, unwrap_or, Option, Some, Result, Ok, Err, IfOk, OnOk, refl, sym, ap, subst, ◌∙◌, add-one, arith}
use Rattle.std.proofs.lemmas.List.{map-append, length-map, append-nil, append_assoc, at_drop_more, at_drop_all}
use Rattle.std.specs.Option.{option_map}
use Rattle.std.proofs.lemmas.Bool.{leb-true, le-leb, and_parts, false≢true}
use Rattle.script_cluster.specs.declared.network.Network.{Network}
use Rattle.script_cluster.specs.declared.place.EventResult.{EventResult}
use Rattle.script_cluster.specs.declared.cluster_line.ClusterLine.{ClusterLine}
use Rattle.script_cluster.specs.World.{Place, empty_place, empty_places, shown_so, all_shown_from}
use Rattle.script_cluster.specs.Outcomes.{Outcome}
use Rattle.script_cluster.specs.Places.{Comes, place_after_crash}
use Rattle.script_cluster.specs.Holding.{IsNothing, beside}
use Rattle.script_cluster.specs.Clusters.{ComesAt, CrashesAt, empty_held}

empties_suc : (n : ℕ) → empty_places n ++ empty_place ∷ [] ≡ empty_places (suc n)
empties_suc zero = refl
empties_suc (suc n) = ap (λ (places : List Place). empty_place ∷ places) (empties_suc n)

empties_more : (n : ℕ) → empty_places n ++ empty_place ∷ [] ≡ empty_places (n + 1)
empties_more n = rw add-one (empties_suc n)

pub made_more : {P : Type 0} (shows : P → Place) (places new : List P) (p : P) (n : ℕ) → new ≡ places ++ p ∷ [] → shows p ≡ empty_place → map shows places ≡ empty_places n → map shows new ≡ empty_places (n + 1)
made_more shows places new p n push is before =
    ap (map shows) push
    ∙ map-append shows places (p ∷ [])
    ∙ ap (λ (all : List Place). all ++ shows p ∷ []) before
    ∙ ap (λ (place : Place). empty_places n ++ place ∷ []) is
    ∙ empties_more n

pub none_held : {P : Type 0} (voters spare : ℕ) (nodes : List P) (places : List Place) (o : Network) → IsNothing o → places ≡ empty_places (voters + spare) → beside voters nodes places o ≡ empty_held voters spare nodes
none_held voters spare nodes places o none are =
    λ i. record { voters = voters; nodes = nodes; places = are i; links = none.links i; mail = none.mail i; usage = none.usage i; journal = none.journal i }

-- ---- one place

pub shown_at : {P : Type 0} (shows : P → Place) (places : List P) (i : ℕ) (at : P) → i < length places → at ≡ get_or places i at → get_or (map shows places) i empty_place ≡ shows at
shown_at shows [] i at within is = absurd (omega (arith, within))
shown_at shows (place ∷ places) zero at within is = ap shows (sym is)
shown_at shows (place ∷ places) (suc i) at within is = shown_at shows places i at (omega (arith, within)) is

past_end : {P : Type 0} (shows : P → Place) (places : List P) (i : ℕ) → length places ≤ i → get_or (map shows places) i empty_place ≡ empty_place
past_end shows [] i past = refl
past_end shows (place ∷ places) zero past = absurd (omega (arith, past))
past_end shows (place ∷ places) (suc i) past = past_end shows places i (omega (arith, past))

pub down_zero : {P : Type 0} (shows : P → Place) (places : List P) (n : ℕ) → n ≡ 0 → false ≡ (nat_le 1 n && is_some (get_or (map shows places) (n - 1) empty_place).standing)
down_zero shows places n none = ap (λ (m : ℕ). nat_le 1 m && is_some (get_or (map shows places) (m - 1) empty_place).standing) (sym none)

and_none : (b : Bool) → false ≡ b && false
and_none true = refl
and_none false = refl

pub down_past : {P : Type 0} (shows : P → Place) (places : List P) (n index : ℕ) → index ≡ n - 1 → length places ≤ index
    → false ≡ (nat_le 1 n && is_some (get_or (map shows places) (n - 1) empty_place).standing)
down_past shows places n index at past =
    and_none (nat_le 1 n) ∙ ap (λ (place : Place). nat_le 1 n && is_some place.standing) (sym (past_end shows places (n - 1) (subst (λ (i : ℕ). length places ≤ i) at past)))

pub up_is : {P : Type 0} (shows : P → Place) (places : List P) (n index : ℕ) (at : P) (b : Bool) → index ≡ n - 1 → (n ≡ 0 → ⊥) → index < length places → at ≡ get_or places index at → b ≡ is_some (shows at).standing
    → b ≡ (nat_le 1 n && is_some (get_or (map shows places) (n - 1) empty_place).standing)
up_is shows places n index at b same some within is up =
    let one : 1 ≤ n = omega (arith, some) in
    up ∙ ap (λ (place : Place). is_some place.standing) (sym (shown_at shows places index at within is))
    ∙ ap (λ (i : ℕ). is_some (get_or (map shows places) i empty_place).standing) same
    ∙ ap (λ (first : Bool). first && is_some (get_or (map shows places) (n - 1) empty_place).standing) (sym (le-leb 1 n one))

pub up_at : {P : Type 0} (shows : P → Place) (places : List P) (i : ℕ) (at : P) (b : Bool) → i < length places → at ≡ get_or places i at → is_some (get_or (map shows places) i empty_place).standing ≡ b
    → is_some (shows at).standing ≡ b
up_at shows places i at b within is up = ap (λ (place : Place). is_some place.standing) (sym (shown_at shows places i at within is)) ∙ up

pub map_set : {P : Type 0} (shows : P → Place) (places : List P) (i : ℕ) (p : P) → map shows (set places i p) ≡ set (map shows places) i (shows p)
map_set shows [] i p = refl
map_set shows (place ∷ places) zero p = refl
map_set shows (place ∷ places) (suc i) p = ap (λ (all : List Place). shows place ∷ all) (map_set shows places i p)

get_at : {P : Type 0} (places : List P) (i : ℕ) (at : P) → i < length places → at ≡ get_or places i at → slice_get places i ≡ Some at
get_at [] i at within is = absurd (omega (arith, within))
get_at (place ∷ places) zero at within is = ap Some (sym is)
get_at (place ∷ places) (suc i) at within is = get_at places i at (omega (arith, within)) is

pub comes_at : {P E : Type 0} (shows : P → Place) (leads : P → P → Outcome → Type 0) (places : List P) (i : ℕ) (at now : P) (r : Result EventResult E) → i < length places → at ≡ get_or places i at
    → IfOk r (λ came. Comes (shows at) (shows now) came (leads at now)) → IfOk r (λ came. ComesAt shows leads places (set places i now) i came)
comes_at shows leads places i at now (Ok came) within is comes = record { was = at; now = now; there = get_at places i at within is; comes = comes; rest = refl }
comes_at shows leads places i at now (Err e) within is comes = tt

pub crashes_at : {P T E : Type 0} (shows : P → Place) (leads : P → P → Type 0) (places : List P) (i : ℕ) (at now : P) (r : Result T E) → i < length places → at ≡ get_or places i at
    → OnOk r (shows now ≡ place_after_crash (shows at)) → OnOk r (leads at now) → OnOk r (CrashesAt shows leads places (set places i now) i)
crashes_at shows leads places i at now (Ok x) within is crashed on = record { was = at; now = now; there = get_at places i at within is; crashed = crashed; on = on; rest = refl }
crashes_at shows leads places i at now (Err e) within is crashed on = tt

-- what the place shows at which an event came
pub shown_there : {P : Type 0} (shows : P → Place) (places : List P) (i : ℕ) (was : P) → slice_get places i ≡ Some was → get_or (map shows places) i empty_place ≡ shows was
shown_there shows [] i was there = absurd (false≢true (ap is_some there))
shown_there {P} shows (place ∷ places) zero was there = ap (λ (o : Option P). unwrap_or (option_map shows o) empty_place) there
shown_there shows (place ∷ places) (suc i) was there = shown_there shows places i was there

-- ---- the number of a node

pub node_within : {P : Type 0} (shows : P → Place) (places : List P) (n : ℕ) → (leb 1 n && leb n (length (map shows places))) ≡ true → n - 1 < length places
node_within shows places n is =
    let both = and_parts (leb 1 n) (leb n (length (map shows places))) is in
    let low : 1 ≤ n = leb-true _ _ both.0 in
    let high : n ≤ length places = subst (λ (m : ℕ). n ≤ m) (length-map places shows) (leb-true _ _ both.1) in
    omega (arith, low, high)

-- what a look at the place of a node tells
pub at_rest : {P : Type 0} (shows : P → Place) (slice places : List P) (n : ℕ) (b up : Bool) → b ≡ (nat_le 1 n && is_some (get_or (map shows slice) (n - 1) empty_place).standing) → slice ≡ places → b ≡ up
    → (nat_le 1 n && is_some (get_or (map shows places) (n - 1) empty_place).standing) ≡ up
at_rest {P} shows slice places n b up known same is =
    ap (λ (all : List P). nat_le 1 n && is_some (get_or (map shows all) (n - 1) empty_place).standing) (sym same) ∙ sym known ∙ is

-- a node that runs has a number from 1 on
pub from_one : (n : ℕ) (up : Bool) → (nat_le 1 n && up) ≡ true → 1 ≤ n
from_one n up is = leb-true 1 n (and_parts (nat_le 1 n) up is).0

-- ---- all nodes shown

-- the next one is shown
pub standing_more : {P : Type 0} (shows : P → Place) (places : List P) (i : ℕ) (at : P) (said new whole : List ClusterLine) (say : ClusterLine) → i < length places → at ≡ get_or places i at → say ≡ shown_so (i + 1) (shows at).standing → new ≡ said ++ say ∷ []
    → said ++ all_shown_from (i + 1) (drop i (map shows places)) ≡ whole → new ++ all_shown_from ((i + 1) + 1) (drop (i + 1) (map shows places)) ≡ whole
standing_more shows places i at said new whole say within is told push before =
    let next : (i + 1) + 1 ≡ suc (i + 1) = omega arith in
    let there : i < length (map shows places) = subst (λ (n : ℕ). i < n) (sym (length-map places shows)) within in
    ap (λ (all : List ClusterLine). all ++ all_shown_from ((i + 1) + 1) (drop (i + 1) (map shows places))) push
    ∙ append_assoc said (say ∷ []) (all_shown_from ((i + 1) + 1) (drop (i + 1) (map shows places)))
    ∙ ap (λ (n : ℕ). said ++ say ∷ all_shown_from n (drop (i + 1) (map shows places))) next
    ∙ ap (λ (x : ClusterLine). said ++ x ∷ all_shown_from (suc (i + 1)) (drop (i + 1) (map shows places))) (told ∙ ap (λ (place : Place). shown_so (i + 1) place.standing) (sym (shown_at shows places i at within is)))
    ∙ sym (at_drop_more (λ (ps : List Place). said ++ all_shown_from (i + 1) ps) (map shows places) i empty_place there)
    ∙ before

pub standing_whole : {P : Type 0} (shows : P → Place) (places : List P) (i : ℕ) (said whole : List ClusterLine) → length places ≤ i → said ++ all_shown_from (i + 1) (drop i (map shows places)) ≡ whole → said ≡ whole
standing_whole shows places i said whole past before =
    let most : length (map shows places) ≤ i = subst (λ (n : ℕ). n ≤ i) (sym (length-map places shows)) past in
    sym (append-nil said) ∙ sym (at_drop_all (λ (ps : List Place). said ++ all_shown_from (i + 1) ps) (map shows places) i most) ∙ before
