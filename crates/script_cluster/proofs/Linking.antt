-- Connections as a map has them.
use Rattle.std.proofs.Common.{◌≡◌, ℕ, ◌<◌, ◌≤◌, Bool, true, false, cond, eqb, ltb, leb, List, [], ◌∷◌, ◌++◌, map, unwrap_or, Bor, Option, Some, None, is_some, refl, sym, ap, subst, ◌∙◌, true≢false, arith}
use Rattle.std.specs.List.{AllByRecursion, filter}
use Rattle.std.proofs.lemmas.List.{map-append, append-nil}
use Rattle.std.proofs.lemmas.List.Elements.{filter-append}
use Rattle.std.specs.List.Sorted.{IsStrictlySortedBy}
use Rattle.std.specs.Ordering.{nat_cmp, is_eq, is_lt, match_ordering}
use Rattle.std.specs.declared.cmp.Ordering.TheVariants.{Less, Equal, Greater}
use Rattle.std.specs.BTreeMap.{BTreeMap, is_at, insert_entry}
use Rattle.std.specs.Map.{lookup, set_value, keys_of}
use Rattle.std.specs.Map.Iter.{deref_pair}
use Rattle.std.proofs.lemmas.Bool.{ltb-true, ltb-false, leb-true, leb-false, eqb-true, eqb-false, ne_eqb, eq-eqb}
use Rattle.script_cluster.specs.declared.connections.Endpoint.{Endpoint}
use Rattle.script_cluster.specs.World.{Link, is_known, node_of, with_link, without, shut, is_open_at, open_at}
use Rattle.script_cluster.specs.Seen.{link_of, open_node}

key_test : {O : Type 0} (f : O → Bool) (less equal greater : O) → f less ≡ false → f equal ≡ true → f greater ≡ false → (k q : ℕ) (below same : Bool) → ltb k q ≡ below → eqb k q ≡ same
    → f (cond below less (cond same equal greater)) ≡ eqb q k
key_test f less equal greater a b c k q true same l s = let lt : k < q = ltb-true _ _ l in a ∙ sym (ne_eqb q k (omega (arith, lt)))
key_test f less equal greater a b c k q false true l s = b ∙ sym (eq-eqb q k (sym (eqb-true k q s)))
key_test f less equal greater a b c k q false false l s = c ∙ sym (ne_eqb q k (λ e. eqb-false k q s (sym e)))

same_key : (k q : ℕ) → is_eq (nat_cmp k q) ≡ eqb q k
same_key k q = key_test is_eq _ _ _ refl refl refl k q (ltb k q) (eqb k q) refl refl

-- ---- looking up

known_by : (b : Bool) (x : Endpoint) (r : Option Endpoint) (known : Bool) → is_some r ≡ known → is_some (cond b (Some x) r) ≡ cond b true known
known_by true x r known is = refl
known_by false x r known is = is

pub known_is : (c : ℕ) (es : List (ℕ × Endpoint)) → is_some (lookup (is_at (nat_cmp c)) es) ≡ is_known (map link_of es) c
known_is c [] = refl
known_is c (e ∷ es) =
    ap (λ (b : Bool). is_some (cond b (Some e.1) (lookup (is_at (nat_cmp c)) es))) (same_key c e.0)
    ∙ known_by (eqb e.0 c) e.1 (lookup (is_at (nat_cmp c)) es) (is_known (map link_of es) c) (known_is c es)

abbrev pub node_in : Option Endpoint → Option ℕ
node_in None = None
node_in (Some link) = open_node link

node_by : (b : Bool) (x : Endpoint) (r : Option Endpoint) (found : Option ℕ) → node_in r ≡ found → node_in (cond b (Some x) r) ≡ cond b (open_node x) found
node_by true x r found is = refl
node_by false x r found is = is

pub node_is : (c : ℕ) (es : List (ℕ × Endpoint)) → node_in (lookup (is_at (nat_cmp c)) es) ≡ node_of (map link_of es) c
node_is c [] = refl
node_is c (e ∷ es) =
    ap (λ (b : Bool). node_in (cond b (Some e.1) (lookup (is_at (nat_cmp c)) es))) (same_key c e.0)
    ∙ node_by (eqb e.0 c) e.1 (lookup (is_at (nat_cmp c)) es) (node_of (map link_of es) c) (node_is c es)

-- what was found, or not, by its number
pub node_found : (c : ℕ) (es : List (ℕ × Endpoint)) (links : List Link) (r : Option Endpoint) (link : Endpoint) → map link_of es ≡ links → r ≡ lookup (is_at (nat_cmp c)) es → r ≡ Some link → open_node link ≡ node_of links c
node_found c es links r link seen found is = ap node_in (sym is ∙ found) ∙ node_is c es ∙ ap (λ (all : List Link). node_of all c) seen

pub node_missing : (c : ℕ) (es : List (ℕ × Endpoint)) (links : List Link) (r : Option Endpoint) → map link_of es ≡ links → r ≡ lookup (is_at (nat_cmp c)) es → r ≡ None → None ≡ node_of links c
node_missing c es links r seen found is = ap node_in (sym is ∙ found) ∙ node_is c es ∙ ap (λ (all : List Link). node_of all c) seen

-- ---- a new one

upto_same : (c q : ℕ) → ltb c q ≡ false → c ≤ q → c ≡ q
upto_same c q lt le = let m : q ≤ c = ltb-false _ _ lt in omega (arith, le, m)

placed : (c : ℕ) (v : Endpoint) (e : ℕ × Endpoint) (es more : List (ℕ × Endpoint)) (links : List Link) (below same upto : Bool) → ltb c e.0 ≡ below → eqb c e.0 ≡ same → leb c e.0 ≡ upto
    → eqb e.0 c ≡ false → map link_of more ≡ links
    → map link_of (match_ordering (cond below Less (cond same Equal Greater)) ((c, v) ∷ e ∷ es) ((e.0, v) ∷ es) (e ∷ more)) ≡ cond upto (link_of (c, v) ∷ link_of e ∷ map link_of es) (link_of e ∷ links)
placed c v e es more links true same true lt eq le apart is = refl
placed c v e es more links true same false lt eq le apart is = let l : c < e.0 = ltb-true _ _ lt in let m : e.0 < c = leb-false _ _ le in absurd (omega (arith, l, m))
placed c v e es more links false true upto lt eq le apart is = absurd (eqb-false e.0 c apart (sym (eqb-true c e.0 eq)))
placed c v e es more links false false true lt eq le apart is = absurd (eqb-false c e.0 eq (upto_same c e.0 lt (leb-true _ _ le)))
placed c v e es more links false false false lt eq le apart is = ap (λ (all : List Link). link_of e ∷ all) is

first_apart : (b rest : Bool) → cond b true rest ≡ false → b ≡ false
first_apart true rest is = is
first_apart false rest is = refl

rest_apart : (b rest : Bool) → cond b true rest ≡ false → rest ≡ false
rest_apart true rest is = absurd (true≢false is)
rest_apart false rest is = is

pub made : (c : ℕ) (v : Endpoint) (es : List (ℕ × Endpoint)) → is_known (map link_of es) c ≡ false → map link_of (insert_entry nat_cmp es c v) ≡ with_link (link_of (c, v)) (map link_of es)
made c v [] new = refl
made c v (e ∷ es) new =
    placed c v e es (insert_entry nat_cmp es c v) (with_link (link_of (c, v)) (map link_of es)) (ltb c e.0) (eqb c e.0) (leb c e.0) refl refl refl
    (first_apart (eqb e.0 c) (is_known (map link_of es) c) new) (made c v es (rest_apart (eqb e.0 c) (is_known (map link_of es) c) new))

-- a new connection joins
pub made_in : (c : ℕ) (v : Endpoint) (es new : List (ℕ × Endpoint)) (links : List Link) → map link_of es ≡ links → is_known links c ≡ false → new ≡ insert_entry nat_cmp es c v → map link_of new ≡ with_link (link_of (c, v)) links
made_in c v es new links seen apart is =
    ap (λ (all : List (ℕ × Endpoint)). map link_of all) is ∙ made c v es (ap (λ (all : List Link). is_known all c) seen ∙ apart) ∙ ap (λ (all : List Link). with_link (link_of (c, v)) all) seen

-- ---- one that closes

abbrev pub shut_entry : Endpoint → Endpoint
shut_entry link = record { node = link.node; is_open = false }

-- one of another number stays
stays_apart : (c : ℕ) (link : Link) (b : Bool) → eqb link.conn c ≡ b → b ≡ false → cond b (shut link) link ≡ link
stays_apart c link true is apart = absurd (true≢false apart)
stays_apart c link false is apart = refl

-- none of these has the number
abbrev AreApart : ℕ → List (ℕ × Endpoint) → Type 0
AreApart c es = AllByRecursion (λ (q : ℕ). nat_cmp c q ≡ Less) (keys_of es)

less_apart : (c q : ℕ) (below same : Bool) → ltb c q ≡ below → eqb c q ≡ same → cond below Less (cond same Equal Greater) ≡ Less → eqb q c ≡ false
less_apart c q true same lt eq is = let l : c < q = ltb-true _ _ lt in ne_eqb q c (omega (arith, l))
less_apart c q false true lt eq is = absurd (true≢false (sym (ap is_lt is)))
less_apart c q false false lt eq is = absurd (true≢false (sym (ap is_lt is)))

none_close : (c : ℕ) (es : List (ℕ × Endpoint)) → AreApart c es → without (map link_of es) c ≡ map link_of es
none_close c [] apart = refl
none_close c (e ∷ es) apart = λ i.
    stays_apart c (link_of e) (eqb e.0 c) refl (less_apart c e.0 (ltb c e.0) (eqb c e.0) refl refl apart.0) i ∷ none_close c es apart.1 i

closes_by : (c : ℕ) (e : ℕ × Endpoint) (es put : List (ℕ × Endpoint)) (w : Endpoint) (here : Bool) → eqb e.0 c ≡ here → AreApart e.0 es → (here ≡ true → w ≡ shut_entry e.1)
    → (here ≡ false → map link_of put ≡ without (map link_of es) c) → map link_of (cond here ((e.0, w) ∷ es) (e ∷ put)) ≡ cond here (shut (link_of e)) (link_of e) ∷ without (map link_of es) c
closes_by c e es put w true is above shuts rest = λ i. link_of (e.0, shuts refl i) ∷ sym (none_close c es (subst (λ (q : ℕ). AreApart q es) (eqb-true e.0 c is) above)) i
closes_by c e es put w false is above shuts rest = ap (λ (all : List Link). link_of e ∷ all) (rest refl)

at_first : (c : ℕ) (e : ℕ × Endpoint) (es : List (ℕ × Endpoint)) (here : Bool) → eqb e.0 c ≡ here → lookup (is_at (nat_cmp c)) (e ∷ es) ≡ cond here (Some e.1) (lookup (is_at (nat_cmp c)) es)
at_first c e es here is = ap (λ (b : Bool). cond b (Some e.1) (lookup (is_at (nat_cmp c)) es)) (same_key c e.0 ∙ is)

-- what was found is put back closed
pub closes : (c : ℕ) (w : Endpoint) (es : List (ℕ × Endpoint)) → IsStrictlySortedBy nat_cmp (keys_of es) → ((v : Endpoint) → lookup (is_at (nat_cmp c)) es ≡ Some v → w ≡ shut_entry v)
    → map link_of (set_value (is_at (nat_cmp c)) es w) ≡ without (map link_of es) c
unfolding IsStrictlySortedBy
closes c w [] sorted shuts = refl
closes c w (e ∷ es) sorted shuts =
    ap (λ (b : Bool). map link_of (cond b ((e.0, w) ∷ es) (e ∷ set_value (is_at (nat_cmp c)) es w))) (same_key c e.0)
    ∙ closes_by c e es (set_value (is_at (nat_cmp c)) es w) w (eqb e.0 c) refl sorted.0 (λ is. shuts e.1 (at_first c e es true is))
    (λ is. closes c w es sorted.1 (λ v found. shuts v (at_first c e es false is ∙ found)))

none_by : (c : ℕ) (e : ℕ × Endpoint) (es : List (ℕ × Endpoint)) (here : Bool) → eqb e.0 c ≡ here → cond here (Some e.1) (lookup (is_at (nat_cmp c)) es) ≡ None
    → (here ≡ false → without (map link_of es) c ≡ map link_of es) → cond here (shut (link_of e)) (link_of e) ∷ without (map link_of es) c ≡ link_of e ∷ map link_of es
none_by c e es true is none rest = absurd (true≢false (ap is_some none))
none_by c e es false is none rest = ap (λ (all : List Link). link_of e ∷ all) (rest refl)

-- this holds if none has the number
pub none_found : (c : ℕ) (es : List (ℕ × Endpoint)) → lookup (is_at (nat_cmp c)) es ≡ None → without (map link_of es) c ≡ map link_of es
none_found c [] none = refl
none_found c (e ∷ es) none =
    none_by c e es (eqb e.0 c) refl (sym (at_first c e es (eqb e.0 c) refl) ∙ none) (λ is. none_found c es (sym (at_first c e es false is) ∙ none))

pub shuts_found : (c : ℕ) (link : Endpoint) (es new : List (ℕ × Endpoint)) → new ≡ set_value (is_at (nat_cmp c)) es (shut_entry link) → IsStrictlySortedBy nat_cmp (keys_of es)
    → Some link ≡ lookup (is_at (nat_cmp c)) es → map link_of new ≡ without (map link_of es) c
shuts_found c link es new put sorted found =
    ap (λ (all : List (ℕ × Endpoint)). map link_of all) put
    ∙ closes c (shut_entry link) es sorted (λ v is. ap (λ (o : Option Endpoint). shut_entry (unwrap_or o link)) (found ∙ is))

pub shuts_none : (c : ℕ) (old new : BTreeMap ℕ Endpoint) → new ≡ old → None ≡ lookup (is_at (nat_cmp c)) old.entries → map link_of new.entries ≡ without (map link_of old.entries) c
shuts_none c old new same none = ap (λ (all : BTreeMap ℕ Endpoint). map link_of all.entries) same ∙ sym (none_found c old.entries (sym none))

pub known_in : (c : ℕ) (es : List (ℕ × Endpoint)) (links : List Link) (r : Option Endpoint) (known : Bool) → map link_of es ≡ links → r ≡ lookup (is_at (nat_cmp c)) es → known ≡ is_some r → known ≡ is_known links c
known_in c es links r known seen found is = is ∙ ap (λ (o : Option Endpoint). is_some o) found ∙ known_is c es ∙ ap (λ (all : List Link). is_known all c) seen

-- ---- the open ones of a node

abbrev conn_of : Link → ℕ
conn_of link = link.conn

open_one : {Y : Type 0} (f : Y → Link) (ys : List Y) (y : Y) (n : ℕ) (numbers : List ℕ) → is_open_at n (f y) ≡ true → numbers ≡ open_at (map f ys) n
    → numbers ++ (f y).conn ∷ [] ≡ open_at (map f (ys ++ y ∷ [])) n
open_one f ys y n numbers is before =
    ap (λ (all : List ℕ). all ++ (f y).conn ∷ []) before
    ∙ sym (map-append conn_of (filter (is_open_at n) (map f ys)) (f y ∷ []))
    ∙ ap (λ (b : Bool). map conn_of (filter (is_open_at n) (map f ys) ++ cond b (f y ∷ []) [])) (sym is)
    ∙ ap (map conn_of) (sym (filter-append (is_open_at n) (map f ys) (f y ∷ [])))
    ∙ ap (λ (all : List Link). open_at all n) (sym (map-append f ys (y ∷ [])))

shut_one : {Y : Type 0} (f : Y → Link) (ys : List Y) (y : Y) (n : ℕ) (numbers : List ℕ) → is_open_at n (f y) ≡ false → numbers ≡ open_at (map f ys) n
    → numbers ≡ open_at (map f (ys ++ y ∷ [])) n
shut_one f ys y n numbers is before =
    before
    ∙ ap (map conn_of) (sym (append-nil (filter (is_open_at n) (map f ys))))
    ∙ ap (λ (b : Bool). map conn_of (filter (is_open_at n) (map f ys) ++ cond b (f y ∷ []) [])) (sym is)
    ∙ ap (map conn_of) (sym (filter-append (is_open_at n) (map f ys) (f y ∷ [])))
    ∙ ap (λ (all : List Link). open_at all n) (sym (map-append f ys (y ∷ [])))

-- one more that a loop over the map has yielded
pub open_joins : (ys : List (Bor ℕ × Bor Endpoint)) (y : Bor ℕ × Bor Endpoint) (n : ℕ) (numbers : List ℕ) → is_open_at n (link_of (y.0.now, y.1.now)) ≡ true
    → numbers ≡ open_at (map link_of (map deref_pair ys)) n → numbers ++ y.0.now ∷ [] ≡ open_at (map link_of (map deref_pair (ys ++ y ∷ []))) n
open_joins ys y n numbers is before =
    open_one link_of (map deref_pair ys) (y.0.now, y.1.now) n numbers is before
    ∙ ap (λ (es : List (ℕ × Endpoint)). open_at (map link_of es) n) (sym (map-append deref_pair ys (y ∷ [])))

pub open_skips : (ys : List (Bor ℕ × Bor Endpoint)) (y : Bor ℕ × Bor Endpoint) (n : ℕ) (numbers : List ℕ) → is_open_at n (link_of (y.0.now, y.1.now)) ≡ false
    → numbers ≡ open_at (map link_of (map deref_pair ys)) n → numbers ≡ open_at (map link_of (map deref_pair (ys ++ y ∷ []))) n
open_skips ys y n numbers is before =
    shut_one link_of (map deref_pair ys) (y.0.now, y.1.now) n numbers is before
    ∙ ap (λ (es : List (ℕ × Endpoint)). open_at (map link_of es) n) (sym (map-append deref_pair ys (y ∷ [])))
