-- The table of a list of statements has each name once, with the greatest length that is stated for it.
use Rattle.std.proofs.Common.{◌≡◌, ◌≢◌, ◌↔◌, ℕ, ◌≤◌, max, Bool, cond, leb, inl, inr, ◌⊎◌, List, [], ◌∷◌, ◌++◌, length, sum_by, IsTrue, All, refl, sym, ap, subst, ◌∙◌, arith, append_assoc, append-nil}
use Rattle.std.specs.Prelude.{bytes_eq}
use Rattle.std.specs.List.{AllByRecursion}
use Rattle.std.proofs.lemmas.Bool.{and_parts, and_from, leb-true, le-leb}
use Rattle.std.proofs.lemmas.List.{length-map}
use Rattle.std.proofs.lemmas.List.Elements.{All-from_recursion}
use Rattle.std.proofs.lemmas.List.Sums.{sum_by-cons}
use Rattle.std.proofs.lemmas.Slice.Eq.{bytes_eq-Decides}
use Rattle.script_machines.specs.declared.stated.Stated.{Stated}
use Rattle.script_machines.specs.Limits.{note, noted, is_allowed}
use Rattle.script_machines.specs.StatedLengths.{AreNamesIn, greatest_stated, names_in}
use Rattle.log_commands.proofs.NamesAmong.{IsIn, is_in, same_or_other}
use Rattle.script_machines.proofs.NameLists.{AreDistinct, contains, apart, distinct, same_sum, length_is_sum}

-- ---- the names after one more

module _ (name : List ℕ) (size : ℕ) where
  noted_is : (table : List Stated) (n : List ℕ) → IsIn n (names_in (note table name size)) → (name ≡ n) ⊎ IsIn n (names_in table)
  unfolding note
  noted_is [] n i = i
  noted_is (s ∷ ss) n i =
      elim (same_or_other s.name name) [
        | inl p ↦ inr (rw p.0 at i)
        | inr p ↦
            let j : (s.name ≡ n) ⊎ IsIn n (names_in (note ss name size)) = rw p.0 at i in
            elim j [
              | inl e ↦ inr (inl e)
              | inr k ↦ elim (noted_is ss n k) [ inl e ↦ inl e | inr l ↦ inr (inr l) ]
            ]
      ]

  noted_old : (table : List Stated) (n : List ℕ) → IsIn n (names_in table) → IsIn n (names_in (note table name size))
  unfolding note
  noted_old [] n i = absurd i
  noted_old (s ∷ ss) n i =
      elim (same_or_other s.name name) [
        | inl p ↦ rw p.0 i
        | inr p ↦ rw p.0 (elim i [ inl e ↦ inl e | inr j ↦ inr (noted_old ss n j) ])
      ]

  noted_new : (table : List Stated) → IsIn name (names_in (note table name size))
  unfolding note
  noted_new [] = inl refl
  noted_new (s ∷ ss) =
      elim (same_or_other s.name name) [
        | inl p ↦ rw p.0 (inl p.1)
        | inr p ↦ rw p.0 (inr (noted_new ss))
      ]

  noted_once : (table : List Stated) → AreDistinct (names_in table) → AreDistinct (names_in (note table name size))
  unfolding note
  noted_once [] d = (λ i. i, tt)
  noted_once (s ∷ ss) d =
      elim (same_or_other s.name name) [
        | inl p ↦ rw p.0 d
        | inr p ↦ rw p.0 (λ i. elim (noted_is ss s.name i) [ inl e ↦ p.1 (sym e) | inr j ↦ d.0 j ], noted_once ss d.1)
      ]

-- ---- the lengths after one more

-- each name has this length
abbrev HaveLengths : (List ℕ → ℕ) → List Stated → Type 0
HaveLengths f table = AllByRecursion (λ (s : Stated). s.length ≡ f s.name) table

module _ (f g : List ℕ → ℕ) (name : List ℕ) (size : ℕ) (others : (n : List ℕ) → name ≢ n → g n ≡ f n) (here : g name ≡ max (f name) size) where
  kept : (table : List Stated) → (IsIn name (names_in table) → ⊥) → HaveLengths f table → HaveLengths g table
  kept [] absent h = tt
  kept (s ∷ ss) absent h = (h.0 ∙ sym (others s.name (λ e. absent (inl (sym e)))), kept ss (λ i. absent (inr i)) h.1)

  first : f name ≡ 0 → size ≡ g name
  first none = let e : g name ≡ max 0 size = here ∙ ap (λ (n : ℕ). max n size) none in omega (arith, e)

  noted_lengths : (table : List Stated) → ((IsIn name (names_in table) → ⊥) → f name ≡ 0) → AreDistinct (names_in table) → HaveLengths f table → HaveLengths g (note table name size)
  unfolding note
  noted_lengths [] fresh d h = (first (fresh (λ i. i)), tt)
  noted_lengths (s ∷ ss) fresh d h =
      elim (same_or_other s.name name) [
        | inl p ↦
            rw p.0 (
              ap (λ (l : ℕ). max l size) (h.0 ∙ ap f p.1) ∙ sym here ∙ ap g (sym p.1),
              kept ss (λ i. d.0 (subst (λ (z : List ℕ). IsIn z (names_in ss)) (sym p.1) i)) h.1,
            )
        | inr p ↦
            rw p.0 (
              h.0 ∙ sym (others s.name (λ e. p.1 (sym e))),
              noted_lengths ss (λ absent. fresh (λ i. elim i [ inl e ↦ p.1 e | inr j ↦ absent j ])) d.1 h.1,
            )
      ]

-- ---- statements after one more

-- what a statement states for a name
abbrev stated_for : Stated → List ℕ → ℕ
stated_for one name = cond (bytes_eq one.name name) one.length 0

max_last : (a b c : ℕ) → max a (max b c) ≡ max (max a b) c
max_last a b c = omega arith

max_first : (a : ℕ) → max a 0 ≡ max 0 a
max_first a = omega arith

greatest_more : (stated : List Stated) (one : Stated) (name : List ℕ) → greatest_stated (stated ++ one ∷ []) name ≡ max (greatest_stated stated name) (stated_for one name)
greatest_more [] one name = max_first (stated_for one name)
greatest_more (c ∷ stated) one name =
    ap (max (stated_for c name)) (greatest_more stated one name) ∙ max_last (stated_for c name) (greatest_stated stated name) (stated_for one name)

greatest_none : (stated : List Stated) (name : List ℕ) → (IsIn name (names_in stated) → ⊥) → greatest_stated stated name ≡ 0
greatest_none [] name absent = refl
greatest_none (c ∷ stated) name absent =
    elim (same_or_other c.name name) [
      | inl p ↦ absurd (absent (inl p.1))
      | inr p ↦ rw (p.0, greatest_none stated name (λ i. absent (inr i))) refl
    ]

greatest_other : (stated : List Stated) (one : Stated) (name : List ℕ) → one.name ≢ name → greatest_stated (stated ++ one ∷ []) name ≡ greatest_stated stated name
greatest_other stated one name other =
    elim (same_or_other one.name name) [
      | inl p ↦ absurd (other p.1)
      | inr p ↦
          let e : greatest_stated (stated ++ one ∷ []) name ≡ max (greatest_stated stated name) 0 = greatest_more stated one name ∙ ap (λ (b : Bool). max (greatest_stated stated name) (cond b one.length 0)) p.0 in
          e ∙ max_first (greatest_stated stated name) ∙ omega arith
    ]

greatest_here : (stated : List Stated) (one : Stated) → greatest_stated (stated ++ one ∷ []) one.name ≡ max (greatest_stated stated one.name) one.length
greatest_here stated one =
    greatest_more stated one one.name
    ∙ ap (λ (b : Bool). max (greatest_stated stated one.name) (cond b one.length 0)) ((bytes_eq-Decides one.name one.name).1 refl)

named_more : (stated : List Stated) (one : Stated) (n : List ℕ) → IsIn n (names_in (stated ++ one ∷ [])) → (one.name ≡ n) ⊎ IsIn n (names_in stated)
named_more [] one n i = i
named_more (c ∷ stated) one n (inl e) = inr (inl e)
named_more (c ∷ stated) one n (inr i) = elim (named_more stated one n i) [ inl e ↦ inl e | inr j ↦ inr (inr j) ]

named_old : (stated : List Stated) (one : Stated) (n : List ℕ) → IsIn n (names_in stated) → IsIn n (names_in (stated ++ one ∷ []))
named_old [] one n i = absurd i
named_old (c ∷ stated) one n (inl e) = inl e
named_old (c ∷ stated) one n (inr i) = inr (named_old stated one n i)

named_new : (stated : List Stated) (one : Stated) → IsIn one.name (names_in (stated ++ one ∷ []))
named_new [] one = inl refl
named_new (c ∷ stated) one = inr (named_new stated one)

-- ---- a whole list

record Tells (stated : List Stated) (table : List Stated) : Type 0 where
  once : AreDistinct (names_in table)
  all : (n : List ℕ) → IsIn n (names_in stated) → IsIn n (names_in table)
  only : (n : List ℕ) → IsIn n (names_in table) → IsIn n (names_in stated)
  lengths : HaveLengths (greatest_stated stated) table

tells_more : (stated : List Stated) (one : Stated) (table : List Stated) → Tells stated table → Tells (stated ++ one ∷ []) (note table one.name one.length)
tells_more stated one table t =
    let name = one.name in
    let size = one.length in
    record {
      once = noted_once name size table t.once;
      all = λ n i. elim (named_more stated one n i) [
        | inl e ↦ subst (λ (z : List ℕ). IsIn z (names_in (note table name size))) e (noted_new name size table)
        | inr j ↦ noted_old name size table n (t.all n j)
      ];
      only = λ n i. elim (noted_is name size table n i) [
        | inl e ↦ subst (λ (z : List ℕ). IsIn z (names_in (stated ++ one ∷ []))) e (named_new stated one)
        | inr j ↦ named_old stated one n (t.only n j)
      ];
      lengths =
          noted_lengths (greatest_stated stated) (greatest_stated (stated ++ one ∷ [])) name size (greatest_other stated one) (greatest_here stated one) table
          (λ absent. greatest_none stated name (λ i. absent (t.all name i))) t.once t.lengths;
    }

tells_all : (done stated : List Stated) (table : List Stated) → Tells done table → Tells (done ++ stated) (noted table stated)
tells_all done [] table t = subst (λ (cs : List Stated). Tells cs table) (sym (append-nil done)) t
tells_all done (one ∷ stated) table t =
    subst (λ (cs : List Stated). Tells cs (noted (note table one.name one.length) stated))
    (append_assoc done (one ∷ []) stated)
    (tells_all (done ++ one ∷ []) stated (note table one.name one.length) (tells_more done one table t))

tells : (stated : List Stated) → Tells stated (noted [] stated)
tells stated = tells_all [] stated [] (record { once = tt; all = λ n i. i; only = λ n i. i; lengths = tt })

pub names_told : (stated : List Stated) → AreNamesIn stated (names_in (noted [] stated))
names_told stated =
    let t = tells stated in
    let names = names_in (noted [] stated) in
    record {
      once = apart names t.once;
      same = λ name. (λ c. contains name (names_in stated) (t.only name (is_in name names c)), λ c. contains name names (t.all name (is_in name (names_in stated) c)));
    }

pub lengths_told : (stated : List Stated) → All (λ (s : Stated). s.length ≡ greatest_stated stated s.name) (noted [] stated)
lengths_told stated = All-from_recursion (λ (s : Stated). s.length ≡ greatest_stated stated s.name) (noted [] stated) (tells stated).lengths

table_sum : (f : List ℕ → ℕ) (table : List Stated) → HaveLengths f table → sum_by (λ (s : Stated). s.length) table ≡ sum_by f (names_in table)
table_sum f [] h = refl
table_sum f (s ∷ ss) h =
    let rest = table_sum f ss h.1 in
    let here : s.length ≡ f s.name = h.0 in
    omega (arith, sum_by-cons (λ (s : Stated). s.length) s ss, sum_by-cons f s.name (names_in ss), rest, here)

-- over any list of the names a sum is the same
over_names : (f : List ℕ → ℕ) (stated : List Stated) (names : List (List ℕ)) → AreNamesIn stated names → sum_by f (names_in (noted [] stated)) ≡ sum_by f names
over_names f stated names are =
    let t = tells stated in
    same_sum f (names_in (noted [] stated)) names t.once (distinct names are.once)
    (λ n i. is_in n names ((are.same n).1 (contains n (names_in stated) (t.only n i))))
    (λ n i. t.all n (is_in n (names_in stated) ((are.same n).0 (contains n names i))))

pub sum_told : (stated : List Stated) (names : List (List ℕ)) → AreNamesIn stated names → sum_by (λ (s : Stated). s.length) (noted [] stated) ≡ sum_by (greatest_stated stated) names
sum_told stated names are = table_sum (greatest_stated stated) (noted [] stated) (tells stated).lengths ∙ over_names (greatest_stated stated) stated names are

count_told : (stated : List Stated) (names : List (List ℕ)) → AreNamesIn stated names → length (noted [] stated) ≡ length names
count_told stated names are =
    let table = noted [] stated in
    sym (length-map table (λ (s : Stated). s.name)) ∙ length_is_sum (names_in table) ∙ over_names (λ n. 1) stated names are ∙ sym (length_is_sum names)

pub allowed_told : (stated : List Stated) (names : List (List ℕ)) → AreNamesIn stated names
    → IsTrue (is_allowed (noted [] stated)) ↔ ((length names ≤ 16) × (sum_by (greatest_stated stated) names ≤ 67108864))
unfolding is_allowed
allowed_told stated names are =
    let table = noted [] stated in
    let count : length table ≡ length names = count_told stated names are in
    let total : sum_by (λ (s : Stated). s.length) table ≡ sum_by (greatest_stated stated) names = sum_told stated names are in (
      λ e.
          let both = and_parts (leb (length table) 16) (leb (sum_by (λ (s : Stated). s.length) table) 67108864) e in
          (rw (← count) (leb-true (length table) 16 both.0), rw (← total) (leb-true (sum_by (λ (s : Stated). s.length) table) 67108864 both.1)),
      λ h.
          and_from (leb (length table) 16) (leb (sum_by (λ (s : Stated). s.length) table) 67108864)
          (le-leb (length table) 16 (rw count h.0))
          (le-leb (sum_by (λ (s : Stated). s.length) table) 67108864 (rw total h.1)),
    )
