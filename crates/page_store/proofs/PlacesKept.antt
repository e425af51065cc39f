-- The ordered set of places while frames are pushed and dropped, and what a look-up in it says of the frames.
use Rattle.std.proofs.Common.{◌≡◌, ℕ, suc, ◌+◌, ◌-◌, ◌^◌, ◌<◌, ◌≤◌, ◌⊎◌, true, false, min, List, [], ◌∷◌, ◌++◌, length, get_or, take, Some, sym, ap, ◌∙◌, subst, arith, inl, inr}
use Rattle.std.specs.List.{slice_get, list_any}
use Rattle.std.specs.BTreeMap.{is_at}
use Rattle.std.specs.Ordering.{is_eq, is_lt}
use Rattle.std.specs.declared.cmp.Ordering.TheVariants.{Less}
use Rattle.std.specs.BTreeSet.{BTreeSet, contains, Updates}
use Rattle.std.proofs.lemmas.Bool.{cases_lt, cases_eq, cases_Bool, cond-true, false≢true}
use Rattle.std.proofs.lemmas.List.{length_push, get_or_push, get_or_append_left, take-take, length-take-le}
use Rattle.std.proofs.lemmas.Option.{slice_get-get_or, slice_get_within, get_or_from_slice_get}
use Rattle.page_store.specs.Frames.{IsLastAt, NoneAt}
use Rattle.page_store.specs.Places.{pair_cmp, StandsIn, Placed, NoPlace, IsLastPlace}
use Rattle.page_store.proofs.PairOrder.{pair_same, pair_is, below_number, below_place, below_is, place_up_to}

abbrev Places : Type 0
Places = BTreeSet (ℕ × ℕ)

-- ---- one pair more or less

pub has_still : (s n : Places) (k q : ℕ × ℕ) → Updates pair_cmp s n k true → contains pair_cmp s q ≡ true → contains pair_cmp n q ≡ true
has_still s n k q up e =
    elim (cases_Bool (is_eq (pair_cmp k q))) [
      | inl at ↦ up.0 q ∙ cond-true (is_eq (pair_cmp k q)) true (contains pair_cmp s q) at
      | inr off ↦ up.2 q off ∙ e
    ]

pub had : (s n : Places) (k q : ℕ × ℕ) → Updates pair_cmp s n k true → contains pair_cmp n q ≡ true → (k ≡ q) ⊎ (contains pair_cmp s q ≡ true)
had s n k q up e =
    elim (cases_Bool (is_eq (pair_cmp k q))) [
      | inl at ↦ inl (pair_is k q at)
      | inr off ↦ inr (sym (up.2 q off) ∙ e)
    ]

pub stays : (s n : Places) (k q : ℕ × ℕ) → Updates pair_cmp s n k false → (k ≡ q → ⊥) → contains pair_cmp s q ≡ true → contains pair_cmp n q ≡ true
stays s n k q up other e =
    elim (cases_Bool (is_eq (pair_cmp k q))) [
      | inl at ↦ absurd (other (pair_is k q at))
      | inr off ↦ up.2 q off ∙ e
    ]

pub stayed : (s n : Places) (k q : ℕ × ℕ) → Updates pair_cmp s n k false → contains pair_cmp n q ≡ true → (k ≡ q → ⊥) × (contains pair_cmp s q ≡ true)
stayed s n k q up e =
    elim (cases_Bool (is_eq (pair_cmp k q))) [
      | inl at ↦ absurd (false≢true (sym (up.0 q ∙ cond-true (is_eq (pair_cmp k q)) false (contains pair_cmp s q) at) ∙ e))
      | inr off ↦ (λ same. false≢true (sym off ∙ ap (λ (x : ℕ × ℕ). is_eq (pair_cmp k x)) (sym same) ∙ pair_same k), sym (up.2 q off) ∙ e)
    ]

-- ---- a frame pushed after the others

pub placed_push : (numbers : List ℕ) (first : ℕ) (s n : Places) (number : ℕ) → Placed numbers first s → first + length numbers + 1 < 2 ^ 64 → Updates pair_cmp s n (number, first + length numbers) true → Placed (numbers ++ number ∷ []) first n
placed_push numbers first s n number placed fits up =
    let len : length (numbers ++ number ∷ []) ≡ length numbers + 1 = length_push numbers number in
    record {
      fits = omega arith;
      listed = λ i lt. listed_push i (omega arith);
      stands = λ pair e. elim (had s n (number, first + length numbers) pair up e) [
        | inl same ↦ subst (λ (x : ℕ × ℕ). StandsIn (numbers ++ number ∷ []) first x) same last_stands
        | inr before ↦ stands_push pair (placed.stands pair before)
      ];
    }
  where
    len : length (numbers ++ number ∷ []) ≡ length numbers + 1
    len = length_push numbers number

    listed_push : (i : ℕ) → i < length numbers + 1 → contains pair_cmp n (get_or (numbers ++ number ∷ []) i 0, first + i) ≡ true
    listed_push i lt = elim (cases_lt i (length numbers)) [
      | inl inside ↦
          ap (λ (x : ℕ). contains pair_cmp n (x, first + i)) (get_or_append_left numbers (number ∷ []) 0 i inside)
          ∙ has_still s n (number, first + length numbers) (get_or numbers i 0, first + i) up (placed.listed i inside)
      | inr past ↦
          let at : length numbers ≡ i = omega arith in
          ap (λ (x : ℕ). contains pair_cmp n (x, first + i)) (get_or_push numbers number 0 i at)
          ∙ ap (λ (x : ℕ). contains pair_cmp n (number, first + x)) (sym at)
          ∙ up.1
    ]

    last_stands : StandsIn (numbers ++ number ∷ []) first (number, first + length numbers)
    last_stands = record {
      from_first = omega arith;
      inside = omega (arith, len);
      number = get_or_push numbers number 0 (first + length numbers - first) (omega arith);
    }

    stands_push : (pair : ℕ × ℕ) → StandsIn numbers first pair → StandsIn (numbers ++ number ∷ []) first pair
    stands_push pair was = let inside : pair.1 - first < length numbers = was.inside in record {
      from_first = was.from_first;
      inside = omega (arith, len);
      number = get_or_append_left numbers (number ∷ []) 0 (pair.1 - first) inside ∙ was.number;
    }

-- ---- the same frames

pub placed_same : (numbers others : List ℕ) (first : ℕ) (s n : Places) → others ≡ numbers → n.keys ≡ s.keys → Placed numbers first s → Placed others first n
placed_same numbers others first s n same keys placed = subst (λ (xs : List ℕ). Placed xs first n) (sym same) with_keys
  where
    has : (q : ℕ × ℕ) → contains pair_cmp n q ≡ contains pair_cmp s q
    has q = ap (λ (ks : List (ℕ × ℕ)). list_any (is_at (pair_cmp q)) ks) keys

    with_keys : Placed numbers first n
    with_keys = record {
      fits = placed.fits;
      listed = λ i lt. has (get_or numbers i 0, first + i) ∙ placed.listed i lt;
      stands = λ pair e. placed.stands pair (sym (has pair) ∙ e);
    }

-- ---- the first frame dropped

pub placed_pop_front : (rest : List ℕ) (first : ℕ) (s n : Places) (number : ℕ) → Placed (number ∷ rest) first s → Updates pair_cmp s n (number, first) false → Placed rest (first + 1) n
placed_pop_front rest first s n number placed up =
    let fits : first + length (number ∷ rest) < 2 ^ 64 = placed.fits in
    record {
      fits = omega arith;
      listed = λ i lt.
          let old : contains pair_cmp s (get_or rest i 0, first + suc i) ≡ true = placed.listed (suc i) (omega arith) in
          let at : first + suc i ≡ first + 1 + i = omega arith in
          let now : contains pair_cmp s (get_or rest i 0, first + 1 + i) ≡ true = ap (λ (x : ℕ). contains pair_cmp s (get_or rest i 0, x)) (sym at) ∙ old in
          stays s n (number, first) (get_or rest i 0, first + 1 + i) up (λ same. let same_place : first ≡ first + 1 + i = ap (λ (x : ℕ × ℕ). x.1) same in omega arith) now;
      stands = λ pair e. stands_front pair (stayed s n (number, first) pair up e);
    }
  where
    stands_front : (pair : ℕ × ℕ) → ((number, first) ≡ pair → ⊥) × (contains pair_cmp s pair ≡ true) → StandsIn rest (first + 1) pair
    stands_front pair both =
        let was = placed.stands pair both.1 in
        let from : first ≤ pair.1 = was.from_first in
        let inside : pair.1 - first < length (number ∷ rest) = was.inside in
        elim (cases_eq pair.1 first) [
          | inl at ↦
              let here : pair.1 - first ≡ 0 = omega arith in
              let number_is : number ≡ pair.0 = ap (λ (k : ℕ). get_or (number ∷ rest) k 0) (sym here) ∙ was.number in
              absurd (both.0 (λ i. (number_is i, sym at i)))
          | inr apart ↦
              let k : ℕ = pair.1 - (first + 1) in
              let next : pair.1 - first ≡ suc k = omega arith in
              record {
                from_first = omega arith;
                inside = omega arith;
                number = ap (λ (j : ℕ). get_or (number ∷ rest) j 0) (sym next) ∙ was.number;
              }
        ]

-- ---- the last frame dropped

pub placed_pop_back : (front : List ℕ) (first : ℕ) (s n : Places) (number : ℕ) → Placed (front ++ number ∷ []) first s → Updates pair_cmp s n (number, first + length front) false → Placed front first n
placed_pop_back front first s n number placed up =
    let len : length (front ++ number ∷ []) ≡ length front + 1 = length_push front number in
    let fits : first + length (front ++ number ∷ []) < 2 ^ 64 = placed.fits in
    record {
      fits = omega arith;
      listed = λ i lt.
          let old : contains pair_cmp s (get_or (front ++ number ∷ []) i 0, first + i) ≡ true = placed.listed i (omega arith) in
          let now : contains pair_cmp s (get_or front i 0, first + i) ≡ true = ap (λ (x : ℕ). contains pair_cmp s (x, first + i)) (sym (get_or_append_left front (number ∷ []) 0 i lt)) ∙ old in
          stays s n (number, first + length front) (get_or front i 0, first + i) up (λ same. let same_place : first + length front ≡ first + i = ap (λ (x : ℕ × ℕ). x.1) same in omega arith) now;
      stands = λ pair e. stands_back pair (stayed s n (number, first + length front) pair up e);
    }
  where
    stands_back : (pair : ℕ × ℕ) → ((number, first + length front) ≡ pair → ⊥) × (contains pair_cmp s pair ≡ true) → StandsIn front first pair
    stands_back pair both =
        let was = placed.stands pair both.1 in
        let len : length (front ++ number ∷ []) ≡ length front + 1 = length_push front number in
        let from : first ≤ pair.1 = was.from_first in
        let inside : pair.1 - first < length (front ++ number ∷ []) = was.inside in
        elim (cases_lt (pair.1 - first) (length front)) [
          | inl lt ↦ record {
            from_first = from;
            inside = lt;
            number = sym (get_or_append_left front (number ∷ []) 0 (pair.1 - first) lt) ∙ was.number;
          }
          | inr le ↦
              let at : first + length front ≡ pair.1 = omega arith in
              let last : length front ≡ pair.1 - first = omega arith in
              let number_is : number ≡ pair.0 = sym (get_or_push front number 0 (pair.1 - first) last) ∙ was.number in
              absurd (both.0 (λ i. (number_is i, at i)))
        ]

-- ---- the greatest pair below an end

-- k is below the end, and no pair of the set that is below the end lies above it
pub record IsGreatest (s : Places) (number end : ℕ) (k : ℕ × ℕ) : Type 0 where
  pub below : pair_cmp k (number, end) ≡ Less
  pub has : contains pair_cmp s k ≡ true
  pub greatest : (q : ℕ × ℕ) → pair_cmp q (number, end) ≡ Less → contains pair_cmp s q ≡ true → is_lt (pair_cmp k q) ≡ false

absent : (s : Places) (q : ℕ × ℕ) → (contains pair_cmp s q ≡ true → ⊥) → contains pair_cmp s q ≡ false
absent s q never = elim (cases_Bool (contains pair_cmp s q)) [ inl e ↦ absurd (never e) | inr e ↦ e ]

pub greatest_here : (s : Places) (number end : ℕ) (k : ℕ × ℕ) → IsGreatest s number end k → k.0 ≡ number → IsLastPlace s number end k.1
greatest_here s number end k is same =
    let pair : ◌≡◌ {A = ℕ × ℕ} k (number, k.1) = λ i. (same i, k.1) in
    record {
      below = elim (below_is k.0 number k.1 end is.below) [ inl lt ↦ absurd (omega arith) | inr h ↦ h.1 ];
      has = ap (contains pair_cmp s) (sym pair) ∙ is.has;
      none_after = λ later after before.
          absent s (number, later) (λ e.
          place_up_to number k.1 later
          (ap (λ (x : ℕ × ℕ). is_lt (pair_cmp x (number, later))) (sym pair) ∙ is.greatest (number, later) (below_place number later end before) e)
          after);
    }

pub greatest_elsewhere : (s : Places) (number end : ℕ) (k : ℕ × ℕ) → IsGreatest s number end k → (k.0 ≡ number → ⊥) → NoPlace s number end
greatest_elsewhere s number end k is other place before =
    absent s (number, place) (λ e.
    elim (below_is k.0 number k.1 end is.below) [
      | inl lt ↦ false≢true (sym (is.greatest (number, place) (below_place number place end before) e) ∙ ap is_lt (below_number k.0 number k.1 place lt))
      | inr h ↦ other h.0
    ])

-- ---- what a look-up says of the frames

pub last_frame : (numbers : List ℕ) (first : ℕ) (s : Places) (number mark place : ℕ) → Placed numbers first s → IsLastPlace s number (first + min mark (length numbers)) place → IsLastAt numbers number mark (place - first + 1)
last_frame numbers first s number mark place placed is =
    let stands = placed.stands (number, place) is.has in
    let from : first ≤ place = stands.from_first in
    let inside : place - first < length numbers = stands.inside in
    let below : place < first + min mark (length numbers) = is.below in
    let back : place - first + 1 - 1 ≡ place - first = omega arith in
    record {
      from_one = omega arith;
      within = omega arith;
      has_number = ap (slice_get numbers) back ∙ slice_get-get_or numbers (place - first) 0 inside ∙ ap (λ (x : ℕ). Some x) stands.number;
      none_after = λ i after before e.
          let lt : i < length numbers = slice_get_within numbers i number e in
          let listed : contains pair_cmp s (number, first + i) ≡ true = ap (λ (x : ℕ). contains pair_cmp s (x, first + i)) (sym (get_or_from_slice_get numbers i number 0 e)) ∙ placed.listed i lt in
          false≢true (sym (is.none_after (first + i) (omega arith) (omega arith)) ∙ listed);
    }

pub no_frame : (numbers : List ℕ) (first : ℕ) (s : Places) (number mark : ℕ) → Placed numbers first s → NoPlace s number (first + min mark (length numbers)) → NoneAt numbers number mark
no_frame numbers first s number mark placed none i before e =
    let lt : i < length numbers = slice_get_within numbers i number e in
    let listed : contains pair_cmp s (number, first + i) ≡ true = ap (λ (x : ℕ). contains pair_cmp s (x, first + i)) (sym (get_or_from_slice_get numbers i number 0 e)) ∙ placed.listed i lt in
    false≢true (sym (none (first + i) (omega arith)) ∙ listed)

-- ---- frames kept from the front, one fewer

pub take_fewer : (numbers : List ℕ) (i : ℕ) → take (length (take (length numbers - i) numbers) - 1) (take (length numbers - i) numbers) ≡ take (length numbers - (i + 1)) numbers
take_fewer numbers i =
    let len : length (take (length numbers - i) numbers) ≡ length numbers - i = length-take-le (length numbers - i) numbers (omega arith) in
    let next : length (take (length numbers - i) numbers) - 1 ≡ length numbers - (i + 1) = omega arith in
    ap (λ (n : ℕ). take n (take (length numbers - i) numbers)) next ∙ take-take (length numbers - (i + 1)) (length numbers - i) numbers (omega arith)
