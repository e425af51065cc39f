-- The steps of loops that read items: this many of them, or one for each element of a list; and of those that read types.
use Rattle.std.proofs.Common.{◌≡◌, ℕ, suc, ◌+◌, ◌-◌, ◌<◌, ◌≤◌, ◌/◌, ◌%◌, List, [], ◌∷◌, ◌++◌, length, get_or, drop, Option, Some, None, Result, Ok, Err, refl, sym, ap, ◌∙◌, append_assoc, arith}
use Rattle.std.proofs.lemmas.List.{append-nil, at_drop_more, at_drop_all}
use Rattle.wire_words.specs.declared.fault.WordFault.{WordFault}
use Rattle.wire_words.specs.declared.fault.WordFault.TheVariants as faults
use Rattle.wire_words.specs.declared.value.ValueType.{ValueType}
use Rattle.wire_words.specs.declared.value.Dialect.{Dialect}
use Rattle.wire_words.specs.Reading.{◌>>=◌, Unread, Fails, many_at, each_at}
use Rattle.wire_words.specs.ReadingValues.{type_with, known, all_types, split_halves}

-- what was read before, and what is still read
abbrev pub with_front : {A : Type 0} → List A → Result (List A × Unread) WordFault → Result (List A × Unread) WordFault
with_front front read = read >>= λ x. Ok (front ++ x.0, x.1)

pub regroup : {A : Type 0} (front : List A) (n : A) (read : Result (List A × Unread) WordFault) → with_front front (read >>= λ x. Ok (n ∷ x.0, x.1)) ≡ with_front (front ++ n ∷ []) read
regroup front n (Ok x) = ap (λ ns. Ok (ns, x.1)) (sym (append_assoc front (n ∷ []) x.0))
regroup front n (Err f) = refl

-- a fault of a step is the fault of the whole
pub fails_so : {A B : Type 0} (e : WordFault) (step : Result A WordFault) (whole : Result B WordFault) → ((f : WordFault) → step ≡ Err f → whole ≡ Err f) → Fails e step → Fails e whole
fails_so faults.NoMemory step whole so fails = tt
fails_so (faults.Short n) step whole so fails = so (faults.Short n) fails
fails_so (faults.NoNul n) step whole so fails = so (faults.NoNul n) fails
fails_so (faults.NotUtf8 n) step whole so fails = so (faults.NotUtf8 n) fails
fails_so (faults.Pad n) step whole so fails = so (faults.Pad n) fails
fails_so (faults.BadCode n m) step whole so fails = so (faults.BadCode n m) fails
fails_so (faults.Float n) step whole so fails = so (faults.Float n) fails

-- ---- this many items

pub many_more : {A : Type 0} (one : Unread → Result (A × Unread) WordFault) (front : List A) (count i : ℕ) (left next : Unread) (x : A) (total : Result (List A × Unread) WordFault) → i < count → one left ≡ Ok (x, next)
    → with_front front (many_at one (count - i) left) ≡ total → with_front (front ++ x ∷ []) (many_at one (count - (i + 1)) next) ≡ total
unfolding many_at
many_more one front count i left next x total lt h so_far =
    let k : count - i ≡ suc (count - (i + 1)) = omega arith in
    let step : with_front front (many_at one (count - i) left) ≡ with_front (front ++ x ∷ []) (many_at one (count - (i + 1)) next) = rw (k, h) (regroup front x (many_at one (count - (i + 1)) next)) in
    sym step ∙ so_far

pub many_end : {A : Type 0} (one : Unread → Result (A × Unread) WordFault) (e : WordFault) (front : List A) (count i : ℕ) (left : Unread) (total : Result (List A × Unread) WordFault) → i < count → Fails e (one left)
    → with_front front (many_at one (count - i) left) ≡ total → Fails e total
unfolding many_at
many_end one e front count i left total lt fails so_far =
    let k : count - i ≡ suc (count - (i + 1)) = omega arith in
    fails_so e (one left) total (λ f h. let step : with_front front (many_at one (count - i) left) ≡ Err f = rw (k, h) refl in sym so_far ∙ step) fails

pub many_done : {A : Type 0} (one : Unread → Result (A × Unread) WordFault) (front : List A) (count i : ℕ) (left : Unread) (total : Result (List A × Unread) WordFault) → count ≤ i → with_front front (many_at one (count - i) left) ≡ total → total ≡ Ok (front, left)
unfolding many_at
many_done {A} one front count i left total le so_far =
    let k : count - i ≡ 0 = omega arith in
    let step : with_front front (many_at one (count - i) left) ≡ Ok (front, left) = rw k (ap (λ (ns : List A). Ok (ns, left)) (append-nil front)) in
    sym so_far ∙ step

-- ---- an item for each element of a list

-- what a list leaves to do at an element, one element on
next_element : {X Y : Type 0} (F : List X → Y) (xs : List X) (i : ℕ) (x : X) → i < length xs → x ≡ get_or xs i x → F (drop i xs) ≡ F (x ∷ drop (i + 1) xs)
next_element {X} F xs i x lt is = at_drop_more F xs i x lt ∙ ap (λ (q : X). F (q ∷ drop (i + 1) xs)) (sym is)

pub each_more : {X A : Type 0} (one : X → Unread → Result (A × Unread) WordFault) (front : List A) (xs : List X) (i : ℕ) (x : X) (left next : Unread) (a : A) (total : Result (List A × Unread) WordFault) → i < length xs → x ≡ get_or xs i x → one x left ≡ Ok (a, next)
    → with_front front (each_at one (drop i xs) left) ≡ total → with_front (front ++ a ∷ []) (each_at one (drop (i + 1) xs) next) ≡ total
unfolding each_at
each_more {X} one front xs i x left next a total lt is h so_far =
    let step : with_front front (each_at one (x ∷ drop (i + 1) xs) left) ≡ with_front (front ++ a ∷ []) (each_at one (drop (i + 1) xs) next) = rw h (regroup front a (each_at one (drop (i + 1) xs) next)) in
    sym (next_element (λ (ys : List X). with_front front (each_at one ys left)) xs i x lt is ∙ step) ∙ so_far

pub each_end : {X A : Type 0} (one : X → Unread → Result (A × Unread) WordFault) (e : WordFault) (front : List A) (xs : List X) (i : ℕ) (x : X) (left : Unread) (total : Result (List A × Unread) WordFault) → i < length xs → x ≡ get_or xs i x → Fails e (one x left)
    → with_front front (each_at one (drop i xs) left) ≡ total → Fails e total
unfolding each_at
each_end {X} one e front xs i x left total lt is fails so_far =
    fails_so e (one x left) total (λ f h.
    let step : with_front front (each_at one (x ∷ drop (i + 1) xs) left) ≡ Err f = rw h refl in
    sym so_far ∙ next_element (λ (ys : List X). with_front front (each_at one ys left)) xs i x lt is ∙ step) fails

pub each_done : {X A : Type 0} (one : X → Unread → Result (A × Unread) WordFault) (front : List A) (xs : List X) (i : ℕ) (left : Unread) (total : Result (List A × Unread) WordFault) → length xs ≤ i → with_front front (each_at one (drop i xs) left) ≡ total → total ≡ Ok (front, left)
unfolding each_at
each_done {X} {A} one front xs i left total le so_far =
    let step : with_front front (each_at one [] left) ≡ Ok (front, left) = ap (λ (ps : List A). Ok (ps, left)) (append-nil front) in
    sym so_far ∙ at_drop_all (λ (ys : List X). with_front front (each_at one ys left)) xs i le ∙ step

-- ---- types

-- the types before, and those that are still looked at
abbrev pub types_so_far : Dialect → ℕ → List ValueType → List ℕ → Result (List ValueType) WordFault
types_so_far dialect at front codes = all_types dialect at codes >>= λ ts. Ok (front ++ ts)

types_regroup : (front : List ValueType) (t : ValueType) (read : Result (List ValueType) WordFault) → (read >>= λ ts. Ok (t ∷ ts)) >>= (λ ts. Ok (front ++ ts)) ≡ (read >>= λ ts. Ok ((front ++ t ∷ []) ++ ts))
types_regroup front t (Ok ts) = ap (λ (x : List ValueType). Ok x) (sym (append_assoc front (t ∷ []) ts))
types_regroup front t (Err f) = refl

next_code : {Y : Type 0} (F : List ℕ → Y) (ns : List ℕ) (i n : ℕ) → i < length ns → n ≡ get_or ns i 0 → F (drop i ns) ≡ F (n ∷ drop (i + 1) ns)
next_code F ns i n lt is = at_drop_more F ns i 0 lt ∙ ap (λ (m : ℕ). F (m ∷ drop (i + 1) ns)) (sym is)

pub types_more : (dialect : Dialect) (at : ℕ) (front : List ValueType) (ns : List ℕ) (i n : ℕ) (t : ValueType) (total : Result (List ValueType) WordFault) → i < length ns → n ≡ get_or ns i 0 → type_with dialect n ≡ Some t
    → types_so_far dialect at front (drop i ns) ≡ total → types_so_far dialect at (front ++ t ∷ []) (drop (i + 1) ns) ≡ total
types_more dialect at front ns i n t total lt is h so_far =
    let one : types_so_far dialect at front (n ∷ drop (i + 1) ns) ≡ types_so_far dialect at (front ++ t ∷ []) (drop (i + 1) ns) =
    ap (λ (o : Option ValueType). ((known at n o >>= λ first. all_types dialect at (drop (i + 1) ns) >>= λ others. Ok (first ∷ others)) >>= λ ts. Ok (front ++ ts))) h ∙ types_regroup front t (all_types dialect at (drop (i + 1) ns)) in
    sym (next_code (λ (ms : List ℕ). types_so_far dialect at front ms) ns i n lt is ∙ one) ∙ so_far

pub types_end : (dialect : Dialect) (at : ℕ) (front : List ValueType) (ns : List ℕ) (i n : ℕ) (total : Result (List ValueType) WordFault) → i < length ns → n ≡ get_or ns i 0 → type_with dialect n ≡ None
    → types_so_far dialect at front (drop i ns) ≡ total → total ≡ Err (faults.BadCode at n)
types_end dialect at front ns i n total lt is h so_far =
    let one : types_so_far dialect at front (n ∷ drop (i + 1) ns) ≡ Err (faults.BadCode at n) =
    ap (λ (o : Option ValueType). ((known at n o >>= λ first. all_types dialect at (drop (i + 1) ns) >>= λ others. Ok (first ∷ others)) >>= λ ts. Ok (front ++ ts))) h in
    sym so_far ∙ next_code (λ (ms : List ℕ). types_so_far dialect at front ms) ns i n lt is ∙ one

pub types_done : (dialect : Dialect) (at : ℕ) (front : List ValueType) (ns : List ℕ) (i : ℕ) (total : Result (List ValueType) WordFault) → length ns ≤ i → types_so_far dialect at front (drop i ns) ≡ total → total ≡ Ok front
types_done dialect at front ns i total le so_far =
    let one : types_so_far dialect at front [] ≡ Ok front = ap (λ (ts : List ValueType). Ok ts) (append-nil front) in
    sym so_far ∙ at_drop_all (λ (ms : List ℕ). types_so_far dialect at front ms) ns i le ∙ one

-- ---- halves

pub halves_more : (front bytes : List ℕ) (i b : ℕ) (total : List ℕ) → i < length bytes → b ≡ get_or bytes i 0 → front ++ split_halves (drop i bytes) ≡ total
    → ((front ++ (b % 16) ∷ []) ++ (b / 16) ∷ []) ++ split_halves (drop (i + 1) bytes) ≡ total
halves_more front bytes i b total lt is so_far =
    let next : front ++ split_halves (drop i bytes) ≡ front ++ ((b % 16) ∷ (b / 16) ∷ split_halves (drop (i + 1) bytes)) = next_code (λ (ms : List ℕ). front ++ split_halves ms) bytes i b lt is in
    append_assoc (front ++ (b % 16) ∷ []) ((b / 16) ∷ []) (split_halves (drop (i + 1) bytes)) ∙ append_assoc front ((b % 16) ∷ []) ((b / 16) ∷ split_halves (drop (i + 1) bytes)) ∙ sym next ∙ so_far

pub halves_done : (front bytes : List ℕ) (i : ℕ) (total : List ℕ) → length bytes ≤ i → front ++ split_halves (drop i bytes) ≡ total → front ≡ total
halves_done front bytes i total le so_far =
    sym (at_drop_all (λ (ms : List ℕ). front ++ split_halves ms) bytes i le ∙ append-nil front) ∙ so_far
