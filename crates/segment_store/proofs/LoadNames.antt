-- Names are read back into the files that they are of.
use Rattle.std.proofs.Common.{◌≡◌, inl, inr, ℕ, zero, suc, ◌+◌, ◌-◌, ◌*◌, ◌/◌, ◌%◌, ◌<◌, ◌≤◌, true, false, cond, List, [], ◌∷◌, ◌++◌, length, take, drop, get_or, Option, Some, None, refl, sym, ap, ◌∙◌, arith}
use Rattle.std.specs.Prelude.{◌&&◌, nat_lt, nat_le, MatchOption}
use Rattle.std.specs.Str.{bytes_eq}
use Rattle.std.proofs.Math.ListN.{drop_of_length-le}
use Rattle.std.proofs.Math.Nat.{div-div-eq-div-mul, div-le_self}
use Rattle.std.proofs.lemmas.Bool.{cases_Bool, cond-true, cond-false, and_parts, lt-ltb, ltb-true, le-leb, leb-true}
use Rattle.std.proofs.lemmas.Slice.Eq.{bytes_eq-Decides}
use Rattle.std.proofs.lemmas.List.{drop_at, take_at}
use Rattle.segment_store.specs.FileNames.{sixteen, number_text}
use Rattle.segment_store.specs.Listed.{digits_in, then_digits, read_digits}
use Rattle.segment_store.proofs.NoTwoAlike.{small_number}

abbrev pub ten : ℕ → ℕ
ten zero = 1
ten (suc k) = ten k * 10

-- the last digits of a number
abbrev pub spelled : ℕ → ℕ → List ℕ
spelled zero n = []
spelled (suc k) n = (48 + n / ten k % 10) ∷ spelled k n

sixteen_is : (n : ℕ) → sixteen n ≡ spelled 16 n
unfolding sixteen
sixteen_is n = refl

spelled_long : (k n : ℕ) → length (spelled k n) ≡ k
spelled_long zero n = refl
spelled_long (suc k) n = ap suc (spelled_long k n)

-- one digit
record Digit (n c m : ℕ) : Type 0 where
  small : n < 1000000000000000
  low : 48 ≤ c
  high : c ≤ 57
  is : n * 10 + (c - 48) ≡ m

digit_of : (n c m : ℕ) → digits_in n c ≡ Some m → Digit n c m
digit_of n c m e = elim (cases_Bool (nat_lt n 1000000000000000 && (nat_le 48 c && nat_le c 57))) [
  | inl t ↦
      let a = and_parts (nat_lt n 1000000000000000) _ t in
      let b = and_parts (nat_le 48 c) _ a.1 in
      record { small = ltb-true _ _ a.0; low = leb-true _ _ b.0; high = leb-true _ _ b.1; is = some_is _ _ (sym (cond-true _ _ _ t) ∙ e) }
  | inr f ↦ let z : None ≡ Some m = sym (cond-false _ _ _ f) ∙ e in absurd cc
]
  where
    some_is : (a b : ℕ) → Some a ≡ Some b → a ≡ b
    some_is a b q = cc

digit_reads : (n c m : ℕ) → n < 1000000000000000 → 48 ≤ c → c ≤ 57 → n * 10 + (c - 48) ≡ m → digits_in n c ≡ Some m
digit_reads n c m small low high is =
    (λ i. cond (lt-ltb n 1000000000000000 small i && (le-leb 48 c low i && le-leb c 57 high i)) (Some (n * 10 + (c - 48))) None) ∙ ap Some is

last_digit : (n c m : ℕ) → 48 ≤ c → c ≤ 57 → n * 10 + (c - 48) ≡ m → (n ≡ m / 10) × (c ≡ 48 + m % 10)
last_digit n c m low high is = (omega (arith, low, high, is), omega (arith, low, high, is))

then_some : (rest : ℕ → Option ℕ) (o : Option ℕ) (n : ℕ) → then_digits rest o ≡ Some n → (m : ℕ) × ((o ≡ Some m) × (rest m ≡ Some n))
then_some rest None n e = absurd cc
then_some rest (Some m) n e = (m, (refl, e))

-- what digits encode, they are the digits of
pub digits_spell : (cs : List ℕ) (acc n : ℕ) → read_digits acc cs ≡ Some n → (acc ≡ n / ten (length cs)) × (cs ≡ spelled (length cs) n)
unfolding read_digits
digits_spell [] acc n e = (let z : acc ≡ n = some_is acc n e in z ∙ sym (by_one n), refl)
  where
    some_is : (a b : ℕ) → Some a ≡ Some b → a ≡ b
    some_is a b q = cc

    by_one : (m : ℕ) → m / 1 ≡ m
    by_one m = omega arith
digits_spell (c ∷ cs) acc n e =
    let t = then_some (λ m. read_digits m cs) (digits_in acc c) n e in
    let d = digit_of acc c t.0 t.1.0 in
    let rest = digits_spell cs t.0 n t.1.1 in
    let l = last_digit acc c t.0 d.low d.high d.is in
    let m : t.0 ≡ n / ten (length cs) = rest.0 in (
      l.0 ∙ ap (λ (x : ℕ). x / 10) m ∙ div-div-eq-div-mul n (ten (length cs)) 10,
      λ i. (l.1 ∙ ap (λ (x : ℕ). 48 + x % 10) m) i ∷ rest.1 i,
    )

-- a number stays below this many tens
last_below : (cs : List ℕ) (acc n : ℕ) → acc < 10000000000000000 → read_digits acc cs ≡ Some n → n < 10000000000000000
unfolding read_digits
last_below [] acc n small e = let z : acc ≡ n = cc in omega (arith, z, small)
last_below (c ∷ cs) acc n small e =
    let t = then_some (λ m. read_digits m cs) (digits_in acc c) n e in
    let d = digit_of acc c t.0 t.1.0 in
    last_below cs t.0 n (omega (arith, d.small, d.low, d.high, d.is)) t.1.1

-- and the digits of a number are read as it
pub spelled_reads : (k n : ℕ) → n < 10000000000000000 → read_digits (n / ten k) (spelled k n) ≡ Some n
unfolding read_digits
spelled_reads zero n h = ap Some (by_one n)
  where
    by_one : (m : ℕ) → m / 1 ≡ m
    by_one m = omega arith
spelled_reads (suc k) n h =
    let m : ℕ = n / ten k in
    let up : n / ten (suc k) ≡ n / ten k / 10 = sym (div-div-eq-div-mul n (ten k) 10) in
    let low : n / ten k ≤ n = div-le_self n (ten k) in
    let one : digits_in (n / ten (suc k)) (48 + n / ten k % 10) ≡ Some (n / ten k) =
    ap (λ (x : ℕ). digits_in x (48 + n / ten k % 10)) up ∙ by_ten (n / ten k) (omega (arith, low, h)) in
    ap (then_digits (λ x. read_digits x (spelled k n))) one ∙ spelled_reads k n h
  where
    by_ten : (m : ℕ) → m < 10000000000000000 → digits_in (m / 10) (48 + m % 10) ≡ Some m
    by_ten m h = digit_reads (m / 10) (48 + m % 10) m (omega (arith, h)) (omega arith) (omega arith) (omega arith)

none_left : (n : ℕ) → n < 10000000000000000 → n / ten 16 ≡ 0
none_left n h = let z : n / 10000000000000000 ≡ 0 = omega (arith, h) in z

sixteen_reads : (n : ℕ) → n < 10000000000000000 → read_digits 0 (sixteen n) ≡ Some n
sixteen_reads n h = ap (read_digits 0) (sixteen_is n) ∙ ap (λ (a : ℕ). read_digits a (spelled 16 n)) (sym (none_left n h)) ∙ spelled_reads 16 n h

behind_is : (kind x y : List ℕ) → kind ++ x ≡ kind ++ y → x ≡ y
behind_is kind x y e = sym (drop_at kind x (length kind) refl) ∙ ap (drop (length kind)) e ∙ drop_at kind y (length kind) refl

-- a number after a kind, from sixteen digits that read as it
pub number_reads : (kind text rest : List ℕ) (n : ℕ) → text ≡ kind ++ rest → length rest ≡ 16 → read_digits 0 rest ≡ Some n → (n < 10000000000000000) × (text ≡ kind ++ number_text n)
number_reads kind text rest n e long reads =
    let small : n < 10000000000000000 = last_below rest 0 n (omega arith) reads in
    let is : rest ≡ number_text n = (digits_spell rest 0 n reads).1 ∙ ap (λ (k : ℕ). spelled k n) long ∙ sym (sixteen_is n) ∙ sym (small_number n small) in
    (small, e ∙ ap (λ (x : List ℕ). kind ++ x) is)

-- none if the text has another length, or doesn't read
pub not_sixteen : (kind text rest : List ℕ) → text ≡ kind ++ rest → (length rest ≡ 16 → ⊥) → (n : ℕ) → n < 10000000000000000 → text ≡ kind ++ number_text n → ⊥
not_sixteen kind text rest e other n small is =
    let same : rest ≡ sixteen n = behind_is kind rest (number_text n) (sym e ∙ is) ∙ small_number n small in
    other (ap length (same ∙ sixteen_is n) ∙ spelled_long 16 n)

pub not_digits : (kind text rest : List ℕ) → text ≡ kind ++ rest → read_digits 0 rest ≡ None → (n : ℕ) → n < 10000000000000000 → text ≡ kind ++ number_text n → ⊥
not_digits kind text rest e none n small is =
    let same : rest ≡ sixteen n = behind_is kind rest (number_text n) (sym e ∙ is) ∙ small_number n small in
    let z : None ≡ Some n = sym none ∙ ap (read_digits 0) same ∙ sixteen_reads n small in
    absurd cc

-- ---- digits in turn

pub drop_head : (xs : List ℕ) (i d : ℕ) → i < length xs → drop i xs ≡ get_or xs i d ∷ drop (i + 1) xs
drop_head xs i d h = by_suc xs i h ∙ ap (λ (k : ℕ). get_or xs i d ∷ drop k xs) (next i)
  where
    next : (n : ℕ) → suc n ≡ n + 1
    next n = omega arith

    by_suc : (ys : List ℕ) (k : ℕ) → k < length ys → drop k ys ≡ get_or ys k d ∷ drop (suc k) ys
    by_suc [] k l = absurd (omega (arith, l))
    by_suc (y ∷ ys) zero l = refl
    by_suc (y ∷ ys) (suc k) l = by_suc ys k (omega (arith, l))

pub digit_more : (n m : ℕ) (xs : List ℕ) (i d : ℕ) → i < length xs → Some m ≡ digits_in n (get_or xs i d) → read_digits n (drop i xs) ≡ read_digits m (drop (i + 1) xs)
unfolding read_digits
digit_more n m xs i d h e = ap (read_digits n) (drop_head xs i d h) ∙ ap (then_digits (λ k. read_digits k (drop (i + 1) xs))) (sym e)

pub digit_none : (n : ℕ) (xs : List ℕ) (i d : ℕ) → i < length xs → None ≡ digits_in n (get_or xs i d) → read_digits n (drop i xs) ≡ None
unfolding read_digits
digit_none n xs i d h e = ap (read_digits n) (drop_head xs i d h) ∙ ap (then_digits (λ k. read_digits k (drop (i + 1) xs))) (sym e)

pub digits_end : (n : ℕ) (xs : List ℕ) (i : ℕ) → length xs ≤ i → read_digits n (drop i xs) ≡ Some n
unfolding read_digits
digits_end n xs i h = ap (read_digits n) (drop_of_length-le xs h)

-- what follows a kind
pub not_front : (text kind front : List ℕ) → front ≡ take (length kind) text → bytes_eq front kind ≡ false → (rest : List ℕ) → text ≡ kind ++ rest → ⊥
not_front text kind front is other rest e =
    let same : front ≡ kind = is ∙ ap (take (length kind)) e ∙ take_at kind rest (length kind) refl in
    let z : true ≡ false = sym ((bytes_eq-Decides front kind).1 same) ∙ other in
    absurd cc

pub number_found : (kind text rest : List ℕ) (o : Option ℕ) → text ≡ kind ++ rest → length rest ≡ 16 → o ≡ read_digits 0 rest
    → MatchOption o ((n : ℕ) → n < 10000000000000000 → text ≡ kind ++ number_text n → ⊥) (λ n. (n < 10000000000000000) × (text ≡ kind ++ number_text n))
number_found kind text rest None e long reads = not_digits kind text rest e (sym reads)
number_found kind text rest (Some n) e long reads = number_reads kind text rest n e long (sym reads)
