-- No two files of a node have names that are alike.
use Rattle.std.proofs.Common.{◌≡◌, ℕ, zero, suc, ◌+◌, ◌*◌, ◌/◌, ◌%◌, ◌<◌, ◌≤◌, Bool, true, false, List, [], ◌∷◌, ◌++◌, length, take, drop, get_or, replicate, refl, sym, ap, ◌∙◌, subst, arith, length-append}
use Rattle.std.specs.Prelude.{◌==◌, ◌||◌, codes, map}
use Rattle.std.proofs.Math.Nat.{div-div-eq-div-mul}
use Rattle.std.proofs.lemmas.Bool.{ne_eqb}
use Rattle.std.proofs.lemmas.List.Folds.{list_any-append}
use Rattle.dq_base.specs.Names.{IsName, has_nul}
use Rattle.segment_store.specs.declared.names.File.{File}
use Rattle.segment_store.specs.declared.names.File.TheVariants as files
use Rattle.std.proofs.lemmas.List.{append-nil, take_at, length-replicate}
use Rattle.store_laws.specs.Names.{Name, First, Second, Segment, Snapshot}
use Rattle.segment_store.specs.Listed.{numbered}
use Rattle.segment_store.specs.FileNames.{powers, digit, sixteen, number_text, file_name, name_of, number_of}

sixteen_long : (n : ℕ) → length (sixteen n) ≡ 16
unfolding sixteen
sixteen_long n = refl

tens : ℕ → ℕ
tens zero = 1
tens (suc k) = tens k * 10

-- this many last digits
digits : ℕ → ℕ → List ℕ
digits zero n = []
digits (suc k) n = digit n (tens k) ∷ digits k n

all_digits : (n : ℕ) → sixteen n ≡ digits 16 n
unfolding sixteen tens digits
all_digits n = refl

-- what is beyond this many last digits and each of these digits make the number
same_last : (k n m : ℕ) → n / tens k ≡ m / tens k → digits k n ≡ digits k m → n / 1 ≡ m / 1
unfolding tens digits
same_last zero n m above e = above
same_last (suc k) n m above e =
    same_last k n m
    (whole (n / tens k) (m / tens k) (div-div-eq-div-mul n (tens k) 10 ∙ above ∙ sym (div-div-eq-div-mul m (tens k) 10)) (ap (λ (l : List ℕ). get_or l 0 0) e))
    (ap (drop 1) e)
  where
    whole : (a b : ℕ) → a / 10 ≡ b / 10 → 48 + a % 10 ≡ 48 + b % 10 → a ≡ b
    whole a b high low = omega (arith, high, low)

same_digits : (n m : ℕ) → n / 10000000000000000 ≡ m / 10000000000000000 → sixteen n ≡ sixteen m → n ≡ m
unfolding tens
same_digits n m above e = let z = same_last 16 n m above (sym (all_digits n) ∙ e ∙ all_digits m) in omega (arith, z)

numbers_alike : (n m : ℕ) → number_text n ≡ number_text m → n ≡ m
unfolding number_text
numbers_alike n m e =
    let long : length (number_text n) ≡ 16 + n / 10000000000000000 = all n in
    let other : length (number_text m) ≡ 16 + m / 10000000000000000 = all m in
    let above : n / 10000000000000000 ≡ m / 10000000000000000 = omega (arith, long, other, ap length e) in
    let front : sixteen n ≡ sixteen m = sym (take_at (sixteen n) (rest n) 16 (sixteen_long n)) ∙ ap (take 16) e ∙ take_at (sixteen m) (rest m) 16 (sixteen_long m) in
    same_digits n m above front
  where
    rest : ℕ → List ℕ
    rest n = replicate (n / 10000000000000000) 0

    all : (n : ℕ) → length (sixteen n ++ replicate (n / 10000000000000000) 0) ≡ 16 + n / 10000000000000000
    all n =
        let more : length (replicate {A = ℕ} (n / 10000000000000000) 0) ≡ n / 10000000000000000 = length-replicate (n / 10000000000000000) 0 in
        length-append (sixteen n) (replicate (n / 10000000000000000) 0) ∙ (λ i. sixteen_long n i + more i)

-- the first two peer messages tell the kinds apart, and the last one the two files of metadata
pub no_two_alike : (m n : Name) → file_name m ≡ file_name n → m ≡ n
no_two_alike First First e = refl
no_two_alike First Second e = let z : 49 ≡ 50 = ap (λ (l : List ℕ). get_or l 8 0) e in absurd (omega (arith, z))
no_two_alike First (Segment j) e = let z : 109 ≡ 115 = ap (λ (l : List ℕ). get_or l 0 0) e in absurd (omega (arith, z))
no_two_alike First (Snapshot j) e = let z : 109 ≡ 115 = ap (λ (l : List ℕ). get_or l 0 0) e in absurd (omega (arith, z))
no_two_alike Second First e = let z : 50 ≡ 49 = ap (λ (l : List ℕ). get_or l 8 0) e in absurd (omega (arith, z))
no_two_alike Second Second e = refl
no_two_alike Second (Segment j) e = let z : 109 ≡ 115 = ap (λ (l : List ℕ). get_or l 0 0) e in absurd (omega (arith, z))
no_two_alike Second (Snapshot j) e = let z : 109 ≡ 115 = ap (λ (l : List ℕ). get_or l 0 0) e in absurd (omega (arith, z))
no_two_alike (Segment k) First e = let z : 115 ≡ 109 = ap (λ (l : List ℕ). get_or l 0 0) e in absurd (omega (arith, z))
no_two_alike (Segment k) Second e = let z : 115 ≡ 109 = ap (λ (l : List ℕ). get_or l 0 0) e in absurd (omega (arith, z))
no_two_alike (Segment k) (Segment j) e = ap Segment (numbers_alike k j (ap (drop 8) e))
no_two_alike (Segment k) (Snapshot j) e = let z : 101 ≡ 110 = ap (λ (l : List ℕ). get_or l 1 0) e in absurd (omega (arith, z))
no_two_alike (Snapshot k) First e = let z : 115 ≡ 109 = ap (λ (l : List ℕ). get_or l 0 0) e in absurd (omega (arith, z))
no_two_alike (Snapshot k) Second e = let z : 115 ≡ 109 = ap (λ (l : List ℕ). get_or l 0 0) e in absurd (omega (arith, z))
no_two_alike (Snapshot k) (Segment j) e = let z : 110 ≡ 101 = ap (λ (l : List ℕ). get_or l 1 0) e in absurd (omega (arith, z))
no_two_alike (Snapshot k) (Snapshot j) e = ap Snapshot (numbers_alike k j (ap (drop 9) e))

-- ---- a number that sixteen digits hold

pub small_number : (n : ℕ) → n < 10000000000000000 → number_text n ≡ sixteen n
unfolding number_text
small_number n h =
    let none : n / 10000000000000000 ≡ 0 = omega arith in
    ap (λ (k : ℕ). sixteen n ++ replicate k 0) none ∙ append-nil (sixteen n)

pub behind_kind : (kind text : List ℕ) (n : ℕ) → n < 10000000000000000 → text ≡ kind ++ sixteen n → text ≡ kind ++ number_text n
behind_kind kind text n h e = e ∙ ap (λ (x : List ℕ). kind ++ x) (sym (small_number n h))

-- no digit is a NUL
digits_no_nul : (n : ℕ) (ps : List ℕ) → has_nul (map (digit n) ps) ≡ false
digits_no_nul n [] = refl
digits_no_nul n (p ∷ ps) =
    let some : (48 + n / p % 10 == 0) ≡ false = ne_eqb (48 + n / p % 10) 0 (λ q. absurd (omega (arith, q))) in
    (λ i. some i || digits_no_nul n ps i)

sixteen_no_nul : (n : ℕ) → has_nul (sixteen n) ≡ false
unfolding sixteen
sixteen_no_nul n = digits_no_nul n powers

numbered_name : (kind : List ℕ) (n : ℕ) → n < 10000000000000000 → 0 < length kind → length kind ≤ 9 → has_nul kind ≡ false → IsName (kind ++ number_text n)
numbered_name kind n h some short none =
    subst (λ (x : List ℕ). IsName (kind ++ x)) (sym (small_number n h)) (record {
      not_empty = omega (arith, length-append kind (sixteen n), some);
      short = omega (arith, length-append kind (sixteen n), sixteen_long n, short);
      no_nul = list_any-append (λ (b : ℕ). b == 0) kind (sixteen n) ∙ (λ i. none i || sixteen_no_nul n i);
    })

pub named : (file : File) (text : List ℕ) → number_of file < 10000000000000000 → text ≡ file_name (name_of file) → IsName text
named files.First text h e = subst IsName (sym e) (record { not_empty = omega arith; short = omega arith; no_nul = refl })
named files.Second text h e = subst IsName (sym e) (record { not_empty = omega arith; short = omega arith; no_nul = refl })
named (files.Segment k) text h e = subst IsName (sym e) (numbered_name (codes "segment-") k h (omega arith) (omega arith) refl)
named (files.Snapshot k) text h e = subst IsName (sym e) (numbered_name (codes "snapshot-") k h (omega arith) (omega arith) refl)

-- a number of more digits is in no name
nuls : (kind : List ℕ) (n : ℕ) → 10000000000000000 ≤ n → has_nul (kind ++ number_text n) ≡ true
unfolding number_text
nuls kind n h = list_any-append (λ (b : ℕ). b == 0) kind (sixteen n ++ replicate (n / 10000000000000000) 0) ∙ second _ _ (list_any-append (λ (b : ℕ). b == 0) (sixteen n) (replicate (n / 10000000000000000) 0) ∙ second _ _ (some (n / 10000000000000000) (omega (arith, h))))
  where
    some : (k : ℕ) → 0 < k → has_nul (replicate k 0) ≡ true
    some zero l = absurd (omega (arith, l))
    some (suc k) l = refl

    second : (a b : Bool) → b ≡ true → (a || b) ≡ true
    second true b e = refl
    second false b e = e

pub beyond_digits : (n : Name) → 10000000000000000 ≤ numbered n → IsName (file_name n) → ⊥
beyond_digits First h name = absurd (omega (arith, h))
beyond_digits Second h name = absurd (omega (arith, h))
beyond_digits (Segment k) h name = let z : true ≡ false = sym (nuls (codes "segment-") k h) ∙ name.no_nul in absurd cc
beyond_digits (Snapshot k) h name = let z : true ≡ false = sym (nuls (codes "snapshot-") k h) ∙ name.no_nul in absurd cc
