-- A header is read exactly if the bytes are its encoding.
use Rattle.std.proofs.Common.{◌≡◌, ℕ, ◌<◌, ◌≤◌, ◌^◌, Bool, true, false, not, cond, eqb, ltb, List, [], ◌++◌, length, take, drop, Option, Some, None, Ok, Err, refl, sym, ap, ap₂, subst, ◌∙◌, ◌⊎◌, arith, inl, inr, append_assoc, length-append, length-drop}
use Rattle.std.specs.Prelude.{◌&&◌}
use Rattle.std.proofs.lemmas.Bool.{cases_Bool, cases_lt, lt-ltb, le-ltb, eq-eqb, eqb-true}
use Rattle.std.proofs.lemmas.List.{take_at, drop_at, drop-drop, take-append-drop, append-nil}
use Rattle.std.proofs.Math.Seq.{take-add}
use Rattle.wal_frames.specs.declared.checksums.WordOrder.{WordOrder}
use Rattle.wal_frames.specs.declared.checksums.WordOrder.TheVariants.{Big, Little}
use Rattle.wal_frames.specs.declared.fault.WalFault.{WalFault}
use Rattle.wal_frames.specs.declared.fault.WalFault.TheVariants.{Short, Magic, Version, PageSize, HeaderSum, NoMemory}
use Rattle.wal_frames.specs.declared.header.WalHeader.{WalHeader}
use Rattle.wal_frames.specs.Checksum.{checksum}
use Rattle.wal_frames.specs.Text.{pair, pair_of, magic, fields, header_sums, header, ArePair, AreBytes, IsHeader}
use Rattle.wal_frames.specs.Headers.{same_pair, order_of, stated, header_with, header_of, IsRefusal}
use Rattle.wal_frames.specs.Valid.{Opened}
use Rattle.wal_frames.proofs.Sums.{checksum-fits}
use Rattle.wal_frames.proofs.Pairs.{AreBytes-drop, length-pair, pair_of-pair, pair-pair_of, pair_of-fits}

-- ---- tests

pub chosen : {X : Type 0} (b : Bool) (x y z : X) → cond b x y ≡ z → ((b ≡ true) × (x ≡ z)) ⊎ ((b ≡ false) × (y ≡ z))
chosen true x y z e = inl (refl, e)
chosen false x y z e = inr (refl, e)

pub both_true : (a b : Bool) → (a && b) ≡ true → (a ≡ true) × (b ≡ true)
both_true true b e = (refl, e)
both_true false b e = absurd cc

pub not_true : (b : Bool) → not b ≡ true → b ≡ false
not_true true e = absurd cc
not_true false e = refl

pub not_false : (b : Bool) → not b ≡ false → b ≡ true
not_false true e = refl
not_false false e = absurd cc

pub same_pair-is : (a b : ℕ × ℕ) → same_pair a b ≡ true → a ≡ b
same_pair-is a b e =
    let both = both_true (eqb a.0 b.0) (eqb a.1 b.1) e in
    ap₂ (λ (x y : ℕ). let p : ℕ × ℕ = (x, y) in p) (eqb-true a.0 b.0 both.0) (eqb-true a.1 b.1 both.1)

pub same_pair-refl : (a b : ℕ × ℕ) → a ≡ b → same_pair a b ≡ true
same_pair-refl a b e = rw (e, eq-eqb b.0 b.0 refl, eq-eqb b.1 b.1 refl) refl

-- ---- lengths

pub length-fields : (h : WalHeader) → length (fields h) ≡ 24
unfolding fields
length-fields h =
    omega (arith, length-append (pair (magic h.order, 3007000)) (pair (4096, h.sequence) ++ pair h.salts), length-append (pair (4096, h.sequence)) (pair h.salts), length-pair (magic h.order, 3007000), length-pair (4096, h.sequence), length-pair h.salts)

pub length-header : (h : WalHeader) → length (header h) ≡ 32
unfolding header
length-header h = omega (arith, length-append (fields h) (pair (header_sums h)), length-fields h, length-pair (header_sums h))

pub header_sums-fits : (h : WalHeader) → ArePair (header_sums h)
unfolding header_sums
header_sums-fits h = checksum-fits h.order (0, 0) (fields h) (omega arith, omega arith)

-- ---- what is written is read

magic-fits : (order : WordOrder) → magic order < 2 ^ 32
magic-fits Big = omega arith
magic-fits Little = omega arith

order_of-magic : (order : WordOrder) → order_of (magic order) ≡ Some order
order_of-magic Big = refl
order_of-magic Little = refl

-- the parts of a header that something follows
header_parts : (h : WalHeader) (rest : List ℕ) → header h ++ rest ≡ pair (magic h.order, 3007000) ++ (pair (4096, h.sequence) ++ (pair h.salts ++ (pair (header_sums h) ++ rest)))
unfolding header fields
header_parts h rest = simp append_assoc

pub drop_pair : (numbers : ℕ × ℕ) (rest : List ℕ) → drop 8 (pair numbers ++ rest) ≡ rest
drop_pair numbers rest = drop_at (pair numbers) rest 8 (length-pair numbers)

behind_one : (h : WalHeader) (rest : List ℕ) → drop 8 (header h ++ rest) ≡ pair (4096, h.sequence) ++ (pair h.salts ++ (pair (header_sums h) ++ rest))
behind_one h rest = ap (drop 8) (header_parts h rest) ∙ drop_pair (magic h.order, 3007000) (pair (4096, h.sequence) ++ (pair h.salts ++ (pair (header_sums h) ++ rest)))

behind_two : (h : WalHeader) (rest : List ℕ) → drop 16 (header h ++ rest) ≡ pair h.salts ++ (pair (header_sums h) ++ rest)
behind_two h rest =
    sym (drop-drop 8 8 (header h ++ rest)) ∙ ap (drop 8) (behind_one h rest) ∙ drop_pair (4096, h.sequence) (pair h.salts ++ (pair (header_sums h) ++ rest))

behind_three : (h : WalHeader) (rest : List ℕ) → drop 24 (header h ++ rest) ≡ pair (header_sums h) ++ rest
behind_three h rest =
    sym (drop-drop 8 16 (header h ++ rest)) ∙ ap (drop 8) (behind_two h rest) ∙ drop_pair h.salts (pair (header_sums h) ++ rest)

front_of : (h : WalHeader) (rest : List ℕ) → take 24 (header h ++ rest) ≡ fields h
unfolding header
front_of h rest = ap (take 24) (append_assoc (fields h) (pair (header_sums h)) rest) ∙ take_at (fields h) (pair (header_sums h) ++ rest) 24 (length-fields h)

-- what a header of bytes tells
record States (bytes : List ℕ) (h : WalHeader) : Type 0 where
  first : pair_of bytes ≡ (magic h.order, 3007000)
  second : pair_of (drop 8 bytes) ≡ (4096, h.sequence)
  salts : pair_of (drop 16 bytes) ≡ h.salts
  sums : pair_of (drop 24 bytes) ≡ checksum h.order (0, 0) (take 24 bytes)

header_with-states : (bytes : List ℕ) (h : WalHeader) → States bytes h → header_with (Some h.order) bytes ≡ Ok h
unfolding header_with stated
header_with-states bytes h s =
    let version : eqb (pair_of bytes).1 3007000 ≡ true = eq-eqb _ _ (ap (λ (p : ℕ × ℕ). p.1) s.first) in
    let size : eqb (pair_of (drop 8 bytes)).0 4096 ≡ true = eq-eqb _ _ (ap (λ (p : ℕ × ℕ). p.0) s.second) in
    let sum : same_pair (checksum h.order (0, 0) (take 24 bytes)) (pair_of (drop 24 bytes)) ≡ true = same_pair-refl _ _ (sym s.sums) in
    let sequence : (pair_of (drop 8 bytes)).1 ≡ h.sequence = ap (λ (p : ℕ × ℕ). p.1) s.second in
    rw (version, size, sum, sequence, s.salts) refl

pub header_of-header : (h : WalHeader) (rest : List ℕ) → IsHeader h → header_of (header h ++ rest) ≡ Ok h
unfolding header_of header_sums
header_of-header h rest fits =
    let long : ltb (length (header h ++ rest)) 32 ≡ false = le-ltb _ _ (omega (arith, length-append (header h) rest, length-header h)) in
    let states : States (header h ++ rest) h = record {
      first = ap pair_of (header_parts h rest) ∙ pair_of-pair (magic h.order, 3007000) _ (magic-fits h.order, omega arith);
      second = ap pair_of (behind_one h rest) ∙ pair_of-pair (4096, h.sequence) _ (omega arith, fits.sequence);
      salts = ap pair_of (behind_two h rest) ∙ pair_of-pair h.salts _ fits.salts;
      sums = ap pair_of (behind_three h rest) ∙ pair_of-pair (header_sums h) _ (header_sums-fits h) ∙ ap (checksum h.order (0, 0)) (sym (front_of h rest));
    } in
    let number : order_of (pair_of (header h ++ rest)).0 ≡ Some h.order = ap (λ (p : ℕ × ℕ). order_of p.0) states.first ∙ order_of-magic h.order in
    rw long (ap (λ (o : Option WordOrder). header_with o (header h ++ rest)) number ∙ header_with-states (header h ++ rest) h states)

-- ---- what is read is encoded so

order_of-some : (n : ℕ) (order : WordOrder) → order_of n ≡ Some order → n ≡ magic order
order_of-some n order e =
    elim (chosen (eqb n 0x377f0683) (Some Big) (cond (eqb n 0x377f0682) (Some Little) None) (Some order) e) [
      | inl (is, big) ↦ let same : Big ≡ order = cc in eqb-true n 0x377f0683 is ∙ ap magic same
      | inr (not_big, others) ↦
          elim (chosen (eqb n 0x377f0682) (Some Little) None (Some order) others) [
            | inl (is, little) ↦ let same : Little ≡ order = cc in eqb-true n 0x377f0682 is ∙ ap magic same
            | inr (not_little, none) ↦ absurd cc
          ]
    ]

pair_is : (p : ℕ × ℕ) (a b : ℕ) → p.0 ≡ a → p.1 ≡ b → p ≡ (a, b)
pair_is p a b one two = ap₂ (λ (x y : ℕ). let p : ℕ × ℕ = (x, y) in p) one two

header_with-ok : (order : WordOrder) (bytes : List ℕ) (h : WalHeader) → (pair_of bytes).0 ≡ magic order → header_with (Some order) bytes ≡ Ok h → States bytes h
unfolding header_with stated
header_with-ok order bytes h number e =
    elim (cases_Bool (eqb (pair_of bytes).1 3007000)) [
      | inr off ↦ let t = rw off at e in absurd cc
      | inl version ↦
          let e' = rw version at e in
          elim (cases_Bool (eqb (pair_of (drop 8 bytes)).0 4096)) [
            | inr off ↦ let t = rw off at e' in absurd cc
            | inl size ↦
                let e'' = rw size at e' in
                elim (cases_Bool (same_pair (checksum order (0, 0) (take 24 bytes)) (pair_of (drop 24 bytes)))) [
                  | inr off ↦ let t = rw off at e'' in absurd cc
                  | inl sum ↦
                      let t = rw sum at e'' in
                      let is : stated order bytes ≡ h = cc in
                      let same : order ≡ h.order = ap (λ (x : WalHeader). x.order) is in
                      record {
                        first = pair_is _ _ _ (number ∙ ap magic same) (eqb-true _ _ version);
                        second = pair_is _ _ _ (eqb-true _ _ size) (ap (λ (x : WalHeader). x.sequence) is);
                        salts = ap (λ (x : WalHeader). x.salts) is;
                        sums = sym (same_pair-is _ _ sum) ∙ ap (λ (o : WordOrder). checksum o (0, 0) (take 24 bytes)) same;
                      }
                ]
          ]
    ]

pub header_of-long : (bytes : List ℕ) (h : WalHeader) → header_of bytes ≡ Ok h → 32 ≤ length bytes
unfolding header_of
header_of-long bytes h e =
    elim (cases_lt (length bytes) 32) [
      | inl few ↦ let short = lt-ltb (length bytes) 32 few in let t = rw short at e in absurd cc
      | inr enough ↦ enough
    ]

no_order : (bytes : List ℕ) (h : WalHeader) → header_with None bytes ≡ Ok h → ⊥
unfolding header_with
no_order bytes h e = cc

with_order : (bytes : List ℕ) (h : WalHeader) (o : Option WordOrder) → order_of (pair_of bytes).0 ≡ o → header_with o bytes ≡ Ok h → States bytes h
with_order bytes h (Some order) is found = header_with-ok order bytes h (order_of-some _ order is) found
with_order bytes h None is found = absurd (no_order bytes h found)

header_of-states : (bytes : List ℕ) (h : WalHeader) → header_of bytes ≡ Ok h → States bytes h
unfolding header_of
header_of-states bytes h e =
    let long : ltb (length bytes) 32 ≡ false = le-ltb _ _ (header_of-long bytes h e) in
    let found : header_with (order_of (pair_of bytes).0) bytes ≡ Ok h = rw long at e in
    with_order bytes h (order_of (pair_of bytes).0) refl found

-- the first 24 bytes are the fields
fields_stand : (bytes : List ℕ) (h : WalHeader) → 32 ≤ length bytes → AreBytes bytes → States bytes h → take 24 bytes ≡ fields h
unfolding fields
fields_stand bytes h long are s =
    let one : take 8 bytes ≡ pair (magic h.order, 3007000) = sym (pair-pair_of bytes (omega arith) are) ∙ ap pair s.first in
    let two : take 8 (drop 8 bytes) ≡ pair (4096, h.sequence) = sym (pair-pair_of (drop 8 bytes) (omega (arith, length-drop 8 bytes)) (AreBytes-drop 8 bytes are)) ∙ ap pair s.second in
    let three : take 8 (drop 16 bytes) ≡ pair h.salts = sym (pair-pair_of (drop 16 bytes) (omega (arith, length-drop 16 bytes)) (AreBytes-drop 16 bytes are)) ∙ ap pair s.salts in
    let behind : take 16 (drop 8 bytes) ≡ take 8 (drop 8 bytes) ++ take 8 (drop 16 bytes) = take-add 8 8 (drop 8 bytes) ∙ ap (λ (x : List ℕ). take 8 (drop 8 bytes) ++ take 8 x) (drop-drop 8 8 bytes) in
    take-add 8 16 bytes ∙ ap₂ (λ (x y : List ℕ). x ++ y) one (behind ∙ ap₂ (λ (x y : List ℕ). x ++ y) two three)

pub header_of-ok : (bytes : List ℕ) (h : WalHeader) → AreBytes bytes → header_of bytes ≡ Ok h → IsHeader h × ((rest : List ℕ) × (bytes ≡ header h ++ rest))
unfolding header header_sums
header_of-ok bytes h are e =
    let long = header_of-long bytes h e in
    let s = header_of-states bytes h e in
    let front = fields_stand bytes h long are s in
    let sums : pair_of (drop 24 bytes) ≡ header_sums h = s.sums ∙ ap (checksum h.order (0, 0)) front in
    let four : take 8 (drop 24 bytes) ≡ pair (header_sums h) = sym (pair-pair_of (drop 24 bytes) (omega (arith, length-drop 24 bytes)) (AreBytes-drop 24 bytes are)) ∙ ap pair sums in
    let all : take 32 bytes ≡ header h = take-add 24 8 bytes ∙ ap₂ (λ (x y : List ℕ). x ++ y) front four in
    let two = pair_of-fits (drop 8 bytes) (AreBytes-drop 8 bytes are) in
    let three = pair_of-fits (drop 16 bytes) (AreBytes-drop 16 bytes are) in
    let sequence : (pair_of (drop 8 bytes)).1 ≡ h.sequence = ap (λ (p : ℕ × ℕ). p.1) s.second in
    let salts : ArePair h.salts = let P : ℕ × ℕ → Type 0 = λ p. ArePair p in subst P s.salts three in (
      record { sequence = omega arith; salts = salts },
      (drop 32 bytes, sym (take-append-drop 32 bytes) ∙ ap (λ (x : List ℕ). x ++ drop 32 bytes) all),
    )

-- a reader after the header
pub Opened-at : (bytes front rest : List ℕ) (h : WalHeader) (sums : ℕ × ℕ) → AreBytes bytes → header_of bytes ≡ Ok h → front ≡ take 32 bytes → rest ≡ drop 32 bytes → sums ≡ pair_of (drop 24 front) → Opened bytes (record { header = h; sums = sums; rest = rest })
Opened-at bytes front rest h sums are e front_is rest_is sums_are =
    let found = header_of-ok bytes h are e in
    let more = found.1.0 in
    let behind : drop 32 bytes ≡ more = ap (drop 32) found.1.1 ∙ drop_at (header h) more 32 (length-header h) in
    let head : take 32 bytes ≡ header h ++ [] = ap (take 32) found.1.1 ∙ take_at (header h) more 32 (length-header h) ∙ sym (append-nil (header h)) in
    let sum : pair_of (drop 24 front) ≡ header_sums h = ap (λ (x : List ℕ). pair_of (drop 24 x)) (front_is ∙ head) ∙ ap pair_of (behind_three h []) ∙ pair_of-pair (header_sums h) [] (header_sums-fits h) in
    record { stated = e; fits = found.0; parts = found.1.1 ∙ ap (λ (x : List ℕ). header h ++ x) (sym (rest_is ∙ behind)); sums = sums_are ∙ sum }

-- ---- faults

no_memory_behind : (o : Option WordOrder) (bytes : List ℕ) → header_with o bytes ≡ Err NoMemory → ⊥
unfolding header_with
no_memory_behind None bytes e = cc
no_memory_behind (Some order) bytes e =
    elim (cases_Bool (eqb (pair_of bytes).1 3007000)) [
      | inr off ↦ let t = rw off at e in cc
      | inl version ↦
          let e' = rw version at e in
          elim (cases_Bool (eqb (pair_of (drop 8 bytes)).0 4096)) [
            | inr off ↦ let t = rw off at e' in cc
            | inl size ↦
                let e'' = rw size at e' in
                elim (cases_Bool (same_pair (checksum order (0, 0) (take 24 bytes)) (pair_of (drop 24 bytes)))) [
                  | inr off ↦ let t = rw off at e'' in cc
                  | inl sum ↦ let t = rw sum at e'' in cc
                ]
          ]
    ]

-- reading a header wants no memory
no_memory : (bytes : List ℕ) → header_of bytes ≡ Err NoMemory → ⊥
unfolding header_of
no_memory bytes e =
    elim (cases_Bool (ltb (length bytes) 32)) [
      | inl few ↦ let t = rw few at e in cc
      | inr long ↦ no_memory_behind (order_of (pair_of bytes).0) bytes (rw long at e)
    ]

-- a fault of the header is a refusal
pub refusal_of : (fault : WalFault) (bytes : List ℕ) → header_of bytes ≡ Err fault → IsRefusal fault bytes
refusal_of NoMemory bytes e = absurd (no_memory bytes e)
refusal_of Short bytes e = e
refusal_of Magic bytes e = e
refusal_of Version bytes e = e
refusal_of PageSize bytes e = e
refusal_of HeaderSum bytes e = e
