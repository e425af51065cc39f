-- Calls that only read, one after another.
use Rattle.std.proofs.Common.{◌≡◌, ℕ, zero, suc, ◌+◌, ◌-◌, ◌<◌, ◌≤◌, Bool, true, false, List, [], ◌∷◌, ◌++◌, length, take, drop, Result, Ok, Err, refl, sym, ap, ◌∙◌, subst, arith, length-append, length-drop}
use Rattle.std.specs.Prelude.{min}
use Rattle.std.proofs.lemmas.List.{take_all, length-take-le, take_at}
use Rattle.disk_model.specs.Disk.{Disk}
use Rattle.disk_model.specs.Trait.{Text, Looks, Reads}
use Rattle.disk_model.specs.declared.faults.DiskFault.{DiskFault}
use Rattle.segment_store.specs.Loading.{Sees}
use Rattle.segment_store.specs.Reads.{ReadsOn}

-- nothing was called
pub sees_now : {T E : Type 0} (states : Disk Text → Type 0) (x : T) (Shows : Disk Text → T → Type 0) → ((d : Disk Text) → Shows d x) → Sees {E = E} states states (Ok x) Shows
sees_now states x Shows is = record { each = λ d y. (y, is d) }

pub sees_stop : {T E : Type 0} (states : Disk Text → Type 0) (fault : E) (Shows : Disk Text → T → Type 0) → Sees {T = T} states states (Err fault) Shows
sees_stop states fault Shows = record { each = λ d y. (y, tt) }

-- a call of the disk
pub looks_ok : {S T E : Type 0} (old new : Disk Text → Type 0) (a : S) (b : T) (P : Disk Text → S → Type 0) (Q : Disk Text → T → Type 0) → Looks old new (Ok a) P → ((d : Disk Text) → P d a → Q d b) → Sees {E = E} old new (Ok b) Q
looks_ok old new a b P Q looks leads = record { each = λ d y. let z = looks.each d y in (z.0, leads d z.1) }

pub looks_err : {S T E : Type 0} (old new : Disk Text → Type 0) (x : DiskFault) (y : E) (P : Disk Text → S → Type 0) (Q : Disk Text → T → Type 0) → Looks {T = S} old new (Err x) P → Sees old new (Err y) Q
looks_err old new x y P Q looks = record { each = λ d s. ((looks.each d s).0, tt) }

-- a call that was Ok, before something that fails without the disk
pub looks_stop : {S T E : Type 0} (old new : Disk Text → Type 0) (a : S) (y : E) (P : Disk Text → S → Type 0) (Q : Disk Text → T → Type 0) → Looks old new (Ok a) P → Sees old new (Err y) Q
looks_stop old new a y P Q looks = record { each = λ d s. ((looks.each d s).0, tt) }

-- calls of the crate
pub sees_ok : {S T E F : Type 0} (old new : Disk Text → Type 0) (a : S) (b : T) (P : Disk Text → S → Type 0) (Q : Disk Text → T → Type 0) → Sees {E = E} old new (Ok a) P → ((d : Disk Text) → P d a → Q d b) → Sees {E = F} old new (Ok b) Q
sees_ok old new a b P Q sees leads = record { each = λ d y. let z = sees.each d y in (z.0, leads d z.1) }

pub sees_err : {S T E F : Type 0} (old new : Disk Text → Type 0) (r : Result S E) (y : F) (P : Disk Text → S → Type 0) (Q : Disk Text → T → Type 0) → Sees old new r P → Sees old new (Err y) Q
sees_err old new r y P Q sees = record { each = λ d s. ((sees.each d s).0, tt) }

pub sees_then : {S T E : Type 0} (old mid new : Disk Text → Type 0) (a : S) (r : Result T E) (P : Disk Text → S → Type 0) (Q R : Disk Text → T → Type 0) → Sees {E = E} old mid (Ok a) P → Sees mid new r Q → ((d : Disk Text) (b : T) → P d a → Q d b → R d b) → Sees old new r R
sees_then old mid new a (Ok b) P Q R first second leads = record { each = λ d y. let z = first.each d y in let w = second.each d z.0 in (w.0, leads d b z.1 w.1) }
sees_then old mid new a (Err x) P Q R first second leads = record { each = λ d y. let z = first.each d y in ((second.each d z.0).0, tt) }

pub sees_fails : {S T U E F : Type 0} (old mid new : Disk Text → Type 0) (a : S) (r : Result T E) (y : F) (P : Disk Text → S → Type 0) (Q : Disk Text → T → Type 0) (R : Disk Text → U → Type 0) → Sees {E = E} old mid (Ok a) P → Sees mid new r Q → Sees old new (Err y) R
sees_fails old mid new a r y P Q R first second = record { each = λ d s. ((second.each d (first.each d s).0).0, tt) }

-- ---- one piece of a file more

pub no_more : (all before after into now : List ℕ) (n : ℕ) → Reads all (length before) into now n → 0 < length into → n ≡ 0 → ReadsOn all before before false
no_more all before after into now n r room none = (
  refl,
  λ front.
      let some : min (length into) (length all - length before) ≡ 0 = sym r.count ∙ none in
      let short : length all ≤ length before = omega (arith, some, room) in
      front ∙ take_all (length before) all short,
)

pub piece_more : (all before into now : List ℕ) (n at : ℕ) → at ≡ length before → Reads all at into now n → ReadsOn all before (before ++ take n now) true
piece_more all before into now n at here read = λ front.
    let r = subst (λ (k : ℕ). Reads all k into now n) here read in
    let within : n ≤ length all - length before = omega (arith, r.count) in
    let left : length (drop (length before) all) ≡ length all - length before = length-drop (length before) all in
    let long : length (take n (drop (length before) all)) ≡ n = length-take-le n (drop (length before) all) (omega (arith, within, left)) in
    let piece : take n now ≡ take n (drop (length before) all) = ap (take n) r.buffer ∙ take_at (take n (drop (length before) all)) (drop n into) n long in
    let count : length (before ++ take n now) ≡ length before + n = length-append before (take n now) ∙ ap (λ (k : ℕ). length before + k) (ap length piece ∙ long) in
    ap (λ (l : List ℕ). before ++ l) piece ∙ ap (λ (l : List ℕ). l ++ take n (drop (length before) all)) front ∙ sym (take_sum (length before) n (length (before ++ take n now)) all count)
  where
    take_sum : (a b n : ℕ) (xs : List ℕ) → n ≡ a + b → take n xs ≡ take a xs ++ take b (drop a xs)
    take_sum zero b n xs e = let z : n ≡ b = omega (arith, e) in ap (λ (k : ℕ). take k xs) z
    take_sum (suc a) zero zero [] e = refl
    take_sum (suc a) zero (suc n) [] e = refl
    take_sum (suc a) (suc b) zero [] e = refl
    take_sum (suc a) (suc b) (suc n) [] e = refl
    take_sum (suc a) b zero (x ∷ xs) e = absurd (omega (arith, e))
    take_sum (suc a) b (suc n) (x ∷ xs) e = ap (λ (l : List ℕ). x ∷ l) (take_sum a b n xs (omega (arith, e)))

-- so far a front of the file was read
pub record Reading (name : Text) (old new : Disk Text → Type 0) (bytes : List ℕ) : Type 0 where
  pub each : (d : Disk Text) → old d → new d × (bytes ≡ take (length bytes) (d.read name).bytes)

pub reading_none : (name : Text) (states : Disk Text → Type 0) (bytes : List ℕ) → bytes ≡ [] → Reading name states states bytes
reading_none name states bytes e = record { each = λ d y. (y, e ∙ sym (ap (λ (l : List ℕ). take (length l) (d.read name).bytes) e)) }

pub reading_more : (name : Text) (old mid new : Disk Text → Type 0) (before after : List ℕ) {E : Type 0} (b : Bool) → b ≡ true → Reading name old mid before → Sees {E = E} mid new (Ok b) (λ d more. ReadsOn (d.read name).bytes before after more) → Reading name old new after
reading_more name old mid new before after true e r s = record { each = λ d y. let z = r.each d y in let w = s.each d z.0 in (w.0, w.1 z.1) }
reading_more name old mid new before after false e r s = absurd cc

pub reading_all : (name : Text) (old mid new : Disk Text → Type 0) (before after : List ℕ) {E F : Type 0} (b : Bool) (x : Unit {0}) → b ≡ false → Reading name old mid before → Sees {E = E} mid new (Ok b) (λ d more. ReadsOn (d.read name).bytes before after more)
    → Sees {E = F} old new (Ok x) (λ d u. after ≡ (d.read name).bytes)
reading_all name old mid new before after true x e r s = absurd cc
reading_all name old mid new before after false x e r s = record { each = λ d y. let z = r.each d y in let w = s.each d z.0 in (w.0, w.1.0 ∙ w.1.1 z.1) }

pub reading_err : (name : Text) (old mid new : Disk Text → Type 0) (before : List ℕ) {S E F : Type 0} (r : Result S E) (y : F) (P : Disk Text → S → Type 0) (Q : Disk Text → Unit {0} → Type 0) → Reading name old mid before → Sees mid new r P → Sees old new (Err y) Q
reading_err name old mid new before r y P Q reading sees = record { each = λ d z. ((sees.each d (reading.each d z).0).0, tt) }

pub reading_stop : (name : Text) (old now : Disk Text → Type 0) (before : List ℕ) {F : Type 0} (y : F) (Q : Disk Text → Unit {0} → Type 0) → Reading name old now before → Sees old now (Err y) Q
reading_stop name old now before y Q reading = record { each = λ d z. ((reading.each d z).0, tt) }
