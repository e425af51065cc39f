-- The front of a file that no call touched since it was put down.
use Rattle.std.proofs.Common.{◌≡◌, ℕ, zero, suc, ◌+◌, ◌≤◌, min, List, [], ◌∷◌, ◌++◌, length, take, drop, refl, sym, ap, ◌∙◌, arith}
use Rattle.std.proofs.lemmas.List.{take_at, take-append-le, take-append-drop, length-take, length-append}
use Rattle.disk_model.specs.Disk.{Found}
use Rattle.disk_model.specs.Calls.{put}
use Rattle.disk_model.specs.Memory.{done_to}
use Rattle.disk_model.specs.Fronts.{SameFront, front_left}
use Rattle.disk_model.specs.declared.open_calls.UnsyncedEffect.{UnsyncedEffect}
use Rattle.disk_model.specs.declared.open_calls.UnsyncedEffect.TheVariants.{Creation, Naming, Write, Truncation, Removal, Nothing}

take_less : (s k : ℕ) (l : List ℕ) → s ≤ k → take s (take k l) ≡ take s l
take_less zero k l h = refl
take_less (suc s) zero l h = absurd (omega arith)
take_less (suc s) (suc k) [] h = refl
take_less (suc s) (suc k) (x ∷ l) h = ap (λ (r : List ℕ). x ∷ r) (take_less s k l (omega arith))

-- a shorter front is the same too
pub front_less : (s t : ℕ) (read base : List ℕ) → s ≤ t → SameFront t read base → SameFront s read base
front_less s t read base h same = (let z = same.0 in omega (arith, z), sym (take_less s t read h) ∙ ap (take s) same.1 ∙ take_less s t base h)

pub front_none : (read base : List ℕ) → SameFront 0 read base
front_none read base = (omega arith, refl)

put_front : (s at : ℕ) (bytes old : List ℕ) → s ≤ at → s ≤ length old → (s ≤ length (put at bytes old)) × (take s (put at bytes old) ≡ take s old)
put_front s at bytes old h k =
    let rest = drop (at + length bytes) old in
    let e : length (take at old) ≡ min at (length old) = length-take at old in
    let l : length (put at bytes old) ≡ length (take at old ++ bytes) + length rest = length-append (take at old ++ bytes) rest in
    let m : length (take at old ++ bytes) ≡ length (take at old) + length bytes = length-append (take at old) bytes in
    (omega (arith, e, l, m), take-append-le s (take at old ++ bytes) rest (omega (arith, e, m)) ∙ take-append-le s (take at old) bytes (omega (arith, e)) ∙ take_less s at old h)

-- what a call does to what is read leaves this front
pub front_done : (c : UnsyncedEffect) (s : ℕ) (read : Found) (base : List ℕ) → SameFront s read.bytes base → SameFront (front_left c s) (done_to c read).bytes base
front_done (Creation bytes) s read base same = front_none (put 0 bytes read.bytes) base
front_done Naming s read base same = same
front_done (Write at bytes) s read base same =
    let less = front_less (min s at) s read.bytes base (omega arith) same in
    let z = put_front (min s at) at bytes read.bytes (omega arith) less.0 in
    (z.0, z.1 ∙ less.1)
front_done (Truncation k) s read base same =
    let less = front_less (min s k) s read.bytes base (omega arith) same in
    let e : length (take k read.bytes) ≡ min k (length read.bytes) = length-take k read.bytes in
    let l : min s k ≤ length read.bytes = less.0 in
    (omega (arith, e, l), take_less (min s k) k read.bytes (omega arith) ∙ less.1)
front_done Removal s read base same = same
front_done Nothing s read base same = same

-- bytes that follow others, of which this many are there
pub followed : (s : ℕ) (new old : List ℕ) → SameFront s new old → take (length new) (put s (drop s new) old) ≡ new
followed s new old same =
    let rest = drop (s + length (drop s new)) old in
    let e : put s (drop s new) old ≡ new ++ rest = ap (λ (l : List ℕ). l ++ drop s new ++ rest) (sym same.1) ∙ ap (λ (l : List ℕ). l ++ rest) (take-append-drop s new) in
    ap (take (length new)) e ∙ take_at new rest (length new) refl
