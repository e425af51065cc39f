-- Bytes that stand, place by place.
use Rattle.std.proofs.Common.{◌≡◌, ℕ, zero, suc, ◌+◌, ◌<◌, ◌≤◌, false, List, [], ◌∷◌, ◌++◌, length, take, drop, refl, sym, ap, ◌∙◌, arith}
use Rattle.std.proofs.lemmas.List.{take_all, drop_all, append-nil}
use Rattle.disk_model.specs.Disk.{Change, byte_at, loose, LeavesBytes}
use Rattle.disk_model.specs.Calls.{put}

-- the front of two files agrees where each of its bytes does
pub take_same : (p : ℕ) (c held : List ℕ) → p ≤ length held → ((i : ℕ) → i < p → byte_at c i ≡ byte_at held i) → take p c ≡ take p held
take_same zero c held h same = refl
take_same (suc p) c [] h same = absurd (omega arith)
take_same (suc p) [] (y ∷ held) h same = let z : 0 ≡ suc y = same 0 (omega arith) in absurd (omega arith)
take_same (suc p) (x ∷ c) (y ∷ held) h same =
    let z : suc x ≡ suc y = same 0 (omega arith) in
    let e : x ≡ y = omega arith in
    let r : take p c ≡ take p held = take_same p c held (omega arith) (λ i l. same (suc i) (omega arith)) in
    λ i. e i ∷ r i

pub take_long : (p : ℕ) (c held : List ℕ) → p ≤ length held → ((i : ℕ) → i < p → byte_at c i ≡ byte_at held i) → p ≤ length c
take_long zero c held h same = omega arith
take_long (suc p) c [] h same = absurd (omega arith)
take_long (suc p) [] (y ∷ held) h same = let z : 0 ≡ suc y = same 0 (omega arith) in absurd (omega arith)
take_long (suc p) (x ∷ c) (y ∷ held) h same = let r = take_long p c held (omega arith) (λ i l. same (suc i) (omega arith)) in omega arith

-- nothing was changed since: the bytes stand
pub untouched : (held c : List ℕ) → LeavesBytes held [] c → c ≡ held
untouched held c left =
    let same = λ (i : ℕ) (l : i < length held). left.stays i l refl in
    sym (take_all (length held) c left.no_longer) ∙ take_same (length held) c held (omega arith) same ∙ take_all (length held) held (omega arith)

-- the part that nothing touched stands
pub front_stands : (p : ℕ) (held c : List ℕ) (since : List Change) → p ≤ length held → ((i : ℕ) → i < p → loose since i ≡ false) → LeavesBytes held since c → (take p c ≡ take p held) × (p ≤ length c)
front_stands p held c since h firm left =
    let same = λ (i : ℕ) (l : i < p). left.stays i (omega arith) (firm i l) in
    (take_same p c held h same, take_long p c held h same)

pub put_whole : (bytes old : List ℕ) → length old ≤ length bytes → put 0 bytes old ≡ bytes
put_whole bytes old h =
    let k : 0 + length bytes ≡ length bytes = omega arith in
    ap (λ (n : ℕ). bytes ++ drop n old) k ∙ ap (λ (l : List ℕ). bytes ++ l) (drop_all (length bytes) old h) ∙ append-nil bytes

pub put_end : (bytes old : List ℕ) → put (length old) bytes old ≡ old ++ bytes
put_end bytes old =
    ap (λ (l : List ℕ). l ++ bytes ++ drop (length old + length bytes) old) (take_all (length old) old (omega arith))
    ∙ ap (λ (l : List ℕ). old ++ bytes ++ l) (drop_all (length old + length bytes) old (omega arith)) ∙ append-nil (old ++ bytes)
