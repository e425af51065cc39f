-- What a change of a file leaves of what a crash may leave.
use Rattle.std.proofs.Common.{◌≡◌, ◌⊎◌, inl, inr, ⊎_elim, ℕ, zero, suc, ◌+◌, ◌-◌, ◌<◌, ◌≤◌, max, false, ◌&&◌, nat_le, nat_lt, List, [], ◌∷◌, ◌++◌, length, take, drop, refl, ap, ◌∙◌, arith, length-drop}
use Rattle.std.proofs.lemmas.Bool.{or_parts, and_cases, leb-false, ltb-false}
use Rattle.std.proofs.lemmas.List.{length-append, length-take-le}
use Rattle.disk_model.specs.Disk.{Change, Wrote, Cut, Standing, Sure, Made, Gone, Absent, byte_at, loose, reach, LeavesBytes}
use Rattle.disk_model.specs.Calls.{made, gone, put}

byte_front : (xs ys : List ℕ) (i : ℕ) → i < length xs → byte_at (xs ++ ys) i ≡ byte_at xs i
byte_front [] ys i h = absurd (omega arith)
byte_front (x ∷ xs) ys zero h = refl
byte_front (x ∷ xs) ys (suc i) h = byte_front xs ys i (omega arith)

byte_behind : (xs ys : List ℕ) (i j : ℕ) → i ≡ length xs + j → byte_at (xs ++ ys) i ≡ byte_at ys j
byte_behind [] ys i j e = let z : i ≡ j = omega (arith, e) in ap (byte_at ys) z
byte_behind (x ∷ xs) ys zero j e = absurd (omega (arith, e))
byte_behind (x ∷ xs) ys (suc i) j e = byte_behind xs ys i j (omega (arith, e))

byte_take : (k : ℕ) (c : List ℕ) (i : ℕ) → i < k → byte_at (take k c) i ≡ byte_at c i
byte_take zero c i h = absurd (omega arith)
byte_take (suc k) [] i h = refl
byte_take (suc k) (x ∷ c) zero h = refl
byte_take (suc k) (x ∷ c) (suc i) h = byte_take k c i (omega arith)

byte_drop : (k : ℕ) (c : List ℕ) (i j : ℕ) → j ≡ k + i → byte_at (drop k c) i ≡ byte_at c j
byte_drop zero c i j e = let z : i ≡ j = omega (arith, e) in ap (byte_at c) z
byte_drop (suc k) [] i j e = refl
byte_drop (suc k) (x ∷ c) i zero e = absurd (omega (arith, e))
byte_drop (suc k) (x ∷ c) i (suc j) e = byte_drop k c i j (omega (arith, e))

front_length : (at : ℕ) (bytes old : List ℕ) → at ≤ length old → length (take at old ++ bytes) ≡ at + length bytes
front_length at bytes old h =
    let a : length (take at old ++ bytes) ≡ length (take at old) + length bytes = length-append (take at old) bytes in
    let b : length (take at old) ≡ at = length-take-le at old h in
    omega (arith, a, b)

-- a write leaves the other places
byte_put : (at : ℕ) (bytes old : List ℕ) (i : ℕ) → at ≤ length old → (i < at) ⊎ (at + length bytes ≤ i) → byte_at (put at bytes old) i ≡ byte_at old i
byte_put at bytes old i h place = ⊎_elim before behind place
  where
    before : i < at → byte_at (put at bytes old) i ≡ byte_at old i
    before l =
        let a : length (take at old) ≡ at = length-take-le at old h in
        let b : length (take at old ++ bytes) ≡ at + length bytes = front_length at bytes old h in
        byte_front (take at old ++ bytes) (drop (at + length bytes) old) i (omega (arith, b, l))
        ∙ byte_front (take at old) bytes i (omega (arith, a, l)) ∙ byte_take at old i l

    behind : at + length bytes ≤ i → byte_at (put at bytes old) i ≡ byte_at old i
    behind l =
        let b : length (take at old ++ bytes) ≡ at + length bytes = front_length at bytes old h in
        byte_behind (take at old ++ bytes) (drop (at + length bytes) old) i (i - (at + length bytes)) (omega (arith, b, l))
        ∙ byte_drop (at + length bytes) old (i - (at + length bytes)) i (omega (arith, l))

put_length : (at : ℕ) (bytes old : List ℕ) → at ≤ length old → length (put at bytes old) ≤ max (at + length bytes) (length old)
put_length at bytes old h =
    let a : length (put at bytes old) ≡ length (take at old ++ bytes) + length (drop (at + length bytes) old) = length-append (take at old ++ bytes) (drop (at + length bytes) old) in
    let b : length (take at old ++ bytes) ≡ at + length bytes = front_length at bytes old h in
    let c : length (drop (at + length bytes) old) ≡ length old - (at + length bytes) = length-drop (at + length bytes) old in
    omega (arith, a, b, c)

-- a place that a write didn't touch lies before or after it
untouched_place : (at n i : ℕ) → (nat_le at i && nat_lt i (at + n)) ≡ false → (i < at) ⊎ (at + n ≤ i)
untouched_place at n i e =
    ⊎_elim
    (λ q. let z : i < at = leb-false at i q in inl z)
    (λ q. let z : at + n ≤ i = ltb-false i (at + n) q in inr z)
    (and_cases (nat_le at i) (nat_lt i (at + n)) e)

-- bytes that a crash may leave it may leave after one more change too
pub still_bytes : (held : List ℕ) (since : List Change) (change : Change) (c : List ℕ) → LeavesBytes held since c → LeavesBytes held (change ∷ since) c
still_bytes held since (Wrote at bytes) c left =
    let n : length c ≤ reach (length held) since = left.no_longer in
    record {
      stays = λ i l e. left.stays i l (or_parts (nat_le at i && nat_lt i (at + length bytes)) (loose since i) e).1;
      no_longer = omega (arith, n);
    }
still_bytes held since (Cut k) c left = record {
  stays = λ i l e. left.stays i l (or_parts (nat_le k i) (loose since i) e).1;
  no_longer = left.no_longer;
}

-- a write to bytes that a crash may leave gives bytes that a crash may leave
pub put_bytes : (held : List ℕ) (since : List Change) (at : ℕ) (bytes c : List ℕ) → at ≤ length c → LeavesBytes held since c → LeavesBytes held (Wrote at bytes ∷ since) (put at bytes c)
put_bytes held since at bytes c h left =
    let n : length c ≤ reach (length held) since = left.no_longer in
    let p : length (put at bytes c) ≤ max (at + length bytes) (length c) = put_length at bytes c h in
    record {
      stays = λ i l e.
          let parts = or_parts (nat_le at i && nat_lt i (at + length bytes)) (loose since i) e in
          byte_put at bytes c i h (untouched_place at (length bytes) i parts.0) ∙ left.stays i l parts.1;
      no_longer = omega (arith, n, p);
    }

-- half of a write too, under the change that the whole write is
pub put_front : (held : List ℕ) (since : List Change) (at k : ℕ) (bytes c : List ℕ) → at ≤ length c → LeavesBytes held since c → LeavesBytes held (Wrote at bytes ∷ since) (put at (take k bytes) c)
put_front held since at k bytes c h left =
    let n : length c ≤ reach (length held) since = left.no_longer in
    let p : length (put at (take k bytes) c) ≤ max (at + length (take k bytes)) (length c) = put_length at (take k bytes) c h in
    let t : length (take k bytes) ≤ length bytes = taken k bytes in
    record {
      stays = λ i l e.
          let parts = or_parts (nat_le at i && nat_lt i (at + length bytes)) (loose since i) e in
          byte_put at (take k bytes) c i h (⊎_elim (λ q. inl q) (λ q. let z : at + length (take k bytes) ≤ i = omega (arith, q, t) in inr z) (untouched_place at (length bytes) i parts.0))
          ∙ left.stays i l parts.1;
      no_longer = omega (arith, n, p, t);
    }
  where
    taken : (k : ℕ) (xs : List ℕ) → length (take k xs) ≤ length xs
    taken zero xs = omega arith
    taken (suc k) [] = omega arith
    taken (suc k) (x ∷ xs) = let z = taken k xs in omega (arith, z)

-- so does a cut
pub cut_bytes : (held : List ℕ) (since : List Change) (k : ℕ) (c : List ℕ) → LeavesBytes held since c → LeavesBytes held (Cut k ∷ since) (take k c)
cut_bytes held since k c left =
    let n : length c ≤ reach (length held) since = left.no_longer in
    let t : length (take k c) ≤ length c = taken k c in
    record {
      stays = λ i l e.
          let parts = or_parts (nat_le k i) (loose since i) e in
          let lt : i < k = leb-false k i parts.0 in
          byte_take k c i lt ∙ left.stays i l parts.1;
      no_longer = omega (arith, n, t);
    }
  where
    taken : (k : ℕ) (xs : List ℕ) → length (take k xs) ≤ length xs
    taken zero xs = omega arith
    taken (suc k) [] = omega arith
    taken (suc k) (x ∷ xs) = let z = taken k xs in omega (arith, z)

pub same_bytes : (c : List ℕ) → LeavesBytes c [] c
same_bytes c = record { stays = λ i l e. refl; no_longer = omega arith }

pub made_sure : (s : Standing) → made s ≡ Sure → s ≡ Sure
made_sure Sure e = refl
made_sure Made e = absurd cc
made_sure Gone e = absurd cc
made_sure Absent e = absurd cc

pub made_present : (s : Standing) → made s ≡ Absent → ⊥
made_present Sure e = absurd cc
made_present Made e = absurd cc
made_present Gone e = absurd cc
made_present Absent e = absurd cc

pub made_stays : (s : Standing) → made s ≡ Gone → ⊥
made_stays Sure e = absurd cc
made_stays Made e = absurd cc
made_stays Gone e = absurd cc
made_stays Absent e = absurd cc

pub gone_unsure : (s : Standing) → gone s ≡ Sure → ⊥
gone_unsure Sure e = absurd cc
gone_unsure Made e = absurd cc
gone_unsure Gone e = absurd cc
gone_unsure Absent e = absurd cc

pub gone_absent : (s : Standing) → gone s ≡ Absent → s ≡ Absent
gone_absent Sure e = absurd cc
gone_absent Made e = absurd cc
gone_absent Gone e = absurd cc
gone_absent Absent e = refl

pub gone_now : (s : Standing) → (s ≡ Absent → ⊥) → gone s ≡ Gone
gone_now Sure h = refl
gone_now Made h = refl
gone_now Gone h = refl
gone_now Absent h = absurd (h refl)
