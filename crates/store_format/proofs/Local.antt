-- What was read depends only on the bytes that were read.
use Rattle.std.proofs.Common.{◌≡◌, ℕ, zero, suc, ◌+◌, ◌%◌, ◌≤◌, true, false, cond, ltb, List, [], ◌∷◌, ◌++◌, length, take, drop, Result, Ok, Err, refl, sym, ap, ◌∙◌, subst, arith, append_assoc, length-append, length-drop}
use Rattle.std.specs.List.{list_all}
use Rattle.std.proofs.lemmas.Bool.{ltb-false, le-ltb}
use Rattle.std.proofs.lemmas.List.{take-append-drop, take-append-le, drop-append-le, length-take-le, drop-drop, drop_at, take_at, drop-take}
use Rattle.byteorder.specs.Endian.{little_number}
use Rattle.raft_spec.specs.Log.{Entry}
use Rattle.wire_words.specs.declared.fault.WordFault.{WordFault}
use Rattle.wire_words.specs.declared.fault.WordFault.TheVariants.{Short, Pad}
use Rattle.wire_words.specs.Items.{gap, is_zero}
use Rattle.wire_words.specs.Reading.{◌>>=◌, Unread, past, word_at, pair_at, raw_at, are_zeros}
use Rattle.wire_words.proofs.ReadBack.{refused_not, passed, ok_is, bind_ok, same_unread, take_parts}
use Rattle.raft_messages.specs.declared.entries.EntryHead.{EntryHead}
use Rattle.raft_messages.specs.Kinds.{kind_value, kind_with}
use Rattle.raft_messages.specs.Entries.{known_kind, head_at, heads_at, entry_at, contents_at}
use Rattle.store_format.specs.declared.batch_reading.Body.{Body}
use Rattle.store_format.specs.Batches.{body_at}
use Rattle.store_format.proofs.Places.{little_front}

-- a reader at a place, whose next bytes are the first n and then others
abbrev pub followed : Unread → ℕ → List ℕ → Unread
followed u n y = record { at = u.at; bytes = take n u.bytes ++ y }

abbrev pub behind : Unread → ℕ → List ℕ → Unread
behind u n y = record { at = u.at + n; bytes = y }

-- reading gave this and went on so far, and it gives the same for these bytes whatever follows them
pub record Local {A : Type 0} (p : Unread → Result (A × Unread) WordFault) (u : Unread) (v : A) (w : Unread) : Type 0 where
  pub n : ℕ
  pub within : n ≤ length u.bytes
  pub is : w ≡ past n u
  pub again : (y : List ℕ) → p (followed u n y) ≡ Ok (v, behind u n y)

-- a front of the bytes that is long enough
front_long : (u : Unread) (n : ℕ) (y : List ℕ) → n ≤ length u.bytes → n ≤ length (take n u.bytes ++ y)
front_long u n y h = omega (arith, length-append (take n u.bytes) y, length-take-le n u.bytes h)

behind_is : (u : Unread) (n : ℕ) (y : List ℕ) → n ≤ length u.bytes → past n (followed u n y) ≡ behind u n y
behind_is u n y h = ap (λ (b : List ℕ). behind u n b) (drop_at (take n u.bytes) y n (length-take-le n u.bytes h))

number_same : (k m : ℕ) (bytes y : List ℕ) → k ≤ m → m ≤ length bytes → little_number k (take m bytes ++ y) ≡ little_number k bytes
number_same k m bytes y low h =
    let len = length-take-le m bytes h in
    little_front 0 k (take m bytes) y (omega arith) ∙ sym (little_front 0 k (take m bytes) (drop m bytes) (omega arith)) ∙ ap (little_number k) (take-append-drop m bytes)

pub word_local : (u w : Unread) (v : ℕ) → word_at u ≡ Ok (v, w) → Local word_at u v w
unfolding word_at
word_local u w v e =
    let made : ℕ × Unread = (little_number 8 u.bytes, past 8 u) in
    let g = refused_not (ltb (length u.bytes) 8) (Short u.at) (Ok made) (v, w) e in
    let long : 8 ≤ length u.bytes = ltb-false _ _ g.0 in
    let is : made ≡ (v, w) = ok_is made (v, w) g.1 in
    record {
      n = 8;
      within = long;
      is = sym (ap (λ (x : ℕ × Unread). x.1) is);
      again = λ y.
          let room : ltb (length (take 8 u.bytes ++ y)) 8 ≡ false = le-ltb _ _ (front_long u 8 y long) in
          let value : little_number 8 (take 8 u.bytes ++ y) ≡ v = number_same 8 8 u.bytes y (omega arith) long ∙ ap (λ (x : ℕ × Unread). x.0) is in
          (λ i. cond (room i) (Err (Short u.at)) (Ok (value i, behind_is u 8 y long i)));
    }

high_same : (bytes y : List ℕ) → 8 ≤ length bytes → little_number 4 (drop 4 (take 8 bytes ++ y)) ≡ little_number 4 (drop 4 bytes)
high_same bytes y h =
    let len = length-take-le 8 bytes h in
    let d : drop 4 (take 8 bytes ++ y) ≡ drop 4 (take 8 bytes) ++ y = drop-append-le 4 (take 8 bytes) y (omega arith) in
    let e : drop 4 (take 8 bytes ++ drop 8 bytes) ≡ drop 4 (take 8 bytes) ++ drop 8 bytes = drop-append-le 4 (take 8 bytes) (drop 8 bytes) (omega arith) in
    ap (little_number 4) d ∙ little_front 0 4 (drop 4 (take 8 bytes)) y (omega (arith, length-drop 4 (take 8 bytes)))
    ∙ sym (little_front 0 4 (drop 4 (take 8 bytes)) (drop 8 bytes) (omega (arith, length-drop 4 (take 8 bytes)))) ∙ ap (little_number 4) (sym e)
    ∙ ap (λ (b : List ℕ). little_number 4 (drop 4 b)) (take-append-drop 8 bytes)

pub pair_local : (u w : Unread) (v : ℕ × ℕ) → pair_at u ≡ Ok (v, w) → Local pair_at u v w
unfolding pair_at
pair_local u w v e =
    let made : (ℕ × ℕ) × Unread = ((little_number 4 u.bytes, little_number 4 (drop 4 u.bytes)), past 8 u) in
    let g = refused_not (ltb (length u.bytes) 8) (Short u.at) (Ok made) (v, w) e in
    let long : 8 ≤ length u.bytes = ltb-false _ _ g.0 in
    let is : made ≡ (v, w) = ok_is made (v, w) g.1 in
    record {
      n = 8;
      within = long;
      is = sym (ap (λ (x : (ℕ × ℕ) × Unread). x.1) is);
      again = λ y.
          let room : ltb (length (take 8 u.bytes ++ y)) 8 ≡ false = le-ltb _ _ (front_long u 8 y long) in
          let low = number_same 4 8 u.bytes y (omega arith) long in
          let high = high_same u.bytes y long in
          let value : (little_number 4 (take 8 u.bytes ++ y), little_number 4 (drop 4 (take 8 u.bytes ++ y))) ≡ v = (λ i. (low i, high i)) ∙ ap (λ (x : (ℕ × ℕ) × Unread). x.0) is in
          (λ i. cond (room i) (Err (Short u.at)) (Ok (value i, behind_is u 8 y long i)));
    }

zeros_same : (size g : ℕ) (bytes y : List ℕ) → size + g ≤ length bytes → are_zeros size g (take (size + g) bytes ++ y) ≡ are_zeros size g bytes
zeros_same size g bytes y h = ap (list_all is_zero) (middle (take (size + g) bytes ++ y) (front y) ∙ sym (middle bytes refl))
  where
    len : length (take (size + g) bytes) ≡ size + g
    len = length-take-le (size + g) bytes h

    front : (y : List ℕ) → take (size + g) (take (size + g) bytes ++ y) ≡ take (size + g) bytes
    front y = take_at (take (size + g) bytes) y (size + g) len

    middle : (c : List ℕ) → take (size + g) c ≡ take (size + g) bytes → take g (drop size c) ≡ drop size (take (size + g) bytes)
    middle c e = sym (drop-take size g c) ∙ ap (drop size) e

pub raw_local : (size : ℕ) (u w : Unread) (v : List ℕ) → raw_at size u ≡ Ok (v, w) → Local (raw_at size) u v w
unfolding raw_at
raw_local size u w v e =
    let made : List ℕ × Unread = (take size u.bytes, past (size + gap size) u) in
    let g = refused_not (ltb (length u.bytes) (size + gap size)) (Short u.at) (cond (are_zeros size (gap size) u.bytes) (Ok made) (Err (Pad u.at))) (v, w) e in
    let z = passed (are_zeros size (gap size) u.bytes) (Pad u.at) (Ok made) (v, w) g.1 in
    let long : size + gap size ≤ length u.bytes = ltb-false _ _ g.0 in
    let is : made ≡ (v, w) = ok_is made (v, w) z.1 in
    let n = size + gap size in
    record {
      n = n;
      within = long;
      is = sym (ap (λ (x : List ℕ × Unread). x.1) is);
      again = λ y.
          let room : ltb (length (take n u.bytes ++ y)) n ≡ false = le-ltb _ _ (front_long u n y long) in
          let len = length-take-le n u.bytes long in
          let zeros : are_zeros size (gap size) (take n u.bytes ++ y) ≡ true = zeros_same size (gap size) u.bytes y long ∙ z.0 in
          let back : take size (take n u.bytes ++ drop n u.bytes) ≡ take size (take n u.bytes) = take-append-le size (take n u.bytes) (drop n u.bytes) (omega arith) in
          let value : take size (take n u.bytes ++ y) ≡ v = take-append-le size (take n u.bytes) y (omega arith) ∙ sym back ∙ ap (take size) (take-append-drop n u.bytes) ∙ ap (λ (x : List ℕ × Unread). x.0) is in
          (λ i. cond (room i) (Err (Short u.at)) (cond (zeros i) (Ok (value i, behind_is u n y long i)) (Err (Pad u.at))));
    }

-- two readings, one after the other
both_is : (u : Unread) (n m : ℕ) → past m (past n u) ≡ past (n + m) u
both_is u n m = same_unread _ _ (omega arith) (drop-drop m n u.bytes)

front_both : (u : Unread) (n m : ℕ) (y : List ℕ) → followed u (n + m) y ≡ followed u n (take m (drop n u.bytes) ++ y)
front_both u n m y = ap (λ (b : List ℕ). record { at = u.at; bytes = b }) (ap (λ (b : List ℕ). b ++ y) (take_parts n m u.bytes) ∙ append_assoc (take n u.bytes) (take m (drop n u.bytes)) y)

pub then_local : {A B : Type 0} (p : Unread → Result (A × Unread) WordFault) (q : A × Unread → Result (B × Unread) WordFault) (u w z : Unread) (v : A) (x : B)
    → Local p u v w → Local (λ (left : Unread). q (v, left)) w x z → Local (λ (left : Unread). p left >>= q) u x z
then_local p q u w z v x a b =
    let long : b.n ≤ length (drop a.n u.bytes) = subst (λ (s : Unread). b.n ≤ length s.bytes) a.is b.within in
    record {
      n = a.n + b.n;
      within = omega (arith, a.within, length-drop a.n u.bytes);
      is = b.is ∙ ap (past b.n) a.is ∙ both_is u a.n b.n;
      again = λ y.
          let mid : List ℕ = take b.n (drop a.n u.bytes) ++ y in
          let step : p (followed u (a.n + b.n) y) ≡ Ok (v, behind u a.n mid) = ap p (front_both u a.n b.n y) ∙ a.again mid in
          let here : behind u a.n mid ≡ followed w b.n y = ap (λ (s : Unread). followed s b.n y) (sym a.is) in
          let last : q (v, followed w b.n y) ≡ Ok (x, behind w b.n y) = b.again y in
          let end : behind w b.n y ≡ behind u (a.n + b.n) y = same_unread _ _ (ap (λ (s : Unread). s.at + b.n) a.is ∙ omega arith) refl in
          (λ i. step i >>= q) ∙ ap (λ (s : Unread). q (v, s)) here ∙ last ∙ ap (λ (s : Unread). Ok (x, s)) end;
    }

-- no bytes are read, and a value is made
pub made_local : {A : Type 0} (v : A) (u : Unread) → Local (λ (left : Unread). Ok (v, left)) u v u
made_local v u = record {
  n = 0;
  within = omega arith;
  is = same_unread _ _ (omega arith) refl;
  again = λ y. ap (λ (s : Unread). Ok (v, s)) (same_unread _ _ (omega arith) refl);
}

-- a reading whose later steps look at the place at which they began
pub at_local : {A : Type 0} (p : ℕ → Unread → Result (A × Unread) WordFault) (u w : Unread) (v : A) → Local (p u.at) u v w → Local (λ (left : Unread). p left.at left) u v w
at_local p u w v l = record { n = l.n; within = l.within; is = l.is; again = l.again }

-- a step that reads nothing, and then a value
abbrev pub makes : {A B : Type 0} → (A → B) → Unread → A → Result (B × Unread) WordFault
makes make left a = Ok (make a, left)

pub known_local : {A B : Type 0} (k : Result A WordFault) (make : A → B) (u w : Unread) (x : B) → (k >>= makes make u) ≡ Ok (x, w) → Local (λ (left : Unread). k >>= makes make left) u x w
known_local (Err fault) make u w x e = absurd cc
known_local (Ok a) make u w x e =
    let is : (make a, u) ≡ (x, w) = ok_is (make a, u) (x, w) e in
    record {
      n = 0;
      within = omega arith;
      is = sym (ap (λ z. z.1) is) ∙ same_unread _ _ (omega arith) refl;
      again = λ y. ap (λ (s : Unread). Ok (make a, s)) (same_unread (followed u 0 y) (behind u 0 y) (omega arith) refl) ∙ ap (λ z. Ok (z, behind u 0 y)) (ap (λ z. z.0) is);
    }

pub head_local : (u w : Unread) (h : EntryHead) → head_at u ≡ Ok (h, w) → Local head_at u h w
unfolding head_at
head_local u w h e =
    let a = bind_ok (word_at u) (λ term. pair_at term.1 >>= λ halves. known_kind term.1.at halves.0.0 (kind_with (halves.0.0 % 256)) >>= λ kind. Ok (record { term = term.0; kind = kind; size = halves.0.1 }, halves.1)) (h, w) e in
    let b = bind_ok (pair_at a.0.1) (λ halves. known_kind a.0.1.at halves.0.0 (kind_with (halves.0.0 % 256)) >>= λ kind. Ok (record { term = a.0.0; kind = kind; size = halves.0.1 }, halves.1)) (h, w) a.2 in
    then_local word_at (λ term. pair_at term.1 >>= λ halves. known_kind term.1.at halves.0.0 (kind_with (halves.0.0 % 256)) >>= λ kind. Ok (record { term = term.0; kind = kind; size = halves.0.1 }, halves.1)) u a.0.1 w a.0.0 h (word_local u a.0.1 a.0.0 a.1)
    (at_local (λ at left. pair_at left >>= λ halves. known_kind at halves.0.0 (kind_with (halves.0.0 % 256)) >>= λ kind. Ok (record { term = a.0.0; kind = kind; size = halves.0.1 }, halves.1)) a.0.1 w h
    (then_local pair_at (λ halves. known_kind a.0.1.at halves.0.0 (kind_with (halves.0.0 % 256)) >>= λ kind. Ok (record { term = a.0.0; kind = kind; size = halves.0.1 }, halves.1)) a.0.1 b.0.1 w b.0.0 h (pair_local a.0.1 b.0.1 b.0.0 b.1)
    (known_local (known_kind a.0.1.at b.0.0.0 (kind_with (b.0.0.0 % 256))) (λ kind. record { term = a.0.0; kind = kind; size = b.0.0.1 }) b.0.1 w h b.2)))

pub heads_local : (count : ℕ) (u w : Unread) (hs : List EntryHead) → heads_at count u ≡ Ok (hs, w) → Local (heads_at count) u hs w
unfolding heads_at
heads_local zero u w hs e = known_local (Ok 0) (λ (n : ℕ). []) u w hs e
heads_local (suc count) u w hs e =
    let a = bind_ok (head_at u) (λ first. heads_at count first.1 >>= λ others. Ok (first.0 ∷ others.0, others.1)) (hs, w) e in
    let b = bind_ok (heads_at count a.0.1) (λ others. Ok (a.0.0 ∷ others.0, others.1)) (hs, w) a.2 in
    then_local head_at (λ first. heads_at count first.1 >>= λ others. Ok (first.0 ∷ others.0, others.1)) u a.0.1 w a.0.0 hs (head_local u a.0.1 a.0.0 a.1)
    (then_local (heads_at count) (λ others. Ok (a.0.0 ∷ others.0, others.1)) a.0.1 b.0.1 w b.0.0 hs (heads_local count a.0.1 b.0.1 b.0.0 b.1)
    (known_local (Ok 0) (λ (n : ℕ). a.0.0 ∷ b.0.0) b.0.1 w hs b.2))

pub entry_local : (h : EntryHead) (u w : Unread) (x : Entry) → entry_at h u ≡ Ok (x, w) → Local (entry_at h) u x w
unfolding entry_at
entry_local h u w x e =
    let a = bind_ok (raw_at h.size u) (λ bytes. Ok (record { term = h.term; kind = kind_value h.kind; bytes = bytes.0 }, bytes.1)) (x, w) e in
    then_local (raw_at h.size) (λ bytes. Ok (record { term = h.term; kind = kind_value h.kind; bytes = bytes.0 }, bytes.1)) u a.0.1 w a.0.0 x (raw_local h.size u a.0.1 a.0.0 a.1)
    (known_local (Ok 0) (λ (n : ℕ). record { term = h.term; kind = kind_value h.kind; bytes = a.0.0 }) a.0.1 w x a.2)

pub contents_local : (hs : List EntryHead) (u w : Unread) (es : List Entry) → contents_at hs u ≡ Ok (es, w) → Local (contents_at hs) u es w
unfolding contents_at
contents_local [] u w es e = known_local (Ok 0) (λ (n : ℕ). []) u w es e
contents_local (h ∷ hs) u w es e =
    let a = bind_ok (entry_at h u) (λ first. contents_at hs first.1 >>= λ others. Ok (first.0 ∷ others.0, others.1)) (es, w) e in
    let b = bind_ok (contents_at hs a.0.1) (λ others. Ok (a.0.0 ∷ others.0, others.1)) (es, w) a.2 in
    then_local (entry_at h) (λ first. contents_at hs first.1 >>= λ others. Ok (first.0 ∷ others.0, others.1)) u a.0.1 w a.0.0 es (entry_local h u a.0.1 a.0.0 a.1)
    (then_local (contents_at hs) (λ others. Ok (a.0.0 ∷ others.0, others.1)) a.0.1 b.0.1 w b.0.0 es (contents_local hs a.0.1 b.0.1 b.0.0 b.1)
    (known_local (Ok 0) (λ (n : ℕ). a.0.0 ∷ b.0.0) b.0.1 w es b.2))

pub body_local : (u w : Unread) (x : Body) → body_at u ≡ Ok (x, w) → Local body_at u x w
unfolding body_at
body_local u w x e =
    let a = bind_ok (word_at u) (λ first. word_at first.1 >>= λ count. heads_at count.0 count.1 >>= λ heads. contents_at heads.0 heads.1 >>= λ entries. Ok (record { first = first.0; entries = entries.0; header = heads.1.at }, entries.1)) (x, w) e in
    let b = bind_ok (word_at a.0.1) (λ count. heads_at count.0 count.1 >>= λ heads. contents_at heads.0 heads.1 >>= λ entries. Ok (record { first = a.0.0; entries = entries.0; header = heads.1.at }, entries.1)) (x, w) a.2 in
    let c = bind_ok (heads_at b.0.0 b.0.1) (λ heads. contents_at heads.0 heads.1 >>= λ entries. Ok (record { first = a.0.0; entries = entries.0; header = heads.1.at }, entries.1)) (x, w) b.2 in
    let d = bind_ok (contents_at c.0.0 c.0.1) (λ entries. Ok (record { first = a.0.0; entries = entries.0; header = c.0.1.at }, entries.1)) (x, w) c.2 in
    then_local word_at (λ first. word_at first.1 >>= λ count. heads_at count.0 count.1 >>= λ heads. contents_at heads.0 heads.1 >>= λ entries. Ok (record { first = first.0; entries = entries.0; header = heads.1.at }, entries.1)) u a.0.1 w a.0.0 x (word_local u a.0.1 a.0.0 a.1)
    (then_local word_at (λ count. heads_at count.0 count.1 >>= λ heads. contents_at heads.0 heads.1 >>= λ entries. Ok (record { first = a.0.0; entries = entries.0; header = heads.1.at }, entries.1)) a.0.1 b.0.1 w b.0.0 x (word_local a.0.1 b.0.1 b.0.0 b.1)
    (then_local (heads_at b.0.0) (λ heads. contents_at heads.0 heads.1 >>= λ entries. Ok (record { first = a.0.0; entries = entries.0; header = heads.1.at }, entries.1)) b.0.1 c.0.1 w c.0.0 x (heads_local b.0.0 b.0.1 c.0.1 c.0.0 c.1)
    (at_local (λ at left. contents_at c.0.0 left >>= λ entries. Ok (record { first = a.0.0; entries = entries.0; header = at }, entries.1)) c.0.1 w x
    (then_local (contents_at c.0.0) (λ entries. Ok (record { first = a.0.0; entries = entries.0; header = c.0.1.at }, entries.1)) c.0.1 d.0.1 w d.0.0 x (contents_local c.0.0 c.0.1 d.0.1 d.0.0 d.1)
    (known_local (Ok 0) (λ (n : ℕ). record { first = a.0.0; entries = d.0.0; header = c.0.1.at }) d.0.1 w x d.2)))))

-- the header lies in front of the end
pub header_first : (u w : Unread) (x : Body) → body_at u ≡ Ok (x, w) → x.header ≤ w.at
unfolding body_at
header_first u w x e =
    let a = bind_ok (word_at u) (λ first. word_at first.1 >>= λ count. heads_at count.0 count.1 >>= λ heads. contents_at heads.0 heads.1 >>= λ entries. Ok (record { first = first.0; entries = entries.0; header = heads.1.at }, entries.1)) (x, w) e in
    let b = bind_ok (word_at a.0.1) (λ count. heads_at count.0 count.1 >>= λ heads. contents_at heads.0 heads.1 >>= λ entries. Ok (record { first = a.0.0; entries = entries.0; header = heads.1.at }, entries.1)) (x, w) a.2 in
    let c = bind_ok (heads_at b.0.0 b.0.1) (λ heads. contents_at heads.0 heads.1 >>= λ entries. Ok (record { first = a.0.0; entries = entries.0; header = heads.1.at }, entries.1)) (x, w) b.2 in
    let d = bind_ok (contents_at c.0.0 c.0.1) (λ entries. Ok (record { first = a.0.0; entries = entries.0; header = c.0.1.at }, entries.1)) (x, w) c.2 in
    let made : Body × Unread = (record { first = a.0.0; entries = d.0.0; header = c.0.1.at }, d.0.1) in
    let is : made ≡ (x, w) = ok_is made (x, w) d.2 in
    let l = contents_local c.0.0 c.0.1 d.0.1 d.0.0 d.1 in
    let on : d.0.1.at ≡ c.0.1.at + l.n = ap (λ (s : Unread). s.at) l.is in
    subst (λ (z : Body × Unread). z.0.header ≤ z.1.at) is (omega arith)

-- and the end lies within the bytes
pub body_ends : (u w : Unread) (x : Body) → body_at u ≡ Ok (x, w) → w.at ≤ u.at + length u.bytes
body_ends u w x e =
    let l = body_local u w x e in
    let on : w.at ≡ u.at + l.n = ap (λ (s : Unread). s.at) l.is in
    omega (arith, l.within)
