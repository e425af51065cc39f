-- A batch that reads has a head that is whole.
use Rattle.std.proofs.Common.{◌≡◌, ◌≢◌, inl, inr, ℕ, zero, suc, ◌+◌, ◌-◌, ◌<◌, ◌≤◌, Bool, true, false, List, length, take, drop, Option, Some, None, Result, Ok, Err, refl, sym, ap, ◌∙◌, arith}
use Rattle.std.specs.Prelude.{◌&&◌, nat_lt, nat_le, MatchOption, is_some}
use Rattle.std.specs.Str.{bytes_eq}
use Rattle.std.proofs.lemmas.Bool.{cases_Bool, cond-true, cond-false, and_parts, lt-ltb, ltb-true, le-leb, leb-true}
use Rattle.wire_words.specs.declared.fault.WordFault.{WordFault}
use Rattle.wire_words.specs.Reading.{Unread, unread}
use Rattle.store_laws.specs.Store.{Read}
use Rattle.store_format.specs.declared.batch_reading.Body.{Body}
use Rattle.store_format.specs.declared.batch_reading.FoundBatch.{FoundBatch}
use Rattle.store_format.specs.Batches.{body_at, sum_size, sums_size, batch_sum, is_sound, no_read, read_of, batch_in, read_of_found}
use Rattle.folder_tail.specs.declared.heads.BatchHead.{BatchHead}
use Rattle.folder_tail.specs.Heads.{batch_head_at, has_head_sum, head_of, head_in}
use Rattle.folder_tail.specs.Search.{continues}
use Rattle.folder_tail.proofs.HeadEnds.{body_head}

-- the head of a batch, with its first index
pub record HasHead (head : Option BatchHead) (first : ℕ) : Type 0 where
  pub whole : BatchHead
  pub is : head ≡ Some whole
  pub first_is : whole.first ≡ first

body_reads : (format : ℕ) (bytes : List ℕ) (u : Unread) (x : Result (Body × Unread) WordFault) → body_at u ≡ x → (read_of format bytes x).size ≢ 0 →
    HasHead (head_of format bytes (batch_head_at u)) (read_of format bytes x).batch.first
body_reads format bytes u (Err fault) e ne = absurd (ne refl)
body_reads format bytes u (Ok x) e ne = elim (cases_Bool (is_sound format bytes x.0 x.1.at)) [
  | inr n ↦ absurd (ne (ap (λ (r : Read). r.size) (cond-false _ (record { batch = record { first = x.0.first; entries = x.0.entries }; size = sums_size format + x.1.at }) no_read n)))
  | inl t ↦
      let is : read_of format bytes (Ok x) ≡ record { batch = record { first = x.0.first; entries = x.0.entries }; size = sums_size format + x.1.at } = cond-true _ _ no_read t in
      let first = bytes_eq (take (sum_size format) bytes) (batch_sum format (take x.0.header (drop (sums_size format) bytes))) in
      let second = bytes_eq (take (sum_size format) (drop (sum_size format) bytes)) (batch_sum format (take (x.1.at - x.0.header) (drop x.0.header (drop (sums_size format) bytes)))) in
      let both = and_parts (first && second) (nat_lt 0 x.0.first) t in
      let one : has_head_sum format bytes x.0.header ≡ true = (and_parts first second both.0).0 in
      let h = body_head u x.1 x.0 e in
      let same : has_head_sum format bytes h.head.header ≡ true = ap (has_head_sum format bytes) h.header ∙ one in
      record {
        whole = h.head;
        is = ap (head_of format bytes) h.reads ∙ cond-true _ (Some h.head) None same;
        first_is = h.first ∙ ap (λ (r : Read). r.batch.first) (sym is);
      }
]

batch_head : (format : ℕ) (bytes : List ℕ) → (batch_in format bytes).size ≢ 0 → HasHead (head_in format bytes) (batch_in format bytes).batch.first
unfolding batch_in head_in
batch_head format bytes ne = elim (cases_Bool (nat_lt (length bytes) (sums_size format))) [
  | inl t ↦ absurd (ne (ap (λ (r : Read). r.size) (cond-true _ no_read (read_of format bytes (body_at (unread (drop (sums_size format) bytes)))) t)))
  | inr n ↦
      let u = unread (drop (sums_size format) bytes) in
      let is = cond-false (nat_lt (length bytes) (sums_size format)) no_read (read_of format bytes (body_at u)) n in
      let h = body_reads format bytes u (body_at u) refl (λ z. ne (ap (λ (r : Read). r.size) is ∙ z)) in
      record {
        whole = h.whole;
        is = cond-false (nat_lt (length bytes) (sums_size format)) None (head_of format bytes (batch_head_at u)) n ∙ h.is;
        first_is = h.first_is ∙ ap (λ (r : Read). r.batch.first) (sym is);
      }
]

-- ---- whether a batch continues the log, by its head

no_size : (n : ℕ) (b : Bool) → (n ≢ 0 → b ≡ false) → (nat_lt 0 n && b) ≡ false
no_size zero b h = elim (cases_Bool (nat_lt 0 0)) [
  | inl t ↦ absurd (omega (arith, ltb-true 0 0 t))
  | inr f ↦ ap (λ (x : Bool). x && b) f
]
no_size (suc n) b h = ap (λ (x : Bool). x && b) (lt-ltb 0 (suc n) (omega arith)) ∙ h (λ q. absurd (omega (arith, q)))

-- no head is whole
pub no_head : (format next lost : ℕ) (bytes : List ℕ) → head_in format bytes ≡ None → continues format next lost bytes ≡ false
unfolding continues
no_head format next lost bytes e = no_size (batch_in format bytes).size _ (λ ne.
    let h = batch_head format bytes ne in
    let z : None ≡ Some h.whole = sym e ∙ h.is in
    absurd cc)

some_is : (a b : BatchHead) → Some a ≡ Some b → a ≡ b
some_is a b q = cc

-- the first index is too far
pub too_far : (format next lost : ℕ) (bytes : List ℕ) (head : BatchHead) → head_in format bytes ≡ Some head → lost < head.first - next →
    continues format next lost bytes ≡ false
unfolding continues
too_far format next lost bytes head e far = no_size (batch_in format bytes).size _ (λ ne.
    let h = batch_head format bytes ne in
    let same : head.first ≡ (batch_in format bytes).batch.first = ap (λ (x : BatchHead). x.first) (some_is head h.whole (sym e ∙ h.is)) ∙ h.first_is in
    not_le _ lost (λ le. absurd (omega (arith, le, far, same))))
  where
    not_le : (a b : ℕ) → (a ≤ b → ⊥) → nat_le a b ≡ false
    not_le a b h = elim (cases_Bool (nat_le a b)) [
      | inl t ↦ absurd (h (leb-true a b t))
      | inr f ↦ f
    ]

and_true : (b : Bool) → (b && true) ≡ b
and_true true = refl
and_true false = refl

and_size : (n : ℕ) (b : Bool) → (n ≢ 0 → b ≡ true) → (nat_lt 0 n && b) ≡ nat_lt 0 n
and_size zero b h = elim (cases_Bool (nat_lt 0 0)) [
  | inl t ↦ absurd (omega (arith, ltb-true 0 0 t))
  | inr f ↦ ap (λ (x : Bool). x && b) f ∙ sym f
]
and_size (suc n) b h = ap (λ (x : Bool). nat_lt 0 (suc n) && x) (h (λ q. absurd (omega (arith, q)))) ∙ and_true (nat_lt 0 (suc n))

-- the head of a batch whose first index isn't too far
pub near : (format next lost : ℕ) (bytes : List ℕ) (head : BatchHead) (found : Bool) → head_in format bytes ≡ Some head → head.first - next ≤ lost →
    found ≡ nat_lt 0 (batch_in format bytes).size → found ≡ continues format next lost bytes
unfolding continues
near format next lost bytes head found e low is = is ∙ sym (and_size (batch_in format bytes).size _ (λ ne.
    let h = batch_head format bytes ne in
    let same : head.first ≡ (batch_in format bytes).batch.first = ap (λ (x : BatchHead). x.first) (some_is head h.whole (sym e ∙ h.is)) ∙ h.first_is in
    le-leb ((batch_in format bytes).batch.first - next) lost (omega (arith, same, low))))

-- whether one reads
pub some_batch : (format : ℕ) (bytes : List ℕ) (found : Option FoundBatch) (b : Bool) → read_of_found found ≡ batch_in format bytes →
    MatchOption found (Unit {0}) (λ x. 0 < x.size) → b ≡ is_some found → b ≡ nat_lt 0 (batch_in format bytes).size
some_batch format bytes None b is some e =
    let size : 0 ≡ (batch_in format bytes).size = ap (λ (r : Read). r.size) is in
    e ∙ elim (cases_Bool (nat_lt 0 (batch_in format bytes).size)) [
      | inl t ↦ absurd (omega (arith, size, ltb-true 0 (batch_in format bytes).size t))
      | inr f ↦ sym f
    ]
some_batch format bytes (Some batch) b is some e =
    let size : batch.size ≡ (batch_in format bytes).size = ap (λ (r : Read). r.size) is in
    e ∙ sym (lt-ltb 0 (batch_in format bytes).size (omega (arith, size, some)))

-- no batch reads
pub no_batch : (format next lost : ℕ) (bytes : List ℕ) → (batch_in format bytes).size ≡ 0 → continues format next lost bytes ≡ false
unfolding continues
no_batch format next lost bytes e = no_size (batch_in format bytes).size _ (λ ne. absurd (ne e))
