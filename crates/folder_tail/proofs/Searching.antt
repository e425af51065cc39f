-- The search for a batch, word by word.
use Rattle.std.proofs.Common.{◌≡◌, inl, inr, ℕ, suc, ◌+◌, ◌-◌, ◌*◌, ◌/◌, ◌<◌, ◌≤◌, Bool, true, false, cond, List, [], length, drop, Option, Some, None, sym, ap, ◌∙◌, arith, length-drop}
use Rattle.std.specs.Prelude.{nat_lt, ◌==◌, min}
use Rattle.std.proofs.Math.ListN.{drop_of_length-le}
use Rattle.std.proofs.lemmas.Bool.{cases_lt, cond-true, lt-ltb}
use Rattle.store_laws.specs.Store.{Read}
use Rattle.store_format.specs.Batches.{batch_in, sums_size, no_read, read_of, body_at}
use Rattle.wire_words.specs.Reading.{unread}
use Rattle.folder_tail.specs.declared.heads.BatchHead.{BatchHead}
use Rattle.folder_tail.specs.Heads.{head_in}
use Rattle.folder_tail.specs.Search.{continues_at, LaterFrom, passed_over, Later}
use Rattle.folder_tail.proofs.HeadReads.{no_batch}

sums_some : (b : Bool) → 0 < cond b 4 8 + cond b 4 8
sums_some true = omega arith
sums_some false = omega arith

-- no batch reads past the end
none_past : (format : ℕ) (bytes : List ℕ) (place : ℕ) → length bytes ≤ place → (batch_in format (drop place bytes)).size ≡ 0
unfolding batch_in
none_past format bytes place h =
    let empty : List ℕ = [] in
    let some : 0 < sums_size format = sums_some (format == 1) in
    ap (λ (xs : List ℕ). (batch_in format xs).size) (drop_of_length-le bytes h)
    ∙ ap (λ (r : Read). r.size) (cond-true (nat_lt (length empty) (sums_size format)) no_read (read_of format empty (body_at (unread (drop (sums_size format) empty)))) (lt-ltb (length empty) (sums_size format) some))

pub past_end : (format next at : ℕ) (bytes : List ℕ) (place : ℕ) → length bytes ≤ place → continues_at format next at bytes place ≡ false
past_end format next at bytes place h = no_batch format next ((place - at) / 16) (drop place bytes) (none_past format bytes place h)

-- up to a place nothing was found
pub record Came (format next at from : ℕ) (bytes : List ℕ) (place : ℕ) : Type 0 where
  pub words : ℕ
  pub is : place ≡ from + 8 * words
  pub before : (k : ℕ) → k < words → continues_at format next at bytes (from + 8 * k) ≡ false

pub came_none : (format next at from : ℕ) (bytes : List ℕ) → Came format next at from bytes from
came_none format next at from bytes = record { words = 0; is = omega arith; before = λ k l. absurd (omega (arith, l)) }

pub came_more : (format next at from : ℕ) (bytes : List ℕ) (place : ℕ) → Came format next at from bytes place →
    continues_at format next at bytes place ≡ false → Came format next at from bytes (place + 8)
came_more format next at from bytes place c none = record {
  words = suc c.words;
  is = let e : place ≡ from + 8 * c.words = c.is in omega (arith, e);
  before = λ k l. elim (cases_lt k c.words) [
    | inl less ↦ c.before k less
    | inr more ↦
        let same : k ≡ c.words = omega (arith, more, l) in
        ap (λ (n : ℕ). continues_at format next at bytes (from + 8 * n)) same ∙ ap (continues_at format next at bytes) (sym c.is) ∙ none
  ];
}

pub came_found : (format next at from : ℕ) (bytes : List ℕ) (place : ℕ) → Came format next at from bytes place →
    continues_at format next at bytes place ≡ true → LaterFrom format next at from bytes (Some place)
came_found format next at from bytes place c is = (c.words, (c.is, is))

pub came_all : (format next at from : ℕ) (bytes : List ℕ) (place : ℕ) → Came format next at from bytes place → length bytes ≤ place →
    LaterFrom format next at from bytes None
came_all format next at from bytes place c end = λ k. elim (cases_lt k c.words) [
  | inl less ↦ c.before k less
  | inr more ↦
      let e : place ≡ from + 8 * c.words = c.is in
      past_end format next at bytes (from + 8 * k) (omega (arith, more, e, end))
]

-- nothing is left to search
pub all_passed : (format next at from : ℕ) (bytes : List ℕ) → length bytes ≤ from → LaterFrom format next at from bytes None
all_passed format next at from bytes end = λ k. past_end format next at bytes (from + 8 * k) (omega (arith, end))

pub nothing_left : (format next at : ℕ) (bytes rest : List ℕ) (head : Option BatchHead) (size : ℕ) → at ≤ length bytes → rest ≡ drop at bytes →
    head ≡ head_in format rest → size ≡ min (passed_over format head) 18446744073709551615 → length rest ≤ size → Later format next at bytes None
nothing_left format next at bytes rest head size within is head_is size_is end =
    let long : length rest ≡ length bytes - at = ap length is ∙ length-drop at bytes in
    let over : passed_over format head ≡ passed_over format (head_in format (drop at bytes)) = ap (passed_over format) (head_is ∙ ap (head_in format) is) in
    all_passed format next at (at + passed_over format (head_in format (drop at bytes))) bytes (omega (arith, within, long, over, size_is, end))
