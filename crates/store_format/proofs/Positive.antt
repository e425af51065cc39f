-- The log of a node's files begins at 1 or later.
use Rattle.std.proofs.Common.{◌≡◌, ◌≢◌, inl, inr, ℕ, zero, suc, ◌<◌, ◌+◌, ◌-◌, Bool, true, false, cond, List, [], ◌∷◌, ◌++◌, length, take, drop, Result, Ok, Err, refl, sym, ap, ◌∙◌, subst, arith}
use Rattle.std.specs.Prelude.{◌&&◌, nat_lt, nat_le}
use Rattle.std.specs.Str.{bytes_eq}
use Rattle.std.proofs.lemmas.Bool.{cases_Bool, cases_eq, cond-true, cond-false, and_parts, ltb-true}
use Rattle.wire_words.specs.declared.fault.WordFault.{WordFault}
use Rattle.wire_words.specs.Reading.{Unread, unread}
use Rattle.raft_spec.specs.Log.{Entry}
use Rattle.store_laws.specs.Names.{NodeFiles}
use Rattle.store_laws.specs.Store.{Read, Log, empty_log, put_batch, log_of, batches, batches_in, all_batches, opens, reader, segments}
use Rattle.store_laws.specs.Settled.{file_log}
use Rattle.store_laws.proofs.Fronts.{stop_batches, not_zero}
use Rattle.store_format.specs.declared.batch_reading.Body.{Body}
use Rattle.store_format.specs.Batches.{body_at, sum_size, sums_size, batch_sum, is_sound, no_read, read_of, batch_in}
use Rattle.store_format.specs.NodeFormat.{node_format}

-- a batch that reads begins at 1 or later
read_first : (format : ℕ) (bytes : List ℕ) (x : Result (Body × Unread) WordFault) → (read_of format bytes x).size ≢ 0 → 0 < (read_of format bytes x).batch.first
read_first format bytes (Err fault) ne = absurd (ne refl)
read_first format bytes (Ok x) ne = elim (cases_Bool (is_sound format bytes x.0 x.1.at)) [
  | inr n ↦ absurd (ne (ap (λ (r : Read). r.size) (cond-false _ (record { batch = record { first = x.0.first; entries = x.0.entries }; size = sums_size format + x.1.at }) no_read n)))
  | inl t ↦
      let is : read_of format bytes (Ok x) ≡ record { batch = record { first = x.0.first; entries = x.0.entries }; size = sums_size format + x.1.at } = cond-true _ _ no_read t in
      let first = bytes_eq (take (sum_size format) bytes) (batch_sum format (take x.0.header (drop (sums_size format) bytes))) in
      let second = bytes_eq (take (sum_size format) (drop (sum_size format) bytes)) (batch_sum format (take (x.1.at - x.0.header) (drop x.0.header (drop (sums_size format) bytes)))) in
      let some : 0 < x.0.first = ltb-true _ _ (and_parts (first && second) (nat_lt 0 x.0.first) t).1 in
      subst (λ (r : Read). 0 < r.batch.first) (sym is) some
]

batch_first : (format : ℕ) (bytes : List ℕ) → (batch_in format bytes).size ≢ 0 → 0 < (batch_in format bytes).batch.first
unfolding batch_in
batch_first format bytes ne = elim (cases_Bool (nat_lt (length bytes) (sums_size format))) [
  | inl t ↦ absurd (ne (ap (λ (r : Read). r.size) (cond-true _ no_read (read_of format bytes (body_at (unread (drop (sums_size format) bytes)))) t)))
  | inr n ↦
      let is = cond-false (nat_lt (length bytes) (sums_size format)) no_read (read_of format bytes (body_at (unread (drop (sums_size format) bytes)))) n in
      subst (λ (r : Read). 0 < r.batch.first) (sym is) (read_first format bytes (body_at (unread (drop (sums_size format) bytes))) (λ z. ne (ap (λ (r : Read). r.size) is ∙ z)))
]

-- all of a list begin so
abbrev AllFrom1 : List Log → Type 0
AllFrom1 [] = Unit {0}
AllFrom1 (b ∷ bs) = (0 < b.first) × AllFrom1 bs

all_append : (xs ys : List Log) → AllFrom1 xs → AllFrom1 ys → AllFrom1 (xs ++ ys)
all_append [] ys a b = b
all_append (x ∷ xs) ys a b = (a.0, all_append xs ys a.1 b)

batches_first : (format n : ℕ) (bytes : List ℕ) → AllFrom1 (batches (batch_in format) n bytes)
unfolding batches
batches_first format zero bytes = tt
batches_first format (suc n) bytes = elim (cases_eq (batch_in format bytes).size 0) [
  | inl z ↦ subst AllFrom1 (sym (stop_batches (batch_in format) (suc n) bytes z)) tt
  | inr ne ↦
      subst AllFrom1 (sym (cond-false _ [] ((batch_in format bytes).batch ∷ batches (batch_in format) n (drop (batch_in format bytes).size bytes)) (not_zero _ ne)))
      (batch_first format bytes ne, batches_first format n (drop (batch_in format bytes).size bytes))
]

segment_first : (bytes : List ℕ) → AllFrom1 (batches_in node_format bytes)
unfolding batches_in
segment_first bytes = elim (cases_Bool (opens node_format bytes)) [
  | inl t ↦ subst AllFrom1 (sym (cond-true _ (batches (reader node_format bytes) (length bytes) (drop 8 bytes)) [] t)) (batches_first (node_format.version bytes) (length bytes) (drop 8 bytes))
  | inr n ↦ subst AllFrom1 (sym (cond-false _ (batches (reader node_format bytes) (length bytes) (drop 8 bytes)) [] n)) tt
]

all_first : (xs : List (List ℕ)) → AllFrom1 (all_batches node_format xs)
unfolding all_batches
all_first [] = tt
all_first (x ∷ xs) = all_append (batches_in node_format x) (all_batches node_format xs) (segment_first x) (all_first xs)

put_first : (l b : Log) → 0 < l.first → 0 < b.first → 0 < (put_batch l b).first
unfolding put_batch
put_first l b p q = which (take (b.first - l.first) l.entries ++ b.entries) (nat_le l.first b.first && nat_le b.first (l.first + length l.entries))
  where
    which : (es : List Entry) → (t : Bool) → 0 < (cond t (record { first = l.first; entries = es }) b).first
    which es true = p
    which es false = q

log_first : (l : Log) (bs : List Log) → 0 < l.first → AllFrom1 bs → 0 < (log_of l bs).first
unfolding log_of
log_first l [] p all = p
log_first l (b ∷ bs) p all = log_first (put_batch l b) bs (put_first l b p all.0) all.1

pub log_begins : (top : ℕ) (g : NodeFiles) → 0 < (file_log node_format top g).first
log_begins top g = log_first empty_log (all_batches node_format (segments top g)) (omega arith) (all_first (segments top g))
