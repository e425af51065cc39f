-- A snapshot that is written is read.
use Rattle.std.proofs.Common.{◌≡◌, ℕ, ◌+◌, true, List, [], ◌++◌, length, take, drop, refl, sym, ap, ◌∙◌, arith, append_assoc, length-append}
use Rattle.std.specs.Prelude.{◌&&◌, ◌==◌, nat_le, nat_lt}
use Rattle.std.specs.List.{list_all}
use Rattle.std.specs.Str.{bytes_eq}
use Rattle.std.proofs.lemmas.Bool.{cond-true, le-leb, lt-ltb, eq-eqb}
use Rattle.std.proofs.lemmas.List.{append-nil, length-replicate, take_at, drop_at, drop-append-le, length-drop}
use Rattle.wire_words.specs.Items.{word, raw, gap, zeros_after, is_zero}
use Rattle.wire_words.proofs.Padding.{all_zeros}
use Rattle.store_format.specs.Sums.{word_sum_of, sum_bytes}
use Rattle.store_format.specs.Words.{is_known, front_bytes}
use Rattle.store_format.specs.Snapshots.{fills, head_fits, is_snapshot, snap_of, with_head}
use Rattle.store_format.specs.Written.{SnapshotReadsBack}
use Rattle.store_format.proofs.Written.{word_sum_long, bytes_same, first_word, second_word, third_word, fourth_word}

-- bytes and zeros to a whole word fill the rest of a file
fills_raw : (bytes : List ℕ) → fills (length bytes) (raw bytes) ≡ true
fills_raw bytes =
    let n = length bytes in
    let many : length (raw bytes) ≡ n + gap n = length-append bytes (zeros_after n) ∙ ap (λ (k : ℕ). n + k) (length-replicate (gap n) 0) in
    let zeros : take (gap n) (drop n (raw bytes)) ≡ zeros_after n = ap (take (gap n)) (drop_at bytes (zeros_after n) n refl) ∙ ap (take (gap n)) (sym (append-nil (zeros_after n))) ∙ take_at (zeros_after n) [] (gap n) (length-replicate (gap n) 0) in
    (λ i. (many i == n + gap n) && list_all is_zero (zeros i)) ∙ (λ i. eq-eqb (n + gap n) (n + gap n) refl i && all_zeros (gap n) i)

module _ (front s bytes : List ℕ) (len : length front ≡ 32) (sum_len : length s ≡ 8) where
  abbrev file : List ℕ
  file = front ++ (s ++ raw bytes)

  body_is : drop 40 file ≡ raw bytes
  body_is =
      ap (drop 40) (sym (append_assoc front s (raw bytes)))
      ∙ drop_at (front ++ s) (raw bytes) 40 (length-append front s ∙ (λ i. len i + sum_len i))

  sum_is : take 8 (drop 32 file) ≡ s
  sum_is = ap (take 8) (drop_at front (s ++ raw bytes) 32 len) ∙ take_at s (raw bytes) 8 sum_len

  numbers_are : take 24 (drop 8 file) ≡ drop 8 front
  numbers_are =
      ap (take 24) (drop-append-le 8 front (s ++ raw bytes) (omega (arith, len)))
      ∙ take_at (drop 8 front) (s ++ raw bytes) 24 (length-drop 8 front ∙ omega (arith, len))

  long : nat_le 40 (length file) ≡ true
  long = le-leb _ _ (omega (arith, length-append front (s ++ raw bytes), length-append s (raw bytes), len, sum_len))

content_is : (bytes : List ℕ) → take (length bytes) (raw bytes) ≡ bytes
content_is bytes = take_at bytes (zeros_after (length bytes)) (length bytes) refl

-- the file in one piece
file_is : (front bytes : List ℕ) → length front ≡ 32 → with_head front bytes ≡ front ++ (word_sum_of (drop 8 front ++ bytes) ++ raw bytes)
file_is front bytes len =
    let s = word_sum_of (drop 8 front ++ bytes) in
    let head : raw front ≡ front = ap (λ (n : ℕ). front ++ zeros_after n) len ∙ append-nil front in
    let sum : raw s ≡ s = ap (λ (n : ℕ). s ++ zeros_after n) (word_sum_long (drop 8 front ++ bytes)) ∙ append-nil s in
    (λ i. (head i ++ sum i) ++ raw bytes) ∙ append_assoc front s (raw bytes)

pub snapshot_reads_back : SnapshotReadsBack
unfolding front_bytes snap_of is_snapshot head_fits
snapshot_reads_back index term bytes some fi ft fb =
    let front = word 3 ++ (word index ++ (word term ++ word (length bytes))) in
    let s = word_sum_of (drop 8 front ++ bytes) in
    let len : length front ≡ 32 = refl in
    let sum_len : length s ≡ 8 = word_sum_long (drop 8 front ++ bytes) in
    let rest = s ++ raw bytes in
    let w0 = first_word index term (length bytes) fi ft fb rest in
    let w8 = second_word index term (length bytes) fi ft fb rest in
    let w16 = third_word index term (length bytes) fi ft fb rest in
    let w24 = fourth_word index term (length bytes) fi ft fb rest in
    let body = body_is front s bytes len sum_len in
    let sum = sum_is front s bytes len sum_len in
    let numbers = numbers_are front s bytes len sum_len in
    let size = long front s bytes len sum_len in
    let whole : is_snapshot index (front ++ rest) ≡ true =
    (λ i. (size i && nat_lt 0 index && is_known (w0 i) && (w8 i == index)) && fills (w24 i) (body i) && bytes_eq (sum i) (sum_bytes (w0 i) (numbers i ++ take (w24 i) (body i))))
    ∙ (λ i. (true && lt-ltb 0 index some i && true && eq-eqb index index refl i) && fills_raw bytes i && bytes_eq s (word_sum_of (drop 8 front ++ content_is bytes i)))
    ∙ bytes_same s in
    let reads : snap_of index (front ++ rest) ≡ record { index = index; term = term; bytes = bytes } =
    cond-true _ _ _ whole ∙ (λ i. record { index = index; term = w16 i; bytes = take (w24 i) (body i) }) ∙ (λ i. record { index = index; term = term; bytes = content_is bytes i }) in
    ap (snap_of index) (file_is front bytes len) ∙ reads
