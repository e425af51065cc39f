-- What is written is read.
use Rattle.std.proofs.Common.{◌≡◌, ℕ, suc, ◌+◌, ◌^◌, ◌<◌, true, List, ◌++◌, length, refl, ap, ◌∙◌, arith, length-append}
use Rattle.std.specs.Prelude.{◌&&◌, ◌==◌}
use Rattle.std.specs.Str.{bytes_eq}
use Rattle.std.proofs.lemmas.Bool.{cond-true}
use Rattle.std.proofs.lemmas.Slice.Eq.{bytes_eq-Decides}
use Rattle.byteorder.specs.Numbers.{little_number-reads_back}
use Rattle.wire_words.specs.Items.{word}
use Rattle.store_format.specs.Sums.{word_sum_of, sum_bytes}
use Rattle.store_format.specs.Words.{word_from, is_known, front_bytes}
use Rattle.store_format.specs.Metadata.{fits_side, is_block, meta_in}
use Rattle.store_format.specs.Written.{MetadataReadsBack}

pub word_sum_long : (bytes : List ℕ) → length (word_sum_of bytes) ≡ 8
unfolding word_sum_of
word_sum_long bytes = refl

pub bytes_same : (x : List ℕ) → bytes_eq x x ≡ true
bytes_same x = (bytes_eq-Decides x x).1 refl

module _ (a b c : ℕ) (fa : a < 2 ^ 64) (fb : b < 2 ^ 64) (fc : c < 2 ^ 64) (s : List ℕ) where
  abbrev file : List ℕ
  file = (word 3 ++ (word a ++ (word b ++ word c))) ++ s

  pub first_word : word_from 0 file ≡ 3
  first_word = little_number-reads_back 8 3 ((word a ++ (word b ++ word c)) ++ s) (omega arith)

  pub second_word : word_from 8 file ≡ a
  second_word = little_number-reads_back 8 a ((word b ++ word c) ++ s) fa

  pub third_word : word_from 16 file ≡ b
  third_word = little_number-reads_back 8 b (word c ++ s) fb

  pub fourth_word : word_from 24 file ≡ c
  fourth_word = little_number-reads_back 8 c s fc

pub metadata_reads_back : MetadataReadsBack
unfolding front_bytes meta_in is_block
metadata_reads_back m fv ft fo first fits =
    let front = word 3 ++ (word m.version ++ (word m.term ++ word m.vote)) in
    let s = word_sum_of front in
    let len : length (front ++ s) ≡ 40 = length-append front s ∙ ap (λ (n : ℕ). 32 + n) (word_sum_long front) in
    let w0 = first_word m.version m.term m.vote fv ft fo s in
    let w8 = second_word m.version m.term m.vote fv ft fo s in
    let w16 = third_word m.version m.term m.vote fv ft fo s in
    let w24 = fourth_word m.version m.term m.vote fv ft fo s in
    let whole : is_block first (front ++ s) ≡ true =
    (λ i. (len i == 40) && is_known (w0 i) && fits_side first (w8 i) && bytes_eq s (sum_bytes (w0 i) front))
    ∙ (λ i. fits i && bytes_eq s s) ∙ bytes_same s in
    (len, cond-true _ _ _ whole ∙ (λ i. record { stamp = suc (w8 i); term = w16 i; vote = w24 i }))
