-- A batch that is written is read.
use Rattle.std.proofs.Common.{◌≡◌, ℕ, ◌+◌, ◌-◌, true, List, [], ◌++◌, length, take, drop, Ok, refl, sym, ap, subst, ◌∙◌, arith, append_assoc, length-append}
use Rattle.std.specs.Prelude.{◌&&◌, nat_lt}
use Rattle.std.specs.Str.{bytes_eq}
use Rattle.std.proofs.lemmas.Bool.{cond-true, cond-false, le-ltb, lt-ltb}
use Rattle.std.proofs.lemmas.List.{append-nil, take_at, drop_at, take_all}
use Rattle.wire_words.specs.Items.{word}
use Rattle.wire_words.specs.Reading.{Unread, unread}
use Rattle.raft_messages.specs.Entries.{heads_at, heads_bytes, contents_bytes}
use Rattle.wire_words.proofs.Passing.{Passed, between, passed_first, passed_second, word_stood}
use Rattle.raft_messages.proofs.EntryLaws.{heads_of, heads_are, heads_fit, as_many, heads_stood, contents_stood}
use Rattle.store_laws.specs.Store.{Log, is_whole, torn}
use Rattle.store_format.specs.Sums.{word_sum_of}
use Rattle.store_format.specs.Words.{format_in}
use Rattle.store_format.proofs.Written.{word_sum_long, bytes_same}
use Rattle.store_format.specs.declared.batch_reading.Body.{Body}
use Rattle.store_format.specs.Batches.{body_at, is_sound, read_of, batch_in, numbers_bytes, header_bytes, batch_bytes}
use Rattle.store_format.specs.NodeFormat.{node_format}
use Rattle.store_format.specs.BatchesWritten.{segment_word, Fits, BatchesReadBack}

module _ (b : Log) (fits : Fits b) where
  abbrev h : List ℕ
  h = header_bytes b

  abbrev c : List ℕ
  c = contents_bytes b.entries

  abbrev mid : Unread
  mid = record { at = length h; bytes = c ++ [] }

  abbrev end : Unread
  end = record { at = length (h ++ c); bytes = [] }

  abbrev body : Body
  body = record { first = b.first; entries = b.entries; header = length h }

  header_passed : Passed h (unread (h ++ c)) mid
  header_passed = record { parts = ap (λ (x : List ℕ). h ++ x) (sym (append-nil c)); place = omega arith }

  contents_passed : Passed c mid end
  contents_passed = record { parts = refl; place = length-append h c }

  heads_read : (old : Unread) → Passed (heads_bytes b.entries) old mid → heads_at (length b.entries) old ≡ Ok (heads_of b.entries, mid)
  heads_read old p =
      subst (λ (n : ℕ). heads_at n old ≡ Ok (heads_of b.entries, mid)) (as_many b.entries)
      (heads_stood (heads_of b.entries) old mid (heads_fit b.entries fits.heads) (subst (λ (x : List ℕ). Passed x old mid) (sym (heads_are b.entries)) p))

  body_read : body_at (unread (h ++ c)) ≡ Ok (body, end)
  unfolding body_at header_bytes numbers_bytes
  body_read =
      let n = length b.entries in
      let hs = heads_bytes b.entries in
      let old = unread (h ++ c) in
      let p : Passed ((word b.first ++ word n) ++ hs) old mid = header_passed in
      let q = passed_first old mid (word b.first ++ word n) hs p in
      let after = between old (word b.first ++ word n) hs mid in
      let first = word_stood old (between old (word b.first) (word n) after) b.first fits.first (passed_first old after (word b.first) (word n) q) in
      let second = word_stood (between old (word b.first) (word n) after) after n fits.count (passed_second old after (word b.first) (word n) q) in
      let heads = heads_read after (passed_second old mid (word b.first ++ word n) hs p) in
      let contents = contents_stood b.entries mid end contents_passed in
      rw (first, second, heads, contents) refl

  abbrev s : List ℕ
  s = word_sum_of h

  abbrev t : List ℕ
  t = word_sum_of c

  abbrev file : List ℕ
  file = s ++ (t ++ (h ++ c))

  long : length file ≡ 16 + length (h ++ c)
  long = length-append s (t ++ (h ++ c)) ∙ (λ i. word_sum_long h i + (length-append t (h ++ c) i)) ∙ (λ i. 8 + (word_sum_long c i + length (h ++ c))) ∙ omega arith

  behind_sums : drop 16 file ≡ h ++ c
  behind_sums =
      ap (drop 16) (sym (append_assoc s t (h ++ c)))
      ∙ drop_at (s ++ t) (h ++ c) 16 (length-append s t ∙ (λ i. word_sum_long h i + word_sum_long c i))

  first_sum : take 8 file ≡ s
  first_sum = take_at s (t ++ (h ++ c)) 8 (word_sum_long h)

  second_sum : take 8 (drop 8 file) ≡ t
  second_sum = ap (take 8) (drop_at s (t ++ (h ++ c)) 8 (word_sum_long h)) ∙ take_at t (h ++ c) 8 (word_sum_long c)

  header_is : take (length h) (drop 16 file) ≡ h
  header_is = ap (take (length h)) behind_sums ∙ take_at h c (length h) refl

  contents_are : take (length (h ++ c) - length h) (drop (length h) (drop 16 file)) ≡ c
  contents_are =
      ap (λ (x : List ℕ). take (length (h ++ c) - length h) (drop (length h) x)) behind_sums
      ∙ ap (take (length (h ++ c) - length h)) (drop_at h c (length h) refl)
      ∙ take_all (length (h ++ c) - length h) c (omega (arith, length-append h c))

  sound : is_sound 3 file body (length (h ++ c)) ≡ true
  sound =
      (λ i. bytes_eq (first_sum i) (word_sum_of (header_is i)) && bytes_eq (second_sum i) (word_sum_of (contents_are i)) && nat_lt 0 b.first)
      ∙ (λ i. bytes_same s i && bytes_same t i && lt-ltb 0 b.first fits.some i)

  read_back : batch_in 3 file ≡ record { batch = b; size = length file }
  unfolding batch_in
  read_back =
      cond-false _ _ _ (le-ltb (length file) 16 (omega (arith, long)))
      ∙ ap (λ (x : List ℕ). read_of 3 file (body_at (unread x))) behind_sums
      ∙ ap (read_of 3 file) body_read
      ∙ cond-true _ _ _ sound
      ∙ (λ i. record { batch = b; size = sym long i })

word_version : format_in segment_word ≡ 3
unfolding format_in
word_version = refl

none_in_nothing : (batch_in 3 []).size ≡ 0
unfolding batch_in
none_in_nothing = refl

word_whole : is_whole node_format segment_word ≡ true
unfolding is_whole format_in torn batch_in
word_whole = refl

pub batches_read_back : BatchesReadBack
unfolding batch_bytes
batches_read_back b fits = record {
  batch = ap (λ (v : ℕ). batch_in v (file b fits)) word_version ∙ read_back b fits;
  some = omega (arith, long b fits);
  word_size = refl;
  word_whole = word_whole;
}
