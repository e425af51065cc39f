-- Where the sums of a batch stand while it is written.
use Rattle.std.proofs.Common.{◌≡◌, ℕ, ◌+◌, ◌*◌, ◌-◌, ◌≤◌, ◌<◌, List, [], ◌∷◌, ◌++◌, length, take, drop, get_or, refl, sym, ap, ◌∙◌, arith, append_assoc, length-append, length-drop}
use Rattle.std.proofs.lemmas.List.{append-nil, take_at, drop_at, drop-append-le, take_all, drop_all, drop-drop, take_more, length-replicate}
use Rattle.wire_words.specs.Items.{word, raw, gap, zeros_after}
use Rattle.raft_spec.specs.Log.{Entry}
use Rattle.raft_messages.specs.Entries.{heads_bytes, contents_bytes}
use Rattle.store_laws.specs.Store.{Log}
use Rattle.store_format.specs.Sums.{word_sum_of}
use Rattle.store_format.specs.Batches.{numbers_bytes, header_bytes, with_sums, batch_bytes}

pub behind_room : (b : Log) (w : List ℕ) → length w ≡ 32 → drop 16 w ≡ numbers_bytes b.first (length b.entries)
    → drop 16 ((w ++ heads_bytes b.entries) ++ contents_bytes b.entries) ≡ header_bytes b ++ contents_bytes b.entries
unfolding header_bytes
behind_room b w len e =
    let h = heads_bytes b.entries in
    let c = contents_bytes b.entries in
    drop-append-le 16 (w ++ h) c (omega (arith, len, length-append w h))
    ∙ ap (λ (x : List ℕ). x ++ c) (drop-append-le 16 w h (omega (arith, len)) ∙ ap (λ (x : List ℕ). x ++ h) e)

-- two sums put at the front of bytes, one after the other
pub both_put : (k : ℕ) (a b s t old : List ℕ) → length s ≡ 8 → length a ≤ k + 8 → a ≡ s ++ drop 8 old → b ≡ t ++ drop 8 (take k (drop 8 a)) → take 8 a ++ (b ++ drop k (drop 8 a)) ≡ s ++ (t ++ drop 16 old)
both_put k a b s t old len h ea eb =
    let few : length (drop 8 a) ≤ k = omega (arith, length-drop 8 a) in
    let front : take 8 a ≡ s = ap (take 8) ea ∙ take_at s (drop 8 old) 8 len in
    let none : drop k (drop 8 a) ≡ [] = drop_all k (drop 8 a) few in
    let behind : drop 8 (take k (drop 8 a)) ≡ drop 16 old = ap (drop 8) (take_all k (drop 8 a) few ∙ ap (drop 8) ea ∙ drop_at s (drop 8 old) 8 len) ∙ drop-drop 8 8 old in
    (λ i. front i ++ (b ++ none i)) ∙ ap (λ (x : List ℕ). s ++ x) (append-nil b ∙ eb) ∙ ap (λ (x : List ℕ). s ++ (t ++ x)) behind

heads_long : (es : List Entry) → length (heads_bytes es) ≡ 16 * length es
heads_long [] = refl
heads_long (e ∷ es) = let rest = heads_long es in omega arith

pub header_long : (b : Log) → length (header_bytes b) ≡ 16 + 16 * length b.entries
unfolding header_bytes numbers_bytes
header_long b = length-append (word b.first ++ word (length b.entries)) (heads_bytes b.entries) ∙ ap (λ (n : ℕ). 16 + n) (heads_long b.entries)

pub has_room : (b : Log) (bytes : List ℕ) → drop 16 bytes ≡ header_bytes b ++ contents_bytes b.entries → 32 + 16 * length b.entries ≤ length bytes
has_room b bytes e =
    let all : length bytes - 16 ≡ length (header_bytes b ++ contents_bytes b.entries) = sym (length-drop 16 bytes) ∙ ap length e in
    omega (arith, all, length-append (header_bytes b) (contents_bytes b.entries), header_long b)

pub sums_are : (b : Log) (bytes : List ℕ) → drop 16 bytes ≡ header_bytes b ++ contents_bytes b.entries → with_sums (16 + 16 * length b.entries) (drop 16 bytes) ≡ batch_bytes b
unfolding with_sums batch_bytes
sums_are b bytes e =
    let h = header_bytes b in
    let c = contents_bytes b.entries in
    let n : 16 + 16 * length b.entries ≡ length h = sym (header_long b) in
    (λ i. word_sum_of (take (n i) (e i)) ++ (word_sum_of (drop (n i) (e i)) ++ e i))
    ∙ (λ i. word_sum_of (take_at h c (length h) refl i) ++ (word_sum_of (drop_at h c (length h) refl i) ++ (h ++ c)))

-- all of a list was written over
pub whole_back : (n : ℕ) (new old : List ℕ) → length new ≡ n → length new ≡ length old → take n (new ++ drop (length new) old) ≡ new
whole_back n new old len same =
    ap (take n) (ap (λ (x : List ℕ). new ++ x) (drop_all (length new) old (omega (arith, same))) ∙ append-nil new) ∙ take_all n new (omega (arith, len))

contents_append : (xs ys : List Entry) → contents_bytes (xs ++ ys) ≡ contents_bytes xs ++ contents_bytes ys
contents_append [] ys = refl
contents_append (x ∷ xs) ys = ap (λ (l : List ℕ). raw x.bytes ++ l) (contents_append xs ys) ∙ sym (append_assoc (raw x.bytes) (contents_bytes xs) (contents_bytes ys))

raw_long : (x : List ℕ) → length (raw x) ≤ length x + 7
raw_long x =
    let zeros : length (zeros_after (length x)) ≡ gap (length x) = length-replicate (gap (length x)) 0 in
    omega (arith, length-append x (zeros_after (length x)), zeros)

-- one entry more takes its bytes and fewer than eight zeros
pub contents_more : (es : List Entry) (i : ℕ) (e : Entry) → i < length es → e ≡ get_or es i e → length (contents_bytes (take (i + 1) es)) ≤ length (contents_bytes (take i es)) + length e.bytes + 7
contents_more es i e lt is =
    let one : take (i + 1) es ≡ take i es ++ e ∷ [] = take_more es i e lt ∙ ap (λ (x : Entry). take i es ++ x ∷ []) (sym is) in
    let all : length (contents_bytes (take (i + 1) es)) ≡ length (contents_bytes (take i es) ++ (raw e.bytes ++ [])) = ap (λ (l : List Entry). length (contents_bytes l)) one ∙ ap length (contents_append (take i es) (e ∷ [])) in
    omega (arith, all, length-append (contents_bytes (take i es)) (raw e.bytes ++ []), length-append (raw e.bytes) [], raw_long e.bytes)
