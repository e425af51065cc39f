-- Heads and entries are read exactly if the bytes are their encoding.
use Rattle.std.proofs.Common.{◌≡◌, ℕ, zero, suc, ◌<◌, ◌^◌, ◌%◌, inl, inr, true, cond, eqb, ltb, List, [], ◌∷◌, ◌++◌, length, Option, Some, None, Ok, refl, sym, ap, subst, ◌∙◌, arith}
use Rattle.std.proofs.lemmas.Bool.{eqb-true, ltb-true}
use Rattle.raft_spec.specs.Log.{Entry, EntryKind as EntryKindValue}
use Rattle.raft_spec.specs.Log as values
use Rattle.wire_words.specs.declared.fault.WordFault.TheVariants.{Pad}
use Rattle.wire_words.specs.Items.{word, pair, raw, AreBytes}
use Rattle.wire_words.specs.Reading.{◌>>=◌, Unread, word_at, pair_at, raw_at}
use Rattle.wire_words.proofs.Choices.{one_of, none_of}
use Rattle.wire_words.proofs.ReadBack.{bind_ok, ok_is, passed}
use Rattle.raft_messages.specs.declared.entry.EntryKind.{EntryKind}
use Rattle.raft_messages.specs.declared.entry.EntryKind.TheVariants as kinds
use Rattle.raft_messages.specs.declared.entries.EntryHead.{EntryHead}
use Rattle.raft_messages.specs.Kinds.{kind_value, kind_number, kind_code, kind_with}
use Rattle.raft_messages.specs.Entries.{head_bytes, heads_bytes, contents_bytes, HasHead, HaveHeads, known_kind, head_at, heads_at, entry_at, contents_at}
use Rattle.wire_words.proofs.Passing.{Passed, passed_none, pass_none, passed_both, between, passed_first, passed_second, bytes_after, word_passed, word_stood, pair_passed, pair_stood, raw_passed, raw_stood}

-- ---- the kind

code_is : (n number : ℕ) (one kind : EntryKind) → (eqb n number ≡ true) × (one ≡ kind) → kind_code one ≡ number → n ≡ kind_code kind
code_is n number one kind e is = eqb-true n number e.0 ∙ sym is ∙ ap kind_code e.1

with_code : (n : ℕ) (kind : EntryKind) → kind_with n ≡ Some kind → n ≡ kind_code kind
with_code n kind e =
    elim (one_of (eqb n 1) kinds.Command (cond (eqb n 2) (Some kinds.Barrier) (cond (eqb n 3) (Some kinds.Change) None)) kind e) [
      | inl is ↦ code_is n 1 kinds.Command kind is refl
      | inr e ↦ elim (one_of (eqb n 2) kinds.Barrier (cond (eqb n 3) (Some kinds.Change) None) kind e) [
        | inl is ↦ code_is n 2 kinds.Barrier kind is refl
        | inr e ↦ elim (one_of (eqb n 3) kinds.Change None kind e) [
          | inl is ↦ code_is n 3 kinds.Change kind is refl
          | inr e ↦ none_of kind (n ≡ kind_code kind) e
        ]
      ]
    ]

-- the half of a word was the number of the kind
kind_was : (at half : ℕ) (known : Option EntryKind) (kind : EntryKind) → known ≡ kind_with (half % 256) → known_kind at half known ≡ Ok kind → half ≡ kind_code kind
kind_was at half None kind is e = absurd cc
kind_was at half (Some one) kind is e =
    let a = passed (ltb half 256) (Pad at) (Ok one) kind e in
    let low : half < 256 = ltb-true half 256 a.0 in
    let same : one ≡ kind = ok_is one kind a.1 in
    let code : half % 256 ≡ kind_code one = with_code (half % 256) one (sym is) in
    let whole : half % 256 ≡ half = omega arith in
    sym whole ∙ code ∙ ap kind_code same

kind_again : (at : ℕ) (kind : EntryKind) → known_kind at (kind_code kind) (kind_with (kind_code kind % 256)) ≡ Ok kind
kind_again at kinds.Command = refl
kind_again at kinds.Barrier = refl
kind_again at kinds.Change = refl

kind_small : (kind : EntryKind) → kind_code kind < 2 ^ 32
kind_small kinds.Command = omega arith
kind_small kinds.Barrier = omega arith
kind_small kinds.Change = omega arith

-- ---- heads

-- the bytes of a head that was read
abbrev pub read_head : EntryHead → List ℕ
read_head h = word h.term ++ pair (kind_code h.kind) h.size

abbrev pub read_heads : List EntryHead → List ℕ
read_heads [] = []
read_heads (h ∷ hs) = read_head h ++ read_heads hs

abbrev pub HeadFits : EntryHead → Type 0
HeadFits h = (h.term < 2 ^ 64) × (h.size < 2 ^ 32)

abbrev pub HeadsFit : List EntryHead → Type 0
HeadsFit [] = Unit {0}
HeadsFit (h ∷ hs) = HeadFits h × HeadsFit hs

head_passed : (old new : Unread) (h : EntryHead) → AreBytes old.bytes → head_at old ≡ Ok (h, new) → HeadFits h × Passed (read_head h) old new
unfolding head_at
head_passed old new h fits e =
    let a = bind_ok (word_at old) (λ term. pair_at term.1 >>= λ halves. known_kind term.1.at halves.0.0 (kind_with (halves.0.0 % 256)) >>= λ kind. Ok (record { term = term.0; kind = kind; size = halves.0.1 }, halves.1)) (h, new) e in
    let b = bind_ok (pair_at a.0.1) (λ halves. known_kind a.0.1.at halves.0.0 (kind_with (halves.0.0 % 256)) >>= λ kind. Ok (record { term = a.0.0; kind = kind; size = halves.0.1 }, halves.1)) (h, new) a.2 in
    let c = bind_ok (known_kind a.0.1.at b.0.0.0 (kind_with (b.0.0.0 % 256))) (λ kind. Ok (record { term = a.0.0; kind = kind; size = b.0.0.1 }, b.0.1)) (h, new) b.2 in
    let made : EntryHead × Unread = (record { term = a.0.0; kind = c.0; size = b.0.0.1 }, b.0.1) in
    let first = word_passed old a.0.1 a.0.0 fits a.1 in
    let second = pair_passed a.0.1 b.0.1 b.0.0.0 b.0.0.1 (bytes_after (word a.0.0) old a.0.1 first.1 fits) b.1 in
    let kind : b.0.0.0 ≡ kind_code c.0 = kind_was a.0.1.at b.0.0.0 (kind_with (b.0.0.0 % 256)) c.0 refl c.1 in
    let halves : Passed (pair (kind_code c.0) b.0.0.1) a.0.1 b.0.1 = subst (λ (n : ℕ). Passed (pair n b.0.0.1) a.0.1 b.0.1) kind second.2 in
    subst (λ (x : EntryHead × Unread). HeadFits x.0 × Passed (read_head x.0) old x.1) (ok_is made (h, new) c.2)
    ((first.0, second.1), passed_both old a.0.1 b.0.1 (word a.0.0) (pair (kind_code c.0) b.0.0.1) first.1 halves)

head_stood : (h : EntryHead) (old new : Unread) → HeadFits h → Passed (read_head h) old new → head_at old ≡ Ok (h, new)
unfolding head_at
head_stood h old new fits p =
    let mid = between old (word h.term) (pair (kind_code h.kind) h.size) new in
    let first = word_stood old mid h.term fits.0 (passed_first old new (word h.term) (pair (kind_code h.kind) h.size) p) in
    let second = pair_stood mid new (kind_code h.kind) h.size (kind_small h.kind) fits.1 (passed_second old new (word h.term) (pair (kind_code h.kind) h.size) p) in
    rw (first, second, kind_again mid.at h.kind) refl

-- this many heads were between two states of a reader
pub record PassedHeads (count : ℕ) (hs : List EntryHead) (old new : Unread) : Type 0 where
  pub many : length hs ≡ count
  pub fit : HeadsFit hs
  pub passed : Passed (read_heads hs) old new

pub heads_passed : (count : ℕ) (old new : Unread) (hs : List EntryHead) → AreBytes old.bytes → heads_at count old ≡ Ok (hs, new) → PassedHeads count hs old new
unfolding heads_at
heads_passed zero old new hs fits e =
    subst (λ (x : List EntryHead × Unread). PassedHeads 0 x.0 old x.1) (ok_is ([], old) (hs, new) e) (record { many = refl; fit = tt; passed = pass_none old })
heads_passed (suc count) old new hs fits e =
    let a = bind_ok (head_at old) (λ first. heads_at count first.1 >>= λ others. Ok (first.0 ∷ others.0, others.1)) (hs, new) e in
    let b = bind_ok (heads_at count a.0.1) (λ others. Ok (a.0.0 ∷ others.0, others.1)) (hs, new) a.2 in
    let first = head_passed old a.0.1 a.0.0 fits a.1 in
    let others = heads_passed count a.0.1 b.0.1 b.0.0 (bytes_after (read_head a.0.0) old a.0.1 first.1 fits) b.1 in
    let made : List EntryHead × Unread = (a.0.0 ∷ b.0.0, b.0.1) in
    subst (λ (x : List EntryHead × Unread). PassedHeads (suc count) x.0 old x.1) (ok_is made (hs, new) b.2)
    (record { many = ap suc others.many; fit = (first.0, others.fit); passed = passed_both old a.0.1 b.0.1 (read_head a.0.0) (read_heads b.0.0) first.1 others.passed })

pub heads_stood : (hs : List EntryHead) (old new : Unread) → HeadsFit hs → Passed (read_heads hs) old new → heads_at (length hs) old ≡ Ok (hs, new)
unfolding heads_at
heads_stood [] old new fit p = ap (λ (left : Unread). Ok ([], left)) (passed_none old new p)
heads_stood (h ∷ hs) old new fit p =
    let mid = between old (read_head h) (read_heads hs) new in
    let first = head_stood h old mid fit.0 (passed_first old new (read_head h) (read_heads hs) p) in
    let others = heads_stood hs mid new fit.1 (passed_second old new (read_head h) (read_heads hs) p) in
    rw (first, others) refl

-- ---- what entries say

entry_passed : (h : EntryHead) (old new : Unread) (x : Entry) → entry_at h old ≡ Ok (x, new) → (x.term ≡ h.term) × (x.kind ≡ kind_value h.kind) × (length x.bytes ≡ h.size) × Passed (raw x.bytes) old new
unfolding entry_at
entry_passed h old new x e =
    let a = bind_ok (raw_at h.size old) (λ bytes. Ok (record { term = h.term; kind = kind_value h.kind; bytes = bytes.0 }, bytes.1)) (x, new) e in
    let made : Entry × Unread = (record { term = h.term; kind = kind_value h.kind; bytes = a.0.0 }, a.0.1) in
    let r = raw_passed h.size old a.0.1 a.0.0 a.1 in
    subst (λ (y : Entry × Unread). (y.0.term ≡ h.term) × (y.0.kind ≡ kind_value h.kind) × (length y.0.bytes ≡ h.size) × Passed (raw y.0.bytes) old y.1) (ok_is made (x, new) a.2) (refl, refl, r.0, r.1)

-- entries of these heads were between two states of a reader
pub record PassedContents (hs : List EntryHead) (es : List Entry) (old new : Unread) : Type 0 where
  pub many : length es ≡ length hs
  pub heads : read_heads hs ≡ heads_bytes es
  pub fit : HeadsFit hs → HaveHeads es
  pub passed : Passed (contents_bytes es) old new

head_is : (h : EntryHead) (x : Entry) → x.term ≡ h.term → x.kind ≡ kind_value h.kind → length x.bytes ≡ h.size → read_head h ≡ head_bytes x
head_is h x term kind size =
    ap (λ (n : ℕ). word n ++ pair (kind_code h.kind) h.size) (sym term)
    ∙ ap (λ (n : ℕ). word x.term ++ pair n h.size) (ap kind_number (sym kind))
    ∙ ap (λ (n : ℕ). word x.term ++ pair (kind_number x.kind) n) (sym size)

head_fits : (h : EntryHead) (x : Entry) → x.term ≡ h.term → length x.bytes ≡ h.size → HeadFits h → HasHead x
head_fits h x term size fits = (omega (arith, term, fits.0), omega (arith, size, fits.1))

pub contents_passed : (hs : List EntryHead) (old new : Unread) (es : List Entry) → contents_at hs old ≡ Ok (es, new) → PassedContents hs es old new
unfolding contents_at
contents_passed [] old new es e =
    subst (λ (x : List Entry × Unread). PassedContents [] x.0 old x.1) (ok_is ([], old) (es, new) e) (record { many = refl; heads = refl; fit = λ f. tt; passed = pass_none old })
contents_passed (h ∷ hs) old new es e =
    let a = bind_ok (entry_at h old) (λ first. contents_at hs first.1 >>= λ others. Ok (first.0 ∷ others.0, others.1)) (es, new) e in
    let b = bind_ok (contents_at hs a.0.1) (λ others. Ok (a.0.0 ∷ others.0, others.1)) (es, new) a.2 in
    let first = entry_passed h old a.0.1 a.0.0 a.1 in
    let others = contents_passed hs a.0.1 b.0.1 b.0.0 b.1 in
    let made : List Entry × Unread = (a.0.0 ∷ b.0.0, b.0.1) in
    subst (λ (x : List Entry × Unread). PassedContents (h ∷ hs) x.0 old x.1) (ok_is made (es, new) b.2)
    (record {
      many = ap suc others.many;
      heads = ap (λ (x : List ℕ). x ++ read_heads hs) (head_is h a.0.0 first.0 first.1 first.2) ∙ ap (λ (x : List ℕ). head_bytes a.0.0 ++ x) others.heads;
      fit = λ f. (head_fits h a.0.0 first.0 first.2 f.0, others.fit f.1);
      passed = passed_both old a.0.1 b.0.1 (raw a.0.0.bytes) (contents_bytes b.0.0) first.3 others.passed;
    })

-- ---- encoded entries are read

-- the code's kind for one of the rules
abbrev pub kind_from : EntryKindValue → EntryKind
kind_from values.Command = kinds.Command
kind_from values.Barrier = kinds.Barrier
kind_from values.Change = kinds.Change

value_from : (kind : EntryKindValue) → kind_value (kind_from kind) ≡ kind
value_from values.Command = refl
value_from values.Barrier = refl
value_from values.Change = refl

-- the head of an entry
abbrev pub head_of : Entry → EntryHead
head_of x = record { term = x.term; kind = kind_from x.kind; size = length x.bytes }

abbrev pub heads_of : List Entry → List EntryHead
heads_of [] = []
heads_of (x ∷ xs) = head_of x ∷ heads_of xs

pub heads_are : (es : List Entry) → read_heads (heads_of es) ≡ heads_bytes es
heads_are [] = refl
heads_are (x ∷ xs) =
    ap (λ (y : List ℕ). y ++ read_heads (heads_of xs)) (head_is (head_of x) x refl (sym (value_from x.kind)) refl) ∙ ap (λ (y : List ℕ). head_bytes x ++ y) (heads_are xs)

pub heads_fit : (es : List Entry) → HaveHeads es → HeadsFit (heads_of es)
heads_fit [] fit = tt
heads_fit (x ∷ xs) fit = (fit.0, heads_fit xs fit.1)

pub as_many : (es : List Entry) → length (heads_of es) ≡ length es
as_many [] = refl
as_many (x ∷ xs) = ap suc (as_many xs)

abbrev entry_from : List ℕ → ℕ → EntryKindValue → Entry
entry_from bytes term kind = record { term = term; kind = kind; bytes = bytes }

entry_stood : (x : Entry) (old new : Unread) → Passed (raw x.bytes) old new → entry_at (head_of x) old ≡ Ok (x, new)
unfolding entry_at
entry_stood x old new p =
    let read : raw_at (length x.bytes) old ≡ Ok (x.bytes, new) = raw_stood (length x.bytes) old new x.bytes refl p in
    rw read (ap (λ (k : EntryKindValue). Ok (entry_from x.bytes x.term k, new)) (value_from x.kind))

pub contents_stood : (es : List Entry) (old new : Unread) → Passed (contents_bytes es) old new → contents_at (heads_of es) old ≡ Ok (es, new)
unfolding contents_at
contents_stood [] old new p = ap (λ (left : Unread). Ok ([], left)) (passed_none old new p)
contents_stood (x ∷ xs) old new p =
    let mid = between old (raw x.bytes) (contents_bytes xs) new in
    let first = entry_stood x old mid (passed_first old new (raw x.bytes) (contents_bytes xs) p) in
    let others = contents_stood xs mid new (passed_second old new (raw x.bytes) (contents_bytes xs) p) in
    rw (first, others) refl
