-- What a reader passed: items one after the other.
use Rattle.std.proofs.Common.{◌≡◌, ℕ, ◌+◌, ◌<◌, ◌^◌, List, [], ◌++◌, length, take, drop, Ok, refl, sym, ap, subst, ◌∙◌, append_assoc, arith}
use Rattle.std.specs.Prelude.{IsUtf8}
use Rattle.std.proofs.lemmas.List.{drop_at, take_at, length-append}
use Rattle.wire_words.specs.declared.value.Dialect.TheVariants.{Exact}
use Rattle.wire_words.specs.Items.{word, pair, text, raw, blob, AreBytes, IsWord, IsPair, IsText, IsRaw, HasNoNul}
use Rattle.wire_words.specs.Values.{IsBlob}
use Rattle.wire_words.specs.Reading.{Unread, Took, word_at, pair_at, raw_at, text_at, blob_at}
use Rattle.wire_words.proofs.ReadBack.{same_unread, word_took, word_again, pair_took, pair_again}
use Rattle.wire_words.proofs.Padding.{raw_is_padded, padded_is_raw, raw_took, raw_again}
use Rattle.wire_words.proofs.Parts.{blob_took, blob_again}
use Rattle.wire_words.proofs.Nul.{text_took, text_again, text_is_spelled, spelled_is_text}
use Rattle.wire_words.proofs.Numbers.{AreBytes-take, AreBytes-drop}

-- these bytes were between two states of a reader
pub record Passed (item : List ℕ) (old new : Unread) : Type 0 where
  pub parts : old.bytes ≡ item ++ new.bytes
  pub place : new.at ≡ old.at + length item

-- two states of a reader with nothing between them are one
pub passed_none : (old new : Unread) → Passed [] old new → old ≡ new
passed_none old new p = same_unread old new (omega (arith, p.place)) p.parts

pub pass_none : (old : Unread) → Passed [] old old
pass_none old = record { parts = refl; place = omega arith }

pub passed_both : (old mid new : Unread) (a b : List ℕ) → Passed a old mid → Passed b mid new → Passed (a ++ b) old new
passed_both old mid new a b p q =
    record {
      parts = p.parts ∙ ap (λ (x : List ℕ). a ++ x) q.parts ∙ sym (append_assoc a b new.bytes);
      place = omega (arith, p.place, q.place, length-append a b);
    }

-- where the first of two items ends
abbrev pub between : Unread → List ℕ → List ℕ → Unread → Unread
between old a b new = record { at = old.at + length a; bytes = b ++ new.bytes }

pub passed_first : (old new : Unread) (a b : List ℕ) → Passed (a ++ b) old new → Passed a old (between old a b new)
passed_first old new a b p = record { parts = p.parts ∙ append_assoc a b new.bytes; place = refl }

pub passed_second : (old new : Unread) (a b : List ℕ) → Passed (a ++ b) old new → Passed b (between old a b new) new
passed_second old new a b p = record { parts = refl; place = omega (arith, p.place, length-append a b) }

pub bytes_after : (item : List ℕ) (old new : Unread) → Passed item old new → AreBytes old.bytes → AreBytes new.bytes
bytes_after item old new p fits =
    subst AreBytes (ap (drop (length item)) p.parts ∙ drop_at item new.bytes (length item) refl) (AreBytes-drop (length item) old.bytes fits)

pub bytes_of : (item rest : List ℕ) (old new : Unread) → Passed (item ++ rest) old new → AreBytes old.bytes → AreBytes item
bytes_of item rest old new p fits =
    let first = passed_first old new item rest p in
    subst AreBytes (ap (take (length item)) first.parts ∙ take_at item (rest ++ new.bytes) (length item) refl) (AreBytes-take (length item) old.bytes fits)

-- ---- by the laws of the words

passed_as : (IsItem : List ℕ → Type 0) (item : List ℕ) (old new : Unread) → ((bytes : List ℕ) → IsItem bytes → bytes ≡ item) → Took IsItem old new → Passed item old new
passed_as IsItem item old new only t =
    let is = only t.item t.spelled in
    record { parts = t.parts ∙ ap (λ (b : List ℕ). b ++ new.bytes) is; place = t.place ∙ ap (λ (b : List ℕ). old.at + length b) is }

took_as : (IsItem : List ℕ → Type 0) (item : List ℕ) (old new : Unread) → IsItem item → Passed item old new → Took IsItem old new
took_as IsItem item old new spelled p = record { item = item; spelled = spelled; parts = p.parts; place = p.place }

pub word_passed : (old new : Unread) (n : ℕ) → AreBytes old.bytes → word_at old ≡ Ok (n, new) → (n < 2 ^ 64) × Passed (word n) old new
word_passed old new n fits e =
    let t = word_took old new n fits e in
    (t.spelled.fits, passed_as (IsWord n) (word n) old new (λ bytes is. is.parts) t)

pub word_stood : (old new : Unread) (n : ℕ) → n < 2 ^ 64 → Passed (word n) old new → word_at old ≡ Ok (n, new)
word_stood old new n fits p = word_again old new n (took_as (IsWord n) (word n) old new (record { fits = fits; parts = refl }) p)

pub raw_passed : (size : ℕ) (old new : Unread) (item : List ℕ) → raw_at size old ≡ Ok (item, new) → (length item ≡ size) × Passed (raw item) old new
raw_passed size old new item e =
    let t = raw_took size old new item e in
    (t.0, passed_as (IsRaw item) (raw item) old new (padded_is_raw item) t.1)

pub raw_stood : (size : ℕ) (old new : Unread) (item : List ℕ) → length item ≡ size → Passed (raw item) old new → raw_at size old ≡ Ok (item, new)
raw_stood size old new item len p =
    subst (λ (n : ℕ). raw_at n old ≡ Ok (item, new)) len (raw_again old new item (took_as (IsRaw item) (raw item) old new (raw_is_padded item) p))

pub text_passed : (old new : Unread) (t : List ℕ) → text_at old ≡ Ok (t, new) → IsUtf8 t × HasNoNul t × Passed (text t) old new
text_passed old new t e =
    let took = text_took old new t e in
    (took.spelled.utf8, took.spelled.no_nul, passed_as (IsText t) (text t) old new (spelled_is_text t) took)

pub text_stood : (old new : Unread) (t : List ℕ) → IsUtf8 t → HasNoNul t → Passed (text t) old new → text_at old ≡ Ok (t, new)
text_stood old new t utf8 no_nul p = text_again old new t (took_as (IsText t) (text t) old new (text_is_spelled t utf8 no_nul) p)

pub pair_passed : (old new : Unread) (first second : ℕ) → AreBytes old.bytes → pair_at old ≡ Ok ((first, second), new) → (first < 2 ^ 32) × (second < 2 ^ 32) × Passed (pair first second) old new
pair_passed old new first second fits e =
    let t = pair_took old new first second fits e in
    (t.spelled.first_fits, t.spelled.second_fits, passed_as (IsPair first second) (pair first second) old new (λ bytes is. is.parts) t)

pub pair_stood : (old new : Unread) (first second : ℕ) → first < 2 ^ 32 → second < 2 ^ 32 → Passed (pair first second) old new → pair_at old ≡ Ok ((first, second), new)
pair_stood old new first second fits more p = pair_again old new first second (took_as (IsPair first second) (pair first second) old new (record { first_fits = fits; second_fits = more; parts = refl }) p)

spelled_is_blob : (content bytes : List ℕ) → IsBlob Exact content bytes → bytes ≡ blob content
spelled_is_blob content bytes j =
    j.parts ∙ ap (λ (x : List ℕ). x ++ j.second) j.is_first.parts ∙ ap (λ (x : List ℕ). word (length content) ++ x) (padded_is_raw content j.second j.is_second)

blob_is_spelled : (content : List ℕ) → length content < 2 ^ 64 → IsBlob Exact content (blob content)
blob_is_spelled content fits = record { first = word (length content); second = raw content; parts = refl; is_first = record { fits = fits; parts = refl }; is_second = raw_is_padded content }

pub blob_passed : (old new : Unread) (content : List ℕ) → AreBytes old.bytes → blob_at Exact old ≡ Ok (content, new) → (length content < 2 ^ 64) × Passed (blob content) old new
blob_passed old new content fits e =
    let t = blob_took Exact old new content fits e in
    (t.spelled.is_first.fits, passed_as (IsBlob Exact content) (blob content) old new (spelled_is_blob content) t)

pub blob_stood : (old new : Unread) (content : List ℕ) → length content < 2 ^ 64 → Passed (blob content) old new → blob_at Exact old ≡ Ok (content, new)
blob_stood old new content fits p = blob_again Exact old new content (took_as (IsBlob Exact content) (blob content) old new (blob_is_spelled content fits) p)
