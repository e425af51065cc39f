-- What is after several writes, one after the other.
use Rattle.std.proofs.Common.{◌≡◌, ℕ, List, [], ◌++◌, Result, Ok, Err, sym, ap, ◌∙◌, append_assoc}
use Rattle.std.proofs.lemmas.List.{append-nil}
use Rattle.std.specs.Prelude.{OnOk}
use Rattle.std.specs.declared.alloc.AllocError.{AllocError}
use Rattle.wire_words.specs.Writing.{AppendsOrKeeps}

-- one more write, after which the rest stands
pub and_then : (out after item rest now : List ℕ) → after ≡ out ++ item → now ≡ after ++ rest → now ≡ out ++ (item ++ rest)
and_then out after item rest now one more = more ∙ ap (λ (x : List ℕ). x ++ rest) one ∙ append_assoc out item rest

pub on_ok : (result : Result Unit AllocError) (out now item : List ℕ) → AppendsOrKeeps out now item result → OnOk result (now ≡ out ++ item)
on_ok (Ok done) out now item e = e
on_ok (Err fault) out now item e = tt

pub two : (result : Result Unit AllocError) (o0 o1 now a b : List ℕ) → o1 ≡ o0 ++ a → OnOk result (now ≡ o1 ++ b) → OnOk result (now ≡ o0 ++ (a ++ b))
two (Ok done) o0 o1 now a b one last = and_then o0 o1 a b now one last
two (Err e) o0 o1 now a b one last = tt

pub three : (result : Result Unit AllocError) (o0 o1 o2 now a b c : List ℕ) → o1 ≡ o0 ++ a → o2 ≡ o1 ++ b → OnOk result (now ≡ o2 ++ c) → OnOk result (now ≡ o0 ++ (a ++ (b ++ c)))
three (Ok done) o0 o1 o2 now a b c one two last = and_then o0 o1 a (b ++ c) now one (and_then o1 o2 b c now two last)
three (Err e) o0 o1 o2 now a b c one two last = tt

pub four : (result : Result Unit AllocError) (o0 o1 o2 o3 now a b c d : List ℕ) → o1 ≡ o0 ++ a → o2 ≡ o1 ++ b → o3 ≡ o2 ++ c → OnOk result (now ≡ o3 ++ d) → OnOk result (now ≡ o0 ++ (a ++ (b ++ (c ++ d))))
four (Ok done) o0 o1 o2 o3 now a b c d one two three last = and_then o0 o1 a (b ++ (c ++ d)) now one (and_then o1 o2 b (c ++ d) now two (and_then o2 o3 c d now three last))
four (Err e) o0 o1 o2 o3 now a b c d one two three last = tt

-- the same bytes in another grouping
pub regrouped : (result : Result Unit AllocError) (out now bytes other : List ℕ) → bytes ≡ other → OnOk result (now ≡ out ++ bytes) → OnOk result (now ≡ out ++ other)
regrouped (Ok done) out now bytes other is e = e ∙ ap (λ (x : List ℕ). out ++ x) is
regrouped (Err fault) out now bytes other is e = tt

pub end_2 : (a b : List ℕ) → a ++ b ≡ a ++ (b ++ [])
end_2 a b = ap (λ (x : List ℕ). a ++ x) (sym (append-nil b))

pub end_3 : (a b c : List ℕ) → a ++ (b ++ c) ≡ a ++ (b ++ (c ++ []))
end_3 a b c = ap (λ (x : List ℕ). a ++ x) (end_2 b c)

pub end_4 : (a b c d : List ℕ) → (a ++ b) ++ (c ++ d) ≡ a ++ (b ++ (c ++ (d ++ [])))
end_4 a b c d = append_assoc a b (c ++ d) ∙ ap (λ (x : List ℕ). a ++ x) (end_3 b c d)
