-- What is after several writes, one after the other.
use Rattle.std.proofs.Common.{◌≡◌, ℕ, List, ◌++◌, Result, Ok, Err, ap, ◌∙◌, append_assoc}
use Rattle.std.specs.Prelude.{OnOk}
use Rattle.std.specs.declared.alloc.AllocError.{AllocError}

-- one more write, after which the rest stands
pub and_then : (out after item rest now : List ℕ) → after ≡ out ++ item → now ≡ after ++ rest → now ≡ out ++ (item ++ rest)
and_then out after item rest now one more = more ∙ ap (λ (x : List ℕ). x ++ rest) one ∙ append_assoc out item rest

pub three : (result : Result Unit AllocError) (o0 o1 o2 now a b c : List ℕ) → o1 ≡ o0 ++ a → o2 ≡ o1 ++ b → OnOk result (now ≡ o2 ++ c) → OnOk result (now ≡ o0 ++ (a ++ (b ++ c)))
three (Ok done) o0 o1 o2 now a b c one two last = and_then o0 o1 a (b ++ c) now one (and_then o1 o2 b c now two last)
three (Err e) o0 o1 o2 now a b c one two last = tt

pub five : (result : Result Unit AllocError) (o0 o1 o2 o3 o4 now a b c d e : List ℕ) → o1 ≡ o0 ++ a → o2 ≡ o1 ++ b → o3 ≡ o2 ++ c → o4 ≡ o3 ++ d → OnOk result (now ≡ o4 ++ e)
    → OnOk result (now ≡ o0 ++ (a ++ (b ++ (c ++ (d ++ e)))))
five (Ok done) o0 o1 o2 o3 o4 now a b c d e one two three four last =
    and_then o0 o1 a (b ++ (c ++ (d ++ e))) now one (and_then o1 o2 b (c ++ (d ++ e)) now two (and_then o2 o3 c (d ++ e) now three (and_then o3 o4 d e now four last)))
five (Err fault) o0 o1 o2 o3 o4 now a b c d e one two three four last = tt
