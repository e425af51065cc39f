-- A step reads nothing of the log that is compacted: two logs that are the same past the cut give the same step.
use Rattle.std.proofs.Common.{◌≡◌, ℕ, suc, ◌+◌, ◌-◌, ◌<◌, ◌≤◌, List, ◌++◌, length, take, drop, sym, ap, ◌∙◌, ⊎_elim, arith, length-append}
use Rattle.std.proofs.lemmas.List.{drop-drop, drop-take, drop-append-le, length-take-le}
use Rattle.std.proofs.lemmas.Bool.{cases_lt}
use Rattle.raft_spec.specs.Log.{Entry, LogEnd, nth_term, term_at, log_end, merged, accept}
use Rattle.raft_safety.specs.Cuts.{Same}
use Rattle.raft_safety.proofs.Logs.{nth_at, term_at-take, term_at-append}

pub same_term : {b i : ℕ} {xs ys : List Entry} (k : ℕ) → b < k → Same b i xs ys → term_at xs k ≡ term_at ys k
same_term {b} {i} {xs} {ys} k lt s =
    let e : suc (b + (k - suc b)) ≡ k = omega arith in
    ap (term_at xs) (sym e) ∙ sym (nth_at b (k - suc b) xs) ∙ ap (λ l. nth_term l (k - suc b)) s.rest ∙ nth_at b (k - suc b) ys ∙ ap (term_at ys) e

pub same_drop : {b i : ℕ} {xs ys : List Entry} (p : ℕ) → b ≤ p → Same b i xs ys → drop p xs ≡ drop p ys
same_drop {b} {i} {xs} {ys} p le s =
    let e : b + (p - b) ≡ p = omega arith in
    ap (λ n. drop n xs) (sym e) ∙ sym (drop-drop (p - b) b xs) ∙ ap (drop (p - b)) s.rest ∙ drop-drop (p - b) b ys ∙ ap (λ n. drop n ys) e

-- also at the cut itself, where it is the snapshot's end
pub same_at : {b i : ℕ} {xs ys : List Entry} (k : ℕ) → b ≤ k → ((k ≡ b) → b ≡ i) → Same b i xs ys → term_at xs k ≡ term_at ys k
same_at {b} {i} {xs} {ys} k le at s =
    ⊎_elim (λ (l : b < k). same_term k l s)
    (λ (l : k ≤ b). let e : k ≡ i = (let q : k ≡ b = omega arith in q ∙ at q) in ap (term_at xs) e ∙ s.snapshot ∙ ap (term_at ys) (sym e))
    (cases_lt b k)

pub same_end : {b i : ℕ} {xs ys : List Entry} → b ≤ i → i ≤ length xs → Same b i xs ys → log_end xs ≡ log_end ys
unfolding log_end
same_end {b} {i} {xs} {ys} low le s =
    let t = same_at (length xs) (omega arith) (λ e. omega arith) s in
    ends (length xs) (length ys) (term_at xs (length xs)) (term_at ys (length ys)) s.len (t ∙ ap (term_at ys) s.len)
  where
    ends : (m n t u : ℕ) → m ≡ n → t ≡ u → let a : LogEnd = record { index = m; term = t } in let b : LogEnd = record { index = n; term = u } in a ≡ b
    ends m n t u e f = λ k. record { index = e k; term = f k }

pub same_append : {b i : ℕ} {xs ys : List Entry} (es : List Entry) → b ≤ i → i ≤ length xs → Same b i xs ys → Same b i (xs ++ es) (ys ++ es)
same_append {b} {i} {xs} {ys} es low le s =
    let len = s.len in record {
      len = omega (arith, length-append xs es, length-append ys es);
      rest = drop-append-le b xs es (omega arith) ∙ ap (λ l. l ++ es) s.rest ∙ sym (drop-append-le b ys es (omega arith));
      snapshot = term_at-append xs es i le ∙ s.snapshot ∙ sym (term_at-append ys es i (omega arith));
    }

pub same_accept : {b i : ℕ} {xs ys : List Entry} (p : ℕ) (es : List Entry) → b ≤ i → i ≤ p → p ≤ length xs → Same b i xs ys → Same b i (accept xs p es) (accept ys p es)
unfolding accept
same_accept {b} {i} {xs} {ys} p es low up le s =
    let len = s.len in
    let m = same_drop p (omega arith) s in
    let tail = ap (λ l. merged l es) m in
    let lx : length (take p xs) ≡ p = length-take-le p xs le in
    let ly : length (take p ys) ≡ p = length-take-le p ys (omega arith) in
    let e : b + (p - b) ≡ p = omega arith in
    let cut : drop b (take p xs) ≡ drop b (take p ys) = ap (λ n. drop b (take n xs)) (sym e) ∙ drop-take b (p - b) xs ∙ ap (take (p - b)) s.rest ∙ sym (drop-take b (p - b) ys) ∙ ap (λ n. drop b (take n ys)) e in
    record {
      len = let q = ap length tail in omega (arith, length-append (take p xs) (merged (drop p xs) es), length-append (take p ys) (merged (drop p ys) es));
      rest = drop-append-le b (take p xs) (merged (drop p xs) es) (omega arith) ∙ ap (λ l. l ++ merged (drop p xs) es) cut ∙ ap (λ l. drop b (take p ys) ++ l) tail ∙ sym (drop-append-le b (take p ys) (merged (drop p ys) es) (omega arith));
      snapshot = term_at-append (take p xs) (merged (drop p xs) es) i (omega arith) ∙ term_at-take p xs i up ∙ s.snapshot ∙ sym (term_at-take p ys i up) ∙ sym (term_at-append (take p ys) (merged (drop p ys) es) i (omega arith));
    }
