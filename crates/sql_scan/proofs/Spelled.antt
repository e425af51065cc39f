-- What is read as a token is written as one: runs, quotes, brackets and comments.
use Rattle.std.proofs.Common.{◌≡◌, ℕ, suc, ◌+◌, ◌<◌, Bool, true, false, not, cond, eqb, ◌&&◌, inl, inr, List, [], ◌∷◌, ◌++◌, length, take, drop, Option, Some, None, refl, sym, ap, subst, ◌∙◌, arith}
use Rattle.std.specs.List.{prefix_len, AllPass}
use Rattle.std.proofs.lemmas.Bool.{cases_lt, or_from, eqb-true, eq-eqb, cond-true, cond-false}
use Rattle.std.proofs.lemmas.List.{get_or-take, length-take, drop_more, drop_all}
use Rattle.std.proofs.lemmas.List.Sums.{prefix_len_passes, prefix_len_stops}
use Rattle.sql_scan.specs.Lengths.{run, longer, quoted, starred}
use Rattle.sql_scan.specs.Grammar.{StopsAt, Runs, spelled, has_end}
use Rattle.sql_scan.proofs.Runs.{run_is}
use Rattle.sql_scan.proofs.ReadBack.{lead}

some_is : (m n : ℕ) → Some m ≡ Some n → m ≡ n
some_is m n e = cc

pub longer_some : (o : Option ℕ) (n : ℕ) → longer o ≡ Some n → (m : ℕ) × (o ≡ Some m) × (n ≡ suc m)
longer_some None n e = absurd cc
longer_some (Some m) n e = let is : m + 1 ≡ n = some_is (m + 1) n e in (m, refl, omega arith)

pub longer_none : (o : Option ℕ) → longer o ≡ None → o ≡ None
longer_none None e = refl
longer_none (Some m) e = absurd cc

-- ---- runs

prefix_each : (p : ℕ → Bool) (xs : List ℕ) → AllPass p (take (prefix_len p xs) xs)
prefix_each p xs k d lt =
    let within : k < prefix_len p xs = omega (arith, length-take (prefix_len p xs) xs) in
    rw (get_or-take (prefix_len p xs) xs k d within) (prefix_len_passes p xs k d within)

prefix_ends : (p : ℕ → Bool) (xs : List ℕ) → StopsAt p (drop (prefix_len p xs) xs)
prefix_ends p xs = elim (cases_lt (prefix_len p xs) (length xs)) [
  | inl lt ↦ subst (λ (ys : List ℕ). StopsAt p ys) (sym (drop_more xs (prefix_len p xs) 0 lt)) (prefix_len_stops p xs 0 lt)
  | inr ge ↦ subst (λ (ys : List ℕ). StopsAt p ys) (sym (drop_all (prefix_len p xs) xs ge)) tt
]

pub prefix_split : (p : ℕ → Bool) (xs : List ℕ) → Runs p (take (prefix_len p xs) xs) (drop (prefix_len p xs) xs)
prefix_split p xs = record { each = prefix_each p xs; stops = prefix_ends p xs }

pub run_split : (p : ℕ → Bool) (xs : List ℕ) → Runs p (take (run p xs) xs) (drop (run p xs) xs)
run_split p xs = subst (λ (n : ℕ). Runs p (take n xs) (drop n xs)) (sym (run_is p xs)) (prefix_split p xs)

-- ---- quotes

-- the quote that stands just before, if an odd number does
abbrev pub quote_lead : ℕ → Bool → List ℕ
quote_lead q true = q ∷ []
quote_lead q false = []

pub record Closed (q : ℕ) (odd : Bool) (xs : List ℕ) (n : ℕ) : Type 0 where
  pub content : List ℕ
  pub is : quote_lead q odd ++ take n xs ≡ spelled q content ++ q ∷ []
  pub stops : StopsAt (λ b. eqb b q) (drop n xs)

pub record Unclosed (q : ℕ) (odd : Bool) (xs : List ℕ) : Type 0 where
  pub content : List ℕ
  pub is : quote_lead q odd ++ xs ≡ spelled q content

spelled-quote : (q : ℕ) (content : List ℕ) → spelled q (q ∷ content) ≡ q ∷ q ∷ spelled q content
spelled-quote q content = ap (λ (d : List ℕ). d ++ spelled q content) (cond-true (eqb q q) (q ∷ q ∷ []) (q ∷ []) (eq-eqb q q refl))

spelled-other : (q b : ℕ) (content : List ℕ) → eqb b q ≡ false → spelled q (b ∷ content) ≡ b ∷ spelled q content
spelled-other q b content e = ap (λ (d : List ℕ). d ++ spelled q content) (cond-false (eqb b q) (q ∷ q ∷ []) (b ∷ []) e)

closed_case : (q b : ℕ) (bytes : List ℕ) (n : ℕ) (odd t : Bool) → eqb b q ≡ t → ((o : Bool) (m : ℕ) → quoted q o bytes ≡ Some m → Closed q o bytes m)
    → cond (odd && not t) (Some 0) (longer (quoted q (t && not odd) bytes)) ≡ Some n → Closed q odd (b ∷ bytes) n
closed_case q b bytes n true false other later e =
    let zero_is : 0 ≡ n = some_is 0 n e in
    subst (λ (k : ℕ). Closed q true (b ∷ bytes) k) zero_is (record { content = []; is = refl; stops = other })
closed_case q b bytes n true true same later e =
    let found = longer_some (quoted q false bytes) n e in
    let m : ℕ = found.0 in
    let c : Closed q false bytes m = later false m found.1 in
    subst (λ (k : ℕ). Closed q true (b ∷ bytes) k) (sym found.2)
    (record {
      content = q ∷ c.content;
      is = ap (λ (a : ℕ). q ∷ a ∷ take m bytes) (eqb-true b q same) ∙ ap (λ (ys : List ℕ). q ∷ q ∷ ys) c.is ∙ sym (ap (λ (ys : List ℕ). ys ++ q ∷ []) (spelled-quote q c.content));
      stops = c.stops;
    })
closed_case q b bytes n false true same later e =
    let found = longer_some (quoted q true bytes) n e in
    let m : ℕ = found.0 in
    let c : Closed q true bytes m = later true m found.1 in
    subst (λ (k : ℕ). Closed q false (b ∷ bytes) k) (sym found.2)
    (record { content = c.content; is = ap (λ (a : ℕ). a ∷ take m bytes) (eqb-true b q same) ∙ c.is; stops = c.stops })
closed_case q b bytes n false false other later e =
    let found = longer_some (quoted q false bytes) n e in
    let m : ℕ = found.0 in
    let c : Closed q false bytes m = later false m found.1 in
    subst (λ (k : ℕ). Closed q false (b ∷ bytes) k) (sym found.2)
    (record { content = b ∷ c.content; is = ap (λ (ys : List ℕ). b ∷ ys) c.is ∙ sym (ap (λ (ys : List ℕ). ys ++ q ∷ []) (spelled-other q b c.content other)); stops = c.stops })

pub quoted_so : (q : ℕ) (xs : List ℕ) (odd : Bool) (n : ℕ) → quoted q odd xs ≡ Some n → Closed q odd xs n
unfolding quoted
quoted_so q [] true n e = let zero_is : 0 ≡ n = some_is 0 n e in subst (λ (k : ℕ). Closed q true [] k) zero_is (record { content = []; is = refl; stops = tt })
quoted_so q [] false n e = absurd cc
quoted_so q (b ∷ bytes) odd n e = closed_case q b bytes n odd (eqb b q) refl (λ o m found. quoted_so q bytes o m found) e

unclosed_case : (q b : ℕ) (bytes : List ℕ) (odd t : Bool) → eqb b q ≡ t → ((o : Bool) → quoted q o bytes ≡ None → Unclosed q o bytes)
    → cond (odd && not t) (Some 0) (longer (quoted q (t && not odd) bytes)) ≡ None → Unclosed q odd (b ∷ bytes)
unclosed_case q b bytes true false other later e = absurd cc
unclosed_case q b bytes true true same later e =
    let c : Unclosed q false bytes = later false (longer_none (quoted q false bytes) e) in
    record {
      content = q ∷ c.content;
      is = ap (λ (a : ℕ). q ∷ a ∷ bytes) (eqb-true b q same) ∙ ap (λ (ys : List ℕ). q ∷ q ∷ ys) c.is ∙ sym (spelled-quote q c.content);
    }
unclosed_case q b bytes false true same later e =
    let c : Unclosed q true bytes = later true (longer_none (quoted q true bytes) e) in
    record { content = c.content; is = ap (λ (a : ℕ). a ∷ bytes) (eqb-true b q same) ∙ c.is }
unclosed_case q b bytes false false other later e =
    let c : Unclosed q false bytes = later false (longer_none (quoted q false bytes) e) in
    record { content = b ∷ c.content; is = ap (λ (ys : List ℕ). b ∷ ys) c.is ∙ sym (spelled-other q b c.content other) }

pub quoted_open_so : (q : ℕ) (xs : List ℕ) (odd : Bool) → quoted q odd xs ≡ None → Unclosed q odd xs
unfolding quoted
quoted_open_so q [] true e = absurd cc
quoted_open_so q [] false e = record { content = []; is = refl }
quoted_open_so q (b ∷ bytes) odd e = unclosed_case q b bytes odd (eqb b q) refl (λ o none. quoted_open_so q bytes o none) e

-- ---- star comments

-- a star and a slash at the end, and nowhere before
pub record Ended (star : Bool) (xs : List ℕ) (n : ℕ) : Type 0 where
  pub inside : List ℕ
  pub is : lead star ++ take n xs ≡ inside ++ 42 ∷ 47 ∷ []
  pub free : has_end (inside ++ 42 ∷ []) ≡ false

-- a byte more in front brings no end
free_more : (b : ℕ) (ys inside : List ℕ) → b ∷ ys ≡ inside ++ 42 ∷ 47 ∷ [] → has_end (inside ++ 42 ∷ []) ≡ false → (star : Bool) → (star && eqb b 47) ≡ false
    → has_end (lead star ++ (inside ++ 42 ∷ [])) ≡ false
unfolding has_end
free_more b ys inside is free false safe = free
free_more b ys [] is free true safe = refl
free_more b ys (c ∷ inside) is free true safe =
    let head : b ≡ c = cc in
    or_from (eqb c 47) (has_end ((c ∷ inside) ++ 42 ∷ [])) (sym (ap (λ (a : ℕ). eqb a 47) head) ∙ safe) free

-- a byte that is no star begins no end
free_other : (b : ℕ) (xs : List ℕ) → eqb b 42 ≡ false → has_end xs ≡ false → has_end (b ∷ xs) ≡ false
unfolding has_end
free_other b [] e free = refl
free_other b (c ∷ xs) e free = or_from (eqb b 42 && eqb c 47) (has_end (c ∷ xs)) (ap (λ (t : Bool). t && eqb c 47) e) free

lead_first : (star : Bool) (b : ℕ) (ys inside : List ℕ) → b ∷ ys ≡ inside ++ 42 ∷ 47 ∷ [] → lead star ++ (b ∷ ys) ≡ (lead star ++ inside) ++ 42 ∷ 47 ∷ []
lead_first true b ys inside is = ap (λ (xs : List ℕ). 42 ∷ xs) is
lead_first false b ys inside is = is

lead_free : (star : Bool) (inside : List ℕ) → has_end (lead star ++ (inside ++ 42 ∷ [])) ≡ false → has_end ((lead star ++ inside) ++ 42 ∷ []) ≡ false
lead_free true inside h = h
lead_free false inside h = h

ended_from : (star : Bool) (b : ℕ) (bytes : List ℕ) (m : ℕ) (inside : List ℕ) → b ∷ take m bytes ≡ inside ++ 42 ∷ 47 ∷ [] → has_end (inside ++ 42 ∷ []) ≡ false → (star && eqb b 47) ≡ false
    → Ended star (b ∷ bytes) (suc m)
ended_from star b bytes m inside is free safe = record {
  inside = lead star ++ inside;
  is = lead_first star b (take m bytes) inside is;
  free = lead_free star inside (free_more b (take m bytes) inside is free star safe);
}

ended_later : (star : Bool) (b : ℕ) (bytes : List ℕ) (m : ℕ) (t : Bool) → eqb b 42 ≡ t → (star && eqb b 47) ≡ false → Ended t bytes m → Ended star (b ∷ bytes) (suc m)
ended_later star b bytes m true same safe c =
    ended_from star b bytes m c.inside (ap (λ (a : ℕ). a ∷ take m bytes) (eqb-true b 42 same) ∙ c.is) c.free safe
ended_later star b bytes m false other safe c =
    ended_from star b bytes m (b ∷ c.inside) (ap (λ (xs : List ℕ). b ∷ xs) c.is) (free_other b (c.inside ++ 42 ∷ []) other c.free) safe

end_free : has_end (42 ∷ []) ≡ false
unfolding has_end
end_free = refl

ended_case : (star : Bool) (b : ℕ) (bytes : List ℕ) (n : ℕ) (s : Bool) → (star && eqb b 47) ≡ s → ((m : ℕ) → starred (eqb b 42) bytes ≡ Some m → Ended (eqb b 42) bytes m)
    → cond s (Some 1) (longer (starred (eqb b 42) bytes)) ≡ Some n → Ended star (b ∷ bytes) n
ended_case true b bytes n true slash later e =
    let one_is : 1 ≡ n = some_is 1 n e in
    subst (λ (k : ℕ). Ended true (b ∷ bytes) k) one_is (record { inside = []; is = ap (λ (a : ℕ). let l : List ℕ = 42 ∷ a ∷ [] in l) (eqb-true b 47 slash); free = end_free })
ended_case false b bytes n true slash later e = absurd cc
ended_case star b bytes n false safe later e =
    let found = longer_some (starred (eqb b 42) bytes) n e in
    let m : ℕ = found.0 in
    subst (λ (k : ℕ). Ended star (b ∷ bytes) k) (sym found.2) (ended_later star b bytes m (eqb b 42) refl safe (later m found.1))

pub starred_so : (xs : List ℕ) (star : Bool) (n : ℕ) → starred star xs ≡ Some n → Ended star xs n
unfolding starred
starred_so [] star n e = absurd cc
starred_so (b ∷ bytes) star n e = ended_case star b bytes n (star && eqb b 47) refl (λ m found. starred_so bytes (eqb b 42) m found) e

free_case : (star : Bool) (b : ℕ) (bytes : List ℕ) (t : Bool) → eqb b 42 ≡ t → (star && eqb b 47) ≡ false → has_end (lead t ++ bytes) ≡ false → has_end (lead star ++ (b ∷ bytes)) ≡ false
unfolding has_end
free_case true b bytes true same safe h = or_from (eqb b 47) (has_end (b ∷ bytes)) safe (subst (λ (c : ℕ). has_end (c ∷ bytes) ≡ false) (sym (eqb-true b 42 same)) h)
free_case false b bytes true same safe h = subst (λ (c : ℕ). has_end (c ∷ bytes) ≡ false) (sym (eqb-true b 42 same)) h
free_case true b bytes false other safe h = or_from (eqb b 47) (has_end (b ∷ bytes)) safe (free_other b bytes other h)
free_case false b bytes false other safe h = free_other b bytes other h

none_case : (star : Bool) (b : ℕ) (bytes : List ℕ) (s : Bool) → (star && eqb b 47) ≡ s → cond s (Some 1) (longer (starred (eqb b 42) bytes)) ≡ None
    → ((star && eqb b 47) ≡ false) × (starred (eqb b 42) bytes ≡ None)
none_case star b bytes true slash e = absurd cc
none_case star b bytes false safe e = (safe, longer_none (starred (eqb b 42) bytes) e)

pub starred_open_so : (xs : List ℕ) (star : Bool) → starred star xs ≡ None → has_end (lead star ++ xs) ≡ false
unfolding starred has_end
starred_open_so [] true e = refl
starred_open_so [] false e = refl
starred_open_so (b ∷ bytes) star e =
    let found = none_case star b bytes (star && eqb b 47) refl e in
    free_case star b bytes (eqb b 42) refl found.0 (starred_open_so bytes (eqb b 42) found.1)
