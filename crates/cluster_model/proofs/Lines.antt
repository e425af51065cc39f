-- Logs as sessions see them, entry by entry.
use Rattle.std.proofs.Common.{◌≡◌, ℕ, zero, suc, ◌-◌, ◌<◌, ◌≤◌, Bool, List, [], ◌∷◌, ◌++◌, length, take, refl, sym, ap, ◌∙◌, arith}
use Rattle.std.specs.Prelude.{slice_get, Some, None}
use Rattle.std.proofs.lemmas.List.{length-map, take-map, map-append}
use Rattle.std.proofs.lemmas.Option.{slice_get_within}
use Rattle.dq_base.specs.declared.pages.NumberedPage.{NumberedPage}
use Rattle.session_spec.specs.Entries.{Entry as Line}
use Rattle.session_spec.specs.Seen.{entry_seen, log_seen}
use Rattle.session_safety.specs.Woven.{Bears, Woven}
use Rattle.raft_spec.specs.Log.{Entry, term_at, nth_term}
use Rattle.raft_safety.proofs.Logs.{term_at-suc}

pub size_of : (xs : List Entry) → length (log_seen xs) ≡ length xs
size_of xs = length-map xs entry_seen

pub seen_take : (k : ℕ) (xs : List Entry) → take k (log_seen xs) ≡ log_seen (take k xs)
seen_take k xs = take-map entry_seen k xs

pub seen_append : (xs ys : List Entry) → log_seen (xs ++ ys) ≡ log_seen xs ++ log_seen ys
seen_append xs ys = map-append entry_seen xs ys

pub seen_agree : (e : ℕ) (xs ys : List Entry) → take e xs ≡ take e ys → take e (log_seen xs) ≡ take e (log_seen ys)
seen_agree e xs ys h = seen_take e xs ∙ ap log_seen h ∙ sym (seen_take e ys)

pub get_front : (n : ℕ) (xs : List Line) (k : ℕ) → k < n → slice_get (take n xs) k ≡ slice_get xs k
get_front zero xs k h = absurd (omega arith)
get_front (suc n) [] k h = refl
get_front (suc n) (x ∷ xs) zero h = refl
get_front (suc n) (x ∷ xs) (suc k) h = get_front n xs k (omega arith)

-- a log that agrees with another up to an index
pub bears_along : (i j : ℕ) (name : List ℕ) (tx : ℕ) (b : Bool) (term : ℕ) (pages : List NumberedPage) (xs ys : List Line) → 0 < i → i ≤ j → take j xs ≡ take j ys → Bears xs i name tx b term pages → Bears ys i name tx b term pages
bears_along i j name tx b term pages xs ys pos h e a = record { truncate = a.truncate; is = sym (get_front j ys (i - 1) (omega arith)) ∙ ap (λ l. slice_get l (i - 1)) (sym e) ∙ get_front j xs (i - 1) (omega arith) ∙ a.is }

nth_seen : (xs : List Entry) (k : ℕ) (x : Line) → slice_get (log_seen xs) k ≡ Some x → nth_term xs k ≡ x.term
nth_seen [] k x e = absurd cc
nth_seen (y ∷ ys) zero x e = ap (λ (z : Line). z.term) (some_is y x e)
  where
    some_is : (y : Entry) (x : Line) → Some (entry_seen y) ≡ Some x → entry_seen y ≡ x
    some_is y x e = cc
nth_seen (y ∷ ys) (suc k) x e = nth_seen ys k x e

pub bears_term : (xs : List Entry) (i : ℕ) (name : List ℕ) (tx : ℕ) (b : Bool) (term : ℕ) (pages : List NumberedPage) → 0 < i → Bears (log_seen xs) i name tx b term pages → term_at xs i ≡ term
bears_term xs i name tx b term pages pos a =
    let e : suc (i - 1) ≡ i = omega arith in
    ap (term_at xs) (sym e) ∙ term_at-suc xs (i - 1) ∙ nth_seen xs (i - 1) _ a.is

pub bears_within : (xs : List Entry) (i : ℕ) (name : List ℕ) (tx : ℕ) (b : Bool) (term : ℕ) (pages : List NumberedPage) → 0 < i → Bears (log_seen xs) i name tx b term pages → i ≤ length xs
bears_within xs i name tx b term pages pos a =
    let h = slice_get_within (log_seen xs) (i - 1) _ a.is in
    let size = size_of xs in
    omega arith

pub no_entries : Woven []
no_entries = record { at = λ i name tx term b pages pos x. absurd (none_some x.is) }
  where
    none_some : {A : Type 0} {x : A} → None ≡ Some x → ⊥
    none_some e = cc
